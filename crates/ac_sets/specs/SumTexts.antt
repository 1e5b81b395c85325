-- Terms of a sum that stand behind others.
use Rattle.std.specs.Prelude.{ℕ, Bool, true, List, [], ◌∷◌, ◌++◌, codes, if◌then◌else◌}
use Rattle.ac_sets.specs.SetTexts.{Term, first_text, further_text}

-- a term, where others stand before it or where it is the first
abbrev pub next_text : Bool → Term → List ℕ
next_text any t = if any then further_text t else first_text t

abbrev pub continued : Bool → List Term → List ℕ
continued any [] = []
continued any (t ∷ ts) = next_text any t ++ continued true ts

abbrev pub has_terms : Bool → List Term → Bool
has_terms any [] = any
has_terms any (t ∷ ts) = true
