-- Looking a name up in a log of files.
use Rattle.std.proofs.Common.{◌≡◌, ℕ, List, ◌∷◌, map, Bool, cond, Some, nat_eq, ap, sym, ◌∙◌}
use Rattle.std.specs.Ordering.{nat_cmp}
use Rattle.std.specs.Cmp.Lexicographic.{slice_cmp, texts_ties, pointwise}
use Rattle.std.specs.FinMap.{find}
use Rattle.ac_port.specs.declared.mem_files.Entry.{Entry}
use Rattle.ac_port.specs.Log.{named_bytes}

-- the first entry answers if it has the name, and else the rest does
pub find-entry : (name : List ℕ) (entry : Entry) (log : List Entry) (same : Bool) → same ≡ pointwise nat_eq name entry.name.items
    → find (slice_cmp nat_cmp) name (map named_bytes (entry ∷ log)) ≡ cond same (Some entry.bytes.items) (find (slice_cmp nat_cmp) name (map named_bytes log))
find-entry name entry log same is = ap (λ b. cond b (Some entry.bytes.items) (find (slice_cmp nat_cmp) name (map named_bytes log))) (sym (is ∙ texts_ties name entry.name.items))
