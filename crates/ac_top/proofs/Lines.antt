-- Lines of outputs, one after another, and the names of arrays.
use Rattle.std.proofs.Common.{◌≡◌, ℕ, zero, suc, ◌+◌, ◌<◌, List, [], ◌∷◌, ◌++◌, length, take, slice_index_or, slice_get, Option, None, Some, refl, sym, ap, ◌∙◌}
use Rattle.std.proofs.lemmas.List.{append_assoc, append-nil, take_more}
use Rattle.ac_syntax.specs.declared.tree.Array.{Array}
use Rattle.ac_top.specs.ConsoleLines.{name_at, accepted_line, accepted_lines}

abbrev pub name_in : Option Array → List ℕ
name_in None = []
name_in (Some a) = a.name

pub name_is : (arrays : List Array) (k : ℕ) → name_at arrays k ≡ name_in (slice_get arrays k)
name_is [] k = refl
name_is (a ∷ rest) zero = refl
name_is (a ∷ rest) (suc k) = name_is rest k

-- the pieces of a line with a differing element, put together
pub different_text : (old name words element : List ℕ) → ((old ++ name) ++ words ++ element) ++ 10 ∷ [] ≡ old ++ ((name ++ words ++ element) ++ 10 ∷ [])
different_text old name words element =
    ap (λ l. (l ++ element) ++ 10 ∷ []) (append_assoc old name words) ∙ ap (λ l. l ++ 10 ∷ []) (append_assoc old (name ++ words) element) ∙ append_assoc old (name ++ words ++ element) (10 ∷ [])

-- the line of one more output of an accepted proof
pub one_more_accepted : (arrays : List Array) (os : List ℕ) (o : ℕ) → accepted_lines arrays (os ++ o ∷ []) ≡ accepted_lines arrays os ++ accepted_line (name_at arrays o)
one_more_accepted arrays [] o = append-nil (accepted_line (name_at arrays o))
one_more_accepted arrays (p ∷ ps) o =
    ap (λ l. accepted_line (name_at arrays p) ++ l) (one_more_accepted arrays ps o)
    ∙ sym (append_assoc (accepted_line (name_at arrays p)) (accepted_lines arrays ps) (accepted_line (name_at arrays o)))

pub further_accepted : (arrays : List Array) (os : List ℕ) (i : ℕ) → i < length os → accepted_lines arrays (take (i + 1) os) ≡ accepted_lines arrays (take i os) ++ accepted_line (name_at arrays (slice_index_or os i 0))
further_accepted arrays os i within = ap (accepted_lines arrays) (take_more os i 0 within) ∙ one_more_accepted arrays (take i os) (slice_index_or os i 0)

-- the pieces of the line of a run, put together
pub ran_text : (head found comma number tail : List ℕ) → head ++ found ++ comma ++ number ++ (tail ++ 10 ∷ []) ≡ head ++ found ++ comma ++ number ++ tail ++ 10 ∷ []
ran_text head found comma number tail = sym (append_assoc (head ++ found ++ comma ++ number) tail (10 ∷ []))
