-- What the loop over a range of numbers keeps.
use Rattle.std.proofs.Common.{◌≡◌, ℕ, zero, suc, ◌+◌, List, [], ◌∷◌, ◌++◌, refl, sym, ap, ◌∙◌, arith, append_assoc, append-nil}
use Rattle.std.specs.List.{range_with_len}

-- a range with one more
range_suc : (first k : ℕ) → range_with_len first (suc k) ≡ range_with_len first k ++ (first + k) ∷ []
range_suc first zero = let e : first + 0 ≡ first = omega arith in rw e refl
range_suc first (suc k) =
    let e : first + 1 + k ≡ first + suc k = omega arith in
    ap (λ r. first ∷ r) (range_suc (first + 1) k) ∙ ap (λ j. first ∷ (range_with_len (first + 1) k ++ j ∷ [])) e

pub range_more : (first k : ℕ) → range_with_len first (k + 1) ≡ range_with_len first k ++ (first + k) ∷ []
range_more first k = let e : k + 1 ≡ suc k = omega arith in ap (range_with_len first) e ∙ range_suc first k

pub record Ranged (old : List ℕ) (first k : ℕ) (list : List ℕ) : Type 0 where
  pub value : list ≡ old ++ range_with_len first k

pub ranged_start : (old : List ℕ) (first : ℕ) → Ranged old first 0 old
ranged_start old first = record { value = sym (append-nil old) }

pub ranged_next : (old : List ℕ) (first k : ℕ) (list new : List ℕ) (column : ℕ) → Ranged old first k list → column ≡ first + k → new ≡ list ++ column ∷ [] → Ranged old first (k + 1) new
ranged_next old first k list new column h c n = record {
  value = n ∙ (λ j. h.value j ++ c j ∷ []) ∙ append_assoc old (range_with_len first k) ((first + k) ∷ []) ∙ ap (λ r. old ++ r) (sym (range_more first k));
}

pub ranged_end : (old : List ℕ) (first count k : ℕ) (list : List ℕ) → Ranged old first k list → k ≡ count → list ≡ old ++ range_with_len first count
ranged_end old first count k list h e = h.value ∙ ap (λ j. old ++ range_with_len first j) e

pub ruleset range_steps = (ranged_start, ranged_next, ranged_end)
