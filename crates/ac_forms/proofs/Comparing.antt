-- Comparing two lists of coefficients, column by column.
use Rattle.std.proofs.Common.{◌≡◌, ◌≢◌, ℕ, ◌+◌, ◌<◌, ◌≤◌, max, ℤ, pos, List, [], ◌∷◌, length, drop, get_or, arith, refl, ap, ◌∙◌, int_cmp, add-zero}
use Rattle.std.proofs.lemmas.List.{length-drop, get_or-drop, drop-drop, drop_all}
use Rattle.std.specs.declared.cmp.Ordering.{Ordering}
use Rattle.std.specs.declared.cmp.Ordering.TheVariants.{Less, Equal, Greater}
use Rattle.std.specs.Ordering.{ordering_then, ordering_index}
use Rattle.ac_forms.specs.FormOrder.{columns_cmp}

compare_head : (a b : List ℤ) → 0 < max (length a) (length b) → columns_cmp a b ≡ ordering_then (int_cmp (get_or a 0 (pos 0)) (get_or b 0 (pos 0))) (columns_cmp (drop 1 a) (drop 1 b))
compare_head [] [] h = absurd (omega arith)
compare_head [] (y ∷ ys) h = refl
compare_head (x ∷ xs) [] h = refl
compare_head (x ∷ xs) (y ∷ ys) h = refl

pub compare_at : (a b : List ℤ) (i : ℕ) → i < max (length a) (length b)
    → columns_cmp (drop i a) (drop i b) ≡ ordering_then (int_cmp (get_or a i (pos 0)) (get_or b i (pos 0))) (columns_cmp (drop (i + 1) a) (drop (i + 1) b))
compare_at a b i h =
    simp (get_or-drop, drop-drop, add-zero) at (compare_head (drop i a) (drop i b) (omega (arith, length-drop i a, length-drop i b)))

then_kept : (o p : Ordering) → (o ≡ Equal → ⊥) → ordering_then o p ≡ o
then_kept Less p h = refl
then_kept Equal p h = absurd (h refl)
then_kept Greater p h = refl

pub compare_on : (a b : List ℤ) (i : ℕ) (o : Ordering) → columns_cmp a b ≡ columns_cmp (drop i a) (drop i b) → i < max (length a) (length b)
    → o ≡ int_cmp (get_or a i (pos 0)) (get_or b i (pos 0)) → o ≡ Equal → columns_cmp a b ≡ columns_cmp (drop (i + 1) a) (drop (i + 1) b)
compare_on a b i o h l e t = h ∙ compare_at a b i l ∙ rw (← e, t) refl

pub compare_found : (a b : List ℤ) (i : ℕ) (o : Ordering) → columns_cmp a b ≡ columns_cmp (drop i a) (drop i b) → i < max (length a) (length b)
    → o ≡ int_cmp (get_or a i (pos 0)) (get_or b i (pos 0)) → (o ≡ Equal → ⊥) → o ≡ columns_cmp a b
compare_found a b i o h l e t = rw (h, compare_at a b i l, ← e, then_kept o _ t) refl

pub compare_end : (a b : List ℤ) (i : ℕ) → columns_cmp a b ≡ columns_cmp (drop i a) (drop i b) → max (length a) (length b) ≤ i → Equal ≡ columns_cmp a b
compare_end a b i h l = rw (h, drop_all i a (omega arith), drop_all i b (omega arith)) refl

pub ruleset compare_steps = (compare_on, compare_found, compare_end)
