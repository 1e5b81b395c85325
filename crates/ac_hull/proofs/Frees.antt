-- Whether a column is free, row by row.
use Rattle.std.proofs.Common.{◌≡◌, ℕ, ◌+◌, ◌<◌, ◌≤◌, ◌==◌, List, [], ◌∷◌, length, drop, get_or, Bool, true, false, cond, refl, arith, ◌∙◌, ap}
use Rattle.std.proofs.lemmas.List.{drop_more, drop_all}
use Rattle.std.proofs.lemmas.Bool.{eqb-true, eqb-false, eq-eqb}
use Rattle.ac_hull.specs.FractionFreeElimination.{column_of}
use Rattle.ac_hull.specs.Equalities.{is_free}
use Rattle.ac_hull.proofs.FreeColumns.{IsFree}
use Rattle.ac_hull.specs.declared.line.Line.{Line}

pub record FreeHalfway (ls : List Line) (z : ℕ) (i : ℕ) : Type 0 where
  pub room : i ≤ length ls
  pub value : is_free ls z ≡ is_free (drop i ls) z

pub free_start : (ls : List Line) (z : ℕ) → FreeHalfway ls z 0
free_start ls z = record { room = omega arith; value = refl }

free_other : (l : Line) (ls : List Line) (z : ℕ) (b : Bool) → (column_of l == z) ≡ b → ¬ (column_of l ≡ z) → is_free (l ∷ ls) z ≡ is_free ls z
free_other l ls z true e n = absurd (n (eqb-true (column_of l) z e))
free_other l ls z false e n = rw e refl

free_here : (l : Line) (ls : List Line) (z : ℕ) → column_of l ≡ z → is_free (l ∷ ls) z ≡ false
free_here l ls z e = let b : (column_of l == z) ≡ true = eq-eqb (column_of l) z e in rw b refl

pub free_step : (ls : List Line) (z : ℕ) (i : ℕ) (l : Line) → FreeHalfway ls z i → i < length ls → l ≡ get_or ls i l → ¬ (column_of l ≡ z) → FreeHalfway ls z (i + 1)
free_step ls z i l h m e n =
    let d : drop i ls ≡ l ∷ drop (i + 1) ls = rw e (drop_more ls i l m) in
    record { room = omega arith; value = h.value ∙ ap (λ t. is_free t z) d ∙ free_other l (drop (i + 1) ls) z (column_of l == z) refl n }

pub free_found : (ls : List Line) (z : ℕ) (i : ℕ) (l : Line) → FreeHalfway ls z i → i < length ls → l ≡ get_or ls i l → column_of l ≡ z → is_free ls z ≡ false
free_found ls z i l h m e is =
    let d : drop i ls ≡ l ∷ drop (i + 1) ls = rw e (drop_more ls i l m) in
    h.value ∙ ap (λ t. is_free t z) d ∙ free_here l (drop (i + 1) ls) z is

pub free_end : (ls : List Line) (z : ℕ) (i : ℕ) → FreeHalfway ls z i → length ls ≤ i → is_free ls z ≡ true
free_end ls z i h m = h.value ∙ ap (λ t. is_free t z) (drop_all i ls m)

pub ruleset free_steps = (free_start, free_step, free_found, free_end)

-- the test says whether the column is free
not_free : (l : Line) (ls : List Line) (z : ℕ) (b : Bool) → (column_of l == z) ≡ b → (is_free ls z ≡ true → IsFree ls z) → cond b false (is_free ls z) ≡ true → IsFree (l ∷ ls) z
not_free l ls z true f h g = absurd cc
not_free l ls z false f h g = (eqb-false (column_of l) z f, h g)

pub true_free : (ls : List Line) (z : ℕ) → is_free ls z ≡ true → IsFree ls z
true_free [] z e = tt
true_free (l ∷ ls) z e = not_free l ls z (column_of l == z) refl (true_free ls z) e

pub free_true : (ls : List Line) (z : ℕ) → IsFree ls z → is_free ls z ≡ true
free_true [] z h = refl
free_true (l ∷ ls) z h = free_other l ls z (column_of l == z) refl h.0 ∙ free_true ls z h.1
