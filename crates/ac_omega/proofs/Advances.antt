-- The choices of a column, one at a time.
use Rattle.std.proofs.Common.{◌≡◌, ℕ, suc, ◌+◌, ◌-◌, ◌<◌, ℤ, pos, List, [], ◌∷◌, ◌++◌, drop, length, get_or, Option, Some, None, Bool, true, false, cond, ◌||◌, ◌≤ℤ◌, arith, refl, add-one, ap, sym, ◌∙◌}
use Rattle.std.specs.Prelude.{unsigned_abs, IfSome}
use Rattle.ac_forms.specs.declared.row.Row.{Row}
use Rattle.ac_forms.specs.Fits.{Fits, fits}
use Rattle.ac_forms.proofs.Twins.{fits-is}
use Rattle.ac_omega_steps.specs.declared.choose.Choice.TheVariants as choice
use Rattle.ac_forms.specs.Affine.{Affine, coef}
use Rattle.ac_forms.specs.declared.row.Row.TheVariants.{Eq, Div, Ge}
use Rattle.ac_omega_steps.specs.Bounds.{is_low, low_bound, is_one_sided, highs}
use Rattle.ac_omega_steps.specs.ChoiceFits.{sizes_fit}
use Rattle.ac_omega_certify.specs.Alternatives.{Alternatives, first_equality, has_divisibility, common_modulus, alternatives_for, residues_from, splinters_from, splinters_by, splinters_of, splinters, greatest_size, need_of, last_splinter_fits, last_splinter, count_to}
use Rattle.ac_omega_exact.specs.ExactnessTests.{economical, is_exact, pairs_fit}
use Rattle.ac_omega_exact.proofs.Implying.{failing-some}
use Rattle.ac_omega.specs.ColumnChoice.{count_for, count_of}
use Rattle.ac_omega.specs.Cursors.{IsNext}
use Rattle.ac_omega.proofs.SplinterRows.{row_splinters}
use Rattle.ac_omega.proofs.Sides.{greatest-one}
use Rattle.ac_omega.specs.declared.cursor.Next.{Next}
use Rattle.ac_omega.proofs.Moduli.{drop-at}
use Rattle.ac_omega_certify.specs.declared.strategy.Strategy.{Strategy}
use Rattle.ac_omega_certify.specs.declared.strategy.Strategy.TheVariants.{Full, Economical}

pub first-equal : (strategy : Strategy) (z i : ℕ) (rows : List Row) → Some i ≡ first_equality z 0 rows → Some (choice.Equal z i) ∷ [] ≡ alternatives_for strategy z rows
unfolding alternatives_for
first-equal strategy z i rows e = rw (← e) refl

pub first-residues : (strategy : Strategy) (z : ℕ) (rows : List Row) (m : ℤ) → None ≡ first_equality z 0 rows → true ≡ has_divisibility z rows → Fits (pos (common_modulus z 1 rows)) → m ≡ pos (common_modulus z 1 rows)
    → residues_from (unsigned_abs m - 0) z m 0 ≡ alternatives_for strategy z rows
unfolding alternatives_for
first-residues strategy z rows m e d f is =
    let s : common_modulus z 1 rows - 0 ≡ common_modulus z 1 rows = omega arith in
    rw (is, ← e, ← d, (fits-is (pos (common_modulus z 1 rows))).1 f, s) refl

pub first-wide : (strategy : Strategy) (z : ℕ) (rows : List Row) → None ≡ first_equality z 0 rows → true ≡ has_divisibility z rows → ¬ (Fits (pos (common_modulus z 1 rows))) → None ∷ [] ≡ alternatives_for strategy z rows
unfolding alternatives_for
first-wide strategy z rows e d f = rw (← e, ← d) (by (fits (pos (common_modulus z 1 rows))) refl)
  where
    by : (t : Bool) → fits (pos (common_modulus z 1 rows)) ≡ t → None ∷ [] ≡ cond t (residues_from (common_modulus z 1 rows) z (pos (common_modulus z 1 rows)) 0) (None ∷ [])
    by true g = absurd (f ((fits-is (pos (common_modulus z 1 rows))).0 g))
    by false g = refl

pub first-drop : (strategy : Strategy) (z : ℕ) (rows : List Row) → None ≡ first_equality z 0 rows → false ≡ has_divisibility z rows → true ≡ is_one_sided z rows → Some (choice.Drop z) ∷ [] ≡ alternatives_for strategy z rows
unfolding alternatives_for
first-drop strategy z rows e d o = rw (← e, ← d, ← o) refl

pub first-shadow : (strategy : Strategy) (z : ℕ) (rows : List Row) → None ≡ first_equality z 0 rows → false ≡ has_divisibility z rows → false ≡ is_one_sided z rows → Some (choice.Shadow z) ∷ splinters strategy z rows 0 rows ≡ alternatives_for strategy z rows
unfolding alternatives_for
first-shadow strategy z rows e d o = rw (← e, ← d, ← o) refl

-- the splinters of a row, by their number
by-count : (z i : ℕ) (b : ℤ) (need : Option ℤ) → splinters_by need z i b ≡ row_splinters z i (count_for need b)
by-count z i b None = refl
by-count z i b (Some a) = elim (last_splinter_fits a b) as (λ t. cond t (splinters_from (count_to (last_splinter a b)) z i 0) (None ∷ []) ≡ row_splinters z i (cond t (Some (count_to (last_splinter a b))) None)) [ true ↦ refl | false ↦ refl ]

of-count : (strategy : Strategy) (z i : ℕ) (rows : List Row) (r : Row) → splinters_of strategy z rows i r ≡ row_splinters z i (count_of strategy z rows r)
of-count strategy z i rows (Eq f) = refl
of-count strategy z i rows (Div m f) = refl
of-count strategy z i rows (Ge f) = by (is_low z f)
  where
    by : (t : Bool) → cond t (splinters_by (need_of strategy z rows f) z i (coef z f)) [] ≡ row_splinters z i (cond t (count_for (need_of strategy z rows f) (coef z f)) (Some 0))
    by true = by-count z i (coef z f) (need_of strategy z rows f)
    by false = refl

-- the row at a place has these splinters
pub lower-at : (strategy : Strategy) (z i : ℕ) (rows : List Row) (r : Row) (o : Option ℕ) (all : Alternatives) → i < length rows → r ≡ get_or rows i r → all ≡ splinters strategy z rows i (drop i rows) → o ≡ count_of strategy z rows r
    → all ≡ row_splinters z i o ++ splinters strategy z rows (suc i) (drop (suc i) rows)
lower-at strategy z i rows r o all l e is of =
    let d : drop i rows ≡ r ∷ drop (suc i) rows = drop-at rows i r l e ∙ ap (λ j. r ∷ drop j rows) (add-one i) in
    is ∙ ap (splinters strategy z rows i) d ∙ ap (λ xs. xs ++ splinters strategy z rows (suc i) (drop (suc i) rows)) (of-count strategy z i rows r ∙ ap (row_splinters z i) (sym of))

pub next-of : (strategy : Strategy) (z : ℕ) (rows : List Row) (n : Next) (xs ys : Alternatives) → ys ≡ xs → IsNext strategy z rows n xs → IsNext strategy z rows n ys
next-of strategy z rows n xs ys e h = rw e h

pub none-left : (strategy : Strategy) (z i k count : ℕ) (rows : List Row) → (k < count → ⊥) → splinters_from (count - k) z i k ++ splinters strategy z rows (suc i) (drop (suc i) rows) ≡ splinters strategy z rows (i + 1) (drop (i + 1) rows)
none-left strategy z i k count rows h =
    let s : count - k ≡ 0 = omega arith in
    rw (s, add-one i) refl

pub lower-past : (strategy : Strategy) (z i n : ℕ) (rows : List Row) (r : Row) (all : Alternatives) → i < length rows → r ≡ get_or rows i r → all ≡ splinters strategy z rows i (drop i rows) → n ≡ 0 → Some n ≡ count_of strategy z rows r
    → all ≡ splinters strategy z rows (i + 1) (drop (i + 1) rows)
lower-past strategy z i n rows r all l e is none of = lower-at strategy z i rows r (Some 0) all l e is (rw none at of) ∙ ap (λ j. splinters strategy z rows j (drop j rows)) (sym (add-one i))

-- a lower row has its splinters for a size of 1 or more, where rows bound the column from both sides
or-false : (a b : Bool) → (a || b) ≡ false → b ≡ false
or-false true b e = absurd cc
or-false false b e = e

some-where : (t : Bool) (a : ℤ) → pos 1 ≤ℤ a → IfSome (cond t (Some a) None) (λ x. pos 1 ≤ℤ x)
some-where true a h = h
some-where false a h = tt

pub need-some : (strategy : Strategy) (z : ℕ) (rows : List Row) (f : Affine) → is_one_sided z rows ≡ false → IfSome (need_of strategy z rows f) (λ a. pos 1 ≤ℤ a)
need-some Full z rows f e = some-where (sizes_fit (highs z rows)) (greatest_size (highs z rows)) (greatest-one z rows e)
need-some Economical z rows f e = some-where (pairs_fit (low_bound z f) (highs z rows)) (economical z rows f) (failing-some (is_exact z rows (low_bound z f)) (highs z rows))
