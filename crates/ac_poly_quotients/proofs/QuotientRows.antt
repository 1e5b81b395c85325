-- The rows of quotients hold exactly at their values.
use Rattle.std.proofs.Common.{◌≡◌, ◌↔◌, ℕ, suc, ◌+◌, ◌≤◌, ℤ, pos, negsuc, neg_ℤ, ◌+ℤ◌, ◌-ℤ◌, ◌*ℤ◌, ◌≤ℤ◌, ◌<ℤ◌, List, [], ◌∷◌, ◌++◌, length, get_or, refl, sym, ap, ◌∙◌, subst, arith, length-append, append_assoc}
use Rattle.std.specs.Int.{int_div_euclid}
use Rattle.std.proofs.lemmas.Int.{ints}
use Rattle.std.proofs.Math.Seq.{get_or-append_seam}
use Rattle.ac_base.proofs.Floor.{floor_low, floor_high, floor_unique}
use Rattle.ac_base.proofs.Products.{neg-mul_ℤ}
use Rattle.ac_forms.specs.Affine.{value_at, column_form, combined}
use Rattle.ac_forms.specs.Rows.{Meets, Holds, AreRowsOver}
use Rattle.ac_forms.specs.declared.row.Row.TheVariants.{Ge}
use Rattle.ac_forms.proofs.Values.{value_at-combined, value_at-shifted, value_at-append}
use Rattle.ac_poly_quotients.proofs.FormValues.{column-value}
use Rattle.ac_poly_quotients.proofs.FormValues.{narrow-column, length-mix}
use Rattle.ac_poly_quotients.specs.QuotientRows.{rounded_at, quotients_at, rest_form, spare_form, quotient_rows, AreMade, HaveDivisors, AreValues}
use Rattle.ac_poly_quotients.specs.declared.types.Rounded.{Rounded}

pub both_ways : (a b : ℤ) → a ≤ℤ b → b ≤ℤ a → a ≡ b
both_ways a b h k = omega (arith, ints)

-- the two rows as bounds, y for the divisor times the quotient
from_below : (e y v : ℤ) → v ≡ pos 1 *ℤ e +ℤ neg_ℤ y → (pos 0 ≤ℤ v) ↔ (y ≤ℤ e)
from_below e y v i = ((λ h. omega (arith, ints, i, h)), (λ h. omega (arith, ints, i, h)))

from_above : (e y c v : ℤ) → v ≡ y +ℤ negsuc 0 *ℤ e +ℤ (c -ℤ pos 1) → (pos 0 ≤ℤ v) ↔ (e <ℤ (y +ℤ c))
from_above e y c v i = ((λ h. omega (arith, ints, i, h)), (λ h. omega (arith, ints, i, h)))

pub value-rest : (k : ℕ) (q : Rounded) (p : List ℤ) → value_at (rest_form k q) p ≡ pos 1 *ℤ value_at q.form p +ℤ neg_ℤ (q.div *ℤ get_or p k (pos 0))
value-rest k q p =
    value_at-combined (pos 1) q.form (neg_ℤ q.div) (column_form (k + 1) k) p
    ∙ ap (λ (x : ℤ). pos 1 *ℤ value_at q.form p +ℤ neg_ℤ q.div *ℤ x) (column-value k p)
    ∙ ap (λ (x : ℤ). pos 1 *ℤ value_at q.form p +ℤ x) (neg-mul_ℤ q.div (get_or p k (pos 0)))

pub value-spare : (k : ℕ) (q : Rounded) (p : List ℤ) → value_at (spare_form k q) p ≡ q.div *ℤ get_or p k (pos 0) +ℤ negsuc 0 *ℤ value_at q.form p +ℤ (q.div -ℤ pos 1)
value-spare k q p =
    value_at-shifted (combined q.div (column_form (k + 1) k) (negsuc 0) q.form) (q.div -ℤ pos 1) p
    ∙ ap (λ (x : ℤ). x +ℤ (q.div -ℤ pos 1)) (value_at-combined q.div (column_form (k + 1) k) (negsuc 0) q.form p
    ∙ ap (λ (x : ℤ). q.div *ℤ x +ℤ negsuc 0 *ℤ value_at q.form p) (column-value k p))

-- the two rows of one quotient
pub two_rows : (k : ℕ) (q : Rounded) (p : List ℤ) → pos 1 ≤ℤ q.div → (Holds (Ge (rest_form k q)) p × Holds (Ge (spare_form k q)) p) ↔ (get_or p k (pos 0) ≡ rounded_at q p)
two_rows k q p h =
    let e = value_at q.form p in
    let x = get_or p k (pos 0) in
    let low = from_below e (q.div *ℤ x) (value_at (rest_form k q) p) (value-rest k q p) in
    let high = from_above e (q.div *ℤ x) q.div (value_at (spare_form k q) p) (value-spare k q p) in (
      (λ m. floor_unique e q.div x h (low.0 m.0) (high.0 m.1)),
      (λ i. (low.1 (subst (λ (y : ℤ). (q.div *ℤ y) ≤ℤ e) (sym i) (floor_low e q.div h)), high.1 (subst (λ (y : ℤ). e <ℤ (q.div *ℤ y +ℤ q.div)) (sym i) (floor_high e q.div h)))),
    )

-- the rows of all of them, at any point
pub rows_are_values : (k : ℕ) (qs : List Rounded) (p : List ℤ) → HaveDivisors qs → Meets (quotient_rows k qs) p ↔ AreValues k qs p
rows_are_values k [] p h = ((λ x. x), (λ x. x))
rows_are_values k (q ∷ qs) p h =
    let a = two_rows k q p h.0 in
    let b = rows_are_values (k + 1) qs p h.1 in
    ((λ m. (a.0 (m.0, m.1.0), b.0 m.1.1)), (λ v. let t = a.1 v.0 in (t.0, (t.1, b.1 v.1))))

pub have_divisors : (k : ℕ) (qs : List Rounded) → AreMade k qs → HaveDivisors qs
have_divisors k [] h = tt
have_divisors k (q ∷ qs) h = (h.1, have_divisors (k + 1) qs h.2)

pub rounded-append : (q : Rounded) (p more : List ℤ) → length q.form.coefs ≤ length p → rounded_at q (p ++ more) ≡ rounded_at q p
rounded-append q p more h = ap (λ (z : ℤ). int_div_euclid z q.div) (value_at-append q.form p more h)

pub length-quotients : (qs : List Rounded) (p : List ℤ) → length (quotients_at qs p) ≡ length qs
length-quotients [] p = refl
length-quotients (q ∷ qs) p = ap suc (length-quotients qs (p ++ rounded_at q p ∷ []))

pub values_are : (k : ℕ) (qs : List Rounded) (p xs : List ℤ) → length p ≡ k → length xs ≡ length qs → AreMade k qs → AreValues k qs (p ++ xs) ↔ (xs ≡ quotients_at qs p)
values_are k [] p [] e l h = ((λ _. refl), (λ _. tt))
values_are k [] p (x ∷ xs) e l h = absurd (omega arith)
values_are k (q ∷ qs) p [] e l h = absurd (omega arith)
values_are k (q ∷ qs) p (x ∷ xs) e l h =
    let here : get_or (p ++ x ∷ xs) k (pos 0) ≡ x = subst (λ (n : ℕ). get_or (p ++ x ∷ xs) n (pos 0) ≡ x) e (get_or-append_seam p x xs (pos 0)) in
    let value : rounded_at q (p ++ x ∷ xs) ≡ rounded_at q p = rounded-append q p (x ∷ xs) (omega (arith, h.0, e)) in
    let again = values_are (k + 1) qs (p ++ x ∷ []) xs (length-append p (x ∷ []) ∙ ap (λ n. n + 1) e) (omega arith) h.2 in
    let whole : (p ++ x ∷ []) ++ xs ≡ p ++ x ∷ xs = append_assoc p (x ∷ []) xs in
    let rest : AreValues (k + 1) qs (p ++ x ∷ xs) ↔ (xs ≡ quotients_at qs (p ++ x ∷ [])) = rw whole at again in (
      (λ v.
          let first : x ≡ rounded_at q p = sym here ∙ v.0 ∙ value in
          let behind : xs ≡ quotients_at qs (p ++ rounded_at q p ∷ []) = rest.0 v.1 ∙ ap (λ (y : ℤ). quotients_at qs (p ++ y ∷ [])) first in
          λ i. first i ∷ behind i),
      (λ i.
          let first : x ≡ rounded_at q p = cc in
          let behind : xs ≡ quotients_at qs (p ++ rounded_at q p ∷ []) = cc in
          (here ∙ first ∙ sym value, rest.1 (behind ∙ ap (λ (y : ℤ). quotients_at qs (p ++ y ∷ [])) (sym first)))),
    )

-- behind a point, the rows of quotients hold exactly at their values
pub quotient_rows_hold : (k : ℕ) (qs : List Rounded) (p xs : List ℤ) → length p ≡ k → length xs ≡ length qs → AreMade k qs → Meets (quotient_rows k qs) (p ++ xs) ↔ (xs ≡ quotients_at qs p)
quotient_rows_hold k qs p xs e l h =
    let a = rows_are_values k qs (p ++ xs) (have_divisors k qs h) in
    let b = values_are k qs p xs e l h in
    ((λ m. b.0 (a.0 m)), (λ i. a.1 (b.1 i)))

-- they have no columns but those before and their own
pub quotient_rows-over : (k n : ℕ) (qs : List Rounded) → k + length qs ≤ n → AreMade k qs → AreRowsOver n (quotient_rows k qs)
quotient_rows-over k n [] l h = tt
quotient_rows-over k n (q ∷ qs) l h =
    let c = narrow-column k in (
      (omega (arith, length-mix (pos 1) q.form.coefs (neg_ℤ q.div) (column_form (k + 1) k).coefs, c, h.0), tt),
      ((omega (arith, length-mix q.div (column_form (k + 1) k).coefs (negsuc 0) q.form.coefs, c, h.0), tt), quotient_rows-over (k + 1) n qs (omega arith) h.2),
    )
