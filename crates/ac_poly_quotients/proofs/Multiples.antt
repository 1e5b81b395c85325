-- Divisibility as a row beside the rows of a quotient, and its negation as one row.
use Rattle.std.proofs.Common.{◌≡◌, ◌↔◌, ℕ, ℤ, pos, negsuc, neg_ℤ, ◌+ℤ◌, ◌*ℤ◌, ◌≤ℤ◌, List, get_or, true, false, sym, ap, ◌∙◌, subst, arith, unsigned_abs}
use Rattle.std.specs.Int.{int_div_euclid, ◌∣◌}
use Rattle.std.proofs.lemmas.Int.{ints, by_lt_z}
use Rattle.ac_base.specs.Multiple.{IsMultiple, divides}
use Rattle.ac_base.proofs.Divisors.{divides-true, true-divides, divides-false, false-divides}
use Rattle.ac_base.proofs.Floor.{positive_is, floor_low, floor_exact}
use Rattle.ac_base.proofs.Multiples.{multiple_from}
use Rattle.ac_forms.specs.Affine.{Affine, value_at}
use Rattle.ac_forms.specs.Negation.{above}
use Rattle.ac_forms.specs.Rows.{Holds}
use Rattle.ac_forms.proofs.Negations.{value-above}
use Rattle.ac_poly_quotients.specs.LawsOfColumns.{MultiplesAreRows, MultiplesAreTests}
use Rattle.ac_poly_quotients.specs.QuotientRows.{rest_form, multiple_row, other_row}
use Rattle.ac_poly_quotients.proofs.QuotientRows.{value-rest, both_ways}

-- a multiple is its divisor times its quotient
multiple_exact : (a d : ℤ) → pos 1 ≤ℤ d → IsMultiple d a → a ≡ d *ℤ int_div_euclid a d
multiple_exact a d h m =
    let s = positive_is d h in
    let n : s.0 ∣ unsigned_abs a = rw s.2 at m in
    rw s.2 (floor_exact a s.0 s.1 n)

nothing_left : (e y v : ℤ) → v ≡ pos 1 *ℤ e +ℤ neg_ℤ y → (v ≡ pos 0) ↔ (e ≡ y)
nothing_left e y v i = ((λ h. omega (arith, ints, i, h)), (λ h. omega (arith, ints, i, h)))

something_left : (e y v w : ℤ) → v ≡ pos 1 *ℤ e +ℤ neg_ℤ y → w ≡ v +ℤ negsuc 0 → y ≤ℤ e → (pos 0 ≤ℤ w) ↔ (e ≡ y → ⊥)
something_left e y v w i j l = (
  (λ h n. omega (arith, ints, i, j, h, n)),
  (λ h. by_lt_z y e (λ m. omega (arith, ints, i, j, m)) (λ m. absurd (h (both_ways e y m l)))),
)

-- the row, where column k has the quotient
pub multiple_holds : (k : ℕ) (m : ℤ) (e : Affine) (p : List ℤ) → pos 1 ≤ℤ m → get_or p k (pos 0) ≡ int_div_euclid (value_at e p) m → Holds (multiple_row k m e) p ↔ IsMultiple m (value_at e p)
multiple_holds k m e p h q =
    let v = value_at e p in
    let d : v ≡ m *ℤ get_or p k (pos 0) → IsMultiple m v = λ i. multiple_from m v (get_or p k (pos 0)) i in
    let n = nothing_left v (m *ℤ get_or p k (pos 0)) (value_at (rest_form k (record { form = e; div = m })) p) (value-rest k (record { form = e; div = m }) p) in
    ((λ i. d (n.0 i)), (λ i. n.1 (multiple_exact v m h i ∙ ap (λ (x : ℤ). m *ℤ x) (sym q))))

-- its negation
pub other_holds : (k : ℕ) (m : ℤ) (e : Affine) (p : List ℤ) → pos 1 ≤ℤ m → get_or p k (pos 0) ≡ int_div_euclid (value_at e p) m → Holds (other_row k m e) p ↔ (¬ IsMultiple m (value_at e p))
other_holds k m e p h q =
    let v = value_at e p in
    let low : (m *ℤ get_or p k (pos 0)) ≤ℤ v = subst (λ (x : ℤ). (m *ℤ x) ≤ℤ v) (sym q) (floor_low v m h) in
    let rest = rest_form k (record { form = e; div = m }) in
    let n = something_left v (m *ℤ get_or p k (pos 0)) (value_at rest p) (value_at (above rest) p) (value-rest k (record { form = e; div = m }) p) (value-above rest p) low in (
      (λ i t. n.0 i (multiple_exact v m h t ∙ ap (λ (x : ℤ). m *ℤ x) (sym q))),
      (λ i. n.1 (λ t. i (multiple_from m v (get_or p k (pos 0)) t))),
    )

-- the same by the test
pub multiple_tests : (k : ℕ) (m : ℤ) (e : Affine) (p : List ℤ) → pos 1 ≤ℤ m → get_or p k (pos 0) ≡ int_div_euclid (value_at e p) m → Holds (multiple_row k m e) p ↔ (divides (unsigned_abs m) (value_at e p) ≡ true)
multiple_tests k m e p h q =
    let a = multiple_holds k m e p h q in
    ((λ i. true-divides (unsigned_abs m) (value_at e p) (a.0 i)), (λ i. a.1 (divides-true (unsigned_abs m) (value_at e p) i)))

pub other_tests : (k : ℕ) (m : ℤ) (e : Affine) (p : List ℤ) → pos 1 ≤ℤ m → get_or p k (pos 0) ≡ int_div_euclid (value_at e p) m → Holds (other_row k m e) p ↔ (divides (unsigned_abs m) (value_at e p) ≡ false)
other_tests k m e p h q =
    let a = other_holds k m e p h q in
    ((λ i. false-divides (unsigned_abs m) (value_at e p) (a.0 i)), (λ i. a.1 (divides-false (unsigned_abs m) (value_at e p) i)))

-- no point meets both, whatever its quotient
pub never_both : (k : ℕ) (m : ℤ) (e : Affine) (p : List ℤ) → Holds (multiple_row k m e) p → Holds (other_row k m e) p → ⊥
never_both k m e p h g = let a = value-above (rest_form k (record { form = e; div = m })) p in omega (arith, ints, h, g, a)

-- as laws say it
pub multiples_are_rows : MultiplesAreRows
multiples_are_rows k m e p h q = (multiple_holds k m e p h q, other_holds k m e p h q)

pub multiples_are_tests : MultiplesAreTests
multiples_are_tests k m e p h q = (multiple_tests k m e p h q, other_tests k m e p h q)
