-- The rows of elements hold where the coordinates lie below the extents.
use Rattle.std.proofs.Common.{◌≡◌, ◌↔◌, ℕ, ◌+◌, List, [], ◌∷◌, get_or, sym, ◌∙◌, subst, arith, ℤ, pos, negsuc, ◌+ℤ◌, ◌*ℤ◌, ◌≤ℤ◌}
use Rattle.std.specs.Prelude.{◌<ℤ◌}
use Rattle.std.proofs.lemmas.Int.{ints}
use Rattle.ac_forms.specs.Affine.{Affine, value_at, column_form, combined}
use Rattle.ac_forms.proofs.Values.{value_at-combined, value_at-shifted}
use Rattle.ac_poly.specs.CoordinateColumns.{room, ElementRowsHold}
use Rattle.ac_poly.proofs.Differences.{column-value}

value-room : (k : ℕ) (e : Affine) (p : List ℤ) → value_at (room k e) p ≡ (value_at e p +ℤ negsuc 0 *ℤ get_or p k (pos 0)) +ℤ negsuc 0
value-room k e p =
    let s = value_at-shifted (combined (pos 1) e (negsuc 0) (column_form (k + 1) k)) (negsuc 0) p in
    let v = value_at-combined (pos 1) e (negsuc 0) (column_form (k + 1) k) p in
    let c = column-value k p in
    let w : value_at (combined (pos 1) e (negsuc 0) (column_form (k + 1) k)) p ≡ pos 1 *ℤ value_at e p +ℤ negsuc 0 *ℤ get_or p k (pos 0) = v ∙ (λ t. pos 1 *ℤ value_at e p +ℤ negsuc 0 *ℤ c t) in
    omega (arith, ints, s, w)

below : (x y z : ℤ) → z ≡ (y +ℤ negsuc 0 *ℤ x) +ℤ negsuc 0 → (pos 0 ≤ℤ z) ↔ (x <ℤ y)
below x y z e = ((λ h. omega (arith, ints, e, h)), (λ h. omega (arith, ints, e, h)))

pub element_rows_hold : ElementRowsHold
element_rows_hold k [] p = ((λ x. x), (λ x. x))
element_rows_hold k (e ∷ es) p =
    let c = column-value k p in
    let b = below (get_or p k (pos 0)) (value_at e p) (value_at (room k e) p) (value-room k e p) in
    let r = element_rows_hold (k + 1) es p in
    ((λ m. (subst (λ (z : ℤ). pos 0 ≤ℤ z) c m.0, b.0 m.1.0, r.0 m.1.1)), (λ m. (subst (λ (z : ℤ). pos 0 ≤ℤ z) (sym c) m.0, (b.1 m.1, r.1 m.2))))
