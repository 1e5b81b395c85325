-- Tests of positions of a model.
use Rattle.std.proofs.Common.{◌≡◌, ◌↔◌, ℕ, ◌+◌, pos, negsuc, List, [], ◌∷◌, Bool, true, false, ◌&&◌, cond, Some, None, refl, sym, ap, ◌∙◌}
use Rattle.ac_forms.specs.Affine.{Affine, column_form, combined}
use Rattle.ac_forms.specs.Fits.{fits}
use Rattle.ac_forms.specs.RangeTests.{form_fits}
use Rattle.ac_forms.specs.declared.row.Row.{Row}
use Rattle.ac_forms.specs.declared.row.Row.TheVariants.{Ge}
use Rattle.ac_forms.proofs.Twins.{and-is, fits-is, form_fits-is}
use Rattle.ac_poly.specs.CoordinateColumns.{room, element_rows, CanBound}
use Rattle.ac_claims_paths.specs.ModelPositions.{extent_rows}
use Rattle.ac_claims.specs.ProofFaults.{can_bound, bounded_rows}

same_rows : (k : ℕ) (es : List Affine) → extent_rows k es ≡ element_rows k es
same_rows k [] = refl
same_rows k (e ∷ es) = ap (λ (rows : List Row). Ge (column_form (k + 1) k) ∷ (Ge (room k e) ∷ rows)) (same_rows (k + 1) es)

can_bound-is : (k : ℕ) (es : List Affine) → (can_bound k es ≡ true) ↔ CanBound k es
can_bound-is k [] = ((λ e. tt), (λ u. refl))
can_bound-is k (e ∷ es) =
    let f = combined (pos 1) e (negsuc 0) (column_form (k + 1) k) in
    and-is (form_fits f && fits ((room k e).konst)) (can_bound (k + 1) es) (and-is (form_fits f) (fits ((room k e).konst)) (form_fits-is f) (fits-is ((room k e).konst))) (can_bound-is (k + 1) es)

at_true : {A : Type 0} (b : Bool) (x : A) → b ≡ true → cond b (Some x) None ≡ Some x
at_true true x e = refl
at_true false x e = absurd cc

at_false : {A : Type 0} (b : Bool) (x : A) → (b ≡ true → ⊥) → cond b (Some x) None ≡ None
at_false true x n = absurd (n refl)
at_false false x n = refl

pub bounded : (k : ℕ) (es : List Affine) (rows : List Row) → CanBound k es → rows ≡ element_rows k es → Some rows ≡ bounded_rows k es
bounded k es rows can is = ap Some (is ∙ sym (same_rows k es)) ∙ sym (at_true (can_bound k es) (extent_rows k es) ((can_bound-is k es).1 can))

pub unbounded : (k : ℕ) (es : List Affine) → (CanBound k es → ⊥) → None ≡ bounded_rows k es
unbounded k es wide = sym (at_false (can_bound k es) (extent_rows k es) (λ e. wide ((can_bound-is k es).0 e)))

pub ruleset bound_steps = (bounded, unbounded)
