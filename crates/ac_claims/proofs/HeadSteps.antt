-- Tests of the head of a proof.
use Rattle.std.proofs.Common.{◌≡◌, ◌≢◌, ◌↔◌, ℕ, ℤ, pos, List, [], ◌∷◌, length, Bool, true, false, ◌&&◌, refl, sym, arith}
use Rattle.std.specs.Prelude.{unsigned_abs, IsTrue}
use Rattle.std.proofs.lemmas.Bool.Decides.{Decides-int_eq}
use Rattle.ac_base.proofs.Truths.{le-true, true-le}
use Rattle.ac_base.proofs.Divisors.{multiple_by_rest}
use Rattle.ac_forms.specs.Affine.{value_at, CanEvaluate}
use Rattle.ac_forms.specs.Rows.{form_of, Holds}
use Rattle.ac_forms.specs.RangeTests.{can_evaluate}
use Rattle.ac_forms.specs.declared.row.Row.{Row}
use Rattle.ac_forms.specs.declared.row.Row.TheVariants.{Eq, Div, Ge}
use Rattle.ac_forms.proofs.Twins.{can_evaluate-is}
use Rattle.ac_poly.specs.declared.types.StmtModel.{StmtModel}
use Rattle.ac_claims.specs.ProofFaults.{row_holds, has_shape, have_shapes}

pub row_holds-is : (r : Row) (p : List ℤ) → (row_holds r p ≡ true) ↔ Holds r p
row_holds-is (Eq f) p = ((λ e. (Decides-int_eq (value_at f p) (pos 0)).0 e), (λ e. (Decides-int_eq (value_at f p) (pos 0)).1 e))
row_holds-is (Div m f) p =
    let d = multiple_by_rest m (value_at f p) (unsigned_abs (value_at f p)) (unsigned_abs m) refl refl in
    (d.0, d.1)
row_holds-is (Ge f) p = (le-true (pos 0) (value_at f p), true-le (pos 0) (value_at f p))

and_true : (a b c : Bool) → a ≡ true → c ≡ b → c ≡ (a && b)
and_true true b c t e = e
and_true false b c t e = absurd cc

and_false : (a b : Bool) → (a ≡ true → ⊥) → false ≡ (a && b)
and_false true b n = absurd (n refl)
and_false false b n = refl

one_answer : {H : Type 0} (a b : Bool) → IsTrue a ↔ H → (b ≡ true) ↔ H → a ≡ b
one_answer true true s t = refl
one_answer true false s t = sym (t.1 (s.0 refl))
one_answer false true s t = s.1 (t.0 refl)
one_answer false false s t = refl

-- a row that holds, and one that doesn't
pub row_is : (r : Row) (p : List ℤ) (holds : Bool) → CanEvaluate (form_of r) p → IsTrue holds ↔ Holds r p → holds ≡ (can_evaluate (form_of r) p && row_holds r p)
row_is r p holds can is = and_true (can_evaluate (form_of r) p) (row_holds r p) holds ((can_evaluate-is (form_of r) p).1 can) (one_answer holds (row_holds r p) is (row_holds-is r p))

pub row_wide : (r : Row) (p : List ℤ) → (CanEvaluate (form_of r) p → ⊥) → false ≡ (can_evaluate (form_of r) p && row_holds r p)
row_wide r p wide = and_false (can_evaluate (form_of r) p) (row_holds r p) (λ e. wide ((can_evaluate-is (form_of r) p).0 e))

pub ruleset row_steps = (row_is, row_wide)

pub unequal_shapes : (hs : List (ℕ × ℕ)) (stmts : List StmtModel) → length hs ≢ length stmts → have_shapes hs stmts ≡ false
unequal_shapes [] [] n = absurd (n refl)
unequal_shapes [] (stmt ∷ stmts) n = refl
unequal_shapes (h ∷ hs) [] n = refl
unequal_shapes (h ∷ hs) (stmt ∷ stmts) n = by (has_shape h stmt) (unequal_shapes hs stmts (λ e. n (omega (arith, e))))
  where
    by : (b : Bool) → have_shapes hs stmts ≡ false → (b && have_shapes hs stmts) ≡ false
    by true e = e
    by false e = refl

pub ruleset shape_steps = (unequal_shapes)
