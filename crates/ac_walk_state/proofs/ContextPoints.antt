-- Points at which a context is seen to hold.
use Rattle.std.proofs.Common.{◌≡◌, ◌&&◌, ℤ, List, [], ◌∷◌, length, true, refl}
use Rattle.std.specs.Prelude.{nat_eq}
use Rattle.std.proofs.lemmas.Bool.{eq-eqb}
use Rattle.ac_forms.specs.Rows.{CanTest, Meets, form_of}
use Rattle.ac_forms.specs.RangeTests.{can_evaluate}
use Rattle.ac_forms.specs.declared.row.Row.{Row}
use Rattle.ac_forms.proofs.Twins.{can_evaluate-is}
use Rattle.ac_claims.specs.ProofFaults.{row_holds, rows_hold}
use Rattle.ac_claims.proofs.HeadSteps.{row_holds-is}
use Rattle.ac_walk_state.specs.PartValidity.{TestedPointsAreValuations}
use Rattle.ac_walk_state.proofs.ListElements.{true_both}

rows_are : (rows : List Row) (p : List ℤ) → CanTest rows p → Meets rows p → rows_hold rows p ≡ true
rows_are [] p t m = refl
rows_are (r ∷ rows) p t m =
    true_both (can_evaluate (form_of r) p) (row_holds r p && rows_hold rows p) ((can_evaluate-is (form_of r) p).1 t.0) (true_both (row_holds r p) (rows_hold rows p) ((row_holds-is r p).1 m.0) (rows_are rows p (t.1 m.0) m.1))

pub tested_points : TestedPointsAreValuations
tested_points m p l t h = true_both (nat_eq (length p) m.params) (rows_hold m.context p) (eq-eqb (length p) m.params l) (rows_are m.context p t h)
