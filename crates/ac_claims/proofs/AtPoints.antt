-- The point of a valid proof is a valuation of the context.
use Rattle.std.proofs.Common.{◌≡◌, ◌+◌, ℤ, List, [], ◌∷◌, ◌&&◌, length, true, nat_eq, subst}
use Rattle.std.proofs.lemmas.Bool.Decides.{Decides-eqb}
use Rattle.ac_forms.specs.Rows.{Meets, form_of}
use Rattle.ac_forms.specs.RangeTests.{can_evaluate}
use Rattle.ac_forms.specs.declared.row.Row.{Row}
use Rattle.ac_forms.proofs.Joining.{both_of}
use Rattle.ac_syntax.specs.Outputs.{IsValuation}
use Rattle.ac_syntax.specs.declared.tree.Pair.{Pair}
use Rattle.ac_poly.specs.Model.{model_of}
use Rattle.ac_poly.specs.declared.types.Model.{Model}
use Rattle.ac_poly.proofs.Whole.{has_context}
use Rattle.ac_cert.specs.CertificateFaults.{first_fault_of}
use Rattle.ac_cert.specs.declared.types.Rule.TheVariants as rule
use Rattle.ac_cert.proofs.Soundness.{first-none}
use Rattle.ac_claims.specs.PlanFaults.{fault_unless}
use Rattle.ac_claims.specs.ProofPoint.{PointsAreValuations}
use Rattle.ac_claims.specs.ProofFaults.{row_holds, rows_hold, is_point, head_lines, heads_fault, claims_fault, claim_lines, outputs_fault, due_from, trees_fault}
use Rattle.ac_claims.specs.Soundness.{ArePaired, pairing_of}
use Rattle.ac_claims.proofs.HeadSteps.{row_holds-is}
use Rattle.ac_claims.proofs.Plans.{unless_none}

meets : (rows : List Row) (p : List ℤ) → rows_hold rows p ≡ true → Meets rows p
meets [] p e = tt
meets (r ∷ rows) p e =
    let a = both_of (can_evaluate (form_of r) p) (row_holds r p && rows_hold rows p) e in
    let b = both_of (row_holds r p) (rows_hold rows p) a.1 in
    ((row_holds-is r p).0 b.0, meets rows p b.1)

valuation : (pair : Pair) (p : List ℤ) → ArePaired pair → is_point (model_of pair.left pair.context) p ≡ true → IsValuation pair p
valuation pair p t e =
    let m = model_of pair.left pair.context in
    let b = both_of (nat_eq (length p) m.params) (rows_hold m.context p) e in
    let each : length p ≡ length pair.left.params = (Decides-eqb (length p) m.params).0 b.0 in
    record { each = each; context = (has_context pair.left pair.context t.context p each).0 (meets m.context p b.1) }

pub points_are_valuations : PointsAreValuations
points_are_valuations pair left right proof t a e =
    let g = pairing_of pair left right in
    let first = 4 + head_lines proof.heads in
    let k = first + claim_lines proof.claims in
    let rest = first_fault_of (heads_fault g proof.heads) (first_fault_of (claims_fault g proof.claims first) (first_fault_of (outputs_fault g pair.outputs proof.claims proof.outputs k) (trees_fault g proof.claims proof.trees.items (due_from g 0 proof.claims) (k + length proof.outputs)))) in
    let f = first-none (fault_unless (is_point left proof.point) 2 rule.Point) rest e in
    valuation pair proof.point t (subst (λ (n : Model). is_point n proof.point ≡ true) a.left_is (unless_none (is_point left proof.point) 2 rule.Point f.0))
