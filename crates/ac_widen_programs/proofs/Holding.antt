-- Where no obligation is a mismatch, the terms of the outputs agree.
use Rattle.std.proofs.Common.{◌≡◌, ℕ, ◌&&◌, ℤ, List, ◌++◌, Bool, true, false, Option, Some, None, refl}
use Rattle.std.specs.Prelude.{slice_get}
use Rattle.ac_forms.specs.Affine.{Affine}
use Rattle.ac_syntax.specs.Outputs.{extents_at}
use Rattle.ac_syntax.specs.Spot.{AtEnd}
use Rattle.ac_syntax.specs.Where.{element}
use Rattle.ac_syntax.specs.declared.tree.Position.TheVariants.{Output}
use Rattle.ac_poly.specs.Model.{model_of}
use Rattle.ac_poly.specs.declared.types.Model.{Model}
use Rattle.ac_claims_paths.specs.Executions.{Execution, At, elements, execution}
use Rattle.ac_claims.specs.ProofFaults.{is_output_array}
use Rattle.ac_claims.proofs.Central.{claims_hold}
use Rattle.ac_claims.proofs.Headline.{in_extents, at_output}
use Rattle.ac_graph.specs.GraphMeaning.{LeftPlaced, RightPlaced}
use Rattle.ac_graph.proofs.Stepping.{valuations_are_compared}
use Rattle.ac_widen.specs.Obligations.{output}
use Rattle.ac_widen_programs.specs.OutputAgreement.{OutputsWithoutMismatchAgree}
use Rattle.ac_widen_programs.proofs.Covering.{Search, Met, runs, met_covered}
use Rattle.ac_widen_programs.proofs.Terms.{and_false}

-- an output array has its extents
extents_there : (m : Model) (o : ℕ) → is_output_array m o ≡ true → (extents : List Affine) × (slice_get m.extents o ≡ Some extents)
extents_there m o h = by (slice_get m.extents o) refl
  where
    by : (e : Option (List Affine)) → slice_get m.extents o ≡ e → (extents : List Affine) × (slice_get m.extents o ≡ Some extents)
    by (Some extents) e = (extents, e)
    by None e = let n = rw e at h in absurd (and_false _ n)

pub outputs_without_mismatch_agree : OutputsWithoutMismatchAgree
outputs_without_mismatch_agree pair outputs recurrent template paired left_arities right_arities are order none o among params valuation e inside =
    let compared = valuations_are_compared pair params paired valuation in
    let m = model_of pair.left pair.context in
    let n = model_of pair.right pair.context in
    let named = are.named o among in
    let l = extents_there m o named.0 in
    let r = extents_there n o named.1 in
    let in_left : elements pair.left m params o e = (l.0, l.1, inside) in
    let in_right : elements pair.right n params o e = (r.0, r.1, in_extents params (extents_at pair.left.arrays o) (extents_at pair.right.arrays o) e (paired.extents o (are.among o among) params) inside) in
    let a : LeftPlaced pair params = record { position = Output o; at = e; spot = AtEnd (element o e); here = at_output (execution pair.left m params) o e in_left } in
    let b : RightPlaced pair params = record { position = Output o; at = e; spot = AtEnd (element o e); here = at_output (execution pair.right n params) o e in_right } in
    let w : Search = record { pair = pair; outputs = outputs; recurrent = recurrent; template = template; order = order; params = params; compared = compared; left_arities = left_arities; right_arities = right_arities } in
    let met : Met w (AtEnd (element o e)) (AtEnd (element o e)) = record {
      key = (Output o, Output o);
      point = params ++ (e ++ e);
      must = output (Output o, Output o) (params ++ (e ++ e)) (record {
        there = record { params = params; compared = compared; a = a; b = b; placed = record { left_is = refl; right_is = refl; point_is = refl } };
        output = o;
        among = among;
        left_is = refl;
        right_is = refl;
        one_element = refl;
      });
      a = a;
      b = b;
      placed = record { left_is = refl; right_is = refl; point_is = refl };
      left_is = refl;
      right_is = refl;
    } in
    claims_hold (runs w) (Met w) (λ s t. met_covered w none s t) (AtEnd (element o e)) (AtEnd (element o e)) met
