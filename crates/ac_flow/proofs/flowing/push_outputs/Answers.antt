use Rattle.std.proofs.Common.{List, subst}
use Rattle.ac_forms.specs.Affine.{Affine}
use Rattle.ac_flow.specs.Readers.{outputs_from, StopsAmong}
use Rattle.ac_flow.proofs.FlowSteps.{outputs_next, output_stops}
use Rattle.ac_flow.proofs.flowing.push_outputs.Goals as goal

pub returns-in-Err-clause-stops : goal.returns-in-Err-clause-stops
returns-in-Err-clause-stops c =
    subst (λ (es : List (List Affine)). StopsAmong c.args.budget c.args.m.now (outputs_from c.args.m.now 0 es) c.in-Err.stop) c.as_slice-all.ensures
    (output_stops c.args.budget c.args.m.now c.as_slice-all.result.now c.loop-o.o c.index-all-o.result c.as_slice.result.now c.in-Err.stop c.loop-o-test.true c.index-all-o.is c.as_slice.ensures c.in-Err.ensures.stops)

pub loop-o-preserved : goal.loop-o-preserved
loop-o-preserved c =
    outputs_next c.args.m.now c.as_slice-all.result.now c.args.out.now c.loop-o.out c.push_output.new.out c.loop-o.o c.index-all-o.result c.as_slice.result.now c.loop-o.invariant c.loop-o-test.true c.index-all-o.is c.as_slice.ensures c.in-Ok.ensures.grows
