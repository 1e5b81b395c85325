use Rattle.std.proofs.Common.{[]}
use Rattle.ac_unfold_table.specs.QuestionLists.{beside_of}
use Rattle.ac_unfold_table.proofs.Lists.{flat_range}
use Rattle.ac_unfold_table.proofs.Resting.{none_right}
use Rattle.ac_unfold_table.proofs.stepping.questions_behind.Goals as goal

pub returns-in_default-2 : goal.returns-in_default-2
returns-in_default-2 c = none_right c.args.program_flows.now c.args.order.now c.args.claim.now c.new-found.result c.in_ok-rights.field-0 c.new-found.ensures c.in_ok-rights.ensures c.in_default-2.is

pub loop-left-preserved : goal.loop-left-preserved
loop-left-preserved c =
    flat_range (beside_of c.args.program_flows.now c.args.order.now c.args.claim.now c.in-Some-2.rights.pieces) [] c.loop-left.found c.push_beside.new.found c.loop-left.left c.loop-left.invariant c.in_ok-push_beside.ensures
