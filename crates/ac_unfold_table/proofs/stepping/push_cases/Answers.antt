use Rattle.ac_unfold_table.proofs.Resting.{cases_all}
use Rattle.ac_unfold_table.proofs.stepping.push_cases.Goals as goal

pub returns : goal.returns
returns c = cases_all c.args.params c.args.branches.now c.args.cases.now c.args.found.now c.loop-number.found c.loop-number.number c.min-number-end.result c.loop-number.invariant c.min-number-end.ensures c.loop-number-test.false
