use Rattle.std.proofs.Common.{rules, pos, get_or, ◌≡◌, FitsSigned}
use Rattle.std.specs.Int.{w128}
use Rattle.ac_base.proofs.Bits.{again_128}
use Rattle.ac_hull.specs.HullInternals.Placing.{inserted}
use Rattle.ac_hull.proofs.Placing.{first_step, first_end}
use Rattle.ac_hull.proofs.first.first.Goals as goal

pub loop-candidate-preserved : goal.loop-candidate-preserved
loop-candidate-preserved c =
    let x = get_or c.args.candidates.now c.loop-candidate.candidate-index (pos 0) in
    let f : FitsSigned w128 (get_or c.args.candidates.now c.loop-candidate.candidate-index (pos 0)) = search rules in
    let e : c.in_ok-numbers.numbers ≡ inserted c.args.limit (get_or c.args.candidates.now c.loop-candidate.candidate-index (pos 0)) c.loop-candidate.numbers = rw (again_128 (get_or c.args.candidates.now c.loop-candidate.candidate-index (pos 0)) f) at c.in_ok-numbers.ensures in
    first_step c.args.limit c.args.candidates.now c.loop-candidate.numbers c.in_ok-numbers.numbers c.loop-candidate.candidate-index c.loop-candidate.invariant c.loop-candidate-test.true e

pub returns : goal.returns
returns c = first_end c.args.limit c.args.candidates.now c.loop-candidate.numbers c.loop-candidate.candidate-index c.loop-candidate.invariant (search rules)
