use Rattle.std.proofs.Common.{map}
use Rattle.ac_claims_paths.specs.BranchPaths.{onto}
use Rattle.ac_claims_paths.proofs.CallLoops.{no_arguments, argument_next, onto_push}
use Rattle.ac_claims_paths.proofs.calls.kept.Goals as goal

pub returns-then-left-right : goal.returns-then-left-right
returns-then-left-right c = no_arguments c.args.path.now c.args.left.now.stmt c.args.right.now.stmt c.args.left.now.args.now c.args.right.now.args.now c.if-left-right.true

pub loop-k-preserved : goal.loop-k-preserved
loop-k-preserved c =
    argument_next c.args.path.now c.args.left.now.stmt c.args.right.now.stmt c.args.left.now.args.now c.args.right.now.args.now c.loop-k.k (map (onto c.args.path.now) c.loop-k.made) (map (onto c.args.path.now) c.push.new.self) (onto c.args.path.now c.argument_at.result) c.loop-k.invariant c.loop-k-test.true c.if-left-right.false c.argument_at.ensures
    (onto_push c.args.path.now c.loop-k.made c.push.new.self c.argument_at.result c.in_ok-push.ensures.ok)
