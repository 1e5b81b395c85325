use Rattle.std.proofs.Common.{refl}
use Rattle.ac_walk.proofs.Gathered.{one_more}
use Rattle.ac_walk.proofs.outputs.with_verdict.Goals as goal

pub returns : goal.returns
returns c =
    one_more c.args.basis.now.program_flows.now.budget c.args.basis.now.pair.now c.args.number c.args.array c.args.proved (record { verdicts = c.push.new.self; proof = c.in_ok-said.proof }) (c.in_ok-said.said, c.in_ok-said.proof) c.requires.array c.requires.proved c.in_ok-said.ensures c.in_ok-push.ensures.ok refl
