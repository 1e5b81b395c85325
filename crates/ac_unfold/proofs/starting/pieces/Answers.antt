use Rattle.ac_claims_paths.specs.ModelCalls.{pairing}
use Rattle.ac_unfold.proofs.Planned.{have_domains}
use Rattle.ac_unfold.proofs.starting.pieces.Goals as goal

pub returns-in-Some-Some-clause-domains : goal.returns-in-Some-Some-clause-domains
returns-in-Some-Some-clause-domains c =
    have_domains (pairing c.args.program_flows.now.programs) c.args.start.now c.in_ok-left.left c.in_ok-right.right c.in-Some-Some.left c.in-Some-Some.right c.in_ok-left.ensures c.in_ok-right.ensures c.in-Some-Some.is-0 c.in-Some-Some.is-1
