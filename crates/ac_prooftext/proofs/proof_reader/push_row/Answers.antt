use Rattle.std.proofs.Common.{ap}
use Rattle.std.proofs.lemmas.Result.{on_ok_weaker}
use Rattle.ac_claims.proofs.FrontSteps.{pushed}
use Rattle.ac_claims.proofs.ProofFolding.{with_rows}
use Rattle.ac_prooftext.proofs.proof_reader.push_row.Goals as goal

pub returns : goal.returns
returns c =
    on_ok_weaker c.push-2.result
    (λ e. pushed c.args.claims.now c.pop.new.self c.push-2.new.self c.in-Some.claim _ c.args.row c.in-Some.ensures (ap (λ z. with_rows c.in-Some.claim z) c.in_ok-push.ensures.ok) e)
    c.push-2.ensures.ok
