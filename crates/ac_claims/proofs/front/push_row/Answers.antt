use Rattle.std.proofs.Common.{[], ◌∷◌, ◌++◌, ap, ◌∙◌}
use Rattle.ac_claims.proofs.FrontSteps.{pushed}
use Rattle.ac_claims.proofs.ProofFolding.{with_rows}
use Rattle.ac_claims.proofs.front.push_row.Goals as goal

pub returns : goal.returns
returns c =
    pushed c.args.claims.now c.pop.new.self c.push-2.new.self c.in-Some.claim _ c.args.row.now c.in-Some.ensures (ap (λ z. with_rows c.in-Some.claim z) (c.in_ok-push.ensures.ok ∙ ap (λ x. c.in-Some.claim.rows ++ x ∷ []) c.in_ok-copy.ensures)) c.in_ok-push-2.ensures.ok
