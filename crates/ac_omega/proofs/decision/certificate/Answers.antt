use Rattle.std.proofs.Common.{◌*◌, ◌≤◌, ◌^◌, rules}
use Rattle.ac_omega.proofs.Bounding.{within-modest}
use Rattle.ac_omega.proofs.decision.certificate.Goals as goal

pub certify-requires-clause-within_2_to_120 : goal.certify-requires-clause-within_2_to_120
certify-requires-clause-within_2_to_120 c =
    let small : c.args.all.now.factor * c.args.all.now.number ≤ 2 ^ 120 = search rules in
    within-modest c.args.all.now c.args.refutation.now small c.requires.within
