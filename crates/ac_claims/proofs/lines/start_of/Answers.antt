use Rattle.std.proofs.Common.{refl, sym, ◌∙◌}
use Rattle.ac_claims.proofs.TreeSteps.{start_made}
use Rattle.ac_claims.proofs.lines.start_of.Goals as goal

pub returns-in-Some : goal.returns-in-Some
returns-in-Some c =
    start_made c.args.programs.now c.args.claims.now c.args.next c.index-claims-next.result _ c.in_ok-behind.behind c.requires.ready c.requires.claims c.requires.there c.index-claims-next.is (sym c.in-Some.is ∙ c.in_ok-path.ensures) c.in_ok-behind.ensures refl
