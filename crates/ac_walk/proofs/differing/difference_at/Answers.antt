use Rattle.std.proofs.Common.{List, ℤ, sym, subst}
use Rattle.ac_walk.specs.OutputDecisions.{AreDifferent}
use Rattle.ac_walk.proofs.Elements.{Tells}
use Rattle.ac_walk.proofs.differing.difference_at.Goals as goal

pub returns-in_ok-at-in-Some : goal.returns-in_ok-at-in-Some
returns-in_ok-at-in-Some c =
    let pair = c.args.pair.now in
    subst (λ (at : List ℤ). AreDifferent pair c.args.number at c.in-Some.element) (sym c.in_ok-at-in-Some.ensures)
    (subst (Tells pair c.args.number c.args.at.now) c.in-Some.is c.in_ok-element.ensures)
