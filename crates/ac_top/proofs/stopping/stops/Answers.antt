use Rattle.std.proofs.Common.{IfOk, sym, subst}
use Rattle.ac_poly.specs.declared.types.Model.{Model}
use Rattle.ac_syntax.specs.ReadyPrograms.{FitParts}
use Rattle.ac_walk.specs.UnknownCauses.{right_model}
use Rattle.ac_walk.proofs.Contexts.{left_lowered, right_lowered}
use Rattle.ac_top.specs.ArrangementStages.{IfStops}
use Rattle.ac_top.proofs.stopping.stops.Goals as goal

pub model_of-requires-2-clause-context : goal.model_of-requires-2-clause-context
model_of-requires-2-clause-context c = subst (λ n. FitParts n 0 c.args.pair.now.context.parts) (sym c.requires.paired.params) c.requires.paired.context

pub one_stops-requires-clause-left : goal.one_stops-requires-clause-left
one_stops-requires-clause-left c = left_lowered c.args.pair.now c.in_ok-left.left c.requires.paired c.in_ok-left.ensures

pub one_stops-requires-clause-right : goal.one_stops-requires-clause-right
one_stops-requires-clause-right c = right_lowered c.args.pair.now c.in_ok-right.right c.requires.paired c.in_ok-right.ensures

pub returns : goal.returns
returns c =
    let r = c.one_stops.result in
    subst (λ (l : Model). IfOk r (IfStops l (right_model c.args.pair.now))) c.in_ok-left.ensures
    (subst (λ (m : Model). IfOk r (IfStops c.in_ok-left.left m)) c.in_ok-right.ensures c.one_stops.ensures)
