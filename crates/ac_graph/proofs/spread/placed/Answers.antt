use Rattle.std.proofs.Common.{◌≡◌, subst, sym, Some, rules}
use Rattle.std.specs.List.{slice_get}
use Rattle.ac_forms.specs.ListMembers.{IsAmong}
use Rattle.ac_graph.proofs.Members.{in_at}
use Rattle.ac_graph.proofs.PlaceSteps.{extends_known, extends_new, placed_last}
use Rattle.ac_graph.proofs.spread.placed.Goals as goal

pub returns-in-Some-clause-extends : goal.returns-in-Some-clause-extends
returns-in-Some-clause-extends c =
    let e : slice_get c.args.pairs.now c.in-Some.at ≡ Some c.args.pair.now = search rules in
    extends_known c.args.pairs.now c.args.pair.now (in_at c.args.pair.now c.args.pairs.now c.in-Some.at e)

pub returns-in_ok-push-in-None-clause-extends : goal.returns-in_ok-push-in-None-clause-extends
returns-in_ok-push-in-None-clause-extends c =
    extends_new c.args.pairs.now c.push.new.self c.args.pair.now c.in_ok-push-in-None.ensures.ok (λ h. c.in-None.ensures (subst (IsAmong c.args.pair.now) (sym c.as_slice.ensures) h))

pub returns-in_ok-push-in-None-clause-place : goal.returns-in_ok-push-in-None-clause-place
returns-in_ok-push-in-None-clause-place c = placed_last c.args.pairs.now c.push.new.self c.args.pair.now c.len-at.result c.in_ok-push-in-None.ensures.ok c.len-at.ensures
