use Rattle.std.proofs.Common.{◌+◌, ap, ◌∙◌, refl, take}
use Rattle.std.proofs.lemmas.List.{take_all}
use Rattle.ac_unfold.specs.UnfoldEnds.{places_along}
use Rattle.ac_unfold.proofs.Reaching.{places_more}
use Rattle.ac_unfold.proofs.Results.{next_item}
use Rattle.ac_unfold.proofs.breaks.places_along.Goals as goal

pub loop-entry-preserved : goal.loop-entry-preserved
loop-entry-preserved c =
    let es = c.args.path.now in
    let i = c.loop-entry.entry-index in
    let e = c.entry-item.result in
    places_more (take i es) (take (i + 1) es) e c.loop-entry.places _ _ e.left e.right c.loop-entry.invariant c.in_ok-push_place.ensures c.in_ok-push_place-2.ensures (next_item es i e c.loop-entry-test.true c.entry-item.is) refl refl

pub returns : goal.returns
returns c = c.loop-entry.invariant ∙ ap places_along (take_all c.loop-entry.entry-index c.args.path.now c.loop-entry-test.false)
