use Rattle.ac_omega_certify.proofs.RaisedPlaces.{raised_step}
use Rattle.ac_omega_certify.proofs.branch.raised_places.Goals as goal

pub loop-i-preserved : goal.loop-i-preserved
loop-i-preserved c =
    raised_step c.args.z c.args.rows.now c.args.counts.now c.args.places.now _ c.loop-i.raised.items c.push_lower.new.raised.items c.loop-i.i c.loop-i.next c.in-Some.after c.raised_place-place.result c.index-rows-i.result c.loop-i.invariant c.loop-i-test.true c.requires.counts c.requires.long c.index-rows-i.is c.raised_place-place.ensures c.in_ok-push_lower.ensures c.in-Some.ensures
