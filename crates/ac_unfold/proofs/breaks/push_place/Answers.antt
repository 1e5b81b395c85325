use Rattle.std.proofs.Common.{rules}
use Rattle.ac_unfold.proofs.Coming.{on_ok}
use Rattle.ac_unfold.proofs.Reaching.{pushed_place}
use Rattle.ac_unfold.proofs.breaks.push_place.Goals as goal

pub returns : goal.returns
returns c = on_ok c.push-3.result _ _ (λ h. pushed_place c.args.places.now c.push.new.self c.push-2.new.self c.push-3.new.self _ _ _ _ c.in_ok-push.ensures.ok c.in_ok-push-2.ensures.ok h (search rules)) c.push-3.ensures.ok
