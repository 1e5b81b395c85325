use Rattle.ac_poly.proofs.Coordinating.{coordinated_step}
use Rattle.ac_poly.proofs.embed.coordinate_forms.Goals as goal

pub loop-k-preserved : goal.loop-k-preserved
loop-k-preserved c = coordinated_step c.args.first c.loop-k.k c.loop-k.made _ c.in_ok-coordinate_form.field-0 c.loop-k.invariant c.in_ok-coordinate_form.ensures c.in_ok-push.ensures.ok
