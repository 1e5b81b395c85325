use Rattle.ac_claims_paths.proofs.PlaceSteps.{elements_next}
use Rattle.ac_claims_paths.proofs.places.element_forms.Goals as goal

pub loop-k-preserved : goal.loop-k-preserved
loop-k-preserved c = elements_next c.args.params c.loop-k.k c.loop-k.forms _ c.in_ok-element_form.field-0 c.loop-k.invariant c.in_ok-element_form.ensures c.in_ok-push.ensures.ok
