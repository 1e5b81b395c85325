use Rattle.ac_forms.proofs.Ranges.{ranged_next}
use Rattle.ac_forms.proofs.range.push_range.Goals as goal

pub loop-k-preserved : goal.loop-k-preserved
loop-k-preserved c = ranged_next c.args.list.now c.args.first c.loop-k.k c.loop-k.list _ c.in_ok-column_after.field-0 c.loop-k.invariant c.in_ok-column_after.ensures c.in_ok-push.ensures.ok
