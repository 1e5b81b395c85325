use Rattle.std.proofs.Common.{List, Option, subst}
use Rattle.std.specs.Prelude.{IfSome}
use Rattle.ac_forms.specs.Rows.{AreRowsOver}
use Rattle.ac_forms.specs.declared.row.Row.{Row}
use Rattle.ac_omega_steps.proofs.LeftRows.{next_shadows, shadows_step, shadows_wide}
use Rattle.ac_omega_steps.proofs.shadow.shadows.Goals as goal

pub within-requires : goal.within-requires
within-requires c =
    (next_shadows c.args.columns c.args.lows.now c.args.highs.now c.args.made c.loop-low.made c.in-Some.more c.loop-low.low-index c.low-item.result c.in_ok-more.field-0 c.requires.lows.1 c.requires.highs.1 c.loop-low.invariant
    c.loop-low-test.true c.low-item.is c.in_ok-more.ensures c.in-Some.is).over

pub returns-in_default-2-clause-normal : goal.returns-in_default-2-clause-normal
returns-in_default-2-clause-normal c =
    let next = next_shadows c.args.columns c.args.lows.now c.args.highs.now c.args.made c.loop-low.made c.in-Some.more c.loop-low.low-index c.low-item.result c.in_ok-more.field-0 c.requires.lows.1 c.requires.highs.1 c.loop-low.invariant
    c.loop-low-test.true c.low-item.is c.in_ok-more.ensures c.in-Some.is in
    shadows_wide c.args.columns c.args.lows.now c.args.highs.now c.args.made c.in-Some.more c.loop-low.low-index c.in_ok-left.field-0 next c.in_ok-left.ensures.normal c.in_default-2.is

pub loop-low-preserved : goal.loop-low-preserved
loop-low-preserved c =
    let next = next_shadows c.args.columns c.args.lows.now c.args.highs.now c.args.made c.loop-low.made c.in-Some.more c.loop-low.low-index c.low-item.result c.in_ok-more.field-0 c.requires.lows.1 c.requires.highs.1 c.loop-low.invariant
    c.loop-low-test.true c.low-item.is c.in_ok-more.ensures c.in-Some.is in
    let over = subst (λ (o : Option (List Row)). IfSome o (λ rows. AreRowsOver c.args.columns rows)) c.in-Some-2.is c.in_ok-left.ensures.over in
    shadows_step c.args.columns c.args.lows.now c.args.highs.now c.args.made c.in-Some.more c.in-Some-2.left c.loop-low.low-index c.in_ok-left.field-0 next c.in_ok-left.ensures.normal c.in-Some-2.is over
