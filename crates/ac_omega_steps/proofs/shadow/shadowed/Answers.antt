use Rattle.ac_omega_steps.proofs.LeftRows.{lows_asked, highs_asked, front_asked}
use Rattle.ac_omega_steps.proofs.shadow.shadowed.Goals as goal

pub shadows-requires-clause-lows : goal.shadows-requires-clause-lows
shadows-requires-clause-lows c =
    lows_asked c.args.conj.now.columns c.args.z c.args.conj.now.rows c.as_slice-rows.result.now c.in_ok-lows.lows c.as_slice.result.now c.requires c.as_slice-rows.ensures c.in_ok-lows.ensures c.as_slice.ensures

pub shadows-requires-clause-highs : goal.shadows-requires-clause-highs
shadows-requires-clause-highs c =
    highs_asked c.args.conj.now.columns c.args.z c.args.conj.now.rows c.as_slice-rows.result.now c.in_ok-highs.field-0 c.in-Some.highs c.as_slice-2.result.now c.requires c.as_slice-rows.ensures c.in_ok-highs.ensures c.in-Some.is
    c.as_slice-2.ensures

pub shadows-requires-clause-over : goal.shadows-requires-clause-over
shadows-requires-clause-over c = front_asked c.args.conj.now.columns c.args.z c.args.conj.now.rows c.as_slice-rows.result.now c.in_ok-made.made c.requires c.as_slice-rows.ensures c.in_ok-made.ensures
