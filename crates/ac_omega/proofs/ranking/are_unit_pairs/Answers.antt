use Rattle.std.proofs.Common.{sym, ◌∙◌}
use Rattle.ac_omega_steps.specs.Bounds.{lows, highs}
use Rattle.ac_omega.proofs.Pairs.{pairs-below, pairs-above}
use Rattle.ac_omega.proofs.ranking.are_unit_pairs.Goals as goal

pub returns-then-are_units_below : goal.returns-then-are_units_below
returns-then-are_units_below c = c.if-are_units_below.true ∙ pairs-below (lows c.args.z c.args.rows.now) (highs c.args.z c.args.rows.now) (sym c.are_units_below.ensures ∙ c.if-are_units_below.true)

pub returns-else-are_units_below : goal.returns-else-are_units_below
returns-else-are_units_below c = pairs-above (lows c.args.z c.args.rows.now) (highs c.args.z c.args.rows.now) c.are_units_above.result (sym c.are_units_below.ensures ∙ c.if-are_units_below.false) c.are_units_above.ensures
