use Rattle.std.proofs.Common.{◌+◌}
use Rattle.ac_forms.specs.ListMembers.{IsAmong}
use Rattle.ac_hull.specs.ColumnDifferences.{IsMetRow, IsThin}
use Rattle.ac_hull.proofs.Gatherings.{gathered_met, thin_gathered, ok_map}
use Rattle.ac_hull.proofs.claim.kept_rows.Goals as goal

pub thinned-requires-clause-met : goal.thinned-requires-clause-met
thinned-requires-clause-met c = rw c.as_slice.ensures (gathered_met c.args.points.now c.args.thresholds.now c.args.moduli.now (c.args.columns + 1) (c.args.columns + 1) c.in_ok-rows.rows c.in_ok-rows.ensures)

pub returns : goal.returns
returns c =
    ok_map c.thinned.result (IsThin c.args.points.now (λ d. IsAmong d c.in_ok-rows.rows)) (IsThin c.args.points.now (IsMetRow c.args.columns c.args.thresholds.now c.args.moduli.now c.args.points.now))
    (λ kept t. thin_gathered c.args.points.now c.args.columns c.args.thresholds.now c.args.moduli.now c.in_ok-rows.rows kept c.in_ok-rows.ensures t) (rw c.as_slice.ensures at c.thinned.ensures)
