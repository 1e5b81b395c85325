use Rattle.std.proofs.Common.{◌≡◌, map, ◌∙◌, ap}
use Rattle.ac_hull.specs.ColumnDifferences.{row_of}
use Rattle.ac_hull.proofs.Enough.{enough}
use Rattle.ac_hull.proofs.claim.claim_rows.Goals as goal

pub returns-clause-enough : goal.returns-clause-enough
returns-clause-enough c =
    let e : c.in_ok-rows_of.field-0 ≡ map (row_of c.args.columns) c.in_ok-kept.kept = c.in_ok-rows_of.ensures ∙ ap (map (row_of c.args.columns)) c.as_slice.ensures in
    enough c.args.columns c.args.thresholds.now c.args.moduli.now c.args.found.now c.in_ok-kept.kept c.requires.widths c.in_ok-kept.ensures c.in_ok-rows_of.field-0 e
