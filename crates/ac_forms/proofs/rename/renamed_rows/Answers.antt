use Rattle.ac_forms.proofs.Renamings.{rows-points, rows-made}
use Rattle.ac_forms.proofs.rename.renamed_rows.Goals as goal

pub returns-clause-points : goal.returns-clause-points
returns-clause-points c = rows-points c.each_renamed.result c.args.columns.now c.args.rows.now c.each_renamed.ensures

pub returns-clause-over : goal.returns-clause-over
returns-clause-over c = rows-made c.each_renamed.result c.args.columns.now c.args.rows.now c.each_renamed.ensures
