use Rattle.ac_forms.proofs.Renamings.{row-points, row-made}
use Rattle.ac_forms.proofs.row.Row.renamed.Goals as goal

pub returns-clause-points : goal.returns-clause-points
returns-clause-points c = row-points c.renamed_row.result c.args.columns.now c.args.self.now c.renamed_row.ensures

pub returns-clause-over : goal.returns-clause-over
returns-clause-over c = row-made c.renamed_row.result c.args.columns.now c.args.self.now c.renamed_row.ensures
