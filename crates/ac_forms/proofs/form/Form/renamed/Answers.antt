use Rattle.ac_forms.proofs.Renamings.{form-value, form-over}
use Rattle.ac_forms.proofs.form.Form.renamed.Goals as goal

pub returns-clause-value : goal.returns-clause-value
returns-clause-value c = form-value c.renamed_form.result c.args.columns.now c.args.self.now c.renamed_form.ensures

pub returns-clause-over : goal.returns-clause-over
returns-clause-over c = form-over c.renamed_form.result c.args.columns.now c.args.self.now c.renamed_form.ensures
