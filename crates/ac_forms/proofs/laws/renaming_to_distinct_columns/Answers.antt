use Rattle.ac_forms.proofs.Distinct.{distinct-fits}
use Rattle.ac_forms.proofs.laws.renaming_to_distinct_columns.Goals as goal

pub returns : goal.returns
returns c = λ h. distinct-fits c.args.columns.now c.args.form.now.coefs h c.see_range.ensures.0
