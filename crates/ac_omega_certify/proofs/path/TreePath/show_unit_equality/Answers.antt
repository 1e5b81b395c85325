use Rattle.std.proofs.Common.{◌≡◌, true, false, pos, negsuc, rules}
use Rattle.ac_forms.specs.NormalRows.{leads_negative}
use Rattle.ac_forms.specs.declared.row.Row.TheVariants.{Eq}
use Rattle.ac_omega_certify.proofs.NormalEqualities.{unit_kept, unit_turned, turned_blends}
use Rattle.ac_omega_certify.proofs.path.TreePath.show_unit_equality.Goals as goal

pub returns-then-not-has_negative_lead-clause-shows : goal.returns-then-not-has_negative_lead-clause-shows
returns-then-not-has_negative_lead-clause-shows c = λ start path names h a.
    let l : leads_negative c.args.form.now.coefs ≡ false = search rules in
    unit_kept c.args.self.now start path names c.args.x c.args.form.now c.requires.unit l h a

pub returns-clause-shows : goal.returns-clause-shows
returns-clause-shows c = λ start path names h a.
    let l : leads_negative c.args.form.now.coefs ≡ true = search rules in
    unit_turned c.add_two.new.self start path names c.in_ok-place.place c.args.form.now c.requires.unit l
    (c.in_ok-place.ensures.leads start path names (Eq c.args.form.now) (Eq c.args.form.now) h a a tt tt (turned_blends c.args.form.now c.requires.up_to_2_to_122))
