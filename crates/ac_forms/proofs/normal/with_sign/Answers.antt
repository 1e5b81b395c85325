use Rattle.std.proofs.Common.{◌≡◌, true}
use Rattle.ac_forms.specs.NormalRows.{leads_negative}
use Rattle.ac_forms.proofs.Scales.{made_as}
use Rattle.ac_forms.proofs.Signs.{sign_fits, signed_is}
use Rattle.ac_forms.proofs.normal.with_sign.Goals as goal

pub returns-then-has_negative_lead : goal.returns-then-has_negative_lead
returns-then-has_negative_lead c =
    let lead : leads_negative c.args.form.coefs ≡ true = rw (← c.coefs.ensures, ← c.has_negative_lead.ensures) c.if-has_negative_lead.true in
    made_as c.scale.result (sign_fits c.args.form lead) (signed_is c.args.form lead) c.scale.ensures
