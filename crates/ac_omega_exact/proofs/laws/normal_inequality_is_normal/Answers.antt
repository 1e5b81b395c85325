use Rattle.ac_omega_exact.proofs.Again.{kept-again}
use Rattle.ac_omega_exact.proofs.laws.normal_inequality_is_normal.Goals as goal

pub returns : goal.returns
returns c = λ r e. kept-again c.args.form.now r e
