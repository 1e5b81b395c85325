use Rattle.std.proofs.Common.{sym, ◌∙◌}
use Rattle.ac_omega_steps.proofs.Parts.{others-made}
use Rattle.ac_omega_steps.proofs.replace.replaced_others.Goals as goal

pub returns : goal.returns
returns c = others-made c.args.z c.args.equality.now c.args.at c.args.rows.now c.before-2.result.now c.behind.result.now c.from-made.result c.in-Some.made c.in_ok-made-2.made c.before-2.ensures c.behind.ensures (c.from-made.ensures ∙ c.in_ok-with_capacity.ensures.items) (sym c.in-Some.is ∙ c.in_ok-made.ensures) c.in_ok-made-2.ensures
