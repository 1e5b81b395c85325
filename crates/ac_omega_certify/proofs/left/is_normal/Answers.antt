use Rattle.std.proofs.Common.{ap, sym, ◌∙◌}
use Rattle.ac_forms.specs.declared.normal.NormalRow.TheVariants.{Kept}
use Rattle.ac_omega_certify.proofs.SameRows.{same-row, kept-same}
use Rattle.ac_omega_certify.proofs.left.is_normal.Goals as goal

pub returns-in-Kept-clause-same : goal.returns-in-Kept-clause-same
returns-in-Kept-clause-same c = λ e. c.in-Kept.is ∙ ap Kept (same-row c.in-Kept.kept c.args.row.now (sym c.eq.ensures ∙ e))

pub returns-in-Kept-clause-other : goal.returns-in-Kept-clause-other
returns-in-Kept-clause-other c = λ e k. kept-same c.in-Kept.kept c.args.row.now (sym c.in-Kept.is ∙ k) (sym c.eq.ensures ∙ e)
