use Rattle.std.proofs.Common.{sym, subst}
use Rattle.ac_forms.specs.Rows.{IsWellMade}
use Rattle.ac_forms.specs.declared.conj.Conj.{Conj}
use Rattle.ac_flow.proofs.Overs.{is_over}
use Rattle.ac_flow.proofs.context.context_point.Goals as goal

pub decide-requires : goal.decide-requires
decide-requires c = subst (λ (x : Conj). IsWellMade x) (sym c.in_ok-question.ensures) (is_over c.args.m.now c.requires).context
