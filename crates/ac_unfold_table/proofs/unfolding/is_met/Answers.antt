use Rattle.std.proofs.Common.{subst, sym}
use Rattle.ac_forms.specs.ListMembers.{IsAmong}
use Rattle.ac_unfold_table.proofs.unfolding.is_met.Goals as goal

pub returns-clause-free : goal.returns-clause-free
returns-clause-free c = λ none h. c.is_claimed.ensures.none c.if-is_claimed.false h.0 (subst (IsAmong h.0) (sym c.claims.ensures) h.1) h.2
