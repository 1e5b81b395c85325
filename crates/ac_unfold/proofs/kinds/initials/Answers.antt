use Rattle.std.proofs.Common.{inl, inr, sym, ◌∙◌}
use Rattle.ac_unfold.proofs.Unmatched.{no_cells}
use Rattle.ac_unfold.proofs.kinds.initials.Goals as goal

pub returns-in_default-clause-kind : goal.returns-in_default-clause-kind
returns-in_default-clause-kind c = no_cells c.args.search.now c.args.node.now.question (inl (sym c.in_ok-cell.ensures ∙ c.in_default.is))

pub returns-clause-kind : goal.returns-clause-kind
returns-clause-kind c = no_cells c.args.search.now c.args.node.now.question (inr (sym c.in_ok-other.ensures ∙ c.in-None.is))
