use Rattle.ac_unfold_table.proofs.Tabling.{if_all}
use Rattle.ac_unfold_table.proofs.unfolding.unfold.Goals as goal

pub returns-clause-tabled : goal.returns-clause-tabled
returns-clause-tabled c = if_all c.planned.result _ c.in_ok-table_behind.ensures.tabled
