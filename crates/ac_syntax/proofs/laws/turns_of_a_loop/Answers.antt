use Rattle.ac_syntax.proofs.Ends.{turns_hold, turns_end}
use Rattle.ac_syntax.proofs.TurnRows.{turn_rows, rows_turn}
use Rattle.ac_syntax.proofs.laws.turns_of_a_loop.Goals as goal

pub returns-clause-hold : goal.returns-clause-hold
returns-clause-hold c = turns_hold

pub returns-clause-end : goal.returns-clause-end
returns-clause-end c = λ p start cond step b. turns_end p start cond step b.bound b.stands b.innermost b.ends b.steady

pub returns-clause-numbers : goal.returns-clause-numbers
returns-clause-numbers c = λ p start cond step b l s k. (rows_turn p start cond step k, λ h. turn_rows p start cond step b l s k h.0 h.1)
