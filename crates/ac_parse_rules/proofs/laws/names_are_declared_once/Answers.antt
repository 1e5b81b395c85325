use Rattle.ac_parse_rules.proofs.DeclaredOnce.{declared_once, names_mean_their_own}
use Rattle.ac_parse_rules.proofs.UsedNames.{none_is_undeclared}
use Rattle.ac_parse_rules.proofs.laws.names_are_declared_once.Goals as goal

pub returns-clause-once : goal.returns-clause-once
returns-clause-once c = declared_once

pub returns-clause-used : goal.returns-clause-used
returns-clause-used c = none_is_undeclared

pub returns-clause-own : goal.returns-clause-own
returns-clause-own c = names_mean_their_own
