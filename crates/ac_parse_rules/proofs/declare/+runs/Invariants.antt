use Rattle.std.proofs.Common.{◌≡◌, take, false}
use Rattle.std.specs.List.{list_any}
use Rattle.ac_parse_rules.specs.Declarations.{runs}
use Rattle.ac_parse_rules.proofs.declare.+runs.Given as goal

abbrev pub invariant-runs_any-loop-statement : goal.invariant-runs_any-loop-statement
invariant-runs_any-loop-statement l = list_any (runs l.name) (take l.statement-index l.statements) ≡ false
