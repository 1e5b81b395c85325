use Rattle.std.proofs.Common.{◌≡◌, take, false}
use Rattle.ac_parse_rules.specs.Declarations.{is_declared}
use Rattle.ac_parse_rules.proofs.declare.is_declared.Given as goal

abbrev pub invariant-loop-entry : goal.invariant-loop-entry
invariant-loop-entry l = is_declared (take l.entry-index l.names) l.name ≡ false
