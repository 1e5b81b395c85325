use Rattle.std.proofs.Common.{◌≡◌, drop}
use Rattle.ac_parse_exprs.specs.Meanings.{declared_meaning}
use Rattle.ac_parse_exprs.proofs.scope.declared_meaning.Given as goal

abbrev pub invariant-loop-entry : goal.invariant-loop-entry
invariant-loop-entry l = declared_meaning (drop l.entry-index l.names) l.name ≡ declared_meaning l.names l.name
