use Rattle.std.proofs.Common.{◌≡◌, drop}
use Rattle.ac_parse_exprs.specs.Meanings.{iterator_number}
use Rattle.ac_parse_exprs.proofs.scope.iterator_number.Given as goal

abbrev pub invariant-loop-k : goal.invariant-loop-k
invariant-loop-k l = iterator_number (drop l.k l.iterators) l.name ≡ iterator_number l.iterators l.name
