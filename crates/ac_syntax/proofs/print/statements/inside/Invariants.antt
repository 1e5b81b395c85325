use Rattle.std.proofs.Common.{◌≡◌, take}
use Rattle.ac_syntax.proofs.print.statements.inside.Given as goal

abbrev pub invariant-loop-name : goal.invariant-loop-name
invariant-loop-name l = l.names ≡ take l.name-index l.iters
