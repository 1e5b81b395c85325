use Rattle.ac_walk.specs.SearchTables.{IsTable}
use Rattle.ac_walk.proofs.tabling.fill.Given as goal

abbrev pub invariant-loop-at : goal.invariant-loop-at
invariant-loop-at l = IsTable l.search l.order l.fn.claims.items l.table
