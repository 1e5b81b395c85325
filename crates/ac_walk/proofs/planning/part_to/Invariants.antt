use Rattle.ac_walk.specs.PartConstruction.{IsBegun}
use Rattle.ac_walk.proofs.planning.part_to.Given as goal

abbrev pub invariant-loop-at : goal.invariant-loop-at
invariant-loop-at l = IsBegun l.search l.order l.listed.claims.now l.listed.tabled.now l.at l.part
