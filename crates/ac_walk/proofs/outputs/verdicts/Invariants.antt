use Rattle.std.proofs.Common.{take}
use Rattle.ac_walk.specs.VerdictCollection.{IsSearchedOf}
use Rattle.ac_walk.proofs.outputs.verdicts.Given as goal

abbrev pub invariant-loop-number : goal.invariant-loop-number
invariant-loop-number l = IsSearchedOf l.basis.program_flows.now.budget l.basis.pair.now (take l.number l.basis.pair.now.outputs) l.proved
