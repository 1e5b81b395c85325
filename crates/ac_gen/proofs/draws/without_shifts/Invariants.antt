use Rattle.std.proofs.Common.{◌≡◌, map, take}
use Rattle.ac_gen.specs.Plain.{unshifted}
use Rattle.ac_gen.proofs.draws.without_shifts.Given as goal

abbrev pub invariant-loop-stage : goal.invariant-loop-stage
invariant-loop-stage l = l.plain.items ≡ map unshifted (take l.stage-index l.stages)
