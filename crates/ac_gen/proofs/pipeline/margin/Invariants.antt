use Rattle.std.proofs.Common.{◌≡◌, ◌≤◌, ◌+◌, ◌*◌, drop}
use Rattle.ac_gen.specs.Pipelines as spec
use Rattle.ac_gen.proofs.pipeline.margin.Given as goal

abbrev pub invariant-loop-stage : goal.invariant-loop-stage
invariant-loop-stage l = (l.sum + spec.margin (drop l.stage-index l.stages) ≡ spec.margin l.stages) × (l.sum ≤ 255 * l.stage-index)
