use Rattle.std.proofs.Common.{◌≡◌, ◌++◌, drop}
use Rattle.ac_gen.specs.Pipelines as spec
use Rattle.ac_gen.proofs.Listed.{loops_from}
use Rattle.ac_gen.proofs.pipeline.body.Given as goal

abbrev pub invariant-loop-i : goal.invariant-loop-i
invariant-loop-i l = (l.body ++ loops_from l.source l.i (drop l.i l.stages) ≡ loops_from 0 0 l.stages) × (l.margin ≡ spec.margin (drop l.i l.stages))
