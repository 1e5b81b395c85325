use Rattle.std.proofs.Common.{◌≡◌, ◌∷◌, codes}
use Rattle.ac_gen.specs.Pipelines as spec
use Rattle.ac_gen.proofs.pipeline.arrays.Given as goal

abbrev pub invariant-loop-number : goal.invariant-loop-number
invariant-loop-number l = l.arrays ≡ spec.input (codes "B") ∷ spec.input (codes "C") ∷ spec.locals 0 l.number
