use Rattle.std.proofs.Common.{◌++◌, [], ◌∷◌, codes, ap, ◌∙◌}
use Rattle.ac_gen.specs.Pipelines as spec
use Rattle.ac_gen.proofs.Listed.{locals_next}
use Rattle.ac_gen.proofs.pipeline.arrays.Goals as goal

pub loop-number-preserved : goal.loop-number-preserved
loop-number-preserved c =
    c.in_ok-push-3.ensures.ok
    ∙ (λ j. c.loop-number.invariant j ++ c.in_ok-local.ensures j ∷ [])
    ∙ ap (λ ls. spec.input (codes "B") ∷ spec.input (codes "C") ∷ ls) (locals_next c.loop-number.number)
