use Rattle.std.proofs.Common.{ap, subst, sym}
use Rattle.ac_walk_state.specs.GrowthStep.{Takes}
use Rattle.ac_walk_state.specs.declared.growth.Growth.TheVariants.{Mismatch}
use Rattle.ac_walk_state.proofs.Taking.{taken_mismatch}
use Rattle.ac_walk_state.proofs.growth.take_mismatch.Goals as goal

pub returns-in-Ok-clause-takes : goal.returns-in-Ok-clause-takes
returns-in-Ok-clause-takes c =
    λ u t claims h.
    subst (Takes u t claims c.args.known c.args.begin.now c.args.path.now) (ap Mismatch (sym c.in-Ok.ensures)) (taken_mismatch u t claims c.args.known c.args.begin.now c.args.path.now h c.requires.steps c.requires.free)
