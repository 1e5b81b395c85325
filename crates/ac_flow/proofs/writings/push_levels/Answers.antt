use Rattle.std.specs.Prelude.{map}
use Rattle.ac_flow.specs.Writings.{writing}
use Rattle.ac_flow.proofs.WritingSteps.{flat_next}
use Rattle.ac_flow.proofs.writings.push_levels.Goals as goal

pub loop-before-preserved : goal.loop-before-preserved
loop-before-preserved c =
    flat_next (λ before. map (writing c.args.u c.args.piece before) c.args.afters.now) c.args.out.now c.loop-before.out c.push_afters.new.out c.loop-before.before c.loop-before.invariant c.in_ok-push_afters.ensures
