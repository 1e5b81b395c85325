use Rattle.std.specs.Prelude.{map}
use Rattle.ac_flow.specs.Writings.{writing}
use Rattle.ac_flow.proofs.WritingSteps.{Flat}
use Rattle.ac_flow.proofs.writings.push_levels.Given as goal

abbrev pub invariant-loop-before : goal.invariant-loop-before
invariant-loop-before l = Flat (λ before. map (writing l.u l.piece before) l.afters) l.fn.out l.before l.out
