use Rattle.ac_flow.specs.Writings.{writing}
use Rattle.ac_flow.proofs.WritingSteps.{Mapped}
use Rattle.ac_flow.proofs.writings.push_afters.Given as goal

abbrev pub invariant-loop-after : goal.invariant-loop-after
invariant-loop-after l = Mapped (writing l.u l.piece l.before) l.afters l.fn.out l.after-index l.out
