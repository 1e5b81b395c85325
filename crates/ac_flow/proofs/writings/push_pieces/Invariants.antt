use Rattle.std.specs.Prelude.{map}
use Rattle.std.specs.List.{flat_map}
use Rattle.ac_flow.specs.Writings.{writing, numbers_to}
use Rattle.ac_flow.proofs.WritingSteps.{Flat}
use Rattle.ac_flow.proofs.writings.push_pieces.Given as goal

abbrev pub invariant-loop-piece : goal.invariant-loop-piece
invariant-loop-piece l = Flat (λ piece. flat_map (λ before. map (writing l.u piece before) l.afters) (numbers_to l.levels)) l.fn.out l.piece l.out
