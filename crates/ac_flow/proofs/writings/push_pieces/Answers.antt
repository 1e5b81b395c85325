use Rattle.std.specs.Prelude.{map}
use Rattle.std.specs.List.{flat_map}
use Rattle.ac_flow.specs.Writings.{writing, numbers_to}
use Rattle.ac_flow.proofs.WritingSteps.{flat_next}
use Rattle.ac_flow.proofs.writings.push_pieces.Goals as goal

pub loop-piece-preserved : goal.loop-piece-preserved
loop-piece-preserved c =
    flat_next (λ piece. flat_map (λ before. map (writing c.args.u piece before) c.args.afters.now) (numbers_to c.args.levels)) c.args.out.now c.loop-piece.out c.push_levels.new.out c.loop-piece.piece c.loop-piece.invariant c.in_ok-push_levels.ensures
