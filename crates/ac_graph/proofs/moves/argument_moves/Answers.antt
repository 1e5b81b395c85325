use Rattle.std.proofs.Common.{◌∙◌, sym, ap, inl, [], option_map}
use Rattle.std.proofs.lemmas.Result.{IfOk-weaker}
use Rattle.ac_syntax.specs.Outputs.{swaps_of}
use Rattle.ac_graph.specs.PairMoves.{ArgumentMove}
use Rattle.ac_graph.specs.ProgramOutlines.{called}
use Rattle.ac_graph.specs.Reachability.{IsMore, IsArgumentMoveOf}
use Rattle.ac_graph.proofs.Linking.{call_linked}
use Rattle.ac_graph.proofs.MoveSteps.{argument_move, no_arguments}
use Rattle.ac_graph.proofs.moves.argument_moves.Goals as goal

pub returns-in-None : goal.returns-in-None
returns-in-None c = λ d h.
    no_arguments d c.args.pair.now c.new.result (inl (sym (call_linked d.programs.left c.args.both.now.left h.left c.args.pair.now.0) ∙ sym c.call_at.ensures ∙ ap (option_map called) c.in-None.is)) c.new.ensures

pub returns-in-Some-call_at : goal.returns-in-Some-call_at
returns-in-Some-call_at c = λ d h.
    IfOk-weaker c.moves_of_calls.result (IsMore (IsArgumentMoveOf (swaps_of c.args.both.now.commutative.now) (called c.in-Some.left) (called c.in-Some-call_at.right)) []) (IsMore (ArgumentMove d c.args.pair.now) [])
    (λ made m. argument_move d (swaps_of c.args.both.now.commutative.now) c.args.pair.now (called c.in-Some.left) (called c.in-Some-call_at.right) made h.swaps
    (sym (call_linked d.programs.left c.args.both.now.left h.left c.args.pair.now.0) ∙ sym c.call_at.ensures ∙ ap (option_map called) c.in-Some.is)
    (sym (call_linked d.programs.right c.args.both.now.right h.right c.args.pair.now.1) ∙ sym c.call_at-in-Some.ensures ∙ ap (option_map called) c.in-Some-call_at.is) m)
    c.moves_of_calls.ensures
