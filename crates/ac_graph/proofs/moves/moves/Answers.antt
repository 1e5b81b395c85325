use Rattle.std.proofs.Common.{[]}
use Rattle.std.proofs.lemmas.Result.{IfOk-weaker}
use Rattle.ac_graph.specs.PairMoves.{Moves, ArgumentMove}
use Rattle.ac_graph.specs.Reachability.{IsMore, IsLeftOf, IsRightOf}
use Rattle.ac_graph.proofs.Linking.{reads, reads_not}
use Rattle.ac_graph.proofs.MoveSteps.{left_alone, right_alone, calls_alone}
use Rattle.ac_graph.proofs.moves.moves.Goals as goal

pub returns-then-is_reader : goal.returns-then-is_reader
returns-then-is_reader c = λ d h.
    IfOk-weaker c.left_moves.result (IsMore (IsLeftOf c.args.edges.now.left.now c.args.pair.now) []) (IsMore (Moves d c.args.pair.now) [])
    (λ made m. left_alone d c.args.pair.now c.args.edges.now.left.now made h.left (reads d.programs.left c.args.edges.now.both.now.left c.args.pair.now.0 c.is_reader.result h.programs.left c.is_reader.ensures c.if-is_reader.true) m)
    c.left_moves.ensures

pub returns-then-is_reader-2 : goal.returns-then-is_reader-2
returns-then-is_reader-2 c = λ d h.
    IfOk-weaker c.right_moves.result (IsMore (IsRightOf c.args.edges.now.right.now c.args.pair.now) []) (IsMore (Moves d c.args.pair.now) [])
    (λ made m. right_alone d c.args.pair.now c.args.edges.now.right.now made h.right
    (reads_not d.programs.left c.args.edges.now.both.now.left c.args.pair.now.0 c.is_reader.result h.programs.left c.is_reader.ensures c.if-is_reader.false)
    (reads d.programs.right c.args.edges.now.both.now.right c.args.pair.now.1 c.is_reader-else-is_reader.result h.programs.right c.is_reader-else-is_reader.ensures c.if-is_reader-2.true) m)
    c.right_moves.ensures

pub returns-else-is_reader-2 : goal.returns-else-is_reader-2
returns-else-is_reader-2 c = λ d h.
    IfOk-weaker c.argument_moves.result (IsMore (ArgumentMove d c.args.pair.now) []) (IsMore (Moves d c.args.pair.now) [])
    (λ made m. calls_alone d c.args.pair.now made
    (reads_not d.programs.left c.args.edges.now.both.now.left c.args.pair.now.0 c.is_reader.result h.programs.left c.is_reader.ensures c.if-is_reader.false)
    (reads_not d.programs.right c.args.edges.now.both.now.right c.args.pair.now.1 c.is_reader-else-is_reader.result h.programs.right c.is_reader-else-is_reader.ensures c.if-is_reader-2.false) m)
    (c.argument_moves.ensures d h.programs)
