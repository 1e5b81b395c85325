use Rattle.std.proofs.Common.{◌≡◌, ◌∙◌, sym, true, rules}
use Rattle.ac_syntax.specs.Outputs.{swaps_of}
use Rattle.ac_claims_paths.proofs.CallSteps.{symbol_is}
use Rattle.ac_graph.specs.ProgramOutlines.{called}
use Rattle.ac_graph.proofs.MoveSteps.{calls_of_one}
use Rattle.ac_graph.proofs.moves.moves_of_calls.Goals as goal

pub returns : goal.returns
returns c =
    let t : c.same_symbol.result ≡ true = search rules in
    calls_of_one (swaps_of c.args.both.now.commutative.now) (called c.args.left.now) (called c.args.right.now) c.new-out.result c.push_arguments.new.out
    (symbol_is c.args.left.now.symbol.now c.args.right.now.symbol.now (sym c.same_symbol.ensures ∙ t)) c.new-out.ensures c.in_ok-push_arguments.ensures
