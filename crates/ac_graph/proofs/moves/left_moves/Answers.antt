use Rattle.std.proofs.Common.{subst, List}
use Rattle.ac_syntax.specs.declared.tree.Position.{Position}
use Rattle.ac_graph.specs.Reachability.{IsMore, IsLeftOf}
use Rattle.ac_graph.proofs.moves.left_moves.Goals as goal

pub returns : goal.returns
returns c = subst (λ (o : List (Position × Position)). IsMore (IsLeftOf c.args.edges.now c.args.pair.now) o c.push_left.new.out) c.new-out.ensures c.in_ok-push_left.ensures
