-- Flows, graphs and the numbers of template rows, as the search knows them.
use Rattle.std.proofs.Common.{◌≡◌, ◌↔◌, subst}
use Rattle.ac_syntax.specs.declared.tree.Pair.{Pair}
use Rattle.ac_syntax.specs.declared.tree.Position.{Position}
use Rattle.ac_poly.specs.Model.{model_of}
use Rattle.ac_poly.specs.declared.types.Model.{Model}
use Rattle.ac_forms.specs.ListMembers.{IsAmong}
use Rattle.ac_claims.specs.Soundness.{ArePaired}
use Rattle.ac_flow.specs.Readers.{AreFlows, readers}
use Rattle.ac_flow.specs.declared.types.Flow.{Flow}
use Rattle.ac_graph.specs.PairMoves.{IsEdge, AreReached, AreRecurrent, dependences, starts_of}
use Rattle.ac_graph.specs.GraphMeaning.{HaveFlows}
use Rattle.ac_graph.specs.declared.types.Graph.{Graph}
use Rattle.ac_walk_state.specs.GraphWidenings.{IsGraphOf}

pub have_flows : (pair : Pair) (left right : Model) (f g : Flow) → ArePaired pair → left ≡ model_of pair.left pair.context → right ≡ model_of pair.right pair.context → AreFlows left (readers left) f.reads → AreFlows right (readers right) g.reads → HaveFlows pair f g
have_flows pair left right f g t a b x y = record {
  paired = t;
  left_are = subst (λ (m : Model). AreFlows m (readers m) f.reads) a x;
  right_are = subst (λ (m : Model). AreFlows m (readers m) g.reads) b y;
}

pub is_graph : (pair : Pair) (left right : Flow) (graph : Graph) → ((p q : Position) → IsAmong (p, q) graph.left_edges ↔ IsEdge left p q) → ((p q : Position) → IsAmong (p, q) graph.right_edges ↔ IsEdge right p q)
    → AreReached (dependences pair graph.left_edges graph.right_edges) (starts_of pair.outputs) graph.reachable → AreRecurrent (dependences pair graph.left_edges graph.right_edges) graph.reachable graph.recurrent → IsGraphOf pair left right graph
is_graph pair left right graph l r a b = record { left_are = l; right_are = r; reachable_are = a; recurrent_are = b }
