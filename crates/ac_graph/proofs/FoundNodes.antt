-- The nodes that are found from a node.
use Rattle.std.specs.Prelude.{ℕ, ◌≡◌, ◌<◌, List, length, Some, slice_get, Bool}
use Rattle.ac_forms.specs.ListMembers.{IsAmong}
use Rattle.ac_graph.specs.Ways.{Leads, Edge}
use Rattle.ac_graph.specs.NodeMarks.{AreMatched}

-- the nodes that are found from a node, where the edges of the first of them are followed
pub record IsSpreading (next : List (List ℕ)) (from at : ℕ) (marks : List Bool) (found : List ℕ) : Type 0 where
  pub wide : length marks ≡ length next
  pub matched : AreMatched marks found
  pub sound : (v : ℕ) → IsAmong v found → Leads (Edge next) from v
  pub first : (v : ℕ) → Edge next from v → IsAmong v found
  pub closed : (j u v : ℕ) → j < at → slice_get found j ≡ Some u → Edge next u v → IsAmong v found
