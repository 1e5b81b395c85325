-- Ways along a relation, and graphs whose nodes are numbers.
use Rattle.std.specs.Prelude.{ℕ, ◌≡◌, ◌↔◌, ◌<◌, List, length, Some, slice_get, Bool, true}
use Rattle.ac_forms.specs.ListMembers.{IsAmong}

-- one step at least leads from the first to the second
pub data Leads {A : Type 0} (R : A → A → Type 0) : A → A → Type 0 where
  one : (p q : A) → R p q → Leads R p q
  more : (p q s : A) → Leads R p q → R q s → Leads R p s

-- a graph is a list: for each node, by its number, the nodes to which an edge leads
abbrev pub Edge : List (List ℕ) → ℕ → ℕ → Type 0
Edge next i j = (nodes : List ℕ) × (slice_get next i ≡ Some nodes) × IsAmong j nodes

-- each edge leads to a node
pub record IsGraph (next : List (List ℕ)) : Type 0 where
  pub within : (i j : ℕ) → Edge next i j → j < length next

-- the mark of a node is set
abbrev pub IsMarked : List Bool → ℕ → Type 0
IsMarked marks v = slice_get marks v ≡ Some true

-- a mark for each node, set exactly where edges lead to it from a node
pub record AreMarks (next : List (List ℕ)) (from : ℕ) (marks : List Bool) : Type 0 where
  pub wide : length marks ≡ length next
  pub marked : (v : ℕ) → IsMarked marks v ↔ Leads (Edge next) from v

-- a mark for each node, set exactly where it lies on a cycle
pub record AreCyclic (next : List (List ℕ)) (marks : List Bool) : Type 0 where
  pub wide : length marks ≡ length next
  pub marked : (v : ℕ) → IsMarked marks v ↔ Leads (Edge next) v v

-- the edges alone that lead from a marked node to a marked one
pub record IsWithin (next : List (List ℕ)) (marks : List Bool) (made : List (List ℕ)) : Type 0 where
  pub wide : length made ≡ length next
  pub edges : (i j : ℕ) → Edge made i j ↔ (Edge next i j × IsMarked marks i × IsMarked marks j)

-- all edges but those that lead to a marked node
pub record IsOutside (next : List (List ℕ)) (marks : List Bool) (made : List (List ℕ)) : Type 0 where
  pub wide : length made ≡ length next
  pub edges : (i j : ℕ) → Edge made i j ↔ (Edge next i j × ¬ (IsMarked marks j))

-- a number for each node, which falls along each edge to a node that is on no cycle
pub record AreFalling (next : List (List ℕ)) (ranks : List ℕ) : Type 0 where
  pub wide : length ranks ≡ length next
  pub falls : (i j r s : ℕ) → Edge next i j → ¬ (Leads (Edge next) j j) → slice_get ranks i ≡ Some r → slice_get ranks j ≡ Some s → s < r
