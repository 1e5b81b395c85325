-- What marking keeps: which nodes are found, and that their marks are set.
use Rattle.std.specs.Prelude.{ℕ, ◌≡◌, ◌↔◌, ◌⊎◌, ◌<◌, List, [], ◌∷◌, ◌++◌, Option, Some, None, slice_get, Bool, false}
use Rattle.ac_forms.specs.ListMembers.{IsAmong}
use Rattle.ac_graph.specs.Ways.{IsMarked}

abbrev pub mark_of : Option Bool → Bool
mark_of None = false
mark_of (Some mark) = mark

-- whether the mark of a node is set
abbrev pub is_marked : List Bool → ℕ → Bool
is_marked marks v = mark_of (slice_get marks v)

-- all of them are below a number
abbrev pub AreBelow : ℕ → List ℕ → Type 0
AreBelow n [] = Unit {0}
AreBelow n (k ∷ ks) = (k < n) × AreBelow n ks

-- the marks of those that are found are set, and no others
abbrev pub AreMatched : List Bool → List ℕ → Type 0
AreMatched marks found = (v : ℕ) → IsMarked marks v ↔ IsAmong v found

-- those of some nodes that were not found stand behind those that were, and their marks are set
pub record AreAdded (nodes old new : List ℕ) (marks : List Bool) : Type 0 where
  pub more : List ℕ
  pub is : new ≡ old ++ more
  pub has : (v : ℕ) → IsAmong v new → IsAmong v old ⊎ IsAmong v nodes
  pub keeps : (v : ℕ) → IsAmong v nodes → IsAmong v new
  pub matched : AreMatched marks new
