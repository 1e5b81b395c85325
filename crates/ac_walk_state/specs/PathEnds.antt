-- The end of a path.
use Rattle.std.specs.Prelude.{◌≡◌, List, [], ◌∷◌, ◌++◌}
use Rattle.ac_syntax.specs.declared.tree.Position.{Position}
use Rattle.ac_forms.specs.ListMembers.{IsAmong}
use Rattle.ac_widen.specs.declared.derivation.Entry.{Entry}

abbrev pub entry_positions : Entry → Position × Position
entry_positions e = (e.left, e.right)

-- the last entry of a path with a step
pub record IsEnd (path : List Entry) (e : Entry) : Type 0 where
  pub front : List Entry
  pub path_is : path ≡ front ++ e ∷ []
  pub steps : ¬ (front ≡ [])

-- the path has no step, or its end is at none of the pairs
abbrev pub EndsFree : List (Position × Position) → List Entry → Type 0
EndsFree pairs path = (e : Entry) → IsEnd path e → ¬ (IsAmong (entry_positions e) pairs)
