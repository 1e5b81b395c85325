-- Where the values stand that two runs are compared on.
use Rattle.std.specs.Prelude.{ℕ, List, Option, Some, None, map, length}
use Rattle.ac_syntax.specs.Index.{index_value}
use Rattle.ac_syntax.specs.Trace.{Entry}
use Rattle.ac_syntax.specs.Algebra.{Algebra, Cell, run, value_of}
use Rattle.ac_syntax.specs.Source.{Writer}
use Rattle.ac_syntax.specs.ValueNodes.{size}
use Rattle.ac_syntax.specs.declared.tree.Place.{Place}
use Rattle.ac_syntax.specs.declared.tree.IndexExpr.{IndexExpr}
use Rattle.ac_syntax.specs.declared.tree.Value.{Value}
use Rattle.ac_syntax.specs.declared.tree.Value.TheVariants.{Access}

-- a cell at the end of a run, a part of an assignment's value where an entry takes it, or a cell at the beginning
pub data Spot : Type 0 where
  AtEnd : Cell → Spot
  AtNode : Writer → Value → Spot
  AtStart : Cell → Spot

-- the value there, in a run of the entries from a state
abbrev pub value_at : (a : Algebra) → List Entry → (Cell → a.Carrier) → Spot → a.Carrier
value_at a es state (AtEnd c) = run a es state c
value_at a es state (AtNode w v) = value_of a w.entry.point (run a w.earlier state) v
value_at a es state (AtStart c) = state c

-- the cell of an access at an entry
abbrev pub cell_at : Writer → ℕ → List IndexExpr → Cell
cell_at w array subs = record { array = array; at = map (index_value w.entry.point) subs }

-- a spot that reads a cell, after the entries before it
pub data Reads (es : List Entry) : Spot → Cell → List Entry → Type 0 where
  an_output : (c : Cell) → Reads es (AtEnd c) c es
  an_access : (w : Writer) (array : ℕ) (subs : List IndexExpr) (place : Place) → Reads es (AtNode w (Access array subs place)) (cell_at w array subs) w.earlier

-- where a read goes: to the root of its source, or to the beginning
abbrev pub resolved : Cell → Option Writer → Spot
resolved c None = AtStart c
resolved c (Some w) = AtNode w w.entry.value

-- the two measures that a step lowers: the entries before, then the size
abbrev pub entries_before : List Entry → Spot → ℕ
entries_before es (AtEnd c) = length es
entries_before es (AtNode w v) = length w.earlier
entries_before es (AtStart c) = 0

abbrev pub weight : Spot → ℕ
weight (AtEnd c) = 1
weight (AtNode w v) = size v
weight (AtStart c) = 0
