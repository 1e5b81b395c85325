-- A program at a valuation of its parameters, and the spots that its positions name at the coordinates of an instance or of
-- an element.
use Rattle.std.specs.Prelude.{ℕ, ◌≡◌, List, ℤ, Some}
use Rattle.ac_syntax.specs.Trace.{Entry}
use Rattle.ac_syntax.specs.Algebra.{Cell}
use Rattle.ac_syntax.specs.Source.{Writer, Stands}
use Rattle.ac_syntax.specs.ValueNodes.{node_of}
use Rattle.ac_syntax.specs.Spot.{Spot, AtEnd, AtNode, AtStart, cell_at}
use Rattle.ac_syntax.specs.declared.tree.Place.{Place}
use Rattle.ac_syntax.specs.declared.tree.IndexExpr.{IndexExpr}
use Rattle.ac_syntax.specs.declared.tree.Value.{Value}
use Rattle.ac_syntax.specs.declared.tree.Value.TheVariants.{Access}
use Rattle.ac_syntax.specs.declared.tree.Position.{Position}
use Rattle.ac_syntax.specs.declared.tree.Position.TheVariants.{Output, Node, InitialOutput, InitialNode}

-- the trace, which elements an output has, and what the coordinates of an entry are
pub record Execution : Type 1 where
  pub trace : List Entry
  pub inside : ℕ → List ℤ → Type 0
  pub coords : Entry → List ℤ

-- the entry of an instance
pub record InstanceAt (x : Execution) (number : ℕ) (at : List ℤ) (w : Writer) : Type 0 where
  pub stands : Stands x.trace w
  pub stmt : w.entry.stmt ≡ number
  pub coords : x.coords w.entry ≡ at

abbrev pub element : ℕ → List ℤ → Cell
element array at = record { array = array; at = at }

-- the spot of a position at its coordinates
unfoldable pub At : Execution → Position → List ℤ → Spot → Type 0
At x (Output o) at s = x.inside o at × (s ≡ AtEnd (element o at))
At x (Node stmt node) at s = (w : Writer) × InstanceAt x stmt at w × (v : Value) × (node_of w.entry.value node ≡ Some v) × (s ≡ AtNode w v)
At x (InitialOutput o) at s = x.inside o at × (s ≡ AtStart (element o at))
At x (InitialNode stmt node) at s =
    (w : Writer) × InstanceAt x stmt at w × (array : ℕ) × (subs : List IndexExpr) × (place : Place) × (node_of w.entry.value node ≡ Some (Access array subs place)) × (s ≡ AtStart (cell_at w array subs))
