-- The nodes of a table as contracts see them.
use Rattle.std.specs.Prelude.{◌≡◌, ℕ, ℤ, ◌≤◌, ◌^◌, List, length, slice_get, Some}
use Rattle.ac_syntax.specs.Algebra.{Cell}
use Rattle.ac_syntax.specs.Term as term
use Rattle.ac_terms.specs.declared.node.Leaf.{Leaf}
use Rattle.ac_terms.specs.declared.node.Leaf.TheVariants.{Input, LeftLocal, RightLocal}
use Rattle.ac_terms.specs.declared.node.Node.{Node}
use Rattle.ac_terms.specs.declared.node.Node.TheVariants.{Number, Initial, Call}
use Rattle.ac_terms.specs.Table.{Shape, number_of, initial_of, call_of}

abbrev pub cell : ℕ → List ℤ → Cell
cell array at = record { array = array; at = at }

-- the initial contents of a cell of the leaf's array
abbrev pub leaf_at : Leaf → List ℤ → term.Leaf
leaf_at (Input array) at = term.Input (cell array at)
leaf_at (LeftLocal array) at = term.LeftLocal (cell array at)
leaf_at (RightLocal array) at = term.RightLocal (cell array at)

abbrev pub shape : Node → Shape
shape (Number v) = number_of v
shape (Initial leaf at) = initial_of (leaf_at leaf at.items)
shape (Call name arity args) = call_of (record { name = name.items; arity = arity }) args.items

-- no two places have the same
pub record AreApart (places : List Shape) : Type 0 where
  pub one : (i j : ℕ) (s : Shape) → slice_get places i ≡ Some s → slice_get places j ≡ Some s → i ≡ j
  pub few : length places ≤ 2 ^ 32

-- each place has what it had
abbrev pub KeepsPlaces : List Shape → List Shape → Type 0
KeepsPlaces before now = (i : ℕ) (s : Shape) → slice_get before i ≡ Some s → slice_get now i ≡ Some s
