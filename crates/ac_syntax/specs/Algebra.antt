-- Cells and states, and a run over any values: the integers under a table of the symbols, or free terms.
use Rattle.std.specs.Prelude.{ℕ, List, [], ◌∷◌, map, Bool, ℤ, ◌==◌, ◌&&◌, if◌then◌else◌}
use Rattle.std.specs.Ordering.{int_eq}
use Rattle.std.specs.Cmp.Lexicographic.{pointwise}
use Rattle.ac_syntax.specs.Index.{Point, index_value}
use Rattle.ac_syntax.specs.Trace.{Entry}
use Rattle.ac_syntax.specs.declared.tree.Symbol.{Symbol}
use Rattle.ac_syntax.specs.declared.tree.Value.{Value, Row_of-Value, end_of-Value, more_of-Value}
use Rattle.ac_syntax.specs.declared.tree.Value.TheVariants.{Number, Access, Call'}

-- an array's number with an index vector
pub record Cell : Type 0 where
  pub array : ℕ
  pub at : List ℤ

abbrev pub same_cell : Cell → Cell → Bool
same_cell c d = (c.array == d.array) && pointwise int_eq c.at d.at

-- what a run computes with
pub record Algebra : Type 1 where
  pub Carrier : Type 0
  pub number : ℤ → Carrier
  pub call : Symbol → List Carrier → Carrier

-- the integers, where a table says what each symbol gives at each list of integers
abbrev pub integers : (Symbol → List ℤ → ℤ) → Algebra
integers table = record { Carrier = ℤ; number = λ n. n; call = table }

-- a number has the value of its index expression, an access what the state holds in its cell, a call what its symbol gives
unfoldable mutual
  pub value_of : (a : Algebra) → Point → (Cell → a.Carrier) → Value → a.Carrier
  value_of a p state (Number e) = a.number (index_value p e)
  value_of a p state (Access array subs place) = state (record { array = array; at = map (index_value p) subs })
  value_of a p state (Call' symbol n args place) = a.call symbol (values_of a p state args)

  pub values_of : (a : Algebra) → Point → (Cell → a.Carrier) → {m : _} → Row_of-Value m → List a.Carrier
  values_of a p state end_of-Value = []
  values_of a p state (more_of-Value v rest) = value_of a p state v ∷ values_of a p state rest

-- the state with one cell changed
abbrev pub store : {C : Type 0} → Cell → C → (Cell → C) → Cell → C
store at v state c = if same_cell c at then v else state c

-- the cell that an entry assigns
abbrev pub target : Entry → Cell
target e = record { array = e.array; at = map (index_value e.point) e.subs }

-- a run takes the entries in order, and stores the value of each root in its target
abbrev pub run : (a : Algebra) → List Entry → (Cell → a.Carrier) → Cell → a.Carrier
run a [] state = state
run a (e ∷ es) state = run a es (store (target e) (value_of a e.point state e.value) state)
