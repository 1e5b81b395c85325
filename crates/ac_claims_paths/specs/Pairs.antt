-- Pairs of positions of two programs, the steps of a pair, and when a pair is matched.
use Rattle.std.specs.Prelude.{ℕ, ◌≡◌, ◌+◌, ◌++◌, ◌⊎◌, List, [], ◌∷◌, ℤ, Bool, true, Option, Some, None, slice_get}
use Rattle.ac_syntax.specs.Algebra.{Cell}
use Rattle.ac_syntax.specs.Index.{index_value}
use Rattle.ac_syntax.specs.Source.{Writer, source}
use Rattle.ac_syntax.specs.Spot.{Spot, AtNode, AtStart, Reads}
use Rattle.ac_syntax.specs.Trace.{Entry}
use Rattle.ac_syntax.specs.declared.tree.IndexExpr.{IndexExpr}
use Rattle.ac_syntax.specs.declared.tree.Order.{Order}
use Rattle.ac_syntax.specs.declared.tree.Order.TheVariants.{Keep, Swap}
use Rattle.ac_syntax.specs.declared.tree.Position.{Position}
use Rattle.ac_syntax.specs.declared.tree.Position.TheVariants.{Node}
use Rattle.ac_syntax.specs.declared.tree.Symbol.{Symbol}
use Rattle.ac_syntax.specs.declared.tree.Value.{Value}
use Rattle.ac_syntax.specs.declared.tree.Value.TheVariants.{Number, Access, Call'}
use Rattle.ac_forms.specs.ListMembers.{IsAmong}
use Rattle.ac_forms.specs.Renaming.{picked}
use Rattle.ac_poly.specs.ModelNodes.{roots}
use Rattle.ac_claims_paths.specs.PathColumns.{columns_of}
use Rattle.ac_claims_paths.specs.Executions.{Execution, At}
use Rattle.ac_claims_paths.specs.OnPaths.{Compared, OnPath}
use Rattle.ac_claims_paths.specs.ModelPositions.{initial_of}
use Rattle.ac_claims_paths.specs.declared.path.Path.{Path}

-- a position at coordinates, those of an instance or of an element, and the spot that it names there
pub record Placed (x : Execution) : Type 0 where
  pub position : Position
  pub at : List ℤ
  pub spot : Spot
  pub here : At x position at spot

-- a pair of positions is one of each program, at one valuation

-- where a position is placed
pub record IsAt (x : Execution) (a : Placed x) (position : Position) (at : List ℤ) (spot : Spot) : Type 0 where
  pub position_is : a.position ≡ position
  pub at_is : a.at ≡ at
  pub spot_is : a.spot ≡ spot

-- an output or a read, which finds a cell behind some entries
abbrev pub IsReader : (x : Execution) → Placed x → Type 0
IsReader x a = (c : Cell) × (before : List Entry) × Reads x.trace a.spot c before

-- it goes to the root of its source, with the source's coordinates; where no entry writes the cell before, to its initial position
abbrev pub IsResolved : (x : Execution) → Placed x → Cell → Option Writer → Placed x → Type 0
IsResolved x a c None b = IsAt x b (initial_of a.position) a.at (AtStart c)
IsResolved x a c (Some w) b = IsAt x b (Node w.entry.stmt 0) (x.coords w.entry) (AtNode w w.entry.value)

abbrev pub ResolvesTo : (x : Execution) → Placed x → Placed x → Type 0
ResolvesTo x a b = (r : IsReader x a) × IsResolved x a r.0 (source r.0 r.1) b

-- a call of a symbol, whose root has the number `node`, with the numbers of its arguments' roots
abbrev pub IsCallOf : Value → ℕ → Symbol → List ℕ → Type 0
IsCallOf (Number e) node f ks = ⊥
IsCallOf (Access array subs place) node f ks = ⊥
IsCallOf (Call' g n args place) node f ks = (f ≡ g) × (ks ≡ roots args (node + 1))

pub record CallPlace (x : Execution) (a : Placed x) : Type 0 where
  pub stmt : ℕ
  pub node : ℕ
  pub writer : Writer
  pub value : Value
  pub symbol : Symbol
  pub arguments : List ℕ
  pub position_is : a.position ≡ Node stmt node
  pub spot_is : a.spot ≡ AtNode writer value
  pub is_call : IsCallOf value node symbol arguments

-- its argument with a number, at the coordinates of the call
pub record ArgumentPlace (x : Execution) (a : Placed x) (c : CallPlace x a) (k : ℕ) (b : Placed x) : Type 0 where
  pub root : ℕ
  pub root_is : slice_get c.arguments k ≡ Some root
  pub position_is : b.position ≡ Node c.stmt root
  pub at_is : b.at ≡ a.at

-- which arguments of two calls of a symbol meet: those with one number; or crossed, where the symbol's two arguments may be swapped
abbrev pub ArgumentsMeet : (Symbol → Bool) → Order → Symbol → ℕ → ℕ → Type 0
ArgumentsMeet swaps Keep f k l = k ≡ l
ArgumentsMeet swaps Swap f k l = (swaps f ≡ true) × (k + l ≡ 1)

-- the steps of a pair: of a read or an output on the left; else of one on the right; else of two calls of one symbol. The
-- order is that of the arguments; the other steps are taken by `Keep`
abbrev pub LeftStep : (g : Compared) → Order → Placed g.left → Placed g.right → Placed g.left → Placed g.right → Type 0
LeftStep g order a b a' b' = (order ≡ Keep) × ResolvesTo g.left a a' × IsAt g.right b' b.position b.at b.spot

abbrev pub RightStep : (g : Compared) → Order → Placed g.left → Placed g.right → Placed g.left → Placed g.right → Type 0
RightStep g order a b a' b' = (order ≡ Keep) × (¬ IsReader g.left a) × ResolvesTo g.right b b' × IsAt g.left a' a.position a.at a.spot

pub record CallStep (g : Compared) (order : Order) (a : Placed g.left) (b : Placed g.right) (a' : Placed g.left) (b' : Placed g.right) : Type 0 where
  pub left : CallPlace g.left a
  pub right : CallPlace g.right b
  pub one : left.symbol ≡ right.symbol
  pub left_number : ℕ
  pub right_number : ℕ
  pub meet : ArgumentsMeet g.pairing.swaps order left.symbol left_number right_number
  pub left_argument : ArgumentPlace g.left a left left_number a'
  pub right_argument : ArgumentPlace g.right b right right_number b'

abbrev pub StepsTo : (g : Compared) → Order → Placed g.left → Placed g.right → Placed g.left → Placed g.right → Type 0
StepsTo g order a b a' b' = LeftStep g order a b a' b' ⊎ (RightStep g order a b a' b' ⊎ CallStep g order a b a' b')

-- two numbers of equal value
pub record AreNumbers (g : Compared) (a : Placed g.left) (b : Placed g.right) : Type 0 where
  pub left : Writer
  pub right : Writer
  pub left_form : IndexExpr
  pub right_form : IndexExpr
  pub left_is : a.spot ≡ AtNode left (Number left_form)
  pub right_is : b.spot ≡ AtNode right (Number right_form)
  pub equal : index_value left.entry.point left_form ≡ index_value right.entry.point right_form

-- two calls of one symbol
abbrev pub AreCalls : (g : Compared) → Placed g.left → Placed g.right → Type 0
AreCalls g a b = (c : CallPlace g.left a) × (d : CallPlace g.right b) × (c.symbol ≡ d.symbol)

-- the initial contents of one cell of an input
abbrev pub AreOneInput : (g : Compared) → Placed g.left → Placed g.right → Type 0
AreOneInput g a b = (c : Cell) × (g.input c.array ≡ true) × (a.spot ≡ AtStart c) × (b.spot ≡ AtStart c)

-- a pair without reads and outputs is a match or a mismatch
abbrev pub IsMatch : (g : Compared) → Placed g.left → Placed g.right → Type 0
IsMatch g a b = AreCalls g a b ⊎ (AreNumbers g a b ⊎ AreOneInput g a b)

pub record IsMismatch (g : Compared) (a : Placed g.left) (b : Placed g.right) : Type 0 where
  pub left : ¬ IsReader g.left a
  pub right : ¬ IsReader g.right b
  pub apart : ¬ IsMatch g a b

-- a pair that stands at a point of a path
pub record StandsOn (g : Compared) (h : Path) (p : List ℤ) (a : Placed g.left) (b : Placed g.right) : Type 0 where
  pub on : OnPath g h p a.spot b.spot
  pub left : IsAt g.left a h.left.position (picked (columns_of h.left) p) a.spot
  pub right : IsAt g.right b h.right.position (picked (columns_of h.right) p) b.spot

-- a pair that stands on one of some paths, at a point that goes on from p
abbrev pub StandsBehind : (g : Compared) → List Path → List ℤ → Placed g.left → Placed g.right → Type 0
StandsBehind g hs p a b = (h : Path) × IsAmong h hs × (more : List ℤ) × StandsOn g h (p ++ more) a b
