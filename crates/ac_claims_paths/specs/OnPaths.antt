-- The points of a path, and the pairs of spots that stand there.
use Rattle.std.specs.Prelude.{ℕ, ◌≡◌, List, ℤ, length, Bool, true, Option, Some, None, slice_get}
use Rattle.ac_syntax.specs.Algebra.{Cell}
use Rattle.ac_syntax.specs.Source.{Writer, source}
use Rattle.ac_syntax.specs.Spot.{Spot, Reads}
use Rattle.ac_syntax.specs.Trace.{Entry}
use Rattle.ac_poly.specs.Model.{is_input}
use Rattle.ac_omega_steps.specs.IntegerPoints.{IsPoint}
use Rattle.ac_forms.specs.Renaming.{picked}
use Rattle.ac_claims_paths.specs.PathColumns.{base, columns_of}
use Rattle.ac_claims_paths.specs.Executions.{Execution, InstanceAt, At, Describes}
use Rattle.ac_claims_paths.specs.PathSteps.{Pairing}
use Rattle.ac_claims_paths.specs.CopyKills.{assignment_at}
use Rattle.ac_claims_paths.specs.declared.path.Assumed.{Assumed}
use Rattle.ac_claims_paths.specs.declared.path.Path.{Path}
use Rattle.ac_claims_paths.specs.declared.path.Seat.{Seat}
use Rattle.ac_claims_paths.specs.declared.path.Side.{Side}
use Rattle.ac_claims_paths.specs.declared.path.Side.TheVariants.{Left, Right}

-- two programs at a valuation of their parameters, with the models that describe them; `input` says which arrays are inputs
pub record Compared : Type 1 where
  pub pairing : Pairing
  pub params : List ℤ
  pub left : Execution
  pub right : Execution
  pub input : ℕ → Bool
  pub count : pairing.params ≡ length params
  pub describes_left : Describes pairing.left params left
  pub describes_right : Describes pairing.right params right
  pub inputs : (a : ℕ) → is_input (slice_get pairing.left.kinds a) ≡ true → input a ≡ true

abbrev pub execution_of : Compared → Side → Execution
execution_of g Left = g.left
execution_of g Right = g.right

-- the spot of a seat at a point
abbrev pub AtSeat : Execution → Seat → List ℤ → Spot → Type 0
AtSeat x seat p s = At x seat.position (picked (columns_of seat) p) s

-- a read or an output, and what it reads
pub record ReaderAt (x : Execution) (seat : Seat) (p : List ℤ) : Type 0 where
  pub spot : Spot
  pub cell : Cell
  pub before : List Entry
  pub here : AtSeat x seat p spot
  pub reads : Reads x.trace spot cell before

-- its source is the one that is assumed
abbrev pub SourceAt : Execution → Option Seat → List ℤ → Cell → List Entry → Type 0
SourceAt x None p cell before = source cell before ≡ None
SourceAt x (Some seat) p cell before = (w : Writer) × (source cell before ≡ Some w) × InstanceAt x (assignment_at seat) (picked (columns_of seat) p) w

abbrev pub LastAt : Compared → Option Assumed → List ℤ → Type 0
LastAt g None p = Unit {0}
LastAt g (Some a) p = (r : ReaderAt (execution_of g a.side) a.reader p) × SourceAt (execution_of g a.side) a.source p r.cell r.before

-- a point of a path: its rows hold, its first columns are the parameters, its positions stand at two spots, and what was assumed last is so
pub record OnPath (g : Compared) (h : Path) (p : List ℤ) (s t : Spot) : Type 0 where
  pub point : IsPoint h.conj p
  pub starts : picked (base g.pairing.params) p ≡ g.params
  pub left : AtSeat g.left h.left p s
  pub right : AtSeat g.right h.right p t
  pub last : LastAt g h.last p
