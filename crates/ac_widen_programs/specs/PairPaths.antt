-- The pairs of a pair path at a point of a question, and when the pair path leads there by steps.
use Rattle.std.specs.Prelude.{ℕ, ◌≡◌, ◌≤◌, ◌++◌, List, [], ◌∷◌, ℤ, Bool, length, map}
use Rattle.ac_forms.specs.Renaming.{picked}
use Rattle.ac_forms.specs.Rows.{Meets}
use Rattle.ac_forms.specs.declared.row.Row.{Row}
use Rattle.ac_syntax.specs.declared.tree.Order.{Order}
use Rattle.ac_syntax.specs.declared.tree.Pair.{Pair}
use Rattle.ac_syntax.specs.declared.tree.Position.{Position}
use Rattle.ac_claims.specs.declared.types.Claim.{Claim}
use Rattle.ac_claims_paths.specs.PathColumns.{base, columns_of}
use Rattle.ac_claims_paths.specs.declared.path.Path.{Path}
use Rattle.ac_claims_paths.specs.declared.path.Seat.{Seat}
use Rattle.ac_widen.specs.DerivationPaths.{StepsOn}
use Rattle.ac_widen.specs.Setting.{Setting}
use Rattle.ac_widen_programs.specs.PairSetting.{PairAt, setting}
use Rattle.ac_widen_programs.specs.PairPoints.{AreSeen}

-- ---- pairs of seats

-- the pair of seats of a path
abbrev pub seats_of : Path → Seat × Seat
seats_of q = (q.left, q.right)

-- the positions of a pair of seats
abbrev pub positions_of : Seat × Seat → Position × Position
positions_of s = (s.0.position, s.1.position)

-- its point, where a question has a point: the parameters, and the coordinates of the left and of the right position
abbrev pub point_of : ℕ → List ℤ → Seat × Seat → List ℤ
point_of params p s = picked (base params ++ (columns_of s.0 ++ columns_of s.1)) p

abbrev pub pair_of : ℕ → List ℤ → Seat × Seat → (Position × Position) × List ℤ
pair_of params p s = (positions_of s, point_of params p s)

-- ---- what is unfolded

-- the steps of two programs under an order, from the pairs of a claim on; and what else a setting of them says
pub record Unfolding : Type 0 where
  pub pair : Pair
  pub order : Position × Position → Order
  pub claim : Claim
  pub outputs : List ℕ
  pub recurrent : Position × Position → Bool
  pub template : Position × Position → List Row

abbrev pub setting_of : Unfolding → Setting (Position × Position)
setting_of u = setting u.pair u.outputs u.recurrent u.template

abbrev pub params_of : Unfolding → ℕ
params_of u = length u.pair.left.params

-- one of the pairs of the claim, from which all begins: both positions stand there, and the claim's rows hold
pub record IsOfClaim (u : Unfolding) (positions : Position × Position) (p : List ℤ) : Type 0 where
  pub left_is : positions.0 ≡ u.claim.left
  pub right_is : positions.1 ≡ u.claim.right
  pub there : PairAt u.pair positions p
  pub meets : Meets u.claim.rows p

-- ---- pair paths

-- the last one of a list that begins with x
abbrev pub last_of : {A : Type 0} → A → List A → A
last_of x [] = x
last_of x (y ∷ ys) = last_of y ys

-- both positions of the pair of seats stand at their coordinates, at a valuation of the context
abbrev pub StandThere : Unfolding → List ℤ → Seat × Seat → Type 0
StandThere u p s = AreSeen u.pair (picked (base (params_of u)) p) s.0.position (picked (columns_of s.0) p) s.1.position (picked (columns_of s.1) p)

-- at one point the first pair of a pair path is one of the claim, each goes to the next one by a step, and the last one stands on the path
pub record ComesTo (u : Unfolding) (pair_path : List (Seat × Seat)) (q : Path) (p : List ℤ) : Type 0 where
  pub first : Seat × Seat
  pub rest : List (Seat × Seat)
  pub pair_path_is : pair_path ≡ first ∷ rest
  pub last_is : last_of first rest ≡ seats_of q
  pub start : IsOfClaim u (positions_of first) (point_of (params_of u) p first)
  pub steps : StepsOn (setting_of u) u.order (positions_of first) (point_of (params_of u) p first) (map (pair_of (params_of u) p) rest)
  pub here : StandThere u p (seats_of q)

-- so it is at each point of a question; further columns may stand behind its own
abbrev pub Leads : Unfolding → List (Seat × Seat) → Path → Type 0
Leads u pair_path q = (p : List ℤ) → q.conj.columns ≤ length p → Meets q.conj.rows p → ComesTo u pair_path q p
