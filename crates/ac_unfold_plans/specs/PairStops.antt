-- Plans that stop on each path of a pair of positions.
use Rattle.std.specs.Prelude.{ℕ, ◌≡◌, List, [], ◌∷◌, Bool, true, false}
use Rattle.ac_syntax.specs.declared.tree.Order.{Order}
use Rattle.ac_syntax.specs.declared.tree.Pair.{Pair}
use Rattle.ac_syntax.specs.declared.tree.Position.{Position}
use Rattle.ac_claims_paths.specs.declared.path.Path.{Path}
use Rattle.ac_claims.specs.declared.types.Plan.{Plan}
use Rattle.ac_claims.specs.declared.types.PlanNext.{PlanNext}
use Rattle.ac_unfold_plans.specs.PlanStops.{positions_at, PlanStops, Stops}

-- at which pairs of positions plans of two programs stop, in which order they take arguments, and which claims they end at
pub record Stopped : Type 0 where
  pub pair : Pair
  pub order : Position × Position → Order
  pub recurrent : Position × Position → Bool
  pub part : ℕ → Bool

-- what comes behind steps stops on each path of the pair of positions, behind a step (true) or before the first one (false)
abbrev pub StopsOn : Stopped → Position × Position → Bool → PlanNext → Type 0
StopsOn g positions gone x = (h : Path) → positions_at h ≡ positions → h.gone ≡ gone → Stops g.pair g.order g.recurrent g.part x h

-- so it does on each path
abbrev pub StopsAnywhere : PlanNext → Type 0
StopsAnywhere x = (g : Stopped) (positions : Position × Position) (gone : Bool) → StopsOn g positions gone x

-- a plan stops on each path of the pair before the first step
abbrev pub StopsFrom : Stopped → Position × Position → Plan → Type 0
StopsFrom g positions t = (h : Path) → positions_at h ≡ positions → h.gone ≡ false → PlanStops g.pair g.order g.recurrent g.part t h

-- a plan may go on from the pair: no step was taken yet, or it is no recurrence pair
abbrev pub MayGoOnFrom : Stopped → Position × Position → Bool → Type 0
MayGoOnFrom g positions gone = gone ≡ true → g.recurrent positions ≡ false

-- each plan stops from the pair of its branch, behind a step
abbrev pub StopEach : Stopped → List Path → List Plan → Type 0
StopEach g [] [] = Unit {0}
StopEach g (b ∷ bs) (t ∷ ts) = StopsOn g (positions_at b) true t.next × StopEach g bs ts
StopEach g _ _ = ⊥
