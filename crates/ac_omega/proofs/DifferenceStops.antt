-- What stops a question of differences.
use Rattle.std.proofs.Common.{ℕ, ◌+◌, ◌*◌, ◌^◌, ◌≤◌, ◌<◌, ◌⊎◌, inl, inr, Result, Ok, Err, IfErr, arith}
use Rattle.ac_forms.specs.Rows.{IsWellMade}
use Rattle.ac_forms.specs.declared.conj.Conj.{Conj}
use Rattle.ac_omega.specs.declared.decision.Decision.{Decision}
use Rattle.ac_omega.specs.declared.halt.Halt.{Halt}
use Rattle.ac_omega.specs.declared.halt.Halt.TheVariants as halt
use Rattle.ac_omega.specs.declared.pieces.Stop.{Stop}
use Rattle.ac_omega.specs.declared.pieces.Stop.TheVariants as stop
use Rattle.ac_omega.specs.EliminationAnswers.{HandsBack}
use Rattle.ac_omega.specs.Decisions.{Decides, Settles, IsWide, IsSpent, IsLarge, walk_of}
use Rattle.ac_omega.specs.DifferenceRows.{AreDifferences, StopsBelow}
use Rattle.ac_omega.proofs.DifferenceQuestions.{never-wide, never-spent, never-large, point-tests}
use Rattle.ac_omega_certify.specs.declared.strategy.Strategy.{Strategy}

below-or-not : (a b : ℕ) → (a < b) ⊎ (b ≤ a)
below-or-not a b = grind arith

never-too-wide : (strategy : Strategy) (q : Conj) (budget : ℕ) → IsWellMade q → q.columns ≤ 60 → AreDifferences (2 ^ 48) q.rows → IsWide q (walk_of strategy budget q) → ⊥
never-too-wide strategy q budget made few are (inl e) = never-wide strategy budget q made few are e
never-too-wide strategy q budget made few are (inr x) = x.2 (point-tests strategy budget q x.0 made few are x.1)

spent-below : (strategy : Strategy) (q : Conj) (budget c : ℕ) → IsWellMade q → q.columns ≤ 60 → AreDifferences (2 ^ 48) q.rows → IsSpent c (walk_of strategy budget q) → budget < 2 * (q.columns + 1) ^ 3
spent-below strategy q budget c made few are h = by (below-or-not budget (2 * (q.columns + 1) ^ 3))
  where
    by : (budget < 2 * (q.columns + 1) ^ 3) ⊎ (2 * (q.columns + 1) ^ 3 ≤ budget) → budget < 2 * (q.columns + 1) ^ 3
    by (inl l) = l
    by (inr l) = absurd (never-spent strategy budget q h.0 made few are l h.1)

pub differences-settle : (strategy : Strategy) (result : Result Decision Stop) (q : Conj) (budget : ℕ) → IsWellMade q → Settles result q (walk_of strategy budget q) → q.columns ≤ 60 → AreDifferences (2 ^ 48) q.rows → IfErr result (StopsBelow q.columns budget)
differences-settle strategy (Ok d) q budget made h few are = tt
differences-settle strategy (Err (stop.Overflow c)) q budget made h few are = too-wide h.1
  where
    too-wide : IsWide q (walk_of strategy budget q) ⊎ IsLarge (walk_of strategy budget q) → ⊥
    too-wide (inl w) = never-too-wide strategy q budget made few are w
    too-wide (inr x) = let l = never-large strategy budget q x.0 x.1 made few are x.2 in omega (arith, l, x.3)
differences-settle strategy (Err (stop.Spent c k)) q budget made h few are = spent-below strategy q budget k made few are h.1
differences-settle strategy (Err (stop.Memory e)) q budget made h few are = tt

-- a halt of the walk, handed back
pub differences-halt : (strategy : Strategy) (s : Stop) (h : Halt) (q : Conj) (budget : ℕ) → IsWellMade q → HandsBack s h q → Decides (Err h) q (walk_of strategy budget q) → q.columns ≤ 60 → AreDifferences (2 ^ 48) q.rows → StopsBelow q.columns budget s
differences-halt strategy (stop.Overflow c) halt.Wide q budget made b d few are = never-too-wide strategy q budget made few are d
differences-halt strategy (stop.Overflow c) (halt.Spent k) q budget made b d few are = let e = b.0 in absurd cc
differences-halt strategy (stop.Overflow c) (halt.Memory e) q budget made b d few are = let f = b.0 in absurd cc
differences-halt strategy (stop.Spent c k) halt.Wide q budget made b d few are = let e = b.0 in absurd cc
differences-halt strategy (stop.Spent c k) (halt.Spent j) q budget made b d few are = spent-below strategy q budget j made few are d
differences-halt strategy (stop.Spent c k) (halt.Memory e) q budget made b d few are = let f = b.0 in absurd cc
differences-halt strategy (stop.Memory e) h q budget made b d few are = tt
