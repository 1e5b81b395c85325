-- What the number of a loop's turns means, in words.
use Rattle.std.specs.Prelude.{ℕ, ◌≡◌, ◌<◌, ◌+◌, ◌↔◌, length, Bool, true, false, ℤ}
use Rattle.std.specs.List.{AllByRecursion}
use Rattle.ac_syntax.specs.Index.{Point, index_value, holds}
use Rattle.ac_syntax.specs.Turns.{inside, iterator_at, turns, Bounded, IsSteady}
use Rattle.ac_syntax.specs.declared.tree.IndexExpr.{IndexExpr}
use Rattle.ac_syntax.specs.declared.tree.Comparison.{Comparison}
use Rattle.ac_syntax.specs.declared.tree.Cond.{Cond}

-- whether the condition of a loop holds in the turn with the number k
abbrev pub holds_in_turn : Point → IndexExpr → Cond → ℤ → ℕ → Bool
holds_in_turn p start cond step k = holds (inside p (iterator_at (index_value p start) step k)) cond

-- the condition holds in each turn
abbrev pub EachTurnHolds : Type 0
EachTurnHolds = (p : Point) (start : IndexExpr) (cond : Cond) (step : ℤ) (k : ℕ) → k < turns p start cond step → holds_in_turn p start cond step k ≡ true

-- where a comparison bounds the iterator, the turns end because the condition fails after the last
abbrev pub TurnsEnd : Type 0
TurnsEnd = (p : Point) (start : IndexExpr) (cond : Cond) (step : ℤ) → Bounded (length p.iters) step cond → holds_in_turn p start cond step (turns p start cond step) ≡ false

-- so where nothing that is rounded changes with the iterator, a number is that of a turn exactly where the condition holds at 0
-- and at that number
abbrev pub TurnsAreWhereTheConditionHolds : Type 0
TurnsAreWhereTheConditionHolds =
    (p : Point) (start : IndexExpr) (cond : Cond) (step : ℤ) → Bounded (length p.iters) step cond → AllByRecursion (λ (c : Comparison). length c.form.iters ≡ length p.iters + 1) cond.parts
    → AllByRecursion (IsSteady (length p.iters)) cond.parts → (k : ℕ) → (k < turns p start cond step) ↔ ((holds_in_turn p start cond step 0 ≡ true) × (holds_in_turn p start cond step k ≡ true))
