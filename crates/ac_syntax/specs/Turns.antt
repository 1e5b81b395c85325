-- The turns of a loop: how often its body runs, counted from the turn 0 until the condition first fails.
use Rattle.std.specs.Prelude.{ℕ, zero, suc, List, [], ◌∷◌, ◌++◌, ◌+◌, ◌≡◌, length, Bool, true, false, not, ℤ, pos, negsuc, ◌+ℤ◌, ◌*ℤ◌, if◌then◌else◌, sum_by, unsigned_abs, get_or}
use Rattle.std.specs.List.{Contains, AllByRecursion}
use Rattle.ac_syntax.specs.Index.{Point, index_value, holds, is_zero}
use Rattle.ac_syntax.specs.declared.tree.Rel.{Rel}
use Rattle.ac_syntax.specs.declared.tree.Rel.TheVariants.{NonNegative, Zero, Divides}
use Rattle.ac_syntax.specs.declared.tree.IndexExpr.{IndexExpr}
use Rattle.ac_syntax.specs.declared.tree.Comparison.{Comparison}
use Rattle.ac_syntax.specs.declared.tree.Cond.{Cond}

-- how many of the first n numbers pass before the first that does not
abbrev pub count_while : ℕ → (ℕ → Bool) → ℕ
count_while zero p = 0
count_while (suc n) p = if p 0 then suc (count_while n (λ k. p (suc k))) else 0

-- inside a loop whose iterator is x
abbrev pub inside : Point → ℤ → Point
inside p x = record { params = p.params; iters = p.iters ++ x ∷ [] }

-- the iterator of a loop in the turn with the number k
abbrev pub iterator_at : ℤ → ℤ → ℕ → ℤ
iterator_at start step k = start +ℤ (step *ℤ pos k)

-- no loop that ends makes more turns: each turn brings a comparison that bounds the iterator nearer to 0
abbrev pub bound_on_turns : Point → ℤ → Cond → ℕ
bound_on_turns p start cond = sum_by (λ c. suc (unsigned_abs (index_value (inside p start) c.form))) cond.parts

abbrev pub turns : Point → IndexExpr → Cond → ℤ → ℕ
turns p start cond step =
    let first = index_value p start in
    count_while (bound_on_turns p first cond) (λ k. holds (inside p (iterator_at first step k)) cond)

-- the last coefficient
abbrev pub innermost : List ℤ → ℤ
innermost [] = pos 0
innermost (c ∷ []) = c
innermost (c ∷ d ∷ cs) = innermost (d ∷ cs)

abbrev pub is_negative : ℤ → Bool
is_negative (pos n) = false
is_negative (negsuc n) = true

abbrev pub bounds_by : Rel → ℤ → Bool
bounds_by NonNegative z = is_negative z
bounds_by Zero z = not (is_zero z)
bounds_by (Divides m) z = false

-- a comparison that ends the loop: a form that is to stay at least 0 falls with each step, one that is to stay 0 changes
abbrev pub bounds : ℤ → Comparison → Bool
bounds step c = bounds_by c.rel (innermost c.form.iters *ℤ step)

-- the coefficient of the iterator of a loop inside n others
abbrev pub own : ℕ → List ℤ → ℤ
own n cs = get_or cs n (pos 0)

abbrev pub IsSteadyRel : ℕ → Rel → List ℤ → Type 0
IsSteadyRel n NonNegative cs = Unit {0}
IsSteadyRel n Zero cs = Unit {0}
IsSteadyRel n (Divides m) cs = own n cs ≡ pos 0

-- nothing that is rounded changes with that iterator
pub record IsSteady (n : ℕ) (c : Comparison) : Type 0 where
  pub quots : AllByRecursion (λ q. own n q.iters ≡ pos 0) c.form.quots
  pub rel : IsSteadyRel n c.rel c.form.iters

-- some comparison of the condition bounds the iterator of a loop inside n others
pub record Bounded (n : ℕ) (step : ℤ) (cond : Cond) : Type 0 where
  pub bound : Comparison
  pub stands : Contains cond.parts bound
  pub innermost : length bound.form.iters ≡ n + 1
  pub ends : bounds step bound ≡ true
  pub steady : IsSteady n bound
