-- What the method knows of the two programs: pairs, their steps, and what stands at a pair of positions.
use Rattle.std.specs.Prelude.{◌≡◌, ℕ, ℤ, List, length, Bool, true, false}
use Rattle.ac_syntax.specs.declared.tree.Order.{Order}
use Rattle.ac_forms.specs.declared.row.Row.{Row}

-- the positions are a pair, one in each program; a pair is positions with a point: a valuation and the instances of both
pub record Setting (K : Type 0) : Type 1 where
  -- the pairs from which all begins: an output against itself at one element and one valuation of the context
  pub Output : K → List ℤ → Type 0
  -- the step of a pair to a pair, under a order
  pub Step : Order → K → List ℤ → K → List ℤ → Type 0
  pub Mismatch : K → List ℤ → Type 0
  -- the point stands for instances of both positions, at a valuation of the context
  pub Instance : K → List ℤ → Type 0
  pub recurrent : K → Bool
  -- calls of one declared symbol on two arguments
  pub is_site : K → Bool
  pub template : K → List Row
  -- how many numbers a point at the positions has
  pub width : K → ℕ

-- what the laws of the method ask of it
pub record IsLawful {K : Type 0} (s : Setting K) : Type 0 where
  pub output_instance : (k : K) (p : List ℤ) → s.Output k p → s.Instance k p
  pub step_instance : (t : Order) (k : K) (p : List ℤ) (j : K) (q : List ℤ) → s.Step t k p j q → s.Instance j q
  pub instance_width : (k : K) (p : List ℤ) → s.Instance k p → length p ≡ s.width k
  -- an output has a step, and no step leads to it
  pub output_moves : (k : K) (p : List ℤ) → s.Output k p → (s.recurrent k ≡ false) × ¬ (s.Mismatch k p)
  -- a recurrence pair lies on a cycle, so it has a step, and is no mismatch
  pub moves : (k : K) (p : List ℤ) → s.recurrent k ≡ true → ¬ (s.Mismatch k p)
  -- where there is no site, the order says nothing
  pub plain : (t u : Order) (k : K) (p : List ℤ) (j : K) (q : List ℤ) → s.is_site k ≡ false → s.Step t k p j q → s.Step u k p j q
