use Rattle.std.proofs.Common.{◌≡◌, ◌≤◌, ◌<◌, ◌++◌, ◌∷◌, ℕ, List, decimal}
use Rattle.ac_legal_text.proofs.heads.levels_at.Given as goal

abbrev pub invariant-loop-levels : goal.invariant-loop-levels
invariant-loop-levels l = (levels : ℕ) → 1 ≤ levels → levels < l.levels → (rest : List ℕ) → ¬ (l.text ≡ decimal levels ++ 10 ∷ rest)
