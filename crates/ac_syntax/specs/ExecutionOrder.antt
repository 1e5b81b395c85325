-- The order of entries: the counters of the loops around both, the outermost first, and then the text.
use Rattle.std.specs.Prelude.{ℕ, zero, suc, ◌<◌, ◌≡◌, List, [], ◌∷◌, ℤ, ◌<ℤ◌, ◌⊎◌}
use Rattle.ac_syntax.specs.Trace.{Entry}
use Rattle.ac_syntax.specs.LoopNests.{loops_around, common}
use Rattle.ac_syntax.specs.declared.tree.Stmt.{Stmt}

-- c common loops, assignments i and j, counters x and y: the first common counters that differ rise, or none differs and
-- the text decides
abbrev pub Before : ℕ → ℕ → ℕ → List ℤ → List ℤ → Type 0
Before zero i j x y = i < j
Before (suc c) i j [] y = ⊥
Before (suc c) i j (k ∷ x) [] = ⊥
Before (suc c) i j (k ∷ x) (l ∷ y) = (k <ℤ l) ⊎ ((k ≡ l) × Before c i j x y)

-- how many loops of a program's body stand around two of its assignments
abbrev pub common_loops : List Stmt → ℕ → ℕ → ℕ
common_loops body i j = common (loops_around body i) (loops_around body j)

-- an entry of a program's body is before another
abbrev pub IsBefore : List Stmt → Entry → Entry → Type 0
IsBefore body e f = Before (common_loops body e.stmt f.stmt) e.stmt f.stmt e.counters f.counters
