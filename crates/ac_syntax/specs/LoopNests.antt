-- The loops around an assignment, from the outside in. Loops are numbered from 0 in the order of the text.
use Rattle.std.specs.Prelude.{ℕ, suc, ◌+◌, List, [], ◌∷◌, nat_lt, if◌then◌else◌, ◌==◌}
use Rattle.ac_syntax.specs.Trace.{assignments, assignments_in}
use Rattle.ac_syntax.specs.declared.tree.Stmt.{Stmt, Row_of-Stmt, end_of-Stmt, more_of-Stmt}
use Rattle.ac_syntax.specs.declared.tree.Stmt.TheVariants.{For', If', Assign}

-- how many loops stand in the text
unfoldable mutual
  pub loop_count : Stmt → ℕ
  loop_count (For' iter start cond step n body place) = suc (loop_count_in body)
  loop_count (If' cond n taken m other place) = loop_count_in taken + loop_count_in other
  loop_count (Assign array subs value place) = 0

  pub loop_count_in : {m : _} → Row_of-Stmt m → ℕ
  loop_count_in end_of-Stmt = 0
  loop_count_in (more_of-Stmt s rest) = loop_count s + loop_count_in rest

-- the loops around the assignment i, where assignments are numbered from `first` and loops from l
unfoldable mutual
  pub loops : Stmt → ℕ → ℕ → ℕ → List ℕ
  loops (For' iter start cond step n body place) first l i = l ∷ loops_in body first (suc l) i
  loops (If' cond n taken m other place) first l i = if nat_lt i (first + assignments_in taken) then loops_in taken first l i else loops_in other (first + assignments_in taken) (l + loop_count_in taken) i
  loops (Assign array subs value place) first l i = []

  pub loops_in : {m : _} → Row_of-Stmt m → ℕ → ℕ → ℕ → List ℕ
  loops_in end_of-Stmt first l i = []
  loops_in (more_of-Stmt s rest) first l i = if nat_lt i (first + assignments s) then loops s first l i else loops_in rest (first + assignments s) (l + loop_count s) i

abbrev pub loops_all : List Stmt → ℕ → ℕ → ℕ → List ℕ
loops_all [] first l i = []
loops_all (s ∷ ss) first l i = if nat_lt i (first + assignments s) then loops s first l i else loops_all ss (first + assignments s) (l + loop_count s) i

-- the loops around the assignment i of a program's body
abbrev pub loops_around : List Stmt → ℕ → List ℕ
loops_around body i = loops_all body 0 0 i

-- how many loops stand around both: the common beginning of two lists
abbrev pub common : List ℕ → List ℕ → ℕ
common [] ms = 0
common (l ∷ ls) [] = 0
common (l ∷ ls) (m ∷ ms) = if l == m then suc (common ls ms) else 0
