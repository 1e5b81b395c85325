-- The assignments that a program makes, in the order in which it makes them.
use Rattle.std.specs.Prelude.{ℕ, ◌+◌, List, [], ◌∷◌, ◌++◌, ℤ, pos, if◌then◌else◌}
use Rattle.std.specs.List.{flat_map, range_with_len}
use Rattle.ac_syntax.specs.Index.{Point, point, index_value, holds}
use Rattle.ac_syntax.specs.Turns.{inside, iterator_at, turns}
use Rattle.ac_syntax.specs.declared.tree.IndexExpr.{IndexExpr}
use Rattle.ac_syntax.specs.declared.tree.Cond.{Cond}
use Rattle.ac_syntax.specs.declared.tree.Value.{Value}
use Rattle.ac_syntax.specs.declared.tree.Stmt.{Stmt, Row_of-Stmt, end_of-Stmt, more_of-Stmt}
use Rattle.ac_syntax.specs.declared.tree.Stmt.TheVariants.{For', If', Assign}

-- One execution of an assignment: its number in the text, the numbers of the turns that it stands in, the values of the
-- parameters and iterators, and what it does.
pub record Entry : Type 0 where
  pub stmt : ℕ
  pub counters : List ℤ
  pub point : Point
  pub array : ℕ
  pub subs : List IndexExpr
  pub value : Value

-- how many assignments stand in the text
unfoldable mutual
  pub assignments : Stmt → ℕ
  assignments (For' iter start cond step n body place) = assignments_in body
  assignments (If' cond n taken m other place) = assignments_in taken + assignments_in other
  assignments (Assign array subs value place) = 1

  pub assignments_in : {m : _} → Row_of-Stmt m → ℕ
  assignments_in end_of-Stmt = 0
  assignments_in (more_of-Stmt s rest) = assignments s + assignments_in rest

-- what a body does in each turn
unfoldable pub each_turn : (Point → List ℤ → List Entry) → Point → IndexExpr → Cond → ℤ → List ℤ → List Entry
each_turn body p start cond step counters =
    flat_map (λ k. body (inside p (iterator_at (index_value p start) step k)) (counters ++ pos k ∷ [])) (range_with_len 0 (turns p start cond step))

-- a loop gives its body's entries once a turn, with the number of the turn as a further counter; a branch gives one side
unfoldable mutual
  pub trace : Stmt → ℕ → Point → List ℤ → List Entry
  trace (For' iter start cond step n body place) first p counters =
      each_turn (trace_in body first) p start cond step counters
  trace (If' cond n taken m other place) first p counters =
      if holds p cond then trace_in taken first p counters else trace_in other (first + assignments_in taken) p counters
  trace (Assign array subs value place) first p counters =
      record { stmt = first; counters = counters; point = p; array = array; subs = subs; value = value } ∷ []

  pub trace_in : {m : _} → Row_of-Stmt m → ℕ → Point → List ℤ → List Entry
  trace_in end_of-Stmt first p counters = []
  trace_in (more_of-Stmt s rest) first p counters = trace s first p counters ++ trace_in rest (first + assignments s) p counters

-- several statements, one after another
abbrev pub trace_all : List Stmt → ℕ → Point → List ℤ → List Entry
trace_all [] first p counters = []
trace_all (s ∷ ss) first p counters = trace s first p counters ++ trace_all ss (first + assignments s) p counters

-- the trace of a program's body at a valuation of its parameters
abbrev pub trace_of : List Stmt → List ℤ → List Entry
trace_of body params = trace_all body 0 (point params []) []
