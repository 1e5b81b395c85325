-- What the assignment with a number says in the text. Assignments are numbered from `first` in the order of the text.
use Rattle.std.specs.Prelude.{ℕ, ◌+◌, List, [], ◌∷◌, Option, Some, None, nat_lt, if◌then◌else◌}
use Rattle.ac_syntax.specs.Trace.{Entry, assignments, assignments_in}
use Rattle.ac_syntax.specs.declared.tree.IndexExpr.{IndexExpr}
use Rattle.ac_syntax.specs.declared.tree.Value.{Value}
use Rattle.ac_syntax.specs.declared.tree.Stmt.{Stmt, Row_of-Stmt, end_of-Stmt, more_of-Stmt}
use Rattle.ac_syntax.specs.declared.tree.Stmt.TheVariants.{For', If', Assign}

pub record Assigned : Type 0 where
  pub array : ℕ
  pub subs : List IndexExpr
  pub value : Value

unfoldable mutual
  pub assigned : Stmt → ℕ → ℕ → Option Assigned
  assigned (For' iter start cond step n body place) first i = assigned_in body first i
  assigned (If' cond n taken m other place) first i = if nat_lt i (first + assignments_in taken) then assigned_in taken first i else assigned_in other (first + assignments_in taken) i
  assigned (Assign array subs value place) first i = Some (record { array = array; subs = subs; value = value })

  pub assigned_in : {m : _} → Row_of-Stmt m → ℕ → ℕ → Option Assigned
  assigned_in end_of-Stmt first i = None
  assigned_in (more_of-Stmt s rest) first i = if nat_lt i (first + assignments s) then assigned s first i else assigned_in rest (first + assignments s) i

abbrev pub assigned_all : List Stmt → ℕ → ℕ → Option Assigned
assigned_all [] first i = None
assigned_all (s ∷ ss) first i = if nat_lt i (first + assignments s) then assigned s first i else assigned_all ss (first + assignments s) i

-- what an entry executes
abbrev pub text_of : Entry → Assigned
text_of e = record { array = e.array; subs = e.subs; value = e.value }
