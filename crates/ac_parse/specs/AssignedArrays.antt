-- Which arrays statements assign.
use Rattle.std.specs.Prelude.{ℕ, Bool, false, ◌||◌, ◌==◌}
use Rattle.ac_syntax.specs.declared.tree.Stmt.{Stmt, Row_of-Stmt, end_of-Stmt, more_of-Stmt}
use Rattle.ac_syntax.specs.declared.tree.Stmt.TheVariants.{For', If', Assign}

-- an assignment of the array with this number stands in the statement
unfoldable mutual
  pub assigns : ℕ → Stmt → Bool
  assigns array (For' iter start cond step n body place) = assigns_in array body
  assigns array (If' cond n taken m other place) = assigns_in array taken || assigns_in array other
  assigns array (Assign target subs value place) = target == array

  pub assigns_in : ℕ → {m : _} → Row_of-Stmt m → Bool
  assigns_in array end_of-Stmt = false
  assigns_in array (more_of-Stmt s rest) = assigns array s || assigns_in array rest
