-- How many loops are around two assignments, by recursion on the text; it is the length of the common beginning of their loops.
use Rattle.std.proofs.Common.{ℕ, suc, ◌+◌, List, [], ◌∷◌, Bool, true, false, cond}
use Rattle.std.specs.Prelude.{nat_lt}
use Rattle.ac_syntax.specs.Trace.{assignments, assignments_in}
use Rattle.ac_syntax.specs.declared.tree.Stmt.{Stmt, Row_of-Stmt, end_of-Stmt, more_of-Stmt}
use Rattle.ac_syntax.specs.declared.tree.Stmt.TheVariants.{For', If', Assign}

-- of two parts of a text that meet at one place: the value of the part that holds both assignments, or 0
abbrev pub in_part : Bool → Bool → ℕ → ℕ → ℕ
in_part true true low high = low
in_part true false low high = 0
in_part false true low high = 0
in_part false false low high = high

unfoldable mutual
  pub around_both : Stmt → ℕ → ℕ → ℕ → ℕ
  around_both (For' iter start cond step n body place) first i j = suc (around_both_in body first i j)
  around_both (If' cond n taken m other place) first i j =
      in_part (nat_lt i (first + assignments_in taken)) (nat_lt j (first + assignments_in taken)) (around_both_in taken first i j) (around_both_in other (first + assignments_in taken) i j)
  around_both (Assign array subs value place) first i j = 0

  pub around_both_in : {m : _} → Row_of-Stmt m → ℕ → ℕ → ℕ → ℕ
  around_both_in end_of-Stmt first i j = 0
  around_both_in (more_of-Stmt s rest) first i j =
      in_part (nat_lt i (first + assignments s)) (nat_lt j (first + assignments s)) (around_both s first i j) (around_both_in rest (first + assignments s) i j)

abbrev pub around_both_all : List Stmt → ℕ → ℕ → ℕ → ℕ
around_both_all [] first i j = 0
around_both_all (s ∷ ss) first i j = in_part (nat_lt i (first + assignments s)) (nat_lt j (first + assignments s)) (around_both s first i j) (around_both_all ss (first + assignments s) i j)
