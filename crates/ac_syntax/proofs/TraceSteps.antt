-- The trace of branches and assignments, at lists.
use Rattle.std.proofs.Common.{◌≡◌, ℕ, ◌+◌, List, [], ◌∷◌, refl, rules, ap, ◌∙◌, ℤ, sum_by, cond}
use Rattle.ac_syntax.specs.Index.{Point, holds}
use Rattle.ac_syntax.specs.Trace.{trace, trace_in, trace_all, assignments, assignments_in}
use Rattle.ac_syntax.specs.declared.tree.Place.{Place}
use Rattle.ac_syntax.specs.declared.tree.Cond.{Cond}
use Rattle.ac_syntax.specs.declared.tree.IndexExpr.{IndexExpr}
use Rattle.ac_syntax.specs.declared.tree.Value.{Value}
use Rattle.ac_syntax.specs.declared.tree.Stmt.{Stmt, Row_of-Stmt, items-the_row-Stmt, the_lemmas}
use Rattle.ac_syntax.specs.declared.tree.Stmt.TheVariants.{If, If', Assign}
use Rattle.ac_syntax.proofs.Traces.{row, trace_for}
use Rattle.ac_syntax.proofs.Assignments.{row as count_row}

trace_if_row : (c : Cond) (n : _) (taken : Row_of-Stmt _) (m : _) (other : Row_of-Stmt _) (place : Place) (first : ℕ) (p : Point) (cs : List ℤ)
    → trace (If' c n taken m other place) first p cs
    ≡ cond (holds p c) (trace_all (items-the_row-Stmt _ taken) first p cs) (trace_all (items-the_row-Stmt _ other) (first + sum_by assignments (items-the_row-Stmt _ taken)) p cs)
unfolding trace
trace_if_row c n taken m other place first p cs =
    ap (λ f. cond (holds p c) (f first p cs) (trace_in other (first + assignments_in taken) p cs)) (row _ taken)
    ∙ ap (λ f. cond (holds p c) (trace_all (items-the_row-Stmt _ taken) first p cs) (f (first + assignments_in taken) p cs)) (row _ other)
    ∙ ap (λ k. cond (holds p c) (trace_all (items-the_row-Stmt _ taken) first p cs) (trace_all (items-the_row-Stmt _ other) (first + k) p cs)) (count_row _ taken)

pub trace_if : (c : Cond) (taken other : List Stmt) (place : Place) (first : ℕ) (p : Point) (cs : List ℤ)
    → trace (If c taken other place) first p cs ≡ cond (holds p c) (trace_all taken first p cs) (trace_all other (first + sum_by assignments taken) p cs)
trace_if c taken other place first p cs = search (rules, the_lemmas, trace_if_row)

pub trace_assign : (array : ℕ) (subs : List IndexExpr) (value : Value) (place : Place) (first : ℕ) (p : Point) (cs : List ℤ)
    → trace (Assign array subs value place) first p cs ≡ record { stmt = first; counters = cs; point = p; array = array; subs = subs; value = value } ∷ []
unfolding trace
trace_assign array subs value place first p cs = refl

pub ruleset trace_steps = (trace_for, trace_if, trace_assign)
