-- Which arrays statements assign, at lists.
use Rattle.std.proofs.Common.{◌≡◌, ℕ, List, ◌||◌, ◌==◌, refl, rules, ap, ℤ}
use Rattle.std.specs.List.{list_any}
use Rattle.ac_syntax.specs.declared.tree.Place.{Place}
use Rattle.ac_syntax.specs.declared.tree.Cond.{Cond}
use Rattle.ac_syntax.specs.declared.tree.IndexExpr.{IndexExpr}
use Rattle.ac_syntax.specs.declared.tree.Value.{Value}
use Rattle.ac_syntax.specs.declared.tree.Stmt.{Stmt, Row_of-Stmt, end_of-Stmt, more_of-Stmt, items-the_row-Stmt, the_lemmas}
use Rattle.ac_syntax.specs.declared.tree.Stmt.TheVariants.{For, If, Assign}
use Rattle.ac_parse.specs.AssignedArrays.{assigns, assigns_in}

row : (array : ℕ) (m : _) (k : Row_of-Stmt m) → assigns_in array k ≡ list_any (assigns array) (items-the_row-Stmt m k)
unfolding assigns
row array m end_of-Stmt = refl
row array m (more_of-Stmt {n = n} s rest) = ap (λ found. assigns array s || found) (row array n rest)

pub assigns_for : (array : ℕ) (iter : List ℕ) (start : IndexExpr) (cond : Cond) (step : ℤ) (body : List Stmt) (place : Place)
    → assigns array (For iter start cond step body place) ≡ list_any (assigns array) body
unfolding assigns
assigns_for array iter start cond step body place = search (rules, the_lemmas, row)

pub assigns_if : (array : ℕ) (cond : Cond) (taken other : List Stmt) (place : Place)
    → assigns array (If cond taken other place) ≡ (list_any (assigns array) taken || list_any (assigns array) other)
unfolding assigns
assigns_if array cond taken other place = search (rules, the_lemmas, row)

pub assigns_assign : (array target : ℕ) (subs : List IndexExpr) (value : Value) (place : Place) → assigns array (Assign target subs value place) ≡ (target == array)
unfolding assigns
assigns_assign array target subs value place = refl

pub ruleset assigned = (assigns_for, assigns_if, assigns_assign)
