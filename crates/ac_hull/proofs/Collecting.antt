-- The numbers of a text, part by part.
use Rattle.std.proofs.Common.{◌≡◌, ℕ, ◌+◌, ℤ, pos, List, [], ◌∷◌, ◌++◌, refl, rules, ap, sym, ◌∙◌, append_assoc, append-nil}
use Rattle.std.specs.List.{flat_map}
use Rattle.ac_syntax.specs.declared.tree.Cond.{Cond}
use Rattle.ac_syntax.specs.declared.tree.IndexExpr.{IndexExpr}
use Rattle.ac_syntax.specs.declared.tree.Place.{Place}
use Rattle.ac_syntax.specs.declared.tree.Symbol.{Symbol}
use Rattle.ac_syntax.specs.declared.tree.Stmt.{Stmt, Row_of-Stmt, end_of-Stmt, more_of-Stmt, items-the_row-Stmt}
use Rattle.ac_syntax.specs.declared.tree.Stmt as stmt
use Rattle.ac_syntax.specs.declared.tree.Stmt.TheVariants.{For, If, Assign}
use Rattle.ac_syntax.specs.declared.tree.Value.{Value, Row_of-Value, end_of-Value, more_of-Value, items-the_row-Value}
use Rattle.ac_syntax.specs.declared.tree.Value as value
use Rattle.ac_syntax.specs.declared.tree.Value.TheVariants.{Number, Access, Call}
use Rattle.ac_hull.specs.declared.collected.Collected.TheVariants.{Step}
use Rattle.ac_base.proofs.Bits.{again_128}
use Rattle.ac_syntax.specs.declared.tree.Pair.{Pair}
use Rattle.ac_hull.specs.Thresholds.{near, thresholds_at, threshold_candidates}
use Rattle.ac_hull.specs.declared.collected.Collected.{Collected}
use Rattle.ac_hull.specs.ProgramConstants.{numbers_of_pair, numbers_of_form, numbers_of_forms, numbers_of_condition, numbers_of_value, numbers_of_arguments, numbers_of_statement, numbers_of_body}

value_row : (m : _) (k : Row_of-Value m) → numbers_of_arguments k ≡ flat_map numbers_of_value (items-the_row-Value m k)
unfolding numbers_of_value
value_row m end_of-Value = refl
value_row m (more_of-Value {n = n} v rest) = ap (λ k. numbers_of_value v ++ k) (value_row n rest)

pub value_number : (e : IndexExpr) → numbers_of_value (Number e) ≡ numbers_of_form e
unfolding numbers_of_value
value_number e = refl

pub value_access : (a : ℕ) (s : List IndexExpr) (p : Place) → numbers_of_value (Access a s p) ≡ numbers_of_forms s
unfolding numbers_of_value
value_access a s p = refl

pub value_call : (s : Symbol) (args : List Value) (p : Place) → numbers_of_value (Call s args p) ≡ flat_map numbers_of_value args
unfolding numbers_of_value
value_call s args p = search (rules, value.the_lemmas, value_row)

stmt_row : (m : _) (k : Row_of-Stmt m) → numbers_of_body k ≡ flat_map numbers_of_statement (items-the_row-Stmt m k)
unfolding numbers_of_statement
stmt_row m end_of-Stmt = refl
stmt_row m (more_of-Stmt {n = n} s rest) = ap (λ k. numbers_of_statement s ++ k) (stmt_row n rest)

pub statement_for : (iter : List ℕ) (start : IndexExpr) (cond : Cond) (step : ℤ) (body : List Stmt) (place : Place) → numbers_of_statement (For iter start cond step body place) ≡ numbers_of_form start ++ (Step step ∷ (numbers_of_condition cond ++ flat_map numbers_of_statement body))
unfolding numbers_of_statement
statement_for iter start cond step body place = search (rules, stmt.the_lemmas, stmt_row)

pub statement_if : (cond : Cond) (taken other : List Stmt) (place : Place) → numbers_of_statement (If cond taken other place) ≡ numbers_of_condition cond ++ (flat_map numbers_of_statement taken ++ flat_map numbers_of_statement other)
unfolding numbers_of_statement
statement_if cond taken other place = search (rules, stmt.the_lemmas, stmt_row)

pub statement_assign : (array : ℕ) (subs : List IndexExpr) (value : Value) (place : Place) → numbers_of_statement (Assign array subs value place) ≡ numbers_of_forms subs ++ numbers_of_value value
unfolding numbers_of_statement
statement_assign array subs value place = refl

pub ruleset collect_steps = (append_assoc, append-nil)

pub ruleset value_steps = (value_number, value_access, value_call)

pub ruleset statement_steps = (statement_for, statement_if, statement_assign, append_assoc)

pub ruleset near_steps = (append_assoc, again_128)

pub thresholds_joined : (pair : Pair) (ns : List Collected) (new zeros ones cs : List ℤ) → ns ≡ numbers_of_pair pair → new ≡ [] → zeros ≡ new ++ near (pos 0) → ones ≡ zeros ++ near (pos 1) → cs ≡ ones ++ flat_map thresholds_at ns
    → cs ≡ threshold_candidates pair
thresholds_joined pair ns new zeros ones cs is n z o c =
    let f : zeros ≡ near (pos 0) = z ∙ ap (λ t. t ++ near (pos 0)) n in
    c ∙ ap (λ t. t ++ flat_map thresholds_at ns) (o ∙ ap (λ t. t ++ near (pos 1)) f) ∙ append_assoc (near (pos 0)) (near (pos 1)) (flat_map thresholds_at ns) ∙ ap (λ t. near (pos 0) ++ (near (pos 1) ++ flat_map thresholds_at t)) is
