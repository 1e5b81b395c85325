-- The lines of statements, over lists of statements.
use Rattle.std.proofs.Common.{◌≡◌, ℕ, ℤ, List, ◌∷◌, ◌++◌, codes, refl, rules, ap, sym, ◌∙◌}
use Rattle.std.specs.List.{flat_map}
use Rattle.ac_syntax.specs.Text.{Scope, line, loop_text, branch_text, assignment_text, inside, deeper, stmt_text, body_text, else_text}
use Rattle.ac_syntax.specs.PrinterTerms.{else_lines}
use Rattle.ac_syntax.specs.declared.tree.Place.{Place}
use Rattle.ac_syntax.specs.declared.tree.Cond.{Cond}
use Rattle.ac_syntax.specs.declared.tree.IndexExpr.{IndexExpr}
use Rattle.ac_syntax.specs.declared.tree.Value.{Value}
use Rattle.ac_syntax.specs.declared.tree.Stmt.{Stmt, Row_of-Stmt, end_of-Stmt, more_of-Stmt, items-the_row-Stmt, the_lemmas}
use Rattle.ac_syntax.specs.declared.tree.Stmt.TheVariants.{For, If, Assign}

body_row : (scope : Scope) (indent : List ℕ) (m : _) (k : Row_of-Stmt m) → body_text scope indent k ≡ flat_map (stmt_text scope indent) (items-the_row-Stmt m k)
unfolding stmt_text
body_row scope indent m end_of-Stmt = refl
body_row scope indent m (more_of-Stmt {n = n} s rest) = ap (λ k. stmt_text scope indent s ++ k) (body_row scope indent n rest)

else_some : (scope : Scope) (indent : List ℕ) (s : Stmt) (other : List Stmt)
    → else_lines scope indent (s ∷ other) ≡ line indent (codes "} else {") ++ (stmt_text scope (deeper indent) s ++ flat_map (stmt_text scope (deeper indent)) other)
else_some scope indent s other = refl

else_row : (scope : Scope) (indent : List ℕ) (m : _) (k : Row_of-Stmt m) → else_text scope indent k ≡ else_lines scope indent (items-the_row-Stmt m k)
unfolding stmt_text
else_row scope indent m end_of-Stmt = refl
else_row scope indent m (more_of-Stmt {n = n} s rest) =
    ap (λ k. line indent (codes "} else {") ++ (stmt_text scope (deeper indent) s ++ k)) (body_row scope (deeper indent) n rest)
    ∙ sym (else_some scope indent s (items-the_row-Stmt n rest))

pub text_for : (scope : Scope) (indent iter : List ℕ) (start : IndexExpr) (cond : Cond) (step : ℤ) (body : List Stmt) (place : Place)
    → stmt_text scope indent (For iter start cond step body place)
    ≡ line indent (loop_text scope iter start cond step) ++ flat_map (stmt_text (inside scope iter) (deeper indent)) body ++ line indent (codes "}")
unfolding stmt_text
text_for scope indent iter start cond step body place = search (rules, the_lemmas, body_row)

pub text_if : (scope : Scope) (indent : List ℕ) (cond : Cond) (taken other : List Stmt) (place : Place)
    → stmt_text scope indent (If cond taken other place)
    ≡ line indent (branch_text scope cond) ++ flat_map (stmt_text scope (deeper indent)) taken ++ else_lines scope indent other ++ line indent (codes "}")
unfolding stmt_text
text_if scope indent cond taken other place = search (rules, the_lemmas, body_row, else_row)

pub text_assign : (scope : Scope) (indent : List ℕ) (array : ℕ) (subs : List IndexExpr) (value : Value) (place : Place)
    → stmt_text scope indent (Assign array subs value place) ≡ line indent (assignment_text scope array subs value)
unfolding stmt_text
text_assign scope indent array subs value place = refl

pub ruleset stmt_texts_are = (text_for, text_if, text_assign)
