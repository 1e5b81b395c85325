-- What the items of values and statements spell.
use Rattle.std.specs.Prelude.{Bool, true, false, codes, slice_get, if◌then◌else◌}
use Rattle.std.specs.Fmt.{decimal}
use Rattle.std.proofs.Common.{◌≡◌, ℕ, suc, List, [], ◌∷◌, ◌++◌, map, refl, sym, ◌∙◌, ap, append_assoc, ℤ, pos, negsuc}
use Rattle.std.proofs.lemmas.List.{append-nil}
use Rattle.ac_syntax.specs.Text.{Scope, inside, deeper, array_name, is_operator, is_decimal}
use Rattle.ac_syntax.specs.Text as text
use Rattle.ac_syntax.specs.declared.tree.IndexExpr.{IndexExpr}
use Rattle.ac_syntax.specs.declared.tree.Cond.{Cond}
use Rattle.ac_syntax.specs.declared.tree.Value.{Value, Row_of-Value, end_of-Value, more_of-Value}
use Rattle.ac_syntax.specs.declared.tree.Value.TheVariants.{Number, Access, Call'}
use Rattle.ac_syntax.specs.declared.tree.Stmt.{Stmt, Row_of-Stmt, end_of-Stmt, more_of-Stmt}
use Rattle.ac_syntax.specs.declared.tree.Stmt.TheVariants.{For', If', Assign}
use Rattle.ac_lex.specs.declared.tokens.TokenKind.TheVariants as kind
use Rattle.ac_parse_roundtrip.specs.Items.{Item, blank, token, spelled, space, mark, word, in_parentheses, joined, form, cond, subscripts, function, operation, call, value, values, line, step, loop, assignment, branch, otherwise, stmt, body, other_branch}
use Rattle.ac_parse_roundtrip.proofs.ItemSpelling.{spelled_append, spelled_joined, spelled_enclosed, spelled_form, spelled_cond, spelled_subscripts, join_map}

-- ---- values

spelled_function : (name : List ℕ) (args : List (List Item)) → spelled (function name args) ≡ text.function_text name (map spelled args)
spelled_function name args = by_test (is_decimal name)
  where
    inner : spelled (in_parentheses (joined (mark (codes ",") ∷ space ∷ []) args)) ≡ text.in_parentheses (text.joined (codes ", ") (map spelled args))
    inner =
        spelled_enclosed (codes "(") (joined (mark (codes ",") ∷ space ∷ []) args) (codes ")")
        ∙ ap text.in_parentheses (spelled_joined (λ part. part) (mark (codes ",") ∷ space ∷ []) args ∙ sym (join_map spelled (codes ", ") args))

    by_test : (t : Bool) → spelled (if t then token kind.Decimal name ∷ [] else word name ∷ in_parentheses (joined (mark (codes ",") ∷ space ∷ []) args))
        ≡ (if t then name else name ++ text.in_parentheses (text.joined (codes ", ") (map spelled args)))
    by_test true = append-nil name
    by_test false = ap (λ l. name ++ l) inner

spelled_operation : (name : List ℕ) (args : List (List Item)) → spelled (operation name args) ≡ text.operation_text name (map spelled args)
spelled_operation name [] = spelled_function name []
spelled_operation name (a ∷ []) = spelled_enclosed (codes "(") (mark name ∷ a) (codes ")")
spelled_operation name (a ∷ b ∷ []) =
    spelled_enclosed (codes "(") (a ++ space ∷ mark name ∷ space ∷ b) (codes ")")
    ∙ ap text.in_parentheses (spelled_append a (space ∷ mark name ∷ space ∷ b) ∙ simp append_assoc)
spelled_operation name (a ∷ b ∷ c ∷ args) = spelled_function name (a ∷ b ∷ c ∷ args)

spelled_call : (name : List ℕ) (args : List (List Item)) → spelled (call name args) ≡ text.call_text name (map spelled args)
spelled_call name args = by_test (is_operator name)
  where
    by_test : (t : Bool) → spelled (if t then operation name args else function name args)
        ≡ (if t then text.operation_text name (map spelled args) else text.function_text name (map spelled args))
    by_test true = spelled_operation name args
    by_test false = spelled_function name args

mutual
  unfolding value text.value_text

  pub spelled_value : (scope : Scope) (v : Value) → spelled (value scope v) ≡ text.value_text scope v
  spelled_value scope (Number e) = spelled_enclosed (codes "(") (form scope e) (codes ")") ∙ ap text.in_parentheses (spelled_form scope e)
  spelled_value scope (Access array subs place) = ap (λ l. array_name (slice_get scope.arrays array) ++ l) (spelled_subscripts scope subs)
  spelled_value scope (Call' symbol n args place) = spelled_call symbol.name (values scope args) ∙ ap (text.call_text symbol.name) (spelled_values scope args)

  spelled_values : (scope : Scope) {m : _} (k : Row_of-Value m) → map spelled (values scope k) ≡ text.value_texts scope k
  spelled_values scope end_of-Value = refl
  spelled_values scope (more_of-Value v rest) = ap (λ l. l ∷ map spelled (values scope rest)) (spelled_value scope v) ∙ ap (λ l. text.value_text scope v ∷ l) (spelled_values scope rest)

-- ---- statements

pub spelled_three : (a b c : List Item) → spelled (a ++ b ++ c) ≡ spelled a ++ spelled b ++ spelled c
spelled_three a b c = spelled_append (a ++ b) c ∙ ap (λ l. l ++ spelled c) (spelled_append a b)

pub spelled_four : (a b c d : List Item) → spelled (a ++ b ++ c ++ d) ≡ spelled a ++ spelled b ++ spelled c ++ spelled d
spelled_four a b c d = spelled_append (a ++ b ++ c) d ∙ ap (λ l. l ++ spelled d) (spelled_three a b c)

pub spelled_line : (indent : List ℕ) (items : List Item) → spelled (line indent items) ≡ text.line indent (spelled items)
spelled_line indent items = ap (λ l. indent ++ l) (spelled_append items (blank (10 ∷ []) ∷ [])) ∙ sym (append_assoc indent (spelled items) (10 ∷ []))

spelled_step : (by : ℤ) → spelled (step by) ≡ text.step_text by
spelled_step (pos n) = ap (λ l. codes " += " ++ l) (append-nil (decimal n))
spelled_step (negsuc n) = ap (λ l. codes " -= " ++ l) (append-nil (decimal (suc n)))

loop_shape : (iter s c t : List ℕ)
    → (codes "for (int " ++ (iter ++ (codes " = " ++ s))) ++ (codes "; " ++ c) ++ (codes "; " ++ (iter ++ t)) ++ codes ") {"
    ≡ codes "for (int " ++ iter ++ codes " = " ++ s ++ codes "; " ++ c ++ codes "; " ++ iter ++ t ++ codes ") {"
loop_shape iter s c t = simp append_assoc

loop_parts : (iter : List ℕ) (s c t : List Item)
    → spelled (word (codes "for") ∷ space ∷ mark (codes "(") ∷ word (codes "int") ∷ space ∷ word iter ∷ space ∷ mark (codes "=") ∷ space ∷ s
    ++ mark (codes ";") ∷ space ∷ c ++ mark (codes ";") ∷ space ∷ word iter ∷ t ++ mark (codes ")") ∷ space ∷ mark (codes "{") ∷ [])
    ≡ codes "for (int " ++ iter ++ codes " = " ++ spelled s ++ codes "; " ++ spelled c ++ codes "; " ++ iter ++ spelled t ++ codes ") {"
loop_parts iter s c t =
    spelled_four (word (codes "for") ∷ space ∷ mark (codes "(") ∷ word (codes "int") ∷ space ∷ word iter ∷ space ∷ mark (codes "=") ∷ space ∷ s)
    (mark (codes ";") ∷ space ∷ c) (mark (codes ";") ∷ space ∷ word iter ∷ t) (mark (codes ")") ∷ space ∷ mark (codes "{") ∷ [])
    ∙ loop_shape iter (spelled s) (spelled c) (spelled t)

spelled_loop : (scope : Scope) (iter : List ℕ) (start : IndexExpr) (c : Cond) (by : ℤ) → spelled (loop scope iter start c by) ≡ text.loop_text scope iter start c by
spelled_loop scope iter start c by =
    loop_parts iter (form scope start) (cond (inside scope iter) c) (step by)
    ∙ ap (λ l. codes "for (int " ++ iter ++ codes " = " ++ l ++ codes "; " ++ spelled (cond (inside scope iter) c) ++ codes "; " ++ iter ++ spelled (step by) ++ codes ") {") (spelled_form scope start)
    ∙ ap (λ l. codes "for (int " ++ iter ++ codes " = " ++ text.form_text scope start ++ codes "; " ++ l ++ codes "; " ++ iter ++ spelled (step by) ++ codes ") {") (spelled_cond (inside scope iter) c)
    ∙ ap (λ l. codes "for (int " ++ iter ++ codes " = " ++ text.form_text scope start ++ codes "; " ++ text.cond_text (inside scope iter) c ++ codes "; " ++ iter ++ l ++ codes ") {") (spelled_step by)

assignment_parts : (name : List ℕ) (subs v : List Item) → spelled (word name ∷ subs ++ space ∷ mark (codes "=") ∷ space ∷ v ++ mark (codes ";") ∷ []) ≡ name ++ spelled subs ++ codes " = " ++ spelled v ++ codes ";"
assignment_parts name subs v = simp (spelled_append, append_assoc)

spelled_assignment : (scope : Scope) (array : ℕ) (subs : List IndexExpr) (v : Value) → spelled (assignment scope array subs v) ≡ text.assignment_text scope array subs v
spelled_assignment scope array subs v =
    assignment_parts (array_name (slice_get scope.arrays array)) (subscripts scope subs) (value scope v)
    ∙ ap (λ l. array_name (slice_get scope.arrays array) ++ l ++ codes " = " ++ spelled (value scope v) ++ codes ";") (spelled_subscripts scope subs)
    ∙ ap (λ l. array_name (slice_get scope.arrays array) ++ text.subscripts_text scope subs ++ codes " = " ++ l ++ codes ";") (spelled_value scope v)

spelled_branch : (scope : Scope) (c : Cond) → spelled (branch scope c) ≡ text.branch_text scope c
spelled_branch scope c =
    ap (λ l. codes "if (" ++ l) (spelled_append (cond scope c) (mark (codes ")") ∷ space ∷ mark (codes "{") ∷ []) ∙ ap (λ l. l ++ codes ") {") (spelled_cond scope c))

mutual
  unfolding stmt text.stmt_text

  pub spelled_stmt : (scope : Scope) (indent : List ℕ) (s : Stmt) → spelled (stmt scope indent s) ≡ text.stmt_text scope indent s
  spelled_stmt scope indent (For' iter start c by n inner place) =
      spelled_three (line indent (loop scope iter start c by)) (body (inside scope iter) (deeper indent) inner) (line indent (mark (codes "}") ∷ []))
      ∙ ap (λ l. l ++ spelled (body (inside scope iter) (deeper indent) inner) ++ spelled (line indent (mark (codes "}") ∷ []))) (spelled_line indent (loop scope iter start c by) ∙ ap (text.line indent) (spelled_loop scope iter start c by))
      ∙ ap (λ l. text.line indent (text.loop_text scope iter start c by) ++ l ++ spelled (line indent (mark (codes "}") ∷ []))) (spelled_body (inside scope iter) (deeper indent) inner)
      ∙ ap (λ l. text.line indent (text.loop_text scope iter start c by) ++ text.body_text (inside scope iter) (deeper indent) inner ++ l) (spelled_line indent (mark (codes "}") ∷ []))
  spelled_stmt scope indent (If' c n taken m other place) =
      spelled_four (line indent (branch scope c)) (body scope (deeper indent) taken) (other_branch scope indent other) (line indent (mark (codes "}") ∷ []))
      ∙ ap (λ l. l ++ spelled (body scope (deeper indent) taken) ++ spelled (other_branch scope indent other) ++ spelled (line indent (mark (codes "}") ∷ []))) (spelled_line indent (branch scope c) ∙ ap (text.line indent) (spelled_branch scope c))
      ∙ ap (λ l. text.line indent (text.branch_text scope c) ++ l ++ spelled (other_branch scope indent other) ++ spelled (line indent (mark (codes "}") ∷ []))) (spelled_body scope (deeper indent) taken)
      ∙ ap (λ l. text.line indent (text.branch_text scope c) ++ text.body_text scope (deeper indent) taken ++ l ++ spelled (line indent (mark (codes "}") ∷ []))) (spelled_other scope indent other)
      ∙ ap (λ l. text.line indent (text.branch_text scope c) ++ text.body_text scope (deeper indent) taken ++ text.else_text scope indent other ++ l) (spelled_line indent (mark (codes "}") ∷ []))
  spelled_stmt scope indent (Assign array subs v place) =
      spelled_line indent (assignment scope array subs v) ∙ ap (text.line indent) (spelled_assignment scope array subs v)

  spelled_body : (scope : Scope) (indent : List ℕ) {m : _} (k : Row_of-Stmt m) → spelled (body scope indent k) ≡ text.body_text scope indent k
  spelled_body scope indent end_of-Stmt = refl
  spelled_body scope indent (more_of-Stmt s rest) =
      spelled_append (stmt scope indent s) (body scope indent rest) ∙ ap (λ l. l ++ spelled (body scope indent rest)) (spelled_stmt scope indent s)
      ∙ ap (λ l. text.stmt_text scope indent s ++ l) (spelled_body scope indent rest)

  spelled_other : (scope : Scope) (indent : List ℕ) {m : _} (k : Row_of-Stmt m) → spelled (other_branch scope indent k) ≡ text.else_text scope indent k
  spelled_other scope indent end_of-Stmt = refl
  spelled_other scope indent (more_of-Stmt s rest) =
      spelled_append (line indent otherwise) (stmt scope (deeper indent) s ++ body scope (deeper indent) rest)
      ∙ ap (λ l. l ++ spelled (stmt scope (deeper indent) s ++ body scope (deeper indent) rest)) (spelled_line indent otherwise)
      ∙ ap (λ l. text.line indent (codes "} else {") ++ l) (
      spelled_append (stmt scope (deeper indent) s) (body scope (deeper indent) rest) ∙ ap (λ l. l ++ spelled (body scope (deeper indent) rest)) (spelled_stmt scope (deeper indent) s)
      ∙ ap (λ l. text.stmt_text scope (deeper indent) s ++ l) (spelled_body scope (deeper indent) rest))
