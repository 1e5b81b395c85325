-- The canonical text of a program of which no assignment has too many quotients has none with too many.
use Rattle.std.proofs.Common.{◌≡◌, ◌||◌, ℕ, Bool, true, false, List, [], ◌∷◌, map, length, nat_lt, refl, sym, ap, subst, ◌∙◌, None}
use Rattle.std.specs.List.{AllByRecursion, list_any}
use Rattle.std.proofs.lemmas.List.{length-map}
use Rattle.ac_syntax.specs.Quotients.{noted_form, noted_subs, noted_parts, noted_value}
use Rattle.ac_syntax.specs.Text as text
use Rattle.ac_syntax.specs.declared.tree.Cond.{Cond}
use Rattle.ac_syntax.specs.declared.tree.IndexExpr.{IndexExpr}
use Rattle.ac_syntax.specs.declared.tree.Place.{Place}
use Rattle.ac_syntax.specs.declared.tree.Quot.{Quot}
use Rattle.ac_syntax.specs.declared.tree.Stmt.{Stmt, Row_of-Stmt, end_of-Stmt, more_of-Stmt}
use Rattle.ac_syntax.specs.declared.tree.Stmt.TheVariants.{For', If', Assign}
use Rattle.ac_syntax.specs.declared.tree.Value.{Value}
use Rattle.ac_parse_grammar.specs.declared.tree.Word.{Word}
use Rattle.ac_parse_grammar.specs.declared.tree.Expr.{Expr}
use Rattle.ac_parse_grammar.specs.declared.tree.Part.{Part}
use Rattle.ac_parse_grammar.specs.declared.tree.Step.{Step}
use Rattle.ac_parse_grammar.specs.declared.tree.Statement.{Statement}
use Rattle.ac_parse_grammar.specs.declared.tree.Statement.TheVariants as statement
use Rattle.ac_parse_exprs.specs.declared.fault.Rule.TheVariants.{Limit}
use Rattle.ac_parse_exprs.specs.declared.fault.Which.TheVariants.{Quotients}
use Rattle.ac_parse_exprs.specs.declared.scope.Entry.{Entry}
use Rattle.ac_parse_exprs.specs.declared.scope.Scope.{Scope}
use Rattle.ac_parse_exprs.specs.FaultOrder.{broken_where}
use Rattle.ac_parse_exprs.specs.Comparisons.{index, condition}
use Rattle.ac_parse_exprs.specs.Values.{reading, value}
use Rattle.ac_parse_rules.specs.Statements.{inside, in_test, in_start}
use Rattle.ac_parse_rules.specs.FewQuotients.{crowded, all_crowded}
use Rattle.ac_parse_exprs.proofs.Absent.{NoneBroken}
use Rattle.ac_parse_rules.proofs.Noting.{crowded-loop, crowded-branch, crowded-assign}
use Rattle.ac_parse_roundtrip.specs.CanonicalPrograms.{is_crowded, is_crowded_in}
use Rattle.ac_parse_roundtrip.specs.CanonicalTrees.{Each, IsWordOf, IsFormTree, IsConditionTree, IsValueTree, IsStatementTree, AreStatementTrees}
use Rattle.ac_parse_roundtrip.specs.PlaceErasure.{form_without_place, parts_without_places}
use Rattle.ac_parse_roundtrip.specs.ColumnNames.{FitsScope, FitScope, PartsFitScope}
use Rattle.ac_parse_roundtrip.specs.ReadableStatements.{IsReadable, IsReadableStmt, AreReadableStmts}
use Rattle.ac_parse_roundtrip.proofs.QuotientRoundTrip.{forms_are_read_back}
use Rattle.ac_parse_roundtrip.proofs.ConditionRoundTrip.{none_broken, condition_same, subscripts_same}
use Rattle.ac_parse_roundtrip.proofs.ValueRoundTrip.{value_read, read_value}
use Rattle.ac_parse_roundtrip.proofs.NotedQuotients.{without_places, same_form, same_parts, same_subs, same_value}
use Rattle.ac_parse_roundtrip.proofs.StatementRoundTrip.{both_none}

either_false : (a b : Bool) → (a || b) ≡ false → (a ≡ false) × (b ≡ false)
either_false true b h = absurd cc
either_false false b h = (refl, h)

few_none : (b : Bool) (place : Place) → b ≡ false → broken_where b (Limit Quotients) place ≡ None
few_none true place h = absurd cc
few_none false place h = refl

same_many : (s t : List Quot) → without_places s ≡ without_places t → length s ≡ length t
same_many s t h = sym (length-map s _) ∙ ap length h ∙ length-map t _

module _ (names : List Entry) where
  -- no statement of the trees is crowded, behind quotients that are these but for places
  abbrev AreFew : Scope → List Quot → List Statement → Type 0
  AreFew scope around trees = (seen : List Quot) → without_places seen ≡ without_places around → NoneBroken (map (λ s. crowded names s scope seen) trees)

  few_all : (scope : Scope) (around : List Quot) (trees : List Statement) → AreFew scope around trees → (seen : List Quot) → without_places seen ≡ without_places around → all_crowded names scope seen trees ≡ None
  few_all scope around trees few seen e = none_broken (map (λ s. crowded names s scope seen) trees) (few seen e)

  loop_few : (scope : Scope) (written : text.Scope) (iter : List ℕ) (start : IndexExpr) (cond : Cond) (name : Word) (from : Expr) (parts : List Part) (step : Step) (trees : List Statement) (keyword : Place) (around : List Quot)
      → FitsScope names (in_start scope true iter) written start → PartsFitScope names (in_test scope iter) (text.inside written iter) cond.parts
      → IsWordOf iter name → IsFormTree written start from → IsConditionTree (text.inside written iter) cond parts → AreFew (inside scope iter) (noted_parts (noted_form around start) cond.parts) trees
      → (seen : List Quot) → without_places seen ≡ without_places around → crowded names (statement.Loop true name from parts step trees keyword) scope seen ≡ None
  loop_few scope written iter start cond name from parts step trees keyword around fs fc w tf tc few seen e =
      let f = subst (λ n. form_without_place (index names (in_start scope true n) from) ≡ form_without_place start) (sym w) (forms_are_read_back names (in_start scope true iter) written start fs from tf).1 in
      let c = subst (λ n. parts_without_places (condition names (in_test scope n) parts) ≡ parts_without_places cond.parts) (sym w) (condition_same names (in_test scope iter) (text.inside written iter) cond.parts parts fc tc) in
      let b = subst (λ n. AreFew (inside scope n) (noted_parts (noted_form around start) cond.parts) trees) (sym w) few in
      let s = noted_form seen (index names (in_start scope true name.name) from) in
      crowded-loop names scope seen true name from parts step trees keyword
      ∙ few_all (inside scope name.name) (noted_parts (noted_form around start) cond.parts) trees b (noted_parts s (condition names (in_test scope name.name) parts))
      (same_parts s (noted_form around start) (condition names (in_test scope name.name) parts) cond.parts (same_form seen around (index names (in_start scope true name.name) from) start e f) c)

  branch_few : (scope : Scope) (written : text.Scope) (cond : Cond) (parts : List Part) (first second : List Statement) (keyword : Place) (around : List Quot)
      → PartsFitScope names scope written cond.parts → IsConditionTree written cond parts → AreFew scope (noted_parts around cond.parts) first → AreFew scope (noted_parts around cond.parts) second
      → (seen : List Quot) → without_places seen ≡ without_places around → crowded names (statement.Branch parts first second keyword) scope seen ≡ None
  branch_few scope written cond parts first second keyword around fc tc t o seen e =
      let s = noted_parts seen (condition names scope parts) in
      let k = same_parts seen around (condition names scope parts) cond.parts e (condition_same names scope written cond.parts parts fc tc) in
      crowded-branch names scope seen parts first second keyword
      ∙ both_none (all_crowded names scope s first) (all_crowded names scope s second) (few_all scope (noted_parts around cond.parts) first t s k) (few_all scope (noted_parts around cond.parts) second o s k)

  assign_few : (scope : Scope) (written : text.Scope) (subs : List IndexExpr) (x : Value) (target : Word) (ts : List Expr) (right : Expr) (around : List Quot)
      → FitScope names scope written subs → IsReadable names scope written x → Each (IsFormTree written) subs ts → IsValueTree written x right
      → nat_lt 8 (length (noted_subs (noted_value around x) subs)) ≡ false
      → (seen : List Quot) → without_places seen ≡ without_places around → crowded names (statement.Assign target ts None right) scope seen ≡ None
  assign_few scope written subs x target ts right around fs fx t tx few seen e =
      let g = read_value scope (reading names scope right) x (value_read names scope written x right fx tx) in
      let s = noted_value seen (value names scope right) in
      let k = same_subs s (noted_value around x) (map (index names scope) ts) subs (same_value seen around (value names scope right) x e g) (subscripts_same names scope written subs ts fs t) in
      let n = same_many (noted_subs s (map (index names scope) ts)) (noted_subs (noted_value around x) subs) k in
      crowded-assign names scope seen target ts None right ∙ few_none (nat_lt 8 (length (noted_subs s (map (index names scope) ts)))) target.place (ap (nat_lt 8) n ∙ few)

  mutual
    unfolding IsStatementTree AreStatementTrees IsReadableStmt AreReadableStmts is_crowded is_crowded_in

    stmt_few : (scope : Scope) (written : text.Scope) (s : Stmt) (tree : Statement) (around : List Quot) → IsReadableStmt names scope written s → IsStatementTree written s tree → is_crowded around s ≡ false
        → (seen : List Quot) → without_places seen ≡ without_places around → crowded names tree scope seen ≡ None
    stmt_few scope written (For' iter start cond by n body place) tree around fit t few seen e =
        subst (λ x. crowded names x scope seen ≡ None) (sym t.11)
        (loop_few scope written iter start cond t.0 t.1 t.2 t.3 t.4 t.5 around fit.1 fit.2 t.6 t.7 t.8
        (stmts_few (inside scope iter) (text.inside written iter) body t.4 (noted_parts (noted_form around start) cond.parts) fit.3 t.10 few) seen e)
    stmt_few scope written (If' cond n taken m other place) tree around fit t few seen e =
        let b = either_false (is_crowded_in (noted_parts around cond.parts) taken) (is_crowded_in (noted_parts around cond.parts) other) few in
        subst (λ x. crowded names x scope seen ≡ None) (sym t.7)
        (branch_few scope written cond t.0 t.1 t.2 t.3 around fit.0 t.4
        (stmts_few scope written taken t.1 (noted_parts around cond.parts) fit.1 t.5 b.0) (stmts_few scope written other t.2 (noted_parts around cond.parts) fit.2 t.6 b.1) seen e)
    stmt_few scope written (Assign array subs x place) tree around fit t few seen e =
        subst (λ y. crowded names y scope seen ≡ None) (sym t.6) (assign_few scope written subs x t.0 t.1 t.2 around fit.1 fit.2 t.4 t.5 few seen e)

    stmts_few : (scope : Scope) (written : text.Scope) {m : _} (row : Row_of-Stmt m) (trees : List Statement) (around : List Quot) → AreReadableStmts names scope written row → AreStatementTrees written row trees
        → is_crowded_in around row ≡ false → AreFew scope around trees
    stmts_few scope written end_of-Stmt trees around fit t few = subst (AreFew scope around) (sym t) (λ seen e. tt)
    stmts_few scope written (more_of-Stmt s rest) trees around fit t few =
        let b = either_false (is_crowded around s) (is_crowded_in around rest) few in
        subst (AreFew scope around) (sym t.4)
        (λ seen e. (stmt_few scope written s t.0 around fit.0 t.2 b.0 seen e, stmts_few scope written rest t.1 around fit.1 t.3 b.1 seen e))

  each_few : (scope : Scope) (written : text.Scope) (ss : List Stmt) (trees : List Statement) → AllByRecursion (IsReadableStmt names scope written) ss → Each (IsStatementTree written) ss trees
      → list_any (is_crowded []) ss ≡ false → NoneBroken (map (λ s. crowded names s scope []) trees)
  each_few scope written [] [] fit t few = tt
  each_few scope written [] (tree ∷ trees) fit t few = absurd t
  each_few scope written (s ∷ ss) [] fit t few = absurd t
  each_few scope written (s ∷ ss) (tree ∷ trees) fit t few =
      let b = either_false (is_crowded [] s) (list_any (is_crowded []) ss) few in
      (stmt_few scope written s tree [] fit.0 t.0 b.0 [] refl, each_few scope written ss trees fit.1 t.1 b.1)

  pub body_few : (scope : Scope) (written : text.Scope) (ss : List Stmt) (trees : List Statement) → AllByRecursion (IsReadableStmt names scope written) ss → Each (IsStatementTree written) ss trees
      → list_any (is_crowded []) ss ≡ false → all_crowded names scope [] trees ≡ None
  body_few scope written ss trees fit t few = none_broken (map (λ s. crowded names s scope []) trees) (each_few scope written ss trees fit t few)
