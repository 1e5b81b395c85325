-- The rules read statements back from the trees of their canonical text.
use Rattle.std.proofs.Common.{◌≡◌, ℕ, zero, suc, ◌+◌, ◌≤◌, List, [], ◌∷◌, map, length, refl, sym, ap, subst, ◌∙◌, rules, Bool, true, false, cond, ◌==◌, nat_eq, nat_lt, arith, eq-eqb, ℤ, pos, negsuc, unsigned_abs, sum_by, Option, None}
use Rattle.std.proofs.lemmas.Bool.Decides.{nat_tests}
use Rattle.std.proofs.lemmas.List.Sums.{sum_by-cons}
use Rattle.std.specs.Prelude.{slice_get}
use Rattle.std.specs.List.{list_any}
use Rattle.std.specs.Cmp.Lexicographic.{pointwise}
use Rattle.ac_syntax.specs.declared.tree.Place.{Place}
use Rattle.ac_syntax.specs.declared.tree.IndexExpr.{IndexExpr}
use Rattle.ac_syntax.specs.declared.tree.Comparison.{Comparison}
use Rattle.ac_syntax.specs.declared.tree.Cond.{Cond}
use Rattle.ac_syntax.specs.declared.tree.Value.{Value, Row_of-Value, end_of-Value, more_of-Value}
use Rattle.ac_syntax.specs.declared.tree.Value.TheVariants as v
use Rattle.ac_syntax.specs.declared.tree.Stmt.{Stmt, Row_of-Stmt, end_of-Stmt, more_of-Stmt, items-the_row-Stmt, the_lemmas}
use Rattle.ac_syntax.specs.declared.tree.Stmt.TheVariants.{For, For', If, If', Assign}
use Rattle.ac_syntax.specs.ValueNodes.{size, size_in}
use Rattle.ac_syntax.specs.Small.{IsSmall}
use Rattle.ac_syntax.specs.Turns.{bounds}
use Rattle.ac_syntax.specs.Text as text
use Rattle.ac_syntax.specs.Text.{is_other_than_zero, array_name}
use Rattle.ac_syntax.proofs.Sizes.{size_call}
use Rattle.ac_parse_grammar.specs.declared.tree.Word.{Word}
use Rattle.ac_parse_grammar.specs.declared.tree.Expr.{Expr}
use Rattle.ac_parse_grammar.specs.declared.tree.Part.{Part}
use Rattle.ac_parse_grammar.specs.declared.tree.Step.{Step}
use Rattle.ac_parse_grammar.specs.declared.tree.Statement.{Statement}
use Rattle.ac_parse_grammar.specs.declared.tree.Statement.TheVariants as statement
use Rattle.ac_parse_exprs.specs.declared.fault.Which.TheVariants as which
use Rattle.ac_parse_exprs.specs.declared.fault.Rule.TheVariants.{Endless, Limit}
use Rattle.ac_parse_exprs.specs.declared.fault.Broken.{Broken}
use Rattle.ac_parse_exprs.specs.declared.scope.Entry.{Entry}
use Rattle.ac_parse_exprs.specs.declared.scope.Scope.{Scope}
use Rattle.ac_parse_exprs.specs.declared.scope.Meaning.TheVariants as means
use Rattle.ac_parse_exprs.specs.FaultOrder.{earlier, broken_where, rule_broken}
use Rattle.ac_parse_exprs.specs.Meanings.{meaning}
use Rattle.ac_parse_exprs.specs.Comparisons.{index, index_broken, part_rel, compared, condition, condition_broken}
use Rattle.ac_parse_exprs.specs.Values.{reading, value}
use Rattle.ac_parse_rules.specs.Statements.{inside, in_test, in_start, loop_rule, step_broken, step_number, may_bound, is_endless, head_broken, statement_broken, statements_broken, stmt, stmts}
use Rattle.ac_parse_exprs.proofs.Absent.{NoneBroken}
use Rattle.ac_parse_rules.proofs.Stepping.{broken-loop, broken-branch, broken-assign, stmt-loop, stmt-branch, stmt-assign}
use Rattle.ac_parse_roundtrip.specs.CanonicalTrees.{Each, IsWordOf, IsFormTree, IsComparisonTree, IsConditionTree, IsStepTree, IsValueTree, IsStatementTree, AreStatementTrees}
use Rattle.ac_parse_roundtrip.specs.PlaceErasure.{nowhere, form_without_place, forms_without_places, parts_without_places, condition_without_places, value_without_places, values_without_places, stmt_without_places, stmts_without_places}
use Rattle.ac_parse_roundtrip.specs.ColumnNames.{FitsScope, FitScope, PartFitsScope, PartsFitScope}
use Rattle.ac_parse_roundtrip.specs.ReadableStatements.{ArrayStands, IsReadable, FitsLoop, IsReadableStmt, AreReadableStmts}
use Rattle.ac_parse_roundtrip.proofs.QuotientRoundTrip.{forms_are_read_back}
use Rattle.ac_parse_roundtrip.proofs.ConditionRoundTrip.{none_broken, comparison_read, condition_none, condition_same, subscripts_none, subscripts_same, same_length}
use Rattle.ac_parse_roundtrip.proofs.ValueRoundTrip.{value_read, read_broken, read_value, access_none}

pub both_none : (a b : Option Broken) → a ≡ None → b ≡ None → earlier a b ≡ None
both_none a b h k = rw (h, k) refl

-- ---- how many nodes there are

mutual
  unfolding size size_in value_without_places values_without_places

  without_size : (x : Value) → size (value_without_places x) ≡ size x
  without_size (v.Number e) = refl
  without_size (v.Access array subs place) = refl
  without_size (v.Call' s n args place) = size_call s (values_without_places args) nowhere ∙ ap (λ k. k + 1) (without_sizes args)

  without_sizes : {m : _} (row : Row_of-Value m) → sum_by size (values_without_places row) ≡ size_in row
  without_sizes end_of-Value = refl
  without_sizes (more_of-Value x rest) = sum_by-cons size (value_without_places x) (values_without_places rest) ∙ rw (without_size x, without_sizes rest) refl

same_size : (x y : Value) → value_without_places x ≡ value_without_places y → size x ≡ size y
same_size x y h = sym (without_size x) ∙ ap size h ∙ without_size y

-- ---- statements without places

without_row : (m : _) (k : Row_of-Stmt m) → stmts_without_places k ≡ map stmt_without_places (items-the_row-Stmt m k)
unfolding stmt_without_places stmts_without_places
without_row m end_of-Stmt = refl
without_row m (more_of-Stmt {n = n} s rest) = ap (λ ss. stmt_without_places s ∷ ss) (without_row n rest)

without_for : (iter : List ℕ) (start : IndexExpr) (cond : Cond) (step : ℤ) (body : List Stmt) (place : Place)
    → stmt_without_places (For iter start cond step body place) ≡ For iter (form_without_place start) (condition_without_places cond) step (map stmt_without_places body) nowhere
unfolding stmt_without_places
without_for iter start cond step body place = search (rules, the_lemmas, without_row)

without_if : (cond : Cond) (taken other : List Stmt) (place : Place)
    → stmt_without_places (If cond taken other place) ≡ If (condition_without_places cond) (map stmt_without_places taken) (map stmt_without_places other) nowhere
unfolding stmt_without_places
without_if cond taken other place = search (rules, the_lemmas, without_row)

without_assign : (array : ℕ) (subs : List IndexExpr) (x : Value) (place : Place) → stmt_without_places (Assign array subs x place) ≡ Assign array (forms_without_places subs) (value_without_places x) nowhere
unfolding stmt_without_places
without_assign array subs x place = refl

-- ---- the step of a loop

same_name : (name : List ℕ) → pointwise nat_eq name name ≡ true
same_name [] = refl
same_name (x ∷ xs) = rw (eq-eqb x x refl, same_name xs) refl

step_is : (iter : List ℕ) (by : ℤ) (step : Step) → IsStepTree iter by step → step_number step ≡ by
step_is iter (pos n) step t = rw (t.down, t.number) refl
step_is iter (negsuc n) step t = rw (t.down, t.number) refl

step_none : (names : List Entry) (scope : Scope) (iter : List ℕ) (by : ℤ) (step : Step) → IsSmall by → IsStepTree iter by step → step_broken names scope iter step ≡ None
step_none names scope iter by step s t =
    let e : step.by.number ≡ unsigned_abs by = t.number in
    let l : nat_lt 2147483648 step.by.number ≡ false = grind (arith, nat_tests) in
    rw (t.target, t.source, same_name iter, l) refl

some_step : (by : ℤ) (n : ℕ) → n ≡ unsigned_abs by → is_other_than_zero by ≡ true → (n == 0) ≡ false
some_step (pos zero) n e h = absurd cc
some_step (pos (suc k)) n e h = grind (arith, nat_tests)
some_step (negsuc k) n e h = grind (arith, nat_tests)

module _ (names : List Entry) (scope : Scope) (written : text.Scope) where
  may_is : (by : ℤ) (c : Comparison) (part : Part) → PartFitsScope names scope written c → IsComparisonTree written c part → may_bound by (part_rel part) (compared names scope part) ≡ bounds by c
  may_is by c part fit t =
      let r = comparison_read names scope written c part fit t in
      let j = r.3 in
      rw (j.large, j.form, r.4) refl

  any_bounds : (by : ℤ) (cs : List Comparison) (parts : List Part) → PartsFitScope names scope written cs → Each (IsComparisonTree written) cs parts
      → list_any (λ part. may_bound by (part_rel part) (compared names scope part)) parts ≡ list_any (bounds by) cs
  any_bounds by [] [] fit t = refl
  any_bounds by [] (part ∷ parts) fit t = absurd t
  any_bounds by (c ∷ cs) [] fit t = absurd t
  any_bounds by (c ∷ cs) (part ∷ parts) fit t = rw (may_is by c part fit.0 t.0, any_bounds by cs parts fit.1 t.1) refl

  not_endless : (iter : List ℕ) (by : ℤ) (step : Step) (cs : List Comparison) (parts : List Part) → IsStepTree iter by step → is_other_than_zero by ≡ true → list_any (bounds by) cs ≡ true
      → PartsFitScope names scope written cs → Each (IsComparisonTree written) cs parts → is_endless names scope step parts ≡ false
  not_endless iter by step cs parts s o b fit t =
      let z = some_step by step.by.number s.number o in
      let a = any_bounds by cs parts fit t ∙ b in
      rw (step_is iter by step s, z, a) refl

head_none : (a b : Bool) (r i c s : Option Broken) (place : Place) → a ≡ false → b ≡ false → r ≡ None → i ≡ None → c ≡ None → s ≡ None
    → earlier (earlier (broken_where a (Limit which.Depth) place) (broken_where b Endless place)) (earlier (earlier r i) (earlier c s)) ≡ None
head_none a b r i c s place e f k l m n = rw (e, f, k, l, m, n) refl

for_same : (i j : List ℕ) (a b : IndexExpr) (c d : Cond) (s t : ℤ) (xs ys : List Stmt) (place : Place) → i ≡ j → a ≡ b → c ≡ d → s ≡ t → xs ≡ ys → For i a c s xs place ≡ For j b d t ys place
for_same i j a b c d s t xs ys place e f g h k = rw (e, f, g, h, k) refl

if_same : (c d : Cond) (xs ys us vs : List Stmt) (place : Place) → c ≡ d → xs ≡ ys → us ≡ vs → If c xs us place ≡ If d ys vs place
if_same c d xs ys us vs place e f g = rw (e, f, g) refl

assign_same : (k l : ℕ) (xs ys : List IndexExpr) (x y : Value) (place : Place) → k ≡ l → xs ≡ ys → x ≡ y → Assign k xs x place ≡ Assign l ys y place
assign_same k l xs ys x y place e f g = rw (e, f, g) refl

module _ (names : List Entry) where
  -- nothing is broken in the tree of a statement, and it is the statement but for places
  pub record IsStmtRead (scope : Scope) (s : Stmt) (tree : Statement) : Type 0 where
    pub none : statement_broken names tree scope ≡ None
    pub same : stmt_without_places (stmt names tree scope) ≡ stmt_without_places s

  pub record AreStmtsRead (scope : Scope) (ss : List Stmt) (trees : List Statement) : Type 0 where
    pub none : NoneBroken (map (λ s. statement_broken names s scope) trees)
    pub same : map stmt_without_places (stmts names scope trees) ≡ ss

  body_none : (scope : Scope) (ss : List Stmt) (trees : List Statement) → AreStmtsRead scope ss trees → statements_broken names scope trees ≡ None
  body_none scope ss trees r = none_broken (map (λ s. statement_broken names s scope) trees) r.none

  loop_head : (scope : Scope) (written : text.Scope) (iter : List ℕ) (start : IndexExpr) (cond : Cond) (by : ℤ) (name : Word) (from : Expr) (parts : List Part) (step : Step) (keyword : Place)
      → FitsLoop names scope iter cond by → FitsScope names (in_start scope true iter) written start → PartsFitScope names (in_test scope iter) (text.inside written iter) cond.parts
      → IsWordOf iter name → IsFormTree written start from → IsConditionTree (text.inside written iter) cond parts → IsStepTree iter by step
      → head_broken names scope true name from parts step keyword ≡ None
  loop_head scope written iter start cond by name from parts step keyword fit fs fc w tf tc ts =
      let few : nat_lt 5 (length scope.iterators) ≡ false = let h = fit.few in grind (arith, nat_tests) in
      let ends = not_endless names (in_test scope iter) (text.inside written iter) iter by step cond.parts parts ts fit.steps fit.ends fc tc in
      let rule : loop_rule names scope true iter ≡ None = rw fit.new refl in
      head_none (nat_lt 5 (length scope.iterators)) (is_endless names (in_test scope name.name) step parts) (rule_broken (loop_rule names scope true name.name) name.place)
      (index_broken names (in_start scope true name.name) from) (condition_broken names (in_test scope name.name) parts) (step_broken names (in_test scope name.name) name.name step) keyword
      few (subst (λ n. is_endless names (in_test scope n) step parts ≡ false) (sym w) ends)
      (subst (λ n. rule_broken (loop_rule names scope true n) name.place ≡ None) (sym w) (ap (λ r. rule_broken r name.place) rule))
      (subst (λ n. index_broken names (in_start scope true n) from ≡ None) (sym w) (forms_are_read_back names (in_start scope true iter) written start fs from tf).0)
      (subst (λ n. condition_broken names (in_test scope n) parts ≡ None) (sym w) (condition_none names (in_test scope iter) (text.inside written iter) cond.parts parts fc tc))
      (subst (λ n. step_broken names (in_test scope n) n step ≡ None) (sym w) (step_none names (in_test scope iter) iter by step fit.small ts))

  loop_read : (scope : Scope) (written : text.Scope) (iter : List ℕ) (start : IndexExpr) (cond : Cond) (by : ℤ) (name : Word) (from : Expr) (parts : List Part) (step : Step) (trees : List Statement) (keyword : Place)
      (body : List Stmt) (s : Stmt) → FitsLoop names scope iter cond by → FitsScope names (in_start scope true iter) written start → PartsFitScope names (in_test scope iter) (text.inside written iter) cond.parts
      → IsWordOf iter name → IsFormTree written start from → IsConditionTree (text.inside written iter) cond parts → IsStepTree iter by step → AreStmtsRead (inside scope iter) body trees
      → stmt_without_places s ≡ For iter (form_without_place start) (condition_without_places cond) by body nowhere
      → IsStmtRead scope s (statement.Loop true name from parts step trees keyword)
  loop_read scope written iter start cond by name from parts step trees keyword body s fit fs fc w tf tc ts r e =
      let b = subst (λ n. AreStmtsRead (inside scope n) body trees) (sym w) r in
      let f = subst (λ n. form_without_place (index names (in_start scope true n) from) ≡ form_without_place start) (sym w) (forms_are_read_back names (in_start scope true iter) written start fs from tf).1 in
      let c = subst (λ n. parts_without_places (condition names (in_test scope n) parts) ≡ parts_without_places cond.parts) (sym w) (condition_same names (in_test scope iter) (text.inside written iter) cond.parts parts fc tc) in
      record {
        none = broken-loop names scope true name from parts step trees keyword
            ∙ both_none (head_broken names scope true name from parts step keyword) (statements_broken names (inside scope name.name) trees)
            (loop_head scope written iter start cond by name from parts step keyword fit fs fc w tf tc ts) (body_none (inside scope name.name) body trees b);
        same = ap stmt_without_places (stmt-loop names scope true name from parts step trees keyword)
            ∙ without_for name.name (index names (in_start scope true name.name) from) (record { parts = condition names (in_test scope name.name) parts }) (step_number step) (stmts names (inside scope name.name) trees) keyword
            ∙ for_same name.name iter _ (form_without_place start) _ (condition_without_places cond) (step_number step) by _ body nowhere w f (ap (λ ps. record { parts = ps }) c) (step_is iter by step ts) b.same
            ∙ sym e;
      }

  branch_read : (scope : Scope) (written : text.Scope) (cond : Cond) (parts : List Part) (first second : List Statement) (keyword : Place) (taken other : List Stmt) (s : Stmt)
      → PartsFitScope names scope written cond.parts → IsConditionTree written cond parts → AreStmtsRead scope taken first → AreStmtsRead scope other second
      → stmt_without_places s ≡ If (condition_without_places cond) taken other nowhere → IsStmtRead scope s (statement.Branch parts first second keyword)
  branch_read scope written cond parts first second keyword taken other s fc tc t o e = record {
    none = broken-branch names scope parts first second keyword
        ∙ both_none (condition_broken names scope parts) (earlier (statements_broken names scope first) (statements_broken names scope second)) (condition_none names scope written cond.parts parts fc tc)
        (both_none (statements_broken names scope first) (statements_broken names scope second) (body_none scope taken first t) (body_none scope other second o));
    same = ap stmt_without_places (stmt-branch names scope parts first second keyword)
        ∙ without_if (record { parts = condition names scope parts }) (stmts names scope first) (stmts names scope second) keyword
        ∙ if_same _ (condition_without_places cond) _ taken _ other nowhere (ap (λ ps. record { parts = ps }) (condition_same names scope written cond.parts parts fc tc)) t.same o.same
        ∙ sym e;
  }

  assign_read : (scope : Scope) (written : text.Scope) (array : ℕ) (subs : List IndexExpr) (x : Value) (place : Place) (target : Word) (ts : List Expr) (right : Expr)
      → ArrayStands names scope written array (length subs) → FitScope names scope written subs → IsReadable names scope written x → size x ≤ 64
      → IsWordOf (array_name (slice_get written.arrays array)) target → Each (IsFormTree written) subs ts → IsValueTree written x right
      → IsStmtRead scope (Assign array subs x place) (statement.Assign target ts None right)
  assign_read scope written array subs x place target ts right a fs fx few w tt' tx =
      let m : meaning names scope target.name ≡ means.Array array (length subs) = ap (meaning names scope) w ∙ a.means in
      let r = value_read names scope written x right fx tx in
      let g = read_value scope (reading names scope right) x r in
      let n : nat_lt 64 (size (value names scope right)) ≡ false = let z = same_size (value names scope right) x g in grind (arith, nat_tests) in
      let k = access_none names scope written array (length subs) target ts (same_length (IsFormTree written) subs ts tt') (subscripts_none names scope written subs ts fs tt') in
      record {
        none = broken-assign names scope target ts None right ∙ rw (m, k, read_broken (reading names scope right) x r, n) refl;
        same = ap stmt_without_places (stmt-assign names scope target ts None right)
            ∙ without_assign _ (map (index names scope) ts) (value names scope right) target.place
            ∙ assign_same _ array _ (forms_without_places subs) _ (value_without_places x) nowhere (rw m refl) (subscripts_same names scope written subs ts fs tt') g
            ∙ sym (without_assign array subs x place);
      }

  mutual
    unfolding IsStatementTree AreStatementTrees IsReadableStmt AreReadableStmts stmt_without_places stmts_without_places

    pub stmt_read : (scope : Scope) (written : text.Scope) (s : Stmt) (tree : Statement) → IsReadableStmt names scope written s → IsStatementTree written s tree → IsStmtRead scope s tree
    stmt_read scope written (For' iter start cond by n body place) tree fit t =
        subst (IsStmtRead scope (For' iter start cond by n body place)) (sym t.11)
        (loop_read scope written iter start cond by t.0 t.1 t.2 t.3 t.4 t.5 (stmts_without_places body) (For' iter start cond by n body place) fit.0 fit.1 fit.2 t.6 t.7 t.8 t.9
        (stmts_read (inside scope iter) (text.inside written iter) body t.4 fit.3 t.10) refl)
    stmt_read scope written (If' cond n taken m other place) tree fit t =
        subst (IsStmtRead scope (If' cond n taken m other place)) (sym t.7)
        (branch_read scope written cond t.0 t.1 t.2 t.3 (stmts_without_places taken) (stmts_without_places other) (If' cond n taken m other place) fit.0 t.4
        (stmts_read scope written taken t.1 fit.1 t.5) (stmts_read scope written other t.2 fit.2 t.6) refl)
    stmt_read scope written (Assign array subs x place) tree fit t =
        subst (IsStmtRead scope (Assign array subs x place)) (sym t.6)
        (assign_read scope written array subs x place t.0 t.1 t.2 fit.0 fit.1 fit.2 fit.3 t.3 t.4 t.5)

    stmts_read : (scope : Scope) (written : text.Scope) {m : _} (row : Row_of-Stmt m) (trees : List Statement) → AreReadableStmts names scope written row → AreStatementTrees written row trees
        → AreStmtsRead scope (stmts_without_places row) trees
    stmts_read scope written end_of-Stmt trees fit t = subst (AreStmtsRead scope []) (sym t) (record { none = tt; same = refl })
    stmts_read scope written (more_of-Stmt s rest) trees fit t =
        let a = stmt_read scope written s t.0 fit.0 t.2 in
        let b = stmts_read scope written rest t.1 fit.1 t.3 in
        subst (AreStmtsRead scope (stmt_without_places s ∷ stmts_without_places rest)) (sym t.4)
        (record { none = (a.none, b.none); same = rw (a.same, b.same) refl })
