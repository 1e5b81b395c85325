-- The statements of a text that breaks no rule are readable.
use Rattle.std.proofs.Common.{◌≡◌, ◌≤◌, ℕ, zero, suc, ℤ, pos, neg_ℤ, ◌*ℤ◌, Bool, true, false, not, cond, ◌||◌, ◌==◌, List, [], ◌∷◌, map, length, nat_lt, refl, sym, ap, subst, ◌∙◌, arith, Option, Some, None}
use Rattle.std.specs.Prelude.{◌^◌, if◌then◌else◌}
use Rattle.std.specs.List.{AllByRecursion, list_any}
use Rattle.std.proofs.lemmas.Bool.Decides.{nat_tests}
use Rattle.ac_syntax.specs.ValueNodes.{size}
use Rattle.ac_syntax.specs.Small.{IsSmall}
use Rattle.ac_syntax.specs.Text.{is_other_than_zero}
use Rattle.ac_syntax.specs.Text as text
use Rattle.ac_syntax.specs.Turns.{bounds, bounds_by, innermost}
use Rattle.ac_syntax.specs.declared.tree.Place.{Place}
use Rattle.ac_syntax.specs.declared.tree.Program.{Program}
use Rattle.ac_syntax.specs.declared.tree.Rel.{Rel}
use Rattle.ac_lex.specs.Lexemes.{Lexeme}
use Rattle.ac_parse_grammar.specs.declared.tree.Word.{Word}
use Rattle.ac_parse_grammar.specs.declared.tree.Operator.{Operator}
use Rattle.ac_parse_grammar.specs.declared.tree.Part.{Part}
use Rattle.ac_parse_grammar.specs.declared.tree.Step.{Step}
use Rattle.ac_parse_grammar.specs.declared.tree.Expr.{Expr}
use Rattle.ac_parse_grammar.specs.declared.tree.Statement.{Statement}
use Rattle.ac_parse_grammar.specs.declared.tree.Statement.TheVariants as statement
use Rattle.ac_parse_grammar.specs.StatementsGrammar.{IsStatements}
use Rattle.ac_parse_exprs.specs.declared.fault.Which.TheVariants as which
use Rattle.ac_parse_exprs.specs.declared.fault.Rule.TheVariants.{Duplicate, Endless, Limit}
use Rattle.ac_parse_exprs.specs.declared.form.Collected.{Collected}
use Rattle.ac_parse_exprs.specs.declared.form.Collected.TheVariants.{Known, Large, Unknown}
use Rattle.ac_parse_exprs.specs.declared.index.Judged.{Judged}
use Rattle.ac_parse_exprs.specs.declared.scope.Entry.{Entry}
use Rattle.ac_parse_exprs.specs.declared.scope.Meaning.{Meaning}
use Rattle.ac_parse_exprs.specs.declared.scope.Meaning.TheVariants as means
use Rattle.ac_parse_exprs.specs.declared.scope.Scope.{Scope}
use Rattle.ac_parse_exprs.specs.FaultOrder.{earlier, broken_where, rule_broken}
use Rattle.ac_parse_exprs.specs.AffineForms.{constant_form}
use Rattle.ac_parse_exprs.specs.Meanings.{meaning, declared_meaning}
use Rattle.ac_parse_exprs.specs.IndexExpressions.{is_long}
use Rattle.ac_parse_exprs.specs.Comparisons.{whole_broken, form_or_zero, placed_form, index_expr, index, index_broken, part_rel, compared, comparison, condition, condition_broken}
use Rattle.ac_parse_rules.specs.Declarations.{is_declared}
use Rattle.ac_parse_exprs.specs.Values.{array_number, read_of, access_broken, value_broken}
use Rattle.ac_parse_rules.specs.Statements.{inside, in_test, in_start, is_running, untyped_rule, loop_rule, step_broken, step_number, form_bounds, may_bound, is_endless, head_broken, target_rule, assigned_value, statement_broken, statements_broken, stmt, stmts}
use Rattle.ac_parse_exprs.proofs.Absent.{NoneBroken, neither, none_of, not_where}
use Rattle.ac_parse_exprs.proofs.Accesses.{rule_holds}
use Rattle.ac_parse_exprs.proofs.Collecting.{IsKnown}
use Rattle.ac_parse_exprs.proofs.Judges.{Judges, neither_is, compared_judges, whole_known}
use Rattle.ac_parse_rules.proofs.Stepping.{broken-loop, broken-branch, broken-assign, stmt-loop, stmt-branch, stmt-assign}
use Rattle.ac_parse_roundtrip.specs.ReadableStatements.{ArrayStands, FitsLoop, IsReadable, IsReadableStmt}
use Rattle.ac_parse_roundtrip.specs.TokenSpelling.{AreSpelled}
use Rattle.ac_parse_roundtrip.proofs.NameTerminals.{IsNamed}
use Rattle.ac_parse_roundtrip.proofs.Expressions.{HasPart}
use Rattle.ac_parse_roundtrip.proofs.StatementInduction.{statements_have}
use Rattle.ac_parse_roundtrip.proofs.ReadableForms.{index_fits, condition_fits}
use Rattle.ac_parse_roundtrip.proofs.ReadableLists.{access_readable, loop_readable, branch_readable, assign_readable}
use Rattle.ac_parse_roundtrip.proofs.Scopes.{Keeps, Leaves, Follows, follows_inside, follows_test, carries}
use Rattle.ac_parse_roundtrip.proofs.ReadableValues.{no_rule, not_misused, array_stands, subscripts_fit, assigned_has, IsReadableExpr, expr_readable}

-- ---- steps

not_long : (n : ℕ) → nat_lt 2147483648 n ≡ false → n ≤ 2 ^ 31
not_long n h = grind (arith, nat_tests)

small_negative : (n : ℕ) → n ≤ 2 ^ 31 → IsSmall (neg_ℤ (pos n))
small_negative zero h = omega arith
small_negative (suc n) h = omega (arith, h)

small_step : (step : Step) → is_long step.by ≡ false → IsSmall (step_number step)
small_step step h = by step.down (not_long step.by.number h)
  where
    by : (down : Bool) → step.by.number ≤ 2 ^ 31 → IsSmall (if down then neg_ℤ (pos step.by.number) else pos step.by.number)
    by true l = small_negative step.by.number l
    by false l = l

moving : (step : Step) → (step.by.number == 0) ≡ false → is_other_than_zero (step_number step) ≡ true
moving step h = by step.down step.by.number h
  where
    by : (down : Bool) (n : ℕ) → (n == 0) ≡ false → is_other_than_zero (if down then neg_ℤ (pos n) else pos n) ≡ true
    by true zero h = absurd cc
    by true (suc n) h = refl
    by false zero h = absurd cc
    by false (suc n) h = refl

-- ---- a comparison that ends a loop

form_ends : (scope : Scope) (place : Place) (step : ℤ) (rel : Rel) (c : Collected) → IsKnown c → form_bounds step rel c ≡ true
    → bounds step (record { form = placed_form place (form_or_zero scope c); rel = rel }) ≡ true
form_ends scope place step rel (Known f) w h =
    subst (λ b. bounds_by rel (innermost (placed_form place (cond b f (constant_form scope.params (length scope.iterators) (pos 0)))).iters *ℤ step) ≡ true) (sym w) h
form_ends scope place step rel (Large constant) w h = absurd w
form_ends scope place step rel Unknown w h = absurd w

judged_ends : (scope : Scope) (step : ℤ) (rel : Rel) (j : Judged) → Judges scope.params (length scope.iterators) j → whole_broken j ≡ None → may_bound step rel j ≡ true
    → bounds step (record { form = index_expr scope j; rel = rel }) ≡ true
judged_ends scope step rel j g none h =
    let l : j.large ≡ false = not_where j.large (Limit which.Coefficient) j.place (neither j.broken (broken_where j.large (Limit which.Coefficient) j.place) none).1 in
    form_ends scope j.place step rel j.form (whole_known scope.params (length scope.iterators) j g none) (by j.large l h)
  where
    by : (b : Bool) → b ≡ false → (b || form_bounds step rel j.form) ≡ true → form_bounds step rel j.form ≡ true
    by true e h = absurd cc
    by false e h = h

some_ends : (names : List Entry) (scope : Scope) (step : ℤ) (parts : List Part) → NoneBroken (map (λ part. whole_broken (compared names scope part)) parts)
    → list_any (λ (part : Part). may_bound step (part_rel part) (compared names scope part)) parts ≡ true → list_any (bounds step) (condition names scope parts) ≡ true
some_ends names scope step [] none h = absurd cc
some_ends names scope step (part ∷ parts) none h = by (may_bound step (part_rel part) (compared names scope part)) refl (some_ends names scope step parts none.1) h
  where
    front : (b c : Bool) → b ≡ true → (b || c) ≡ true
    front true c e = refl
    front false c e = absurd cc

    behind : (b c : Bool) → c ≡ true → (b || c) ≡ true
    behind true c e = refl
    behind false c e = e

    by : (b : Bool) → may_bound step (part_rel part) (compared names scope part) ≡ b
        → (list_any (λ (part : Part). may_bound step (part_rel part) (compared names scope part)) parts ≡ true → list_any (bounds step) (condition names scope parts) ≡ true) → (b || list_any (λ (part : Part). may_bound step (part_rel part) (compared names scope part)) parts) ≡ true
        → (bounds step (comparison names scope part) || list_any (bounds step) (condition names scope parts)) ≡ true
    by true e again h = front _ _ (judged_ends scope step (part_rel part) (compared names scope part) (compared_judges names scope part) none.0 e)
    by false e again h = behind _ _ (again h)

not_false : (b : Bool) → not b ≡ false → b ≡ true
not_false true h = refl
not_false false h = absurd cc

-- ---- targets

-- a target that breaks no rule is an array with so many subscripts
target_array : (m : Meaning) (n : ℕ) → target_rule m n ≡ None → (k : ℕ) × (dimensions : ℕ) × (m ≡ means.Array k dimensions) × ((n == dimensions) ≡ true)
target_array (means.Parameter k) n h = absurd cc
target_array (means.Iterator k) n h = absurd cc
target_array (means.Array k dimensions) n h = (k, dimensions, refl, not_misused (n == dimensions) h)
target_array means.LoopName n h = absurd cc
target_array means.OwnStart n h = absurd cc
target_array means.Nothing n h = absurd cc

few_nodes : (n : ℕ) → nat_lt 64 n ≡ false → n ≤ 64
few_nodes n h = grind (arith, nat_tests)

few_loops : (n : ℕ) → nat_lt 5 n ≡ false → n ≤ 5
few_loops n h = grind (arith, nat_tests)

-- ---- statements

module _ (p : Program) (names text_names : List Entry) (keeps : Keeps p names text_names) (leaves : Leaves names text_names) where
  -- the name of a loop is new in the text
  new_name : (scope : Scope) (typed : Bool) (name : List ℕ) → loop_rule names scope typed name ≡ None → (is_declared text_names name || is_running scope name) ≡ false
  new_name scope true name h = by (is_declared names name) refl (is_running scope name) h
    where
      by : (b : Bool) → is_declared names name ≡ b → (c : Bool) → (if b || c then Some Duplicate else None) ≡ None → (is_declared text_names name || c) ≡ false
      by true e c h = absurd cc
      by false e true h = absurd cc
      by false e false h = let n : is_declared text_names name ≡ false = leaves.new name e in rw n refl
  new_name scope false name h = by (declared_meaning names name) refl (is_running scope name) h
    where
      by : (m : Meaning) → declared_meaning names name ≡ m → (c : Bool) → untyped_rule m c ≡ None → (is_declared text_names name || c) ≡ false
      by means.LoopName e true h = absurd cc
      by means.LoopName e false h = let n : is_declared text_names name ≡ false = leaves.loop_name name e in rw n refl
      by means.Nothing e true h = absurd cc
      by means.Nothing e false h = absurd cc
      by (means.Parameter k) e c h = absurd cc
      by (means.Iterator k) e c h = absurd cc
      by (means.Array k dimensions) e c h = absurd cc
      by means.OwnStart e c h = absurd cc

  -- the statement that the rules make of one that breaks none is readable
  abbrev pub IsBuilt : Statement → Type 0
  IsBuilt x = (scope : Scope) (written : text.Scope) → scope.starting ≡ None → Follows p scope written → statement_broken names x scope ≡ None → IsReadableStmt text_names scope written (stmt names x scope)

  each_built : (scope : Scope) (written : text.Scope) → scope.starting ≡ None → Follows p scope written → (xs : List Statement) → AllByRecursion IsBuilt xs
      → NoneBroken (map (λ (x : Statement). statement_broken names x scope) xs) → AllByRecursion (IsReadableStmt text_names scope written) (stmts names scope xs)
  each_built scope written s f [] h none = tt
  each_built scope written s f (x ∷ xs) h none = (h.0 scope written s f none.0, each_built scope written s f xs h.1 none.1)

  body_built : (scope : Scope) (written : text.Scope) → scope.starting ≡ None → Follows p scope written → (xs : List Statement) → AllByRecursion IsBuilt xs
      → statements_broken names scope xs ≡ None → AllByRecursion (IsReadableStmt text_names scope written) (stmts names scope xs)
  body_built scope written s f xs h none = each_built scope written s f xs h (none_of (map (λ (x : Statement). statement_broken names x scope) xs) none)

  follows_start : (scope : Scope) (written : text.Scope) (typed : Bool) (iter : List ℕ) → Follows p scope written → Follows p (in_start scope typed iter) written
  follows_start scope written typed iter f = record { params = f.params; arrays = f.arrays; many = f.many; iterators = f.iterators; named = f.named }

  -- the head of a loop that breaks no rule
  record IsHead (scope : Scope) (typed : Bool) (name : Word) (start : Expr) (cond : List Part) (step : Step) : Type 0 where
    few : nat_lt 5 (length scope.iterators) ≡ false
    ends : is_endless names (in_test scope name.name) step cond ≡ false
    rule : loop_rule names scope typed name.name ≡ None
    begins : index_broken names (in_start scope typed name.name) start ≡ None
    runs : condition_broken names (in_test scope name.name) cond ≡ None
    steps : is_long step.by ≡ false

  head_holds : (scope : Scope) (typed : Bool) (name : Word) (start : Expr) (cond : List Part) (step : Step) (place : Place) → head_broken names scope typed name start cond step place ≡ None
      → IsHead scope typed name start cond step
  head_holds scope typed name start cond step place h =
      let a = neither _ _ h in
      let b = neither (broken_where (nat_lt 5 (length scope.iterators)) (Limit which.Depth) place) (broken_where (is_endless names (in_test scope name.name) step cond) Endless place) a.0 in
      let c = neither _ _ a.1 in
      let d = neither (rule_broken (loop_rule names scope typed name.name) name.place) (index_broken names (in_start scope typed name.name) start) c.0 in
      let g = neither (condition_broken names (in_test scope name.name) cond) (step_broken names (in_test scope name.name) name.name step) c.1 in record {
        few = not_where (nat_lt 5 (length scope.iterators)) (Limit which.Depth) place b.0;
        ends = not_where (is_endless names (in_test scope name.name) step cond) Endless place b.1;
        rule = no_rule (loop_rule names scope typed name.name) name.place d.0;
        begins = d.1;
        runs = g.0;
        steps = not_where (is_long step.by) (Limit which.Literal) step.by.place (neither _ _ g.1).1;
      }

  head_fits : (scope : Scope) (typed : Bool) (name : Word) (start : Expr) (cond : List Part) (step : Step) → IsHead scope typed name start cond step
      → FitsLoop text_names scope name.name (record { parts = condition names (in_test scope name.name) cond }) (step_number step)
  head_fits scope typed name start cond step h =
      let own = in_test scope name.name in
      let e = neither_is (step.by.number == 0) (not (list_any (λ (part : Part). may_bound (step_number step) (part_rel part) (compared names own part)) cond)) h.ends in record {
        few = few_loops (length scope.iterators) h.few;
        new = new_name scope typed name.name h.rule;
        steps = moving step e.0;
        small = small_step step h.steps;
        ends = some_ends names own (step_number step) cond (none_of (map (λ part. whole_broken (compared names own part)) cond) h.runs) (not_false _ e.1);
      }

  loop_built : (typed : Bool) (name : Word) (start : Expr) (cond : List Part) (step : Step) (body : List Statement) (place : Place)
      → IsNamed name.name → HasPart cond → AllByRecursion IsBuilt body → IsBuilt (statement.Loop typed name start cond step body place)
  loop_built typed name start cond step body place is some h scope written s f none =
      let n = neither (head_broken names scope typed name start cond step place) (statements_broken names (inside scope name.name) body) (sym (broken-loop names scope typed name start cond step body place) ∙ none) in
      let head = head_holds scope typed name start cond step place n.0 in
      let own = inside scope name.name in
      let test = in_test scope name.name in
      let inner = follows_inside p scope written name.name f in
      subst (IsReadableStmt text_names scope written) (sym (stmt-loop names scope typed name start cond step body place))
      (loop_readable text_names scope written name.name (index names (in_start scope typed name.name) start) (record { parts = condition names test cond }) (step_number step) (stmts names own body) place
      (record {
        fits = head_fits scope typed name start cond step head;
        begins = index_fits names (in_start scope typed name.name) text_names (in_start scope true name.name) written
            (carries p names text_names keeps (in_start scope typed name.name) (in_start scope true name.name) written (follows_start scope written typed name.name f) refl refl refl refl refl) start head.begins;
        runs = condition_fits names test text_names test (text.inside written name.name) (carries p names text_names keeps test test (text.inside written name.name) (follows_test p scope written name.name f) refl refl refl refl refl) cond head.runs;
        each = body_built own (text.inside written name.name) refl inner body h n.1;
      }))

  branch_built : (cond : List Part) (taken other : List Statement) (place : Place) → HasPart cond → AllByRecursion IsBuilt taken → AllByRecursion IsBuilt other
      → IsBuilt (statement.Branch cond taken other place)
  branch_built cond taken other place some h k scope written s f none =
      let n = neither (condition_broken names scope cond) (earlier (statements_broken names scope taken) (statements_broken names scope other)) (sym (broken-branch names scope cond taken other place) ∙ none) in
      let m = neither (statements_broken names scope taken) (statements_broken names scope other) n.1 in
      subst (IsReadableStmt text_names scope written) (sym (stmt-branch names scope cond taken other place))
      (branch_readable text_names scope written (record { parts = condition names scope cond }) (stmts names scope taken) (stmts names scope other) place
      (record {
        decides = condition_fits names scope text_names scope written (carries p names text_names keeps scope scope written f refl refl refl refl s) cond n.0;
        each = body_built scope written s f taken h m.0;
        each_other = body_built scope written s f other k m.1;
      }))

  assign_built : (target : Word) (subs : List Expr) (operator : Option Operator) (e : Expr) → IsReadableExpr e → IsBuilt (statement.Assign target subs operator e)
  assign_built target subs operator e h scope written s f none =
      let all = sym (broken-assign names scope target subs operator e) ∙ none in
      let n = neither (earlier (access_broken names scope (target_rule (meaning names scope target.name) (length subs)) target subs) (value_broken names scope e))
      (broken_where (nat_lt 64 (size (assigned_value names scope target subs operator e))) (Limit which.Nodes) target.place) all in
      let m = neither (access_broken names scope (target_rule (meaning names scope target.name) (length subs)) target subs) (value_broken names scope e) n.0 in
      let c = carries p names text_names keeps scope scope written f refl refl refl refl s in
      let rule = target_rule (meaning names scope target.name) (length subs) in
      let t = target_array (meaning names scope target.name) (length subs) (rule_holds names scope rule target subs m.0) in
      let stands = array_stands names scope text_names scope written c t.0 t.1 target subs t.2 t.3 in
      let number : t.0 ≡ array_number (meaning names scope target.name) = sym (ap array_number t.2) in
      let a = subst (λ k. ArrayStands text_names scope written k (length (map (index names scope) subs))) number stands in
      let b = subscripts_fit names scope text_names scope written c rule target subs m.0 in
      let read : IsReadable text_names scope written (read_of names scope (meaning names scope target.name) target subs) =
      access_readable text_names scope written (array_number (meaning names scope target.name)) (map (index names scope) subs) target.place a b in
      subst (IsReadableStmt text_names scope written) (sym (stmt-assign names scope target subs operator e))
      (assign_readable text_names scope written (array_number (meaning names scope target.name)) (map (index names scope) subs) (assigned_value names scope target subs operator e) target.place
      a b (assigned_has names scope text_names scope written c target subs operator e (h names scope text_names scope written c) m.1 read)
      (few_nodes (size (assigned_value names scope target subs operator e)) (not_where (nat_lt 64 (size (assigned_value names scope target subs operator e))) (Limit which.Nodes) target.place n.1)))

  pub statements_readable : {room : ℕ} {ts : List Lexeme} {xs : List Statement} → IsStatements room ts xs → AreSpelled ts → (scope : Scope) (written : text.Scope) → scope.starting ≡ None → Follows p scope written
      → statements_broken names scope xs ≡ None → AllByRecursion (IsReadableStmt text_names scope written) (stmts names scope xs)
  statements_readable {xs = xs} are h scope written s f none =
      body_built scope written s f xs (statements_have IsReadableExpr IsBuilt expr_readable loop_built branch_built assign_built are h) none
