-- A statement that breaks no rule, and whose branches have conditions, is ready.
use Rattle.std.proofs.Common.{◌≡◌, ℕ, zero, suc, ◌+◌, ◌<◌, List, [], ◌∷◌, map, length, refl, ap, sym, ◌∙◌, subst, Bool, true, false, not, ◌&&◌, ◌||◌, ◌==◌, nat_lt, arith, rules, ℤ, Option, None}
use Rattle.std.specs.List.{AllByRecursion, Contains, list_any, list_all}
use Rattle.std.proofs.lemmas.List.{length-map}
use Rattle.std.proofs.lemmas.Bool.Decides.{nat_tests}
use Rattle.ac_syntax.specs.FittingForms.{FitTests}
use Rattle.ac_syntax.specs.Turns.{Bounded, IsSteady, bounds}
use Rattle.ac_syntax.specs.ReadyPrograms.{Ready, ReadyAll}
use Rattle.ac_syntax.specs.declared.tree.Place.{Place}
use Rattle.ac_syntax.specs.declared.tree.Rel.{Rel}
use Rattle.ac_syntax.specs.declared.tree.Comparison.{Comparison}
use Rattle.ac_syntax.proofs.ReadyAt.{for_ready, if_ready, assign_ready}
use Rattle.ac_parse_grammar.specs.declared.tree.Word.{Word}
use Rattle.ac_parse_grammar.specs.declared.tree.Operator.{Operator}
use Rattle.ac_parse_grammar.specs.declared.tree.Part.{Part}
use Rattle.ac_parse_grammar.specs.declared.tree.Step.{Step}
use Rattle.ac_parse_grammar.specs.declared.tree.Expr.{Expr}
use Rattle.ac_parse_grammar.specs.declared.tree.Statement.{Statement, the_lemmas}
use Rattle.ac_parse_grammar.specs.declared.tree.Statement.TheVariants.{Loop, Branch, Assign}
use Rattle.ac_parse_exprs.specs.declared.fault.Which.TheVariants as which
use Rattle.ac_parse_exprs.specs.declared.fault.Rule.TheVariants.{Limit}
use Rattle.ac_parse_exprs.specs.declared.form.Collected.{Collected}
use Rattle.ac_parse_exprs.specs.declared.form.Collected.TheVariants.{Known, Large, Unknown}
use Rattle.ac_parse_exprs.specs.declared.scope.Entry.{Entry}
use Rattle.ac_parse_exprs.specs.declared.scope.Scope.{Scope}
use Rattle.ac_parse_exprs.specs.FaultOrder.{earlier}
use Rattle.ac_parse_exprs.specs.Meanings.{meaning}
use Rattle.ac_parse_exprs.specs.Comparisons.{whole_broken, form_or_zero, placed_form, index, compared, comparison, part_rel, condition, condition_broken}
use Rattle.ac_parse_exprs.specs.Values.{array_number}
use Rattle.ac_parse_rules.specs.Statements.{inside, in_test, in_start, step_number, form_bounds, may_bound, is_endless, head_broken, assigned_value, statement_broken, statements_broken, stmt, stmts}
use Rattle.ac_parse_rules.specs.DeclaredNumbers.{has_conditions}
use Rattle.ac_parse_exprs.proofs.Absent.{neither, none_of, not_where, each, each_of_map, in_rest, in_front, both_true}
use Rattle.ac_parse_exprs.proofs.Collecting.{IsKnown}
use Rattle.ac_parse_exprs.proofs.Judges.{neither_is, compared_judges, whole_known}
use Rattle.ac_parse_exprs.proofs.FittingForms.{index_fits, comparison_fits, parts_fit, parts_steady}
use Rattle.ac_parse_rules.proofs.UnbrokenParts.{NoPartBroken, none_in, head_ends, head_condition}
use Rattle.ac_parse_rules.proofs.FittingValues.{indices_fit, assigned_fits}
use Rattle.ac_parse_rules.proofs.Stepping.{broken-loop, broken-branch, stmt-loop, stmt-branch, stmt-assign}
use Rattle.ac_parse_exprs.proofs.Trees.{every_statement}

-- a comparison that may bound the iterator and has a form bounds it
bounds_of : (scope : Scope) (step : ℤ) (rel : Rel) (place : Place) (c : Collected) → IsKnown c → form_bounds step rel c ≡ true
    → bounds step (record { form = placed_form place (form_or_zero scope c); rel = rel }) ≡ true
bounds_of scope step rel place (Known f) k h = rw k h
bounds_of scope step rel place (Large c) k h = absurd k
bounds_of scope step rel place Unknown k h = absurd k

within_bounds : (b c : Bool) → b ≡ false → (b || c) ≡ true → c ≡ true
within_bounds true c h k = absurd cc
within_bounds false c h k = k

-- of a condition in which no rule is broken
abbrev HasBound : List Entry → Scope → ℤ → List Part → Type 0
HasBound names scope step parts = (bound : Comparison) × Contains (condition names scope parts) bound × (length bound.form.iters ≡ length scope.iterators) × (bounds step bound ≡ true)

bound_case : (names : List Entry) (scope : Scope) (step : ℤ) (part : Part) (parts : List Part) (b c : Bool) → may_bound step (part_rel part) (compared names scope part) ≡ b
    → whole_broken (compared names scope part) ≡ None → (b || c) ≡ true → (c ≡ true → HasBound names scope step parts) → HasBound names scope step (part ∷ parts)
bound_case names scope step part parts true c e w k rest =
    let j = compared names scope part in (
      comparison names scope part,
      in_front (comparison names scope part) (condition names scope parts),
      (comparison_fits names scope part).iters,
      bounds_of scope step (part_rel part) j.place j.form (whole_known scope.params (length scope.iterators) j (compared_judges names scope part) w)
          (within_bounds j.large (form_bounds step (part_rel part) j.form) (not_where j.large (Limit which.Coefficient) j.place (neither j.broken _ w).1) e),
    )
bound_case names scope step part parts false c e w k rest =
    let r = rest k in (r.0, in_rest (comparison names scope part) (condition names scope parts) r.0 r.1, r.2, r.3)

bound_in : (names : List Entry) (scope : Scope) (step : ℤ) (parts : List Part) → AllByRecursion (λ part. whole_broken (compared names scope part) ≡ None) parts
    → list_any (λ part. may_bound step (part_rel part) (compared names scope part)) parts ≡ true → HasBound names scope step parts
bound_in names scope step [] h k = absurd cc
bound_in names scope step (part ∷ parts) h k =
    bound_case names scope step part parts (may_bound step (part_rel part) (compared names scope part)) (list_any (λ part. may_bound step (part_rel part) (compared names scope part)) parts) refl h.0 k
    (bound_in names scope step parts h.1)

not_false : (b : Bool) → not b ≡ false → b ≡ true
not_false true h = refl
not_false false h = absurd cc

more : (name : List ℕ) (is : List (List ℕ)) → length (name ∷ is) ≡ length is + 1
more name is = omega arith

contained : {A : Type 0} (P : A → Type 0) (xs : List A) (x : A) → AllByRecursion P xs → Contains xs x → P x
contained P [] x h (k, l, e) = absurd (omega arith)
contained P (y ∷ ys) x h (zero, l, e) = subst P e h.0
contained P (y ∷ ys) x h (suc k, l, e) = contained P ys x h.1 (k, omega arith, e)

bounded : (names : List Entry) (scope : Scope) (name : List ℕ) (step : Step) (parts : List Part) → is_endless names (in_test scope name) step parts ≡ false → NoPartBroken names (in_test scope name) parts
    → Bounded (length scope.iterators) (step_number step) (record { parts = condition names (in_test scope name) parts })
bounded names scope name step parts h k =
    let test = in_test scope name in
    let e = neither_is (step.by.number == 0) (not (list_any (λ part. may_bound (step_number step) (part_rel part) (compared names test part)) parts)) h in
    let b = bound_in names test (step_number step) parts k (not_false (list_any (λ part. may_bound (step_number step) (part_rel part) (compared names test part)) parts) e.1) in
    let steady = contained (IsSteady (length scope.iterators)) (condition names test parts) b.0 (parts_steady names test (length scope.iterators) refl (more name scope.iterators) parts k) b.1 in
    record { bound = b.0; stands = b.1; innermost = b.2 ∙ more name scope.iterators; ends = b.3; steady = steady }

passes_all : {A : Type 0} (f : A → Bool) (xs : List A) → list_all (λ (b : Bool). b) (map f xs) ≡ list_all f xs
passes_all f [] = refl
passes_all f (x ∷ xs) = ap (λ b. f x && b) (passes_all f xs)

conditions-loop : (typed : Bool) (name : Word) (start : Expr) (cond : List Part) (step : Step) (body : List Statement) (place : Place)
    → has_conditions (Loop typed name start cond step body place) ≡ list_all has_conditions body
unfolding has_conditions
conditions-loop typed name start cond step body place = search (rules, the_lemmas, passes_all)

conditions-branch : (cond : List Part) (taken other : List Statement) (place : Place)
    → has_conditions (Branch cond taken other place) ≡ (nat_lt 0 (length cond) && (list_all has_conditions taken && list_all has_conditions other))
unfolding has_conditions
conditions-branch cond taken other place = search (rules, the_lemmas, passes_all)

abbrev IsReady : List Entry → Statement → Type 0
IsReady names s = (scope : Scope) → statement_broken names s scope ≡ None → has_conditions s ≡ true → Ready scope.params (length scope.iterators) (stmt names s scope)

ready_each : (names : List Entry) (scope : Scope) (ss : List Statement) → AllByRecursion (IsReady names) ss → AllByRecursion (λ s. statement_broken names s scope ≡ None) ss → list_all has_conditions ss ≡ true
    → ReadyAll scope.params (length scope.iterators) (stmts names scope ss)
ready_each names scope [] h b c = tt
ready_each names scope (s ∷ ss) h b c = let e = both_true (has_conditions s) (list_all has_conditions ss) c in (h.0 scope b.0 e.0, ready_each names scope ss h.1 b.1 e.1)

ready_block : (names : List Entry) (scope : Scope) (ss : List Statement) → AllByRecursion (IsReady names) ss → statements_broken names scope ss ≡ None → list_all has_conditions ss ≡ true
    → ReadyAll scope.params (length scope.iterators) (stmts names scope ss)
ready_block names scope ss h b c =
    ready_each names scope ss h (each_of_map (λ s. statement_broken names s scope) (λ c. c ≡ None) ss (none_of (map (λ s. statement_broken names s scope) ss) b)) c

some_parts : (names : List Entry) (scope : Scope) (cond : List Part) → nat_lt 0 (length cond) ≡ true → 0 < length (condition names scope cond)
some_parts names scope cond h = let e = length-map cond (comparison names scope) in grind (arith, nat_tests)

loop_ready : (names : List Entry) (typed : Bool) (name : Word) (start : Expr) (cond : List Part) (step : Step) (body : List Statement) (place : Place) → AllByRecursion (IsReady names) body → IsReady names (Loop typed name start cond step body place)
loop_ready names typed name start cond step body place h scope b c =
    let n = neither (head_broken names scope typed name start cond step place) (statements_broken names (inside scope name.name) body) (sym (broken-loop names scope typed name start cond step body place) ∙ b) in
    let r = ready_block names (inside scope name.name) body h n.1 (sym (conditions-loop typed name start cond step body place) ∙ c) in
    let e = more name.name scope.iterators in
    let test = in_test scope name.name in
    let k = none_in names test cond (head_condition names scope typed name start cond step place n.0) in
    subst (Ready scope.params (length scope.iterators)) (sym (stmt-loop names scope typed name start cond step body place))
    (for_ready scope.params (length scope.iterators) name.name (index names (in_start scope typed name.name) start) (record { parts = condition names test cond }) (step_number step) (stmts names (inside scope name.name) body) place
    (index_fits names (in_start scope typed name.name) start)
    (subst (λ k. FitTests scope.params k (condition names test cond)) e (parts_fit names test cond k))
    (parts_steady names test (length scope.iterators) refl e cond k)
    (bounded names scope name.name step cond (head_ends names scope typed name start cond step place n.0) k)
    (subst (λ k. ReadyAll scope.params k (stmts names (inside scope name.name) body)) e r))

branch_ready : (names : List Entry) (cond : List Part) (taken other : List Statement) (place : Place) → AllByRecursion (IsReady names) taken → AllByRecursion (IsReady names) other → IsReady names (Branch cond taken other place)
branch_ready names cond taken other place h k scope b c =
    let n = neither (condition_broken names scope cond) (earlier (statements_broken names scope taken) (statements_broken names scope other)) (sym (broken-branch names scope cond taken other place) ∙ b) in
    let m = neither (statements_broken names scope taken) (statements_broken names scope other) n.1 in
    let e = both_true (nat_lt 0 (length cond)) (list_all has_conditions taken && list_all has_conditions other) (sym (conditions-branch cond taken other place) ∙ c) in
    let f = both_true (list_all has_conditions taken) (list_all has_conditions other) e.1 in
    subst (Ready scope.params (length scope.iterators)) (sym (stmt-branch names scope cond taken other place))
    (if_ready scope.params (length scope.iterators) (record { parts = condition names scope cond }) (stmts names scope taken) (stmts names scope other) place
    (parts_fit names scope cond (none_in names scope cond n.0)) (ready_block names scope taken h m.0 f.0) (ready_block names scope other k m.1 f.1) (some_parts names scope cond e.0))

assign_is_ready : (names : List Entry) (target : Word) (subs : List Expr) (operator : Option Operator) (e : Expr) → IsReady names (Assign target subs operator e)
assign_is_ready names target subs operator e scope b c =
    subst (Ready scope.params (length scope.iterators)) (sym (stmt-assign names scope target subs operator e))
    (assign_ready scope.params (length scope.iterators) (array_number (meaning names scope target.name)) (map (index names scope) subs) (assigned_value names scope target subs operator e) target.place
    (indices_fit names scope subs) (assigned_fits names scope target subs operator e))

statement_ready : (names : List Entry) (s : Statement) → IsReady names s
statement_ready names = every_statement (IsReady names) (loop_ready names) (branch_ready names) (assign_is_ready names)

-- statements that break no rule
pub statements_ready : (names : List Entry) (scope : Scope) (ss : List Statement) → statements_broken names scope ss ≡ None → list_all has_conditions ss ≡ true
    → ReadyAll scope.params (length scope.iterators) (stmts names scope ss)
statements_ready names scope ss b c = ready_block names scope ss (each (IsReady names) (statement_ready names) ss) b c
