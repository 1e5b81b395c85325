-- A file that breaks no rule uses no name that is not declared.
use Rattle.std.proofs.Common.{◌≡◌, ℕ, pos, List, [], ◌∷◌, map, length, Bool, true, false, cond, ◌||◌, refl, sym, subst, ◌∙◌, nat_eq, Option, Some, None}
use Rattle.std.specs.Prelude.{replicate, is_some}
use Rattle.std.specs.List.{AllByRecursion}
use Rattle.std.specs.Cmp.Lexicographic.{pointwise}
use Rattle.std.proofs.lemmas.Bool.Decides.{Decides-eqb}
use Rattle.std.proofs.lemmas.List.{length-replicate}
use Rattle.std.proofs.lemmas.Slice.Eq.{slice_eq-Decides}
use Rattle.ac_syntax.specs.Algebra.{Cell}
use Rattle.ac_syntax.specs.Index.{Point}
use Rattle.ac_syntax.specs.Term.{Term, Num}
use Rattle.ac_syntax.specs.declared.tree.Place.{Place}
use Rattle.ac_parse_grammar.specs.declared.tree.Word.{Word}
use Rattle.ac_parse_grammar.specs.declared.tree.Operator.{Operator}
use Rattle.ac_parse_grammar.specs.declared.tree.Part.{Part}
use Rattle.ac_parse_grammar.specs.declared.tree.Step.{Step}
use Rattle.ac_parse_grammar.specs.declared.tree.Expr.{Expr}
use Rattle.ac_parse_grammar.specs.declared.tree.Statement.{Statement}
use Rattle.ac_parse_grammar.specs.declared.tree.Statement.TheVariants.{Loop, Branch, Assign}
use Rattle.ac_parse_grammar.specs.declared.tree.Pragma.{Pragma}
use Rattle.ac_parse_grammar.specs.declared.tree.Pragma.TheVariants.{Context, Commutative, Output}
use Rattle.ac_parse_exprs.specs.declared.fault.Rule.{Rule}
use Rattle.ac_parse_exprs.specs.declared.scope.Entry.{Entry}
use Rattle.ac_parse_exprs.specs.declared.scope.Meaning.{Meaning}
use Rattle.ac_parse_exprs.specs.declared.scope.Meaning.TheVariants as means
use Rattle.ac_parse_exprs.specs.declared.scope.Scope.{Scope}
use Rattle.ac_parse_exprs.specs.FaultOrder.{earlier, rule_broken}
use Rattle.ac_parse_exprs.specs.Comparisons.{whole_broken, index_broken, compared, condition_broken}
use Rattle.ac_parse_rules.specs.Declarations.{is_declared, param_count, input_count, fixed_scope}
use Rattle.ac_parse_exprs.specs.Meanings.{declared_meaning, meaning, iterator_number}
use Rattle.ac_parse_rules.specs.Statements.{inside, in_test, in_start, other_rule, step_word_broken, source_broken, head_broken, target_rule, statement_broken, statements_broken}
use Rattle.ac_parse_exprs.specs.Values.{value_broken, access_broken}
use Rattle.ac_parse_rules.specs.Files.{context_parts, output_words, output_rule, output_broken, pragma_broken, body_scope, names_of}
use Rattle.ac_parse_exprs.specs.FormValues.{AreNumbered, IsPointOf}
use Rattle.ac_parse_rules.specs.LawsOfNames.{IsKnown, ReadsKnown, ComparesKnown, SourceKnown, UsesKnown, loop, branch, assignment, AllUseKnown, no_statement, one_more, NoneIsUndeclared}
use Rattle.ac_parse_exprs.proofs.Absent.{NoneBroken, neither, none_of, each, each_of_map, each_append}
use Rattle.ac_parse_exprs.proofs.Accesses.{rule_holds}
use Rattle.ac_parse_rules.proofs.KnownNames.{IsUsed, used_declared, used_known, tells, says_known}
use Rattle.ac_parse_rules.proofs.NumberedNames.{files_are_numbered}
use Rattle.ac_parse_rules.proofs.SmallPrograms.{same_name}
use Rattle.ac_parse_rules.proofs.Stepping.{broken-loop, broken-branch, broken-assign}
use Rattle.ac_parse_exprs.proofs.Trees.{every_statement}
use Rattle.ac_parse_exprs.proofs.WrittenConditions.{comparison_holds_as}
use Rattle.ac_parse_exprs.proofs.WrittenExpressions.{indices_have_values}
use Rattle.ac_parse_rules.proofs.UnbrokenParts.{context_none}
use Rattle.ac_parse_exprs.proofs.WrittenTerms.{value_says}

-- some point of a scope, and some state
abbrev origin : Scope → Point
origin scope = record { params = replicate scope.params (pos 0); iters = replicate (length scope.iterators) (pos 0) }

is_origin : (scope : Scope) → IsPointOf scope (origin scope)
is_origin scope = (length-replicate scope.params (pos 0), length-replicate (length scope.iterators) (pos 0))

abbrev blank : Cell → Term
blank c = Num (pos 0)

target_used : (m : Meaning) (n : ℕ) → target_rule m n ≡ None → IsUsed m
target_used (means.Parameter k) n h = absurd cc
target_used (means.Iterator k) n h = absurd cc
target_used (means.Array k dimensions) n h = tt
target_used means.LoopName n h = absurd cc
target_used means.OwnStart n h = absurd cc
target_used means.Nothing n h = absurd cc

output_used : (inputs : ℕ) (m : Meaning) → output_rule inputs m ≡ None → IsUsed m
output_used inputs (means.Parameter k) h = absurd cc
output_used inputs (means.Iterator k) h = absurd cc
output_used inputs (means.Array k dimensions) h = tt
output_used inputs means.LoopName h = absurd cc
output_used inputs means.OwnStart h = absurd cc
output_used inputs means.Nothing h = absurd cc

no_rule : (rule : Option Rule) (place : Place) → rule_broken rule place ≡ None → rule ≡ None
no_rule None place h = refl
no_rule (Some rule) place h = absurd cc

module _ (names : List Entry) (scope : Scope) (a : AreNumbered scope.params names) where
  index_known : (e : Expr) → index_broken names scope e ≡ None → ReadsKnown names scope e
  index_known e b = tells names scope (origin scope) e (_, indices_have_values names scope (origin scope) a (is_origin scope) e b)

  indices_known : (es : List Expr) → NoneBroken (map (index_broken names scope) es) → AllByRecursion (ReadsKnown names scope) es
  indices_known [] h = tt
  indices_known (e ∷ es) h = (index_known e h.0, indices_known es h.1)

  parts_known : (parts : List Part) → NoneBroken (map (λ part. whole_broken (compared names scope part)) parts) → ComparesKnown names scope parts
  parts_known [] h = tt
  parts_known (part ∷ parts) h =
      let c = comparison_holds_as names scope (origin scope) a (is_origin scope) part h.0 in
      ((tells names scope (origin scope) part.left (c.0, c.2), tells names scope (origin scope) part.right (c.1, c.3)), parts_known parts h.1)

  condition_known : (parts : List Part) → condition_broken names scope parts ≡ None → ComparesKnown names scope parts
  condition_known parts b = parts_known parts (none_of (map (λ part. whole_broken (compared names scope part)) parts) b)

  value_known : (e : Expr) → value_broken names scope e ≡ None → ReadsKnown names scope e
  value_known e b = says_known names scope (origin scope) blank e (_, value_says names scope (origin scope) blank a (is_origin scope) e b)

  target_known : (target : Word) (subs : List Expr) → access_broken names scope (target_rule (meaning names scope target.name) (length subs)) target subs ≡ None → IsKnown names scope target.name
  target_known target subs b = used_known names scope target.name (target_used (meaning names scope target.name) (length subs) (rule_holds names scope (target_rule (meaning names scope target.name) (length subs)) target subs b))

-- a step that breaks no rule changes its own loop's name
own_step : (names : List Entry) (scope : Scope) (name : List ℕ) (word : Word) → step_word_broken names (inside scope name) name word ≡ None → IsKnown names (inside scope name) word.name
own_step names scope name word h = by (pointwise nat_eq word.name name) refl h
  where
    runs_itself : (b : Bool) (k : Option ℕ) → b ≡ true → (is_some (cond b (Some (length scope.iterators)) k) || is_declared names name) ≡ true
    runs_itself true k e = refl
    runs_itself false k e = absurd cc

    by : (b : Bool) → b ≡ pointwise nat_eq word.name name → cond b None (rule_broken (Some (other_rule (meaning names (inside scope name) word.name))) word.place) ≡ None → IsKnown names (inside scope name) word.name
    by true e h =
        let n : word.name ≡ name = (slice_eq-Decides Decides-eqb word.name name true e).0 refl in
        subst (IsKnown names (inside scope name)) (sym n) (runs_itself (pointwise nat_eq name name) (iterator_number scope.iterators name) (same_name name))
    by false e h = absurd cc

source_own : (names : List Entry) (scope : Scope) (name : List ℕ) (source : Option Word) → source_broken names (inside scope name) name source ≡ None → SourceKnown names (inside scope name) source
source_own names scope name None h = tt
source_own names scope name (Some word) h = own_step names scope name word h

abbrev IsUsing : List Entry → Statement → Type 0
IsUsing names s = (scope : Scope) → AreNumbered scope.params names → statement_broken names s scope ≡ None → UsesKnown names scope s

each_uses : (names : List Entry) (scope : Scope) → AreNumbered scope.params names → (ss : List Statement) → AllByRecursion (IsUsing names) ss → AllByRecursion (λ s. statement_broken names s scope ≡ None) ss → AllUseKnown names scope ss
each_uses names scope a [] h b = no_statement
each_uses names scope a (s ∷ ss) h b = one_more (h.0 scope a b.0) (each_uses names scope a ss h.1 b.1)

block_uses : (names : List Entry) (scope : Scope) → AreNumbered scope.params names → (ss : List Statement) → AllByRecursion (IsUsing names) ss → statements_broken names scope ss ≡ None → AllUseKnown names scope ss
block_uses names scope a ss h b = each_uses names scope a ss h (each_of_map (λ s. statement_broken names s scope) (λ c. c ≡ None) ss (none_of (map (λ s. statement_broken names s scope) ss) b))

loop_uses : (names : List Entry) (typed : Bool) (name : Word) (start : Expr) (cond : List Part) (step : Step) (body : List Statement) (place : Place) → AllByRecursion (IsUsing names) body → IsUsing names (Loop typed name start cond step body place)
loop_uses names typed name start cond step body place h scope a b =
    let n = neither (head_broken names scope typed name start cond step place) (statements_broken names (inside scope name.name) body) (sym (broken-loop names scope typed name start cond step body place) ∙ b) in
    let m = neither _ _ (neither _ _ n.0).1 in
    let s = (neither _ _ m.0).1 in
    let c = neither _ _ m.1 in
    let q = neither _ _ (neither _ _ c.1).0 in
    loop {typed = typed} {name = name} {start = start} {cond = cond} {step = step} {body = body} {place = place} (index_known names (in_start scope typed name.name) a start s) (condition_known names (in_test scope name.name) a cond c.0)
    (own_step names scope name.name step.target q.0) (source_own names scope name.name step.source q.1) (block_uses names (inside scope name.name) a body h n.1)

branch_uses : (names : List Entry) (cond : List Part) (taken other : List Statement) (place : Place) → AllByRecursion (IsUsing names) taken → AllByRecursion (IsUsing names) other → IsUsing names (Branch cond taken other place)
branch_uses names cond taken other place h k scope a b =
    let n = neither (condition_broken names scope cond) (earlier (statements_broken names scope taken) (statements_broken names scope other)) (sym (broken-branch names scope cond taken other place) ∙ b) in
    let m = neither (statements_broken names scope taken) (statements_broken names scope other) n.1 in
    branch {cond = cond} {taken = taken} {other = other} {place = place} (condition_known names scope a cond n.0) (block_uses names scope a taken h m.0) (block_uses names scope a other k m.1)

assign_uses : (names : List Entry) (target : Word) (subs : List Expr) (operator : Option Operator) (e : Expr) → IsUsing names (Assign target subs operator e)
assign_uses names target subs operator e scope a b =
    let n = neither _ _ (sym (broken-assign names scope target subs operator e) ∙ b) in
    let m = neither _ _ n.0 in
    assignment {target = target} {subs = subs} {operator = operator} {e = e} (target_known names scope a target subs m.0) (indices_known names scope a subs (none_of (map (index_broken names scope) subs) (neither _ _ m.0).1)) (value_known names scope a e m.1)

statements_use : (names : List Entry) (scope : Scope) → AreNumbered scope.params names → (ss : List Statement) → statements_broken names scope ss ≡ None → AllUseKnown names scope ss
statements_use names scope a ss b = block_uses names scope a ss (each (IsUsing names) (every_statement (IsUsing names) (loop_uses names) (branch_uses names) (assign_uses names)) ss) b

words_declared : (names : List Entry) (inputs : ℕ) (words : List Word) → NoneBroken (map (output_broken names inputs) words) → AllByRecursion (λ (word : Word). is_declared names word.name ≡ true) words
words_declared names inputs [] h = tt
words_declared names inputs (word ∷ words) h = (
  used_declared names word.name (output_used inputs (declared_meaning names word.name) (no_rule (output_rule inputs (declared_meaning names word.name)) word.place h.0)),
  words_declared names inputs words h.1,
)

outputs_declared : (names : List Entry) (scope : Scope) (inputs : ℕ) (ps : List Pragma) → NoneBroken (map (pragma_broken names scope inputs) ps) → AllByRecursion (λ (word : Word). is_declared names word.name ≡ true) (output_words ps)
outputs_declared names scope inputs [] h = tt
outputs_declared names scope inputs (Context parts ∷ ps) h = outputs_declared names scope inputs ps h.1
outputs_declared names scope inputs (Commutative words ∷ ps) h = outputs_declared names scope inputs ps h.1
outputs_declared names scope inputs (Output words ∷ ps) h =
    each_append (λ (word : Word). is_declared names word.name ≡ true) words (output_words ps) (words_declared names inputs words (none_of (map (output_broken names inputs) words) h.0)) (outputs_declared names scope inputs ps h.1)

pub none_is_undeclared : NoneIsUndeclared
none_is_undeclared file h =
    let names = names_of file in
    let scope = fixed_scope (param_count file.params) in
    let a = (files_are_numbered file).0 in
    let n = neither _ _ h in
    let m = neither _ _ n.1 in
    let s = neither _ _ m.0 in
    let ps = none_of (map (pragma_broken names scope (input_count file.params)) file.pragmas) m.1 in
    record {
      body = statements_use names (body_scope (param_count file.params)) a file.body s.0;
      context = parts_known names scope a (context_parts file.pragmas) (context_none names scope (input_count file.params) file.pragmas ps);
      outputs = outputs_declared names scope (input_count file.params) file.pragmas ps;
    }
