-- Statements: which rules they break, and what they are in the program.
use Rattle.std.specs.Prelude.{ℕ, ◌==◌, nat_eq, nat_lt, Bool, true, false, not, ◌||◌, if◌then◌else◌, List, [], ◌∷◌, ◌++◌, map, length, ℤ, pos, neg_ℤ, ◌*ℤ◌, Option, Some, None, is_some}
use Rattle.std.specs.List.{list_any, flat_map}
use Rattle.std.specs.Cmp.Lexicographic.{pointwise}
use Rattle.ac_syntax.specs.ValueNodes.{size}
use Rattle.ac_syntax.specs.Turns.{bounds_by, innermost}
use Rattle.ac_syntax.specs.declared.tree.Place.{Place}
use Rattle.ac_syntax.specs.declared.tree.Rel.{Rel}
use Rattle.ac_syntax.specs.declared.tree.Value.{Value}
use Rattle.ac_syntax.specs.declared.tree.Stmt.{Stmt}
use Rattle.ac_syntax.specs.declared.tree.Stmt.TheVariants.{For, If, Assign}
use Rattle.ac_parse_grammar.specs.declared.tree.Word.{Word}
use Rattle.ac_parse_grammar.specs.declared.tree.Operator.{Operator}
use Rattle.ac_parse_grammar.specs.declared.tree.Part.{Part}
use Rattle.ac_parse_grammar.specs.declared.tree.Step.{Step}
use Rattle.ac_parse_grammar.specs.declared.tree.Expr.{Expr}
use Rattle.ac_parse_grammar.specs.declared.tree.Statement.{Statement}
use Rattle.ac_parse_grammar.specs.declared.tree.Statement.TheOpen.{Statement-F}
use Rattle.ac_parse_grammar.specs.declared.tree.Statement.TheFolds.{fold-Statement}
use Rattle.ac_parse_exprs.specs.declared.fault.Which.TheVariants as which
use Rattle.ac_parse_exprs.specs.declared.fault.Rule.{Rule}
use Rattle.ac_parse_exprs.specs.declared.fault.Rule.TheVariants.{Undeclared, Misused, Duplicate, Endless, Limit}
use Rattle.ac_parse_exprs.specs.declared.fault.Broken.{Broken}
use Rattle.ac_parse_exprs.specs.declared.scope.Meaning.{Meaning}
use Rattle.ac_parse_exprs.specs.declared.scope.Meaning.TheVariants as means
use Rattle.ac_parse_exprs.specs.declared.scope.Entry.{Entry}
use Rattle.ac_parse_exprs.specs.declared.scope.Scope.{Scope}
use Rattle.ac_parse_exprs.specs.declared.form.Collected.{Collected}
use Rattle.ac_parse_exprs.specs.declared.form.Collected.TheVariants.{Known, Large, Unknown}
use Rattle.ac_parse_exprs.specs.declared.index.Judged.{Judged}
use Rattle.ac_parse_exprs.specs.FaultOrder.{earlier, broken_where, rule_broken}
use Rattle.ac_parse_exprs.specs.Meanings.{meaning, declared_meaning, iterator_number, misused_unless}
use Rattle.ac_parse_exprs.specs.IndexExpressions.{is_long}
use Rattle.ac_parse_exprs.specs.Comparisons.{first_of, index, index_broken, compared, part_rel, condition, condition_broken}
use Rattle.ac_parse_exprs.specs.Values.{access_broken, read_of, array_number, value, value_broken, applied_values}
use Rattle.ac_parse_rules.specs.Declarations.{is_declared}

-- inside a loop
abbrev pub inside : Scope → List ℕ → Scope
inside scope name = record { params = scope.params; iterators = name ∷ scope.iterators; starting = None; fixed = scope.fixed; tested = false }

-- in the condition of a loop
abbrev pub in_test : Scope → List ℕ → Scope
in_test scope name = record { params = scope.params; iterators = name ∷ scope.iterators; starting = None; fixed = scope.fixed; tested = true }

-- in the start of a loop; a loop without a type does not run its name there yet
abbrev pub in_start : Scope → Bool → List ℕ → Scope
in_start scope typed name = record { params = scope.params; iterators = scope.iterators; starting = if typed then None else Some name; fixed = scope.fixed; tested = false }

abbrev pub is_running : Scope → List ℕ → Bool
is_running scope name = is_some (iterator_number scope.iterators name)

-- a loop without a type runs a local whole number without brackets, once
abbrev pub untyped_rule : Meaning → Bool → Option Rule
untyped_rule means.LoopName running = if running then Some Duplicate else None
untyped_rule means.Nothing running = if running then Some Misused else Some Undeclared
untyped_rule (means.Parameter k) running = Some Misused
untyped_rule (means.Iterator k) running = Some Misused
untyped_rule (means.Array number dimensions) running = Some Misused
untyped_rule means.OwnStart running = Some Misused

-- the name of a loop with a type is new
abbrev pub loop_rule : List Entry → Scope → Bool → List ℕ → Option Rule
loop_rule names scope typed name =
    if typed then (if is_declared names name || is_running scope name then Some Duplicate else None)
    else untyped_rule (declared_meaning names name) (is_running scope name)

-- a step changes its own loop's name
abbrev pub other_rule : Meaning → Rule
other_rule means.LoopName = Undeclared
other_rule means.Nothing = Undeclared
other_rule (means.Parameter k) = Misused
other_rule (means.Iterator k) = Misused
other_rule (means.Array number dimensions) = Misused
other_rule means.OwnStart = Misused

abbrev pub step_word_broken : List Entry → Scope → List ℕ → Word → Option Broken
step_word_broken names scope name word = if pointwise nat_eq word.name name then None else rule_broken (Some (other_rule (meaning names scope word.name))) word.place

abbrev pub source_broken : List Entry → Scope → List ℕ → Option Word → Option Broken
source_broken names scope name None = None
source_broken names scope name (Some word) = step_word_broken names scope name word

abbrev pub step_broken : List Entry → Scope → List ℕ → Step → Option Broken
step_broken names scope name step = earlier (earlier (step_word_broken names scope name step.target) (source_broken names scope name step.source))
    (broken_where (is_long step.by) (Limit which.Literal) step.by.place)

abbrev pub step_number : Step → ℤ
step_number step = if step.down then neg_ℤ (pos step.by.number) else pos step.by.number

-- a form that bounds the iterator in the direction of the step
abbrev pub form_bounds : ℤ → Rel → Collected → Bool
form_bounds step rel (Known f) = bounds_by rel (innermost f.iters *ℤ step)
form_bounds step rel (Large constant) = true
form_bounds step rel Unknown = true

-- a comparison that does; one that breaks a rule, or has a part beyond the limit, might
abbrev pub may_bound : ℤ → Rel → Judged → Bool
may_bound step rel j = j.large || form_bounds step rel j.form

abbrev pub is_endless : List Entry → Scope → Step → List Part → Bool
is_endless names scope step cond =
    (step.by.number == 0) || not (list_any (λ part. may_bound (step_number step) (part_rel part) (compared names scope part)) cond)

-- what is broken in a loop but for its body
abbrev pub head_broken : List Entry → Scope → Bool → Word → Expr → List Part → Step → Place → Option Broken
head_broken names scope typed name start cond step place =
    earlier (earlier (broken_where (nat_lt 5 (length scope.iterators)) (Limit which.Depth) place) (broken_where (is_endless names (in_test scope name.name) step cond) Endless place))
    (earlier (earlier (rule_broken (loop_rule names scope typed name.name) name.place) (index_broken names (in_start scope typed name.name) start))
    (earlier (condition_broken names (in_test scope name.name) cond) (step_broken names (in_test scope name.name) name.name step)))

-- a target is an array or a scalar with as many subscripts as it has extents
abbrev pub target_rule : Meaning → ℕ → Option Rule
target_rule (means.Parameter k) subs = Some Misused
target_rule (means.Iterator k) subs = Some Misused
target_rule (means.Array number dimensions) subs = misused_unless (subs == dimensions)
target_rule means.LoopName subs = Some Undeclared
target_rule means.OwnStart subs = Some Misused
target_rule means.Nothing subs = Some Undeclared

-- `a op= e` assigns `a op (e)`
abbrev pub assigned_value : List Entry → Scope → Word → List Expr → Option Operator → Expr → Value
assigned_value names scope target subs None e = value names scope e
assigned_value names scope target subs (Some op) e = applied_values op (read_of names scope (meaning names scope target.name) target subs) (value names scope e)

-- how many nodes `op=` adds
abbrev pub extra_nodes : Option Operator → ℕ
extra_nodes None = 0
extra_nodes (Some op) = 2

abbrev pub assignment_broken : List Entry → Scope → Word → List Expr → Option Operator → Expr → Option Broken
assignment_broken names scope target subs operator e =
    earlier (earlier (access_broken names scope (target_rule (meaning names scope target.name) (length subs)) target subs) (value_broken names scope e))
    (broken_where (nat_lt 64 (size (assigned_value names scope target subs operator e))) (Limit which.Nodes) target.place)

-- in a scope
abbrev pub first_in : Scope → List (Scope → Option Broken) → Option Broken
first_in scope bs = first_of (map (λ b. b scope) bs)

abbrev pub broken_step : List Entry → Statement-F (Scope → Option Broken) → Scope → Option Broken
broken_step names (Statement-F.Loop typed name start cond step body place) scope = earlier (head_broken names scope typed name start cond step place) (first_in (inside scope name.name) body)
broken_step names (Statement-F.Branch cond taken other place) scope = earlier (condition_broken names scope cond) (earlier (first_in scope taken) (first_in scope other))
broken_step names (Statement-F.Assign target subs operator e) scope = assignment_broken names scope target subs operator e

unfoldable pub statement_broken : List Entry → Statement → Scope → Option Broken
statement_broken names = fold-Statement (Scope → Option Broken) (broken_step names)

abbrev pub statements_broken : List Entry → Scope → List Statement → Option Broken
statements_broken names scope ss = first_of (map (λ s. statement_broken names s scope) ss)

-- the places of the targets, in the order of the text
abbrev pub targets_step : Statement-F (List Place) → List Place
targets_step (Statement-F.Loop typed name start cond step body place) = flat_map (λ places. places) body
targets_step (Statement-F.Branch cond taken other place) = flat_map (λ places. places) taken ++ flat_map (λ places. places) other
targets_step (Statement-F.Assign target subs operator e) = target.place ∷ []

unfoldable pub targets : Statement → List Place
targets = fold-Statement (List Place) targets_step

abbrev pub all_targets : List Statement → List Place
all_targets ss = flat_map targets ss

-- the statement of the program
abbrev pub each_in : Scope → List (Scope → Stmt) → List Stmt
each_in scope ss = map (λ s. s scope) ss

abbrev pub stmt_step : List Entry → Statement-F (Scope → Stmt) → Scope → Stmt
stmt_step names (Statement-F.Loop typed name start cond step body place) scope =
    For name.name (index names (in_start scope typed name.name) start) (record { parts = condition names (in_test scope name.name) cond }) (step_number step) (each_in (inside scope name.name) body) place
stmt_step names (Statement-F.Branch cond taken other place) scope = If (record { parts = condition names scope cond }) (each_in scope taken) (each_in scope other) place
stmt_step names (Statement-F.Assign target subs operator e) scope =
    Assign (array_number (meaning names scope target.name)) (map (index names scope) subs) (assigned_value names scope target subs operator e) target.place

unfoldable pub stmt : List Entry → Statement → Scope → Stmt
stmt names = fold-Statement (Scope → Stmt) (stmt_step names)

abbrev pub stmts : List Entry → Scope → List Statement → List Stmt
stmts names scope ss = map (λ s. stmt names s scope) ss
