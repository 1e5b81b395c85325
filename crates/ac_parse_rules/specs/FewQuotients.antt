-- Assignments with more quotients than the limit: each quotient of the program becomes a column of what is decided.
use Rattle.std.specs.Prelude.{nat_lt, Bool, List, map, length, Option}
use Rattle.ac_syntax.specs.Quotients.{noted_form, noted_parts, noted_value, noted_subs}
use Rattle.ac_syntax.specs.declared.tree.Quot.{Quot}
use Rattle.ac_parse_grammar.specs.declared.tree.Operator.{Operator}
use Rattle.ac_parse_grammar.specs.declared.tree.Word.{Word}
use Rattle.ac_parse_grammar.specs.declared.tree.Expr.{Expr}
use Rattle.ac_parse_grammar.specs.declared.tree.Part.{Part}
use Rattle.ac_parse_grammar.specs.declared.tree.Statement.{Statement}
use Rattle.ac_parse_grammar.specs.declared.tree.Statement.TheOpen.{Statement-F}
use Rattle.ac_parse_grammar.specs.declared.tree.Statement.TheFolds.{fold-Statement}
use Rattle.ac_parse_exprs.specs.declared.fault.Which.TheVariants.{Quotients}
use Rattle.ac_parse_exprs.specs.declared.fault.Rule.TheVariants.{Limit}
use Rattle.ac_parse_exprs.specs.declared.fault.Broken.{Broken}
use Rattle.ac_parse_exprs.specs.declared.scope.Entry.{Entry}
use Rattle.ac_parse_exprs.specs.declared.scope.Scope.{Scope}
use Rattle.ac_parse_exprs.specs.FaultOrder.{earlier, broken_where}
use Rattle.ac_parse_exprs.specs.Comparisons.{first_of, index, condition}
use Rattle.ac_parse_rules.specs.Statements.{inside, in_test, in_start, assigned_value}

-- behind those around a loop, the quotients of its start and of its condition
abbrev pub loop_noted : List Entry → Scope → Bool → Word → Expr → List Part → List Quot → List Quot
loop_noted names scope typed name start cond seen =
    noted_parts (noted_form seen (index names (in_start scope typed name.name) start)) (condition names (in_test scope name.name) cond)

-- behind those around an assignment, its own
abbrev pub assignment_noted : List Entry → Scope → Word → List Expr → Option Operator → Expr → List Quot → List Quot
assignment_noted names scope target subs operator e seen = noted_subs (noted_value seen (assigned_value names scope target subs operator e)) (map (index names scope) subs)

abbrev pub assignment_crowded : List Entry → Scope → Word → List Expr → Option Operator → Expr → List Quot → Option Broken
assignment_crowded names scope target subs operator e seen = broken_where (nat_lt 8 (length (assignment_noted names scope target subs operator e seen))) (Limit Quotients) target.place

abbrev pub first_crowded : Scope → List Quot → List (Scope → List Quot → Option Broken) → Option Broken
first_crowded scope seen bs = first_of (map (λ b. b scope seen) bs)

-- the first target with more than 8 quotients, where those around have been noted
abbrev pub crowded_step : List Entry → Statement-F (Scope → List Quot → Option Broken) → Scope → List Quot → Option Broken
crowded_step names (Statement-F.Loop typed name start cond step body place) scope seen = first_crowded (inside scope name.name) (loop_noted names scope typed name start cond seen) body
crowded_step names (Statement-F.Branch cond taken other place) scope seen =
    earlier (first_crowded scope (noted_parts seen (condition names scope cond)) taken) (first_crowded scope (noted_parts seen (condition names scope cond)) other)
crowded_step names (Statement-F.Assign target subs operator e) scope seen = assignment_crowded names scope target subs operator e seen

unfoldable pub crowded : List Entry → Statement → Scope → List Quot → Option Broken
crowded names = fold-Statement (Scope → List Quot → Option Broken) (crowded_step names)

abbrev pub all_crowded : List Entry → Scope → List Quot → List Statement → Option Broken
all_crowded names scope seen ss = first_of (map (λ s. crowded names s scope seen) ss)
