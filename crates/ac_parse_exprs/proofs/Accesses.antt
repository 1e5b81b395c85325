-- A name with its subscripts in which no rule is broken breaks none by what it means.
use Rattle.std.proofs.Common.{◌≡◌, List, Option, Some, None, refl}
use Rattle.ac_parse_grammar.specs.declared.tree.Word.{Word}
use Rattle.ac_parse_grammar.specs.declared.tree.Expr.{Expr}
use Rattle.ac_parse_exprs.specs.declared.fault.Rule.{Rule}
use Rattle.ac_parse_exprs.specs.declared.scope.Entry.{Entry}
use Rattle.ac_parse_exprs.specs.declared.scope.Scope.{Scope}
use Rattle.ac_parse_exprs.specs.FaultOrder.{rule_broken}
use Rattle.ac_parse_exprs.specs.Values.{access_broken}
use Rattle.ac_parse_exprs.proofs.Absent.{neither}

pub rule_holds : (names : List Entry) (scope : Scope) (rule : Option Rule) (word : Word) (subs : List Expr) → access_broken names scope rule word subs ≡ None → rule ≡ None
rule_holds names scope rule word subs h = by rule (neither _ _ h).0
  where
    by : (rule : Option Rule) → rule_broken rule word.place ≡ None → rule ≡ None
    by None e = refl
    by (Some r) e = absurd cc
