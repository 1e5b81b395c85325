-- Where a file breaks no rule, no comparison of a loop's condition or of a context does.
use Rattle.std.proofs.Common.{◌≡◌, ℕ, List, [], ◌∷◌, ◌++◌, length, map, nat_lt, Bool, false, Option, None}
use Rattle.std.specs.List.{AllByRecursion}
use Rattle.ac_syntax.specs.declared.tree.Place.{Place}
use Rattle.ac_parse_grammar.specs.declared.tree.Word.{Word}
use Rattle.ac_parse_grammar.specs.declared.tree.Part.{Part}
use Rattle.ac_parse_grammar.specs.declared.tree.Step.{Step}
use Rattle.ac_parse_grammar.specs.declared.tree.Expr.{Expr}
use Rattle.ac_parse_grammar.specs.declared.tree.Pragma.{Pragma}
use Rattle.ac_parse_grammar.specs.declared.tree.Pragma.TheVariants.{Context, Commutative, Output}
use Rattle.ac_parse_exprs.specs.declared.fault.Which.TheVariants as which
use Rattle.ac_parse_exprs.specs.declared.fault.Rule.TheVariants.{Endless, Limit}
use Rattle.ac_parse_exprs.specs.declared.fault.Broken.{Broken}
use Rattle.ac_parse_exprs.specs.declared.scope.Entry.{Entry}
use Rattle.ac_parse_exprs.specs.declared.scope.Scope.{Scope}
use Rattle.ac_parse_exprs.specs.FaultOrder.{earlier, broken_where, rule_broken}
use Rattle.ac_parse_exprs.specs.Comparisons.{first_of, whole_broken, index_broken, compared, condition_broken}
use Rattle.ac_parse_rules.specs.Statements.{in_test, in_start, loop_rule, step_broken, is_endless, head_broken}
use Rattle.ac_parse_rules.specs.Files.{context_parts, pragma_broken}
use Rattle.ac_parse_exprs.proofs.Absent.{NoneBroken, neither, none_of, not_where, each_of_map}

abbrev pub NoPartBroken : List Entry → Scope → List Part → Type 0
NoPartBroken names scope = AllByRecursion (λ part. whole_broken (compared names scope part) ≡ None)

pub none_in : (names : List Entry) (scope : Scope) (parts : List Part) → condition_broken names scope parts ≡ None → NoPartBroken names scope parts
none_in names scope parts h = each_of_map (λ part. whole_broken (compared names scope part)) (λ c. c ≡ None) parts (none_of (map (λ part. whole_broken (compared names scope part)) parts) h)

head_parts : (a b c d e : Option Broken) → earlier (earlier a b) (earlier c (earlier d e)) ≡ None → (b ≡ None) × (d ≡ None)
head_parts a b c d e h =
    let n = neither (earlier a b) (earlier c (earlier d e)) h in
    let m = neither a b n.0 in
    let i = neither c (earlier d e) n.1 in
    let j = neither d e i.1 in
    (m.1, j.0)

module _ (names : List Entry) (scope : Scope) (typed : Bool) (name : Word) (start : Expr) (cond : List Part) (step : Step) (place : Place) where
  head_says : head_broken names scope typed name start cond step place ≡ None
      → (broken_where (is_endless names (in_test scope name.name) step cond) Endless place ≡ None) × (condition_broken names (in_test scope name.name) cond ≡ None)
  head_says = head_parts (broken_where (nat_lt 5 (length scope.iterators)) (Limit which.Depth) place) (broken_where (is_endless names (in_test scope name.name) step cond) Endless place)
      (earlier (rule_broken (loop_rule names scope typed name.name) name.place) (index_broken names (in_start scope typed name.name) start))
      (condition_broken names (in_test scope name.name) cond) (step_broken names (in_test scope name.name) name.name step)

  -- a loop that breaks no rule ends
  pub head_ends : head_broken names scope typed name start cond step place ≡ None → is_endless names (in_test scope name.name) step cond ≡ false
  head_ends h = not_where (is_endless names (in_test scope name.name) step cond) Endless place (head_says h).0

  pub head_condition : head_broken names scope typed name start cond step place ≡ None → condition_broken names (in_test scope name.name) cond ≡ None
  head_condition h = (head_says h).1

none_append : (f : Part → Option Broken) (ps qs : List Part) → NoneBroken (map f ps) → NoneBroken (map f qs) → NoneBroken (map f (ps ++ qs))
none_append f [] qs h k = k
none_append f (p ∷ ps) qs h k = (h.0, none_append f ps qs h.1 k)

pub context_none : (names : List Entry) (scope : Scope) (inputs : ℕ) (ps : List Pragma) → NoneBroken (map (pragma_broken names scope inputs) ps)
    → NoneBroken (map (λ part. whole_broken (compared names scope part)) (context_parts ps))
context_none names scope inputs [] h = tt
context_none names scope inputs (Context parts ∷ ps) h =
    none_append (λ part. whole_broken (compared names scope part)) parts (context_parts ps) (none_of (map (λ part. whole_broken (compared names scope part)) parts) h.0) (context_none names scope inputs ps h.1)
context_none names scope inputs (Commutative words ∷ ps) h = context_none names scope inputs ps h.1
context_none names scope inputs (Output words ∷ ps) h = context_none names scope inputs ps h.1

-- of the context lines
pub context_unbroken : (names : List Entry) (scope : Scope) (inputs : ℕ) (ps : List Pragma) → first_of (map (pragma_broken names scope inputs) ps) ≡ None → NoPartBroken names scope (context_parts ps)
context_unbroken names scope inputs ps h =
    each_of_map (λ part. whole_broken (compared names scope part)) (λ c. c ≡ None) (context_parts ps) (context_none names scope inputs ps (none_of (map (pragma_broken names scope inputs) ps) h))
