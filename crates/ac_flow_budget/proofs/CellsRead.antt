-- In a value in which no rule is broken, each cell that is read has a subscript for each dimension of its array.
use Rattle.std.proofs.Common.{◌≡◌, ℕ, Bool, true, false, List, [], ◌∷◌, map, length, refl, sym, subst, rules, Option, Some, None}
use Rattle.std.specs.Prelude.{◌&&◌, ◌==◌, if◌then◌else◌}
use Rattle.std.specs.List.{AllByRecursion}
use Rattle.ac_syntax.specs.Dimensions.{IsCellOf, ReadsCells, EachReadsCells}
use Rattle.ac_syntax.specs.declared.tree.Array.{Array}
use Rattle.ac_syntax.specs.declared.tree.Place.{Place}
use Rattle.ac_syntax.specs.declared.tree.Symbol.{Symbol}
use Rattle.ac_syntax.specs.declared.tree.IndexExpr.{IndexExpr}
use Rattle.ac_syntax.specs.declared.tree.Value.{Value, Row_of-Value, end_of-Value, more_of-Value, items-the_row-Value, the_lemmas as value_lemmas}
use Rattle.ac_syntax.specs.declared.tree.Value.TheVariants as v
use Rattle.ac_parse_grammar.specs.declared.tree.Word.{Word}
use Rattle.ac_parse_grammar.specs.declared.tree.Operator.{Operator}
use Rattle.ac_parse_grammar.specs.declared.tree.Expr.{Expr}
use Rattle.ac_parse_exprs.specs.declared.fault.Rule.{Rule}
use Rattle.ac_parse_exprs.specs.declared.fault.Rule.TheVariants.{Undeclared, Misused}
use Rattle.ac_parse_exprs.specs.declared.scope.Entry.{Entry}
use Rattle.ac_parse_exprs.specs.declared.scope.Scope.{Scope}
use Rattle.ac_parse_exprs.specs.declared.scope.Meaning.{Meaning}
use Rattle.ac_parse_exprs.specs.declared.scope.Meaning.TheVariants as means
use Rattle.ac_parse_exprs.specs.Meanings.{meaning, misused_unless}
use Rattle.ac_parse_exprs.specs.IndexExpressions.{judged_name}
use Rattle.ac_parse_exprs.specs.Comparisons.{index}
use Rattle.ac_parse_exprs.specs.Values.{Reading, number, other, reading, reading_broken, value_of, value, value_broken, placed, access_broken, array_number, read_of, access_reading, call_reading, negative_reading, group_reading, applied_values, applied, joined_reading, chained_reading, chain_reading}
use Rattle.ac_parse_exprs.proofs.Accesses.{rule_holds}
use Rattle.ac_parse_exprs.proofs.Absent.{NoneBroken, each_map, neither, none_of}
use Rattle.ac_parse_exprs.proofs.Readings.{reading-number, reading-decimal, reading-access, reading-call, reading-quotient, reading-negative, reading-group, reading-chain}
use Rattle.ac_flow_budget.proofs.Meant.{MeansIn, NamesIn, meaning-in, cell-of}
use Rattle.ac_parse_exprs.proofs.Trees.{every_expr}

-- a value that reads such cells
pub number_reads : (arrays : List Array) (e : IndexExpr) → ReadsCells arrays (v.Number e)
unfolding ReadsCells
number_reads arrays e = tt

pub access_reads : (arrays : List Array) (array : ℕ) (subs : List IndexExpr) (place : Place) → IsCellOf arrays array subs → ReadsCells arrays (v.Access array subs place)
unfolding ReadsCells
access_reads arrays array subs place h = h

call_row : (arrays : List Array) (m : _) (k : Row_of-Value m) → AllByRecursion (ReadsCells arrays) (items-the_row-Value m k) → EachReadsCells arrays k
unfolding ReadsCells
call_row arrays m end_of-Value h = tt
call_row arrays m (more_of-Value {n = l} x rest) h = (h.0, call_row arrays l rest h.1)

of_call_row : (arrays : List Array) (s : Symbol) (m : _) (args : Row_of-Value _) (place : Place) → AllByRecursion (ReadsCells arrays) (items-the_row-Value _ args) → ReadsCells arrays (v.Call' s m args place)
unfolding ReadsCells
of_call_row arrays s m args place h = call_row arrays _ args h

pub call_reads : (arrays : List Array) (s : Symbol) (args : List Value) (place : Place) → AllByRecursion (ReadsCells arrays) args → ReadsCells arrays (v.Call s args place)
call_reads arrays s args place h = search (rules, value_lemmas, of_call_row, h)

placed_reads : (arrays : List Array) (place : Place) (x : Value) → ReadsCells arrays x → ReadsCells arrays (placed place x)
unfolding ReadsCells
placed_reads arrays place (v.Number e) h = tt
placed_reads arrays place (v.Access array subs p) h = h
placed_reads arrays place (v.Call' s m args p) h = h

-- what is read of an expression reads such cells, if no rule is broken in it
abbrev pub Reads : List Array → Reading → Type 0
Reads arrays (number j) = Unit {0}
Reads arrays (other b x) = b ≡ None → ReadsCells arrays x

pub value_reads : (arrays : List Array) (scope : Scope) (r : Reading) → Reads arrays r → reading_broken r ≡ None → ReadsCells arrays (value_of scope r)
value_reads arrays scope (number j) h e = number_reads arrays _
value_reads arrays scope (other b x) h e = h e

values_read : (arrays : List Array) (scope : Scope) (rs : List Reading) → AllByRecursion (Reads arrays) rs → NoneBroken (map reading_broken rs) → AllByRecursion (ReadsCells arrays) (map (value_of scope) rs)
values_read arrays scope [] h e = tt
values_read arrays scope (r ∷ rs) h e = (value_reads arrays scope r h.0 e.0, values_read arrays scope rs h.1 e.1)

not_misused : (b : Bool) → b ≡ false → ¬ (misused_unless b ≡ None)
not_misused true f e = absurd cc
not_misused false f e = absurd cc

-- a name that is no array stands for a number, or breaks a rule
scalar_case : (arrays : List Array) (names : List Entry) (scope : Scope) (m : Meaning) (word : Word) (subs : List Expr) (b : Bool) (rule : Option Rule) → (b ≡ false → ¬ (rule ≡ None))
    → Reads arrays (if b && true then number (judged_name scope m word) else other (access_broken names scope rule word subs) (read_of names scope m word subs))
scalar_case arrays names scope m word subs true rule h = tt
scalar_case arrays names scope m word subs false rule h = λ e. absurd (h refl (rule_holds names scope rule word subs e))

array_case : (arrays : List Array) (names : List Entry) (scope : Scope) (m : Meaning) (word : Word) (subs : List Expr) (b : Bool) (rule : Option Rule) → (rule ≡ None → IsCellOf arrays (array_number m) (map (index names scope) subs))
    → Reads arrays (if b && false then number (judged_name scope m word) else other (access_broken names scope rule word subs) (read_of names scope m word subs))
array_case arrays names scope m word subs true rule h = λ e. access_reads arrays _ _ _ (h (rule_holds names scope rule word subs e))
array_case arrays names scope m word subs false rule h = λ e. access_reads arrays _ _ _ (h (rule_holds names scope rule word subs e))

access_case : (arrays : List Array) (names : List Entry) (scope : Scope) (m : Meaning) (word : Word) (subs : List Expr) → MeansIn arrays m → Reads arrays (access_reading names scope m word subs)
access_case arrays names scope (means.Parameter i) word subs h = scalar_case arrays names scope (means.Parameter i) word subs (length subs == 0) (misused_unless (length subs == 0)) (not_misused (length subs == 0))
access_case arrays names scope (means.Iterator i) word subs h = scalar_case arrays names scope (means.Iterator i) word subs (length subs == 0) (misused_unless (length subs == 0)) (not_misused (length subs == 0))
access_case arrays names scope (means.Array i dimensions) word subs h = array_case arrays names scope (means.Array i dimensions) word subs (length subs == 0) (misused_unless (length subs == dimensions)) (λ r. cell-of arrays names scope i dimensions subs h r)
access_case arrays names scope means.LoopName word subs h = scalar_case arrays names scope means.LoopName word subs (length subs == 0) (Some Undeclared) (λ f e. absurd cc)
access_case arrays names scope means.OwnStart word subs h = scalar_case arrays names scope means.OwnStart word subs (length subs == 0) (Some Misused) (λ f e. absurd cc)
access_case arrays names scope means.Nothing word subs h = scalar_case arrays names scope means.Nothing word subs (length subs == 0) (Some Undeclared) (λ f e. absurd cc)

call_case : (arrays : List Array) (scope : Scope) (m : Meaning) (word : Word) (rs : List Reading) → AllByRecursion (Reads arrays) rs → Reads arrays (call_reading scope m word rs)
call_case arrays scope m word rs h = λ e. call_reads arrays _ _ _ (values_read arrays scope rs h (none_of (map reading_broken rs) (neither _ _ e).1))

negative_case : (arrays : List Array) (place : Place) (r : Reading) → Reads arrays r → Reads arrays (negative_reading place r)
negative_case arrays place (number j) h = tt
negative_case arrays place (other b x) h = λ e. call_reads arrays _ _ _ (h e, tt)

group_case : (arrays : List Array) (place : Place) (r : Reading) → Reads arrays r → Reads arrays (group_reading place r)
group_case arrays place (number j) h = tt
group_case arrays place (other b x) h = λ e. placed_reads arrays place x (h e)

pub applied_reads : (arrays : List Array) (op : Operator) (x y : Value) → ReadsCells arrays x → ReadsCells arrays y → ReadsCells arrays (applied_values op x y)
applied_reads arrays op x y h k = call_reads arrays _ _ _ (h, (k, tt))

applied_case : (arrays : List Array) (scope : Scope) (op : Operator) (r s : Reading) → Reads arrays r → Reads arrays s → Reads arrays (applied scope op r s)
applied_case arrays scope op r s h k = λ e. applied_reads arrays op (value_of scope r) (value_of scope s) (value_reads arrays scope r h (neither _ _ e).0) (value_reads arrays scope s k (neither _ _ e).1)

joined_case : (arrays : List Array) (scope : Scope) (op : Operator) (r s : Reading) → Reads arrays r → Reads arrays s → Reads arrays (joined_reading scope op r s)
joined_case arrays scope op (number i) (number j) h k = tt
joined_case arrays scope op (number i) (other b y) h k = applied_case arrays scope op (number i) (other b y) h k
joined_case arrays scope op (other b x) s h k = applied_case arrays scope op (other b x) s h k

chained_case : (arrays : List Array) (scope : Scope) (r : Reading) (rs : List Reading) (ops : List Operator) → Reads arrays r → AllByRecursion (Reads arrays) rs → Reads arrays (chained_reading scope r rs ops)
chained_case arrays scope r [] ops h k = h
chained_case arrays scope r (s ∷ rs) [] h k = h
chained_case arrays scope r (s ∷ rs) (op ∷ ops) h k = chained_case arrays scope (joined_reading scope op r s) rs ops (joined_case arrays scope op r s h k.0) k.1

chain_case : (arrays : List Array) (scope : Scope) (rs : List Reading) (ops : List Operator) → AllByRecursion (Reads arrays) rs → Reads arrays (chain_reading scope rs ops)
chain_case arrays scope [] ops h = tt
chain_case arrays scope (r ∷ rs) ops h = chained_case arrays scope r rs ops h.0 h.1

module _ (arrays : List Array) (names : List Entry) (scope : Scope) (below : NamesIn arrays names) where
  is_read : (e : Expr) → Reads arrays (reading names scope e)
  is_read = every_expr (λ e. Reads arrays (reading names scope e))
      (λ m. subst (Reads arrays) (sym (reading-number names scope m)) tt)
      (λ word. subst (Reads arrays) (sym (reading-decimal names scope word)) (λ e. call_reads arrays _ _ _ tt))
      (λ name subs h. subst (Reads arrays) (sym (reading-access names scope name subs)) (access_case arrays names scope (meaning names scope name.name) name subs (meaning-in arrays names scope name.name below)))
      (λ name args h. subst (Reads arrays) (sym (reading-call names scope name args)) (call_case arrays scope (meaning names scope name.name) name (map (reading names scope) args) (each_map (reading names scope) (Reads arrays) args h)))
      (λ up argument divisor place h. subst (Reads arrays) (sym (reading-quotient names scope up argument divisor place)) tt)
      (λ operand place h. subst (Reads arrays) (sym (reading-negative names scope operand place)) (negative_case arrays place (reading names scope operand) h))
      (λ inner place h. subst (Reads arrays) (sym (reading-group names scope inner place)) (group_case arrays place (reading names scope inner) h))
      (λ operands operators h. subst (Reads arrays) (sym (reading-chain names scope operands operators)) (chain_case arrays scope (map (reading names scope) operands) operators (each_map (reading names scope) (Reads arrays) operands h)))

  -- the value of an expression in which no rule is broken
  pub value_read : (e : Expr) → value_broken names scope e ≡ None → ReadsCells arrays (value names scope e)
  value_read e h = value_reads arrays scope (reading names scope e) (is_read e) h
