-- In a value in which no rule is broken, each array that is read is one of the program's.
use Rattle.std.proofs.Common.{◌≡◌, ℕ, ◌<◌, Bool, true, false, List, [], ◌∷◌, map, length, refl, sym, subst, rules, Option, Some, None}
use Rattle.std.specs.Prelude.{◌&&◌, ◌==◌, if◌then◌else◌}
use Rattle.std.specs.List.{AllByRecursion}
use Rattle.ac_syntax.specs.declared.tree.Place.{Place}
use Rattle.ac_syntax.specs.declared.tree.Symbol.{Symbol}
use Rattle.ac_syntax.specs.declared.tree.IndexExpr.{IndexExpr}
use Rattle.ac_syntax.specs.declared.tree.Value.{Value, Row_of-Value, end_of-Value, more_of-Value, items-the_row-Value, the_lemmas as value_lemmas}
use Rattle.ac_syntax.specs.declared.tree.Value.TheVariants as v
use Rattle.ac_parse_grammar.specs.declared.tree.Word.{Word}
use Rattle.ac_parse_grammar.specs.declared.tree.Operator.{Operator}
use Rattle.ac_parse_grammar.specs.declared.tree.Expr.{Expr}
use Rattle.ac_parse_exprs.specs.declared.fault.Rule.{Rule}
use Rattle.ac_parse_exprs.specs.declared.fault.Rule.TheVariants.{Undeclared, Misused}
use Rattle.ac_parse_exprs.specs.declared.scope.Entry.{Entry}
use Rattle.ac_parse_exprs.specs.declared.scope.Scope.{Scope}
use Rattle.ac_parse_exprs.specs.declared.scope.Meaning.{Meaning}
use Rattle.ac_parse_exprs.specs.declared.scope.Meaning.TheVariants as means
use Rattle.ac_parse_exprs.specs.Meanings.{meaning, misused_unless}
use Rattle.ac_parse_exprs.specs.IndexExpressions.{judged_name}
use Rattle.ac_parse_exprs.specs.Values.{Reading, number, other, reading, reading_broken, value_of, value, value_broken, placed, access_broken, array_number, read_of, access_reading, call_reading, negative_reading, group_reading, applied_values, applied, joined_reading, chained_reading, chain_reading}
use Rattle.ac_parse_rules.specs.DeclaredNumbers.{ReadsOf, ReadsIn}
use Rattle.ac_parse_exprs.proofs.Absent.{NoneBroken, each_map, neither, none_of}
use Rattle.ac_parse_exprs.proofs.Accesses.{rule_holds}
use Rattle.ac_parse_exprs.proofs.Readings.{reading-number, reading-decimal, reading-access, reading-call, reading-quotient, reading-negative, reading-group, reading-chain}
use Rattle.ac_parse_rules.proofs.DeclaredNumbers.{MeansBelow, NamesBelow, meaning_below}
use Rattle.ac_parse_exprs.proofs.Trees.{every_expr}

-- a value that reads none but the first n arrays
pub number_reads : (n : ℕ) (e : IndexExpr) → ReadsOf n (v.Number e)
unfolding ReadsOf
number_reads n e = tt

pub access_reads : (n array : ℕ) (subs : List IndexExpr) (place : Place) → array < n → ReadsOf n (v.Access array subs place)
unfolding ReadsOf
access_reads n array subs place h = h

call_row : (n m : _) (k : Row_of-Value m) → AllByRecursion (ReadsOf n) (items-the_row-Value m k) → ReadsIn n k
unfolding ReadsOf
call_row n m end_of-Value h = tt
call_row n m (more_of-Value {n = l} x rest) h = (h.0, call_row n l rest h.1)

of_call_row : (n : ℕ) (s : Symbol) (m : _) (args : Row_of-Value _) (place : Place) → AllByRecursion (ReadsOf n) (items-the_row-Value _ args) → ReadsOf n (v.Call' s m args place)
unfolding ReadsOf
of_call_row n s m args place h = call_row n _ args h

pub call_reads : (n : ℕ) (s : Symbol) (args : List Value) (place : Place) → AllByRecursion (ReadsOf n) args → ReadsOf n (v.Call s args place)
call_reads n s args place h = search (rules, value_lemmas, of_call_row, h)

placed_reads : (n : ℕ) (place : Place) (x : Value) → ReadsOf n x → ReadsOf n (placed place x)
unfolding ReadsOf
placed_reads n place (v.Number e) h = tt
placed_reads n place (v.Access array subs p) h = h
placed_reads n place (v.Call' s m args p) h = h

-- what is read of an expression reads none but the first n arrays, if no rule is broken in it
abbrev pub Reads : ℕ → Reading → Type 0
Reads n (number j) = Unit {0}
Reads n (other b x) = b ≡ None → ReadsOf n x

pub value_reads : (n : ℕ) (scope : Scope) (r : Reading) → Reads n r → reading_broken r ≡ None → ReadsOf n (value_of scope r)
value_reads n scope (number j) h e = number_reads n _
value_reads n scope (other b x) h e = h e

values_read : (n : ℕ) (scope : Scope) (rs : List Reading) → AllByRecursion (Reads n) rs → NoneBroken (map reading_broken rs) → AllByRecursion (ReadsOf n) (map (value_of scope) rs)
values_read n scope [] h e = tt
values_read n scope (r ∷ rs) h e = (value_reads n scope r h.0 e.0, values_read n scope rs h.1 e.1)

not_misused : (b : Bool) → b ≡ false → ¬ (misused_unless b ≡ None)
not_misused true f e = absurd cc
not_misused false f e = absurd cc

-- a name that is no array stands for a number, or breaks a rule
scalar_case : (n : ℕ) (names : List Entry) (scope : Scope) (m : Meaning) (word : Word) (subs : List Expr) (b : Bool) (rule : Option Rule) → (b ≡ false → ¬ (rule ≡ None))
    → Reads n (if b && true then number (judged_name scope m word) else other (access_broken names scope rule word subs) (read_of names scope m word subs))
scalar_case n names scope m word subs true rule h = tt
scalar_case n names scope m word subs false rule h = λ e. absurd (h refl (rule_holds names scope rule word subs e))

array_case : (n : ℕ) (names : List Entry) (scope : Scope) (m : Meaning) (word : Word) (subs : List Expr) (b : Bool) (rule : Option Rule) → array_number m < n
    → Reads n (if b && false then number (judged_name scope m word) else other (access_broken names scope rule word subs) (read_of names scope m word subs))
array_case n names scope m word subs true rule h = λ e. access_reads n _ _ _ h
array_case n names scope m word subs false rule h = λ e. access_reads n _ _ _ h

access_case : (n : ℕ) (names : List Entry) (scope : Scope) (m : Meaning) (word : Word) (subs : List Expr) → MeansBelow n m → Reads n (access_reading names scope m word subs)
access_case n names scope (means.Parameter i) word subs h = scalar_case n names scope (means.Parameter i) word subs (length subs == 0) (misused_unless (length subs == 0)) (not_misused (length subs == 0))
access_case n names scope (means.Iterator i) word subs h = scalar_case n names scope (means.Iterator i) word subs (length subs == 0) (misused_unless (length subs == 0)) (not_misused (length subs == 0))
access_case n names scope (means.Array i dimensions) word subs h = array_case n names scope (means.Array i dimensions) word subs (length subs == 0) (misused_unless (length subs == dimensions)) h
access_case n names scope means.LoopName word subs h = scalar_case n names scope means.LoopName word subs (length subs == 0) (Some Undeclared) (λ f e. absurd cc)
access_case n names scope means.OwnStart word subs h = scalar_case n names scope means.OwnStart word subs (length subs == 0) (Some Misused) (λ f e. absurd cc)
access_case n names scope means.Nothing word subs h = scalar_case n names scope means.Nothing word subs (length subs == 0) (Some Undeclared) (λ f e. absurd cc)

call_case : (n : ℕ) (scope : Scope) (m : Meaning) (word : Word) (rs : List Reading) → AllByRecursion (Reads n) rs → Reads n (call_reading scope m word rs)
call_case n scope m word rs h = λ e. call_reads n _ _ _ (values_read n scope rs h (none_of (map reading_broken rs) (neither _ _ e).1))

negative_case : (n : ℕ) (place : Place) (r : Reading) → Reads n r → Reads n (negative_reading place r)
negative_case n place (number j) h = tt
negative_case n place (other b x) h = λ e. call_reads n _ _ _ (h e, tt)

group_case : (n : ℕ) (place : Place) (r : Reading) → Reads n r → Reads n (group_reading place r)
group_case n place (number j) h = tt
group_case n place (other b x) h = λ e. placed_reads n place x (h e)

pub applied_reads : (n : ℕ) (op : Operator) (x y : Value) → ReadsOf n x → ReadsOf n y → ReadsOf n (applied_values op x y)
applied_reads n op x y h k = call_reads n _ _ _ (h, (k, tt))

applied_case : (n : ℕ) (scope : Scope) (op : Operator) (r s : Reading) → Reads n r → Reads n s → Reads n (applied scope op r s)
applied_case n scope op r s h k = λ e. applied_reads n op (value_of scope r) (value_of scope s) (value_reads n scope r h (neither _ _ e).0) (value_reads n scope s k (neither _ _ e).1)

joined_case : (n : ℕ) (scope : Scope) (op : Operator) (r s : Reading) → Reads n r → Reads n s → Reads n (joined_reading scope op r s)
joined_case n scope op (number i) (number j) h k = tt
joined_case n scope op (number i) (other b y) h k = applied_case n scope op (number i) (other b y) h k
joined_case n scope op (other b x) s h k = applied_case n scope op (other b x) s h k

chained_case : (n : ℕ) (scope : Scope) (r : Reading) (rs : List Reading) (ops : List Operator) → Reads n r → AllByRecursion (Reads n) rs → Reads n (chained_reading scope r rs ops)
chained_case n scope r [] ops h k = h
chained_case n scope r (s ∷ rs) [] h k = h
chained_case n scope r (s ∷ rs) (op ∷ ops) h k = chained_case n scope (joined_reading scope op r s) rs ops (joined_case n scope op r s h k.0) k.1

chain_case : (n : ℕ) (scope : Scope) (rs : List Reading) (ops : List Operator) → AllByRecursion (Reads n) rs → Reads n (chain_reading scope rs ops)
chain_case n scope [] ops h = tt
chain_case n scope (r ∷ rs) ops h = chained_case n scope r rs ops h.0 h.1

module _ (n : ℕ) (names : List Entry) (scope : Scope) (below : NamesBelow n names) where
  is_read : (e : Expr) → Reads n (reading names scope e)
  is_read = every_expr (λ e. Reads n (reading names scope e))
      (λ m. subst (Reads n) (sym (reading-number names scope m)) tt)
      (λ word. subst (Reads n) (sym (reading-decimal names scope word)) (λ e. call_reads n _ _ _ tt))
      (λ name subs h. subst (Reads n) (sym (reading-access names scope name subs)) (access_case n names scope (meaning names scope name.name) name subs (meaning_below n names scope name.name below)))
      (λ name args h. subst (Reads n) (sym (reading-call names scope name args)) (call_case n scope (meaning names scope name.name) name (map (reading names scope) args) (each_map (reading names scope) (Reads n) args h)))
      (λ up argument divisor place h. subst (Reads n) (sym (reading-quotient names scope up argument divisor place)) tt)
      (λ operand place h. subst (Reads n) (sym (reading-negative names scope operand place)) (negative_case n place (reading names scope operand) h))
      (λ inner place h. subst (Reads n) (sym (reading-group names scope inner place)) (group_case n place (reading names scope inner) h))
      (λ operands operators h. subst (Reads n) (sym (reading-chain names scope operands operators)) (chain_case n scope (map (reading names scope) operands) operators (each_map (reading names scope) (Reads n) operands h)))

  -- the value of an expression in which no rule is broken
  pub value_read : (e : Expr) → value_broken names scope e ≡ None → ReadsOf n (value names scope e)
  value_read e h = value_reads n scope (reading names scope e) (is_read e) h
