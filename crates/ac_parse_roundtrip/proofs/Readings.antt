-- The values of expressions have symbols that are spelled in the text and that the grammar takes.
use Rattle.std.specs.Prelude.{Bool, true, false, not, ◌&&◌, ◌==◌, List, [], ◌∷◌, map, length, codes, Option, Some, None, cond}
use Rattle.std.specs.List.{AllByRecursion}
use Rattle.std.proofs.Common.{ℕ, refl, sym, subst}
use Rattle.ac_syntax.specs.declared.tree.Array.{Array}
use Rattle.ac_syntax.specs.declared.tree.Place.{Place}
use Rattle.ac_syntax.specs.declared.tree.Value.{Value}
use Rattle.ac_syntax.specs.declared.tree.Value.TheVariants as v
use Rattle.ac_lex.specs.Lexemes.{Lexeme}
use Rattle.ac_parse_grammar.specs.declared.tree.Word.{Word}
use Rattle.ac_parse_grammar.specs.declared.tree.Operator.{Operator}
use Rattle.ac_parse_grammar.specs.declared.tree.Operator.TheVariants.{Add, Subtract, Multiply, Divide, Remainder}
use Rattle.ac_parse_grammar.specs.declared.tree.Expr.{Expr}
use Rattle.ac_parse_grammar.specs.Grammar.{IsExpr}
use Rattle.ac_parse_exprs.specs.declared.fault.Broken.{Broken}
use Rattle.ac_parse_exprs.specs.declared.scope.Entry.{Entry}
use Rattle.ac_parse_exprs.specs.declared.scope.Meaning.{Meaning}
use Rattle.ac_parse_exprs.specs.declared.scope.Scope.{Scope}
use Rattle.ac_parse_exprs.specs.Meanings.{meaning, is_array, read_rule}
use Rattle.ac_parse_exprs.specs.IndexExpressions.{judged_name}
use Rattle.ac_parse_exprs.specs.Comparisons.{index_expr, index}
use Rattle.ac_parse_exprs.specs.Values.{Reading, number, other, reading, value_place, value_of, symbol, operator_name, array_number, access_broken, read_of, access_reading, call_reading, negative_reading, group_reading, applied_values, joined_reading, chained_reading, chain_reading, value}
use Rattle.ac_parse_rules.specs.Statements.{assigned_value}
use Rattle.ac_parse_exprs.proofs.Absent.{each_further, each_map}
use Rattle.ac_parse_exprs.proofs.Readings.{reading-number, reading-decimal, reading-access, reading-call, reading-quotient, reading-negative, reading-group, reading-chain}
use Rattle.ac_parse_roundtrip.specs.ProgramWords.{IsOperator}
use Rattle.ac_parse_roundtrip.specs.ProgramWords as words
use Rattle.ac_parse_roundtrip.specs.GrammarPrograms as names
use Rattle.ac_parse_roundtrip.specs.TokenSpelling.{AreSpelled}
use Rattle.ac_parse_roundtrip.proofs.NameTerminals.{IsNamed, IsConstant, word_first, decimal_first}
use Rattle.ac_parse_roundtrip.proofs.Expressions.{expr_has}
use Rattle.ac_parse_roundtrip.proofs.NamedValues.{AreNamedArrays, IsCalled, IsNamedValue, number_named, access_named, call_named, placed_named}

-- ---- what is called

-- a function of any arguments
function_called : (name : List ℕ) (n : ℕ) → IsNamed name → IsCalled name n
function_called name n is = let first = word_first name is.word in record { spelled = words.function is.word; taken = names.function first.0 first.1 is.name }

constant_called : (name : List ℕ) → IsConstant name → IsCalled name 0
constant_called name is = record { spelled = words.constant is.decimal is.short; taken = names.decimal (decimal_first name is.decimal) is.terminal refl }

minus_called : IsCalled (codes "-") 1
minus_called = record { spelled = words.negation refl; taken = names.negation refl refl }

operator_called : (op : Operator) → IsCalled (operator_name op) 2
operator_called Add = record { spelled = words.binary (words.sign refl); taken = names.operation Add refl refl }
operator_called Subtract = record { spelled = words.binary (words.sign refl); taken = names.operation Subtract refl refl }
operator_called Multiply = record { spelled = words.binary (words.sign refl); taken = names.operation Multiply refl refl }
operator_called Divide = record { spelled = words.binary (words.sign refl); taken = names.operation Divide refl refl }
operator_called Remainder = record { spelled = words.binary (words.sign refl); taken = names.operation Remainder refl refl }

-- ---- readings

module _ (arrays : List Array) (named : AreNamedArrays arrays) where
  abbrev Has : Value → Type 0
  Has x = IsNamedValue arrays named x

  abbrev ReadingHas : Reading → Type 0
  ReadingHas (number j) = Unit {0}
  ReadingHas (other b x) = Has x

  value_has : (scope : Scope) (r : Reading) → ReadingHas r → Has (value_of scope r)
  value_has scope (number j) h = number_named arrays named (index_expr scope j)
  value_has scope (other b x) h = h

  applied_has : (op : Operator) (x y : Value) → Has x → Has y → Has (applied_values op x y)
  applied_has op x y h k = call_named arrays named (symbol (operator_name op) 2) (x ∷ y ∷ []) (value_place x) (operator_called op) (h, (k, tt))

  read_has : (entries : List Entry) (scope : Scope) (m : Meaning) (word : Word) (subs : List Expr) → Has (read_of entries scope m word subs)
  read_has entries scope m word subs = access_named arrays named (array_number m) (map (index entries scope) subs) word.place

  access_case : (entries : List Entry) (scope : Scope) (m : Meaning) (word : Word) (subs : List Expr) (b : Option Broken) (alone : Bool)
      → ReadingHas (cond alone (number (judged_name scope m word)) (other b (read_of entries scope m word subs)))
  access_case entries scope m word subs b true = tt
  access_case entries scope m word subs b false = read_has entries scope m word subs

  access_reading_has : (entries : List Entry) (scope : Scope) (m : Meaning) (word : Word) (subs : List Expr) → ReadingHas (access_reading entries scope m word subs)
  access_reading_has entries scope m word subs =
      access_case entries scope m word subs (access_broken entries scope (read_rule m (length subs)) word subs) ((length subs == 0) && not (is_array m))

  call_reading_has : (scope : Scope) (m : Meaning) (word : Word) (rs : List Reading) → IsNamed word.name → AllByRecursion ReadingHas rs → ReadingHas (call_reading scope m word rs)
  call_reading_has scope m word rs is h =
      call_named arrays named (symbol word.name (length rs)) (map (value_of scope) rs) word.place (function_called word.name (length (map (value_of scope) rs)) is)
      (each_map (value_of scope) Has rs (each_further ReadingHas (λ r. Has (value_of scope r)) (value_has scope) rs h))

  negative_reading_has : (place : Place) (r : Reading) → ReadingHas r → ReadingHas (negative_reading place r)
  negative_reading_has place (number j) h = tt
  negative_reading_has place (other b x) h = call_named arrays named (symbol (codes "-") 1) (x ∷ []) place minus_called (h, tt)

  group_reading_has : (place : Place) (r : Reading) → ReadingHas r → ReadingHas (group_reading place r)
  group_reading_has place (number j) h = tt
  group_reading_has place (other b x) h = placed_named arrays named place x h

  joined_has : (scope : Scope) (op : Operator) (r s : Reading) → ReadingHas r → ReadingHas s → ReadingHas (joined_reading scope op r s)
  joined_has scope op (number i) (number j) h k = tt
  joined_has scope op (number i) (other b y) h k = applied_has op (v.Number (index_expr scope i)) y (number_named arrays named (index_expr scope i)) k
  joined_has scope op (other b x) s h k = applied_has op x (value_of scope s) h (value_has scope s k)

  chained_has : (scope : Scope) (r : Reading) (rs : List Reading) (ops : List Operator) → ReadingHas r → AllByRecursion ReadingHas rs → ReadingHas (chained_reading scope r rs ops)
  chained_has scope r [] ops h k = h
  chained_has scope r (s ∷ rs) [] h k = h
  chained_has scope r (s ∷ rs) (op ∷ ops) h k = chained_has scope (joined_reading scope op r s) rs ops (joined_has scope op r s h k.0) k.1

  chain_reading_has : (scope : Scope) (rs : List Reading) (ops : List Operator) → AllByRecursion ReadingHas rs → ReadingHas (chain_reading scope rs ops)
  chain_reading_has scope [] ops h = tt
  chain_reading_has scope (r ∷ rs) ops h = chained_has scope r rs ops h.0 h.1

  -- ---- expressions

  -- the values of an expression are named, whatever its names mean
  abbrev pub IsNamedExpr : Expr → Type 0
  IsNamedExpr e = (entries : List Entry) (scope : Scope) → ReadingHas (reading entries scope e)

  readings_have : (entries : List Entry) (scope : Scope) (es : List Expr) → AllByRecursion IsNamedExpr es → AllByRecursion ReadingHas (map (reading entries scope) es)
  readings_have entries scope es h =
      each_map (reading entries scope) ReadingHas es (each_further IsNamedExpr (λ e. ReadingHas (reading entries scope e)) (λ e k. k entries scope) es h)

  pub expr_named : (room : ℕ) (ts : List Lexeme) (e : Expr) → IsExpr room ts e → AreSpelled ts → IsNamedExpr e
  expr_named room ts e is h = expr_has IsNamedExpr
      (λ n entries scope. subst ReadingHas (sym (reading-number entries scope n)) tt)
      (λ word constant entries scope. subst ReadingHas (sym (reading-decimal entries scope word)) (call_named arrays named (symbol word.name 0) [] word.place (constant_called word.name constant) tt))
      (λ name subs is entries scope. subst ReadingHas (sym (reading-access entries scope name subs)) (access_reading_has entries scope (meaning entries scope name.name) name subs))
      (λ name args is h entries scope. subst ReadingHas (sym (reading-call entries scope name args))
      (call_reading_has scope (meaning entries scope name.name) name (map (reading entries scope) args) is (readings_have entries scope args h)))
      (λ up argument divisor place h entries scope. subst ReadingHas (sym (reading-quotient entries scope up argument divisor place)) tt)
      (λ operand place h entries scope. subst ReadingHas (sym (reading-negative entries scope operand place)) (negative_reading_has place (reading entries scope operand) (h entries scope)))
      (λ inner place h entries scope. subst ReadingHas (sym (reading-group entries scope inner place)) (group_reading_has place (reading entries scope inner) (h entries scope)))
      (λ operands operators h entries scope. subst ReadingHas (sym (reading-chain entries scope operands operators))
      (chain_reading_has scope (map (reading entries scope) operands) operators (readings_have entries scope operands h)))
      is h

  -- what an assignment assigns
  pub assigned_named : (entries : List Entry) (scope : Scope) (target : Word) (subs : List Expr) (operator : Option Operator) (e : Expr) → IsNamedExpr e
      → IsNamedValue arrays named (assigned_value entries scope target subs operator e)
  assigned_named entries scope target subs None e h = value_has scope (reading entries scope e) (h entries scope)
  assigned_named entries scope target subs (Some op) e h =
      applied_has op (read_of entries scope (meaning entries scope target.name) target subs) (value entries scope e)
      (read_has entries scope (meaning entries scope target.name) target subs) (value_has scope (reading entries scope e) (h entries scope))
