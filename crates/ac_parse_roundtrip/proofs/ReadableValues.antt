-- The values of a text that breaks no rule are readable.
use Rattle.std.proofs.Common.{◌≡◌, ℕ, Bool, true, false, not, cond, ◌&&◌, ◌||◌, ◌==◌, List, [], ◌∷◌, map, length, codes, min, refl, sym, ap, subst, ◌∙◌, arith, Option, Some, None}
use Rattle.std.specs.List.{AllByRecursion, list_any}
use Rattle.std.proofs.lemmas.Bool.Decides.{nat_tests}
use Rattle.std.proofs.lemmas.List.{length-map}
use Rattle.ac_syntax.specs.Text.{array_name, is_operator, is_decimal}
use Rattle.ac_syntax.specs.Text as text
use Rattle.std.specs.Prelude.{nat_le}
use Rattle.ac_syntax.specs.declared.tree.Place.{Place}
use Rattle.ac_syntax.specs.declared.tree.Value.{Value}
use Rattle.ac_syntax.specs.declared.tree.Value.TheVariants as v
use Rattle.ac_lex.specs.Lexemes.{Lexeme}
use Rattle.ac_parse_grammar.specs.declared.tree.Word.{Word}
use Rattle.ac_parse_grammar.specs.declared.tree.Numeral.{Numeral}
use Rattle.ac_parse_grammar.specs.declared.tree.Operator.{Operator}
use Rattle.ac_parse_grammar.specs.declared.tree.Operator.TheVariants.{Add, Subtract, Multiply, Divide, Remainder}
use Rattle.ac_parse_grammar.specs.declared.tree.Expr.{Expr}
use Rattle.ac_parse_grammar.specs.Grammar.{IsExpr}
use Rattle.ac_parse_exprs.specs.declared.fault.Rule.{Rule}
use Rattle.ac_parse_exprs.specs.declared.index.Judged.{Judged}
use Rattle.ac_parse_exprs.specs.declared.scope.Entry.{Entry}
use Rattle.ac_parse_exprs.specs.declared.scope.Meaning.{Meaning}
use Rattle.ac_parse_exprs.specs.declared.scope.Meaning.TheVariants as means
use Rattle.ac_parse_exprs.specs.declared.scope.Scope.{Scope}
use Rattle.ac_parse_exprs.specs.FaultOrder.{rule_broken}
use Rattle.ac_parse_exprs.specs.Meanings.{meaning, is_array, read_rule, call_rule, misused_unless}
use Rattle.ac_parse_exprs.specs.IndexExpressions.{judged_number, judged_name, judged_quotient, judged}
use Rattle.ac_parse_exprs.specs.Comparisons.{first_of, index_expr, index, index_broken}
use Rattle.ac_parse_exprs.specs.Values.{Reading, number, other, reading, reading_broken, value_place, value_of, symbol, operator_name, access_broken, read_of, access_reading, call_reading, negative_reading, group_reading, applied_values, joined_reading, chained_reading, chain_reading, value, value_broken}
use Rattle.ac_parse_rules.specs.Statements.{assigned_value}
use Rattle.ac_parse_exprs.proofs.Absent.{NoneBroken, neither, none_of, both_true}
use Rattle.ac_parse_exprs.proofs.Accesses.{rule_holds}
use Rattle.ac_parse_exprs.proofs.Judges.{Judges, judges, number_judges, name_judges, quotient_judges, negative_judges, group_judges, joined_judges}
use Rattle.ac_parse_exprs.proofs.QuotientForms.{hold_negative, hold_form, hold_number, hold_name, hold_quotient}
use Rattle.ac_parse_exprs.proofs.Readings.{reading-number, reading-decimal, reading-access, reading-call, reading-quotient, reading-negative, reading-group, reading-chain}
use Rattle.ac_parse_roundtrip.specs.ColumnNames.{Stands, FitScope}
use Rattle.ac_parse_roundtrip.specs.ReadableStatements.{ArrayStands, is_number, IsReadable}
use Rattle.ac_parse_roundtrip.specs.TokenSpelling.{AreSpelled}
use Rattle.ac_parse_roundtrip.proofs.NameTerminals.{IsNamed, IsConstant, word_first, decimal_first}
use Rattle.ac_parse_roundtrip.proofs.Expressions.{expr_has}
use Rattle.ac_parse_roundtrip.specs.NameCorrespondence.{Carries}
use Rattle.ac_parse_roundtrip.proofs.Columns.{Names, number_names, name_names, negative_names, joined_names, quotient_names, judged_names}
use Rattle.ac_parse_roundtrip.proofs.ReadableForms.{IsDivided, other_divided, divided_made, AreDivided, judged_fits, indices_fit}
use Rattle.ac_parse_roundtrip.proofs.ReadableLists.{other_placed, call_readable, call_other, number_readable, access_readable, placed_readable}

-- ---- symbols

no_sign : (b : ℕ) → (b == 46 || (nat_le 48 b && nat_le b 57)) ≡ true → list_any (λ sign. sign == b) (codes "+-*/%") ≡ false
no_sign b h = grind (arith, nat_tests)

-- a decimal is no operator
decimal_apart : (name : List ℕ) → is_decimal name ≡ true → is_operator name ≡ false
decimal_apart [] h = absurd cc
decimal_apart (b ∷ bytes) h = no_sign b h

not_both : {X : Type 0} (b : Bool) → b ≡ true → b ≡ false → X
not_both true h k = absurd cc
not_both false h k = absurd cc

sign_operates : (op : Operator) → is_operator (operator_name op) ≡ true
sign_operates Add = refl
sign_operates Subtract = refl
sign_operates Multiply = refl
sign_operates Divide = refl
sign_operates Remainder = refl

-- ---- arrays

-- a rule that is not broken is none
pub no_rule : (rule : Option Rule) (place : Place) → rule_broken rule place ≡ None → rule ≡ None
no_rule None place h = refl
no_rule (Some rule) place h = absurd cc

pub not_misused : (b : Bool) → misused_unless b ≡ None → b ≡ true
not_misused true h = refl
not_misused false h = absurd cc

-- what is called breaks no rule only where the name is not known
called_nothing : (m : Meaning) → call_rule m ≡ None → m ≡ means.Nothing
called_nothing (means.Parameter k) h = absurd cc
called_nothing (means.Iterator k) h = absurd cc
called_nothing (means.Array k dimensions) h = absurd cc
called_nothing means.LoopName h = absurd cc
called_nothing means.OwnStart h = absurd cc
called_nothing means.Nothing h = refl

module _ (names : List Entry) (scope : Scope) (text_names : List Entry) (text_scope : Scope) (written : text.Scope) (carries : Carries names scope text_names text_scope written) where
  -- the array that a name with so many subscripts stands for
  pub array_stands : (k dimensions : ℕ) (word : Word) (subs : List Expr) → meaning names scope word.name ≡ means.Array k dimensions → (length subs == dimensions) ≡ true
      → ArrayStands text_names text_scope written k (length (map (index names scope) subs))
  array_stands k dimensions word subs e h =
      let r = carries.array k dimensions word.name (record { means = e }) in
      let l : dimensions ≡ length (map (index names scope) subs) = let m = length-map subs (index names scope) in grind (arith, nat_tests) in
      subst (λ n. Stands text_names text_scope n (means.Array k (length (map (index names scope) subs)))) (sym r.0) (subst (λ d. Stands text_names text_scope word.name (means.Array k d)) l r.1)

  pub subscripts_fit : (rule : Option Rule) (word : Word) (subs : List Expr) → access_broken names scope rule word subs ≡ None → FitScope text_names text_scope written (map (index names scope) subs)
  subscripts_fit rule word subs h = indices_fit names scope text_names text_scope written carries subs (none_of (map (index_broken names scope) subs) (neither _ _ h).1)

  -- ---- readings

  -- a number by what is judged of it
  pub record IsNumber (j : Judged) : Type 0 where
    pub judged : Judges scope.params (length scope.iterators) j
    pub divided : AreDivided scope j.form
    pub named : Names names scope j

  pub number_has : (n : Numeral) → IsNumber (judged_number scope n)
  number_has n = record { judged = number_judges scope n; divided = hold_number (IsDivided scope) (other_divided scope) names scope (divided_made scope) n; named = number_names names scope n }

  pub quotient_has : (up : Bool) (n : Numeral) (place : Place) (argument : Expr) → IsNumber (judged_quotient scope up n place (judged names scope argument))
  quotient_has up n place argument =
      let j = judges names scope argument in record {
        judged = quotient_judges scope up n place (judged names scope argument) j;
        divided = hold_quotient (IsDivided scope) (other_divided scope) names scope (divided_made scope) up n place (judged names scope argument) j.0;
        named = quotient_names names scope up n place (judged names scope argument) (judged_names names scope argument);
      }

  abbrev Can : Value → Type 0
  Can x = IsReadable text_names text_scope written x

  -- a number, and a value that is none
  abbrev ReadingHas : Reading → Type 0
  ReadingHas (number j) = IsNumber j
  ReadingHas (other b x) = (b ≡ None → Can x) × (is_number x ≡ false)

  value_has : (r : Reading) → ReadingHas r → reading_broken r ≡ None → Can (value_of scope r)
  value_has (number j) h e = number_readable text_names text_scope written (index_expr scope j) (judged_fits names scope text_names text_scope written carries j h.judged h.divided h.named e)
  value_has (other b x) h e = h.0 e

  operated : (op : Operator) (x y : Value) → (not (is_number x) || (not (is_number y) || false)) ≡ true → Can x → Can y → Can (applied_values op x y)
  operated op x y o h k = call_readable text_names text_scope written (symbol (operator_name op) 2) (x ∷ y ∷ []) (value_place x) (record {
    arity = refl;
    operator = λ a. o;
    function = λ a. not_both (is_operator (operator_name op)) (sign_operates op) a;
    each = (h, (k, tt));
  })

  left_other : (x y : Value) → is_number x ≡ false → (not (is_number x) || (not (is_number y) || false)) ≡ true
  left_other x y e = rw e refl

  right_other : (b : Bool) (y : Value) → is_number y ≡ false → (b || (not (is_number y) || false)) ≡ true
  right_other true y e = refl
  right_other false y e = rw e refl

  applied_other : (op : Operator) (x y : Value) → is_number (applied_values op x y) ≡ false
  applied_other op x y = call_other text_names text_scope written (symbol (operator_name op) 2) (x ∷ y ∷ []) (value_place x)

  -- a name that is read is an array with so many subscripts, or a number
  access_case : (m : Meaning) (word : Word) (subs : List Expr) (alone : Bool) → meaning names scope word.name ≡ m → ((length subs == 0) && not (is_array m)) ≡ alone
      → ReadingHas (cond alone (number (judged_name scope m word)) (other (access_broken names scope (read_rule m (length subs)) word subs) (read_of names scope m word subs)))
  access_case m word subs true e a = record {
    judged = name_judges scope m word (not_array (is_array m) (both_true (length subs == 0) (not (is_array m)) a).1);
    divided = hold_name (IsDivided scope) (other_divided scope) names scope (divided_made scope) m;
    named = subst (λ x. Names names scope (judged_name scope x word)) e (name_names names scope word);
  }
    where
      not_array : (b : Bool) → not b ≡ true → b ≡ false
      not_array true h = absurd cc
      not_array false h = refl
  access_case (means.Parameter k) word subs false e a = (
    (λ h. not_both (length subs == 0) (not_misused (length subs == 0) (rule_holds names scope (read_rule (means.Parameter k) (length subs)) word subs h)) (alone_false (length subs == 0) a)),
    refl,
  )
    where
      alone_false : (b : Bool) → (b && true) ≡ false → b ≡ false
      alone_false true h = absurd cc
      alone_false false h = refl
  access_case (means.Iterator k) word subs false e a = (
    (λ h. not_both (length subs == 0) (not_misused (length subs == 0) (rule_holds names scope (read_rule (means.Iterator k) (length subs)) word subs h)) (alone_false (length subs == 0) a)),
    refl,
  )
    where
      alone_false : (b : Bool) → (b && true) ≡ false → b ≡ false
      alone_false true h = absurd cc
      alone_false false h = refl
  access_case (means.Array k dimensions) word subs false e a = (
    (λ h.
        let rule = read_rule (means.Array k dimensions) (length subs) in
        access_readable text_names text_scope written k (map (index names scope) subs) word.place
        (array_stands k dimensions word subs e (not_misused (length subs == dimensions) (rule_holds names scope rule word subs h))) (subscripts_fit rule word subs h)),
    refl,
  )
  access_case means.LoopName word subs false e a = ((λ h. let r = rule_holds names scope (read_rule means.LoopName (length subs)) word subs h in absurd cc), refl)
  access_case means.OwnStart word subs false e a = ((λ h. let r = rule_holds names scope (read_rule means.OwnStart (length subs)) word subs h in absurd cc), refl)
  access_case means.Nothing word subs false e a = ((λ h. let r = rule_holds names scope (read_rule means.Nothing (length subs)) word subs h in absurd cc), refl)

  access_has : (word : Word) (subs : List Expr) → ReadingHas (access_reading names scope (meaning names scope word.name) word subs)
  access_has word subs = access_case (meaning names scope word.name) word subs ((length subs == 0) && not (is_array (meaning names scope word.name))) refl refl

  each_readable : (rs : List Reading) → AllByRecursion ReadingHas rs → NoneBroken (map reading_broken rs) → AllByRecursion Can (map (value_of scope) rs)
  each_readable [] h none = tt
  each_readable (r ∷ rs) h none = (value_has r h.0 none.0, each_readable rs h.1 none.1)

  call_has : (word : Word) (rs : List Reading) → IsNamed word.name → AllByRecursion ReadingHas rs → ReadingHas (call_reading scope (meaning names scope word.name) word rs)
  call_has word rs is h = (
    (λ none.
        let n = neither (rule_broken (call_rule (meaning names scope word.name)) word.place) (first_of (map reading_broken rs)) none in
        let first = word_first word.name is.word in
        call_readable text_names text_scope written (symbol word.name (length rs)) (map (value_of scope) rs) word.place (record {
          arity = ap (λ k. min k 255) (sym (length-map rs (value_of scope)));
          operator = λ a. not_both (is_operator word.name) a first.0;
          function = λ a d. carries.nothing word.name (record {
            means = called_nothing (meaning names scope word.name) (no_rule (call_rule (meaning names scope word.name)) word.place n.0);
          });
          each = each_readable rs h (none_of (map reading_broken rs) n.1);
        })),
    call_other text_names text_scope written (symbol word.name (length rs)) (map (value_of scope) rs) word.place,
  )

  decimal_has : (word : Word) → IsConstant word.name → ReadingHas (other None (v.Call (symbol word.name 0) [] word.place))
  decimal_has word is =
      let d = decimal_first word.name is.decimal in (
        (λ none. call_readable text_names text_scope written (symbol word.name 0) [] word.place (record {
          arity = refl;
          operator = λ a. not_both (is_operator word.name) a (decimal_apart word.name d);
          function = λ a e. not_both (is_decimal word.name) d e;
          each = tt;
        })),
        call_other text_names text_scope written (symbol word.name 0) [] word.place,
      )

  negative_has : (place : Place) (r : Reading) → ReadingHas r → ReadingHas (negative_reading place r)
  negative_has place (number j) h = record {
    judged = negative_judges scope.params (length scope.iterators) place j h.judged;
    divided = hold_negative (IsDivided scope) (other_divided scope) j.form h.divided;
    named = negative_names names scope place j h.named;
  }
  negative_has place (other b x) h = (
    (λ none. call_readable text_names text_scope written (symbol (codes "-") 1) (x ∷ []) place (record {
      arity = refl;
      operator = λ a. let o = h.1 in rw o refl;
      function = λ a. absurd cc;
      each = (h.0 none, tt);
    })),
    call_other text_names text_scope written (symbol (codes "-") 1) (x ∷ []) place,
  )

  group_has : (place : Place) (r : Reading) → ReadingHas r → ReadingHas (group_reading place r)
  group_has place (number j) h = record { judged = group_judges scope.params (length scope.iterators) place j h.judged; divided = h.divided; named = h.named }
  group_has place (other b x) h = ((λ none. placed_readable text_names text_scope written place x (h.0 none)), other_placed place x ∙ h.1)

  joined_has : (op : Operator) (r s : Reading) → ReadingHas r → ReadingHas s → ReadingHas (joined_reading scope op r s)
  joined_has op (number i) (number j) h k = record {
    judged = joined_judges scope.params (length scope.iterators) op i j h.judged k.judged;
    divided = hold_form (IsDivided scope) (other_divided scope) op i.form j.form h.divided k.divided;
    named = joined_names names scope op i j h.named k.named;
  }
  joined_has op (number i) (other b y) h k = (
    (λ none.
        let n = neither (reading_broken (number i)) b none in
        operated op (v.Number (index_expr scope i)) y (right_other false y k.1) (value_has (number i) h n.0) (k.0 n.1)),
    applied_other op (v.Number (index_expr scope i)) y,
  )
  joined_has op (other b x) s h k = (
    (λ none.
        let n = neither b (reading_broken s) none in
        operated op x (value_of scope s) (left_other x (value_of scope s) h.1) (h.0 n.0) (value_has s k n.1)),
    applied_other op x (value_of scope s),
  )

  chained_has : (r : Reading) (rs : List Reading) (ops : List Operator) → ReadingHas r → AllByRecursion ReadingHas rs → ReadingHas (chained_reading scope r rs ops)
  chained_has r [] ops h k = h
  chained_has r (s ∷ rs) [] h k = h
  chained_has r (s ∷ rs) (op ∷ ops) h k = chained_has (joined_reading scope op r s) rs ops (joined_has op r s h k.0) k.1

  chain_has : (rs : List Reading) (ops : List Operator) → AllByRecursion ReadingHas rs → ReadingHas (chain_reading scope rs ops)
  chain_has [] ops h = number_has (record { number = 0; place = record { at = 0 } })
  chain_has (r ∷ rs) ops h = chained_has r rs ops h.0 h.1

  -- what an assignment assigns
  pub assigned_has : (target : Word) (subs : List Expr) (operator : Option Operator) (e : Expr) → ReadingHas (reading names scope e) → value_broken names scope e ≡ None
      → Can (read_of names scope (meaning names scope target.name) target subs) → Can (assigned_value names scope target subs operator e)
  assigned_has target subs None e h none k = value_has (reading names scope e) h none
  assigned_has target subs (Some op) e h none k =
      operated op (read_of names scope (meaning names scope target.name) target subs) (value names scope e) refl k (value_has (reading names scope e) h none)

-- ---- expressions of the grammar

-- what is read of an expression is readable, wherever names are carried
abbrev pub IsReadableExpr : Expr → Type 0
IsReadableExpr e = (names : List Entry) (scope : Scope) (text_names : List Entry) (text_scope : Scope) (written : text.Scope) (carries : Carries names scope text_names text_scope written)
    → ReadingHas names scope text_names text_scope written carries (reading names scope e)

readings_have : (names : List Entry) (scope : Scope) (text_names : List Entry) (text_scope : Scope) (written : text.Scope) (carries : Carries names scope text_names text_scope written)
    (es : List Expr) → AllByRecursion IsReadableExpr es → AllByRecursion (ReadingHas names scope text_names text_scope written carries) (map (reading names scope) es)
readings_have names scope text_names text_scope written carries [] h = tt
readings_have names scope text_names text_scope written carries (e ∷ es) h =
    (h.0 names scope text_names text_scope written carries, readings_have names scope text_names text_scope written carries es h.1)

pub expr_readable : (room : ℕ) (ts : List Lexeme) (e : Expr) → IsExpr room ts e → AreSpelled ts → IsReadableExpr e
expr_readable room ts e is h = expr_has IsReadableExpr
    (λ n names scope text_names text_scope written carries. subst (ReadingHas names scope text_names text_scope written carries) (sym (reading-number names scope n)) (number_has names scope text_names text_scope written carries n))
    (λ word constant names scope text_names text_scope written carries. subst (ReadingHas names scope text_names text_scope written carries) (sym (reading-decimal names scope word))
    (decimal_has names scope text_names text_scope written carries word constant))
    (λ name subs is names scope text_names text_scope written carries. subst (ReadingHas names scope text_names text_scope written carries) (sym (reading-access names scope name subs))
    (access_has names scope text_names text_scope written carries name subs))
    (λ name args is h names scope text_names text_scope written carries. subst (ReadingHas names scope text_names text_scope written carries) (sym (reading-call names scope name args))
    (call_has names scope text_names text_scope written carries name (map (reading names scope) args) is (readings_have names scope text_names text_scope written carries args h)))
    (λ up argument divisor place h names scope text_names text_scope written carries. subst (ReadingHas names scope text_names text_scope written carries) (sym (reading-quotient names scope up argument divisor place))
    (quotient_has names scope text_names text_scope written carries up divisor place argument))
    (λ operand place h names scope text_names text_scope written carries. subst (ReadingHas names scope text_names text_scope written carries) (sym (reading-negative names scope operand place))
    (negative_has names scope text_names text_scope written carries place (reading names scope operand) (h names scope text_names text_scope written carries)))
    (λ inner place h names scope text_names text_scope written carries. subst (ReadingHas names scope text_names text_scope written carries) (sym (reading-group names scope inner place))
    (group_has names scope text_names text_scope written carries place (reading names scope inner) (h names scope text_names text_scope written carries)))
    (λ operands operators h names scope text_names text_scope written carries. subst (ReadingHas names scope text_names text_scope written carries) (sym (reading-chain names scope operands operators))
    (chain_has names scope text_names text_scope written carries (map (reading names scope) operands) operators (readings_have names scope text_names text_scope written carries operands h)))
    is h
