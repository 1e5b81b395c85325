-- The items of values stand before bytes that stop, and no mark goes on over their first byte.
use Rattle.std.specs.Prelude.{true, false, codes, slice_get, if◌then◌else◌}
use Rattle.std.specs.List.{AllByRecursion}
use Rattle.std.proofs.Common.{◌≡◌, ℕ, zero, suc, ◌<◌, List, [], ◌∷◌, ◌++◌, length, refl, sym, ap, subst, arith, append_assoc}
use Rattle.std.proofs.lemmas.Bool.Decides.{nat_tests}
use Rattle.std.proofs.lemmas.List.{append-nil}
use Rattle.ac_syntax.specs.Text.{Scope, array_name, is_operator, is_decimal}
use Rattle.ac_syntax.specs.declared.tree.IndexExpr.{IndexExpr}
use Rattle.ac_syntax.specs.declared.tree.Array.{Array}
use Rattle.ac_syntax.specs.declared.tree.Value.{Value, Row_of-Value, end_of-Value, more_of-Value}
use Rattle.ac_syntax.specs.declared.tree.Value.TheVariants.{Number, Access, Call'}
use Rattle.ac_lex.specs.Bytes.{is_gap, is_letter, is_digit}
use Rattle.ac_lex.specs.Numerals.{IsRun, from_digit, from_point}
use Rattle.ac_lex.specs.TextPieces.{IsPiece, name, named}
use Rattle.ac_lex.specs.LexerModel.{is_single_mark}
use Rattle.ac_lex.specs.declared.tokens.TokenKind.TheVariants as kind
use Rattle.ac_lex.proofs.Classes.{one_of_all}
use Rattle.ac_parse_roundtrip.specs.Items.{Item, token, spelled, space, mark, word, joined, in_parentheses, form, subscripts, function, operation, call, value, values}
use Rattle.ac_parse_roundtrip.specs.ProgramWords.{IsWord, AreWritable, IsOperator, sign, IsSymbol, binary, negation, IsDeclared, argument_count, HasValueWords, HaveValueWords}
use Rattle.ac_parse_roundtrip.specs.ProgramWords as symbol
use Rattle.ac_parse_roundtrip.proofs.Pieces.{IsQuiet}
use Rattle.ac_parse_roundtrip.proofs.Apart.{Stands, AllStand, stand_append}
use Rattle.ac_parse_roundtrip.proofs.Numerals.{decimal_is_run}
use Rattle.ac_parse_roundtrip.proofs.TokenItems.{word_stands, word_quiet, run_quiet, constant_stands, space_stands, mark_stands, round_opens, round_closes, comma_stands}
use Rattle.ac_parse_roundtrip.proofs.FormItems.{Stand, HasScopeWords, joined_stand, form_stands, subscripts_stop, subscripts_stand}

-- ---- what is printed, by the first byte

letter_first : (b : ℕ) → is_letter b ≡ true → (is_operator (b ∷ []) ≡ false) × (is_decimal (b ∷ []) ≡ false)
letter_first b h = (grind (arith, nat_tests), grind (arith, nat_tests))

pub word_first : {text : List ℕ} → IsPiece name text → (is_operator text ≡ false) × (is_decimal text ≡ false)
word_first (named {b} is all) = letter_first b is

digit_first : (b : ℕ) → is_digit b ≡ true → (is_operator (b ∷ []) ≡ false) × (is_decimal (b ∷ []) ≡ true)
digit_first b h = (grind (arith, nat_tests), grind (arith, nat_tests))

run_first : {text : List ℕ} → IsRun text → (is_operator text ≡ false) × (is_decimal text ≡ true)
run_first (from_digit {d} is on) = digit_first d is
run_first (from_point is on) = (refl, refl)

pub operator_first : {text : List ℕ} → IsOperator text → is_operator text ≡ true
operator_first (sign {b} is) = one_of_all (λ c. is_operator (c ∷ [])) (codes "+-*/%") b is refl

pub operator_stands : {text : List ℕ} (rest : List ℕ) → IsOperator text → IsQuiet rest → Stands is_gap (mark text) rest
operator_stands rest (sign {b} is) quiet = mark_stands b rest (one_of_all is_single_mark (codes "+-*/%") b is refl) quiet

-- ---- operands

pub record IsOperand (items : List Item) : Type 0 where
  pub stand : Stand items
  pub quiet : (rest : List ℕ) → IsQuiet (spelled items ++ rest)

pub enclosed_stand : (items : List Item) → Stand items → IsOperand (in_parentheses items)
enclosed_stand items stand = record {
  stand = λ rest stops. (round_opens _, stand_append is_gap items (mark (codes ")") ∷ []) rest (stand (41 ∷ rest) refl) (round_closes rest, tt));
  quiet = λ rest. refl;
}

pub comma : (rest : List ℕ) → AllStand is_gap (mark (codes ",") ∷ space ∷ []) rest
comma rest = (comma_stands _, (space_stands, tt))

called : (text : List ℕ) (args : List (List Item)) → IsWord text → AllByRecursion IsOperand args → IsOperand (word text ∷ in_parentheses (joined (mark (codes ",") ∷ space ∷ []) args))
called text args is are = record {
  stand = λ rest stops. (word_stands text _ is refl, (enclosed_stand (joined (mark (codes ",") ∷ space ∷ []) args) inner).stand rest stops);
  quiet = λ rest. subst IsQuiet (sym (append_assoc text _ rest)) (word_quiet _ is.is);
}
  where
    inner : Stand (joined (mark (codes ",") ∷ space ∷ []) args)
    inner = joined_stand IsOperand (λ part. part) (mark (codes ",") ∷ space ∷ []) (λ rest. refl) comma (λ part part_is. part_is.stand) args are

plain : (text : List ℕ) (args : List (List Item)) → is_operator text ≡ false → is_decimal text ≡ false → IsWord text → AllByRecursion IsOperand args → IsOperand (call text args)
plain text args no_operator no_decimal is are =
    subst (λ t. IsOperand (if t then operation text args else function text args)) (sym no_operator)
    (subst (λ t. IsOperand (if t then token kind.Decimal text ∷ [] else word text ∷ in_parentheses (joined (mark (codes ",") ∷ space ∷ []) args))) (sym no_decimal)
    (called text args is are))

constant : (text : List ℕ) (args : List (List Item)) → is_operator text ≡ false → is_decimal text ≡ true → IsOperand (token kind.Decimal text ∷ []) → IsOperand (call text args)
constant text args no_operator decimal is =
    subst (λ t. IsOperand (if t then operation text args else function text args)) (sym no_operator)
    (subst (λ t. IsOperand (if t then token kind.Decimal text ∷ [] else word text ∷ in_parentheses (joined (mark (codes ",") ∷ space ∷ []) args))) (sym decimal) is)

operated : (text : List ℕ) (args : List (List Item)) → is_operator text ≡ true → IsOperand (operation text args) → IsOperand (call text args)
operated text args operator is = subst (λ t. IsOperand (if t then operation text args else function text args)) (sym operator) is

two_operands : (text : List ℕ) (a b : List Item) → IsOperator text → IsOperand a → IsOperand b → Stand (a ++ space ∷ mark text ∷ space ∷ b)
two_operands text a b is first second rest stops =
    stand_append is_gap a (space ∷ mark text ∷ space ∷ b) rest (first.stand _ refl) (space_stands, (operator_stands _ is refl, (space_stands, second.stand rest stops)))

one_operand : (a : List Item) → IsOperand a → Stand (mark (codes "-") ∷ a)
one_operand a is rest stops = (mark_stands 45 (spelled a ++ rest) refl (is.quiet rest), is.stand rest stops)

binary_stands : (text : List ℕ) (args : List (List Item)) → length args ≡ 2 → IsOperator text → AllByRecursion IsOperand args → IsOperand (call text args)
binary_stands text [] count is are = cc
binary_stands text (a ∷ []) count is are = absurd (omega arith)
binary_stands text (a ∷ b ∷ []) count is are =
    operated text (a ∷ b ∷ []) (operator_first is) (enclosed_stand (a ++ space ∷ mark text ∷ space ∷ b) (two_operands text a b is are.0 are.1.0))
binary_stands text (a ∷ b ∷ c ∷ args) count is are = absurd (omega arith)

negation_stands : (args : List (List Item)) → length args ≡ 1 → AllByRecursion IsOperand args → IsOperand (call (codes "-") args)
negation_stands [] count are = cc
negation_stands (a ∷ []) count are = operated (codes "-") (a ∷ []) refl (enclosed_stand (mark (codes "-") ∷ a) (one_operand a are.0))
negation_stands (a ∷ b ∷ args) count are = absurd (omega arith)

call_stands : (text : List ℕ) (n : ℕ) (args : List (List Item)) → length args ≡ n → IsSymbol text n → AllByRecursion IsOperand args → IsOperand (call text args)
call_stands text n args count (symbol.function is) are = let first = word_first is.is in plain text args first.0 first.1 is are
call_stands text _ args count (symbol.constant is short) are =
    let first = run_first (decimal_is_run is) in
    constant text args first.0 first.1 (record {
      stand = λ rest stops. (constant_stands text rest is short stops, tt);
      quiet = λ rest. subst (λ l. IsQuiet (l ++ rest)) (sym (append-nil text)) (run_quiet rest (decimal_is_run is));
    })
call_stands text _ args count (binary is) are = binary_stands text args count is are
call_stands text _ args count (negation e) are = subst (λ l. IsOperand (call l args)) (sym e) (negation_stands args count are)

-- ---- arrays

pub array_word : (arrays : List Array) (k : ℕ) → AllByRecursion IsDeclared arrays → k < length arrays → IsWord (array_name (slice_get arrays k))
array_word [] k all there = absurd (omega arith)
array_word (a ∷ arrays) zero all there = all.0.name
array_word (a ∷ arrays) (suc k) all there = array_word arrays k all.1 (omega arith)

pub access_stands : (scope : Scope) (text : List ℕ) (subs : List IndexExpr) → HasScopeWords scope → IsWord text → AreWritable subs → IsOperand (word text ∷ subscripts scope subs)
access_stands scope text subs words is are = record {
  stand = λ rest stops. (word_stands text _ is (subscripts_stop scope words subs rest stops), subscripts_stand scope words subs are rest stops);
  quiet = λ rest. subst IsQuiet (sym (append_assoc text (spelled (subscripts scope subs)) rest)) (word_quiet _ is.is);
}

-- ---- values

mutual
  unfolding value HasValueWords argument_count

  count_is : (scope : Scope) {m : _} (k : Row_of-Value m) → length (values scope k) ≡ argument_count k
  count_is scope end_of-Value = refl
  count_is scope (more_of-Value v rest) = ap suc (count_is scope rest)

  pub value_stands : (scope : Scope) (v : Value) → HasScopeWords scope → HasValueWords scope.arrays v → IsOperand (value scope v)
  value_stands scope (Number e) words are = enclosed_stand (form scope e) (form_stands scope e words are)
  value_stands scope (Access array subs place) words are = access_stands scope (array_name (slice_get scope.arrays array)) subs words (array_word scope.arrays array words.arrays are.0) are.1
  value_stands scope (Call' symbol n args place) words are = call_stands symbol.name (argument_count args) (values scope args) (count_is scope args) are.0 (values_stand scope args words are.1)

  values_stand : (scope : Scope) {m : _} (k : Row_of-Value m) → HasScopeWords scope → HaveValueWords scope.arrays k → AllByRecursion IsOperand (values scope k)
  values_stand scope end_of-Value words are = tt
  values_stand scope (more_of-Value v rest) words are = (value_stands scope v words are.0, values_stand scope rest words are.1)
