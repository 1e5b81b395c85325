-- What is divided: quotients and comparisons that test a divisor.
use Rattle.std.proofs.Common.{◌≡◌, rules, ℕ, zero, suc, ◌-◌, ◌==◌, ◌&&◌, List, [], ◌∷◌, ◌++◌, Bool, true, false, cond, length, take, map, refl, ap, sym, subst, ◌∙◌, arith}
use Rattle.std.proofs.lemmas.List.{length-take}
use Rattle.std.specs.Prelude.{slice_get}
use Rattle.std.proofs.lemmas.Bool.Decides.{nat_tests}
use Rattle.std.specs.Prelude.{Option, Some, None}
use Rattle.std.specs.Option.{option_map, option_and_then}
use Rattle.ac_syntax.specs.declared.tree.Place.{Place}
use Rattle.ac_parse_grammar.specs.declared.tree.Word.{Word}
use Rattle.ac_parse_grammar.specs.declared.tree.Numeral.{Numeral}
use Rattle.ac_parse_grammar.specs.declared.tree.Operator.{Operator}
use Rattle.ac_parse_grammar.specs.declared.tree.Operator.TheVariants.{Add, Subtract, Multiply, Divide, Remainder}
use Rattle.ac_parse_grammar.specs.declared.tree.Expr.{Expr, the_lemmas}
use Rattle.ac_parse_grammar.specs.declared.tree.Expr.TheVariants.{Number, Decimal, Access, Call, Quotient, Negative, Group, Chain, rolls-Number, rolls-Decimal, rolls-Access, rolls-Call, rolls-Quotient, rolls-Negative, rolls-Group, rolls-Chain}
use Rattle.ac_parse_grammar.specs.declared.tree.Expr.TheOpen as open_of
use Rattle.ac_parse_grammar.specs.declared.tree.Expr.TheFolds.{para-roll-Expr}
use Rattle.ac_parse_exprs.proofs.Absent.{both_true}
use Rattle.ac_parse_exprs.specs.Divisions.{Division, within, number_alone, is_by_remainder, chain_division, division_step, division_of}

pub alone-number : (n : Numeral) → number_alone (Number n) ≡ Some n
unfolding number_alone
alone-number n = search (rules, the_lemmas)

pub alone-decimal : (word : Word) → number_alone (Decimal word) ≡ None
unfolding number_alone
alone-decimal word = search (rules, the_lemmas)

pub alone-access : (name : Word) (subs : List Expr) → number_alone (Access name subs) ≡ None
unfolding number_alone
alone-access name subs = search (rules, the_lemmas)

pub alone-call : (name : Word) (args : List Expr) → number_alone (Call name args) ≡ None
unfolding number_alone
alone-call name args = search (rules, the_lemmas)

pub alone-quotient : (up : Bool) (argument : Expr) (divisor : Numeral) (place : Place) → number_alone (Quotient up argument divisor place) ≡ None
unfolding number_alone
alone-quotient up argument divisor place = search (rules, the_lemmas)

pub alone-negative : (operand : Expr) (place : Place) → number_alone (Negative operand place) ≡ None
unfolding number_alone
alone-negative operand place = search (rules, the_lemmas)

pub alone-group : (inner : Expr) (place : Place) → number_alone (Group inner place) ≡ None
unfolding number_alone
alone-group inner place = search (rules, the_lemmas)

pub alone-chain : (operands : List Expr) (operators : List Operator) → number_alone (Chain operands operators) ≡ None
unfolding number_alone
alone-chain operands operators = search (rules, the_lemmas)

firsts : (es : List Expr) → map (λ (s : Expr × Option Division). s.0) (map (λ (y : Expr). (y, division_of y)) es) ≡ es
firsts [] = refl
firsts (e ∷ es) = ap (λ xs. e ∷ xs) (firsts es)

pub division-number : (n : Numeral) → division_of (Number n) ≡ None
unfolding division_of
division-number n = ap division_of (sym (rolls-Number n)) ∙ para-roll-Expr (Option Division) division_step (open_of.Number n)

pub division-decimal : (word : Word) → division_of (Decimal word) ≡ None
unfolding division_of
division-decimal word = ap division_of (sym (rolls-Decimal word)) ∙ para-roll-Expr (Option Division) division_step (open_of.Decimal word)

pub division-access : (name : Word) (subs : List Expr) → division_of (Access name subs) ≡ None
unfolding division_of
division-access name subs = ap division_of (sym (rolls-Access name subs)) ∙ para-roll-Expr (Option Division) division_step (open_of.Access name subs)

pub division-call : (name : Word) (args : List Expr) → division_of (Call name args) ≡ None
unfolding division_of
division-call name args = ap division_of (sym (rolls-Call name args)) ∙ para-roll-Expr (Option Division) division_step (open_of.Call name args)

pub division-quotient : (up : Bool) (argument : Expr) (divisor : Numeral) (place : Place) → division_of (Quotient up argument divisor place) ≡ None
unfolding division_of
division-quotient up argument divisor place = ap division_of (sym (rolls-Quotient up argument divisor place)) ∙ para-roll-Expr (Option Division) division_step (open_of.Quotient up argument divisor place)

pub division-negative : (operand : Expr) (place : Place) → division_of (Negative operand place) ≡ None
unfolding division_of
division-negative operand place = ap division_of (sym (rolls-Negative operand place)) ∙ para-roll-Expr (Option Division) division_step (open_of.Negative operand place)

pub division-group : (inner : Expr) (place : Place) → division_of (Group inner place) ≡ option_map (within place) (division_of inner)
unfolding division_of
division-group inner place = ap division_of (sym (rolls-Group inner place)) ∙ para-roll-Expr (Option Division) division_step (open_of.Group inner place)

pub division-chain : (operands : List Expr) (operators : List Operator) → division_of (Chain operands operators) ≡ chain_division operands operators
unfolding division_of
division-chain operands operators = ap division_of (sym (rolls-Chain operands operators)) ∙ para-roll-Expr (Option Division) division_step (open_of.Chain operands operators) ∙ rw (firsts operands) refl

pub ruleset dividing = (alone-number, alone-decimal, alone-access, alone-call, alone-quotient, alone-negative, alone-group, alone-chain, division-number, division-decimal, division-access, division-call, division-quotient, division-negative, division-group, division-chain)

-- ---- a chain that is divided: what stands before its last operator, and the Number behind it

last_of : {A : Type 0} (xs : List A) (n : ℕ) (x : A) → length xs ≡ suc n → slice_get xs n ≡ Some x → xs ≡ take n xs ++ x ∷ []
last_of [] n x h g = absurd (omega (arith, h))
last_of (y ∷ []) zero x h g = ap (λ z. z ∷ []) cc
last_of (y ∷ z ∷ xs) zero x h g = absurd (omega (arith, h))
last_of (y ∷ xs) (suc n) x h g = ap (λ rest. y ∷ rest) (last_of xs n x (omega (arith, h)) g)

pub record IsSplit (es : List Expr) (ops : List Operator) (d : Division) : Type 0 where
  pub last : Expr
  pub operands : es ≡ d.operands ++ last ∷ []
  pub operators : ops ≡ d.operators ++ Remainder ∷ []
  pub lengths : length d.operands ≡ suc (length d.operators)
  pub divisor : number_alone last ≡ Some d.divisor

remainder_is : (o : Option Operator) → is_by_remainder o ≡ true → o ≡ Some Remainder
remainder_is None h = absurd cc
remainder_is (Some Add) h = absurd cc
remainder_is (Some Subtract) h = absurd cc
remainder_is (Some Multiply) h = absurd cc
remainder_is (Some Divide) h = absurd cc
remainder_is (Some Remainder) h = refl

abbrev cut : List Expr → List Operator → Numeral → Division
cut operands operators c = record { operands = take (length operators) operands; operators = take (length operators - 1) operators; divisor = c; parenthesis = None }

none_first : (ops : List Operator) → slice_get ops (length ops - 1) ≡ Some Remainder → length ops ≡ suc (length ops - 1)
none_first [] h = absurd cc
none_first (o ∷ ops) h = omega arith

split_last : (operands : List Expr) (operators : List Operator) (last : Expr) (n : Option Numeral) (d : Division) → length operands ≡ suc (length operators) → slice_get operators (length operators - 1) ≡ Some Remainder
    → slice_get operands (length operators) ≡ Some last → number_alone last ≡ n → option_map (cut operands operators) n ≡ Some d → IsSplit operands operators d
split_last operands operators last None d l o g a e = absurd cc
split_last operands operators last (Some c) d l o g a e =
    let is : cut operands operators c ≡ d = cc in
    let k = none_first operators o in
    subst (IsSplit operands operators) is (record {
      last = last;
      operands = last_of operands (length operators) last l g;
      operators = last_of operators (length operators - 1) Remainder k o;
      lengths = omega (arith, l, k, length-take {A = Expr} (length operators) operands, length-take {A = Operator} (length operators - 1) operators);
      divisor = a;
    })

split_some : (operands : List Expr) (operators : List Operator) (last : Option Expr) (d : Division) → length operands ≡ suc (length operators) → slice_get operators (length operators - 1) ≡ Some Remainder
    → slice_get operands (length operators) ≡ last → option_map (cut operands operators) (option_and_then number_alone last) ≡ Some d → IsSplit operands operators d
split_some operands operators None d l o g e = absurd cc
split_some operands operators (Some last) d l o g e = split_last operands operators last (number_alone last) d l o g refl e

split_when : (operands : List Expr) (operators : List Operator) (b : Bool) (d : Division) → ((length operands == suc (length operators)) && is_by_remainder (slice_get operators (length operators - 1))) ≡ b
    → cond b (option_map (cut operands operators) (option_and_then number_alone (slice_get operands (length operators)))) None ≡ Some d → IsSplit operands operators d
split_when operands operators false d t e = absurd cc
split_when operands operators true d t e =
    let h = both_true (length operands == suc (length operators)) (is_by_remainder (slice_get operators (length operators - 1))) t in
    let l : length operands ≡ suc (length operators) = grind (arith, nat_tests, h.0) in
    split_some operands operators (slice_get operands (length operators)) d l (remainder_is (slice_get operators (length operators - 1)) h.1) refl e

pub chain_split : (operands : List Expr) (operators : List Operator) (d : Division) → chain_division operands operators ≡ Some d → IsSplit operands operators d
chain_split operands operators d e = split_when operands operators ((length operands == suc (length operators)) && is_by_remainder (slice_get operators (length operators - 1))) d refl e
