-- What holds of numbers, of decimals, of names with subscripts, and of calls, quotients, negatives, groups and chains of expressions with it
-- holds of each expression that the grammar gives for tokens that are spelled as their kinds say.
use Rattle.std.specs.Prelude.{Bool, List, [], ◌∷◌, ◌++◌}
use Rattle.std.specs.List.{AllByRecursion}
use Rattle.std.proofs.Common.{ℕ}
use Rattle.ac_syntax.specs.declared.tree.Place.{Place}
use Rattle.ac_lex.specs.Lexemes.{Lexeme}
use Rattle.ac_parse_grammar.specs.declared.tree.Word.{Word}
use Rattle.ac_parse_grammar.specs.declared.tree.Numeral.{Numeral}
use Rattle.ac_parse_grammar.specs.declared.tree.Operator.{Operator}
use Rattle.ac_parse_grammar.specs.declared.tree.Expr.{Expr}
use Rattle.ac_parse_grammar.specs.declared.tree.Expr.TheVariants as expr
use Rattle.ac_parse_grammar.specs.declared.tree.Part.{Part}
use Rattle.ac_parse_grammar.specs.declared.links.Links.{Links}
use Rattle.ac_parse_grammar.specs.Terminals.{terminal, rounds_up}
use Rattle.ac_parse_grammar.specs.TokenWords.{place_of, word_of, numeral_of}
use Rattle.ac_parse_grammar.specs.Chains.{chain_of}
use Rattle.ac_parse_grammar.specs.Grammar.{IsExpr, sum, Terms, one_term, next_term, IsTerm, product, Factors, one_factor, next_factor, IsUnary, negative, primary, IsPrimary, number, decimal, access, call, quotient, group, Arguments, no_argument, some_arguments, ArgumentList, one_argument, next_argument, IsCond, one_part, next_part, IsPart, comparison, nested}
use Rattle.ac_parse_exprs.proofs.Absent.{each_append}
use Rattle.ac_parse_roundtrip.specs.TokenSpelling.{AreSpelled}
use Rattle.ac_parse_roundtrip.proofs.NameTerminals.{IsNamed, is_named, IsConstant, constant_is}

-- the tokens of a part are spelled too
pub front_spelled : (ts us : List Lexeme) → AreSpelled (ts ++ us) → AreSpelled ts
front_spelled [] us h = tt
front_spelled (t ∷ ts) us h = (h.0, front_spelled ts us h.1)

pub rest_spelled : (ts us : List Lexeme) → AreSpelled (ts ++ us) → AreSpelled us
rest_spelled [] us h = h
rest_spelled (t ∷ ts) us h = rest_spelled ts us h.1

module _ (P : Expr → Type 0)
    (number_has : (n : Numeral) → P (expr.Number n))
    (decimal_has : (word : Word) → IsConstant word.name → P (expr.Decimal word))
    (access_has : (name : Word) (subs : List Expr) → IsNamed name.name → P (expr.Access name subs))
    (call_has : (name : Word) (args : List Expr) → IsNamed name.name → AllByRecursion P args → P (expr.Call name args))
    (quotient_has : (up : Bool) (argument : Expr) (divisor : Numeral) (place : Place) → P argument → P (expr.Quotient up argument divisor place))
    (negative_has : (operand : Expr) (place : Place) → P operand → P (expr.Negative operand place))
    (group_has : (inner : Expr) (place : Place) → P inner → P (expr.Group inner place))
    (chain_has : (operands : List Expr) (operators : List Operator) → AllByRecursion P operands → P (expr.Chain operands operators)) where
  chained : (operands : List Expr) (operators : List Operator) → AllByRecursion P operands → P (chain_of operands operators)
  chained [] operators h = chain_has [] operators tt
  chained (first ∷ []) operators h = h.0
  chained (first ∷ second ∷ more) operators h = chain_has (first ∷ second ∷ more) operators h

  mutual
    pub expr_has : {room : ℕ} {ts : List Lexeme} {e : Expr} → IsExpr room ts e → AreSpelled ts → P e
    expr_has (sum {links = links} are) h = chained links.operands links.operators (terms_have are h)

    terms_have : {room : ℕ} {ts : List Lexeme} {links : Links} → Terms room ts links → AreSpelled ts → AllByRecursion P links.operands
    terms_have (one_term is) h = (term_has is h, tt)
    terms_have (next_term {ts = ts} {us = us} {links = links} {a = a} sign are o is) h =
        each_append P links.operands (a ∷ []) (terms_have are (front_spelled ts (sign ∷ us) h)) (term_has is (rest_spelled ts (sign ∷ us) h).1, tt)

    term_has : {room : ℕ} {ts : List Lexeme} {e : Expr} → IsTerm room ts e → AreSpelled ts → P e
    term_has (product {links = links} are) h = chained links.operands links.operators (factors_have are h)

    factors_have : {room : ℕ} {ts : List Lexeme} {links : Links} → Factors room ts links → AreSpelled ts → AllByRecursion P links.operands
    factors_have (one_factor is) h = (unary_has is h, tt)
    factors_have (next_factor {ts = ts} {us = us} {links = links} {a = a} star are o is) h =
        each_append P links.operands (a ∷ []) (factors_have are (front_spelled ts (star ∷ us) h)) (unary_has is (rest_spelled ts (star ∷ us) h).1, tt)

    unary_has : {room : ℕ} {ts : List Lexeme} {e : Expr} → IsUnary room ts e → AreSpelled ts → P e
    unary_has (negative {sign = sign} {a = a} minus is) h = negative_has a (place_of sign) (unary_has is h.1)
    unary_has (primary is) h = primary_has is h

    primary_has : {room : ℕ} {ts : List Lexeme} {e : Expr} → IsPrimary room ts e → AreSpelled ts → P e
    primary_has (number {n = n} is) h = number_has (numeral_of n)
    primary_has (decimal {n = n} is) h = decimal_has (word_of n) (constant_is n h.0 is)
    primary_has (access {n = n} {subs = subs} is are) h = access_has (word_of n) subs (is_named n h.0 is)
    primary_has (call {n = n} {ts = ts} {args = args} right is opens are closes) h = call_has (word_of n) args (is_named n h.0 is) (arguments_have are (front_spelled ts (right ∷ []) h.1.1))
    primary_has (quotient {word = word} {ts = ts} {a = a} comma divisor right rounds opens is c n closes) h =
        quotient_has (rounds_up (terminal word)) a (numeral_of divisor) (place_of word) (expr_has is (front_spelled ts (comma ∷ divisor ∷ right ∷ []) h.1.1))
    primary_has (group {left = left} {ts = ts} {a = a} right opens is closes) h = group_has a (place_of left) (expr_has is (front_spelled ts (right ∷ []) h.1))

    arguments_have : {room : ℕ} {ts : List Lexeme} {args : List Expr} → Arguments room ts args → AreSpelled ts → AllByRecursion P args
    arguments_have no_argument h = tt
    arguments_have (some_arguments are) h = list_has are h

    list_has : {room : ℕ} {ts : List Lexeme} {args : List Expr} → ArgumentList room ts args → AreSpelled ts → AllByRecursion P args
    list_has (one_argument is) h = (expr_has is h, tt)
    list_has (next_argument {ts = ts} {us = us} {args = args} {a = a} comma are c is) h =
        each_append P args (a ∷ []) (list_has are (front_spelled ts (comma ∷ us) h)) (expr_has is (rest_spelled ts (comma ∷ us) h).1, tt)

-- a condition has a comparison at least
abbrev pub HasPart : List Part → Type 0
HasPart [] = ⊥
HasPart (part ∷ parts) = Unit {0}

more_parts : (ps qs : List Part) → HasPart ps → HasPart (ps ++ qs)
more_parts [] qs h = absurd h
more_parts (p ∷ ps) qs h = tt

mutual
  pub cond_has_part : {room : ℕ} {ts : List Lexeme} {ps : List Part} → IsCond room ts ps → HasPart ps
  cond_has_part (one_part is) = part_has_part is
  cond_has_part (next_part {ps = ps} {qs = qs} also is a more) = more_parts ps qs (cond_has_part is)

  part_has_part : {room : ℕ} {ts : List Lexeme} {ps : List Part} → IsPart room ts ps → HasPart ps
  part_has_part (comparison sign a is b) = tt
  part_has_part (nested right o is c) = cond_has_part is
