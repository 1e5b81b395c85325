-- The grammar of expressions put together from parts, with the relation that holds inside one more construct.
use Rattle.std.specs.Prelude.{ℕ, zero, suc, Bool, List, [], ◌∷◌}
use Rattle.ac_lex.specs.Lexemes.{Lexeme}
use Rattle.ac_parse_grammar.specs.declared.terminal.Terminal.{Terminal}
use Rattle.ac_parse_grammar.specs.declared.terminal.Terminal.TheVariants as t
use Rattle.ac_parse_grammar.specs.declared.tree.Word.{Word}
use Rattle.ac_parse_grammar.specs.declared.tree.Expr.{Expr}
use Rattle.ac_parse_grammar.specs.declared.tree.Expr.TheVariants as tree
use Rattle.ac_parse_grammar.specs.declared.links.Links.{Links}
use Rattle.ac_parse_grammar.specs.Terminals.{is_name, is_rounding}
use Rattle.ac_parse_grammar.specs.TokenWords.{place_of, word_of, numeral_of}
use Rattle.ac_parse_grammar.specs.Chains.{start, link, chain, quotient_of}
use Rattle.ac_parse_grammar.specs.ReaderCombinators.{is}
use Rattle.ac_parse_grammar.specs.Expressions.{comma_of, add_item, list_item}
use Rattle.ac_parse_grammar.specs.Found.{Rel}
use Rattle.ac_parse_grammar.proofs.Exact.{IsThen}
use Rattle.ac_parse_grammar.proofs.Many.{IsMany}
use Rattle.ac_parse_grammar.proofs.Parts.{IsNothing, IsPure, IsToken, IsEither, IsHeld, IsMap}
use Rattle.ac_parse_grammar.proofs.StatementPieces.{IsMarked}
use Rattle.ac_parse_grammar.proofs.Repeats.{IsRepeat}
use Rattle.ac_parse_grammar.specs.Operators.{sign_of, star_of}

-- What a token that opens a construct begins: nothing at the limit, and otherwise what stands behind it, with the unary of
-- one construct less.
abbrev pub Opening : Type 1
Opening = (Terminal → Bool) → (Rel Expr → Lexeme → Rel Expr) → Rel Expr

abbrev pub at_limit : Opening
at_limit test R = IsNothing

abbrev pub around : Rel Expr → Opening
around U test R = IsToken test (R U)

abbrev pub IsFactors : Rel Expr → Expr → Rel Links
IsFactors U first = IsRepeat star_of link U (start first)

abbrev pub IsProduct : Rel Expr → Expr → Rel Expr
IsProduct U first = IsMap chain (IsFactors U first)

abbrev pub IsTermOf : Rel Expr → Rel Expr
IsTermOf U = IsThen U (IsProduct U)

abbrev pub IsTerms : Rel Expr → Expr → Rel Links
IsTerms U first = IsRepeat sign_of link (IsTermOf U) (start first)

abbrev pub IsSum : Rel Expr → Expr → Rel Expr
IsSum U first = IsMap chain (IsTerms U first)

abbrev pub IsExprOf : Rel Expr → Rel Expr
IsExprOf U = IsThen (IsTermOf U) (IsSum U)

abbrev pub IsList : Rel Expr → Rel (List Expr)
IsList Item = IsThen Item (λ first. IsRepeat comma_of list_item Item (first ∷ []))

abbrev pub IsCallEnd : Rel Expr → Rel (List Expr)
IsCallEnd U = IsEither (IsToken (is t.Close) (λ _. IsPure [])) (IsHeld (IsList (IsExprOf U)) t.Close)

abbrev pub IsCall : Word → Rel Expr → Lexeme → Rel Expr
IsCall word U open_at = IsMap (tree.Call word) (IsCallEnd U)

abbrev pub IsSubscript : Rel Expr → Lexeme → Rel Expr
IsSubscript U open_at = IsHeld (IsExprOf U) t.CloseBracket

abbrev pub IsGroup : Rel Expr → Lexeme → Rel Expr
IsGroup U open_at = IsMap (λ inner. tree.Group inner (place_of open_at)) (IsHeld (IsExprOf U) t.Close)

-- a comma, the divisor, and the end of a quotient
abbrev pub IsDivisor : Lexeme → Expr → Rel Expr
IsDivisor word a = IsMarked t.Comma (λ _. IsMarked t.Number (λ divisor. IsMarked t.Close (λ _. IsPure (quotient_of word a divisor))))

abbrev pub IsDivision : Lexeme → Rel Expr → Lexeme → Rel Expr
IsDivision word U open_at = IsThen (IsExprOf U) (IsDivisor word)

abbrev pub IsNegative : Rel Expr → Lexeme → Rel Expr
IsNegative U sign = IsMap (λ operand. tree.Negative operand (place_of sign)) U

abbrev pub IsSubscripts : Opening → Rel (List Expr)
IsSubscripts O = IsMany add_item (O (is t.OpenBracket) IsSubscript) []

abbrev pub IsNamed : Opening → Lexeme → Rel Expr
IsNamed O name = IsEither (O (is t.Open) (IsCall (word_of name))) (IsMap (tree.Access (word_of name)) (IsSubscripts O))

-- behind its word
abbrev pub IsQuotient : Opening → Lexeme → Rel Expr
IsQuotient O word = IsEither (O (is t.Open) (IsDivision word)) IsNothing

abbrev pub IsPrimaryIn : Opening → Rel Expr
IsPrimaryIn O = IsEither (IsToken (is t.Number) (λ token. IsPure (tree.Number (numeral_of token))))
    (IsEither (IsToken (is t.Decimal) (λ token. IsPure (tree.Decimal (word_of token))))
    (IsEither (IsToken is_rounding (IsQuotient O))
    (IsEither (O (is t.Open) IsGroup)
    (IsEither (IsToken is_name (IsNamed O)) IsNothing))))

abbrev pub IsUnaryIn : Opening → Rel Expr
IsUnaryIn O = IsEither (O (is t.Minus) IsNegative) (IsPrimaryIn O)

-- a unary inside which so many constructs may open
unfoldable pub IsUnaryAt : ℕ → Rel Expr
IsUnaryAt zero = IsUnaryIn at_limit
IsUnaryAt (suc room) = IsUnaryIn (around (IsUnaryAt room))

-- what opens in it
unfoldable pub openings_at : ℕ → Opening
openings_at zero = at_limit
openings_at (suc room) = around (IsUnaryAt room)

abbrev pub IsExprAt : ℕ → Rel Expr
IsExprAt room = IsExprOf (IsUnaryAt room)
