-- How expressions are read.
use Rattle.std.specs.Prelude.{ℕ, zero, suc, Bool, true, false, List, [], ◌∷◌, ◌++◌, Option, Some, None, if◌then◌else◌}
use Rattle.ac_lex.specs.Lexemes.{Lexeme}
use Rattle.ac_parse_grammar.specs.declared.terminal.Terminal.{Terminal}
use Rattle.ac_parse_grammar.specs.declared.terminal.Terminal.TheVariants as t
use Rattle.ac_parse_grammar.specs.declared.tree.Word.{Word}
use Rattle.ac_parse_grammar.specs.declared.tree.Expr.{Expr}
use Rattle.ac_parse_grammar.specs.declared.tree.Expr.TheVariants as tree
use Rattle.ac_parse_grammar.specs.declared.links.Links.{Links}
use Rattle.ac_parse_grammar.specs.TokenWords.{place_of, word_of, numeral_of}
use Rattle.ac_parse_grammar.specs.Chains.{start, link, chain, quotient_of}
use Rattle.ac_parse_grammar.specs.ReaderCombinators.{Reader, found, stopped, syntax, nesting, ◌>>=◌, ◌>>◌, pure, peek, front, take, by_terminal, is, expect, ending, name, repeat, many}
use Rattle.ac_parse_grammar.specs.Operators.{sign_of, star_of}

abbrev pub comma_of : Terminal → Option (Unit {0})
comma_of t.Comma = Some tt
comma_of _ = None

abbrev pub add_item : List Expr → Expr → List Expr
add_item items item = items ++ item ∷ []

abbrev pub list_item : List Expr → Unit {0} → Expr → List Expr
list_item items _ item = items ++ item ∷ []

-- behind a name with or without subscripts, a call, a number and a parenthesis no other one opens
abbrev pub opens : Terminal → Bool
opens t.Open = true
opens t.OpenBracket = true
opens _ = false

-- the terminals with which a shorter expression goes on
abbrev pub goes_on : Terminal → Bool
goes_on t.Plus = true
goes_on t.Minus = true
goes_on t.Star = true
goes_on t.Slash = true
goes_on t.Percent = true
goes_on t.Open = true
goes_on t.OpenBracket = true
goes_on _ = false

-- the rest of a product, or a sum, behind its first operand
unfoldable pub factors : Reader Expr → Expr → Reader Links
factors unary first = repeat star_of link unary (start first)

unfoldable pub product : Reader Expr → Expr → Reader Expr
product unary first = factors unary first >>= (λ links. pure (chain links))

unfoldable pub term_of : Reader Expr → Reader Expr
term_of unary = unary >>= product unary

unfoldable pub terms : Reader Expr → Expr → Reader Links
terms unary first = repeat sign_of link (term_of unary) (start first)

unfoldable pub sum : Reader Expr → Expr → Reader Expr
sum unary first = terms unary first >>= (λ links. pure (chain links))

unfoldable pub expr_of : Reader Expr → Reader Expr
expr_of unary = term_of unary >>= sum unary

unfoldable pub list : Reader Expr → Reader (List Expr)
list item = item >>= (λ a. repeat comma_of list_item item (a ∷ []))

unfoldable pub arguments : Reader Expr → Reader (List Expr)
arguments unary = λ ts. if is t.Close (peek ts) then found [] ts else list (expr_of unary) ts

-- One construct: its opening token, what it holds, and its closing token. None may open at the limit.
unfoldable pub within : {X A : Type 0} → Option X → (X → Reader A) → Terminal → Reader A
within None inside last = λ ts. stopped nesting ts
within (Some inner) inside last = take >> (inside inner >>= (λ a. expect last >> pure a))

unfoldable pub subscripts : Option (Reader Expr) → Reader (List Expr)
subscripts below = many (is t.OpenBracket) add_item (within below expr_of t.CloseBracket) []

unfoldable pub named : Option (Reader Expr) → Word → Reader Expr
named below word = λ ts. if is t.Open (peek ts) then (within below arguments t.Close >>= (λ args. pure (tree.Call word args))) ts
    else (subscripts below >>= (λ subs. pure (tree.Access word subs))) ts

unfoldable pub group : Option (Reader Expr) → Reader Expr
group below = λ ts. (within below expr_of t.Close >>= (λ inner. pure (tree.Group inner (place_of (front ts))))) ts

-- what a quotient divides, a comma, and its divisor
unfoldable pub divided : Lexeme → Reader Expr → Reader Expr
divided word unary = expr_of unary >>= (λ a. expect t.Comma >> (expect t.Number >>= (λ divisor. pure (quotient_of word a divisor))))

-- a quotient, behind its word
unfoldable pub division : Option (Reader Expr) → Lexeme → Reader Expr
division below word = λ ts. if is t.Open (peek ts) then within below (divided word) t.Close ts else stopped syntax ts

unfoldable pub quotient : Option (Reader Expr) → Reader Expr
quotient below = take >>= division below

abbrev pub primary_by : Option (Reader Expr) → Terminal → Reader Expr
primary_by below t.Number = take >>= (λ token. pure (tree.Number (numeral_of token)))
primary_by below t.Decimal = take >>= (λ token. pure (tree.Decimal (word_of token)))
primary_by below t.Floord = quotient below
primary_by below t.Ceild = quotient below
primary_by below t.Open = group below
primary_by below _ = name >>= named below

unfoldable pub any_primary : Option (Reader Expr) → Reader Expr
any_primary below = by_terminal (primary_by below)

unfoldable pub primary : Option (Reader Expr) → Reader Expr
primary below = any_primary below >>= ending opens

unfoldable pub negated : Option (Reader Expr) → Reader Expr
negated None = λ ts. stopped nesting ts
negated (Some unary) = take >>= (λ sign. unary >>= (λ operand. pure (tree.Negative operand (place_of sign))))

unfoldable pub unary_in : Option (Reader Expr) → Reader Expr
unary_in below = λ ts. if is t.Minus (peek ts) then negated below ts else primary below ts

-- the unary inside one more construct, of those that may still open
unfoldable pub below : ℕ → Option (Reader Expr)
below zero = None
below (suc room) = Some (unary_in (below room))

unfoldable pub unary : ℕ → Reader Expr
unary room = unary_in (below room)

abbrev pub term : ℕ → Reader Expr
term room = term_of (unary room)

abbrev pub expr : ℕ → Reader Expr
expr room = expr_of (unary room)
