-- A token for each terminal that statements, declarations and pragma lines want.
use Rattle.std.specs.Prelude.{true, codes}
use Rattle.std.proofs.Common.{◌≡◌, ℕ, List, [], refl}
use Rattle.ac_lex.specs.Lexemes.{Lexeme}
use Rattle.ac_lex.specs.declared.tokens.TokenKind.{TokenKind}
use Rattle.ac_lex.specs.declared.tokens.TokenKind.TheVariants as token
use Rattle.ac_parse_grammar.specs.declared.terminal.Terminal.TheVariants as t
use Rattle.ac_parse_grammar.specs.Terminals.{terminal, is_name}
use Rattle.ac_parse_grammar.proofs.Parts.{Spelled}

abbrev lexeme : TokenKind → List ℕ → Lexeme
lexeme kind text = record { kind = kind; at = 0; text = text }

pub an_open : Spelled t.Open
unfolding terminal
an_open = (lexeme token.Mark (codes "("), refl)

pub a_close : Spelled t.Close
unfolding terminal
a_close = (lexeme token.Mark (codes ")"), refl)

pub an_open_brace : Spelled t.OpenBrace
unfolding terminal
an_open_brace = (lexeme token.Mark (codes "{"), refl)

pub a_close_brace : Spelled t.CloseBrace
unfolding terminal
a_close_brace = (lexeme token.Mark (codes "}"), refl)

pub an_open_bracket : Spelled t.OpenBracket
unfolding terminal
an_open_bracket = (lexeme token.Mark (codes "["), refl)

pub a_close_bracket : Spelled t.CloseBracket
unfolding terminal
a_close_bracket = (lexeme token.Mark (codes "]"), refl)

pub a_comma : Spelled t.Comma
unfolding terminal
a_comma = (lexeme token.Mark (codes ","), refl)

pub a_semicolon : Spelled t.Semicolon
unfolding terminal
a_semicolon = (lexeme token.Mark (codes ";"), refl)

pub becomes_mark : Spelled t.Becomes
unfolding terminal
becomes_mark = (lexeme token.Mark (codes "="), refl)

pub plus_becomes : Spelled t.PlusBecomes
unfolding terminal
plus_becomes = (lexeme token.Mark (codes "+="), refl)

pub a_plus : Spelled t.Plus
unfolding terminal
a_plus = (lexeme token.Mark (codes "+"), refl)

pub plus_plus : Spelled t.PlusPlus
unfolding terminal
plus_plus = (lexeme token.Mark (codes "++"), refl)

pub a_number : Spelled t.Number
unfolding terminal
a_number = (lexeme token.Number (codes "0"), refl)

pub a_for : Spelled t.For
unfolding terminal
a_for = (lexeme token.Word (codes "for"), refl)

pub an_if : Spelled t.If
unfolding terminal
an_if = (lexeme token.Word (codes "if"), refl)

pub an_else : Spelled t.Else
unfolding terminal
an_else = (lexeme token.Word (codes "else"), refl)

pub an_int : Spelled t.Int
unfolding terminal
an_int = (lexeme token.Word (codes "int"), refl)

pub a_float : Spelled t.Float
unfolding terminal
a_float = (lexeme token.Word (codes "float"), refl)

pub a_const : Spelled t.Const
unfolding terminal
a_const = (lexeme token.Word (codes "const"), refl)

pub a_void : Spelled t.Void
unfolding terminal
a_void = (lexeme token.Word (codes "void"), refl)

pub a_name : Spelled t.Name
unfolding terminal
a_name = (lexeme token.Word (codes "x"), refl)

pub a_context : Spelled t.Context
unfolding terminal
a_context = (lexeme token.Word (codes "context"), refl)

pub a_commutative : Spelled t.Commutative
unfolding terminal
a_commutative = (lexeme token.Word (codes "commutative"), refl)

pub an_output : Spelled t.Output
unfolding terminal
an_output = (lexeme token.Word (codes "output"), refl)

pub a_pragma_start : Spelled t.PragmaStart
unfolding terminal
a_pragma_start = (lexeme token.PragmaStart [], refl)

pub a_pragma_end : Spelled t.PragmaEnd
unfolding terminal
a_pragma_end = (lexeme token.PragmaEnd [], refl)

-- a name
pub named_token : (t : Lexeme) × (is_name (terminal t) ≡ true)
unfolding terminal
named_token = (lexeme token.Word (codes "x"), refl)
