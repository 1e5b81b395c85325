-- The terminals of the tokens of canonical texts.
use Rattle.std.specs.Prelude.{true, codes}
use Rattle.std.specs.Fmt.{decimal}
use Rattle.std.specs.Str.Parse.{AllDigits}
use Rattle.std.proofs.Common.{◌≡◌, ℕ, ◌≤◌, ◌^◌, List, [], ap, refl, arith}
use Rattle.std.proofs.lemmas.Str.Parse.{numerals_by_fold, tells_digits}
use Rattle.std.proofs.lemmas.Fmt.{digits_value-decimal}
use Rattle.ac_lex.specs.Lexemes.{Lexeme}
use Rattle.ac_lex.specs.declared.tokens.TokenKind.TheVariants as kind
use Rattle.ac_parse_grammar.specs.declared.terminal.Terminal.TheVariants as t
use Rattle.ac_parse_grammar.specs.Terminals.{terminal, terminal_by, is_name}
use Rattle.ac_parse_grammar.specs.TokenWords.{spelled, numeral_of}
use Rattle.ac_parse_roundtrip.specs.Items.{lexeme, pragma_text}
use Rattle.ac_parse_roundtrip.specs.GrammarPrograms.{IsName}

abbrev pub mark_at : ℕ → List ℕ → Lexeme
mark_at at text = lexeme kind.Mark at text

abbrev pub word_at : ℕ → List ℕ → Lexeme
word_at at text = lexeme kind.Word at text

abbrev pub number_at : ℕ → ℕ → Lexeme
number_at at n = lexeme kind.Number at (decimal n)

-- ---- marks

pub open_is : (at : ℕ) → terminal (mark_at at (codes "(")) ≡ t.Open
unfolding terminal
open_is at = refl

pub close_is : (at : ℕ) → terminal (mark_at at (codes ")")) ≡ t.Close
unfolding terminal
close_is at = refl

pub open_bracket_is : (at : ℕ) → terminal (mark_at at (codes "[")) ≡ t.OpenBracket
unfolding terminal
open_bracket_is at = refl

pub close_bracket_is : (at : ℕ) → terminal (mark_at at (codes "]")) ≡ t.CloseBracket
unfolding terminal
close_bracket_is at = refl

pub open_brace_is : (at : ℕ) → terminal (mark_at at (codes "{")) ≡ t.OpenBrace
unfolding terminal
open_brace_is at = refl

pub close_brace_is : (at : ℕ) → terminal (mark_at at (codes "}")) ≡ t.CloseBrace
unfolding terminal
close_brace_is at = refl

pub comma_is : (at : ℕ) → terminal (mark_at at (codes ",")) ≡ t.Comma
unfolding terminal
comma_is at = refl

pub semicolon_is : (at : ℕ) → terminal (mark_at at (codes ";")) ≡ t.Semicolon
unfolding terminal
semicolon_is at = refl

pub becomes_is : (at : ℕ) → terminal (mark_at at (codes "=")) ≡ t.Becomes
unfolding terminal
becomes_is at = refl

pub plus_becomes_is : (at : ℕ) → terminal (mark_at at (codes "+=")) ≡ t.PlusBecomes
unfolding terminal
plus_becomes_is at = refl

pub minus_becomes_is : (at : ℕ) → terminal (mark_at at (codes "-=")) ≡ t.MinusBecomes
unfolding terminal
minus_becomes_is at = refl

pub plus_is : (at : ℕ) → terminal (mark_at at (codes "+")) ≡ t.Plus
unfolding terminal
plus_is at = refl

pub minus_is : (at : ℕ) → terminal (mark_at at (codes "-")) ≡ t.Minus
unfolding terminal
minus_is at = refl

pub star_is : (at : ℕ) → terminal (mark_at at (codes "*")) ≡ t.Star
unfolding terminal
star_is at = refl

pub slash_is : (at : ℕ) → terminal (mark_at at (codes "/")) ≡ t.Slash
unfolding terminal
slash_is at = refl

pub percent_is : (at : ℕ) → terminal (mark_at at (codes "%")) ≡ t.Percent
unfolding terminal
percent_is at = refl

pub at_least_is : (at : ℕ) → terminal (mark_at at (codes ">=")) ≡ t.AtLeast
unfolding terminal
at_least_is at = refl

pub equal_is : (at : ℕ) → terminal (mark_at at (codes "==")) ≡ t.Equal
unfolding terminal
equal_is at = refl

pub and_is : (at : ℕ) → terminal (mark_at at (codes "&&")) ≡ t.And
unfolding terminal
and_is at = refl

-- ---- words

pub for_is : (at : ℕ) → terminal (word_at at (codes "for")) ≡ t.For
unfolding terminal
for_is at = refl

pub if_is : (at : ℕ) → terminal (word_at at (codes "if")) ≡ t.If
unfolding terminal
if_is at = refl

pub else_is : (at : ℕ) → terminal (word_at at (codes "else")) ≡ t.Else
unfolding terminal
else_is at = refl

pub int_is : (at : ℕ) → terminal (word_at at (codes "int")) ≡ t.Int
unfolding terminal
int_is at = refl

pub double_is : (at : ℕ) → terminal (word_at at (codes "double")) ≡ t.Double
unfolding terminal
double_is at = refl

pub void_is : (at : ℕ) → terminal (word_at at (codes "void")) ≡ t.Void
unfolding terminal
void_is at = refl

pub context_is : (at : ℕ) → terminal (word_at at (codes "context")) ≡ t.Context
unfolding terminal
context_is at = refl

pub commutative_is : (at : ℕ) → terminal (word_at at (codes "commutative")) ≡ t.Commutative
unfolding terminal
commutative_is at = refl

pub output_is : (at : ℕ) → terminal (word_at at (codes "output")) ≡ t.Output
unfolding terminal
output_is at = refl

pub floord_is : (at : ℕ) → terminal (word_at at (codes "floord")) ≡ t.Floord
unfolding terminal
floord_is at = refl

pub name_is : (at : ℕ) (name : List ℕ) → IsName name → is_name (terminal (word_at at name)) ≡ true
unfolding terminal
name_is at name h = h

-- ---- numbers, decimals and the ends of pragma lines

pub number_is : (at n : ℕ) → terminal (number_at at n) ≡ t.Number
unfolding terminal
number_is at n = refl

pub decimal_is : (at : ℕ) (text : List ℕ) → terminal_by kind.Decimal text ≡ t.Decimal → terminal (lexeme kind.Decimal at text) ≡ t.Decimal
unfolding terminal
decimal_is at text h = h

pub pragma_start_is : (at : ℕ) → terminal (lexeme kind.PragmaStart at pragma_text) ≡ t.PragmaStart
unfolding terminal
pragma_start_is at = refl

pub pragma_end_is : (at : ℕ) → terminal (lexeme kind.PragmaEnd at []) ≡ t.PragmaEnd
unfolding terminal
pragma_end_is at = refl

spelled_decimal : (n : ℕ) → n ≤ 2 ^ 31 → spelled 0 (decimal n) ≡ n
spelled_decimal n small =
    digits_value-decimal (numerals_by_fold (AllDigits 10) tells_digits spelled (record { empty = λ n. refl; more = λ n c cs k. ap (λ m. spelled m cs) (omega arith) })) n (omega arith)

pub numeral_is : (at n : ℕ) → n ≤ 2 ^ 31 → (numeral_of (number_at at n)).number ≡ n
numeral_is at n small = omega (arith, spelled_decimal n small)
