-- Tokens that are spelled as their kinds say.
use Rattle.std.specs.Prelude.{◌≤◌, ℕ, List, length}
use Rattle.std.specs.List.{AllByRecursion}
use Rattle.ac_lex.specs.declared.tokens.TokenKind.{TokenKind}
use Rattle.ac_lex.specs.declared.tokens.TokenKind.TheVariants.{Word, Number, Decimal, Mark, PragmaStart, PragmaEnd}
use Rattle.ac_lex.specs.Lexemes.{Lexeme}
use Rattle.ac_lex.specs.Numerals.{IsNumber, IsDecimal}
use Rattle.ac_lex.specs.TextPieces.{IsPiece, mark}
use Rattle.ac_parse_roundtrip.specs.ProgramWords.{IsWord}

abbrev pub IsSpelledAs : TokenKind → List ℕ → Type 0
IsSpelledAs Word text = IsWord text
IsSpelledAs Number text = IsNumber text
IsSpelledAs Decimal text = IsDecimal text × (length text ≤ 64)
IsSpelledAs Mark text = IsPiece mark text
IsSpelledAs PragmaStart text = Unit {0}
IsSpelledAs PragmaEnd text = Unit {0}

abbrev pub IsSpelled : Lexeme → Type 0
IsSpelled token = IsSpelledAs token.kind token.text

abbrev pub AreSpelled : List Lexeme → Type 0
AreSpelled = AllByRecursion IsSpelled
