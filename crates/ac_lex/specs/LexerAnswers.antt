-- What a call that lexes answers.
use Rattle.std.specs.Prelude.{◌≡◌, ℕ, List}
use Rattle.ac_lex.specs.declared.tokens.LexFault.{LexFault}
use Rattle.ac_lex.specs.declared.tokens.LexFault.TheVariants.{BadByte, BadNumber, LongName, OpenComment, Memory}
use Rattle.ac_lex.specs.Lexemes.{Lexeme}
use Rattle.ac_lex.specs.TextPieces.{Why, bad_byte, bad_number, long_name, open_comment_begins}
use Rattle.ac_lex.specs.Tokens.{AreTokens, IsFault}

-- a fault is of its kind, at its place; want of memory says nothing of the text
abbrev pub IsFaultBy : (Why → ℕ → Type 0) → LexFault → Type 0
IsFaultBy Stands (BadByte place) = Stands bad_byte place.at
IsFaultBy Stands (BadNumber place) = Stands bad_number place.at
IsFaultBy Stands (LongName place) = Stands long_name place.at
IsFaultBy Stands (OpenComment place) = Stands open_comment_begins place.at
IsFaultBy Stands (Memory fault) = Unit {0}

-- the fault that a text has
abbrev pub HasFault : List ℕ → LexFault → Type 0
HasFault bytes fault = IsFaultBy (IsFault bytes) fault

-- a text with a fault has no tokens
abbrev pub HasNoTokens : List ℕ → LexFault → Type 0
HasNoTokens bytes (Memory fault) = Unit {0}
HasNoTokens bytes fault = (tokens : List Lexeme) → AreTokens bytes tokens → ⊥

-- a text has at most one list of tokens
abbrev pub IsOnlyList : List ℕ → List Lexeme → Type 0
IsOnlyList bytes tokens = (others : List Lexeme) → AreTokens bytes others → others ≡ tokens
