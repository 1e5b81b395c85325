-- What the bytes alone determine.
use Rattle.std.specs.Prelude.{◌≡◌, ℕ, List}
use Rattle.ac_lex.specs.Lexemes.{Lexeme}
use Rattle.ac_lex.specs.TextPieces.{Why}
use Rattle.ac_lex.specs.Tokens.{AreTokens, IsFault}

-- a text has at most one list of tokens
abbrev pub HasOneList : Type 0
HasOneList = (bytes : List ℕ) (tokens others : List Lexeme) → AreTokens bytes tokens → AreTokens bytes others → tokens ≡ others

-- a text has at most one first fault, of one kind
abbrev pub HasOneFault : Type 0
HasOneFault = (bytes : List ℕ) (why why' : Why) (at at' : ℕ) → IsFault bytes why at → IsFault bytes why' at' → (why ≡ why') × (at ≡ at')

-- no text has both
abbrev pub HasNotBoth : Type 0
HasNotBoth = (bytes : List ℕ) (tokens : List Lexeme) (why : Why) (at : ℕ) → AreTokens bytes tokens → IsFault bytes why at → ⊥
