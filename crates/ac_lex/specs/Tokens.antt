-- The tokens of a text: the relation between the whole list of bytes and the list of tokens, and the first fault of a text that
-- has none.
use Rattle.std.specs.Prelude.{◌≡◌, ◌<◌, ◌≤◌, ◌+◌, ℕ, List, [], ◌∷◌, ◌++◌, length, take, drop}
use Rattle.ac_lex.specs.declared.tokens.TokenKind.{TokenKind}
use Rattle.ac_lex.specs.declared.tokens.TokenKind.TheVariants.{PragmaStart, PragmaEnd}
use Rattle.ac_lex.specs.Lexemes.{Lexeme}
use Rattle.ac_lex.specs.TextPieces.{Piece, IsNextPiece, HasNoPiece, IsPassedOver, IsToken, Why, bad_byte, IsRefused}
use Rattle.ac_lex.specs.Directives.{StartsDirective, IsDirective, IsSkipped, IsAffinePragma, IsUnknown}

-- one step after another over all the bytes: before is what was passed already, and each step takes a text from the front
pub data Sequence (Step : List ℕ → List ℕ → List ℕ → List Lexeme → Type 0) : List ℕ → List ℕ → List Lexeme → Type 0 where
  the_end : {before : List ℕ} → Sequence Step before [] []
  next : {before text rest : List ℕ} {tokens more : List Lexeme} → Step before text rest tokens → Sequence Step (before ++ text) rest more
      → Sequence Step before (text ++ rest) (tokens ++ more)

-- the first place at which a fault stands in place of a step
pub data FirstFault (Step : List ℕ → List ℕ → List ℕ → List Lexeme → Type 0) (Fault : List ℕ → List ℕ → Why → ℕ → Type 0)
    : List ℕ → List ℕ → Why → ℕ → Type 0 where
  here : {before bytes : List ℕ} {why : Why} {at : ℕ} → Fault before bytes why at → FirstFault Step Fault before bytes why at
  later : {before text rest : List ℕ} {tokens : List Lexeme} {why : Why} {at : ℕ} → Step before text rest tokens
      → FirstFault Step Fault (before ++ text) rest why at → FirstFault Step Fault before (text ++ rest) why at

-- a piece that is passed over, or a token of the piece's text at its place
pub data PieceStep (before text rest : List ℕ) : List Lexeme → Type 0 where
  passes : {piece : Piece} → IsNextPiece piece text rest → IsPassedOver piece → PieceStep before text rest []
  gives : {piece : Piece} {kind : TokenKind} → IsNextPiece piece text rest → IsToken kind piece text
      → PieceStep before text rest (record { kind = kind; at = length before; text = text } ∷ [])

-- a byte that begins no piece, or a piece that is refused, at its first byte
pub data PieceFault (before bytes : List ℕ) : Why → ℕ → Type 0 where
  no_piece : 0 < length bytes → HasNoPiece bytes → PieceFault before bytes bad_byte (length before)
  refused : {piece : Piece} {text rest : List ℕ} {why : Why} → bytes ≡ text ++ rest → IsNextPiece piece text rest → IsRefused why piece text
      → PieceFault before bytes why (length before)

-- the tokens of what follows `#pragma affine` on its line, where no directive stands
abbrev pub AreLineTokens : List ℕ → List ℕ → List Lexeme → Type 0
AreLineTokens = Sequence PieceStep

abbrev pub IsLineFault : List ℕ → List ℕ → Why → ℕ → Type 0
IsLineFault = FirstFault PieceStep PieceFault

-- The first token of a `#pragma affine` line is its start; the last is empty, at the end of the line.
abbrev pub pragma_tokens : List ℕ → List ℕ → List ℕ → List Lexeme → List Lexeme
pragma_tokens before start line inner =
    record { kind = PragmaStart; at = length before; text = start } ∷ (inner ++ record { kind = PragmaEnd; at = length (before ++ line); text = [] } ∷ [])

-- a piece, a line that is skipped, or a `#pragma affine` line
pub data FileStep (before text rest : List ℕ) : List Lexeme → Type 0 where
  piece_step : {tokens : List Lexeme} → PieceStep before text rest tokens → FileStep before text rest tokens
  skipped : IsDirective before text rest → IsSkipped text → FileStep before text rest []
  affine_pragma : {start tail : List ℕ} {inner : List Lexeme} → IsDirective before text rest → IsAffinePragma text start tail
      → AreLineTokens (before ++ start) tail inner → FileStep before text rest (pragma_tokens before start text inner)

-- a fault of a piece outside directives, a directive that is unknown, or a fault in what follows `#pragma affine`
pub data FileFault (before bytes : List ℕ) : Why → ℕ → Type 0 where
  piece_fault : {why : Why} {at : ℕ} → (StartsDirective before bytes → ⊥) → PieceFault before bytes why at → FileFault before bytes why at
  unknown : {line rest : List ℕ} → bytes ≡ line ++ rest → IsDirective before line rest → IsUnknown line → FileFault before bytes bad_byte (length before)
  in_pragma : {line rest start tail : List ℕ} {why : Why} {at : ℕ} → bytes ≡ line ++ rest → IsDirective before line rest → IsAffinePragma line start tail
      → IsLineFault (before ++ start) tail why at → FileFault before bytes why at

-- the tokens of a text
abbrev pub AreTokens : List ℕ → List Lexeme → Type 0
AreTokens bytes tokens = Sequence FileStep [] bytes tokens

-- why a text has no tokens, and the place
abbrev pub IsFault : List ℕ → Why → ℕ → Type 0
IsFault bytes why at = FirstFault FileStep FileFault [] bytes why at

-- each text is the slice of the bytes at its place, and none begins before the end of the one before it
abbrev pub AreSlices : List ℕ → ℕ → List Lexeme → Type 0
AreSlices bytes from [] = Unit {0}
AreSlices bytes from (t ∷ tokens) =
    (from ≤ t.at) × (take (length t.text) (drop t.at bytes) ≡ t.text) × AreSlices bytes (t.at + length t.text) tokens
