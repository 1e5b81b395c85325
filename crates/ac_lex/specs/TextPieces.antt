-- The pieces that a text is cut into: white space, comments, names, runs of numerals and marks. The next piece is the longest
-- front of the text that is a piece (ISO/IEC 9899, 6.4, paragraph 4).
use Rattle.std.specs.Prelude.{◌≡◌, ◌≤◌, ◌<◌, ℕ, true, List, [], ◌∷◌, ◌++◌, length, codes}
use Rattle.std.specs.List.{AllPass}
use Rattle.ac_lex.specs.declared.tokens.TokenKind.{TokenKind}
use Rattle.ac_lex.specs.declared.tokens.TokenKind.TheVariants.{Word, Number, Decimal, Mark}
use Rattle.ac_lex.specs.Bytes.{is_one_of, is_white_byte, is_inside_line, is_letter, is_word_byte}
use Rattle.ac_lex.specs.Numerals.{IsRun, IsNumber, IsDecimal}

pub data Piece : Type 0 where
  white_space : Piece
  line_comment : Piece
  block_comment : Piece
  open_comment : Piece
  name : Piece
  numeral : Piece
  mark : Piece

-- a `*/` stands among the bytes
abbrev pub HasClose : List ℕ → Type 0
HasClose bytes = (before after : List ℕ) × (bytes ≡ before ++ (codes "*/" ++ after))

-- the texts of each kind of piece
pub data IsPiece : Piece → List ℕ → Type 0 where
  white : {b : ℕ} → is_white_byte b ≡ true → IsPiece white_space (b ∷ [])
  -- `//` and bytes up to the end of the line
  to_line_end : {inner : List ℕ} → AllPass is_inside_line inner → IsPiece line_comment (codes "//" ++ inner)
  -- `/*`, bytes, and the first `*/` after them
  closed : (inner : List ℕ) {text : List ℕ} → (HasClose (inner ++ codes "*") → ⊥) → text ≡ codes "/*" ++ (inner ++ codes "*/") → IsPiece block_comment text
  -- `/*` with no `*/` after it
  unclosed : {inner : List ℕ} → (HasClose inner → ⊥) → IsPiece open_comment (codes "/*" ++ inner)
  -- a letter or an underscore, followed by letters, digits and underscores
  named : {b : ℕ} {bytes : List ℕ} → is_letter b ≡ true → AllPass is_word_byte bytes → IsPiece name (b ∷ bytes)
  run : {text : List ℕ} → IsRun text → IsPiece numeral text
  -- ( ) [ ] { } , ; = + - * / % < >
  single : {b : ℕ} → is_one_of (codes "()[]{},;=+-*/%<>") b ≡ true → IsPiece mark (b ∷ [])
  -- += -= *= /= %= <= >= ==
  with_equals : {b : ℕ} → is_one_of (codes "+-*/%<>=") b ≡ true → IsPiece mark (b ∷ codes "=")
  -- ++ -- &&
  doubled : {b : ℕ} → is_one_of (codes "+-&") b ≡ true → IsPiece mark (b ∷ b ∷ [])

-- a text at the front of the bytes, than which no longer front is a piece of any kind
pub record IsNextPiece (piece : Piece) (text rest : List ℕ) : Type 0 where
  pub is : IsPiece piece text
  pub longest : (other : Piece) (longer more : List ℕ) → IsPiece other longer → text ++ rest ≡ longer ++ more → length longer ≤ length text

-- no front of the bytes is a piece
abbrev pub HasNoPiece : List ℕ → Type 0
HasNoPiece bytes = (piece : Piece) (text rest : List ℕ) → IsPiece piece text → bytes ≡ text ++ rest → ⊥

-- white space and comments give no token
pub data IsPassedOver : Piece → Type 0 where
  space : IsPassedOver white_space
  remark : IsPassedOver line_comment
  comment : IsPassedOver block_comment

-- the kind of token that a piece gives
pub data IsToken : TokenKind → Piece → List ℕ → Type 0 where
  a_word : {text : List ℕ} → length text ≤ 64 → IsToken Word name text
  a_number : {text : List ℕ} → IsNumber text → IsToken Number numeral text
  a_decimal : {text : List ℕ} → IsDecimal text → length text ≤ 64 → IsToken Decimal numeral text
  a_mark : {text : List ℕ} → IsToken Mark mark text

-- why a text is refused
pub data Why : Type 0 where
  bad_byte : Why
  bad_number : Why
  long_name : Why
  open_comment_begins : Why

-- the pieces that are refused
pub data IsRefused : Why → Piece → List ℕ → Type 0 where
  long_word : {text : List ℕ} → 64 < length text → IsRefused long_name name text
  long_decimal : {text : List ℕ} → IsDecimal text → 64 < length text → IsRefused long_name numeral text
  no_numeral : {text : List ℕ} → (IsNumber text → ⊥) → (IsDecimal text → ⊥) → IsRefused bad_number numeral text
  no_end : {text : List ℕ} → IsRefused open_comment_begins open_comment text
