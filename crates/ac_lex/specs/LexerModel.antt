-- How the code reads: functions on lists, one for each function of the code. No public contract speaks of them.
use Rattle.std.specs.Prelude.{ℕ, suc, ◌+◌, Bool, true, false, not, ◌&&◌, ◌||◌, ◌==◌, nat_lt, if◌then◌else◌, List, [], ◌∷◌, ◌++◌, ◌≡◌, ◌≤◌, length, take, drop, codes, Option, Some, None}
use Rattle.std.specs.Str.{bytes_eq}
use Rattle.std.specs.Prelude.{alloc_error}
use Rattle.std.specs.List.{prefix_len, list_all}
use Rattle.ac_lex.specs.declared.tokens.TokenKind.{TokenKind}
use Rattle.ac_lex.specs.declared.tokens.TokenKind.TheVariants.{Word, Number, Decimal, Mark}
use Rattle.ac_lex.specs.declared.front.Front.{Front}
use Rattle.ac_lex.specs.declared.front.Front.TheVariants as f
use Rattle.ac_lex.specs.declared.front.Refusal.{Refusal}
use Rattle.ac_lex.specs.declared.front.Refusal.TheVariants as r
use Rattle.ac_lex.specs.declared.directives.Directive.{Directive}
use Rattle.ac_lex.specs.declared.directives.Directive.TheVariants as d
use Rattle.ac_lex.specs.declared.tokens.LexFault.{LexFault}
use Rattle.ac_lex.specs.declared.tokens.LexFault.TheVariants as e
use Rattle.ac_lex.specs.Lexemes.{Lexeme}
use Rattle.ac_lex.specs.Directives.{IsDirective, IsSkipped, IsAffinePragma, IsUnknown}
use Rattle.ac_lex.specs.Tokens.{PieceStep, PieceFault, AreLineTokens, IsLineFault, FileStep, FileFault}
use Rattle.ac_lex.specs.Bytes.{is_newline, is_indent, is_gap, is_one_of, is_white_byte, is_inside_line, is_letter, is_digit, is_word_byte, is_exponent_letter, is_sign, is_suffix_letter}
use Rattle.ac_lex.specs.Numerals.{continues}
use Rattle.ac_lex.specs.TextPieces.{Why, bad_byte, bad_number, long_name, open_comment_begins}

unfoldable pub digit_count : List ℕ → ℕ
digit_count bytes = prefix_len is_digit bytes

unfoldable pub after_digits : List ℕ → List ℕ
after_digits bytes = drop (digit_count bytes) bytes

abbrev pub is_suffix : List ℕ → Bool
is_suffix [] = true
is_suffix (b ∷ []) = is_suffix_letter b
is_suffix (b ∷ c ∷ bytes) = false

unfoldable pub ends_in_digits : List ℕ → Bool
ends_in_digits bytes = nat_lt 0 (digit_count bytes) && is_suffix (after_digits bytes)

abbrev pub past_sign : List ℕ → List ℕ
past_sign [] = []
past_sign (b ∷ bytes) = if is_sign b then bytes else b ∷ bytes

abbrev pub ends_in_exponent : List ℕ → Bool
ends_in_exponent [] = false
ends_in_exponent (e ∷ bytes) = is_exponent_letter e && ends_in_digits (past_sign bytes)

abbrev pub ends_in_fraction : ℕ → List ℕ → Bool
ends_in_fraction whole bytes =
    (nat_lt 0 whole || nat_lt 0 (digit_count bytes)) && (is_suffix (after_digits bytes) || ends_in_exponent (after_digits bytes))

abbrev pub is_decimal_after : ℕ → List ℕ → Bool
is_decimal_after whole [] = false
is_decimal_after whole (b ∷ bytes) = if b == 46 then ends_in_fraction whole bytes else (nat_lt 0 whole && ends_in_exponent (b ∷ bytes))

unfoldable pub is_decimal : List ℕ → Bool
is_decimal text = is_decimal_after (digit_count text) (after_digits text)

unfoldable pub is_number : List ℕ → Bool
is_number [] = false
is_number (d ∷ []) = is_digit d
is_number (d ∷ e ∷ bytes) = not (d == 48) && list_all is_digit (d ∷ e ∷ bytes)

-- how far a run goes on after a byte
abbrev pub run_len : ℕ → List ℕ → ℕ
run_len before [] = 0
run_len before (b ∷ bytes) = if continues before b then suc (run_len b bytes) else 0

abbrev pub plus : ℕ → Option ℕ → Option ℕ
plus n None = None
plus n (Some k) = Some (n + k)

-- how many bytes there are through the first `*/`, where before stands in front of them
abbrev pub close_end : ℕ → List ℕ → Option ℕ
close_end before [] = None
close_end before (b ∷ bytes) = if before == 42 && b == 47 then Some 1 else plus 1 (close_end b bytes)

unfoldable pub word_len : List ℕ → ℕ
word_len bytes = prefix_len is_word_byte bytes

unfoldable pub line_len : List ℕ → ℕ
line_len bytes = prefix_len is_inside_line bytes

-- what stands at the front of the bytes, and the bytes after it
pub data Seen : Type 0 where
  nothing : Seen
  over : List ℕ → Seen
  text : TokenKind → List ℕ → List ℕ → Seen
  bad : Why → Seen

abbrev pub why_of : Refusal → Why
why_of r.Byte = bad_byte
why_of r.Number = bad_number
why_of r.Long = long_name
why_of r.Open = open_comment_begins

abbrev pub seen : Front → Seen
seen f.Nothing = nothing
seen (f.Over rest) = over rest.now
seen (f.Text kind t rest) = text kind t.now rest.now
seen (f.Bad refusal) = bad (why_of refusal)

-- the first n bytes as a token
abbrev pub cut : TokenKind → ℕ → List ℕ → Seen
cut kind n bytes = text kind (take n bytes) (drop n bytes)

unfoldable pub name_at : List ℕ → Seen
name_at bytes = if nat_lt 64 (word_len bytes) then bad long_name else cut Word (word_len bytes) bytes

unfoldable pub numeral_of : ℕ → List ℕ → Seen
numeral_of n bytes =
    if is_number (take n bytes) then cut Number n bytes
    else (if is_decimal (take n bytes) then (if nat_lt 64 n then bad long_name else cut Decimal n bytes) else bad bad_number)

abbrev pub pointed_run : List ℕ → ℕ
pointed_run [] = 0
pointed_run (b ∷ bytes) = if is_digit b then 2 + run_len b bytes else 0

unfoldable pub run_at : List ℕ → ℕ
run_at [] = 0
run_at (a ∷ bytes) = if is_digit a then 1 + run_len a bytes else (if a == 46 then pointed_run bytes else 0)

abbrev pub comment_by : List ℕ → Option ℕ → Seen
comment_by inner None = bad open_comment_begins
comment_by inner (Some n) = over (drop n inner)

unfoldable pub comment_at : List ℕ → Seen
comment_at inner = comment_by inner (close_end 0 inner)

abbrev pub is_single_mark : ℕ → Bool
is_single_mark a = is_one_of (codes "()[]{},;=+-*/%<>") a

abbrev pub is_double_mark : ℕ → ℕ → Bool
is_double_mark a b = (b == 61 && is_one_of (codes "+-*/%<>=") a) || (a == b && is_one_of (codes "+-&") a)

abbrev pub mark_len : List ℕ → ℕ
mark_len [] = 0
mark_len (a ∷ []) = if is_single_mark a then 1 else 0
mark_len (a ∷ b ∷ bytes) = if is_double_mark a b then 2 else (if is_single_mark a then 1 else 0)

unfoldable pub mark_at : List ℕ → Seen
mark_at bytes = if mark_len bytes == 0 then bad bad_byte else cut Mark (mark_len bytes) bytes

abbrev pub other_two : ℕ → ℕ → List ℕ → Seen
other_two a b bytes =
    if a == 47 && b == 47 then over (drop (line_len (a ∷ b ∷ bytes)) (a ∷ b ∷ bytes))
    else (if a == 47 && b == 42 then comment_at bytes else mark_at (a ∷ b ∷ bytes))

-- a comment or a mark
unfoldable pub other_at : List ℕ → Seen
other_at [] = mark_at []
other_at (a ∷ []) = mark_at (a ∷ [])
other_at (a ∷ b ∷ bytes) = other_two a b bytes

abbrev pub front_at : ℕ → List ℕ → Seen
front_at a bytes =
    if is_white_byte a then over bytes
    else (if is_letter a then name_at (a ∷ bytes)
    else (if nat_lt 0 (run_at (a ∷ bytes)) then numeral_of (run_at (a ∷ bytes)) (a ∷ bytes)
    else other_at (a ∷ bytes)))

unfoldable pub front : List ℕ → Seen
front [] = nothing
front (a ∷ bytes) = front_at a bytes

unfoldable pub gap_len : List ℕ → ℕ
gap_len bytes = prefix_len is_gap bytes

unfoldable pub word_of : List ℕ → List ℕ
word_of bytes = take (word_len bytes) bytes

-- which directive a pragma is, by what follows `#pragma` on its line
abbrev pub pragma_of : List ℕ → Directive
pragma_of after = if bytes_eq (word_of (drop (gap_len after) after)) (codes "affine") then d.Affine (13 + gap_len after) else d.Skipped

-- which directive a line is, by what follows the `#`
abbrev pub directive_of : List ℕ → Directive
directive_of rest =
    if bytes_eq (word_of rest) (codes "include") then d.Skipped
    else (if bytes_eq (word_of rest) (codes "pragma") then pragma_of (drop (word_len rest) rest) else d.Unknown)

-- whether nothing but spaces and tabs stands before, after a piece that begins with a byte
abbrev pub next_line_start : Bool → ℕ → Bool
next_line_start line_start first = is_newline first || (is_indent first && line_start)

abbrev pub fault_of : Refusal → ℕ → LexFault
fault_of r.Byte at = e.BadByte (record { at = at })
fault_of r.Number at = e.BadNumber (record { at = at })
fault_of r.Long at = e.LongName (record { at = at })
fault_of r.Open at = e.OpenComment (record { at = at })

-- one piece was read from the front of the bytes, where the tokens were old and are new
pub record ReadsPiece (at : ℕ) (bytes rest : List ℕ) (old new : List Lexeme) : Type 0 where
  pub piece : List ℕ
  pub added : List Lexeme
  pub parts : bytes ≡ piece ++ rest
  pub step : (before : List ℕ) → length before ≡ at → PieceStep before piece rest added
  pub tokens : new ≡ old ++ added

-- what follows `#pragma affine` was read to the end of the line
pub record ReadsLine (at : ℕ) (line : List ℕ) (old new : List Lexeme) : Type 0 where
  pub added : List Lexeme
  pub step : (before : List ℕ) → length before ≡ at → AreLineTokens before line added
  pub tokens : new ≡ old ++ added

-- a directive was read
pub record ReadsDirective (at : ℕ) (line : List ℕ) (old new : List Lexeme) : Type 0 where
  pub added : List Lexeme
  pub step : (before rest : List ℕ) → length before ≡ at → IsDirective before line rest → FileStep before line rest added
  pub tokens : new ≡ old ++ added

abbrev pub PieceFaultAt : ℕ → List ℕ → Why → ℕ → Type 0
PieceFaultAt at bytes why place = (before : List ℕ) → length before ≡ at → PieceFault before bytes why place

abbrev pub LineFaultAt : ℕ → List ℕ → Why → ℕ → Type 0
LineFaultAt at line why place = (before : List ℕ) → length before ≡ at → IsLineFault before line why place

abbrev pub DirectiveFaultAt : ℕ → List ℕ → Why → ℕ → Type 0
DirectiveFaultAt at line why place = (before rest : List ℕ) → length before ≡ at → IsDirective before line rest → FileFault before (line ++ rest) why place

abbrev pub IsMemory : LexFault → Type 0
IsMemory fault = fault ≡ e.Memory alloc_error

-- a directive is of a kind; through `affine` it has that many bytes
abbrev pub IsOfKind : List ℕ → Directive → Type 0
IsOfKind line d.Skipped = IsSkipped line
IsOfKind line (d.Affine n) = IsAffinePragma line (take n line) (drop n line) × (n ≤ length line)
IsOfKind line d.Unknown = IsUnknown line

-- whether a directive stands where the next byte is first
abbrev pub starts_directive : Bool → ℕ → Bool
starts_directive line_start first = line_start && first == 35
