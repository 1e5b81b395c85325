-- Directives: the lines whose first byte other than space and tab is `#`.
use Rattle.std.specs.Prelude.{◌≡◌, ◌≢◌, ◌+◌, ℕ, Bool, true, List, ◌++◌, length, take, drop, codes}
use Rattle.std.specs.List.{list_all, take_while, after_last}
use Rattle.ac_lex.specs.Bytes.{is_newline, is_indent, is_inside_line, is_gap, is_word_byte}

-- nothing but spaces and tabs stands before, on the line
abbrev pub is_line_start : List ℕ → Bool
is_line_start before = list_all is_indent (after_last is_newline before)

-- the bytes up to the line feed, or all where there is none
abbrev pub line_of : List ℕ → List ℕ
line_of bytes = take_while is_inside_line bytes

-- the word directly after the `#`
abbrev pub directive_word : List ℕ → List ℕ
directive_word line = take_while is_word_byte (drop 1 line)

-- the white space after `#pragma`
abbrev pub pragma_gap : List ℕ → List ℕ
pragma_gap line = take_while is_gap (drop (length (codes "#pragma")) line)

-- the next word of a `#pragma` line
abbrev pub pragma_word : List ℕ → List ℕ
pragma_word line = take_while is_word_byte (drop (length (codes "#pragma") + length (pragma_gap line)) line)

-- a directive stands at the front of the bytes
pub record StartsDirective (before bytes : List ℕ) : Type 0 where
  pub line_start : is_line_start before ≡ true
  pub hash : take 1 bytes ≡ codes "#"

-- line is a directive, up to its line feed or the end of the file
pub record IsDirective (before line rest : List ℕ) : Type 0 where
  pub starts : StartsDirective before line
  pub whole_line : line ≡ line_of (line ++ rest)

-- `#include` lines, and `#pragma` lines whose next word isn't `affine`
pub data IsSkipped (line : List ℕ) : Type 0 where
  include : directive_word line ≡ codes "include" → IsSkipped line
  other_pragma : directive_word line ≡ codes "pragma" → pragma_word line ≢ codes "affine" → IsSkipped line

-- a `#pragma affine` line: the text from the `#` through `affine`, and what follows it on the line
pub record IsAffinePragma (line start tail : List ℕ) : Type 0 where
  pub word : directive_word line ≡ codes "pragma"
  pub next_word : pragma_word line ≡ codes "affine"
  pub start_text : start ≡ take (length (codes "#pragma") + length (pragma_gap line) + length (codes "affine")) line
  pub parts : line ≡ start ++ tail

-- any other directive
pub record IsUnknown (line : List ℕ) : Type 0 where
  pub no_include : directive_word line ≢ codes "include"
  pub no_pragma : directive_word line ≢ codes "pragma"
