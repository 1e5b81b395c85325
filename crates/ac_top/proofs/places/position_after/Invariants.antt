use Rattle.std.proofs.Common.{◌≡◌, ◌+◌, ◌≤◌, ℕ, List, take, count_by, not}
use Rattle.std.specs.List.{suffix_len}
use Rattle.ac_top.specs.TextPlaces.{is_newline}
use Rattle.ac_top.proofs.places.position_after.Given as goal

-- the line and the column of the next byte
pub record Reached (bytes : List ℕ) (at line column : ℕ) : Type 0 where
  pub line_is : line ≡ 1 + count_by is_newline (take at bytes)
  pub column_is : column ≡ 1 + suffix_len (λ byte. not (is_newline byte)) (take at bytes)
  pub few_lines : line ≤ 1 + at
  pub few_columns : column ≤ 1 + at

abbrev pub invariant-loop-byte : goal.invariant-loop-byte
invariant-loop-byte l = Reached l.bytes l.byte-index l.line l.column
