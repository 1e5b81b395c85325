-- Where a byte of a text stands: its line and its column, in bytes and from 1.
use Rattle.std.specs.Prelude.{ℕ, ◌+◌, ◌==◌, List, ◌++◌, take, codes, decimal, count_by, Bool, not}
use Rattle.std.specs.List.{suffix_len}

abbrev pub is_newline : ℕ → Bool
is_newline byte = byte == 10

-- how many newlines stand before it, and one
abbrev pub line_of : List ℕ → ℕ → ℕ
line_of bytes at = 1 + count_by is_newline (take at bytes)

-- how many bytes stand between it and the last newline before it, or the start, and one
abbrev pub column_of : List ℕ → ℕ → ℕ
column_of bytes at = 1 + suffix_len (λ byte. not (is_newline byte)) (take at bytes)

-- NAME:L:C
abbrev pub place_text : List ℕ → List ℕ → ℕ → List ℕ
place_text name bytes at = name ++ codes ":" ++ decimal (line_of bytes at) ++ codes ":" ++ decimal (column_of bytes at)
