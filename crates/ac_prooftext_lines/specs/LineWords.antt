-- The words of a line, which are joined by one blank.
use Rattle.std.specs.Prelude.{◌≡◌, ℕ, ◌==◌, false, List, [], ◌++◌, Option, Some, None, codes}
use Rattle.std.specs.List.{slice_split, join_by, flat_map, AllByRecursion}

-- the line that words make
abbrev pub line_of : List (List ℕ) → List ℕ
line_of = join_by (λ word. word) (codes " ")

-- words that stand behind another, each behind a blank
abbrev pub further : List (List ℕ) → List ℕ
further = flat_map (λ word. codes " " ++ word)

-- the words of a line: what stands between its blanks
abbrev pub words_in : List ℕ → List (List ℕ)
words_in = slice_split (λ b. b == 32)

-- the words of what is left of a line, none at its end
abbrev pub words_left : Option (List ℕ) → List (List ℕ)
words_left None = []
words_left (Some text) = words_in text

-- a text without this byte
abbrev pub IsFree : ℕ → List ℕ → Type 0
IsFree mark = AllByRecursion (λ b. (b == mark) ≡ false)
