-- Words at the front of a text: bytes above the blank, and what ends them.
use Rattle.std.specs.Prelude.{ℕ, ◌<◌, ◌≤◌, List, [], ◌∷◌}
use Rattle.std.specs.List.{AllByRecursion}

-- bytes above the blank
abbrev pub IsInk : List ℕ → Type 0
IsInk = AllByRecursion (λ b. 32 < b)

-- the end of the text, or a byte up to the blank
abbrev pub IsEnd : List ℕ → Type 0
IsEnd [] = Unit {0}
IsEnd (b ∷ bs) = b ≤ 32
