-- The first of some integers in the order 0, 1, -1, 2, -2, ..
use Rattle.std.specs.Prelude.{◌≡◌, ◌⊎◌, ℕ, ◌+◌, ◌*◌, ◌<◌, ◌≤◌, ℤ, pos, negsuc, List, [], ◌∷◌, length}
use Rattle.ac_forms.specs.ListMembers.{IsAmong}
use Rattle.ac_widen.specs.Combinations.{Each}

-- what they are ordered by: the absolute value, and the positive number first
abbrev pub rank : ℤ → ℕ
rank (pos n) = 2 * n
rank (negsuc n) = 2 * n + 3

-- each comes before those behind it
abbrev pub IsRising : List ℤ → Type 0
IsRising [] = Unit {0}
IsRising (x ∷ xs) = Each (λ y. rank x < rank y) xs × IsRising xs

-- the first of the numbers with P in order, up to a limit: where one is left out there are as many as the limit, all before it
pub record AreFirst (limit : ℕ) (P : ℤ → Type 0) (list : List ℤ) : Type 0 where
  pub rising : IsRising list
  pub few : length list ≤ limit
  pub among : Each P list
  pub all : (x : ℤ) → P x → IsAmong x list ⊎ ((length list ≡ limit) × Each (λ y. rank y < rank x) list)
