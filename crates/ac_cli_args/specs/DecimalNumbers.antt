-- Numbers as words, in decimal digits without leading zeros.
use Rattle.std.specs.Prelude.{◌≡◌, ◌≤◌, ℕ, ℤ, pos, neg_ℤ, List, ◌∷◌, Option, None, Some, decimal, FitsSigned}
use Rattle.std.specs.Int.{w64}

-- an integer's digits, with a minus in front where it is not positive; so 0 has two spellings
pub data Spells : List ℕ → ℤ → Type 0 where
  natural : (n : ℕ) → Spells (decimal n) (pos n)
  opposite : (n : ℕ) → Spells (45 ∷ decimal n) (neg_ℤ (pos n))

-- an integer of 64 bits with a sign
pub record IsInteger (text : List ℕ) (value : ℤ) : Type 0 where
  pub spelled : Spells text value
  pub fits : FitsSigned w64 value

-- a number from one number to another
pub record IsNumberIn (least greatest : ℕ) (text : List ℕ) (n : ℕ) : Type 0 where
  pub spelled : text ≡ decimal n
  pub at_least : least ≤ n
  pub at_most : n ≤ greatest

-- a number from 1 to 1,000,000
abbrev pub IsLimitText : List ℕ → ℕ → Type 0
IsLimitText = IsNumberIn 1 1000000

-- such a number, or what stands where no text gives one
abbrev pub IsLimitOr : ℕ → Option (List ℕ) → ℕ → Type 0
IsLimitOr otherwise None limit = limit ≡ otherwise
IsLimitOr otherwise (Some text) limit = IsLimitText text limit

-- a number of 64 bits
abbrev pub IsSeed : List ℕ → ℕ → Type 0
IsSeed = IsNumberIn 0 18446744073709551615

-- a number from 1 to 12
abbrev pub IsSize : List ℕ → ℕ → Type 0
IsSize = IsNumberIn 1 12
