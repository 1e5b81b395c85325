-- What named files hold: a finite map from names to bytes. It is an option where an implementation need not tell it.
use Rattle.std.specs.Prelude.{◌≡◌, ◌≢◌, ◌<◌, ◌++◌, ℕ, List, length, take, drop, Option, Some, None, IsSomeAnd}
use Rattle.std.specs.Ordering.{nat_cmp}
use Rattle.std.specs.Cmp.Lexicographic.{slice_cmp}
use Rattle.std.specs.FinMap.{FinMap, get}

-- the bytes of each name
abbrev pub Contents : Type 0
Contents = FinMap (slice_cmp nat_cmp) (List ℕ)

-- the named file is there, with more bytes than the limit
abbrev pub IsTooBig : Contents → List ℕ → ℕ → Type 0
IsTooBig files name limit = IsSomeAnd (get files name) (λ bytes. limit < length bytes)

-- the bytes of a file from a place on, as many as there is room for
abbrev pub part_of : List ℕ → ℕ → ℕ → List ℕ
part_of bytes from room = take room (drop from bytes)

-- so many bytes of a file, from a place on, stand in front of what was there before: all that fit and are left
pub record IsPart (bytes : List ℕ) (from : ℕ) (before now : List ℕ) (count : ℕ) : Type 0 where
  pub all : count ≡ length (part_of bytes from (length before))
  pub copied : now ≡ part_of bytes from (length before) ++ drop count before

-- told at both moments or at neither, and each file but the named one is as it was
abbrev pub IsSameBut : List ℕ → Option Contents → Option Contents → Type 0
IsSameBut name None None = Unit {0}
IsSameBut name (Some before) (Some now) = (other : List ℕ) → other ≢ name → get now other ≡ get before other
IsSameBut name None (Some now) = ⊥
IsSameBut name (Some before) None = ⊥
