-- The template rows that points meet, gathered pair by pair of columns.
use Rattle.std.specs.Prelude.{◌⊎◌, ◌<◌, ℕ, ℤ, List}
use Rattle.ac_forms.specs.ListMembers.{IsAmong}
use Rattle.ac_hull.specs.ColumnDifferences.{AllMeetRow, IsOfPair, RestsOn}
use Rattle.ac_hull.specs.declared.difference.Difference.{Difference}

-- to the rows come some with P, and each row with P rests on those that are there then
pub record Gathers (points : List (List ℤ)) (P : Difference → Type 0) (old new : List Difference) : Type 0 where
  pub stay : (d : Difference) → IsAmong d old → IsAmong d new
  pub among : (d : Difference) → IsAmong d new → IsAmong d old ⊎ P d
  pub rests : (d : Difference) → P d → RestsOn points new d

-- the met rows of two columns
abbrev pub OfPair : List ℤ → List ℤ → List (List ℤ) → ℕ → ℕ → Difference → Type 0
OfPair thresholds moduli points s t d = IsOfPair thresholds moduli s t d × AllMeetRow points d

-- with the second column below n
abbrev pub OfFirst : List ℤ → List ℤ → List (List ℤ) → ℕ → ℕ → Difference → Type 0
OfFirst thresholds moduli points s n d = (t : ℕ) × (t < n) × OfPair thresholds moduli points s t d

-- with the first column below k too
abbrev pub OfFirsts : List ℤ → List ℤ → List (List ℤ) → ℕ → ℕ → Difference → Type 0
OfFirsts thresholds moduli points n k d = (s : ℕ) × (s < k) × OfFirst thresholds moduli points s n d
