-- Rows that points meet, added to others.
use Rattle.std.specs.Prelude.{◌≡◌, ◌↔◌, ◌⊎◌, ◌<◌, ℕ, ℤ, List, unsigned_abs}
use Rattle.ac_forms.specs.ListMembers.{IsAmong}
use Rattle.ac_hull.specs.ColumnDifferences.{AllMeetRow, bound, class_of}
use Rattle.ac_hull.specs.declared.difference.Difference.{Difference}

-- the row, if all points meet it
abbrev pub AddsRow : List (List ℤ) → Difference → List Difference → List Difference → Type 0
AddsRow points row old new = (d : Difference) → IsAmong d new ↔ (IsAmong d old ⊎ ((d ≡ row) × AllMeetRow points d))

-- the bounds by some numbers
abbrev pub AddsBounds : List (List ℤ) → List ℤ → ℕ → ℕ → List Difference → List Difference → Type 0
AddsBounds points cs s t old new = (d : Difference) → IsAmong d new ↔ (IsAmong d old ⊎ (((c : ℤ) × IsAmong c cs × (d ≡ bound s t c)) × AllMeetRow points d))

-- the classes of a modulus below n
abbrev pub AddsClasses : List (List ℤ) → ℤ → ℕ → ℕ → ℕ → List Difference → List Difference → Type 0
AddsClasses points m n s t old new = (d : Difference) → IsAmong d new ↔ (IsAmong d old ⊎ (((c : ℕ) × (c < n) × (d ≡ class_of s t m c)) × AllMeetRow points d))

-- the classes of some moduli
abbrev pub AddsModuli : List (List ℤ) → List ℤ → ℕ → ℕ → List Difference → List Difference → Type 0
AddsModuli points ms s t old new = (d : Difference) → IsAmong d new ↔ (IsAmong d old ⊎ (((m : ℤ) × (c : ℕ) × IsAmong m ms × (c < unsigned_abs m) × (d ≡ class_of s t m c)) × AllMeetRow points d))
