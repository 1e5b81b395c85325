-- A text has a fault or spells a schedule, and not both.
use Rattle.std.specs.Prelude.{ℕ, ◌<◌, ◌^◌, List}
use Rattle.std.specs.List.{AllByRecursion}
use Rattle.ac_forms.specs.Affine.{Affine}
use Rattle.ac_poly.specs.declared.types.Model.{Model}
use Rattle.ac_legal_text.specs.LineKinds.{HasFault}
use Rattle.ac_legal_text.specs.OrderTexts.{Spells, columns_of}

-- each assignment has fewer than 2^64 columns
abbrev pub HasFewColumns : Model → Type 0
HasFewColumns m = AllByRecursion (λ n. n < 2 ^ 64) (columns_of m)

-- a text with a fault spells no schedule
abbrev pub FaultsSpellNothing : Type 0
FaultsSpellNothing = (m : Model) (text : List ℕ) (number : ℕ) (times : List (List Affine)) → HasFewColumns m → HasFault m text number → ¬ (Spells m text times)
