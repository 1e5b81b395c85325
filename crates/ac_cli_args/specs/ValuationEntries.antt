-- Lists of `name=integer`, joined by commas.
use Rattle.std.specs.Prelude.{◌≡◌, ℕ, ℤ, List, [], ◌∷◌, ◌++◌, false, ◌==◌}
use Rattle.std.specs.List.{list_any, slice_split}
use Rattle.ac_cli_args.specs.DecimalNumbers.{IsInteger}
use Rattle.ac_cli_args.specs.declared.parts.Given.{Given as Entry}

-- a name and the integer that is given to it
pub record Given : Type 0 where
  pub name : List ℕ
  pub value : ℤ

-- the parts between the commas; a word without bytes has none
abbrev pub parts_of : List ℕ → List (List ℕ)
parts_of [] = []
parts_of (b ∷ bs) = slice_split (λ c. c == 44) (b ∷ bs)

-- a name without `=`, then `=`, then an integer
pub record IsEntry (part : List ℕ) (given : Given) : Type 0 where
  pub digits : List ℕ
  pub spelled : part ≡ given.name ++ 61 ∷ digits
  pub plain : list_any (λ c. c == 61) given.name ≡ false
  pub integer : IsInteger digits given.value

-- each part is an entry
abbrev pub AreEntries : List (List ℕ) → List Given → Type 0
AreEntries [] [] = Unit {0}
AreEntries [] (g ∷ gs) = ⊥
AreEntries (part ∷ parts) [] = ⊥
AreEntries (part ∷ parts) (g ∷ gs) = IsEntry part g × AreEntries parts gs

-- a text is cut at the first byte that is this one
pub record IsCut (byte : ℕ) (text before after : List ℕ) : Type 0 where
  pub joined : text ≡ before ++ byte ∷ after
  pub first : list_any (λ c. c == byte) before ≡ false

-- a name and an integer as plain data
abbrev pub plain : Entry → Given
plain g = record { name = g.name.now; value = g.value }
