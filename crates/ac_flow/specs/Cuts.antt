-- What is left of a case outside a kill piece: the case with further rows, of which none stands twice.
use Rattle.std.specs.Prelude.{◌≡◌, ◌⊎◌, ◌↔◌, ℕ, ℤ, List, [], ◌∷◌, ◌++◌, length, map, cond}
use Rattle.ac_forms.specs.Negation.{negation, HasExtension}
use Rattle.ac_forms.specs.PieceMembership.{IsInSome, IsInOneAtMost}
use Rattle.ac_forms.specs.Rows.{Meets}
use Rattle.ac_forms.specs.declared.conj.Conj.{Conj}
use Rattle.ac_forms.specs.declared.row.Row.{Row}
use Rattle.ac_omega_steps.specs.IntegerPoints.{IsPoint}
use Rattle.ac_forms.specs.Standing.{is_among}

-- the row behind the rows, unless it stands among them
abbrev pub with_new : List Row → Row → List Row
with_new rows r = cond (is_among r rows) rows (rows ++ r ∷ [])

abbrev pub with_all_new : List Row → List Row → List Row
with_all_new rows [] = rows
with_all_new rows (r ∷ rs) = with_all_new (with_new rows r) rs

-- what meets the rows too
abbrev pub inside : Conj → List Row → Conj
inside c rows = record { columns = c.columns; rows = with_all_new c.rows rows }

-- the rows of both, over the columns of the second
abbrev pub extended : Conj → Conj → Conj
extended c d = record { columns = d.columns; rows = with_all_new c.rows d.rows }

-- the parts in which the row fails; none where the row stands already
abbrev pub row_parts : Conj → Row → List Conj
row_parts c r = cond (is_among r c.rows) [] (map (extended c) (negation c.columns r))

abbrev pub after_row : Conj → Row → Conj
after_row c r = record { columns = c.columns; rows = with_new c.rows r }

-- for each row the points that meet all rows before it and not the row
abbrev pub parts_outside : Conj → List Row → List Conj
parts_outside c [] = []
parts_outside c (r ∷ rs) = row_parts c r ++ parts_outside (after_row c r) rs

abbrev pub HasPoint : Conj → Type 0
HasPoint c = (p : List ℤ) × IsPoint c p

-- of the parts those that have a point, in order
abbrev pub Sieved : List Conj → List Conj → Type 0
Sieved [] kept = kept ≡ []
Sieved (c ∷ cs) kept = ((¬ HasPoint c) × Sieved cs kept) ⊎ ((rest : List Conj) × (kept ≡ c ∷ rest) × HasPoint c × Sieved cs rest)

-- those behind the ones before
pub record AreKept (parts old new : List Conj) : Type 0 where
  pub more : List Conj
  pub is : new ≡ old ++ more
  pub sieved : Sieved parts more

-- those of the first of the parts
pub record ArePartlyKept (parts old new : List Conj) : Type 0 where
  pub done : List Conj
  pub rest : List Conj
  pub split : done ++ rest ≡ parts
  pub kept : AreKept done old new

-- no point of n columns is in two of the conjunctions
abbrev pub NoneMeet : ℕ → List Conj → Type 0
NoneMeet n cs = (p : List ℤ) → length p ≡ n → IsInOneAtMost HasExtension cs p

-- what is kept of a conjunction outside a kill piece: itself, where it does not meet it; else the parts that have a point
abbrev pub Cuts : Conj → List Row → List Conj → Type 0
Cuts c kill kept = ((¬ HasPoint (inside c kill)) × (kept ≡ c ∷ [])) ⊎ (HasPoint (inside c kill) × Sieved (parts_outside c kill) kept)

-- those behind the ones before
pub record AreCut (c : Conj) (kill : List Row) (old new : List Conj) : Type 0 where
  pub more : List Conj
  pub is : new ≡ old ++ more
  pub cut : Cuts c kill more

-- the same, or some of the parts where it meets the kill piece
abbrev pub IsPartlyCut : Conj → List Row → List Conj → List Conj → Type 0
IsPartlyCut c kill old new = AreCut c kill old new ⊎ (HasPoint (inside c kill) × ArePartlyKept (parts_outside c kill) old new)

-- what is kept of each of several
abbrev pub CutsAll : List Conj → List Row → List Conj → Type 0
CutsAll [] kill kept = kept ≡ []
CutsAll (c ∷ cs) kill kept = (first : List Conj) × (rest : List Conj) × (kept ≡ first ++ rest) × Cuts c kill first × CutsAll cs kill rest

-- those of all behind the ones before
pub record AreAllCut (pieces : List Conj) (kill : List Row) (old new : List Conj) : Type 0 where
  pub more : List Conj
  pub is : new ≡ old ++ more
  pub cut : CutsAll pieces kill more

-- some of them cut whole, the next one whole or in part
pub record ArePartlyCut (pieces : List Conj) (kill : List Row) (old new : List Conj) : Type 0 where
  pub before : List Conj
  pub at : Conj
  pub behind : List Conj
  pub split : before ++ at ∷ behind ≡ pieces
  pub mid : List Conj
  pub all : AreAllCut before kill old mid
  pub last : IsPartlyCut at kill mid new

-- each of the conjunctions has a point
abbrev pub AllHavePoints : List Conj → Type 0
AllHavePoints [] = Unit {0}
AllHavePoints (c ∷ cs) = HasPoint c × AllHavePoints cs

-- what is left of the first pieces: their points that do not meet the kill piece
pub record IsLeft (n : ℕ) (pieces : List Conj) (kill : List Row) (kept : List Conj) : Type 0 where
  pub points : (p : List ℤ) → length p ≡ n → IsInSome HasExtension kept p ↔ (IsInSome HasExtension pieces p × ¬ Meets kill p)
  pub each : AllHavePoints pieces → AllHavePoints kept
