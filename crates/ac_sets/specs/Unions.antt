-- Unions of conjunctions over visible columns. What columns a piece has behind the visible ones are its quotients.
use Rattle.std.specs.Prelude.{◌≡◌, ℕ, ◌≤◌, ℤ, List, [], ◌∷◌, ◌++◌, length, take}
use Rattle.ac_forms.specs.Rows.{IsWellMade, Meets, CanTest}
use Rattle.ac_forms.specs.declared.conj.Conj.{Conj}
use Rattle.ac_omega_steps.specs.IntegerPoints.{IsPoint}
use Rattle.ac_sets.specs.declared.unions.Union.{Union}
use Rattle.ac_forms.specs.Negation.{HasExtension}
use Rattle.ac_forms.specs.PieceMembership.{IsInSome}

-- each conjunction is well made and has these columns
abbrev pub ArePieces : ℕ → List Conj → Type 0
ArePieces visible [] = Unit {0}
ArePieces visible (c ∷ cs) = (visible ≤ c.columns) × IsWellMade c × ArePieces visible cs

-- the union is well made
abbrev pub IsUnion : Union → Type 0
IsUnion u = ArePieces u.visible u.pieces

-- the union holds the point of visible columns: with some numbers for the further columns of one of the pieces, it meets that piece
abbrev pub Holds : Union → List ℤ → Type 0
Holds u p = (length p ≡ u.visible) × IsInSome HasExtension u.pieces p

-- the rows fix the numbers behind the first columns
abbrev pub IsFixed : ℕ → Conj → Type 0
IsFixed visible c = (p q r : List ℤ) → length p ≡ visible → IsPoint c (p ++ q) → IsPoint c (p ++ r) → q ≡ r

abbrev pub AreFixed : ℕ → List Conj → Type 0
AreFixed visible [] = Unit {0}
AreFixed visible (c ∷ cs) = IsFixed visible c × AreFixed visible cs

-- none of the conjunctions has more columns
abbrev pub AreWithin : ℕ → List Conj → Type 0
AreWithin columns [] = Unit {0}
AreWithin columns (c ∷ cs) = (c.columns ≤ columns) × AreWithin columns cs

-- the numbers of the conjunction's columns, which are the first of the point, meet its rows
abbrev pub IsMet : Conj → List ℤ → Type 0
IsMet c p = Meets c.rows (take c.columns p)

-- the rows can be tested in `i128`, conjunction by conjunction up to the first that is met
abbrev pub CanSearch : List Conj → List ℤ → Type 0
CanSearch [] p = Unit {0}
CanSearch (c ∷ cs) p = CanTest c.rows (take c.columns p) × (¬ IsMet c p → CanSearch cs p)
