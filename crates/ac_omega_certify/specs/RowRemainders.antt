-- What is left of rows in normal form, and where that stands on a path.
use Rattle.std.specs.Prelude.{◌≡◌, ◌⊎◌, ℕ, ℤ, pos, negsuc, List, [], ◌∷◌, Bool, true, false, Some}
use Rattle.ac_forms.specs.Affine.{Affine, scaled}
use Rattle.ac_forms.specs.NormalForm.{clash}
use Rattle.ac_forms.specs.NormalRows.{divided}
use Rattle.ac_forms.specs.declared.conj.Conj.{Conj}
use Rattle.ac_forms.specs.declared.row.Row.{Row}
use Rattle.ac_forms.specs.declared.row.Row.TheVariants.{Eq, Ge}
use Rattle.ac_forms.specs.declared.normal.NormalRow.{NormalRow}
use Rattle.ac_forms.specs.declared.normal.NormalRow.TheVariants.{Kept, Dropped, Absurd}
use Rattle.ac_cert.specs.AcceptedTrees.{after_steps}
use Rattle.ac_omega_certify.specs.Descents.{base_of, StandOn}
use Rattle.ac_omega_certify.specs.TreePathRows.{LeftStands, StandsAt, Reaches, IsOnto}
use Rattle.ac_omega_certify.specs.declared.left.Left.{Left}
use Rattle.ac_omega_certify.specs.declared.path.TreePath.{TreePath}

-- each of them stands at its place
abbrev pub LeftsStand : List ℕ → Conj → List Left → Type 0
LeftsStand names path [] = Unit {0}
LeftsStand names path (l ∷ ls) = LeftStands names path l.place l.row × LeftsStand names path ls

-- the steps of the tree path lead from the start to a path on which the rows stand, and what is left of rows does
pub record CarriesLefts (t : TreePath) (start : Conj) (names : List ℕ) (rs : List Row) (places : List ℕ) (ls : List Left) : Type 0 where
  pub path : Conj
  pub steps : after_steps t.steps start ≡ Some path
  pub stand : StandOn (base_of t) names rs places path
  pub lefts : LeftsStand names path ls

-- one of them is this
abbrev pub HasLeft : NormalRow → List Left → Type 0
HasLeft r [] = ⊥
HasLeft r (l ∷ ls) = (l.row ≡ r) ⊎ HasLeft r ls

-- one of them is this, at this place
abbrev pub IsLeftAt : ℕ → NormalRow → List Left → Type 0
IsLeftAt i r [] = ⊥
IsLeftAt i r (l ∷ ls) = ((l.place ≡ i) × (l.row ≡ r)) ⊎ IsLeftAt i r ls

-- each row is among them
abbrev pub HaveLeft : List Row → List Left → Type 0
HaveLeft [] ls = Unit {0}
HaveLeft (r ∷ rs) ls = HasLeft (Kept r) ls × HaveLeft rs ls

-- each row is among them, at its place
abbrev pub AreLeftAt : List ℕ → List Row → List Left → Type 0
AreLeftAt [] [] ls = Unit {0}
AreLeftAt (i ∷ is) (r ∷ rs) ls = IsLeftAt i (Kept r) ls × AreLeftAt is rs ls
AreLeftAt _ _ ls = ⊥

-- one of them, at this place, clashes with the equality
abbrev pub ClashesAt : Affine → ℕ → List Left → Type 0
ClashesAt f y ls = (g : Affine) × IsLeftAt y (Kept (Eq g)) ls × (clash (Eq f) (Eq g) ≡ true)

-- none of them clashes with the equality
abbrev pub ClashesWithNone : Affine → List Left → Type 0
ClashesWithNone f ls = (g : Affine) → HasLeft (Kept (Eq g)) ls → clash (Eq f) (Eq g) ≡ true → ⊥

-- two of them, at these places, are equalities that clash
abbrev pub HaveClashAt : ℕ → ℕ → List Left → Type 0
HaveClashAt x y ls = (f : Affine) × IsLeftAt x (Kept (Eq f)) ls × ClashesAt f y ls

-- no two of them clash
abbrev pub HaveNoClash : List Left → Type 0
HaveNoClash ls = (f : Affine) → HasLeft (Kept (Eq f)) ls → ClashesWithNone f ls

-- this one of them is an equality that clashes with another, at that place
abbrev pub ClashOf : Left → ℕ → ℕ → List Left → Type 0
ClashOf l x y ls = (x ≡ l.place) × ((f : Affine) × (l.row ≡ Kept (Eq f)) × ClashesAt f y ls)

-- what is left of a row clashes with the equality
abbrev pub clashes : Affine → NormalRow → Bool
clashes f (Kept r) = clash (Eq f) r
clashes f Dropped = false
clashes f Absurd = false

-- the tree path goes on from the path, to one on which the quotients of an equality's form and of its opposite are not negative
pub record Bounds (t : TreePath) (start path : Conj) (names : List ℕ) (x y : ℕ) (g : ℤ) (f : Affine) : Type 0 where
  pub further : Conj
  pub reaches : Reaches t start further
  pub onto : IsOnto path further
  pub low : StandsAt names further x (Ge (divided g (scaled (pos 1) f)))
  pub high : StandsAt names further y (Ge (divided g (scaled (negsuc 0) f)))
