-- Rows that stand on the path of a tree, where each column has a name: its column on the path.
use Rattle.std.specs.Prelude.{◌≡◌, ◌≢◌, ℕ, suc, ◌+◌, ◌≤◌, ℤ, pos, neg_ℤ, ◌+ℤ◌, ◌*ℤ◌, ◌≤ℤ◌, List, [], ◌∷◌, ◌++◌, length, true, cond, nat_eq, slice_get, Option, Some, None, option_map}
use Rattle.ac_base.specs.Multiple.{IsMultiple}
use Rattle.ac_forms.specs.Affine.{Affine, coef, combined, MixFits}
use Rattle.ac_forms.specs.Fits.{Fits}
use Rattle.ac_forms.specs.Renaming.{with_form}
use Rattle.ac_forms.specs.Rows.{form_of}
use Rattle.ac_forms.specs.declared.conj.Conj.{Conj}
use Rattle.ac_forms.specs.declared.row.Row.{Row}
use Rattle.ac_forms.specs.declared.row.Row.TheVariants.{Eq, Div, Ge}
use Rattle.ac_forms.specs.declared.normal.NormalRow.{NormalRow}
use Rattle.ac_forms.specs.declared.normal.NormalRow.TheVariants.{Kept, Dropped, Absurd}
use Rattle.ac_cert.specs.declared.types.Step.{Step}
use Rattle.ac_cert.specs.AbsurdEnd.{is_absurd}
use Rattle.ac_cert.specs.AcceptedTrees.{after_steps}
use Rattle.ac_cert.specs.StepRows.{IsAt}
use Rattle.ac_omega_certify.specs.declared.path.TreePath.{TreePath}

-- the first place of a number in a list
abbrev pub place_of : ℕ → List ℕ → Option ℕ
place_of j [] = None
place_of j (x ∷ xs) = cond (nat_eq x j) (Some 0) (option_map (λ k. suc k) (place_of j xs))

-- the coefficient of a column, 0 where there is none
abbrev pub coef_of : Option ℕ → Affine → ℤ
coef_of None f = pos 0
coef_of (Some k) f = coef k f

-- g is the form f on the path: the coefficient of a column there is that of the column that has its name, or 0
pub record Renames (names : List ℕ) (f g : Affine) : Type 0 where
  pub konst : g.konst ≡ f.konst
  pub coefs : (j : ℕ) → coef j g ≡ coef_of (place_of j names) f

-- both forms have the same value everywhere
pub record Alike (f g : Affine) : Type 0 where
  pub konst : g.konst ≡ f.konst
  pub coefs : (j : ℕ) → coef j g ≡ coef j f

-- the row stands on the path at a place
pub record StandsAt (names : List ℕ) (path : Conj) (i : ℕ) (r : Row) : Type 0 where
  pub form : Affine
  pub at : IsAt path i (with_form r form)
  pub renames : Renames names (form_of r) form

-- each row stands at its place
abbrev pub Stand : List ℕ → Conj → List Row → List ℕ → Type 0
Stand names path [] [] = Unit {0}
Stand names path (r ∷ rs) (i ∷ is) = StandsAt names path i r × Stand names path rs is
Stand names path _ _ = ⊥

-- the products and the sum of a combination stay in `i128`, column by column
pub record Blends (k : ℤ) (f : Affine) (l : ℤ) (g : Affine) : Type 0 where
  pub konst : MixFits k f.konst l g.konst
  pub coefs : (j : ℕ) → MixFits k (coef j f) l (coef j g)

-- k times the row may stand in a sum
abbrev pub CanAdd : ℤ → Row → Type 0
CanAdd k (Eq f) = Unit {0}
CanAdd k (Div m f) = ⊥
CanAdd k (Ge f) = pos 0 ≤ℤ k

-- k times a row plus l times another: an equality if both are
abbrev pub sum_of : ℤ → Row → ℤ → Row → Row
sum_of k (Eq f) l (Eq g) = Eq (combined k f l g)
sum_of k r l s = Ge (combined k (form_of r) l (form_of s))

-- the form that is worth 1
abbrev pub one_form : Affine
one_form = record { konst = pos 1; coefs = [] }

-- the second conjunction has the rows of the first one, and then others, over as many columns or more
pub record IsOnto (c d : Conj) : Type 0 where
  pub more : List Row
  pub rows : d.rows ≡ c.rows ++ more
  pub columns : c.columns ≤ d.columns

-- the steps of the tree path lead from the start to the path
pub record Reaches (t : TreePath) (start path : Conj) : Type 0 where
  pub steps : after_steps t.steps start ≡ Some path
  pub columns : path.columns ≡ t.columns
  pub rows : length path.rows ≡ t.rows

-- the tree path goes on from the path, to one on which the row stands at a place
pub record Leads (t : TreePath) (start path : Conj) (names : List ℕ) (i : ℕ) (r : Row) : Type 0 where
  pub further : Conj
  pub reaches : Reaches t start further
  pub onto : IsOnto path further
  pub stands : StandsAt names further i r

-- the second tree path is the first one with one step more, which makes the row at the place
pub record Grows (t u : TreePath) (s : Step) (i : ℕ) : Type 0 where
  pub steps : u.steps ≡ t.steps ++ s ∷ []
  pub columns : u.columns ≡ t.columns
  pub one : u.one ≡ t.one
  pub rows : u.rows ≡ t.rows + 1
  pub place : i ≡ t.rows

-- the tree paths are over as many columns, with the same place of `1 >= 0`
pub record IsSameBase (t u : TreePath) : Type 0 where
  pub columns : u.columns ≡ t.columns
  pub one : u.one ≡ t.one

-- the sum of the two forms is 0
pub record AreOpposite (f g : Affine) : Type 0 where
  pub konst : f.konst +ℤ g.konst ≡ pos 0
  pub coefs : (j : ℕ) → coef j f +ℤ coef j g ≡ pos 0

-- the number divides the difference of a form and g times another, column by column
pub record LeavesMultiple (d : ℤ) (e : Affine) (g : ℤ) (f : Affine) : Type 0 where
  pub konst : IsMultiple d (pos 1 *ℤ e.konst +ℤ neg_ℤ g *ℤ f.konst)
  pub coefs : (j : ℕ) → IsMultiple d (pos 1 *ℤ coef j e +ℤ neg_ℤ g *ℤ coef j f)

-- k times each number of the form stays in `i128`
pub record CanScale (k : ℤ) (f : Affine) : Type 0 where
  pub konst : Fits (k *ℤ f.konst)
  pub coefs : (j : ℕ) → Fits (k *ℤ coef j f)

-- the row `1 >= 0` stands
abbrev pub HasOne : TreePath → Conj → Type 0
HasOne t path = StandsAt [] path t.one (Ge one_form)

-- what is left of a row stands at a place, or there is an absurd row
abbrev pub LeftStands : List ℕ → Conj → ℕ → NormalRow → Type 0
LeftStands names path i (Kept r) = StandsAt names path i r
LeftStands names path i Dropped = Unit {0}
LeftStands names path i Absurd = is_absurd (slice_get path.rows i) ≡ true

-- the tree path goes on from the path, to one on which what is left of a row stands
pub record Shows (t : TreePath) (start path : Conj) (names : List ℕ) (i : ℕ) (left : NormalRow) : Type 0 where
  pub further : Conj
  pub reaches : Reaches t start further
  pub onto : IsOnto path further
  pub stands : LeftStands names further i left

-- the tree path leads from the start to a path with the row `1 >= 0`
pub record Starts (t : TreePath) (start : Conj) : Type 0 where
  pub path : Conj
  pub reaches : Reaches t start path
  pub onto : IsOnto start path
  pub one : HasOne t path

-- the form plus a number
abbrev pub raised : Affine → ℤ → Affine
raised f d = record { konst = f.konst +ℤ d; coefs = f.coefs }

-- the form, the number and their sum stay in `i128`
pub record CanRaise (f : Affine) (d : ℤ) : Type 0 where
  pub konst : Fits f.konst
  pub number : Fits d
  pub sum : Fits (f.konst +ℤ d)
  pub coefs : (j : ℕ) → Fits (coef j f)

-- the forms have the same coefficients and different constants
pub record Clash (f g : Affine) : Type 0 where
  pub konst : f.konst ≢ g.konst
  pub coefs : (j : ℕ) → coef j f ≡ coef j g
