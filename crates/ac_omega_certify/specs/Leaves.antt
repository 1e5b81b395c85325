-- Trees over a range of numbers: one for each number that a form may be worth.
use Rattle.std.specs.Prelude.{◌≡◌, ℕ, ◌≤◌, pos, neg_ℤ, ◌+ℤ◌, ◌-ℤ◌, List, [], ◌∷◌, ◌++◌, length}
use Rattle.ac_forms.specs.Affine.{Affine, shifted, FormFits}
use Rattle.ac_forms.specs.Fits.{Fits}
use Rattle.ac_forms.specs.Negation.{opposite}
use Rattle.ac_forms.specs.declared.conj.Conj.{Conj}
use Rattle.ac_forms.specs.declared.row.Row.{Row}
use Rattle.ac_forms.specs.declared.row.Row.TheVariants.{Eq, Ge}
use Rattle.ac_cert.specs.declared.ends.Absurd.{Absurd}
use Rattle.ac_cert.specs.declared.types.Tree.{Tree}
use Rattle.ac_cert.specs.AcceptedTrees.{Accepts, absurd_refusals}
use Rattle.ac_cert.specs.Rules.{with_row}
use Rattle.ac_cert.specs.StepRows.{IsAt}
use Rattle.ac_omega_certify.specs.TreePathRows.{Alike}

-- the form less a number
abbrev pub less : Affine → ℕ → Affine
less f n = shifted f (neg_ℤ (pos n))

-- not negative where the form is less than a number
abbrev pub under : Affine → ℕ → Affine
under f n = shifted (opposite f) (pos n -ℤ pos 1)

-- the form and its opposite, and both at a distance up to n, stay in `i128`
pub record HasRoom (f : Affine) (n : ℕ) : Type 0 where
  pub form : FormFits f
  pub turned : FormFits (opposite f)
  pub low : Fits (f.konst -ℤ pos n)
  pub high : Fits ((opposite f).konst +ℤ pos n)

-- the path goes on with so many rows, over the same columns
pub record GoesOn (n : ℕ) (c d : Conj) : Type 0 where
  pub more : List Row
  pub long : length more ≡ n
  pub is : d ≡ record { columns = c.columns; rows = c.rows ++ more }

-- a row stands at the place that says what `f >= 0` says: up to coefficients 0 at the end of its form
abbrev pub IsLikeAt : Conj → ℕ → Affine → Type 0
IsLikeAt c i f = (g : Affine) × IsAt c i (Ge g) × Alike f g

-- the tree is accepted behind so many further rows and then an equality that says what `f = 0` says
abbrev pub AcceptsBehind : Tree Absurd → ℕ → Affine → Conj → Type 0
AcceptsBehind t n f c = (d : Conj) → GoesOn n c d → (g : Affine) → Alike f g → Accepts t absurd_refusals (with_row d (Eq g))

-- the trees in turn are accepted behind so many further rows where the form is worth 0, 1, 2 and so on
abbrev pub AcceptsFrom : List (Tree Absurd) → Affine → ℕ → Conj → Type 0
AcceptsFrom [] f n c = Unit {0}
AcceptsFrom (t ∷ ts) f n c = AcceptsBehind t n f c × AcceptsFrom ts (less f 1) n c

-- the tree is accepted where the form is worth one of as many numbers as there are leaves, by the rows at these places of so many, and the leaves are behind them
abbrev pub AcceptsRange : Tree Absurd → Affine → List (Tree Absurd) → ℕ → ℕ → ℕ → ℕ → Type 0
AcceptsRange t f leaves depth low high end =
    (c : Conj) → length f.coefs ≤ c.columns → length c.rows ≡ end → IsLikeAt c low f → IsLikeAt c high (under f (length leaves)) → AcceptsFrom leaves f depth c → Accepts t absurd_refusals c
