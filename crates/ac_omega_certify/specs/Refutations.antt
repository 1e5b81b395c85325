-- Refutations: why a conjunction in normal form has no integer point (W. Pugh, The Omega test, 1991).
use Rattle.std.specs.Prelude.{◌≡◌, ℕ, ◌*◌, ◌<◌, ◌≤◌, ◌^◌, true, false, unsigned_abs, List, [], ◌∷◌, Some}
use Rattle.ac_forms.specs.Affine.{Affine, coef}
use Rattle.ac_forms.specs.NormalForm.{normal_conj}
use Rattle.ac_forms.specs.Rows.{IsWellMade}
use Rattle.ac_forms.specs.RangeTests.{rows_fit}
use Rattle.ac_forms.specs.declared.conj.Conj.{Conj}
use Rattle.ac_forms.specs.declared.row.Row.{Row}
use Rattle.ac_forms.specs.declared.row.Row.TheVariants.{Eq, Div, Ge}
use Rattle.ac_omega_steps.specs.declared.choose.Choice.{Choice}
use Rattle.ac_omega_steps.specs.declared.choose.Choice.TheVariants as choice
use Rattle.ac_omega_steps.specs.Choices.{are_absurd}
use Rattle.ac_omega_steps.specs.ChoiceFits.{after_choice}
use Rattle.ac_omega_certify.specs.Alternatives.{alternatives_for, all_of}
use Rattle.ac_omega_certify.specs.declared.refutation.Refutation.{Refutation, Row_of-Refutation, end_of-Refutation, more_of-Refutation}
use Rattle.ac_omega_certify.specs.declared.refutation.Refutation.TheVariants.{Absurd, Open'}
use Rattle.ac_omega_certify.specs.declared.strategy.Strategy.{Strategy}

-- the conjunction that has no point
abbrev pub conj_of : Refutation → Conj
conj_of (Absurd c) = c
conj_of (Open' c hs n below) = c

-- these are all choices of a strategy for one of the columns of a conjunction that is not absurd, in order
pub record AreChoicesOf (c : Conj) (hs : List Choice) : Type 0 where
  pub possible : are_absurd c.rows ≡ false
  pub strategy : Strategy
  pub column : ℕ
  pub present : column < c.columns
  pub all : all_of (alternatives_for strategy column c.rows) ≡ Some hs

-- the refutation stands: its conjunction is well made and absurd, or what each choice for a column leaves is refuted below
unfoldable mutual
  pub Refutes : Refutation → Type 0
  Refutes (Absurd c) = IsWellMade c × (are_absurd c.rows ≡ true)
  Refutes (Open' c hs n below) = IsWellMade c × AreChoicesOf c hs × RefuteEach c hs below

  -- in turn
  pub RefuteEach : Conj → List Choice → {m : _} → Row_of-Refutation m → Type 0
  RefuteEach c [] end_of-Refutation = Unit {0}
  RefuteEach c (h ∷ hs) (more_of-Refutation r rest) = (after_choice h c ≡ Some (conj_of r)) × Refutes r × RefuteEach c hs rest
  RefuteEach c [] (more_of-Refutation r rest) = ⊥
  RefuteEach c (h ∷ hs) end_of-Refutation = ⊥

-- coefficients are at most the factor and the number, the constant at most the number, by absolute values
pub record IsFormWithin (factor number : ℕ) (f : Affine) : Type 0 where
  pub konst : unsigned_abs f.konst ≤ number
  pub factors : (j : ℕ) → unsigned_abs (coef j f) ≤ factor
  pub coefs : (j : ℕ) → unsigned_abs (coef j f) ≤ number

-- and so is the modulus at most both
abbrev pub IsRowWithin : ℕ → ℕ → Row → Type 0
IsRowWithin factor number (Eq f) = IsFormWithin factor number f
IsRowWithin factor number (Div m f) = IsFormWithin factor number f × (unsigned_abs m ≤ factor) × (unsigned_abs m ≤ number)
IsRowWithin factor number (Ge f) = IsFormWithin factor number f

abbrev pub AreRowsWithin : ℕ → ℕ → List Row → Type 0
AreRowsWithin factor number [] = Unit {0}
AreRowsWithin factor number (r ∷ rs) = IsRowWithin factor number r × AreRowsWithin factor number rs

-- the moduli of residues are at most the factor
abbrev pub AreModuliWithin : ℕ → List Choice → Type 0
AreModuliWithin factor [] = Unit {0}
AreModuliWithin factor (choice.Residue z m r ∷ hs) = (unsigned_abs m ≤ factor) × AreModuliWithin factor hs
AreModuliWithin factor (choice.Drop z ∷ hs) = AreModuliWithin factor hs
AreModuliWithin factor (choice.Equal z i ∷ hs) = AreModuliWithin factor hs
AreModuliWithin factor (choice.Shadow z ∷ hs) = AreModuliWithin factor hs
AreModuliWithin factor (choice.Splinter z i k ∷ hs) = AreModuliWithin factor hs

-- bounds of the rows and of the moduli of residues, whose product is at most 2^120
pub record AreWithin2To120 (rs : List Row) (hs : List Choice) : Type 0 where
  pub factor : ℕ
  pub number : ℕ
  pub product : factor * number ≤ 2 ^ 120
  pub rows : AreRowsWithin factor number rs
  pub moduli : AreModuliWithin factor hs

-- the numbers of a refutation are not large: a certificate of it stays in `i128`
unfoldable mutual
  pub IsWithin2To120 : Refutation → Type 0
  IsWithin2To120 (Absurd c) = AreWithin2To120 c.rows []
  IsWithin2To120 (Open' c hs n below) = AreWithin2To120 c.rows hs × AreAllWithin2To120 below

  pub AreAllWithin2To120 : {m : _} → Row_of-Refutation m → Type 0
  AreAllWithin2To120 end_of-Refutation = Unit {0}
  AreAllWithin2To120 (more_of-Refutation r rest) = IsWithin2To120 r × AreAllWithin2To120 rest

-- the refutation is one of the question's normal form, whose numbers stay in `i128`
pub record IsRefutationOf (question : Conj) (r : Refutation) : Type 0 where
  pub fits : rows_fit question.rows ≡ true
  pub normal : conj_of r ≡ normal_conj question
  pub refutes : Refutes r
