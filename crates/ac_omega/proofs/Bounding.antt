-- The greatest numbers that a walk meets bound what it met, and only grow.
use Rattle.std.proofs.Common.{ℕ, zero, suc, ◌≤◌, ◌*◌, ◌^◌, max, ℤ, pos, List, [], ◌∷◌, ◌++◌, arith}
use Rattle.std.specs.Prelude.{unsigned_abs, slice_index_or}
use Rattle.std.specs.List.{AllByRecursion}
use Rattle.ac_forms.specs.Affine.{Affine}
use Rattle.ac_forms.specs.declared.row.Row.{Row}
use Rattle.ac_forms.specs.declared.row.Row.TheVariants.{Eq, Div, Ge}
use Rattle.ac_omega_steps.specs.declared.choose.Choice.{Choice}
use Rattle.ac_omega_steps.specs.declared.choose.Choice.TheVariants as choice
use Rattle.ac_omega.specs.Maxima.{Maxima, greatest_abs, with_form, with_modulus, with_row, with_rows, with_choice}
use Rattle.ac_omega.specs.Within.{Bounds, HaveRisen, IsWithin, AreAllWithin}
use Rattle.ac_omega_certify.specs.Refutations.{IsFormWithin, IsRowWithin, AreModuliWithin, AreWithin2To120, IsWithin2To120, AreAllWithin2To120}
use Rattle.ac_omega_certify.specs.declared.refutation.Refutation.{Refutation, Row_of-Refutation, end_of-Refutation, more_of-Refutation}
use Rattle.ac_omega_certify.specs.declared.refutation.Refutation.TheVariants.{Absurd, Open'}

-- the maxima only grow
pub no-less : (s : Maxima) → HaveRisen s s
no-less s = record { factor = omega arith; number = omega arith }

pub risen-on : (a b c : Maxima) → HaveRisen a b → HaveRisen b c → HaveRisen a c
risen-on a b c h k = record { factor = omega (arith, h.factor, k.factor); number = omega (arith, h.number, k.number) }

greatest-start : (n : ℕ) (cs : List ℤ) → n ≤ greatest_abs n cs
greatest-start n [] = omega arith
greatest-start n (c ∷ cs) = omega (arith, greatest-start (max n (unsigned_abs c)) cs)

greatest-coef : (n : ℕ) (cs : List ℤ) (j : ℕ) → unsigned_abs (slice_index_or cs j (pos 0)) ≤ greatest_abs n cs
greatest-coef n [] j = omega arith
greatest-coef n (c ∷ cs) zero = omega (arith, greatest-start (max n (unsigned_abs c)) cs)
greatest-coef n (c ∷ cs) (suc j) = greatest-coef (max n (unsigned_abs c)) cs j

form-risen : (f : Affine) (s : Maxima) → HaveRisen s (with_form f s)
form-risen f s = record {
  factor = greatest-start s.factor f.coefs;
  number = omega (arith, greatest-start (max s.number (unsigned_abs f.konst)) f.coefs);
}

modulus-risen : (m : ℤ) (s : Maxima) → HaveRisen s (with_modulus m s)
modulus-risen m s = record { factor = omega arith; number = omega arith }

row-risen : (r : Row) (s : Maxima) → HaveRisen s (with_row r s)
row-risen (Eq f) s = form-risen f s
row-risen (Div m f) s = risen-on s (with_modulus m s) (with_form f (with_modulus m s)) (modulus-risen m s) (form-risen f (with_modulus m s))
row-risen (Ge f) s = form-risen f s

pub rows-risen : (rows : List Row) (s : Maxima) → HaveRisen s (with_rows rows s)
rows-risen [] s = no-less s
rows-risen (r ∷ rows) s = risen-on s (with_row r s) (with_rows rows (with_row r s)) (row-risen r s) (rows-risen rows (with_row r s))

pub choice-risen : (h : Choice) (s : Maxima) → HaveRisen s (with_choice h s)
choice-risen (choice.Residue z m r) s = record { factor = omega arith; number = omega arith }
choice-risen (choice.Drop z) s = no-less s
choice-risen (choice.Equal z i) s = no-less s
choice-risen (choice.Shadow z) s = no-less s
choice-risen (choice.Splinter z i k) s = no-less s

-- what stays within maxima that grow
form-on : (s t : Maxima) (f : Affine) → HaveRisen s t → IsFormWithin s.factor s.number f → IsFormWithin t.factor t.number f
form-on s t f h w = record {
  konst = omega (arith, h.number, w.konst);
  factors = λ j. omega (arith, h.factor, w.factors j);
  coefs = λ j. omega (arith, h.number, w.coefs j);
}

row-on : (s t : Maxima) (r : Row) → HaveRisen s t → IsRowWithin s.factor s.number r → IsRowWithin t.factor t.number r
row-on s t (Eq f) h w = form-on s t f h w
row-on s t (Div m f) h w = (form-on s t f h w.0, omega (arith, h.factor, w.1), omega (arith, h.number, w.2))
row-on s t (Ge f) h w = form-on s t f h w

pub rows-on : (s t : Maxima) (rows : List Row) → HaveRisen s t → Bounds s rows → Bounds t rows
rows-on s t [] h w = tt
rows-on s t (r ∷ rows) h w = (row-on s t r h w.0, rows-on s t rows h w.1)

pub moduli-on : (s t : Maxima) (hs : List Choice) → HaveRisen s t → AreModuliWithin s.factor hs → AreModuliWithin t.factor hs
moduli-on s t [] h w = tt
moduli-on s t (choice.Residue z m r ∷ hs) h w = (omega (arith, h.factor, w.0), moduli-on s t hs h w.1)
moduli-on s t (choice.Drop z ∷ hs) h w = moduli-on s t hs h w
moduli-on s t (choice.Equal z i ∷ hs) h w = moduli-on s t hs h w
moduli-on s t (choice.Shadow z ∷ hs) h w = moduli-on s t hs h w
moduli-on s t (choice.Splinter z i k ∷ hs) h w = moduli-on s t hs h w

mutual
  unfolding IsWithin

  pub within-on : (s t : Maxima) (r : Refutation) → HaveRisen s t → IsWithin s r → IsWithin t r
  within-on s t (Absurd c) h w = rows-on s t c.rows h w
  within-on s t (Open' c hs n below) h w = (rows-on s t c.rows h w.0, moduli-on s t hs h w.1, each-on s t below h w.2)

  each-on : (s t : Maxima) {m : _} (k : Row_of-Refutation m) → HaveRisen s t → AreAllWithin s k → AreAllWithin t k
  each-on s t end_of-Refutation h w = tt
  each-on s t (more_of-Refutation r rest) h w = (within-on s t r h w.0, each-on s t rest h w.1)

pub all-on : (s t : Maxima) (rs : List Refutation) → HaveRisen s t → AllByRecursion (IsWithin s) rs → AllByRecursion (IsWithin t) rs
all-on s t [] h w = tt
all-on s t (r ∷ rs) h w = (within-on s t r h w.0, all-on s t rs h w.1)

-- one more
pub all-more : (s : Maxima) (rs : List Refutation) (r : Refutation) → AllByRecursion (IsWithin s) rs → IsWithin s r → AllByRecursion (IsWithin s) (rs ++ r ∷ [])
all-more s [] r w o = (o, tt)
all-more s (x ∷ rs) r w o = (w.0, all-more s rs r w.1 o)

pub moduli-more : (n : ℕ) (hs : List Choice) (h : Choice) → AreModuliWithin n hs → AreModuliWithin n (h ∷ []) → AreModuliWithin n (hs ++ h ∷ [])
moduli-more n [] h w o = o
moduli-more n (choice.Residue z m r ∷ hs) h w o = (w.0, moduli-more n hs h w.1 o)
moduli-more n (choice.Drop z ∷ hs) h w o = moduli-more n hs h w o
moduli-more n (choice.Equal z i ∷ hs) h w o = moduli-more n hs h w o
moduli-more n (choice.Shadow z ∷ hs) h w o = moduli-more n hs h w o
moduli-more n (choice.Splinter z i k ∷ hs) h w o = moduli-more n hs h w o

-- what was met is within the maxima
form-met : (f : Affine) (s : Maxima) → IsFormWithin (with_form f s).factor (with_form f s).number f
form-met f s = record {
  konst = omega (arith, greatest-start (max s.number (unsigned_abs f.konst)) f.coefs);
  factors = λ j. greatest-coef s.factor f.coefs j;
  coefs = λ j. greatest-coef (max s.number (unsigned_abs f.konst)) f.coefs j;
}

row-met : (r : Row) (s : Maxima) → IsRowWithin (with_row r s).factor (with_row r s).number r
row-met (Eq f) s = form-met f s
row-met (Div m f) s =
    let t = with_modulus m s in
    let h = form-risen f t in
    (form-met f t, omega (arith, h.factor), omega (arith, h.number))
row-met (Ge f) s = form-met f s

pub rows-met : (rows : List Row) (s : Maxima) → Bounds (with_rows rows s) rows
rows-met [] s = tt
rows-met (r ∷ rows) s =
    let t = with_row r s in
    (row-on t (with_rows rows t) r (rows-risen rows t) (row-met r s), rows-met rows t)

pub choice-met : (h : Choice) (s : Maxima) → AreModuliWithin (with_choice h s).factor (h ∷ [])
choice-met (choice.Residue z m r) s = (omega arith, tt)
choice-met (choice.Drop z) s = tt
choice-met (choice.Equal z i) s = tt
choice-met (choice.Shadow z) s = tt
choice-met (choice.Splinter z i k) s = tt

-- numbers whose product is at most 2^120 are not large
pub within_2_to_120 : (s : Maxima) (rows : List Row) (hs : List Choice) → s.factor * s.number ≤ 2 ^ 120 → Bounds s rows → AreModuliWithin s.factor hs → AreWithin2To120 rows hs
within_2_to_120 s rows hs l b m = record { factor = s.factor; number = s.number; product = l; rows = b; moduli = m }

mutual
  unfolding IsWithin IsWithin2To120

  pub within-modest : (s : Maxima) (r : Refutation) → s.factor * s.number ≤ 2 ^ 120 → IsWithin s r → IsWithin2To120 r
  within-modest s (Absurd c) l w = within_2_to_120 s c.rows [] l w tt
  within-modest s (Open' c hs n below) l w = (within_2_to_120 s c.rows hs l w.0 w.1, each-modest s below l w.2)

  each-modest : (s : Maxima) {m : _} (k : Row_of-Refutation m) → s.factor * s.number ≤ 2 ^ 120 → AreAllWithin s k → AreAllWithin2To120 k
  each-modest s end_of-Refutation l w = tt
  each-modest s (more_of-Refutation r rest) l w = (within-modest s r l w.0, each-modest s rest l w.1)
