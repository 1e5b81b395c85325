-- Rows of differences: with more room, in lists, and their negations.
use Rattle.std.proofs.Common.{◌≡◌, ℕ, zero, suc, ◌+◌, ◌<◌, ◌≤◌, ◌^◌, lit<, ℤ, negsuc, ◌+ℤ◌, ◌*ℤ◌, List, [], ◌∷◌, ◌++◌, map, length, get_or, arith, subst}
use Rattle.std.specs.Prelude.{unsigned_abs}
use Rattle.std.specs.List.{AllByRecursion, Contains}
use Rattle.std.proofs.lemmas.Int.{ints}
use Rattle.std.proofs.lemmas.List.{length-map}
use Rattle.ac_forms.specs.Affine.{Affine, coef}
use Rattle.ac_forms.specs.Fits.{Fits, AllFit}
use Rattle.ac_forms.specs.Negation.{negation, NegationFits, opposite, above, below}
use Rattle.ac_forms.specs.Rows.{IsRowOver, AreRowsOver}
use Rattle.ac_forms.specs.declared.conj.Conj.{Conj}
use Rattle.ac_forms.specs.declared.row.Row.{Row}
use Rattle.ac_forms.specs.declared.row.Row.TheVariants.{Eq, Div, Ge}
use Rattle.ac_omega_steps.proofs.Fitting.{true_fits}
use Rattle.ac_claims_paths.proofs.InBranches.{made-wide}
use Rattle.ac_claims_paths.proofs.Moving.{made-both}
use Rattle.ac_omega.specs.DifferenceRows.{IsDifferenceWithin, IsDifferenceRow, AreDifferences}
use Rattle.ac_omega.proofs.DifferenceForms.{IsUnit, turned-difference}
use Rattle.ac_omega.proofs.DifferenceRows.{AreUnits, at-turned, form-units}
use Rattle.ac_omega.proofs.DifferenceNormals.{fits-within}
use Rattle.ac_omega.proofs.DifferenceFits.{unit-small}
use Rattle.ac_omega.proofs.DifferenceQuestions.{below as columns_below, question-raw}

pub row-more : (b c : ℕ) (r : Row) → b ≤ c → IsDifferenceRow b r → IsDifferenceRow c r
row-more b c (Eq f) l d = (d.0, omega (arith, d.1))
row-more b c (Div m f) l d = absurd d
row-more b c (Ge f) l d = (d.0, omega (arith, d.1))

pub rows-more : (b c : ℕ) (rs : List Row) → b ≤ c → AreDifferences b rs → AreDifferences c rs
rows-more b c [] l d = tt
rows-more b c (r ∷ rs) l d = (row-more b c r l d.0, rows-more b c rs l d.1)

pub rows-both : (b : ℕ) (rs ss : List Row) → AreDifferences b rs → AreDifferences b ss → AreDifferences b (rs ++ ss)
rows-both b [] ss d e = e
rows-both b (r ∷ rs) ss d e = (d.0, rows-both b rs ss d.1 e)

row-at : (b : ℕ) (rs : List Row) (r : Row) (k : ℕ) → AreDifferences b rs → k < length rs → get_or rs k r ≡ r → IsDifferenceRow b r
row-at b [] r k d l e = absurd (omega arith)
row-at b (s ∷ rs) r zero d l e = subst (IsDifferenceRow b) e d.0
row-at b (s ∷ rs) r (suc k) d l e = row-at b rs r k d.1 (omega arith) e

over-at : (n : ℕ) (rs : List Row) (r : Row) (k : ℕ) → AreRowsOver n rs → k < length rs → get_or rs k r ≡ r → IsRowOver n r
over-at n [] r k d l e = absurd (omega arith)
over-at n (s ∷ rs) r zero d l e = subst (IsRowOver n) e d.0
over-at n (s ∷ rs) r (suc k) d l e = over-at n rs r k d.1 (omega arith) e

pub all-at : {A : Type 0} (P : A → Type 0) (xs : List A) (x : A) → AllByRecursion P xs → Contains xs x → P x
all-at P [] x a c = absurd (let l = c.1 in omega arith)
all-at P (y ∷ ys) x a (zero, l, e) = subst P e a.0
all-at P (y ∷ ys) x a (suc k, l, e) = all-at P ys x a.1 (k, (omega arith), e)

-- differences over so many columns, with numbers of at most b
pub record AreNarrow (n b : ℕ) (rs : List Row) : Type 0 where
  pub over : AreRowsOver n rs
  pub differences : AreDifferences b rs

pub record IsNarrow (n b : ℕ) (r : Row) : Type 0 where
  pub over : IsRowOver n r
  pub difference : IsDifferenceRow b r

pub narrow-more : (n m b c : ℕ) (rs : List Row) → n ≤ m → b ≤ c → AreNarrow n b rs → AreNarrow m c rs
narrow-more n m b c rs l k h = record { over = made-wide rs n m l h.over; differences = rows-more b c rs k h.differences }

pub narrow-both : (n b : ℕ) (rs ss : List Row) → AreNarrow n b rs → AreNarrow n b ss → AreNarrow n b (rs ++ ss)
narrow-both n b rs ss h g = record { over = made-both n rs ss h.over g.over; differences = rows-both b rs ss h.differences g.differences }

pub narrow-first : (n b : ℕ) (r : Row) (rs : List Row) → IsNarrow n b r → AreNarrow n b rs → AreNarrow n b (r ∷ rs)
narrow-first n b r rs h g = record { over = (h.over, g.over); differences = (h.difference, g.differences) }

pub narrow-at : (n b : ℕ) (rs : List Row) (r : Row) → AreNarrow n b rs → Contains rs r → IsNarrow n b r
narrow-at n b rs r h c = record { over = over-at n rs r c.0 h.over c.1 c.2; difference = row-at b rs r c.0 h.differences c.1 c.2 }

-- the coefficients are 1, 0 or -1
pub units-of : (b : ℕ) (f : Affine) → IsDifferenceWithin b f → AreUnits f.coefs
units-of b f d =
    let n = length f.coefs in
    form-units (columns_below n) b f (question-raw n b (Ge f ∷ []) ((omega arith, tt), tt) (d, tt)).0

-- ---- negations

minus-one : (x : ℤ) (b : ℕ) → unsigned_abs x ≤ b → unsigned_abs (x +ℤ negsuc 0) ≤ b + 1
minus-one x b l = omega (arith, ints)

turned-small : (x : ℤ) (b : ℕ) → unsigned_abs x ≤ b → unsigned_abs (negsuc 0 *ℤ x) ≤ b
turned-small x b l = omega (arith, ints)

pub above-within : (b : ℕ) (f : Affine) → IsDifferenceWithin b f → IsDifferenceWithin (b + 1) (above f)
above-within b f d = (d.0, minus-one f.konst b d.1)

opposite-within : (b : ℕ) (f : Affine) → IsDifferenceWithin b f → IsDifferenceWithin b (opposite f)
opposite-within b f d = (turned-difference (λ z. coef z f) (λ z. coef z (opposite f)) (λ j. at-turned f.coefs j) d.0, turned-small f.konst b d.1)

pub below-within : (b : ℕ) (f : Affine) → IsDifferenceWithin b f → IsDifferenceWithin (b + 1) (below f)
below-within b f d = above-within b (opposite f) (opposite-within b f d)

below-over : (n : ℕ) (f : Affine) → length f.coefs ≤ n → IsRowOver n (Ge (below f))
below-over n f l = let e = length-map f.coefs (λ (c : ℤ). negsuc 0 *ℤ c) in (omega (arith, e), tt)

-- the rows of each part of the negation
pub negation-narrow : (n m b : ℕ) (s : Row) → IsNarrow n b s → AllByRecursion (λ (d : Conj). AreNarrow n (b + 1) d.rows) (negation m s)
negation-narrow n m b (Eq f) h = (
  record { over = ((h.over.0, tt), tt); differences = (above-within b f h.difference, tt) },
  (record { over = (below-over n f h.over.0, tt); differences = (below-within b f h.difference, tt) }, tt),
)
negation-narrow n m b (Div g f) h = absurd h.difference
negation-narrow n m b (Ge f) h = (record { over = (below-over n f h.over.0, tt); differences = (below-within b f h.difference, tt) }, tt)

-- it is made in `i128`
unit-turned : (c : ℤ) → IsUnit c → Fits (negsuc 0 *ℤ c)
unit-turned c u = true_fits (negsuc 0 *ℤ c) (fits-within (negsuc 0 *ℤ c) 1 (turned-small c 1 (unit-small c u)) (lit< tt))

all-turned : (cs : List ℤ) → AreUnits cs → AllFit (map (λ c. negsuc 0 *ℤ c) cs)
all-turned [] u = tt
all-turned (c ∷ cs) u = (unit-turned c u.0, all-turned cs u.1)

pub small-fits : (x : ℤ) (b : ℕ) → unsigned_abs x ≤ b → b < 2 ^ 127 → Fits x
small-fits x b l room = true_fits x (fits-within x b l room)

pub negation-fits : (b : ℕ) (r : Row) → b + 1 < 2 ^ 127 → IsDifferenceRow b r → NegationFits r
negation-fits b (Eq f) room d =
    let o = opposite-within b f d in
    (small-fits _ (b + 1) (minus-one f.konst b d.1) room, (all-turned f.coefs (units-of b f d), small-fits _ b o.1 (omega arith)), small-fits _ (b + 1) (minus-one (opposite f).konst b o.1) room)
negation-fits b (Div m f) room d = absurd d
negation-fits b (Ge f) room d =
    let o = opposite-within b f d in
    ((all-turned f.coefs (units-of b f d), small-fits _ b o.1 (omega arith)), small-fits _ (b + 1) (minus-one (opposite f).konst b o.1) room)
