-- The numbers of a splinter of a lower row are at most 2^122.
use Rattle.std.proofs.Common.{◌≡◌, ℕ, zero, suc, ◌+◌, ◌≤◌, ◌<◌, ◌^◌, ℤ, pos, negsuc, neg_ℤ, ◌-ℤ◌, ◌≤ℤ◌, List, [], ◌∷◌, ◌++◌, inr, true, Some, slice_get, get_or, length, unsigned_abs, refl, arith}
use Rattle.std.specs.Prelude.{◌≢◌}
use Rattle.std.specs.Int.Signed.{lt_z}
use Rattle.std.proofs.lemmas.Int.{ints}
use Rattle.std.proofs.lemmas.Option.{slice_get_read}
use Rattle.ac_forms.specs.Affine.{Affine, coef}
use Rattle.ac_forms.specs.Fits.{Fits}
use Rattle.ac_forms.specs.Rows.{HaveModuli}
use Rattle.ac_forms.specs.declared.row.Row.{Row}
use Rattle.ac_forms.specs.declared.row.Row.TheVariants.{Eq, Div, Ge}
use Rattle.ac_omega_steps.specs.Choices.{splinter}
use Rattle.ac_omega_steps.specs.Bounds.{is_low}
use Rattle.ac_forms.specs.declared.conj.Conj.{Conj}
use Rattle.ac_omega_certify.specs.Descents.{AreRowsUpTo2To122, StandOn}
use Rattle.ac_omega_certify.specs.TreePathRows.{StandsAt}
use Rattle.ac_omega_certify.specs.declared.descent.Base.{Base}
use Rattle.ac_omega_certify.proofs.StandingLists.{stand-push}
use Rattle.ac_omega_certify.specs.Refutations.{IsFormWithin, AreRowsWithin, AreWithin2To120}
use Rattle.ac_omega_certify.proofs.Moderate.{sum_size, turned_size, fits_within, number_small, modest-calm, calm-append}

smaller : (k b : ℤ) → pos 0 ≤ℤ k → k ≤ℤ b → unsigned_abs k ≤ unsigned_abs b
smaller (pos k) (pos b) h l = omega (arith, ints, l)
smaller (pos k) (negsuc b) h l = absurd (omega (arith, ints, l))
smaller (negsuc k) b h l = absurd (omega (arith, ints, h))

positive : (c : ℤ) → lt_z (pos 0) c ≡ true → pos 1 ≤ℤ c
positive c e = grind (arith, ints, e)

not_none : (c : ℤ) → pos 1 ≤ℤ c → c ≢ pos 0
not_none c h = λ e. absurd (omega (arith, ints, e, h))

within_at : (p q : ℕ) (rs : List Row) (i : ℕ) (f : Affine) → AreRowsWithin p q rs → slice_get rs i ≡ Some (Ge f) → IsFormWithin p q f
within_at p q [] i f w e = absurd cc
within_at p q (r ∷ rs) zero f w e = let s : r ≡ Ge f = cc in rw s at w.0
within_at p q (r ∷ rs) (suc i) f w e = within_at p q rs i f w.1 e

pub less_size : (x y : ℤ) → unsigned_abs (x -ℤ y) ≤ unsigned_abs x + unsigned_abs y
less_size x y = let s = sum_size x (neg_ℤ y) in let o = turned_size y in omega arith

splinter_size : (rs : List Row) (z i : ℕ) (k : ℤ) (f : Affine) → AreWithin2To120 rs [] → slice_get rs i ≡ Some (Ge f) → pos 0 ≤ℤ k → is_low z f ≡ true → k ≤ℤ coef z f
    → (unsigned_abs (f.konst -ℤ k) ≤ 2 ^ 122) × ((j : ℕ) → unsigned_abs (coef j f) ≤ 2 ^ 122)
splinter_size rs z i k f a e l low last =
    let w = within_at a.factor a.number rs i f a.rows e in
    let p = positive (coef z f) low in
    let n = number_small a.factor a.number z f a.product w (not_none (coef z f) p) in
    let s = smaller k (coef z f) l last in
    let d = less_size f.konst k in
    ((let h = w.konst in let c = w.coefs z in omega arith), (λ j. let h = w.coefs j in omega arith))

pub splinter_fits : (rs : List Row) (z i : ℕ) (k : ℤ) (f : Affine) → AreWithin2To120 rs [] → slice_get rs i ≡ Some (Ge f) → pos 0 ≤ℤ k → is_low z f ≡ true → k ≤ℤ coef z f → Fits (f.konst -ℤ k)
splinter_fits rs z i k f a e l low last = let s = splinter_size rs z i k f a e l low last in fits_within (f.konst -ℤ k) (let h = s.0 in omega arith)

pub splinter-calm : (rs : List Row) (z i : ℕ) (k : ℤ) (f : Affine) → AreWithin2To120 rs [] → HaveModuli rs → slice_get rs i ≡ Some (Ge f) → pos 0 ≤ℤ k → is_low z f ≡ true → k ≤ℤ coef z f
    → AreRowsUpTo2To122 (rs ++ Eq (record { konst = f.konst -ℤ k; coefs = f.coefs }) ∷ [])
splinter-calm rs z i k f a m e l low last =
    let s = splinter_size rs z i k f a e l low last in
    calm-append rs _ (modest-calm rs a m) (inr (record { konst = s.0; coefs = s.1 }), tt)

-- the rows with a splinter of the row at a place
pub splinter-is : (k : ℤ) (rows : List Row) (i : ℕ) (r : Row) (f : Affine) (made : List Row) (x : Row) → i < length rows → r ≡ get_or rows i r → r ≡ Ge f → x ≡ Eq (record { konst = f.konst -ℤ k; coefs = f.coefs })
    → made ≡ rows ++ x ∷ [] → made ≡ splinter k (slice_get rows i) rows
splinter-is k rows i r f made x h e g t m = rw (slice_get_read rows (length rows) i r refl h e, g) (rw t at m)

pub no-splinter : (k : ℤ) (rows : List Row) (i : ℕ) (r : Row) (made : List Row) → i < length rows → r ≡ get_or rows i r → ((f : Affine) → r ≡ Ge f → ⊥) → made ≡ rows → made ≡ splinter k (slice_get rows i) rows
no-splinter k rows i r made h e n m = rw (slice_get_read rows (length rows) i r refl h e) (by r n)
  where
    by : (r : Row) → ((f : Affine) → r ≡ Ge f → ⊥) → made ≡ splinter k (Some r) rows
    by (Eq f) n = m
    by (Div d f) n = m
    by (Ge f) n = absurd (n f refl)

pub splinter-stands : (b : Base) (path : Conj) (names : List ℕ) (rows : List Row) (places : List ℕ) (r : Row) (i : ℕ) → StandOn b names rows places path → StandsAt names path i r → StandOn b names (rows ++ r ∷ []) (places ++ i ∷ []) path
splinter-stands b path names rows places r i h s = record { columns = h.columns; rows = h.rows; one = h.one; names = h.names; stand = stand-push names path rows places r i h.stand s }
