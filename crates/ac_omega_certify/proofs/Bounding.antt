-- The bounds of a column, row by row.
use Rattle.std.proofs.Common.{◌≡◌, ℕ, zero, suc, ◌+◌, ◌<◌, ℤ, pos, true, false, cond, List, [], ◌∷◌, ◌++◌, length, get_or, ◌^◌, to_z, append_assoc, length-append, refl, sym, ap, ◌∙◌, arith}
use Rattle.std.specs.Int.{w128}
use Rattle.std.proofs.lemmas.Int.{ints, to_z_pos}
use Rattle.std.proofs.lemmas.List.{append-nil}
use Rattle.ac_forms.specs.Affine.{Affine, coef}
use Rattle.ac_forms.specs.declared.row.Row.{Row}
use Rattle.ac_forms.specs.declared.row.Row.TheVariants.{Eq, Div, Ge}
use Rattle.ac_omega_steps.specs.declared.column.Bound.{Bound}
use Rattle.ac_omega_steps.specs.Bounds.{is_low, low_bound, lows, is_high, high_bound, highs}
use Rattle.ac_omega_certify.specs.ShadowSteps.{IsMargin}
use Rattle.ac_omega_certify.specs.ShadowRows.{shown_form, shown_with, shown_rows}
use Rattle.ac_omega_certify.specs.SplinterCounts.{AreShown, SufficesAt, Suffice}
use Rattle.ac_omega_certify.proofs.Enough.{low-size}
use Rattle.ac_omega_certify.specs.Refutations.{AreWithin2To120, AreRowsWithin, IsRowWithin}

-- one row of them
pub row-within : (p q : ℕ) (rows : List Row) (i : ℕ) (r : Row) → AreRowsWithin p q rows → i < length rows → r ≡ get_or rows i r → IsRowWithin p q r
row-within p q [] i r w h e = absurd (omega arith)
row-within p q (x ∷ rows) zero r w h e = rw e w.0
row-within p q (x ∷ rows) (suc i) r w h e = row-within p q rows i r w.1 (omega arith) e

highs-cons : (z : ℕ) (r : Row) (rs : List Row) → highs z (r ∷ rs) ≡ highs z (r ∷ []) ++ highs z rs
highs-cons z (Eq f) rs = refl
highs-cons z (Div m f) rs = refl
highs-cons z (Ge f) rs = elim (is_high z f) as (λ t. cond t (high_bound z f ∷ highs z rs) (highs z rs) ≡ cond t (high_bound z f ∷ []) [] ++ highs z rs) [ true ↦ refl | false ↦ refl ]

shown-both : (n : ℤ) (low : Bound) (hs gs : List Bound) → shown_with n low (hs ++ gs) ≡ shown_with n low hs ++ shown_with n low gs
shown-both n low [] gs = refl
shown-both n low (high ∷ hs) gs = ap (λ (rs : List Row). Ge (shown_form n low high) ∷ rs) (shown-both n low hs gs)

-- the rows beside the first row, then beside the others
pub shown-cons : (z : ℕ) (n : ℤ) (low : Bound) (r : Row) (rs : List Row) → shown_with n low (highs z (r ∷ rs)) ≡ shown_with n low (highs z (r ∷ [])) ++ shown_with n low (highs z rs)
shown-cons z n low r rs = ap (shown_with n low) (highs-cons z r rs) ∙ shown-both n low (highs z (r ∷ [])) (highs z rs)

-- that of an upper row
pub one-shown : (z : ℕ) (n : ℤ) (low : Bound) (r : Row) (g form : Affine) → r ≡ Ge g → is_high z g ≡ true → form ≡ shown_form n low (high_bound z g) → Ge form ∷ [] ≡ shown_with n low (highs z (r ∷ []))
one-shown z n low r g form e h f = rw (e, h, f) refl

-- those of a lower row
pub low-shown : (z n : ℕ) (m : ℤ) (all : List Row) (r : Row) (f : Affine) → r ≡ Ge f → is_low z f ≡ true → m ≡ pos n → shown_with m (low_bound z f) (highs z all) ≡ shown_rows z all (r ∷ []) (n ∷ [])
low-shown z n m all r f e h is = rw (e, h, is) (sym (append-nil (shown_with (pos n) (low_bound z f) (highs z all))))

-- a number of rows in `i128`
pub count-is : (n : ℕ) → n < 2 ^ 64 → to_z w128 n ≡ pos n
count-is n h = to_z_pos w128 n (omega (arith, h))

-- what the rows that are left add
pub rows-more : (done next : List Row) (part left : List Row) (all whole : List Row) → all ≡ part ++ left → whole ≡ done ++ all → next ≡ done ++ part → whole ≡ next ++ left
rows-more done next part left all whole e w n = rw (w, e, n) (sym (append_assoc done part left))

shown-front : (z : ℕ) (all : List Row) (n : ℤ) (low : Bound) (hs gs : List Bound) → AreShown z all n low (hs ++ gs) → AreShown z all n low hs
shown-front z all n low [] gs h = tt
shown-front z all n low (x ∷ hs) gs h = (h.0, shown-front z all n low hs gs h.1)

shown-back : (z : ℕ) (all : List Row) (n : ℤ) (low : Bound) (hs gs : List Bound) → AreShown z all n low (hs ++ gs) → AreShown z all n low gs
shown-back z all n low [] gs h = h
shown-back z all n low (x ∷ hs) gs h = shown-back z all n low hs gs h.1

shown-at : (z : ℕ) (all : List Row) (n : ℤ) (low : Bound) (rows : List Row) (i : ℕ) (r : Row) → AreShown z all n low (highs z rows) → i < length rows → r ≡ get_or rows i r → AreShown z all n low (highs z (r ∷ []))
shown-at z all n low [] i r h l e = absurd (omega arith)
shown-at z all n low (x ∷ rows) zero r h l e = rw e (shown-front z all n low (highs z (x ∷ [])) (highs z rows) (rw (highs-cons z x rows) at h))
shown-at z all n low (x ∷ rows) (suc i) r h l e = shown-at z all n low rows i r (shown-back z all n low (highs z (x ∷ [])) (highs z rows) (rw (highs-cons z x rows) at h)) (omega arith) e

pub margin-at : (z : ℕ) (all : List Row) (n : ℤ) (f : Affine) (rows : List Row) (i : ℕ) (r : Row) → IsMargin z all n f rows → i < length rows → r ≡ get_or rows i r → IsMargin z all n f (r ∷ [])
margin-at z all n f rows i r m l e =
    let k = m.taken.within_2_to_120 in
    record {
      taken = record {
        within_2_to_120 = record { factor = k.factor; number = k.number; product = k.product; rows = (k.rows.0, (row-within k.factor k.number rows i r k.rows.1 l e, tt)); moduli = tt };
        low = m.taken.low;
        some = m.taken.some;
        within = m.taken.within;
      };
      around = m.around;
      shown = shown-at z all n (low_bound z f) rows i r m.shown l e;
    }

-- the number of a lower row is a margin
pub row-margin : (z n : ℕ) (f : Affine) (rows : List Row) → AreWithin2To120 (Ge f ∷ rows) [] → SufficesAt z rows (Ge f) n → is_low z f ≡ true → IsMargin z rows (pos n) f rows
row-margin z n f rows m s h =
    let k = s.0 h in
    record { taken = record { within_2_to_120 = m; low = low-size (coef z f) h; some = omega (arith, ints); within = k.within }; around = m; shown = k.shown }

pub suffices-at : (z : ℕ) (all rows : List Row) (ns : List ℕ) (i : ℕ) (r : Row) (n : ℕ) → Suffice z all rows ns → i < length rows → r ≡ get_or rows i r → n ≡ get_or ns i 0 → SufficesAt z all r n
suffices-at z all [] ns i r n s l e f = absurd (omega arith)
suffices-at z all (x ∷ rows) [] i r n s l e f = absurd s
suffices-at z all (x ∷ rows) (k ∷ ns) zero r n s l e f = rw (e, f) s.0
suffices-at z all (x ∷ rows) (k ∷ ns) (suc i) r n s l e f = suffices-at z all rows ns i r n s.1 (omega arith) e f

lows-cons : (z : ℕ) (r : Row) (rs : List Row) → lows z (r ∷ rs) ≡ lows z (r ∷ []) ++ lows z rs
lows-cons z (Eq f) rs = refl
lows-cons z (Div m f) rs = refl
lows-cons z (Ge f) rs = elim (is_low z f) as (λ t. cond t (low_bound z f ∷ lows z rs) (lows z rs) ≡ cond t (low_bound z f ∷ []) [] ++ lows z rs) [ true ↦ refl | false ↦ refl ]

-- the rows of the first row, then those of the others
pub lower-shown : (z : ℕ) (all : List Row) (r : Row) (rs : List Row) (n : ℕ) (ns : List ℕ) → shown_rows z all (r ∷ rs) (n ∷ ns) ≡ shown_rows z all (r ∷ []) (n ∷ []) ++ shown_rows z all rs ns
lower-shown z all (Eq f) rs n ns = refl
lower-shown z all (Div m f) rs n ns = refl
lower-shown z all (Ge f) rs n ns = ap (λ (xs : List Row). xs ++ shown_rows z all rs ns) (sym (append-nil (cond (is_low z f) (shown_with (pos n) (low_bound z f) (highs z all)) [])))

pub lows-length : (z : ℕ) (r : Row) (rs : List Row) → length (lows z (r ∷ rs)) ≡ length (lows z (r ∷ [])) + length (lows z rs)
lows-length z r rs = ap (λ (ls : List Bound). length ls) (lows-cons z r rs) ∙ length-append (lows z (r ∷ [])) (lows z rs)

pub modest-beside : (rows : List Row) (i : ℕ) (r : Row) → AreWithin2To120 rows [] → i < length rows → r ≡ get_or rows i r → AreWithin2To120 (r ∷ rows) []
modest-beside rows i r m h e = record { factor = m.factor; number = m.number; product = m.product; rows = (row-within m.factor m.number rows i r m.rows h e, m.rows); moduli = tt }
