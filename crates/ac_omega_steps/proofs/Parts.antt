-- Lists that a loop puts together part by part, one part for each row.
use Rattle.std.proofs.Common.{◌≡◌, ℕ, zero, suc, ◌+◌, ◌<◌, ◌≤◌, ℤ, pos, neg_ℤ, ◌≤ℤ◌, List, [], ◌∷◌, ◌++◌, length, get_or, take, drop, map, add-one, append_assoc, Option, Some, None, Bool, true, false, ◌&&◌, cond, refl, sym, ap, ◌∙◌, arith}
use Rattle.std.proofs.lemmas.List.{map-append}
use Rattle.std.specs.Int.Signed.{lt_z}
use Rattle.std.proofs.lemmas.Int.{ints}
use Rattle.std.proofs.lemmas.List.{at_drop_more}
use Rattle.ac_forms.specs.Affine.{Affine, coef}
use Rattle.ac_forms.specs.declared.row.Row.{Row}
use Rattle.ac_forms.specs.declared.row.Row.TheVariants.{Eq, Div, Ge}
use Rattle.ac_omega_steps.specs.declared.column.Bound.{Bound}
use Rattle.ac_omega_steps.specs.Bounds.{low_bound, high_bound, lows, highs}
use Rattle.ac_omega_steps.specs.Choices.{shadow_form, shadows_with, replaced_row, others}
use Rattle.ac_omega_steps.specs.ChoiceFits.{sizes_fit, ArePositive, shadow_fits, shadows_fit_with, replaced_row_fits, all_replaced_fit}

pub drop-at : {A : Type 0} (xs : List A) (i : ℕ) (x : A) → i < length xs → x ≡ get_or xs i x → drop i xs ≡ x ∷ drop (i + 1) xs
drop-at xs i x h e = at_drop_more (λ y. y) xs i x h ∙ ap (λ y. y ∷ drop (i + 1) xs) (sym e)

-- all parts so far fit, and are done
pub record Halfway {B : Type 0} (fit : Bool) (whole : List B) (fit_rest : Bool) (done rest : List B) : Type 0 where
  pub fits : fit ≡ fit_rest
  pub value : whole ≡ done ++ rest

pub half-more : {B : Type 0} (fit : Bool) (whole : List B) (f g h : Bool) (done rest part done2 rest2 : List B) → Halfway fit whole f done rest → f ≡ (g && h) → g ≡ true → rest ≡ part ++ rest2 → done2 ≡ done ++ part → Halfway fit whole h done2 rest2
half-more fit whole f g h done rest part done2 rest2 s e t p n = record {
  fits = s.fits ∙ e ∙ ap (λ (b : Bool). b && h) t;
  value = rw (n, append_assoc done part rest2) (rw p at s.value);
}

pub and-assoc : (a b c : Bool) → ((a && b) && c) ≡ (a && (b && c))
and-assoc true b c = refl
and-assoc false b c = refl

abbrev pub HighsSoFar : ℕ → ℕ → List Row → List Bound → Type 0
HighsSoFar z i rows done = Halfway (sizes_fit (highs z rows)) (highs z rows) (sizes_fit (highs z (drop i rows))) done (highs z (drop i rows))

-- sizes are positive
pub positive_at : (bs : List Bound) (i : ℕ) (b : Bound) → ArePositive bs → i < length bs → b ≡ get_or bs i b → pos 1 ≤ℤ b.size
positive_at [] i b h m e = absurd (omega arith)
positive_at (x ∷ bs) zero b h m e = rw e h.0
positive_at (x ∷ bs) (suc i) b h m e = positive_at bs i b h.1 (omega arith) e

low-size : (c : ℤ) → lt_z (pos 0) c ≡ true → pos 1 ≤ℤ c
low-size c e = grind (arith, ints, e)

high-size : (c : ℤ) → lt_z c (pos 0) ≡ true → pos 1 ≤ℤ neg_ℤ c
high-size c e = grind (arith, ints, e)

pub lows_positive : (z : ℕ) (rows : List Row) → ArePositive (lows z rows)
lows_positive z [] = tt
lows_positive z (Eq f ∷ rs) = lows_positive z rs
lows_positive z (Div m f ∷ rs) = lows_positive z rs
lows_positive z (Ge f ∷ rs) = by (lt_z (pos 0) (coef z f)) refl (lows_positive z rs)
  where
    by : (b : Bool) → lt_z (pos 0) (coef z f) ≡ b → ArePositive (lows z rs) → ArePositive (cond b (low_bound z f ∷ lows z rs) (lows z rs))
    by true e h = (low-size (coef z f) e, h)
    by false e h = h

pub highs_positive : (z : ℕ) (rows : List Row) → ArePositive (highs z rows)
highs_positive z [] = tt
highs_positive z (Eq f ∷ rs) = highs_positive z rs
highs_positive z (Div m f ∷ rs) = highs_positive z rs
highs_positive z (Ge f ∷ rs) = by (lt_z (coef z f) (pos 0)) refl (highs_positive z rs)
  where
    by : (b : Bool) → lt_z (coef z f) (pos 0) ≡ b → ArePositive (highs z rs) → ArePositive (cond b (high_bound z f ∷ highs z rs) (highs z rs))
    by true e h = (high-size (coef z f) e, h)
    by false e h = h

-- the shadow of one upper row more
pub shadows-more : (low : Bound) (i : ℕ) (hs : List Bound) (whole done done2 : List Row) (high : Bound) (f : Affine) → Halfway (shadows_fit_with low hs) whole (shadows_fit_with low (drop i hs)) done (shadows_with low (drop i hs))
    → i < length hs → high ≡ get_or hs i high → Some f ≡ cond (shadow_fits low high) (Some (shadow_form low high)) None → done2 ≡ done ++ Ge f ∷ []
    → Halfway (shadows_fit_with low hs) whole (shadows_fit_with low (drop (i + 1) hs)) done2 (shadows_with low (drop (i + 1) hs))
shadows-more low i hs whole done done2 high f s h e m n =
    let d = drop-at hs i high h e in
    let t = made (shadow_fits low high) f (shadow_form low high) m in
    half-more _ whole _ (shadow_fits low high) _ done _ (Ge (shadow_form low high) ∷ []) done2 _ s (ap (λ (l : List Bound). shadows_fit_with low l) d) t.0 (ap (λ (l : List Bound). shadows_with low l) d) (n ∙ ap (λ (x : Affine). done ++ Ge x ∷ []) t.1)
  where
    made : {A : Type 0} (b : Bool) (x y : A) → Some x ≡ cond b (Some y) None → (b ≡ true) × (x ≡ y)
    made true x y e = (refl, cc)
    made false x y e = absurd cc

-- the rows before and behind a place
replaced-append : (z : ℕ) (g : Affine) (xs ys : List Row) → all_replaced_fit z g (xs ++ ys) ≡ (all_replaced_fit z g xs && all_replaced_fit z g ys)
replaced-append z g [] ys = refl
replaced-append z g (x ∷ xs) ys = rw (replaced-append z g xs ys, and-assoc (replaced_row_fits z g x) (all_replaced_fit z g xs) (all_replaced_fit z g ys)) refl

pub others_fit : (z : ℕ) (g : Affine) (i : ℕ) (rows : List Row) → all_replaced_fit z g (others i rows) ≡ (all_replaced_fit z g (take i rows) && all_replaced_fit z g (drop (i + 1) rows))
others_fit z g i rows = rw add-one (replaced-append z g (take i rows) (drop (suc i) rows))

pub others_map : (z : ℕ) (g : Affine) (i : ℕ) (rows : List Row) → map (replaced_row z g) (others i rows) ≡ map (replaced_row z g) (take i rows) ++ map (replaced_row z g) (drop (i + 1) rows)
others_map z g i rows = rw add-one (map-append (replaced_row z g) (take i rows) (drop (suc i) rows))

-- the rows before a place, then those behind it
pub others-made : (z : ℕ) (g : Affine) (i : ℕ) (rows front back start first : List Row) (last : Option (List Row)) → front ≡ take i rows → back ≡ drop (i + 1) rows → start ≡ []
    → Some first ≡ cond (all_replaced_fit z g front) (Some (start ++ map (replaced_row z g) front)) None → last ≡ cond (all_replaced_fit z g back) (Some (first ++ map (replaced_row z g) back)) None
    → last ≡ cond (all_replaced_fit z g (others i rows)) (Some (map (replaced_row z g) (others i rows))) None
others-made z g i rows front back start first last ef eb es m n =
    rw (others_fit z g i rows, others_map z g i rows)
    (by (all_replaced_fit z g (take i rows)) (all_replaced_fit z g (drop (i + 1) rows)) first (map (replaced_row z g) (take i rows)) (map (replaced_row z g) (drop (i + 1) rows)) last (rw (ef, es) at m) (rw eb at n))
  where
    by : (a b : Bool) (xs ys zs : List Row) (l : Option (List Row)) → Some xs ≡ cond a (Some ys) None → l ≡ cond b (Some (xs ++ zs)) None → l ≡ cond (a && b) (Some (ys ++ zs)) None
    by true b xs ys zs l e h = let same : xs ≡ ys = cc in rw (← same) h
    by false b xs ys zs l e h = absurd cc
