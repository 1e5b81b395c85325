-- What is read at a point without a column is the same at all points that differ there alone.
use Rattle.std.proofs.Common.{◌≡◌, ℕ, zero, suc, ℤ, pos, neg_ℤ, int_div, List, [], ◌∷◌, set, Option, Some, None, Bool, true, false, ◌&&◌, cond, Result, Ok, Err, IfOk, refl, sym, ap, ◌∙◌}
use Rattle.std.specs.Int.{int_div_euclid}
use Rattle.ac_forms.specs.Affine.{Affine, coef, value_at}
use Rattle.ac_forms.specs.Fits.{fits}
use Rattle.ac_forms.specs.FormStops.{MadeWhere}
use Rattle.ac_forms.specs.declared.stop.FormStop.{FormStop}
use Rattle.ac_forms.specs.declared.stop.FormStop.TheVariants.{Wide, Memory}
use Rattle.ac_forms.specs.RangeTests.{can_evaluate}
use Rattle.ac_forms.specs.declared.row.Row.{Row}
use Rattle.ac_forms.specs.declared.row.Row.TheVariants.{Eq, Div, Ge}
use Rattle.ac_omega_steps.specs.Bounds.{is_low, is_high, is_none, lows}
use Rattle.ac_omega_steps.specs.Choices.{rest_at, low_values, high_values, between, solved}
use Rattle.ac_omega_steps.specs.ChoiceFits.{low_values_fit, high_values_fit, between_fits, solved_fits}

pub set-set : {A : Type 0} (xs : List A) (i : ℕ) (v w : A) → set (set xs i v) i w ≡ set xs i w
set-set [] i v w = refl
set-set (x ∷ xs) zero v w = refl
set-set (x ∷ xs) (suc i) v w = ap (λ (l : List _). x ∷ l) (set-set xs i v w)

-- both points are the same without the column
abbrev pub AreSame : ℕ → List ℤ → List ℤ → Type 0
AreSame z p q = set p z (pos 0) ≡ set q z (pos 0)

rest-same : (z : ℕ) (f : Affine) (p q : List ℤ) → AreSame z p q → rest_at z f p ≡ rest_at z f q
rest-same z f p q e = ap (λ (x : List ℤ). value_at f x) e

low-same : (z : ℕ) (rs : List Row) (p q : List ℤ) → AreSame z p q → low_values z rs p ≡ low_values z rs q
low-same z [] p q e = refl
low-same z (Eq f ∷ rs) p q e = low-same z rs p q e
low-same z (Div m f ∷ rs) p q e = low-same z rs p q e
low-same z (Ge f ∷ rs) p q e = by (rest-same z f p q e) (low-same z rs p q e)
  where
    by : {v w : ℤ} {vs ws : List ℤ} → v ≡ w → vs ≡ ws → cond (is_low z f) (neg_ℤ (int_div_euclid v (coef z f)) ∷ vs) vs ≡ cond (is_low z f) (neg_ℤ (int_div_euclid w (coef z f)) ∷ ws) ws
    by {v} {w} {vs} {ws} h g = rw (h, g) refl

high-same : (z : ℕ) (rs : List Row) (p q : List ℤ) → AreSame z p q → high_values z rs p ≡ high_values z rs q
high-same z [] p q e = refl
high-same z (Eq f ∷ rs) p q e = high-same z rs p q e
high-same z (Div m f ∷ rs) p q e = high-same z rs p q e
high-same z (Ge f ∷ rs) p q e = by (rest-same z f p q e) (high-same z rs p q e)
  where
    by : {v w : ℤ} {vs ws : List ℤ} → v ≡ w → vs ≡ ws → cond (is_high z f) (int_div_euclid v (neg_ℤ (coef z f)) ∷ vs) vs ≡ cond (is_high z f) (int_div_euclid w (neg_ℤ (coef z f)) ∷ ws) ws
    by {v} {w} {vs} {ws} h g = rw (h, g) refl

can-same : (z : ℕ) (f : Affine) (p q : List ℤ) → AreSame z p q → can_evaluate f (set p z (pos 0)) ≡ can_evaluate f (set q z (pos 0))
can-same z f p q e = ap (λ (x : List ℤ). can_evaluate f x) e

low_fits-same : (z : ℕ) (rs : List Row) (p q : List ℤ) → AreSame z p q → low_values_fit z rs p ≡ low_values_fit z rs q
low_fits-same z [] p q e = refl
low_fits-same z (Eq f ∷ rs) p q e = low_fits-same z rs p q e
low_fits-same z (Div m f ∷ rs) p q e = low_fits-same z rs p q e
low_fits-same z (Ge f ∷ rs) p q e = by (can-same z f p q e) (rest-same z f p q e) (low_fits-same z rs p q e)
  where
    by : {a b c d : Bool} {v w : ℤ} → a ≡ b → v ≡ w → c ≡ d → cond (is_low z f) (a && (fits (neg_ℤ (int_div_euclid v (coef z f))) && c)) c ≡ cond (is_low z f) (b && (fits (neg_ℤ (int_div_euclid w (coef z f))) && d)) d
    by {a} {b} {c} {d} {v} {w} h g k = rw (h, g, k) refl

high_fits-same : (z : ℕ) (rs : List Row) (p q : List ℤ) → AreSame z p q → high_values_fit z rs p ≡ high_values_fit z rs q
high_fits-same z [] p q e = refl
high_fits-same z (Eq f ∷ rs) p q e = high_fits-same z rs p q e
high_fits-same z (Div m f ∷ rs) p q e = high_fits-same z rs p q e
high_fits-same z (Ge f ∷ rs) p q e = by (can-same z f p q e) (high_fits-same z rs p q e)
  where
    by : {a b c d : Bool} → a ≡ b → c ≡ d → cond (is_high z f) (a && (fits (neg_ℤ (coef z f)) && c)) c ≡ cond (is_high z f) (b && (fits (neg_ℤ (coef z f)) && d)) d
    by {a} {b} {c} {d} h g = rw (h, g) refl

pub between_same : (z : ℕ) (rs : List Row) (p q : List ℤ) → AreSame z p q → between (low_values z rs p) (high_values z rs p) ≡ between (low_values z rs q) (high_values z rs q)
between_same z rs p q e = ap (λ (x : List ℤ). between x (high_values z rs p)) (low-same z rs p q e) ∙ ap (λ (x : List ℤ). between (low_values z rs q) x) (high-same z rs p q e)

pub between_fits_same : (z : ℕ) (rs : List Row) (p q : List ℤ) → AreSame z p q → between_fits z rs p ≡ between_fits z rs q
between_fits_same z rs p q e = ap (λ (x : Bool). cond (is_none (lows z rs)) x (low_values_fit z rs p)) (high_fits-same z rs p q e) ∙ ap (λ (x : Bool). cond (is_none (lows z rs)) (high_values_fit z rs q) x) (low_fits-same z rs p q e)

pub solved_same : (z : ℕ) (o : Option Row) (p q : List ℤ) → AreSame z p q → solved z o p ≡ solved z o q
solved_same z None p q e = refl
solved_same z (Some (Ge f)) p q e = refl
solved_same z (Some (Div m f)) p q e = refl
solved_same z (Some (Eq f)) p q e = ap (λ (v : ℤ). int_div (neg_ℤ v) (coef z f)) (rest-same z f p q e)

pub solved_fits_same : (z : ℕ) (o : Option Row) (p q : List ℤ) → AreSame z p q → solved_fits z o p ≡ solved_fits z o q
solved_fits_same z None p q e = refl
solved_fits_same z (Some (Ge f)) p q e = refl
solved_fits_same z (Some (Div m f)) p q e = refl
solved_fits_same z (Some (Eq f)) p q e = by (can-same z f p q e) (rest-same z f p q e) (solved_same z (Some (Eq f)) p q e)
  where
    by : {a b : Bool} {v w s t : ℤ} → a ≡ b → v ≡ w → s ≡ t → (a && (fits (neg_ℤ v) && fits s)) ≡ (b && (fits (neg_ℤ w) && fits t))
    by {a} {b} {v} {w} {s} {t} h g i = rw (h, g, i) refl

-- a point that was cleared
pub is_cleared : (p q : List ℤ) (z : ℕ) → q ≡ set p z (pos 0) → set q z (pos 0) ≡ q
is_cleared p q z e = rw e (set-set p z (pos 0) (pos 0))

pub same_cleared : (p q : List ℤ) (z : ℕ) → q ≡ set p z (pos 0) → AreSame z q p
same_cleared p q z e = rw e (set-set p z (pos 0) (pos 0))

pub between_made : (z : ℕ) (rows : List Row) (p q out : List ℤ) (v : ℤ) → q ≡ set p z (pos 0) → (between_fits z rows q ≡ true) × (v ≡ between (low_values z rows q) (high_values z rows q)) → out ≡ set p z v
    → (between_fits z rows p ≡ true) × (out ≡ set p z (between (low_values z rows p) (high_values z rows p)))
between_made z rows p q out v e h o =
    let s = same_cleared p q z e in
    (sym (between_fits_same z rows q p s) ∙ h.0, o ∙ ap (λ (x : ℤ). set p z x) (h.1 ∙ between_same z rows q p s))

pub between_left : (z : ℕ) (rows : List Row) (p q : List ℤ) → q ≡ set p z (pos 0) → ¬ (between_fits z rows q ≡ true) → ¬ (between_fits z rows p ≡ true)
between_left z rows p q e h t = h (between_fits_same z rows q p (same_cleared p q z e) ∙ t)

pub solved_made : (z : ℕ) (o : Option Row) (p q out : List ℤ) (v : ℤ) → q ≡ set p z (pos 0) → Some v ≡ cond (solved_fits z o q) (Some (solved z o q)) None → out ≡ set p z v → (solved_fits z o p ≡ true) × (out ≡ set p z (solved z o p))
solved_made z o p q out v e h g =
    let s = same_cleared p q z e in
    let m = made (solved_fits z o q) v (solved z o q) h in
    (sym (solved_fits_same z o q p s) ∙ m.0, g ∙ ap (λ (x : ℤ). set p z x) (m.1 ∙ solved_same z o q p s))
  where
    made : (b : Bool) (x y : ℤ) → Some x ≡ cond b (Some y) None → (b ≡ true) × (x ≡ y)
    made true x y e = (refl, cc)
    made false x y e = absurd cc

pub solved_left : (z : ℕ) (o : Option Row) (p q : List ℤ) → q ≡ set p z (pos 0) → None ≡ cond (solved_fits z o q) (Some (solved z o q)) None → solved_fits z o p ≡ true → ⊥
solved_left z o p q e h t = none (solved_fits z o q) (solved z o q) h (solved_fits_same z o q p (same_cleared p q z e) ∙ t)
  where
    none : (b : Bool) (y : ℤ) → None ≡ cond b (Some y) None → b ≡ true → ⊥
    none true y e t = cc
    none false y e t = cc

-- what holds of each value that is made
pub made_where : {T : Type 0} (r : Result T FormStop) (P : Type 0) (Q R : T → Type 0) → ((x : T) → Q x → R x) → MadeWhere r P Q → IfOk r R
made_where (Ok x) P Q R f h = f x h.1
made_where (Err Wide) P Q R f h = tt
made_where (Err (Memory e)) P Q R f h = tt
