-- Where the rows hold, so does the dark shadow, or the point is on a splinter of a lower row with a pair that is not exact.
use Rattle.std.proofs.Common.{◌≡◌, ◌↔◌, ◌⊎◌, inl, inr, ℕ, zero, suc, ◌<◌, ℤ, pos, negsuc, ◌+ℤ◌, ◌-ℤ◌, ◌*ℤ◌, ◌≤ℤ◌, ◌<ℤ◌, Bool, true, false, cond, List, [], ◌∷◌, length, set, slice_get, Option, Some, arith, refl, sym, ◌∙◌}
use Rattle.std.specs.Int.{int_div_euclid}
use Rattle.std.specs.Int.Signed.{lt_z}
use Rattle.std.proofs.lemmas.Int.{ints, by_lt_z}
use Rattle.ac_base.proofs.Floor.{floor_high}
use Rattle.ac_base.proofs.Products.{mul-le-mul_ℤ, mul-add_ℤ}
use Rattle.ac_base.proofs.Ring.{ring_steps, same_diff, by_diff_5}
use Rattle.ac_base.proofs.Shadows.{dark_without_splinter}
use Rattle.ac_forms.specs.Affine.{Affine, coef, value_at}
use Rattle.ac_forms.specs.Rows.{Meets}
use Rattle.ac_forms.specs.declared.row.Row.{Row}
use Rattle.ac_forms.specs.declared.row.Row.TheVariants.{Eq, Div, Ge}
use Rattle.ac_forms.proofs.Values.{value_at-combined}
use Rattle.ac_omega_steps.specs.declared.column.Bound.{Bound}
use Rattle.ac_omega_steps.specs.declared.choose.Choice.TheVariants as choice
use Rattle.ac_omega_steps.specs.Bounds.{without, is_low, low_bound, lows, highs, rows_without, only_bounds, last_splinter}
use Rattle.ac_omega_steps.specs.Choices.{left_by, shadow_form, shadows_with, shadows, splinter}
use Rattle.ac_omega_steps.proofs.OneColumn.{value-split, meets-free, meets-both, meets-first, meets-second}
use Rattle.ac_omega_steps.proofs.ColumnParts.{AllBelow, HaveSizes, parts, high-sizes}
use Rattle.ac_omega_steps.proofs.DarkShadows.{shadow-value, less_one, between-lifts}
use Rattle.ac_omega_steps.proofs.Lifting.{left-free}
use Rattle.ac_omega_exact.specs.Exact.{real_form, LosesNothing, Needs, SufficesFor, Suffices, IsOnNeeded, HasNumber, HasSplinter}

-- the quotient rounded down is the greatest number whose product is at most x
le-floor : (d x n : ℤ) → pos 1 ≤ℤ d → (d *ℤ n) ≤ℤ x → n ≤ℤ int_div_euclid x d
le-floor (negsuc d) x n h l = absurd (omega (arith, ints))
le-floor (pos d) x n h l =
    by_lt_z (int_div_euclid x (pos d)) n
    (λ below.
    let m : (int_div_euclid x (pos d) +ℤ pos 1) ≤ℤ n = omega (arith, ints) in
    let s = mul-le-mul_ℤ d (int_div_euclid x (pos d) +ℤ pos 1) n m in
    let t = mul-add_ℤ (pos d) (int_div_euclid x (pos d)) (pos 1) in
    let f = floor_high x (pos d) h in
    absurd (omega (arith, ints, s, t, f)))
    (λ h. h)

-- a number below the bound of the splinters
up-to-last : (a b : ℤ) (n : ℕ) → pos 1 ≤ℤ a → pos 1 ≤ℤ b → (a *ℤ pos n) <ℤ ((a -ℤ pos 1) *ℤ (b -ℤ pos 1)) → pos n ≤ℤ last_splinter a b
up-to-last (pos (suc a)) (pos (suc b)) n la lb l =
    let m = rw (less_one a, less_one b) at l in
    le-floor (pos (suc a)) _ (pos n) la (omega (arith, ints, m))
up-to-last (pos zero) b n la lb l = absurd (omega (arith, ints))
up-to-last (negsuc a) b n la lb l = absurd (omega (arith, ints))
up-to-last (pos (suc a)) (pos zero) n la lb l = absurd (omega (arith, ints))
up-to-last (pos (suc a)) (negsuc b) n la lb l = absurd (omega (arith, ints))

-- past the splinters the dark shadow holds
past-splinters : (a c b : ℤ) (n : ℕ) (v e f : ℤ) → pos 1 ≤ℤ a → a ≤ℤ c → pos 1 ≤ℤ b → b *ℤ v +ℤ e ≡ pos n → (a *ℤ v) ≤ℤ f → ((c -ℤ pos 1) *ℤ (b -ℤ pos 1)) ≤ℤ (c *ℤ pos n)
    → pos 0 ≤ℤ (a *ℤ e +ℤ b *ℤ f -ℤ (a -ℤ pos 1) *ℤ (b -ℤ pos 1))
past-splinters (pos (suc a)) (pos (suc c)) (pos (suc b)) n v e f la lc lb is high past =
    let m = rw (less_one c, less_one b) at past in
    let d = dark_without_splinter a c b n v e f (omega (arith, ints)) is high (omega (arith, ints, m)) in
    rw (less_one a, less_one b) (omega (arith, ints, d))
past-splinters (pos zero) c b n v e f la lc lb is high past = absurd (omega (arith, ints))
past-splinters (negsuc a) c b n v e f la lc lb is high past = absurd (omega (arith, ints))
past-splinters (pos (suc a)) (pos zero) b n v e f la lc lb is high past = absurd (omega (arith, ints))
past-splinters (pos (suc a)) (negsuc c) b n v e f la lc lb is high past = absurd (omega (arith, ints))
past-splinters (pos (suc a)) (pos (suc c)) (pos zero) n v e f la lc lb is high past = absurd (omega (arith, ints))
past-splinters (pos (suc a)) (pos (suc c)) (negsuc b) n v e f la lc lb is high past = absurd (omega (arith, ints))

shadow_sum : (a b z e f : ℤ) → a *ℤ (b *ℤ z +ℤ e) +ℤ b *ℤ (f -ℤ a *ℤ z) ≡ a *ℤ e +ℤ b *ℤ f
shadow_sum = by_diff_5 (λ a b z e f. a *ℤ (b *ℤ z +ℤ e) +ℤ b *ℤ (f -ℤ a *ℤ z) ≡ a *ℤ e +ℤ b *ℤ f) (λ a a' b b' c c' d d' e e'. simp ring_steps (same_diff _ _ _ _ (omega arith)))

times_sign : (a x : ℤ) → pos 1 ≤ℤ a → pos 0 ≤ℤ x → pos 0 ≤ℤ (a *ℤ x)
times_sign (pos a) x h g = let m = mul-le-mul_ℤ a (pos 0) x g in omega (arith, ints, m)
times_sign (negsuc a) x h g = absurd (omega (arith, ints))

-- where a number stands between the bounds, the real shadow holds
real-holds : (low high : Bound) (p : List ℤ) (v : ℤ) → pos 1 ≤ℤ low.size → pos 1 ≤ℤ high.size → pos 0 ≤ℤ (low.size *ℤ v +ℤ value_at low.rest p) → (high.size *ℤ v) ≤ℤ value_at high.rest p → pos 0 ≤ℤ value_at (real_form low high) p
real-holds low high p v lb la h g =
    let x = times_sign high.size _ la h in
    let y = times_sign low.size (value_at high.rest p -ℤ high.size *ℤ v) lb (omega (arith, ints, g)) in
    let s = shadow_sum high.size low.size v (value_at low.rest p) (value_at high.rest p) in
    rw (value_at-combined high.size low.rest low.size high.rest p) (rw (← s) (omega (arith, ints, x, y)))

-- past the splinters that it needs, the dark shadows of a lower bound hold
all-past : (rows : List Row) (c : ℤ) (low : Bound) (hs : List Bound) (p : List ℤ) (n : ℕ) (v : ℤ) → Meets rows p → SufficesFor rows low c hs → pos 1 ≤ℤ low.size → HaveSizes hs → low.size *ℤ v +ℤ value_at low.rest p ≡ pos n → AllBelow hs p v
    → ((c -ℤ pos 1) *ℤ (low.size -ℤ pos 1)) ≤ℤ (c *ℤ pos n) → Meets (shadows_with low hs) p
all-past rows c low [] p n v m k lb s is high past = tt
all-past rows c low (h ∷ hs) p n v m k lb s is high past = (by k.0, all-past rows c low hs p n v m k.1 lb s.1 is high.1 past)
  where
    by : LosesNothing rows low h ⊎ (h.size ≤ℤ c) → pos 0 ≤ℤ value_at (shadow_form low h) p
    by (inl e) = e p m (real-holds low h p v lb s.0 (rw is (omega (arith, ints))) high.0)
    by (inr l) = rw (shadow-value low h p) (past-splinters h.size c low.size n v (value_at low.rest p) (value_at h.rest p) s.0 l lb is high.0 past)

-- the lower row at a place is worth so much at the point, at most the last splinter that it needs
record IsWorth (need : Needs) (z : ℕ) (rows : List Row) (p : List ℤ) : Type 0 where
  place : ℕ
  form : Affine
  worth : ℕ
  at : slice_get rows place ≡ Some (Ge form)
  low : is_low z form ≡ true
  within : pos worth ≤ℤ last_splinter (need form) (coef z form)
  is : value_at form p ≡ pos worth

worth-later : (need : Needs) (z : ℕ) (r : Row) (rows : List Row) (p : List ℤ) → IsWorth need z rows p → IsWorth need z (r ∷ rows) p
worth-later need z r rows p w = record { place = suc w.place; form = w.form; worth = w.worth; at = w.at; low = w.low; within = w.within; is = w.is }

as_pos : (x : ℤ) → pos 0 ≤ℤ x → (n : ℕ) × (x ≡ pos n)
as_pos (pos n) h = (n, refl)
as_pos (negsuc n) h = absurd (omega (arith, ints))

low-positive : (c : ℤ) → lt_z (pos 0) c ≡ true → pos 1 ≤ℤ c
low-positive c e = grind (arith, ints, e)

-- one lower row: its dark shadows hold, or it is on a splinter
one-row : (need : Needs) (z : ℕ) (f : Affine) (rows_without : List Row) (hs : List Bound) (rows : List Row) (p : List ℤ) (v : ℤ) → z < length p → Meets rows_without p → pos 1 ≤ℤ need f → SufficesFor rows_without (low_bound z f) (need f) hs → HaveSizes hs → AllBelow hs p v → is_low z f ≡ true → pos 0 ≤ℤ value_at f (set p z v)
    → Meets (shadows_with (low_bound z f) hs) p ⊎ IsWorth need z (Ge f ∷ rows) (set p z v)
one-row need z f rows_without hs rows p v l m la k s high e h =
    let n = as_pos (value_at f (set p z v)) h in
    let b = low-positive (coef z f) e in
    let is : coef z f *ℤ v +ℤ value_at (without z f) p ≡ pos n.0 = sym (value-split f p z v l) ∙ n.1 in
    by_lt_z (need f *ℤ pos n.0) ((need f -ℤ pos 1) *ℤ (coef z f -ℤ pos 1))
    (λ below. inr (record { place = zero; form = f; worth = n.0; at = refl; low = e; within = up-to-last (need f) (coef z f) n.0 la b below; is = n.1 }))
    (λ past. inl (all-past rows_without (need f) (low_bound z f) hs p n.0 v m k b s is high past))

all-rows : (need : Needs) (z : ℕ) (rows_without : List Row) (hs : List Bound) (rows : List Row) (p : List ℤ) (v : ℤ) → z < length p → Meets rows_without p → ((f : Affine) → is_low z f ≡ true → (pos 1 ≤ℤ need f) × SufficesFor rows_without (low_bound z f) (need f) hs) → HaveSizes hs → AllBelow hs p v → Meets rows (set p z v)
    → Meets (shadows (lows z rows) hs) p ⊎ IsWorth need z rows (set p z v)
all-rows need z rows_without hs [] p v l m k s high h = inl tt
all-rows need z rows_without hs (Eq f ∷ rows) p v l m k s high h = elim (all-rows need z rows_without hs rows p v l m k s high h.1) [ inl x ↦ inl x | inr w ↦ inr (worth-later need z (Eq f) rows (set p z v) w) ]
all-rows need z rows_without hs (Div n f ∷ rows) p v l m k s high h = elim (all-rows need z rows_without hs rows p v l m k s high h.1) [ inl x ↦ inl x | inr w ↦ inr (worth-later need z (Div n f) rows (set p z v) w) ]
all-rows need z rows_without hs (Ge f ∷ rows) p v l m k s high h = elim (all-rows need z rows_without hs rows p v l m k s high h.1) [ inl x ↦ by (is_low z f) refl x | inr w ↦ inr (worth-later need z (Ge f) rows (set p z v) w) ]
  where
    by : (t : Bool) → is_low z f ≡ t → Meets (shadows (lows z rows) hs) p → Meets (shadows (cond t (low_bound z f ∷ lows z rows) (lows z rows)) hs) p ⊎ IsWorth need z (Ge f ∷ rows) (set p z v)
    by false e x = inl x
    by true e x = elim (one-row need z f rows_without hs rows p v l m (k f e).0 (k f e).1 s high e h.0) [ inl y ↦ inl (meets-both (shadows_with (low_bound z f) hs) (shadows (lows z rows) hs) p y x) | inr w ↦ inr w ]

splinter-at : (k : ℕ) (o : Option Row) (f : Affine) (rows : List Row) (p : List ℤ) → o ≡ Some (Ge f) → value_at f p ≡ pos k → Meets rows p → Meets (splinter (pos k) o rows) p
splinter-at k o f rows p e is h = rw e (meets-both rows (Eq (record { konst = f.konst -ℤ pos k; coefs = f.coefs }) ∷ []) p h (omega (arith, ints, is), tt))

on-splinter : (need : Needs) (z : ℕ) (rows : List Row) (p : List ℤ) → Meets rows p → IsWorth need z rows p → IsOnNeeded need z rows p
on-splinter need z rows p h w = record { place = w.place; form = w.form; worth = w.worth; at = w.at; low = w.low; within = w.within; meets = splinter-at w.worth (slice_get rows w.place) w.form rows p w.at w.is h }

-- where only bounds have the column, the dark shadow holds, or the point is on a splinter that is needed
pub covers-needed : (need : Needs) (z : ℕ) (rows : List Row) (p : List ℤ) (v : ℤ) → z < length p → only_bounds z rows ≡ true → Suffices need z rows → Meets rows (set p z v)
    → Meets (left_by (choice.Shadow z) rows) (set p z v) ⊎ IsOnNeeded need z rows (set p z v)
covers-needed need z rows p v l o k h =
    let g = parts z rows p v l o h in
    elim (all-rows need z (rows_without z rows) (highs z rows) rows p v l g.free k (high-sizes z rows) g.high h) [
      | inl s ↦ inl ((meets-free (left_by (choice.Shadow z) rows) p z v l (left-free (choice.Shadow z) rows o refl)).1 (meets-both (rows_without z rows) (shadows (lows z rows) (highs z rows)) p g.free s))
      | inr w ↦ inr (on-splinter need z rows (set p z v) h w)
    ]

splinter-rows : (k : ℤ) (o : Option Row) (rows : List Row) (p : List ℤ) (f : Affine) → o ≡ Some (Ge f) → Meets (splinter k o rows) p → Meets rows p
splinter-rows k o rows p f e m = meets-first rows (Eq (record { konst = f.konst -ℤ k; coefs = f.coefs }) ∷ []) p (rw e at m)

-- exactly: a number for the column exists where the dark shadow holds, or one with which the point is on a needed splinter
pub exactly-needed : (need : Needs) (z : ℕ) (rows : List Row) (p : List ℤ) → z < length p → only_bounds z rows ≡ true → Suffices need z rows
    → HasNumber z rows p ↔ (Meets (left_by (choice.Shadow z) rows) p ⊎ HasSplinter need z rows p)
exactly-needed need z rows p l o k = (
  (λ h. elim (covers-needed need z rows p h.0 l o k h.1) [
    | inl s ↦ inl ((meets-free (left_by (choice.Shadow z) rows) p z h.0 l (left-free (choice.Shadow z) rows o refl)).0 s)
    | inr w ↦ inr (h.0, w)
  ]),
  (λ h. elim h [
    | inl s ↦ (_, between-lifts z rows p l o (meets-first (rows_without z rows) (shadows (lows z rows) (highs z rows)) p s) (meets-second (rows_without z rows) (shadows (lows z rows) (highs z rows)) p s))
    | inr w ↦ (w.0, splinter-rows (pos w.1.worth) (slice_get rows w.1.place) rows (set p z w.0) w.1.form w.1.at w.1.meets)
  ]),
)
