-- Each point of the rows goes on to one of what a choice leaves.
use Rattle.std.proofs.Common.{◌≡◌, ◌⊎◌, inl, inr, ℕ, zero, suc, ◌<◌, ◌≤◌, ℤ, pos, negsuc, ◌+ℤ◌, ◌-ℤ◌, ◌*ℤ◌, ◌≤ℤ◌, ◌<ℤ◌, Bool, true, false, cond, List, [], ◌∷◌, length, set, slice_get, Option, Some, arith, refl, sym, ◌∙◌}
use Rattle.std.specs.Int.{int_div_euclid}
use Rattle.std.specs.Int.Signed.{lt_z}
use Rattle.std.proofs.lemmas.Int.{ints, clamps, by_lt_z}
use Rattle.ac_base.proofs.Floor.{floor_high}
use Rattle.ac_base.proofs.Products.{mul-le-mul_ℤ, mul-add_ℤ}
use Rattle.ac_base.proofs.Shadows.{dark_without_splinter}
use Rattle.ac_forms.specs.Affine.{Affine, coef, value_at}
use Rattle.ac_forms.specs.Rows.{Meets}
use Rattle.ac_forms.specs.declared.row.Row.{Row}
use Rattle.ac_forms.specs.declared.row.Row.TheVariants.{Eq, Div, Ge}
use Rattle.ac_omega_steps.specs.declared.column.Bound.{Bound}
use Rattle.ac_omega_steps.specs.declared.choose.Choice.TheVariants as choice
use Rattle.ac_omega_steps.specs.Bounds.{without, is_low, low_bound, lows, highs, rows_without, only_bounds, greatest_size, last_splinter}
use Rattle.ac_forms.specs.RowColumns.{has_column}
use Rattle.ac_omega_steps.specs.Choices.{is_equality_of, left_by, shadows_with, shadows, splinter}
use Rattle.ac_omega_steps.specs.Splinters.{IsOnSplinter}
use Rattle.ac_omega_steps.proofs.OneColumn.{value-split, meets-free, meets-both}
use Rattle.ac_omega_steps.proofs.ColumnParts.{AllBelow, HaveSizes, parts, high-sizes}
use Rattle.ac_omega_steps.proofs.DarkShadows.{shadow-value, less_one, no-highs}
use Rattle.ac_omega_steps.proofs.Equalities.{equality-covers}
use Rattle.ac_omega_steps.proofs.Spreads.{residue-covers}
use Rattle.ac_omega_steps.proofs.Lifting.{left-free}

pub covers-equal : (z i : ℕ) (rows : List Row) (p : List ℤ) (v : ℤ) → z < length p → is_equality_of z (slice_get rows i) ≡ true → Meets rows (set p z v) → Meets (left_by (choice.Equal z i) rows) (set p z v)
covers-equal z i rows p v l e h = equality-covers z i (slice_get rows i) rows p v l refl e h

pub covers-residue : (z m : ℕ) (rows : List Row) (p : List ℤ) (v : ℤ) → z < length p → 1 ≤ m → Meets rows (set p z v)
    → (r : ℕ) × (r < m) × (w : ℤ) × Meets (left_by (choice.Residue z (pos m) (pos r)) rows) (set p z w)
covers-residue z m rows p v l e h = residue-covers rows p z m v l (omega arith) h

rows_without-meet : (z : ℕ) (rows : List Row) (p : List ℤ) → Meets rows p → Meets (rows_without z rows) p
rows_without-meet z [] p h = tt
rows_without-meet z (r ∷ rs) p h = by (has_column z r) (rows_without-meet z rs p h.1)
  where
    by : (t : Bool) → Meets (rows_without z rs) p → Meets (cond t (rows_without z rs) (r ∷ rows_without z rs)) p
    by true g = g
    by false g = (h.0, g)

pub covers-drop : (z : ℕ) (rows : List Row) (p : List ℤ) → Meets rows p → Meets (left_by (choice.Drop z) rows) p
covers-drop z rows p h = rows_without-meet z rows p h

-- sizes up to the greatest
AreAtMost : ℤ → List Bound → Type 0
AreAtMost a [] = Unit {0}
AreAtMost a (b ∷ bs) = (b.size ≤ℤ a) × AreAtMost a bs

at-most-more : (a c : ℤ) (bs : List Bound) → a ≤ℤ c → AreAtMost a bs → AreAtMost c bs
unfolding AreAtMost
at-most-more a c [] l h = tt
at-most-more a c (b ∷ bs) l h = let m = h.0 in (omega (arith, ints), at-most-more a c bs l h.1)

at-most-greatest : (bs : List Bound) → AreAtMost (greatest_size bs) bs
unfolding AreAtMost
at-most-greatest [] = tt
at-most-greatest (b ∷ bs) = (omega (arith, ints, clamps), at-most-more (greatest_size bs) _ bs (omega (arith, ints, clamps)) (at-most-greatest bs))

greatest-positive : (b : Bound) (bs : List Bound) → pos 1 ≤ℤ b.size → pos 1 ≤ℤ greatest_size (b ∷ bs)
greatest-positive b bs h = omega (arith, ints, clamps)

-- the quotient rounded down is the greatest number whose product is at most x
le-floor : (d x n : ℤ) → pos 1 ≤ℤ d → (d *ℤ n) ≤ℤ x → n ≤ℤ int_div_euclid x d
le-floor (negsuc d) x n h l = absurd (omega (arith, ints))
le-floor (pos d) x n h l =
    by_lt_z (int_div_euclid x (pos d)) n
    (λ below.
    let m : (int_div_euclid x (pos d) +ℤ pos 1) ≤ℤ n = omega (arith, ints) in
    let s = mul-le-mul_ℤ d (int_div_euclid x (pos d) +ℤ pos 1) n m in
    let t = mul-add_ℤ (pos d) (int_div_euclid x (pos d)) (pos 1) in
    let f = floor_high x (pos d) h in
    absurd (omega (arith, ints, s, t, f)))
    (λ h. h)

-- a number below the bound of the splinters
up-to-last : (a b : ℤ) (n : ℕ) → pos 1 ≤ℤ a → pos 1 ≤ℤ b → (a *ℤ pos n) <ℤ ((a -ℤ pos 1) *ℤ (b -ℤ pos 1)) → pos n ≤ℤ last_splinter a b
up-to-last (pos (suc a)) (pos (suc b)) n la lb l =
    let m = rw (less_one a, less_one b) at l in
    le-floor (pos (suc a)) _ (pos n) la (omega (arith, ints, m))
up-to-last (pos zero) b n la lb l = absurd (omega (arith, ints))
up-to-last (negsuc a) b n la lb l = absurd (omega (arith, ints))
up-to-last (pos (suc a)) (pos zero) n la lb l = absurd (omega (arith, ints))
up-to-last (pos (suc a)) (negsuc b) n la lb l = absurd (omega (arith, ints))

-- past the splinters the dark shadow holds
past-splinters : (a c b : ℤ) (n : ℕ) (v e f : ℤ) → pos 1 ≤ℤ a → a ≤ℤ c → pos 1 ≤ℤ b → b *ℤ v +ℤ e ≡ pos n → (a *ℤ v) ≤ℤ f → ((c -ℤ pos 1) *ℤ (b -ℤ pos 1)) ≤ℤ (c *ℤ pos n)
    → pos 0 ≤ℤ (a *ℤ e +ℤ b *ℤ f -ℤ (a -ℤ pos 1) *ℤ (b -ℤ pos 1))
past-splinters (pos (suc a)) (pos (suc c)) (pos (suc b)) n v e f la lc lb is high past =
    let m = rw (less_one c, less_one b) at past in
    let d = dark_without_splinter a c b n v e f (omega (arith, ints)) is high (omega (arith, ints, m)) in
    rw (less_one a, less_one b) (omega (arith, ints, d))
past-splinters (pos zero) c b n v e f la lc lb is high past = absurd (omega (arith, ints))
past-splinters (negsuc a) c b n v e f la lc lb is high past = absurd (omega (arith, ints))
past-splinters (pos (suc a)) (pos zero) b n v e f la lc lb is high past = absurd (omega (arith, ints))
past-splinters (pos (suc a)) (negsuc c) b n v e f la lc lb is high past = absurd (omega (arith, ints))
past-splinters (pos (suc a)) (pos (suc c)) (pos zero) n v e f la lc lb is high past = absurd (omega (arith, ints))
past-splinters (pos (suc a)) (pos (suc c)) (negsuc b) n v e f la lc lb is high past = absurd (omega (arith, ints))

all-past : (c : ℤ) (low : Bound) (hs : List Bound) (p : List ℤ) (n : ℕ) (v : ℤ) → pos 1 ≤ℤ low.size → HaveSizes hs → AreAtMost c hs → low.size *ℤ v +ℤ value_at low.rest p ≡ pos n → AllBelow hs p v → ((c -ℤ pos 1) *ℤ (low.size -ℤ pos 1)) ≤ℤ (c *ℤ pos n)
    → Meets (shadows_with low hs) p
unfolding AreAtMost
all-past c low [] p n v lb s m is high past = tt
all-past c low (b ∷ hs) p n v lb s m is high past =
    (rw (shadow-value low b p) (past-splinters b.size c low.size n v (value_at low.rest p) (value_at b.rest p) s.0 m.0 lb is high.0 past), all-past c low hs p n v lb s.1 m.1 is high.1 past)

-- the lower row at a place is worth so much at the point, at most its last splinter
record IsWorth (z : ℕ) (a : ℤ) (rows : List Row) (p : List ℤ) : Type 0 where
  place : ℕ
  form : Affine
  worth : ℕ
  at : slice_get rows place ≡ Some (Ge form)
  low : is_low z form ≡ true
  within : pos worth ≤ℤ last_splinter a (coef z form)
  is : value_at form p ≡ pos worth

worth-later : (z : ℕ) (a : ℤ) (r : Row) (rows : List Row) (p : List ℤ) → IsWorth z a rows p → IsWorth z a (r ∷ rows) p
worth-later z a r rows p w = record { place = suc w.place; form = w.form; worth = w.worth; at = w.at; low = w.low; within = w.within; is = w.is }

as_pos : (x : ℤ) → pos 0 ≤ℤ x → (n : ℕ) × (x ≡ pos n)
as_pos (pos n) h = (n, refl)
as_pos (negsuc n) h = absurd (omega (arith, ints))

low-positive : (c : ℤ) → lt_z (pos 0) c ≡ true → pos 1 ≤ℤ c
low-positive c e = grind (arith, ints, e)

-- one lower row: past its splinters, or on one of them
one-row : (z : ℕ) (a : ℤ) (f : Affine) (hs : List Bound) (rows : List Row) (p : List ℤ) (v : ℤ) → z < length p → pos 1 ≤ℤ a → HaveSizes hs → AreAtMost a hs → AllBelow hs p v → is_low z f ≡ true → pos 0 ≤ℤ value_at f (set p z v)
    → Meets (shadows_with (low_bound z f) hs) p ⊎ IsWorth z a (Ge f ∷ rows) (set p z v)
one-row z a f hs rows p v l la s m high e h =
    let n = as_pos (value_at f (set p z v)) h in
    let b = low-positive (coef z f) e in
    let is : coef z f *ℤ v +ℤ value_at (without z f) p ≡ pos n.0 = sym (value-split f p z v l) ∙ n.1 in
    by_lt_z (a *ℤ pos n.0) ((a -ℤ pos 1) *ℤ (coef z f -ℤ pos 1))
    (λ below. inr (record { place = zero; form = f; worth = n.0; at = refl; low = e; within = up-to-last a (coef z f) n.0 la b below; is = n.1 }))
    (λ past. inl (all-past a (low_bound z f) hs p n.0 v b s m is high past))

all-rows : (z : ℕ) (a : ℤ) (hs : List Bound) (rows : List Row) (p : List ℤ) (v : ℤ) → z < length p → pos 1 ≤ℤ a → HaveSizes hs → AreAtMost a hs → AllBelow hs p v → Meets rows (set p z v)
    → Meets (shadows (lows z rows) hs) p ⊎ IsWorth z a rows (set p z v)
all-rows z a hs [] p v l la s m high h = inl tt
all-rows z a hs (Eq f ∷ rows) p v l la s m high h = elim (all-rows z a hs rows p v l la s m high h.1) [ inl x ↦ inl x | inr w ↦ inr (worth-later z a (Eq f) rows (set p z v) w) ]
all-rows z a hs (Div n f ∷ rows) p v l la s m high h = elim (all-rows z a hs rows p v l la s m high h.1) [ inl x ↦ inl x | inr w ↦ inr (worth-later z a (Div n f) rows (set p z v) w) ]
all-rows z a hs (Ge f ∷ rows) p v l la s m high h = elim (all-rows z a hs rows p v l la s m high h.1) [ inl x ↦ by (is_low z f) refl x | inr w ↦ inr (worth-later z a (Ge f) rows (set p z v) w) ]
  where
    by : (t : Bool) → is_low z f ≡ t → Meets (shadows (lows z rows) hs) p → Meets (shadows (cond t (low_bound z f ∷ lows z rows) (lows z rows)) hs) p ⊎ IsWorth z a (Ge f ∷ rows) (set p z v)
    by false e x = inl x
    by true e x = elim (one-row z a f hs rows p v l la s m high e h.0) [ inl y ↦ inl (meets-both (shadows_with (low_bound z f) hs) (shadows (lows z rows) hs) p y x) | inr w ↦ inr w ]

splinter-at : (k : ℕ) (o : Option Row) (f : Affine) (rows : List Row) (p : List ℤ) → o ≡ Some (Ge f) → value_at f p ≡ pos k → Meets rows p → Meets (splinter (pos k) o rows) p
splinter-at k o f rows p e is h = rw e (meets-both rows (Eq (record { konst = f.konst -ℤ pos k; coefs = f.coefs }) ∷ []) p h (omega (arith, ints, is), tt))

on-splinter : (z : ℕ) (rows : List Row) (p : List ℤ) → Meets rows p → IsWorth z (greatest_size (highs z rows)) rows p → IsOnSplinter z rows p
on-splinter z rows p h w = record { place = w.place; form = w.form; worth = w.worth; at = w.at; low = w.low; within = w.within; meets = splinter-at w.worth (slice_get rows w.place) w.form rows p w.at w.is h }

shadow-or-splinter : (z : ℕ) (hs : List Bound) (rows : List Row) (p : List ℤ) (v : ℤ) → z < length p → HaveSizes hs → AllBelow hs p v → Meets rows (set p z v) → Meets (shadows (lows z rows) hs) p ⊎ IsWorth z (greatest_size hs) rows (set p z v)
shadow-or-splinter z [] rows p v l s high h = inl (no-highs (lows z rows) p)
shadow-or-splinter z (b ∷ hs) rows p v l s high h =
    all-rows z (greatest_size (b ∷ hs)) (b ∷ hs) rows p v l (greatest-positive b hs s.0) s (at-most-greatest (b ∷ hs)) high h

-- where only bounds have the column, the dark shadow holds or the point is on a splinter
pub covers-bounds : (z : ℕ) (rows : List Row) (p : List ℤ) (v : ℤ) → z < length p → only_bounds z rows ≡ true → Meets rows (set p z v)
    → Meets (left_by (choice.Shadow z) rows) (set p z v) ⊎ IsOnSplinter z rows (set p z v)
covers-bounds z rows p v l o h =
    let g = parts z rows p v l o h in
    elim (shadow-or-splinter z (highs z rows) rows p v l (high-sizes z rows) g.high h) [
      | inl s ↦ inl ((meets-free (left_by (choice.Shadow z) rows) p z v l (left-free (choice.Shadow z) rows o refl)).1 (meets-both (rows_without z rows) (shadows (lows z rows) (highs z rows)) p g.free s))
      | inr w ↦ inr (on-splinter z rows (set p z v) h w)
    ]
