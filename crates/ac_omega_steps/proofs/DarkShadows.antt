-- Where the dark shadow of all lower and upper bounds holds, the least integer above the lower ones meets the upper ones too.
use Rattle.std.proofs.Common.{◌≡◌, ◌⊎◌, inl, inr, ℕ, zero, suc, ◌<◌, ℤ, pos, negsuc, ◌+ℤ◌, ◌-ℤ◌, ◌*ℤ◌, neg_ℤ, ◌≤ℤ◌, Bool, true, false, cond, ◌||◌, int_lt, List, [], ◌∷◌, map, length, set, arith, refl, ap}
use Rattle.std.specs.Int.{int_div_euclid, int_max}
use Rattle.std.proofs.lemmas.Int.{ints, clamps}
use Rattle.ac_base.proofs.Floor.{floor_low, floor_high}
use Rattle.ac_base.proofs.Products.{mul-le-mul_ℤ, mul-neg_ℤ}
use Rattle.ac_base.proofs.Shadows.{dark_shadow}
use Rattle.ac_forms.specs.Affine.{coef, value_at}
use Rattle.ac_forms.specs.Rows.{Meets}
use Rattle.ac_forms.specs.declared.row.Row.{Row}
use Rattle.ac_forms.specs.declared.row.Row.TheVariants.{Eq, Div, Ge}
use Rattle.ac_forms.proofs.Values.{value_at-combined}
use Rattle.ac_omega_steps.specs.declared.column.Bound.{Bound}
use Rattle.ac_omega_steps.specs.Bounds.{is_low, is_high, low_bound, high_bound, lows, highs, rows_without, only_bounds, is_none}
use Rattle.ac_omega_steps.specs.Choices.{shadow_form, shadows_with, shadows, low_values, high_values, greatest, least, between}
use Rattle.ac_omega_steps.proofs.OneColumn.{value-rest, meets-first, meets-second}
use Rattle.ac_omega_steps.proofs.ColumnParts.{AllAbove, AllBelow, HaveSizes, joined, low-sizes, high-sizes}

-- the least number that a lower bound allows, and the greatest one of an upper bound
abbrev low_value : List ℤ → Bound → ℤ
low_value p b = neg_ℤ (int_div_euclid (value_at b.rest p) b.size)

abbrev high_value : List ℤ → Bound → ℤ
high_value p b = int_div_euclid (value_at b.rest p) b.size

low-meets : (b e v : ℤ) → pos 1 ≤ℤ b → neg_ℤ (int_div_euclid e b) ≤ℤ v → pos 0 ≤ℤ (b *ℤ v +ℤ e)
low-meets (pos k) e v h l =
    let m = mul-le-mul_ℤ k _ _ l in
    let f = floor_low e (pos k) h in
    let n = rw mul-neg_ℤ at m in
    omega (arith, ints, n, f)
low-meets (negsuc k) e v h l = absurd (omega (arith, ints))

high-meets : (b e v : ℤ) → pos 1 ≤ℤ b → v ≤ℤ int_div_euclid e b → (b *ℤ v) ≤ℤ e
high-meets (pos k) e v h l =
    let m = mul-le-mul_ℤ k _ _ l in
    let f = floor_low e (pos k) h in
    omega (arith, ints, m, f)
high-meets (negsuc k) e v h l = absurd (omega (arith, ints))

low-tight : (b e : ℤ) → pos 1 ≤ℤ b → (b *ℤ neg_ℤ (int_div_euclid e b) +ℤ e) ≤ℤ (b -ℤ pos 1)
low-tight b e h =
    let f = floor_high e b h in
    rw mul-neg_ℤ (omega (arith, ints, f))

above-more : (bs : List Bound) (p : List ℤ) (v w : ℤ) → HaveSizes bs → v ≤ℤ w → AllAbove bs p v → AllAbove bs p w
above-more [] p v w s l h = tt
above-more (b ∷ bs) p v w s l h = (more b.size (value_at b.rest p) s.0 h.0, above-more bs p v w s.1 l h.1)
  where
    more : (k e : ℤ) → pos 1 ≤ℤ k → pos 0 ≤ℤ (k *ℤ v +ℤ e) → pos 0 ≤ℤ (k *ℤ w +ℤ e)
    more (pos k) e h g = let m = mul-le-mul_ℤ k v w l in omega (arith, ints, m, g)
    more (negsuc k) e h g = absurd (omega (arith, ints))

below-less : (bs : List Bound) (p : List ℤ) (v w : ℤ) → HaveSizes bs → v ≤ℤ w → AllBelow bs p w → AllBelow bs p v
below-less [] p v w s l h = tt
below-less (b ∷ bs) p v w s l h = (less b.size (value_at b.rest p) s.0 h.0, below-less bs p v w s.1 l h.1)
  where
    less : (k e : ℤ) → pos 1 ≤ℤ k → (k *ℤ w) ≤ℤ e → (k *ℤ v) ≤ℤ e
    less (pos k) e h g = let m = mul-le-mul_ℤ k v w l in omega (arith, ints, m, g)
    less (negsuc k) e h g = absurd (omega (arith, ints))

greatest-above : (b : Bound) (bs : List Bound) (p : List ℤ) → HaveSizes (b ∷ bs) → AllAbove (b ∷ bs) p (greatest (low_value p b) (map (low_value p) bs))
greatest-above b [] p s = (low-meets b.size (value_at b.rest p) (low_value p b) s.0 (omega (arith, ints)), tt)
greatest-above b (c ∷ bs) p s =
    let h = greatest-above c bs p s.1 in (
      low-meets b.size (value_at b.rest p) _ s.0 (omega (arith, ints, clamps)),
      above-more (c ∷ bs) p (greatest (low_value p c) (map (low_value p) bs)) _ s.1 (omega (arith, ints, clamps)) h,
    )

least-below : (b : Bound) (bs : List Bound) (p : List ℤ) → HaveSizes (b ∷ bs) → AllBelow (b ∷ bs) p (least (high_value p b) (map (high_value p) bs))
least-below b [] p s = (high-meets b.size (value_at b.rest p) (high_value p b) s.0 (omega (arith, ints)), tt)
least-below b (c ∷ bs) p s =
    let h = least-below c bs p s.1 in (
      high-meets b.size (value_at b.rest p) _ s.0 (omega (arith, ints, clamps)),
      below-less (c ∷ bs) p _ (least (high_value p c) (map (high_value p) bs)) s.1 (omega (arith, ints, clamps)) h,
    )

-- v is the least integer above one of the bounds
TightAt : List Bound → List ℤ → ℤ → Type 0
TightAt [] p v = ⊥
TightAt (b ∷ bs) p v = ((b.size *ℤ v +ℤ value_at b.rest p) ≤ℤ (b.size -ℤ pos 1)) ⊎ TightAt bs p v

max_is : (x y : ℤ) → (int_max x y ≡ x) ⊎ (int_max x y ≡ y)
max_is x y = elim (int_lt y x) as (λ t. (cond t x y ≡ x) ⊎ (cond t x y ≡ y)) [ true ↦ inl refl | false ↦ inr refl ]

greatest-tight : (b : Bound) (bs : List Bound) (p : List ℤ) → HaveSizes (b ∷ bs) → TightAt (b ∷ bs) p (greatest (low_value p b) (map (low_value p) bs))
unfolding TightAt
greatest-tight b [] p s = inl (low-tight b.size (value_at b.rest p) s.0)
greatest-tight b (c ∷ bs) p s = elim (max_is (low_value p b) (greatest (low_value p c) (map (low_value p) bs))) [
  | inl e ↦ inl (rw e (low-tight b.size (value_at b.rest p) s.0))
  | inr e ↦ inr (rw e (greatest-tight c bs p s.1))
]

-- the dark shadow of two bounds
pub shadow-value : (low high : Bound) (p : List ℤ) → value_at (shadow_form low high) p ≡ high.size *ℤ value_at low.rest p +ℤ low.size *ℤ value_at high.rest p -ℤ (high.size -ℤ pos 1) *ℤ (low.size -ℤ pos 1)
shadow-value low high p = let e = value_at-combined high.size low.rest low.size high.rest p in omega (arith, ints, e)

pub less_one : (n : ℕ) → pos (suc n) -ℤ pos 1 ≡ pos n
less_one n = omega (arith, ints)

dark-below : (a b v e f : ℤ) → pos 1 ≤ℤ a → pos 1 ≤ℤ b → (b *ℤ v +ℤ e) ≤ℤ (b -ℤ pos 1) → pos 0 ≤ℤ (a *ℤ e +ℤ b *ℤ f -ℤ (a -ℤ pos 1) *ℤ (b -ℤ pos 1)) → (a *ℤ v) ≤ℤ f
dark-below (pos (suc a)) (pos (suc b)) v e f la lb t s =
    let t1 : (pos (suc b) *ℤ v +ℤ e) ≤ℤ pos b = rw less_one at t in
    let s1 = rw (less_one a, less_one b) at s in
    dark_shadow a b v e f t1 (omega (arith, ints, s1))
dark-below (pos zero) b v e f la lb t s = absurd (omega (arith, ints))
dark-below (negsuc a) b v e f la lb t s = absurd (omega (arith, ints))
dark-below (pos (suc a)) (pos zero) v e f la lb t s = absurd (omega (arith, ints))
dark-below (pos (suc a)) (negsuc b) v e f la lb t s = absurd (omega (arith, ints))

one-below : (low : Bound) (hs : List Bound) (p : List ℤ) (v : ℤ) → pos 1 ≤ℤ low.size → HaveSizes hs → (low.size *ℤ v +ℤ value_at low.rest p) ≤ℤ (low.size -ℤ pos 1) → Meets (shadows_with low hs) p → AllBelow hs p v
one-below low [] p v l s t h = tt
one-below low (high ∷ hs) p v l s t h =
    (dark-below high.size low.size v (value_at low.rest p) (value_at high.rest p) s.0 l t (rw (shadow-value low high p) at h.0), one-below low hs p v l s.1 t h.1)

shadow-below : (ls hs : List Bound) (p : List ℤ) (v : ℤ) → HaveSizes ls → HaveSizes hs → TightAt ls p v → Meets (shadows ls hs) p → AllBelow hs p v
unfolding TightAt
shadow-below [] hs p v l s t h = absurd t
shadow-below (low ∷ ls) hs p v l s (inl t) h = one-below low hs p v l.0 s t (meets-first (shadows_with low hs) (shadows ls hs) p h)
shadow-below (low ∷ ls) hs p v l s (inr t) h = shadow-below ls hs p v l.1 s t (meets-second (shadows_with low hs) (shadows ls hs) p h)

-- the number between all bounds
between-meets : (ls hs : List Bound) (p : List ℤ) → HaveSizes ls → HaveSizes hs → Meets (shadows ls hs) p
    → AllAbove ls p (between (map (low_value p) ls) (map (high_value p) hs)) × AllBelow hs p (between (map (low_value p) ls) (map (high_value p) hs))
between-meets (low ∷ ls) hs p l s h =
    (greatest-above low ls p l, shadow-below (low ∷ ls) hs p (greatest (low_value p low) (map (low_value p) ls)) l s (greatest-tight low ls p l) h)
between-meets [] (high ∷ hs) p l s h = (tt, least-below high hs p s)
between-meets [] [] p l s h = (tt, tt)

low-values-at : (b : Bool) (x : ℤ) (c : Bound) (vs : List ℤ) (bs : List Bound) (p : List ℤ) → x ≡ low_value p c → vs ≡ map (low_value p) bs → cond b (x ∷ vs) vs ≡ map (low_value p) (cond b (c ∷ bs) bs)
low-values-at true x c vs bs p e f = rw (e, f) refl
low-values-at false x c vs bs p e f = f

high-values-at : (b : Bool) (x : ℤ) (c : Bound) (vs : List ℤ) (bs : List Bound) (p : List ℤ) → x ≡ high_value p c → vs ≡ map (high_value p) bs → cond b (x ∷ vs) vs ≡ map (high_value p) (cond b (c ∷ bs) bs)
high-values-at true x c vs bs p e f = rw (e, f) refl
high-values-at false x c vs bs p e f = f

low-values-are : (z : ℕ) (rows : List Row) (p : List ℤ) → z < length p → low_values z rows p ≡ map (low_value p) (lows z rows)
low-values-are z [] p l = refl
low-values-are z (Ge f ∷ rs) p l =
    low-values-at (is_low z f) _ (low_bound z f) (low_values z rs p) (lows z rs) p (ap (λ r. neg_ℤ (int_div_euclid r (coef z f))) (value-rest f p z l)) (low-values-are z rs p l)
low-values-are z (Eq f ∷ rs) p l = low-values-are z rs p l
low-values-are z (Div m f ∷ rs) p l = low-values-are z rs p l

high-values-are : (z : ℕ) (rows : List Row) (p : List ℤ) → z < length p → high_values z rows p ≡ map (high_value p) (highs z rows)
high-values-are z [] p l = refl
high-values-are z (Ge f ∷ rs) p l =
    high-values-at (is_high z f) _ (high_bound z f) (high_values z rs p) (highs z rs) p (ap (λ r. int_div_euclid r (neg_ℤ (coef z f))) (value-rest f p z l)) (high-values-are z rs p l)
high-values-are z (Eq f ∷ rs) p l = high-values-are z rs p l
high-values-are z (Div m f ∷ rs) p l = high-values-are z rs p l

-- where the rows without the column and the dark shadow hold, the number between the bounds is one for the column
pub between-lifts : (z : ℕ) (rows : List Row) (q : List ℤ) → z < length q → only_bounds z rows ≡ true → Meets (rows_without z rows) q → Meets (shadows (lows z rows) (highs z rows)) q
    → Meets rows (set q z (between (low_values z rows q) (high_values z rows q)))
between-lifts z rows q l o f s =
    let b = between-meets (lows z rows) (highs z rows) q (low-sizes z rows) (high-sizes z rows) s in
    rw (low-values-are z rows q l, high-values-are z rows q l) (joined z rows q _ l o (record { free = f; low = b.0; high = b.1 }))

-- bounds from one side only have no shadow
pub no-highs : (ls : List Bound) (p : List ℤ) → Meets (shadows ls []) p
no-highs [] p = tt
no-highs (low ∷ ls) p = no-highs ls p

pub one-sided : (ls hs : List Bound) (p : List ℤ) → (is_none ls || is_none hs) ≡ true → Meets (shadows ls hs) p
one-sided [] hs p e = tt
one-sided (low ∷ ls) [] p e = no-highs (low ∷ ls) p
one-sided (low ∷ ls) (high ∷ hs) p e = absurd cc
