-- How many splinters of a lower row suffice: those of a strategy do, and they are at most its coefficient.
use Rattle.std.proofs.Common.{◌≡◌, ◌⊎◌, inl, inr, ℕ, zero, suc, ◌*◌, ◌≤◌, ℤ, pos, negsuc, ◌+ℤ◌, ◌-ℤ◌, ◌*ℤ◌, ◌≤ℤ◌, ◌<ℤ◌, Bool, true, false, cond, List, [], ◌∷◌, length, Some, None, arith, refl, ap, subst}
use Rattle.std.specs.Int.{int_max}
use Rattle.std.specs.Int.Signed.{lt_z}
use Rattle.std.proofs.lemmas.Int.{ints, clamps}
use Rattle.ac_base.proofs.Floor.{floor_high}
use Rattle.ac_base.proofs.Shadows.{smaller_factor}
use Rattle.ac_forms.specs.Affine.{Affine, coef}
use Rattle.ac_forms.specs.declared.row.Row.{Row}
use Rattle.ac_omega_steps.specs.declared.column.Bound.{Bound}
use Rattle.ac_omega_steps.specs.Bounds.{is_low, is_none, low_bound, highs, greatest_size, last_splinter}
use Rattle.ac_omega_steps.specs.ChoiceFits.{ArePositive, sizes_fit}
use Rattle.ac_omega_steps.proofs.DarkShadows.{less_one}
use Rattle.ac_omega_steps.proofs.Parts.{highs_positive}
use Rattle.ac_base.proofs.Truths.{true-le}
use Rattle.ac_omega_exact.specs.ExactnessTests.{is_exact, greatest_failing, economical, pairs_fit}
use Rattle.ac_omega_exact.proofs.Counts.{splinters-within}
use Rattle.ac_omega_exact.proofs.Implying.{failing-some}
use Rattle.ac_omega_certify.specs.SplinterCounts.{is_enough, AreShown, SufficesOf, Suffice}
use Rattle.ac_omega_certify.specs.Alternatives.{count_to, need_of}
use Rattle.ac_omega_certify.specs.declared.strategy.Strategy.{Strategy}
use Rattle.ac_omega_certify.specs.declared.strategy.Strategy.TheVariants.{Full, Economical}

count-enough : (a b : ℕ) (q : ℤ) → (pos (suc a) *ℤ pos (suc b) -ℤ pos (suc a) -ℤ pos (suc b)) <ℤ (pos (suc a) *ℤ q +ℤ pos (suc a)) → a * b ≤ suc a * count_to q
count-enough a b (pos k) l = omega (arith, ints, l)
count-enough a b (negsuc k) l = omega (arith, ints, l)

-- the splinters of a lower row with coefficient b for the size a
splinters-enough : (a b : ℤ) → pos 1 ≤ℤ a → pos 1 ≤ℤ b → ((a -ℤ pos 1) *ℤ (b -ℤ pos 1)) ≤ℤ (a *ℤ pos (count_to (last_splinter a b)))
splinters-enough (pos (suc a)) (pos (suc b)) la lb =
    let c = count-enough a b (last_splinter (pos (suc a)) (pos (suc b))) (floor_high _ (pos (suc a)) la) in
    rw (less_one a, less_one b) (omega (arith, ints, c))
splinters-enough (pos zero) b la lb = absurd (omega (arith, ints))
splinters-enough (negsuc a) b la lb = absurd (omega (arith, ints))
splinters-enough (pos (suc a)) (pos zero) la lb = absurd (omega (arith, ints))
splinters-enough (pos (suc a)) (negsuc b) la lb = absurd (omega (arith, ints))

-- a smaller size needs no more
smaller-enough : (c a b : ℤ) (n : ℕ) → pos 1 ≤ℤ c → c ≤ℤ a → pos 1 ≤ℤ b → ((a -ℤ pos 1) *ℤ (b -ℤ pos 1)) ≤ℤ (a *ℤ pos n) → ((c -ℤ pos 1) *ℤ (b -ℤ pos 1)) ≤ℤ (c *ℤ pos n)
smaller-enough (pos (suc c)) (pos (suc a)) (pos (suc b)) n lc l lb h =
    let m = rw (less_one a, less_one b) at h in
    let s = smaller_factor c a b n (omega (arith, ints)) (omega (arith, ints, m)) in
    rw (less_one c, less_one b) (omega (arith, ints, s))
smaller-enough (pos zero) a b n lc l lb h = absurd (omega (arith, ints))
smaller-enough (negsuc c) a b n lc l lb h = absurd (omega (arith, ints))
smaller-enough (pos (suc c)) (pos zero) b n lc l lb h = absurd (omega (arith, ints))
smaller-enough (pos (suc c)) (negsuc a) b n lc l lb h = absurd (omega (arith, ints))
smaller-enough (pos (suc c)) (pos (suc a)) (pos zero) n lc l lb h = absurd (omega (arith, ints))
smaller-enough (pos (suc c)) (pos (suc a)) (negsuc b) n lc l lb h = absurd (omega (arith, ints))

-- a size that splinters are to serve: each upper bound is at most of this size, or its pair with the lower one is exact
abbrev IsNeed : ℕ → List Row → Bound → ℤ → List Bound → Type 0
IsNeed z rows low a [] = Unit {0}
IsNeed z rows low a (h ∷ hs) = ((is_exact z rows low h ≡ true) ⊎ (h.size ≤ℤ a)) × IsNeed z rows low a hs

greatest-need : (z : ℕ) (rows : List Row) (low : Bound) (a : ℤ) (hs : List Bound) → greatest_size hs ≤ℤ a → IsNeed z rows low a hs
greatest-need z rows low a [] l = tt
greatest-need z rows low a (h ∷ hs) l = (inr (omega (arith, ints, clamps)), greatest-need z rows low a hs (omega (arith, ints, clamps)))

need-more : (z : ℕ) (rows : List Row) (low : Bound) (a c : ℤ) (hs : List Bound) → a ≤ℤ c → IsNeed z rows low a hs → IsNeed z rows low c hs
need-more z rows low a c [] l n = tt
need-more z rows low a c (h ∷ hs) l n = (elim n.0 [ inl e ↦ inl e | inr s ↦ inr (omega (arith, ints, s, l)) ], need-more z rows low a c hs l n.1)

failing-need : (z : ℕ) (rows : List Row) (low : Bound) (hs : List Bound) → IsNeed z rows low (greatest_failing (is_exact z rows low) hs) hs
failing-need z rows low [] = tt
failing-need z rows low (h ∷ hs) = by (is_exact z rows low h) refl (failing-need z rows low hs)
  where
    rest : ℤ
    rest = greatest_failing (is_exact z rows low) hs

    by : (t : Bool) → is_exact z rows low h ≡ t → IsNeed z rows low rest hs → ((is_exact z rows low h ≡ true) ⊎ (h.size ≤ℤ cond t rest (int_max h.size rest))) × IsNeed z rows low (cond t rest (int_max h.size rest)) hs
    by true e n = (inl e, n)
    by false e n = (inr (omega (arith, ints, clamps)), need-more z rows low rest (int_max h.size rest) hs (omega (arith, ints, clamps)) n)

-- the splinters for that size suffice
need-shown : (z : ℕ) (rows : List Row) (low : Bound) (a : ℤ) (hs : List Bound) → pos 1 ≤ℤ a → pos 1 ≤ℤ low.size → ArePositive hs → IsNeed z rows low a hs → AreShown z rows (pos (count_to (last_splinter a low.size))) low hs
need-shown z rows low a [] la lb p n = tt
need-shown z rows low a (h ∷ hs) la lb p n = (elim n.0 [ inl e ↦ inr e | inr s ↦ inl (enough s) ], need-shown z rows low a hs la lb p.1 n.1)
  where
    enough : h.size ≤ℤ a → is_enough (pos (count_to (last_splinter a low.size))) low h ≡ true
    enough s = true-le _ _ (smaller-enough h.size a low.size (count_to (last_splinter a low.size)) p.0 s lb (splinters-enough a low.size la lb))

some-is : (t : Bool) (x a : ℤ) → cond t (Some x) None ≡ Some a → x ≡ a
some-is true x a e = cc
some-is false x a e = absurd cc

pub low-size : (c : ℤ) → lt_z (pos 0) c ≡ true → pos 1 ≤ℤ c
low-size c e = grind (arith, ints, e)

need-suffices : (z : ℕ) (rows : List Row) (f : Affine) (a : ℤ) → is_low z f ≡ true → pos 1 ≤ℤ a → IsNeed z rows (low_bound z f) a (highs z rows) → SufficesOf z rows (count_to (last_splinter a (coef z f))) f
need-suffices z rows f a low la n =
    let lb = low-size (coef z f) low in
    record { within = splinters-within a (coef z f) la lb; shown = need-shown z rows (low_bound z f) a (highs z rows) la lb (highs_positive z rows) n }

greatest-some : (hs : List Bound) → ArePositive hs → is_none hs ≡ false → pos 1 ≤ℤ greatest_size hs
greatest-some [] p e = absurd cc
greatest-some (h ∷ hs) p e = let s = p.0 in omega (arith, ints, clamps, s)

-- so do those of a strategy
pub strategy-suffices : (s : Strategy) (z : ℕ) (rows : List Row) (f : Affine) (a : ℤ) → is_none (highs z rows) ≡ false → is_low z f ≡ true → need_of s z rows f ≡ Some a → SufficesOf z rows (count_to (last_splinter a (coef z f))) f
strategy-suffices Full z rows f a some low e =
    let g = greatest_size (highs z rows) in
    subst (λ (x : ℤ). SufficesOf z rows (count_to (last_splinter x (coef z f))) f) (some-is (sizes_fit (highs z rows)) g a e)
    (need-suffices z rows f g low (greatest-some (highs z rows) (highs_positive z rows) some) (greatest-need z rows (low_bound z f) g (highs z rows) (omega (arith, ints))))
strategy-suffices Economical z rows f a some low e =
    let g = economical z rows f in
    subst (λ (x : ℤ). SufficesOf z rows (count_to (last_splinter x (coef z f))) f) (some-is (pairs_fit (low_bound z f) (highs z rows)) g a e)
    (need-suffices z rows f g low (failing-some (is_exact z rows (low_bound z f)) (highs z rows)) (failing-need z rows (low_bound z f) (highs z rows)))

-- there is a number for each row
pub suffices-long : (z : ℕ) (all rs : List Row) (ns : List ℕ) → Suffice z all rs ns → length ns ≡ length rs
suffices-long z all [] [] s = refl
suffices-long z all [] (n ∷ ns) s = absurd s
suffices-long z all (r ∷ rs) [] s = absurd s
suffices-long z all (r ∷ rs) (n ∷ ns) s = ap (λ (k : ℕ). suc k) (suffices-long z all rs ns s.1)
