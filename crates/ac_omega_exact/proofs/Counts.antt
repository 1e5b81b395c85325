-- How many splinters a lower row has.
use Rattle.std.proofs.Common.{◌≡◌, ℕ, zero, suc, ◌<◌, ◌≤◌, ℤ, pos, negsuc, ◌+ℤ◌, ◌-ℤ◌, ◌*ℤ◌, neg_ℤ, ◌≤ℤ◌, ◌<ℤ◌, refl, arith, ap, ◌∙◌, mul-le-mul_left, ⊎_elim, to_z, of_z}
use Rattle.std.specs.Int.{int_div_euclid, w128}
use Rattle.std.proofs.lemmas.Int.{ints, by_lt_z}
use Rattle.std.proofs.lemmas.Bool.{cases_lt}
use Rattle.ac_base.proofs.Bits.{again_128}
use Rattle.ac_base.proofs.Floor.{floor_low, floor_high}
use Rattle.ac_base.proofs.Products.{mul-le-mul_ℤ, mul-add_ℤ, mul-neg_ℤ}
use Rattle.ac_forms.specs.Fits.{Fits}
use Rattle.ac_omega_steps.specs.Bounds.{last_splinter}
use Rattle.ac_omega_steps.proofs.DarkShadows.{less_one}
use Rattle.ac_omega_exact.specs.Exact.{count_to}

count-within : (a b : ℕ) (q : ℤ) → (pos (suc a) *ℤ q) ≤ℤ (pos (suc a) *ℤ pos (suc b) -ℤ pos (suc a) -ℤ pos (suc b)) → count_to q ≤ b
count-within a b (negsuc k) l = omega arith
count-within a b (pos k) l =
    ⊎_elim
    (λ (h : k < b). omega arith)
    (λ (h : b ≤ k). absurd (let m = mul-le-mul_left (suc a) h in omega (arith, ints, l, m)))
    (cases_lt k b)

-- they are at most the coefficient
pub splinters-within : (a b : ℤ) → pos 1 ≤ℤ a → pos 1 ≤ℤ b → pos (count_to (last_splinter a b)) ≤ℤ b
splinters-within (pos (suc a)) (pos (suc b)) la lb =
    let c = count-within a b (last_splinter (pos (suc a)) (pos (suc b))) (floor_low _ (pos (suc a)) la) in
    omega (arith, ints, c)
splinters-within (pos zero) b la lb = absurd (omega (arith, ints))
splinters-within (negsuc a) b la lb = absurd (omega (arith, ints))
splinters-within (pos (suc a)) (pos zero) la lb = absurd (omega (arith, ints))
splinters-within (pos (suc a)) (negsuc b) la lb = absurd (omega (arith, ints))

-- how many splinters there are
floor-last : (a b : ℕ) (q k : ℤ) → (pos (suc a) *ℤ q) ≤ℤ (pos (suc a) *ℤ pos (suc b) -ℤ pos (suc a) -ℤ pos (suc b)) → (pos (suc a) *ℤ pos (suc b) -ℤ pos (suc a) -ℤ pos (suc b)) <ℤ (pos (suc a) *ℤ q +ℤ pos (suc a))
    → (pos (suc a) *ℤ k) ≤ℤ pos b → pos b <ℤ (pos (suc a) *ℤ k +ℤ pos (suc a)) → q ≡ pos b -ℤ pos 1 -ℤ k
floor-last a b q k ql qh kl kh =
    by_lt_z q (pos b -ℤ pos 1 -ℤ k)
    (λ below.
    let h : (q +ℤ pos 1) ≤ℤ (pos b -ℤ pos 1 -ℤ k) = omega (arith, ints, below) in
    let m = mul-le-mul_ℤ (suc a) (q +ℤ pos 1) (pos b -ℤ pos 1 -ℤ k) h in
    let d = mul-add_ℤ (pos (suc a)) q (pos 1) in
    let e = spread (pos (suc a)) (pos b) k in
    absurd (omega (arith, ints, m, d, e, qh, kh)))
    (λ above.
    by_lt_z (pos b -ℤ pos 1 -ℤ k) q
    (λ beyond.
    let h : (pos b -ℤ k) ≤ℤ q = omega (arith, ints, beyond) in
    let m = mul-le-mul_ℤ (suc a) (pos b -ℤ k) q h in
    let e = apart (pos (suc a)) (pos b) k in
    absurd (omega (arith, ints, m, e, ql, kl)))
    (λ within. omega (arith, ints, above, within)))
  where
    apart : (a b k : ℤ) → a *ℤ (b -ℤ k) ≡ a *ℤ b -ℤ a *ℤ k
    apart a b k = rw (mul-add_ℤ a b (neg_ℤ k), mul-neg_ℤ a k) refl

    spread : (a b k : ℤ) → a *ℤ (b -ℤ pos 1 -ℤ k) ≡ a *ℤ b -ℤ a -ℤ a *ℤ k
    spread a b k = rw (mul-add_ℤ a (b -ℤ pos 1) (neg_ℤ k), mul-neg_ℤ a k, mul-add_ℤ a b (neg_ℤ (pos 1)), mul-neg_ℤ a (pos 1)) (omega (arith, ints))

count-of : (b : ℕ) (q k : ℤ) → q ≡ pos b -ℤ pos 1 -ℤ k → k ≤ℤ pos b → pos b -ℤ k ≡ pos (count_to q)
count-of b (pos n) k e l = omega (arith, ints, e)
count-of b (negsuc n) k e l = omega (arith, ints, e, l)

-- the quotient is at most the number
quotient-within : (a b : ℕ) (k : ℤ) → (pos (suc a) *ℤ k) ≤ℤ pos b → k ≤ℤ pos b
quotient-within a b (pos k) l = let m = mul-le-mul_ℤ k (pos 1) (pos (suc a)) (omega (arith, ints)) in omega (arith, ints, m, l)
quotient-within a b (negsuc k) l = omega (arith, ints)

pub count_is : (a b : ℤ) → pos 1 ≤ℤ a → pos 1 ≤ℤ b → (b -ℤ pos 1) -ℤ int_div_euclid (b -ℤ pos 1) a ≡ pos (count_to (last_splinter a b))
count_is (pos (suc a)) (pos (suc b)) la lb =
    let l = floor_low (pos b) (pos (suc a)) la in
    let k = int_div_euclid (pos b) (pos (suc a)) in
    let q = last_splinter (pos (suc a)) (pos (suc b)) in
    rw (less_one b)
    (count-of b q k
    (floor-last a b q k (floor_low _ (pos (suc a)) la) (floor_high _ (pos (suc a)) la) l (floor_high (pos b) (pos (suc a)) la))
    (quotient-within a b k l))
count_is (pos zero) b la lb = absurd (omega (arith, ints))
count_is (negsuc a) b la lb = absurd (omega (arith, ints))
count_is (pos (suc a)) (pos zero) la lb = absurd (omega (arith, ints))
count_is (pos (suc a)) (negsuc b) la lb = absurd (omega (arith, ints))

pub smaller-fits : (x y : ℤ) → pos 0 ≤ℤ x → x ≤ℤ y → Fits y → Fits x
smaller-fits (pos a) (pos b) h l f = let m = f.sfits in record { sfits = omega (arith, ints) }
smaller-fits (pos a) (negsuc b) h l f = absurd (omega (arith, ints))
smaller-fits (negsuc a) y h l f = absurd (omega (arith, ints))

-- as the code forms it
abbrev again : ℤ → ℤ
again z = to_z w128 (of_z w128 z)

pub count_made : (a b q : ℤ) → Fits a → Fits b → Fits q → pos 1 ≤ℤ a → pos 1 ≤ℤ b → q ≡ int_div_euclid (again (again b -ℤ pos 1)) (again a) → again (again (again b -ℤ pos 1) -ℤ again q) ≡ pos (count_to (last_splinter a b))
count_made a b q fa fb fq la lb e =
    let less : Fits (b -ℤ pos 1) = smaller-fits (b -ℤ pos 1) b (omega (arith, ints)) (omega (arith, ints)) fb in
    let is : q ≡ int_div_euclid (b -ℤ pos 1) a = rw (again_128 b fb, again_128 a fa, again_128 (b -ℤ pos 1) less) at e in
    let n = pos (count_to (last_splinter a b)) in
    let count : b -ℤ pos 1 -ℤ q ≡ n = ap (λ x. b -ℤ pos 1 -ℤ x) is ∙ count_is a b la lb in
    let some : Fits n = smaller-fits n b (omega (arith, ints)) (splinters-within a b la lb) fb in
    rw (again_128 b fb, again_128 q fq, again_128 (b -ℤ pos 1) less) (rw count (again_128 n some))
