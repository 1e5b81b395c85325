-- The greatest common divisor of a list of coefficients, number by number.
use Rattle.std.proofs.Common.{◌≡◌, ℕ, zero, suc, ◌+◌, ◌<◌, ◌≤◌, ◌^◌, ℤ, pos, negsuc, List, length, drop, get_or, arith, refl, neg_ℤ, unsigned_abs, to_z, of_z, lit<, ◌≤ℤ◌}
use Rattle.std.proofs.lemmas.Int.{ints}
use Rattle.std.proofs.lemmas.Nat.Gcd.{le_of_dvd}
use Rattle.std.proofs.Math.Nat.{pos_of_dvd_of_pos}
use Rattle.std.proofs.lemmas.List.{drop_more, drop_all}
use Rattle.std.specs.Int.{w128}
use Rattle.ac_base.proofs.Bits.{again_128}
use Rattle.ac_base.proofs.Contents.{gcd_lt}
use Rattle.ac_base.proofs.Divisors.{gcd_all_divides}
use Rattle.ac_base.specs.Gcd.{gcd, gcd_all}
use Rattle.ac_forms.specs.Fits.{Fits, AllFit}
use Rattle.ac_forms.specs.NormalRows.{absolutes}

abs_from_neg : (c : ℤ) → Fits c → Fits (neg_ℤ c) → Fits (pos (unsigned_abs c))
abs_from_neg c f g = omega (arith, ints, f, g)

neg_from_abs : (c : ℤ) → Fits c → Fits (pos (unsigned_abs c)) → Fits (neg_ℤ c)
neg_from_abs c f g = omega (arith, ints, f, g)

-- before coefficient i
pub record SizeHalfway (cs : List ℤ) (d : ℕ) (i : ℕ) : Type 0 where
  pub room : i ≤ length cs
  pub small : d < 2 ^ 127
  pub onward : AllFit (absolutes cs) → AllFit (absolutes (drop i cs))
  pub back : AllFit (absolutes (drop i cs)) → AllFit (absolutes cs)
  pub value : gcd_all d (drop i cs) ≡ gcd_all 0 cs

pub size_start : (cs : List ℤ) → SizeHalfway cs 0 0
size_start cs = record { room = omega arith; small = lit< tt; onward = λ f. f; back = λ f. f; value = refl }

size_step : (cs : List ℤ) (d : ℕ) (i : ℕ) → SizeHalfway cs d i → i < length cs → Fits (get_or cs i (pos 0)) → Fits (neg_ℤ (get_or cs i (pos 0))) → SizeHalfway cs (gcd d (unsigned_abs (get_or cs i (pos 0)))) (i + 1)
size_step cs d i h l fc f =
    let g = abs_from_neg (get_or cs i (pos 0)) fc f in
    record {
      room = omega arith;
      small = gcd_lt d _ _ h.small (omega (arith, ints, f));
      onward = λ all. (rw (drop_more cs i (pos 0) l) at (h.onward all)).1;
      back = λ rest. h.back (rw (drop_more cs i (pos 0) l) (g, rest));
      value = (rw (drop_more cs i (pos 0) l) at h.value);
    }

pub size_fits : (cs : List ℤ) (d : ℕ) (i : ℕ) → SizeHalfway cs d i → i < length cs → Fits (get_or cs i (pos 0)) → AllFit (absolutes cs) → Fits (neg_ℤ (get_or cs i (pos 0)))
size_fits cs d i h l fc all = neg_from_abs (get_or cs i (pos 0)) fc (rw (drop_more cs i (pos 0) l) at (h.onward all)).0

pub size_end : (cs : List ℤ) (d : ℕ) (i : ℕ) → SizeHalfway cs d i → length cs ≤ i → AllFit (absolutes cs) × (d ≡ gcd_all 0 cs)
size_end cs d i h l = (h.back (rw (drop_all i cs l) tt), rw (drop_all i cs l) at h.value)

abbrev again : ℤ → ℤ
again z = to_z w128 (of_z w128 z)

pub size_made : (cs : List ℤ) (d : ℕ) (i : ℕ) (size : ℤ) (m e : ℕ) → SizeHalfway cs d i → i < length cs → Fits (get_or cs i (pos 0))
    → Fits (neg_ℤ (again (get_or cs i (pos 0)))) × (size ≡ pos (unsigned_abs (again (get_or cs i (pos 0)))))
    → m ≡ unsigned_abs (again size) → e ≡ gcd d m → SizeHalfway cs e (i + 1)
size_made cs d i size m e h l fc made em ee =
    let t = rw (again_128 _ fc) at made in
    let gs : Fits size = rw t.1 (abs_from_neg (get_or cs i (pos 0)) fc t.0) in
    let n = rw (again_128 size gs, t.1) at em in
    rw (ee, n) (size_step cs d i h l fc t.0)

pub ruleset size_steps = (again_128, size_start, size_fits, size_end)

-- the greatest common divisor of a positive number and of those before number i
pub record CommonHalfway (cs : List ℤ) (m : ℕ) (d : ℕ) (i : ℕ) : Type 0 where
  pub room : i ≤ length cs
  pub value : gcd_all d (drop i cs) ≡ gcd_all m cs

pub common_start : (cs : List ℤ) (m d : ℕ) → d ≡ m → CommonHalfway cs m d 0
common_start cs m d e = rw e (record { room = omega arith; value = refl })

pub common_step : (cs : List ℤ) (m d e : ℕ) (i : ℕ) → CommonHalfway cs m d i → i < length cs → e ≡ gcd d (unsigned_abs (get_or cs i (pos 0))) → CommonHalfway cs m e (i + 1)
common_step cs m d e i h l is = rw is (record { room = omega arith; value = (rw (drop_more cs i (pos 0) l) at h.value) })

pub common_end : (cs : List ℤ) (m d : ℕ) (i : ℕ) → CommonHalfway cs m d i → length cs ≤ i → d ≡ gcd_all m cs
common_end cs m d i h l = rw (drop_all i cs l) at h.value

pub common_small : (m : ℤ) (cs : List ℤ) → pos 1 ≤ℤ m → (0 < gcd_all (unsigned_abs m) cs) × (gcd_all (unsigned_abs m) cs ≤ unsigned_abs m)
common_small m cs h =
    let d = gcd_all_divides (unsigned_abs m) cs in
    let p : 0 < unsigned_abs m = omega (arith, ints, h) in
    (pos_of_dvd_of_pos d.0 p, le_of_dvd p d.0)

pub ruleset common_steps = (again_128, common_start, common_step, common_end, common_small)
