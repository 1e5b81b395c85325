-- Numbers of the rows that a residue leaves: they stay in `i128`, far below its ends.
use Rattle.std.proofs.Common.{◌≡◌, ◌^◌, ◌≤◌, ℤ, pos, ◌+ℤ◌, ◌-ℤ◌, ◌*ℤ◌, true, ◌&&◌, unsigned_abs, refl, arith, to_z, of_z}
use Rattle.std.specs.Int.{w128}
use Rattle.std.proofs.lemmas.Int.{ints, fits_signed_from_abs}
use Rattle.ac_base.proofs.Bits.{again_128}
use Rattle.ac_forms.specs.Fits.{Fits, fits}
use Rattle.ac_forms.proofs.Twins.{fits-is, and-is}
use Rattle.ac_omega_steps.specs.ChoiceFits.{spread_fits}

pub spread_parts : (m r c k : ℤ) → spread_fits m r c k ≡ true → Fits (c *ℤ m) × Fits (c *ℤ r) × Fits (k +ℤ c *ℤ r)
spread_parts m r c k h =
    let a = (and-is (fits (c *ℤ m)) (fits (c *ℤ r) && fits (k +ℤ c *ℤ r)) (fits-is (c *ℤ m)) (and-is (fits (c *ℤ r)) (fits (k +ℤ c *ℤ r)) (fits-is (c *ℤ r)) (fits-is (k +ℤ c *ℤ r)))).0 h in
    (a.0, a.1.0, a.1.1)

-- the sum as code makes it
pub made_sum : (k c r : ℤ) → Fits k → Fits c → Fits r → Fits (c *ℤ r) → to_z w128 (of_z w128 k) +ℤ to_z w128 (of_z w128 (to_z w128 (of_z w128 c) *ℤ to_z w128 (of_z w128 r))) ≡ k +ℤ c *ℤ r
made_sum k c r hk hc hr hp = rw (again_128 c hc, again_128 r hr, again_128 (c *ℤ r) hp, again_128 k hk) refl

-- ---- small numbers

small-fits : (z : ℤ) → unsigned_abs z ≤ 2 ^ 122 → Fits z
small-fits z h = fits_signed_from_abs w128 z (omega (arith, h))

pub small-turned : (z : ℤ) → unsigned_abs z ≤ 2 ^ 120 → Fits (pos 0 -ℤ z)
small-turned z h = small-fits (pos 0 -ℤ z) (omega (arith, ints, h))
