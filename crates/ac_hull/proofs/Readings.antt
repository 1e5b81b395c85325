-- A combination read off a row.
use Rattle.std.proofs.Common.{ℤ, pos, neg_ℤ, unsigned_abs, arith}
use Rattle.std.proofs.lemmas.Int.{ints}
use Rattle.ac_base.proofs.Bits.{again_128}
use Rattle.ac_forms.specs.Fits.{Fits}

pub abs_fits : (c : ℤ) → Fits c → Fits (neg_ℤ c) → Fits (pos (unsigned_abs c))
abs_fits c f g = omega (arith, ints, f, g)

pub fits_abs : (c : ℤ) → Fits c → Fits (pos (unsigned_abs c)) → Fits (neg_ℤ c)
fits_abs c f g = omega (arith, ints, f, g)

pub ruleset read_steps = (again_128)
