-- The sizes of bounds are positive.
use Rattle.std.proofs.Common.{◌≡◌, ℤ, pos, neg_ℤ, ◌≤ℤ◌, true, arith}
use Rattle.std.specs.Int.Signed.{lt_z}
use Rattle.std.proofs.lemmas.Int.{ints}

pub low_size : (c : ℤ) → lt_z (pos 0) c ≡ true → pos 1 ≤ℤ c
low_size c e = grind (arith, ints, e)

pub high_size : (c : ℤ) → lt_z c (pos 0) ≡ true → pos 1 ≤ℤ neg_ℤ c
high_size c e = grind (arith, ints, e)
