-- What may be read inside one more parenthesis.
use Rattle.std.specs.Prelude.{Some, None}
use Rattle.std.proofs.Common.{◌≡◌, ℕ, suc, ◌+◌, ap, arith}
use Rattle.ac_parse_grammar.specs.Conditions.{mixed_below, mixed}

pub no_mixed : (room : ℕ) → room ≡ 0 → mixed_below room ≡ None
unfolding mixed_below
no_mixed room e = ap mixed_below e

pub some_mixed : (inner room : ℕ) → inner + 1 ≡ room → mixed_below room ≡ Some (mixed inner)
unfolding mixed_below
some_mixed inner room e = let same : room ≡ suc inner = omega arith in ap mixed_below same
