use Rattle.std.proofs.Common.{◌≡◌, drop}
use Rattle.ac_poly_quotients.specs.QuotientScopes.{is_named, column_of}
use Rattle.ac_poly_quotients.proofs.sums.column_of.Given as goal

abbrev pub invariant-loop-one : goal.invariant-loop-one
invariant-loop-one l = column_of (is_named l.quot) l.named ≡ column_of (is_named l.quot) (drop l.one-index l.named)
