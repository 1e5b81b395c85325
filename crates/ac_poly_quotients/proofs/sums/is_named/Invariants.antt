use Rattle.std.proofs.Common.{◌≡◌, drop}
use Rattle.std.specs.List.{list_any}
use Rattle.ac_poly_quotients.specs.QuotientScopes.{is_named}
use Rattle.ac_poly_quotients.proofs.sums.is_named.Given as goal

abbrev pub invariant-loop-one : goal.invariant-loop-one
invariant-loop-one l = list_any (is_named l.quot) l.named ≡ list_any (is_named l.quot) (drop l.one-index l.named)
