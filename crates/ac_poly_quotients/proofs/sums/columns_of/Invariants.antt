use Rattle.std.proofs.Common.{◌≡◌, ◌+◌, take, map}
use Rattle.ac_forms.specs.Affine.{column_form}
use Rattle.ac_poly_quotients.specs.QuotientScopes.{is_named, column_of}
use Rattle.ac_poly_quotients.proofs.sums.columns_of.Given as goal

abbrev pub invariant-loop-quot : goal.invariant-loop-quot
invariant-loop-quot l = l.made ≡ map (λ k. column_form (k + 1) k) (map (λ q. column_of (is_named q) l.named) (take l.quot-index l.quots))
