-- The value of an index expression, where each partial sum fits 128 bits.
use Rattle.std.specs.Prelude.{zero, suc, List, [], ◌∷◌, Option, Some, None, ℤ, ◌+ℤ◌, ◌*ℤ◌, nat_lt, ◌^◌, if◌then◌else◌, pos, negsuc, Bool, true, false, option_and_then, option_map}
use Rattle.std.specs.Int.{int_div_euclid}
use Rattle.ac_syntax.specs.Index.{Point, rel_holds}
use Rattle.ac_syntax.specs.declared.tree.Quot.{Quot}
use Rattle.ac_syntax.specs.declared.tree.Comparison.{Comparison}
use Rattle.ac_syntax.specs.declared.tree.IndexExpr.{IndexExpr}

abbrev pub fits_128 : ℤ → Bool
fits_128 (pos n) = nat_lt n (2 ^ 127)
fits_128 (negsuc n) = nat_lt n (2 ^ 127)

abbrev pub checked : ℤ → Option ℤ
checked z = if fits_128 z then Some z else None

-- the products added to a sum one after another, as far as both lists go
abbrev pub summed : ℤ → List ℤ → List ℤ → Option ℤ
summed sum [] xs = Some sum
summed sum (c ∷ cs) [] = Some sum
summed sum (c ∷ cs) (x ∷ xs) = option_and_then (λ s. summed s cs xs) (checked (sum +ℤ (c *ℤ x)))

-- the constant, then the parameters, then the iterators
abbrev pub checked_plain : Point → ℤ → List ℤ → List ℤ → Option ℤ
checked_plain p konst params iters = option_and_then (λ s. summed s iters p.iters) (summed konst params p.params)

-- the form that a quotient divides
abbrev pub checked_argument : Point → Quot → Option ℤ
checked_argument p q = checked_plain p q.konst q.params q.iters

-- a number by a divisor, rounded down; none where the divisor is below 1
abbrev pub rounded : ℤ → ℤ → Option ℤ
rounded (pos zero) v = None
rounded (pos (suc n)) v = Some (int_div_euclid v (pos (suc n)))
rounded (negsuc n) v = None

abbrev pub checked_quot : Point → Quot → Option ℤ
checked_quot p q = option_and_then (rounded q.div) (checked_argument p q)

-- a product added to a sum
abbrev pub plus_times : ℤ → ℤ → ℤ → Option ℤ
plus_times sum c v = option_and_then (λ x. checked (sum +ℤ x)) (checked (c *ℤ v))

abbrev pub plus_quot : Point → ℤ → Quot → Option ℤ
plus_quot p sum q = option_and_then (plus_times sum q.coef) (checked_quot p q)

-- the products of quotients added to a sum one after another
abbrev pub summed_quots : Point → ℤ → List Quot → Option ℤ
summed_quots p sum [] = Some sum
summed_quots p sum (q ∷ qs) = option_and_then (λ s. summed_quots p s qs) (plus_quot p sum q)

-- the constant, then the parameters, the iterators and the quotients
abbrev pub checked_value : Point → IndexExpr → Option ℤ
checked_value p e = option_and_then (λ s. summed_quots p s e.quots) (checked_plain p e.konst e.params e.iters)

-- whether a comparison holds, where its form has such a value
abbrev pub checked_comparison : Point → Comparison → Option Bool
checked_comparison p c = option_map (rel_holds c.rel) (checked_value p c.form)

-- whether all comparisons hold, tested in order up to the first that does not
abbrev pub checked_holds : Point → List Comparison → Option Bool
checked_holds p [] = Some true
checked_holds p (c ∷ cs) = option_and_then (λ b. if b then checked_holds p cs else Some false) (checked_comparison p c)
