-- The values of index expressions and conditions, in exact integers.
use Rattle.std.specs.Prelude.{zero, suc, List, [], ◌∷◌, Bool, true, false, ℤ, pos, negsuc, ◌+ℤ◌, ◌*ℤ◌, unsigned_abs}
use Rattle.std.specs.Int.{int_div_euclid}
use Rattle.std.specs.List.{list_all}
use Rattle.ac_base.specs.Dot.{dot}
use Rattle.ac_base.specs.Multiple.{divides}
use Rattle.ac_syntax.specs.declared.tree.Quot.{Quot}
use Rattle.ac_syntax.specs.declared.tree.IndexExpr.{IndexExpr}
use Rattle.ac_syntax.specs.declared.tree.Rel.{Rel}
use Rattle.ac_syntax.specs.declared.tree.Rel.TheVariants.{NonNegative, Zero, Divides}
use Rattle.ac_syntax.specs.declared.tree.Comparison.{Comparison}
use Rattle.ac_syntax.specs.declared.tree.Cond.{Cond}

-- a valuation of the parameters, and the values of the iterators, the outermost first
pub record Point : Type 0 where
  pub params : List ℤ
  pub iters : List ℤ

abbrev pub point : List ℤ → List ℤ → Point
point params iters = record { params = params; iters = iters }

-- the value of the form that a quotient divides
abbrev pub quot_argument : Point → Quot → ℤ
quot_argument p q = q.konst +ℤ (dot q.params p.params +ℤ dot q.iters p.iters)

-- its quotient by the divisor, rounded down where the divisor is at least 1
abbrev pub quot_value : Point → Quot → ℤ
quot_value p q = int_div_euclid (quot_argument p q) q.div

abbrev pub quots_value : Point → List Quot → ℤ
quots_value p [] = pos 0
quots_value p (q ∷ qs) = (q.coef *ℤ quot_value p q) +ℤ quots_value p qs

-- the constant plus the sum of the products
abbrev pub index_value : Point → IndexExpr → ℤ
index_value p e = e.konst +ℤ (dot e.params p.params +ℤ (dot e.iters p.iters +ℤ quots_value p e.quots))

abbrev pub is_nonnegative : ℤ → Bool
is_nonnegative (pos n) = true
is_nonnegative (negsuc n) = false

abbrev pub is_zero : ℤ → Bool
is_zero (pos zero) = true
is_zero (pos (suc n)) = false
is_zero (negsuc n) = false

abbrev pub rel_holds : Rel → ℤ → Bool
rel_holds NonNegative z = is_nonnegative z
rel_holds Zero z = is_zero z
rel_holds (Divides m) z = divides (unsigned_abs m) z

abbrev pub comparison_holds : Point → Comparison → Bool
comparison_holds p c = rel_holds c.rel (index_value p c.form)

-- all comparisons of a condition hold
abbrev pub holds : Point → Cond → Bool
holds p c = list_all (comparison_holds p) c.parts
