-- What stands at a conjunction, and its rows.
use Rattle.std.proofs.Common.{◌≡◌, ℕ, ◌+◌, ◌≤◌, List, [], ◌∷◌, Option, Some, None, Bool, true, false, cond, length, arith, refl, ap}
use Rattle.std.specs.List.{filter}
use Rattle.ac_forms.specs.declared.conj.Conj.{Conj}
use Rattle.ac_forms.specs.declared.row.Row.{Row}
use Rattle.ac_omega_steps.specs.Choices.{are_absurd}
use Rattle.ac_omega.specs.ColumnChoice.{or_else, by_rule, passes, key, precedes, precedes_by_two, least_from, is_two_sided, splinter_key, excess_key, by_splinters, next_column}
use Rattle.ac_omega.specs.declared.ranking.Rule.{Rule}
use Rattle.ac_omega.specs.declared.ranking.Rule.TheVariants as rule
use Rattle.ac_omega.specs.ConjunctionCosts.{pairs_formed, cost_of}
use Rattle.ac_omega.specs.ColumnElimination.{look, look_at}
use Rattle.ac_omega.specs.Walk.{Absurd, HasRows}
use Rattle.ac_omega_certify.specs.declared.strategy.Strategy.{Strategy}
use Rattle.ac_omega_certify.specs.declared.strategy.Strategy.TheVariants.{Full, Economical}

-- a row, where the next column is one
filter-none : {X : Type 0} (test : X → Bool) (xs : List X) → ((x : X) → test x ≡ false) → filter test xs ≡ []
filter-none test [] h = refl
filter-none test (x ∷ xs) h = rw (h x) (filter-none test xs h)

divided-none : (z : ℕ) → passes rule.Divided [] z ≡ false
divided-none z = refl

rule-none : (r : Rule) (vars : List ℕ) → by_rule r vars [] ≡ None
rule-none r vars = ap (λ zs. least_from (precedes (key r [])) None zs) (filter-none (passes r []) vars (λ z. at r z))
  where
    at : (r : Rule) (z : ℕ) → passes r [] z ≡ false
    at rule.Divided z = refl
    at rule.OneSided z = refl
    at rule.UnitPairs z = refl
    at rule.TwoSided z = refl

splinters-none : (strategy : Strategy) (vars : List ℕ) → by_splinters strategy vars [] ≡ None
splinters-none Full vars = rule-none rule.TwoSided vars
splinters-none Economical vars = ap (λ zs. least_from (precedes_by_two (splinter_key []) (excess_key [])) None zs) (filter-none (λ z. is_two_sided z []) vars (λ z. refl))

all-none : (a b c d e : Option ℕ) → a ≡ None → b ≡ None → c ≡ None → d ≡ None → e ≡ None → or_else a (or_else b (or_else c (or_else d e))) ≡ None
all-none a b c d e p q r s t = simp (p, q, r, s, t)

pub no-rows : (strategy : Strategy) (vars : List ℕ) → next_column strategy vars [] ≡ None
unfolding next_column
no-rows strategy vars = all-none _ _ _ _ _ refl (rule-none rule.Divided vars) (rule-none rule.OneSided vars) (rule-none rule.UnitPairs vars) (splinters-none strategy vars)

column-rows : (strategy : Strategy) (vars : List ℕ) (rows : List Row) (z : ℕ) → next_column strategy vars rows ≡ Some z → 1 ≤ length rows
column-rows strategy vars [] z e = let f = no-rows strategy vars in absurd cc
column-rows strategy vars (r ∷ rs) z e = omega arith

-- each row is paid
no-less : (m n : ℕ) → m ≤ m + n
no-less m n = omega arith

rows-paid : (strategy : Strategy) (vars : List ℕ) (rows : List Row) → 1 ≤ length rows → 1 ≤ cost_of strategy vars rows
unfolding cost_of
rows-paid Full vars rows h = h
rows-paid Economical vars rows h = omega (arith, h, no-less (length rows) (pairs_formed vars rows))

pub column-cost : (strategy : Strategy) (vars : List ℕ) (rows : List Row) (z : ℕ) → next_column strategy vars rows ≡ Some z → 1 ≤ cost_of strategy vars rows
column-cost strategy vars rows z e = rows-paid strategy vars rows (column-rows strategy vars rows z e)

absurd-rows : (rows : List Row) → are_absurd rows ≡ true → 1 ≤ length rows
absurd-rows [] e = absurd cc
absurd-rows (r ∷ rs) e = omega arith

pub has-rows : (strategy : Strategy) (vars : List ℕ) (c : Conj) → HasRows (look strategy vars c) (cost_of strategy vars c.rows)
has-rows strategy vars c = at (are_absurd c.rows) refl
  where
    by : (o : Option ℕ) → next_column strategy vars c.rows ≡ o → HasRows (look_at strategy c o) (cost_of strategy vars c.rows)
    by None e = tt
    by (Some z) e = column-cost strategy vars c.rows z e

    at : (t : Bool) → are_absurd c.rows ≡ t → HasRows (cond t Absurd (look_at strategy c (next_column strategy vars c.rows))) (cost_of strategy vars c.rows)
    at true e = rows-paid strategy vars c.rows (absurd-rows c.rows e)
    at false e = by (next_column strategy vars c.rows) refl
