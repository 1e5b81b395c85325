-- Divisors of quotients and of tests that break no rule.
use Rattle.std.proofs.Common.{◌≡◌, ℕ, zero, suc, pos, ◌≤ℤ◌, ◌==◌, false, List, map, arith, None}
use Rattle.std.proofs.lemmas.Int.{ints}
use Rattle.std.proofs.lemmas.Bool.Decides.{nat_tests}
use Rattle.ac_syntax.specs.Small.{IsSmall}
use Rattle.ac_parse_grammar.specs.declared.tree.Numeral.{Numeral}
use Rattle.ac_parse_exprs.specs.declared.fault.Which.TheVariants.{Coefficient}
use Rattle.ac_parse_exprs.specs.declared.fault.Rule.TheVariants.{Limit}
use Rattle.ac_parse_exprs.specs.declared.index.Judged.{Judged}
use Rattle.ac_parse_exprs.specs.declared.scope.Entry.{Entry}
use Rattle.ac_parse_exprs.specs.declared.scope.Scope.{Scope}
use Rattle.ac_parse_exprs.specs.FaultOrder.{broken_where}
use Rattle.ac_parse_exprs.specs.IndexExpressions.{is_long, is_refused, judged_chain, judged}
use Rattle.ac_parse_exprs.specs.Comparisons.{whole_broken, side_place, judged_division, tested}
use Rattle.ac_parse_exprs.specs.Divisions.{Division}
use Rattle.ac_parse_exprs.proofs.Absent.{neither}
use Rattle.ac_parse_exprs.proofs.Judges.{undivided}
use Rattle.ac_parse_exprs.proofs.QuotientForms.{not_refused}

pub divisor_at_least : (n : ℕ) → (n == 0) ≡ false → pos 1 ≤ℤ pos n
divisor_at_least zero h = absurd cc
divisor_at_least (suc n) h = omega (arith, ints)

pub divisor_small : (n : Numeral) → is_long n ≡ false → IsSmall (pos n.number)
divisor_small n h = grind (arith, nat_tests, h)

-- what is divided in a test that breaks no rule
abbrev pub divided : List Entry → Scope → Division → Judged
divided names scope d = judged_chain scope (map (judged names scope) d.operands) d.operators

pub unrefused_test : (names : List Entry) (scope : Scope) (d : Division) → whole_broken (tested scope d (divided names scope d)) ≡ None → (is_long d.divisor ≡ false) × (is_refused scope d.divisor (divided names scope d) ≡ false)
unrefused_test names scope d b =
    let j = divided names scope d in
    let n = neither (judged_division scope d.divisor (side_place d.parenthesis j.place) j).broken (broken_where j.large (Limit Coefficient) (side_place d.parenthesis j.place)) b in
    let u = undivided (is_refused scope d.divisor j) d.divisor (side_place d.parenthesis j.place) j n.0 in
    (u.1, u.2)

pub tested_divisor : (names : List Entry) (scope : Scope) (d : Division) → whole_broken (tested scope d (divided names scope d)) ≡ None → ((d.divisor.number == 0) ≡ false) × (is_long d.divisor ≡ false)
tested_divisor names scope d b =
    let u = unrefused_test names scope d b in
    ((not_refused scope d.divisor (divided names scope d) u.1).1, u.0)
