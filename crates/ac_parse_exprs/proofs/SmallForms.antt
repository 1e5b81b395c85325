-- Index expressions within the limits, with a coefficient for each of few parameters and few loops around.
use Rattle.std.proofs.Common.{◌≡◌, ◌≤◌, ◌^◌, ℕ, suc, ℤ, pos, ◌+ℤ◌, Bool, true, false, not, cond, List, [], ◌∷◌, length, map, refl, sym, subst, arith, Option, Some, None}
use Rattle.std.specs.Prelude.{nat_le}
use Rattle.std.specs.List.{AllByRecursion}
use Rattle.std.proofs.lemmas.Bool.Decides.{nat_tests}
use Rattle.ac_syntax.specs.Small.{IsSmall, IsSmallQuot, IsSmallForm, AreSmallForms, IsSmallRel, IsSmallPart, AreSmallParts}
use Rattle.ac_syntax.specs.Index.{is_zero}
use Rattle.ac_syntax.specs.declared.tree.Place.{Place}
use Rattle.ac_syntax.specs.declared.tree.Quot.{Quot}
use Rattle.ac_parse_grammar.specs.declared.tree.Numeral.{Numeral}
use Rattle.ac_parse_grammar.specs.declared.tree.Part.{Part}
use Rattle.ac_parse_grammar.specs.declared.tree.Expr.{Expr}
use Rattle.ac_parse_grammar.specs.declared.tree.Relation.{Relation}
use Rattle.ac_parse_grammar.specs.declared.tree.Relation.TheVariants.{Less, AtMost, Greater, AtLeast, Equal}
use Rattle.ac_parse_exprs.specs.declared.scope.Entry.{Entry}
use Rattle.ac_parse_exprs.specs.declared.scope.Scope.{Scope}
use Rattle.ac_parse_exprs.specs.declared.form.Affine.{Affine}
use Rattle.ac_parse_exprs.specs.declared.form.Collected.{Collected}
use Rattle.ac_parse_exprs.specs.declared.form.Collected.TheVariants.{Known, Large, Unknown}
use Rattle.ac_parse_exprs.specs.declared.index.Judged.{Judged}
use Rattle.ac_parse_exprs.specs.AffineForms.{is_small, all_small, is_within, constant_form}
use Rattle.ac_parse_exprs.specs.Comparisons.{counted, form_or_zero, placed_form, index_expr, index, rel_of, rel_by, whole_broken, compared_by, compared, comparison, condition}
use Rattle.ac_parse_exprs.specs.Divisions.{Division, tested_division}
use Rattle.ac_parse_exprs.specs.IndexExpressions.{added, quot_of, judged}
use Rattle.ac_parse_exprs.proofs.Absent.{both_true, each, each_map}
use Rattle.ac_parse_exprs.proofs.Collecting.{HasColumns, Shaped, within, constant_shaped}
use Rattle.ac_parse_exprs.proofs.Judges.{judges, compared_judges}
use Rattle.ac_parse_exprs.proofs.QuotientForms.{MayDivide, Hold, all_counted, hold_judged, hold_part}
use Rattle.ac_parse_exprs.proofs.TestedDivisors.{divisor_at_least, divisor_small, tested_divisor}

pub record Few (scope : Scope) : Type 0 where
  pub params : scope.params ≤ 4
  pub loops : length scope.iterators ≤ 6

small_number : (z : ℤ) → is_small z ≡ true → IsSmall z
small_number z h = grind (arith, nat_tests)

small_numbers : (zs : List ℤ) → all_small zs ≡ true → AllByRecursion IsSmall zs
small_numbers [] h = tt
small_numbers (z ∷ zs) h = let b = both_true (is_small z) (all_small zs) h in (small_number z b.0, small_numbers zs b.1)

-- a quotient of a form keeps its numbers whatever its coefficient
pub other_coef : (q : Quot) (c : ℤ) → is_small c ≡ true → IsSmallQuot q → IsSmallQuot (record q { coef = c })
other_coef q c e h = record {
  coef = small_number c e;
  constant = h.constant;
  params = h.params;
  iters = h.iters;
  few_params = h.few_params;
  few_iters = h.few_iters;
  positive = h.positive;
  divisor = h.divisor;
}

pub small_quot : (scope : Scope) → Few scope → (up : Bool) (n : Numeral) (place : Place) (f : Affine) → MayDivide scope up n f → IsSmallQuot (quot_of up n place f)
small_quot scope few up n place f m =
    let w = within f m.within in record {
      coef = omega arith;
      constant = small_number (f.constant +ℤ added up n) m.small;
      params = small_numbers f.params w.params;
      iters = small_numbers f.iters w.iters;
      few_params = subst (λ k. k ≤ 4) (sym m.params) few.params;
      few_iters = subst (λ k. k ≤ 6) (sym m.iters) few.loops;
      positive = divisor_at_least n.number m.divisor;
      divisor = divisor_small n m.short;
    }

counted_by : (q : Quot) (qs : List Quot) (n : ℕ) (b : Bool) → length qs ≤ n → length (cond b (q ∷ qs) qs) ≤ suc n
counted_by q qs n true h = omega (arith, h)
counted_by q qs n false h = omega (arith, h)

few_counted : (qs : List Quot) → length (counted qs) ≤ length qs
few_counted [] = omega arith
few_counted (q ∷ qs) = counted_by q (counted qs) (length qs) (not (is_zero q.coef)) (few_counted qs)

few_enough : (n : ℕ) → nat_le n 65536 ≡ true → n ≤ 2 ^ 16
few_enough n h = grind (arith, nat_tests)

at_most : (a b c : ℕ) → a ≤ b → b ≤ c → a ≤ c
at_most a b c h k = omega (arith, h, k)

abbrev pub SmallQuots : Collected → Type 0
SmallQuots = Hold IsSmallQuot other_coef

module _ (scope : Scope) (few : Few scope) where
  small_known : (place : Place) (f : Affine) → HasColumns scope.params (length scope.iterators) f → AllByRecursion IsSmallQuot f.quots → IsSmallForm (placed_form place f)
  small_known place f h q =
      let w = within f h.2 in record {
        constant = small_number f.constant w.constant;
        params = small_numbers f.params w.params;
        iters = small_numbers f.iters w.iters;
        few_params = subst (λ n. n ≤ 4) (sym h.0) few.params;
        few_iters = subst (λ n. n ≤ 6) (sym h.1) few.loops;
        quots = all_counted IsSmallQuot other_coef f.quots q;
        few_quots = at_most (length (counted f.quots)) (length f.quots) (2 ^ 16) (few_counted f.quots) (few_enough (length f.quots) w.count);
      }

  small_zero : (place : Place) → IsSmallForm (placed_form place (constant_form scope.params (length scope.iterators) (pos 0)))
  small_zero place = small_known place (constant_form scope.params (length scope.iterators) (pos 0)) (constant_shaped scope.params (length scope.iterators) (pos 0) refl) tt

  small_collected : (place : Place) (c : Collected) → Shaped scope.params (length scope.iterators) c → SmallQuots c → IsSmallForm (placed_form place (form_or_zero scope c))
  small_collected place (Known f) h q = by (is_within f) refl
    where
      by : (b : Bool) → is_within f ≡ b → IsSmallForm (placed_form place (cond b f (constant_form scope.params (length scope.iterators) (pos 0))))
      by true e = small_known place f (h.0, h.1, e) q
      by false e = small_zero place
  small_collected place (Large constant) h q = small_zero place
  small_collected place Unknown h q = small_zero place

  pub small_index_expr : (j : Judged) → Shaped scope.params (length scope.iterators) j.form → SmallQuots j.form → IsSmallForm (index_expr scope j)
  small_index_expr j h q = small_collected j.place j.form h q

small_rel : (r : Relation) → IsSmallRel (rel_of r)
small_rel Less = tt
small_rel AtMost = tt
small_rel Greater = tt
small_rel AtLeast = tt
small_rel Equal = tt

module _ (names : List Entry) (scope : Scope) (few : Few scope) where
  pub small_index : (e : Expr) → IsSmallForm (index names scope e)
  small_index e = small_index_expr scope few (judged names scope e) (judges names scope e).0 (hold_judged IsSmallQuot other_coef names scope (small_quot scope few) e)

  pub small_indices : (es : List Expr) → AreSmallForms (map (index names scope) es)
  small_indices es = each_map (index names scope) IsSmallForm es (each (λ e. IsSmallForm (index names scope e)) small_index es)

  small_comparison : (part : Part) → IsSmallForm (comparison names scope part).form
  small_comparison part = small_index_expr scope few (compared names scope part) (compared_judges names scope part).0 (hold_part IsSmallQuot other_coef names scope (small_quot scope few) part)

  small_by : (part : Part) (d : Option Division) → whole_broken (compared_by names scope part d) ≡ None → IsSmallRel (rel_by part.relation d)
  small_by part None b = small_rel part.relation
  small_by part (Some d) b = let t = tested_divisor names scope d b in (divisor_at_least d.divisor.number t.0, divisor_small d.divisor t.1)

  pub small_part : (part : Part) → whole_broken (compared names scope part) ≡ None → IsSmallPart (comparison names scope part)
  small_part part b = record { form = small_comparison part; rel = small_by part (tested_division part) b }

  -- a condition of which no part is broken
  pub small_condition : (parts : List Part) → AllByRecursion (λ part. whole_broken (compared names scope part) ≡ None) parts → AreSmallParts (condition names scope parts)
  small_condition [] b = tt
  small_condition (part ∷ parts) b = (small_part part b.0, small_condition parts b.1)
