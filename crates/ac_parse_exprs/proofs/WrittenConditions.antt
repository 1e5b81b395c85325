-- Comparisons and conditions hold as they are written.
use Rattle.std.proofs.Common.{◌≡◌, ◌↔◌, ℕ, zero, suc, ℤ, pos, negsuc, ◌+ℤ◌, ◌*ℤ◌, ◌≤ℤ◌, ◌<ℤ◌, List, [], ◌∷◌, map, length, Bool, true, false, cond, ◌||◌, refl, sym, ap, subst, ◌∙◌, arith, Option, Some, None}
use Rattle.std.specs.List.{AllByRecursion, list_all}
use Rattle.std.specs.Option.{option_and_then}
use Rattle.std.proofs.lemmas.Int.{ints}
use Rattle.ac_syntax.specs.Index.{Point, quots_value, is_nonnegative, is_zero, rel_holds, comparison_holds}
use Rattle.ac_syntax.specs.declared.tree.Quot.{Quot}
use Rattle.ac_parse_grammar.specs.declared.tree.Part.{Part}
use Rattle.ac_parse_grammar.specs.declared.tree.Relation.{Relation}
use Rattle.ac_parse_grammar.specs.declared.tree.Relation.TheVariants.{Less, AtMost, Greater, AtLeast, Equal}
use Rattle.ac_parse_exprs.specs.declared.form.Affine.{Affine}
use Rattle.ac_parse_exprs.specs.declared.form.Collected.{Collected}
use Rattle.ac_parse_exprs.specs.declared.form.Collected.TheVariants.{Known, Large, Unknown}
use Rattle.ac_parse_exprs.specs.declared.scope.Entry.{Entry}
use Rattle.ac_parse_exprs.specs.declared.scope.Scope.{Scope}
use Rattle.ac_parse_exprs.specs.AffineForms.{are_kept, joined_quots, scaled_quots, limited}
use Rattle.ac_parse_exprs.specs.IndexExpressions.{is_long, is_refused, judged_chain, judged}
use Rattle.ac_parse_exprs.specs.Comparisons.{whole_broken, margin, difference_quots, difference_form, difference, compared_form, rel_of, rel_by, part_rel, compared_by, compared, comparison}
use Rattle.ac_parse_exprs.specs.Divisions.{Division, tested_division}
use Rattle.ac_parse_exprs.specs.WrittenValues.{integer_of, expression_value, IsRelated}
use Rattle.ac_parse_exprs.specs.FormValues.{AreNumbered, IsPointOf, form_value, IsCompared, ComparisonsHold, IsTrueAt, ConditionsHold}
use Rattle.ac_parse_exprs.proofs.Absent.{none_of, each_of_map, both_true}
use Rattle.ac_parse_exprs.proofs.Collecting.{Shaped}
use Rattle.ac_parse_exprs.proofs.FormValues.{Agrees, value-sum}
use Rattle.ac_parse_exprs.proofs.Judges.{judges, compared_judges, whole_known}
use Rattle.ac_parse_exprs.proofs.QuotientForms.{not_refused}
use Rattle.ac_parse_exprs.proofs.QuotientValues.{IsOf, value-joined, value-scaled, at_some}
use Rattle.ac_parse_exprs.proofs.WrittenDivisions.{division_holds}
use Rattle.ac_parse_exprs.proofs.WrittenExpressions.{chains_agree, expressions_agree, known_agrees, the_known, index_is}

above_zero : (z : ℤ) → (is_nonnegative z ≡ true) ↔ (pos 0 ≤ℤ z)
above_zero (pos n) = ((λ h. omega (arith, ints)), (λ h. refl))
above_zero (negsuc n) = ((λ h. absurd cc), (λ h. absurd (omega (arith, ints))))

at_zero : (z : ℤ) → (is_zero z ≡ true) ↔ (z ≡ pos 0)
at_zero (pos zero) = ((λ h. refl), (λ h. refl))
at_zero (pos (suc n)) = ((λ h. absurd cc), (λ h. absurd (omega (arith, ints))))
at_zero (negsuc n) = ((λ h. absurd cc), (λ h. absurd (omega (arith, ints))))

-- a difference against 0 is a comparison of the two
below_is : (x y z : ℤ) → z ≡ (y +ℤ (negsuc 0 *ℤ x)) +ℤ negsuc 0 → (is_nonnegative z ≡ true) ↔ (x <ℤ y)
below_is x y z h = ((λ t. let l = (above_zero z).0 t in omega (arith, ints, h, l)), (λ t. (above_zero z).1 (omega (arith, ints, h, t))))

at_most_is : (x y z : ℤ) → z ≡ (y +ℤ (negsuc 0 *ℤ x)) +ℤ pos 0 → (is_nonnegative z ≡ true) ↔ (x ≤ℤ y)
at_most_is x y z h = ((λ t. let l = (above_zero z).0 t in omega (arith, ints, h, l)), (λ t. (above_zero z).1 (omega (arith, ints, h, t))))

equal_is : (x y z : ℤ) → z ≡ (x +ℤ (negsuc 0 *ℤ y)) +ℤ pos 0 → (is_zero z ≡ true) ↔ (x ≡ y)
equal_is x y z h = ((λ t. let l = (at_zero z).0 t in omega (arith, ints, h, l)), (λ t. (at_zero z).1 (omega (arith, ints, h, t))))

-- a fact of a form, where there is one
abbrev Tells : (Affine → Type 0) → Collected → Type 0
Tells P (Known f) = P f
Tells P (Large constant) = Unit {0}
Tells P Unknown = Unit {0}

tells_further : (P Q : Affine → Type 0) → ((f : Affine) → P f → Q f) → (c : Collected) → Tells P c → Tells Q c
tells_further P Q g (Known f) h = g f h
tells_further P Q g (Large c) h = tt
tells_further P Q g Unknown h = tt

tells_case : (P : Affine → Type 0) (f : Affine) (constant b : Bool) → P f → Tells P (cond b (Known f) (Large constant))
tells_case P f constant true h = h
tells_case P f constant false h = tt

with_margin : (c m u : ℤ) → (c +ℤ m) +ℤ u ≡ (c +ℤ u) +ℤ m
with_margin c m u = omega (arith, ints)

module _ (p : Point) where
  value-difference : (strict : Bool) (f g : Affine) (qs : List Quot) → length f.params ≡ length g.params → length f.iters ≡ length g.iters → quots_value p qs ≡ quots_value p f.quots +ℤ negsuc 0 *ℤ quots_value p g.quots
      → form_value p (difference_form strict f g qs) ≡ (form_value p f +ℤ (negsuc 0 *ℤ form_value p g)) +ℤ margin strict
  value-difference strict f g qs h l q = with_margin (f.constant +ℤ (negsuc 0 *ℤ g.constant)) (margin strict) _ ∙ ap (λ z. z +ℤ margin strict) (value-sum p (negsuc 0) f g qs h l q)

  -- the quotients of a difference, whichever side comes first
  value-difference_quots : (turned : Bool) (ps qs rs : List Quot) → difference_quots turned ps qs ≡ Some rs → quots_value p rs ≡ quots_value p ps +ℤ negsuc 0 *ℤ quots_value p qs
  value-difference_quots false ps qs rs e = at_some p (joined_quots (negsuc 0) ps qs) _ rs (value-joined p (negsuc 0) ps qs) e
  value-difference_quots true ps qs rs e = by (scaled_quots (negsuc 0) qs) (value-scaled p (negsuc 0) qs) e
    where
      other_way : (u v w : ℤ) → u ≡ negsuc 0 *ℤ v → u +ℤ pos 1 *ℤ w ≡ w +ℤ negsuc 0 *ℤ v
      other_way u v w h = omega (arith, ints, h)

      by : (o : Option (List Quot)) → IsOf p o (negsuc 0 *ℤ quots_value p qs) → option_and_then (λ ts. joined_quots (pos 1) ts ps) o ≡ Some rs → quots_value p rs ≡ quots_value p ps +ℤ negsuc 0 *ℤ quots_value p qs
      by None h k = absurd cc
      by (Some ts) h k = at_some p (joined_quots (pos 1) ts ps) _ rs (value-joined p (pos 1) ts ps) k ∙ other_way (quots_value p ts) (quots_value p qs) (quots_value p ps) h

  -- the form is the difference of two values
  abbrev IsDifference : Bool → Option ℤ → Option ℤ → Affine → Type 0
  IsDifference strict v w f = (x : ℤ) × (y : ℤ) × (v ≡ Some x) × (w ≡ Some y) × (form_value p f ≡ (x +ℤ (negsuc 0 *ℤ y)) +ℤ margin strict)

  tells_limited : (P : Affine → Type 0) (o : Option (List Quot)) (form : List Quot → Affine) (constant : Bool) → ((qs : List Quot) → o ≡ Some qs → P (form qs)) → Tells P (limited o form constant)
  tells_limited P None form constant h = tt
  tells_limited P (Some qs) form constant h = tells_case P (form qs) constant (are_kept (form qs)) (h qs refl)

  difference_tells : (ps xs : ℕ) (turned strict : Bool) (a b : Collected) (v w : Option ℤ) → Shaped ps xs a → Shaped ps xs b → Agrees p a v → Agrees p b w → Tells (IsDifference strict v w) (difference turned strict a b)
  difference_tells ps xs turned strict (Known f) (Known g) v w s t h l =
      tells_limited (IsDifference strict v w) (difference_quots turned f.quots g.quots) (difference_form strict f g) false
      (λ qs e. (form_value p f, form_value p g, h, l, value-difference strict f g qs (s.0 ∙ sym t.0) (s.1 ∙ sym t.1) (value-difference_quots turned f.quots g.quots qs e)))
  difference_tells ps xs turned strict (Known f) (Large d) v w s t h l = tt
  difference_tells ps xs turned strict (Known f) Unknown v w s t h l = tt
  difference_tells ps xs turned strict (Large c) (Known g) v w s t h l = tt
  difference_tells ps xs turned strict (Large c) (Large d) v w s t h l = tt
  difference_tells ps xs turned strict (Large c) Unknown v w s t h l = tt
  difference_tells ps xs turned strict Unknown b v w s t h l = tt

  -- the form compares with 0 as two values compare
  abbrev Compares : Relation → Option ℤ → Option ℤ → Affine → Type 0
  Compares relation v w f = (x : ℤ) × (y : ℤ) × (v ≡ Some x) × (w ≡ Some y) × ((rel_holds (rel_of relation) (form_value p f) ≡ true) ↔ IsRelated relation x y)

  compared_tells : (ps xs : ℕ) (relation : Relation) (a b : Collected) (v w : Option ℤ) → Shaped ps xs a → Shaped ps xs b → Agrees p a v → Agrees p b w → Tells (Compares relation v w) (compared_form relation a b)
  compared_tells ps xs Less a b v w s t h l = tells_further (IsDifference true w v) (Compares Less v w) (λ f d. (d.1, d.0, d.3, d.2, below_is d.1 d.0 (form_value p f) d.4)) (difference true true b a) (difference_tells ps xs true true b a w v t s l h)
  compared_tells ps xs AtMost a b v w s t h l = tells_further (IsDifference false w v) (Compares AtMost v w) (λ f d. (d.1, d.0, d.3, d.2, at_most_is d.1 d.0 (form_value p f) d.4)) (difference true false b a) (difference_tells ps xs true false b a w v t s l h)
  compared_tells ps xs Greater a b v w s t h l = tells_further (IsDifference true v w) (Compares Greater v w) (λ f d. (d.0, d.1, d.2, d.3, below_is d.1 d.0 (form_value p f) d.4)) (difference false true a b) (difference_tells ps xs false true a b v w s t h l)
  compared_tells ps xs AtLeast a b v w s t h l = tells_further (IsDifference false v w) (Compares AtLeast v w) (λ f d. (d.0, d.1, d.2, d.3, at_most_is d.1 d.0 (form_value p f) d.4)) (difference false false a b) (difference_tells ps xs false false a b v w s t h l)
  compared_tells ps xs Equal a b v w s t h l = tells_further (IsDifference false v w) (Compares Equal v w) (λ f d. (d.0, d.1, d.2, d.3, equal_is d.0 d.1 (form_value p f) d.4)) (difference false false a b) (difference_tells ps xs false false a b v w s t h l)

told : (P : Affine → Type 0) (c : Collected) (f : Affine) → c ≡ Known f → Tells P c → P f
told P c f h k = subst (Tells P) h k

unless_known : (a b : Bool) (c : Collected) (f : Affine) → cond (a || b) Unknown c ≡ Known f → (a ≡ false) × (c ≡ Known f)
unless_known true b c f h = absurd cc
unless_known false true c f h = absurd cc
unless_known false false c f h = (refl, h)

compared_holds : (names : List Entry) (scope : Scope) (p : Point) → AreNumbered scope.params names → IsPointOf scope p → (part : Part) (f : Affine) (d : Option Division) → tested_division part ≡ d
    → (compared_by names scope part d).form ≡ Known f → IsCompared (integer_of names scope p) part (rel_holds (rel_by part.relation d) (form_value p f) ≡ true)
compared_holds names scope p a o part f None e h =
    let v = expression_value (integer_of names scope p) part.left in
    let w = expression_value (integer_of names scope p) part.right in
    told (Compares p part.relation v w) (compared_by names scope part None).form f h
    (compared_tells p scope.params (length scope.iterators) part.relation (judged names scope part.left).form (judged names scope part.right).form v w
    (judges names scope part.left).0 (judges names scope part.right).0 (expressions_agree names scope p a o part.left) (expressions_agree names scope p a o part.right))
compared_holds names scope p a o part f (Some d) e h =
    let j = judged_chain scope (map (judged names scope) d.operands) d.operators in
    let k = unless_known (is_refused scope d.divisor j) (is_long d.divisor) j.form f h in
    let r = not_refused scope d.divisor j k.0 in
    let v = known_agrees p j.form f _ k.1 (chains_agree names scope p a o d.operands d.operators) in
    division_holds (integer_of names scope p) part d (form_value p f) e r.1 v

pub comparisons_hold : ComparisonsHold
comparisons_hold names scope p a o part f h = compared_holds names scope p a o part f (tested_division part) refl h

-- a comparison that breaks no rule holds in the program as it is written
pub comparison_holds_as : (names : List Entry) (scope : Scope) (p : Point) → AreNumbered scope.params names → IsPointOf scope p → (part : Part) → whole_broken (compared names scope part) ≡ None
    → IsCompared (integer_of names scope p) part (comparison_holds p (comparison names scope part) ≡ true)
comparison_holds_as names scope p a o part b =
    let j = compared names scope part in
    let k = the_known j.form (whole_known scope.params (length scope.iterators) j (compared_judges names scope part) b) in
    subst (λ z. IsCompared (integer_of names scope p) part (rel_holds (part_rel part) z ≡ true)) (index_is p scope j k.0 k.1 k.2) (comparisons_hold names scope p a o part k.0 k.1)

same_value : (v : Option ℤ) (x y : ℤ) → v ≡ Some x → v ≡ Some y → x ≡ y
same_value v x y h k = let e : Some x ≡ Some y = sym h ∙ k in cc

true_as : (integer : List ℕ → Option ℤ) (part : Part) (Holds : Type 0) → IsCompared integer part Holds → Holds ↔ IsTrueAt integer part
true_as integer part Holds c = (
  (λ h. (c.0, c.1, c.2, c.3, c.4.0 h)),
  (λ t.
      let e = same_value (expression_value integer part.left) t.0 c.0 t.2 c.2 in
      let i = same_value (expression_value integer part.right) t.1 c.1 t.3 c.3 in
      c.4.1 (subst (λ x. IsRelated part.relation x c.1) e (subst (λ y. IsRelated part.relation t.0 y) i t.4))),
)

all_hold : (names : List Entry) (scope : Scope) (p : Point) → AreNumbered scope.params names → IsPointOf scope p → (parts : List Part) → AllByRecursion (λ part. whole_broken (compared names scope part) ≡ None) parts
    → (list_all (comparison_holds p) (map (comparison names scope) parts) ≡ true) ↔ AllByRecursion (IsTrueAt (integer_of names scope p)) parts
all_hold names scope p a o [] b = ((λ h. tt), (λ h. refl))
all_hold names scope p a o (part ∷ parts) b =
    let t = true_as (integer_of names scope p) part (comparison_holds p (comparison names scope part) ≡ true) (comparison_holds_as names scope p a o part b.0) in
    let r = all_hold names scope p a o parts b.1 in (
      (λ h. let u = both_true (comparison_holds p (comparison names scope part)) (list_all (comparison_holds p) (map (comparison names scope) parts)) h in (t.0 u.0, r.0 u.1)),
      (λ h. rw (t.1 h.0, r.1 h.1) refl),
    )

pub conditions_hold : ConditionsHold
conditions_hold names scope p a o parts b =
    all_hold names scope p a o parts (each_of_map (λ part. whole_broken (compared names scope part)) (λ b. b ≡ None) parts (none_of (map (λ part. whole_broken (compared names scope part)) parts) b))
