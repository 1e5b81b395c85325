-- The rules read conditions back from the trees of their canonical text.
use Rattle.std.proofs.Common.{◌≡◌, ℕ, zero, suc, List, [], ◌∷◌, map, length, refl, sym, ap, subst, ◌∙◌, true, false, ℤ, pos, negsuc, ◌+ℤ◌, ◌*ℤ◌, arith, Option, Some, None}
use Rattle.std.proofs.lemmas.Int.{ints}
use Rattle.ac_syntax.specs.declared.tree.Rel.{Rel}
use Rattle.ac_syntax.specs.declared.tree.Place.{Place}
use Rattle.ac_syntax.specs.declared.tree.Quot.{Quot}
use Rattle.ac_syntax.specs.declared.tree.Rel.TheVariants.{NonNegative, Zero, Divides}
use Rattle.ac_syntax.specs.declared.tree.Comparison.{Comparison}
use Rattle.ac_syntax.specs.declared.tree.IndexExpr.{IndexExpr}
use Rattle.ac_syntax.specs.Text as text
use Rattle.ac_parse_grammar.specs.declared.tree.Numeral.{Numeral}
use Rattle.ac_parse_grammar.specs.declared.tree.Relation.{Relation}
use Rattle.ac_parse_grammar.specs.declared.tree.Relation.TheVariants.{AtLeast, Equal}
use Rattle.ac_parse_grammar.specs.declared.tree.Expr.{Expr}
use Rattle.ac_parse_grammar.specs.declared.tree.Expr.TheVariants as expr
use Rattle.ac_parse_grammar.specs.declared.tree.Part.{Part}
use Rattle.ac_parse_exprs.specs.declared.fault.Broken.{Broken}
use Rattle.ac_parse_exprs.specs.declared.form.Affine.{Affine}
use Rattle.ac_parse_exprs.specs.declared.form.Collected.{Collected}
use Rattle.ac_parse_exprs.specs.declared.form.Collected.TheVariants.{Known}
use Rattle.ac_parse_exprs.specs.declared.scope.Entry.{Entry}
use Rattle.ac_parse_exprs.specs.declared.scope.Scope.{Scope}
use Rattle.ac_parse_exprs.specs.declared.index.Judged.{Judged}
use Rattle.ac_parse_exprs.specs.FaultOrder.{earlier}
use Rattle.ac_parse_exprs.specs.AffineForms.{plus_times, zeros, constant_form}
use Rattle.ac_parse_exprs.specs.IndexExpressions.{is_long, is_refused, judged}
use Rattle.ac_parse_exprs.specs.Comparisons.{first_of, first_from, whole_broken, index, index_broken, difference_form, difference, compared_form, compared_forms, judged_division, side_place, compared_by, compared, rel_of, rel_by, part_rel, comparison, condition, condition_broken}
use Rattle.ac_parse_exprs.proofs.Absent.{NoneBroken}
use Rattle.ac_parse_exprs.proofs.Collecting.{Within}
use Rattle.ac_parse_exprs.proofs.Judging.{judged-group}
use Rattle.ac_parse_roundtrip.specs.CanonicalTrees.{Each, IsNumberTree, IsQuotientTree, IsFormTree, relation, IsTestedTree, IsComparisonTree}
use Rattle.ac_parse_roundtrip.specs.PlaceErasure.{quot_without_place, forms_without_places, comparison_without_place, parts_without_places}
use Rattle.ac_parse_roundtrip.specs.ColumnNames.{MayDivide, FitsScope, FitScope, FitsTest, FitsRel, PartFitsScope, PartsFitScope}
use Rattle.ac_parse_roundtrip.proofs.FormRoundTrip.{Reads, affine, limited_as, within_true, number_read}
use Rattle.ac_parse_roundtrip.proofs.QuotientRoundTrip.{AreRead, unrefused, not_long, undivided_broken, unless, neither_true, form_read, alone_read, whole_none, placed_as, forms_are_read_back}
use Rattle.ac_parse_roundtrip.proofs.TestedTrees.{form_alone, form_untested, rest_tested}

-- where nothing of several is broken there is no first
pub none_broken : (cs : List (Option Broken)) → NoneBroken cs → first_of cs ≡ None
none_broken [] h = refl
none_broken (c ∷ cs) h = subst (λ b. first_from (earlier None b) cs ≡ None) (sym h.0) (none_broken cs h.1)

less_nothing : (x : ℤ) → x +ℤ negsuc 0 *ℤ pos 0 ≡ x
less_nothing x = omega (arith, ints)

nothing_less : (x : ℤ) → (x +ℤ negsuc 0 *ℤ pos 0) +ℤ pos 0 ≡ x
nothing_less x = omega (arith, ints)

less_zeros : (xs : List ℤ) (n : ℕ) → plus_times (negsuc 0) xs (zeros n) ≡ xs
less_zeros [] n = refl
less_zeros (x ∷ xs) zero = ap (λ rest. x ∷ rest) (less_zeros xs zero)
less_zeros (x ∷ xs) (suc n) = rw (less_zeros xs n, less_nothing x) refl

-- a form less 0 is the form
difference_is : (ps xs : ℕ) (f : Affine) → difference_form false f (constant_form ps xs (pos 0)) f.quots ≡ f
difference_is ps xs f = rw (less_zeros f.params ps, less_zeros f.iters xs, nothing_less f.constant) refl

at_least_known : (a b : Collected) (ps xs : ℕ) (f : Affine) → a ≡ Known f → b ≡ Known (constant_form ps xs (pos 0)) → Within f → difference false false a b ≡ Known f
at_least_known a b ps xs f i j w = rw (i, j) (limited_as (Some f.quots) (difference_form false f (constant_form ps xs (pos 0))) f false refl (difference_is ps xs f) w)

-- a form that is compared with 0
abbrev pub Compares : Relation → Type 0
Compares r = (a b : Judged) (ps xs : ℕ) (f : Affine) → Reads false a f → Reads false b (constant_form ps xs (pos 0)) → Within f → Reads false (compared_forms r a b) f

compares_by : (r : Relation) → ((a b : Collected) → compared_form r a b ≡ difference false false a b) → Compares r
compares_by r e a b ps xs f i j w =
    let k = e a.form b.form ∙ at_least_known a.form b.form ps xs f i.form j.form w in
    record {
      form = k;
      large = rw (i.large, j.large, k, within_true f w) refl;
      affine = rw (i.affine, j.affine) refl;
      exact = λ p. absurd cc;
      broken = rw (i.broken, j.broken) refl;
    }

module _ (names : List Entry) (scope : Scope) (written : text.Scope) where
  -- what the rules say of a comparison is its form, but for the places of quotients
  abbrev pub IsReadAs : Comparison → Part → Type 0
  IsReadAs c part = (qs : List Quot) × AreRead names scope written c.form.quots qs × Within (affine c.form.konst c.form.params c.form.iters qs)
      × Reads false (compared names scope part) (affine c.form.konst c.form.params c.form.iters qs) × (part_rel part ≡ c.rel)

  compared_read : (e : IndexExpr) (r : Rel) (part : Part) → Compares (relation r) → rel_of (relation r) ≡ r → FitsScope names scope written e → IsFormTree written e part.left → part.relation ≡ relation r → IsNumberTree 0 part.right
      → IsReadAs (record { form = e; rel = r }) part
  compared_read e r part compares same fit left related right =
      let u = form_untested part (form_alone written e part.left left) in
      let a = form_read names scope written e fit part.left left in
      let b = (number_read names scope false (IsQuotientTree written) 0 part.right (omega arith) right).form in
      let f = affine e.konst e.params e.iters a.0 in
      let k = subst (λ r. Reads false (compared_forms r (judged names scope part.left) (judged names scope part.right)) f) (sym related)
      (compares (judged names scope part.left) (judged names scope part.right) scope.params (length scope.iterators) f a.3.form b a.2) in
      (a.0, a.1, a.2, subst (λ d. Reads false (compared_by names scope part d) f) (sym u) k, ap (rel_by part.relation) u ∙ (ap rel_of related ∙ same))

  -- a test of a divisor
  tested_reads : (scope : Scope) (n : Numeral) (m : ℤ) (place : Place) (j : Judged) (f : Affine) → pos n.number ≡ m → MayDivide scope f.iters m → Reads true j f → Reads false (judged_division scope n place j) f
  tested_reads scope n m place j f e d r =
      let u = unrefused scope n m j f e d r in
      let l = not_long scope n m f.iters e d in
      record {
        form = unless (is_refused scope n j) (is_long n) j.form u l ∙ r.form;
        large = r.large;
        affine = neither_true j.awry (is_refused scope n j) r.affine u;
        exact = λ p. absurd cc;
        broken = undivided_broken (is_refused scope n j) n place j u l r.broken;
      }

  group_reads : (inner : Expr) (place : Place) (f : Affine) → Reads true (judged names scope inner) f → Reads true (judged names scope (expr.Group inner place)) f
  group_reads inner place f r = rw (judged-group names scope inner place) (record { form = r.form; large = r.large; affine = r.affine; exact = r.exact; broken = r.broken })

  tested_read : (e : IndexExpr) (m : ℤ) (part : Part) → FitsScope names scope written e → FitsTest scope m e → IsTestedTree written (Divides m) e part.left → part.relation ≡ Equal → IsNumberTree 0 part.right
      → IsReadAs (record { form = e; rel = Divides m }) part
  tested_read e m part fit test left related right =
      let u = rest_tested written m e part left related right in
      let a = alone_read names scope written e fit test.plain left.0 left.3 in
      let g = group_reads left.0 left.1 (affine e.konst e.params e.iters []) a.1 in
      let k = tested_reads scope left.2 m (side_place None (judged names scope (expr.Group left.0 left.1)).place) (judged names scope (expr.Group left.0 left.1)) (affine e.konst e.params e.iters []) left.4 test.divisor g in (
        [],
        (ap (map quot_without_place) (sym test.plain), refl),
        a.0,
        subst (λ d. Reads false (compared_by names scope part d) (affine e.konst e.params e.iters [])) (sym u) k,
        ap (rel_by part.relation) u ∙ ap Divides left.4,
      )

  part_read : (e : IndexExpr) (r : Rel) (part : Part) → FitsScope names scope written e → FitsRel scope r e → IsTestedTree written r e part.left → part.relation ≡ relation r → IsNumberTree 0 part.right
      → IsReadAs (record { form = e; rel = r }) part
  part_read e NonNegative part fit rel left related right = compared_read e NonNegative part (compares_by AtLeast (λ a b. refl)) refl fit left related right
  part_read e Zero part fit rel left related right = compared_read e Zero part (compares_by Equal (λ a b. refl)) refl fit left related right
  part_read e (Divides m) part fit rel left related right = tested_read e m part fit rel left related right

  pub comparison_read : (c : Comparison) (part : Part) → PartFitsScope names scope written c → IsComparisonTree written c part → IsReadAs c part
  comparison_read c part fit t = part_read c.form c.rel part fit.form fit.rel t.left t.relation t.right

  pub comparison_none : (c : Comparison) (part : Part) → PartFitsScope names scope written c → IsComparisonTree written c part → whole_broken (compared names scope part) ≡ None
  comparison_none c part fit t = let r = comparison_read c part fit t in whole_none false (compared names scope part) (affine c.form.konst c.form.params c.form.iters r.0) r.3

  comparison_same : (c : Comparison) (part : Part) → PartFitsScope names scope written c → IsComparisonTree written c part → comparison_without_place (comparison names scope part) ≡ comparison_without_place c
  comparison_same c part fit t =
      let r = comparison_read c part fit t in
      let f = placed_as scope false (compared names scope part) c.form r.0 r.1.0 r.1.1 r.2 r.3 in
      rw (f, r.4) refl

  pub conditions_none : (cs : List Comparison) (parts : List Part) → PartsFitScope names scope written cs → Each (IsComparisonTree written) cs parts
      → NoneBroken (map (λ part. whole_broken (compared names scope part)) parts)
  conditions_none [] [] fit t = tt
  conditions_none [] (part ∷ parts) fit t = absurd t
  conditions_none (c ∷ cs) [] fit t = absurd t
  conditions_none (c ∷ cs) (part ∷ parts) fit t = (comparison_none c part fit.0 t.0, conditions_none cs parts fit.1 t.1)

  pub condition_none : (cs : List Comparison) (parts : List Part) → PartsFitScope names scope written cs → Each (IsComparisonTree written) cs parts → condition_broken names scope parts ≡ None
  condition_none cs parts fit t = none_broken (map (λ part. whole_broken (compared names scope part)) parts) (conditions_none cs parts fit t)

  pub condition_same : (cs : List Comparison) (parts : List Part) → PartsFitScope names scope written cs → Each (IsComparisonTree written) cs parts
      → parts_without_places (condition names scope parts) ≡ parts_without_places cs
  condition_same [] [] fit t = refl
  condition_same [] (part ∷ parts) fit t = absurd t
  condition_same (c ∷ cs) [] fit t = absurd t
  condition_same (c ∷ cs) (part ∷ parts) fit t = rw (comparison_same c part fit.0 t.0, condition_same cs parts fit.1 t.1) refl

  -- subscripts
  pub subscripts_none : (es : List IndexExpr) (ts : List Expr) → FitScope names scope written es → Each (IsFormTree written) es ts → NoneBroken (map (index_broken names scope) ts)
  subscripts_none [] [] fit t = tt
  subscripts_none [] (tree ∷ ts) fit t = absurd t
  subscripts_none (e ∷ es) [] fit t = absurd t
  subscripts_none (e ∷ es) (tree ∷ ts) fit t = ((forms_are_read_back names scope written e fit.0 tree t.0).0, subscripts_none es ts fit.1 t.1)

  pub subscripts_same : (es : List IndexExpr) (ts : List Expr) → FitScope names scope written es → Each (IsFormTree written) es ts → forms_without_places (map (index names scope) ts) ≡ forms_without_places es
  subscripts_same [] [] fit t = refl
  subscripts_same [] (tree ∷ ts) fit t = absurd t
  subscripts_same (e ∷ es) [] fit t = absurd t
  subscripts_same (e ∷ es) (tree ∷ ts) fit t = rw ((forms_are_read_back names scope written e fit.0 tree t.0).1, subscripts_same es ts fit.1 t.1) refl

pub same_length : {A B : Type 0} (R : A → B → Type 0) (xs : List A) (ys : List B) → Each R xs ys → length ys ≡ length xs
same_length R [] [] t = refl
same_length R [] (y ∷ ys) t = absurd t
same_length R (x ∷ xs) [] t = absurd t
same_length R (x ∷ xs) (y ∷ ys) t = ap suc (same_length R xs ys t.1)
