-- The rules read a form with quotients back from the tree of its canonical text.
use Rattle.std.proofs.Common.{◌≡◌, ℕ, zero, suc, ◌+◌, ◌≤◌, List, [], ◌∷◌, ◌++◌, map, length, refl, sym, ap, subst, ◌∙◌, Bool, true, false, not, cond, ◌&&◌, ◌||◌, ◌==◌, ℤ, pos, ◌≤ℤ◌, ◌+ℤ◌, arith, Some, None, nat_lt, append_assoc, append-nil}
use Rattle.std.specs.List.{AllByRecursion}
use Rattle.std.proofs.lemmas.Int.{ints}
use Rattle.std.proofs.lemmas.List.{length-append}
use Rattle.std.proofs.lemmas.Bool.Decides.{nat_tests}
use Rattle.ac_syntax.specs.declared.tree.Place.{Place}
use Rattle.ac_syntax.specs.declared.tree.Quot.{Quot}
use Rattle.ac_syntax.specs.declared.tree.IndexExpr.{IndexExpr}
use Rattle.ac_syntax.specs.Index.{is_zero}
use Rattle.ac_syntax.specs.Turns.{innermost}
use Rattle.ac_syntax.specs.Small.{IsSmall}
use Rattle.ac_syntax.specs.Quotients.{same_quot}
use Rattle.ac_syntax.specs.Text as text
use Rattle.ac_syntax.specs.Text.{is_other_than_zero}
use Rattle.ac_parse_grammar.specs.declared.tree.Numeral.{Numeral}
use Rattle.ac_parse_grammar.specs.declared.tree.Expr.{Expr}
use Rattle.ac_parse_grammar.specs.declared.tree.Expr.TheVariants as expr
use Rattle.ac_parse_exprs.specs.declared.form.Affine.{Affine}
use Rattle.ac_parse_exprs.specs.declared.form.Collected.{Collected}
use Rattle.ac_parse_exprs.specs.declared.form.Collected.TheVariants.{Known, Unknown}
use Rattle.ac_parse_exprs.specs.declared.scope.Entry.{Entry}
use Rattle.ac_parse_exprs.specs.declared.scope.Scope.{Scope}
use Rattle.ac_parse_exprs.specs.declared.index.Judged.{Judged}
use Rattle.ac_parse_exprs.specs.AffineForms.{is_large, is_small, all_small, coef_of, is_within, quotient_form, constant_form}
use Rattle.ac_parse_exprs.specs.IndexExpressions.{is_long, changes_by_turn, is_refused, quot_of, rounded_form, quotient_of, divided_broken, judged_quotient, judged}
use Rattle.ac_parse_exprs.specs.Comparisons.{whole_broken, counted, index_expr}
use Rattle.ac_parse_exprs.specs.Values.{number}
use Rattle.ac_parse_exprs.proofs.Collecting.{Within}
use Rattle.ac_parse_exprs.proofs.Judging.{judged-quotient}
use Rattle.ac_parse_exprs.proofs.Readings.{reading-quotient}
use Rattle.ac_parse_roundtrip.specs.CanonicalTrees.{Each, by_quotient, summand, products, multiples, summands, IsProductTree, IsSummandTree, IsSumTree, NoneRounds, IsQuotientTree, IsFormTree}
use Rattle.ac_parse_roundtrip.specs.PlaceErasure.{quot_without_place, form_without_place}
use Rattle.ac_parse_roundtrip.specs.ColumnNames.{MayDivide, FitColumns, FitsQuotient, AreDistinct, FitsScope}
use Rattle.ac_parse_roundtrip.specs.RuleRoundTrip.{FormsAreReadBack}
use Rattle.ac_parse_roundtrip.proofs.Sums.{plus_zeros, zeros_small, zeros_of}
use Rattle.ac_parse_roundtrip.proofs.FormRoundTrip as forms
use Rattle.ac_parse_roundtrip.proofs.FormRoundTrip.{Reads, Sums, Lacks, affine, within_true, small_test, each_split, joined_new, lacks_one_more, one_more_small, other_not_zero, no_constant, of_one, once_is, nothing_added}

-- ---- what may be divided is not refused

at_least_one : (n : ℕ) (m : ℤ) → pos n ≡ m → pos 1 ≤ℤ m → (n == 0) ≡ false
at_least_one zero m e h = absurd (omega (arith, ints, e, h))
at_least_one (suc n) m e h = grind (arith, nat_tests)

no_longer : (n : ℕ) (m : ℤ) → pos n ≡ m → IsSmall m → nat_lt 2147483648 n ≡ false
no_longer n m e h = let s : IsSmall (pos n) = subst IsSmall (sym e) h in grind (arith, nat_tests, s)

steady_case : (b z : Bool) → (b ≡ true → z ≡ true) → (b && not z) ≡ false
steady_case true z h = rw (h refl) refl
steady_case false z h = refl

none_refuses : (a b c d e : Bool) → a ≡ false → b ≡ false → c ≡ false → d ≡ false → e ≡ false → (a || b || c || d || e) ≡ false
none_refuses a b c d e h i j k l = rw (h, i, j, k, l) refl

pub unrefused : (scope : Scope) (n : Numeral) (m : ℤ) (j : Judged) (f : Affine) → pos n.number ≡ m → MayDivide scope f.iters m → Reads true j f → is_refused scope n j ≡ false
unrefused scope n m j f e d r =
    none_refuses scope.fixed (n.number == 0) j.rounds j.awry (changes_by_turn scope j.form) d.free (at_least_one n.number m e d.positive) (r.exact refl) r.affine
    (ap (changes_by_turn scope) r.form ∙ steady_case scope.tested (is_zero (innermost f.iters)) d.steady)

pub not_long : (scope : Scope) (n : Numeral) (m : ℤ) (iters : List ℤ) → pos n.number ≡ m → MayDivide scope iters m → is_long n ≡ false
not_long scope n m iters e d = no_longer n.number m e d.small

pub undivided_broken : (refused : Bool) (n : Numeral) (place : Place) (j : Judged) → refused ≡ false → is_long n ≡ false → j.broken ≡ None → divided_broken refused n place j ≡ None
undivided_broken refused n place j h i k = rw (h, i, k) refl

-- ---- quotients

-- with another place
abbrev moved : Quot → Place → Quot
moved q place = record { coef = q.coef; konst = q.konst; params = q.params; iters = q.iters; div = q.div; place = place }

-- once
abbrev one_of : Quot → Place → Quot
one_of q place = record { coef = pos 1; konst = q.konst; params = q.params; iters = q.iters; div = q.div; place = place }

abbrev argument_form : Quot → Affine
argument_form q = affine q.konst q.params q.iters []

quot_as : (q : Quot) (n : Numeral) (place : Place) → pos n.number ≡ q.div → quot_of false n place (argument_form q) ≡ one_of q place
quot_as q n place e = rw (nothing_added q.konst, e) refl

rounded_case : (scope : Scope) (n : Numeral) (place : Place) (f : Affine) → is_within f ≡ true → is_small (f.constant +ℤ pos 0) ≡ true
    → rounded_form scope false n place f ≡ Known (quotient_form scope.params (length scope.iterators) (quot_of false n place f))
rounded_case scope n place f h k = rw (h, k) refl

pub unless : (a b : Bool) (c : Collected) → a ≡ false → b ≡ false → cond (a || b) Unknown c ≡ c
unless a b c h k = rw (h, k) refl

not_large : (x : Bool) (c : Collected) (f : Affine) → x ≡ false → c ≡ Known f → is_within f ≡ true → (x || is_large c) ≡ false
not_large x c f h e w = rw (h, e, w) refl

pub neither_true : (x y : Bool) → x ≡ false → y ≡ false → (x || y) ≡ false
neither_true x y h k = rw (h, k) refl

module _ (names : List Entry) (scope : Scope) (written : text.Scope) where
  abbrev ps : ℕ
  ps = scope.params

  abbrev xs : ℕ
  xs = length scope.iterators

  -- forms whose quotients have arguments of this text
  abbrev Rounds : Quot → Expr → Type 0
  Rounds = IsQuotientTree written

  abbrev pub IsRead : Expr → Affine → Type 0
  IsRead tree f = forms.IsRead names scope false Rounds tree f

  abbrev Adds : Affine → List Expr → Affine → Type 0
  Adds g trees h = forms.Adds names scope false Rounds g trees h

  alone_within : (q : Quot) → is_small q.coef ≡ true → Within (quotient_form ps xs q)
  alone_within q h = record { constant = refl; params = zeros_small ps; iters = zeros_small xs; coefs = rw h refl; count = refl }

  divided_reads : (q : Quot) (n : Numeral) (place : Place) (j : Judged) → pos n.number ≡ q.div → FitsQuotient names scope written q → Within (argument_form q) → Reads true j (argument_form q)
      → Reads false (judged_quotient scope false n place j) (quotient_form ps xs (one_of q place))
  divided_reads q n place j e fit w r =
      let u = unrefused scope n q.div j (argument_form q) e fit.divisor r in
      let l = not_long scope n q.div q.iters e fit.divisor in
      let s : is_small (q.konst +ℤ pos 0) ≡ true = subst (λ z. is_small z ≡ true) (sym (nothing_added q.konst)) w.constant in
      let k : cond (is_refused scope n j || is_long n) Unknown (quotient_of scope false n place j.form) ≡ Known (quotient_form ps xs (one_of q place)) =
      unless (is_refused scope n j) (is_long n) (quotient_of scope false n place j.form) u l
      ∙ (ap (quotient_of scope false n place) r.form ∙ (rounded_case scope n place (argument_form q) (within_true (argument_form q) w) s
      ∙ ap (λ c. Known (quotient_form ps xs c)) (quot_as q n place e))) in
      record {
        form = k;
        large = not_large j.large (cond (is_refused scope n j || is_long n) Unknown (quotient_of scope false n place j.form)) (quotient_form ps xs (one_of q place)) r.large k
            (within_true (quotient_form ps xs (one_of q place)) (alone_within (one_of q place) refl));
        affine = neither_true j.awry (is_refused scope n j) r.affine u;
        exact = λ p. absurd cc;
        broken = undivided_broken (is_refused scope n j) n place j u l r.broken;
      }

  quotient_read : (q : Quot) (tree : Expr) → FitsQuotient names scope written q → (t : IsQuotientTree written q tree) → IsRead tree (quotient_form ps xs (one_of q t.2))
  quotient_read q tree fit t =
      let a = forms.plain_read names scope true NoneRounds written q.konst q.params q.iters fit.argument t.0 t.3 in
      let w = forms.whole_within names scope true NoneRounds written q.konst q.params q.iters fit.argument [] refl (omega arith) in
      let j : Reads false (judged names scope (expr.Quotient false t.0 t.1 t.2)) (quotient_form ps xs (one_of q t.2)) =
      rw (judged-quotient names scope false t.0 t.1 t.2) (divided_reads q t.1 t.2 (judged names scope t.0) t.4 fit w a.form) in
      subst (λ x. IsRead x (quotient_form ps xs (one_of q t.2))) (sym t.5)
      (record { form = j; alone = reading-quotient names scope false t.0 t.1 t.2 ∙ ap number (sym (judged-quotient names scope false t.0 t.1 t.2)) })

  times_one : (q : Quot) (place : Place) → is_small q.coef ≡ true → forms.Times names scope false Rounds q.coef (quotient_form ps xs (one_of q place)) (quotient_form ps xs (moved q place))
  times_one q place h = record {
    quots = rw (of_one q.coef, h) refl;
    form = rw (no_constant q.coef, zeros_of q.coef ps, zeros_of q.coef xs) refl;
    within = alone_within (moved q place) h;
  }

  multiple_read : (q : Quot) (tree : Expr) → FitsQuotient names scope written q → IsProductTree Rounds q.coef (Some (by_quotient q)) tree → (place : Place) × IsRead tree (quotient_form ps xs (moved q place))
  multiple_read q tree fit t =
      let place = t.3.2 in (
        place,
        forms.product_read names scope false Rounds q.coef t.0 t.1 tree (quotient_form ps xs (one_of q place)) (quotient_form ps xs (moved q place)) fit.small
            (times_one q place (small_test q.coef fit.small)) t.2 (quotient_read q t.1 fit t.3) t.4,
      )

  -- ---- one quotient after the other

  all_lack : (done : List Quot) (q : Quot) (place : Place) (qs : List Quot) → AllByRecursion (Lacks done) qs → AllByRecursion (λ r. same_quot r q ≡ false) qs → AllByRecursion (Lacks (done ++ moved q place ∷ [])) qs
  all_lack done q place [] h k = tt
  all_lack done q place (r ∷ qs) h k = (lacks_one_more done (moved q place) r h.0 k.0, all_lack done q place qs h.1 k.1)

  -- the same but for places, and all count
  abbrev pub AreRead : List Quot → List Quot → Type 0
  AreRead qs rest = (map quot_without_place rest ≡ map quot_without_place qs) × (counted rest ≡ rest)

  module _ (constant : ℤ) (params iters : List ℤ) (fit : FitColumns names scope written constant params iters) where
    abbrev with_quots : List Quot → Affine
    with_quots qs = affine (pos 0) params iters qs

    one_sum : (q : Quot) (done : List Quot) → is_small q.coef ≡ true → Lacks done q → Sums (with_quots done) (quotient_form ps xs q) (with_quots (done ++ q ∷ []))
    one_sum q done h l = record { once = joined_new q [] h tt; quots = joined_new q done h l; form = rw (plus_zeros params ps, plus_zeros iters xs) refl }

    abbrev Grows : List Quot → List Quot → List Expr → Type 0
    Grows done qs trees = (rest : List Quot) × AreRead qs rest × Adds (with_quots done) trees (with_quots (done ++ rest)) × (all_small (map coef_of (done ++ rest)) ≡ true) × (length (done ++ rest) ≡ length done + length qs)

    one_more : (done : List Quot) (q : Quot) (qs : List Quot) (trees : List Expr) → FitsQuotient names scope written q → AllByRecursion (λ r. same_quot r q ≡ false) qs → AllByRecursion (Lacks done) (q ∷ qs)
        → all_small (map coef_of done) ≡ true → length done + suc (length qs) ≤ 65536
        → ((place : Place) → all_small (map coef_of (done ++ moved q place ∷ [])) ≡ true → length (done ++ moved q place ∷ []) + length qs ≤ 65536
        → (ts : List Expr) → Each (IsSummandTree Rounds) (multiples qs) ts → Grows (done ++ moved q place ∷ []) qs ts)
        → Each (IsSummandTree Rounds) (record { number = q.coef; factor = Some (by_quotient q) } ∷ multiples qs) trees → Grows done (q ∷ qs) trees
    one_more done q qs [] f d l s n more t = absurd t
    one_more done q qs (tree ∷ trees) f d l s n more t =
        let h = small_test q.coef f.small in
        let m = multiple_read q tree f t.0 in
        let p = moved q m.0 in
        let k = one_more_small done p s h in
        let e : length (done ++ p ∷ []) ≡ length done + 1 = length-append done (p ∷ []) in
        let g = more m.0 k (omega (arith, e, n)) trees t.1 in
        let a = append_assoc done (p ∷ []) g.0 in (
          p ∷ g.0,
          (rw g.1.0 refl, rw (other_not_zero q.coef f.coef, g.1.1) refl),
          (
            quotient_form ps xs p,
            with_quots (done ++ p ∷ []),
            m.1,
            one_sum p done h l.0,
            forms.columns_within names scope false Rounds written constant params iters fit (pos 0) (done ++ p ∷ []) refl k (omega (arith, e, n)),
            subst (λ r. Adds (with_quots (done ++ p ∷ [])) trees (with_quots r)) a g.2,
          ),
          subst (λ r. all_small (map coef_of r) ≡ true) a g.3,
          subst (λ r. length r ≡ length done + suc (length qs)) a (omega (arith, g.4, e)),
        )

    quotients_add : (done qs : List Quot) (trees : List Expr) → AllByRecursion (FitsQuotient names scope written) qs → AreDistinct qs → AllByRecursion (Lacks done) qs → all_small (map coef_of done) ≡ true
        → length done + length qs ≤ 65536 → Each (IsSummandTree Rounds) (multiples qs) trees → Grows done qs trees
    quotients_add done [] [] f d l s n t = ([], (refl, refl), ap with_quots (sym (append-nil done)), rw (append-nil done) s, rw (append-nil done) (omega arith))
    quotients_add done [] (tree ∷ trees) f d l s n t = absurd t
    quotients_add done (q ∷ qs) trees f d l s n t =
        one_more done q qs trees f.0 d.0 l s n
        (λ place k m ts u. quotients_add (done ++ moved q place ∷ []) qs ts f.1 d.1 (all_lack done q place qs l.1 d.0) k m u)
        (subst (λ b. Each (IsSummandTree Rounds) (cond b (record { number = q.coef; factor = Some (by_quotient q) } ∷ []) [] ++ multiples qs) trees) f.0.coef t)

  -- ---- whole forms

  abbrev pub IsReadAs : IndexExpr → Expr → Type 0
  IsReadAs e tree = (qs : List Quot) × AreRead e.quots qs × Within (affine e.konst e.params e.iters qs) × IsRead tree (affine e.konst e.params e.iters qs)

  module _ (e : IndexExpr) (fit : FitsScope names scope written e) where
    abbrev Ends : Affine → Type 0
    Ends h = (qs : List Quot) × AreRead e.quots qs × Within (affine e.konst e.params e.iters qs) × (affine e.konst e.params e.iters qs ≡ h)

    abbrev columns : List Quot → Affine
    columns qs = affine (pos 0) e.params e.iters qs

    all_lack_none : (qs : List Quot) → AllByRecursion (Lacks []) qs
    all_lack_none [] = tt
    all_lack_none (q ∷ qs) = (tt, all_lack_none qs)

    few_read : (qs rest : List Quot) → length qs ≤ 65536 → length rest ≡ 0 + length qs → length rest ≤ 65536
    few_read qs rest h e = omega (arith, h, e)

    all_add : (trees : List Expr) → Each (IsSummandTree Rounds) (summands written e) trees → forms.Comes names scope false Rounds Ends trees
    all_add trees t =
        let s = each_split (IsSummandTree Rounds) (products e.params written.params ++ products e.iters written.iters ++ multiples e.quots) (summand e.konst None) trees t in
        let r = each_split (IsSummandTree Rounds) (products e.params written.params ++ products e.iters written.iters) (multiples e.quots) s.0 s.3 in
        let a = forms.columns_add names scope false Rounds written e.konst e.params e.iters fit.columns r.0 r.3 in
        let b = quotients_add e.konst e.params e.iters fit.columns [] e.quots r.1 fit.quotients fit.distinct (all_lack_none e.quots) refl (omega (arith, fit.few)) r.4 in
        let w = forms.whole_within names scope false Rounds written e.konst e.params e.iters fit.columns b.0 b.3 (few_read e.quots b.0 fit.few b.4) in
        let c = forms.adds_append names scope false Rounds (constant_form ps xs (pos 0)) (columns []) (columns b.0) r.0 r.1 a b.2 in
        let d = subst (λ us. Adds (constant_form ps xs (pos 0)) us (columns b.0)) (sym r.2) c in
        let g = forms.constant_adds names scope false Rounds written e.konst e.params e.iters fit.columns b.0 s.1 w s.4 in
        let h = forms.adds_append names scope false Rounds (constant_form ps xs (pos 0)) (columns b.0) (affine e.konst e.params e.iters b.0) s.0 s.1 d g in
        (affine e.konst e.params e.iters b.0, subst (λ us. Adds (constant_form ps xs (pos 0)) us (affine e.konst e.params e.iters b.0)) (sym s.2) h, (b.0, b.1, w, refl))

    -- a form is read back
    pub form_read : (tree : Expr) → IsFormTree written e tree → IsReadAs e tree
    form_read tree t =
        let r = forms.sum_read names scope false Rounds Ends (summands written e) tree all_add t in
        (r.2.0, r.2.1, r.2.2, subst (IsRead tree) (sym r.2.3) r.1)

  -- a form without quotients
  no_multiples : (e : IndexExpr) → e.quots ≡ [] → summands written e ≡ products e.params written.params ++ products e.iters written.iters ++ summand e.konst None
  no_multiples e h = rw (h, append-nil (products e.params written.params ++ products e.iters written.iters)) refl

  pub alone_read : (e : IndexExpr) → FitsScope names scope written e → e.quots ≡ [] → (tree : Expr) → IsFormTree written e tree → Within (affine e.konst e.params e.iters []) × Reads true (judged names scope tree) (affine e.konst e.params e.iters [])
  alone_read e fit h tree t = (
    forms.whole_within names scope true Rounds written e.konst e.params e.iters fit.columns [] refl (omega arith),
    (forms.plain_read names scope true Rounds written e.konst e.params e.iters fit.columns tree (subst (λ ss. IsSumTree Rounds ss tree) (no_multiples e h) t)).form,
  )

pub whole_none : (plain : Bool) (j : Judged) (f : Affine) → Reads plain j f → whole_broken j ≡ None
whole_none plain j f r = rw (r.broken, r.large) refl

placed_case : (scope : Scope) (j : Judged) (f : Affine) → is_within f ≡ true → j.form ≡ Known f → index_expr scope j ≡ record { konst = f.constant; params = f.params; iters = f.iters; quots = counted f.quots; place = j.place }
placed_case scope j f w e = rw (e, w) refl

pub placed_as : (scope : Scope) (plain : Bool) (j : Judged) (e : IndexExpr) (qs : List Quot) → map quot_without_place qs ≡ map quot_without_place e.quots → counted qs ≡ qs
    → Within (affine e.konst e.params e.iters qs) → Reads plain j (affine e.konst e.params e.iters qs) → form_without_place (index_expr scope j) ≡ form_without_place e
placed_as scope plain j e qs h c w r =
    let f = affine e.konst e.params e.iters qs in
    ap form_without_place (placed_case scope j f (within_true f w) r.form) ∙ rw (c, h) refl

pub forms_are_read_back : FormsAreReadBack
forms_are_read_back names scope written e fit tree t =
    let r = form_read names scope written e fit tree t in
    (whole_none false (judged names scope tree) (affine e.konst e.params e.iters r.0) r.3.form, placed_as scope false (judged names scope tree) e r.0 r.1.0 r.1.1 r.2 r.3.form)
