-- The rules read a form back from the tree of its canonical text.
use Rattle.std.proofs.Common.{◌≡◌, ℕ, zero, suc, ◌+◌, ◌≤◌, List, [], ◌∷◌, ◌++◌, map, length, refl, sym, ap, subst, ◌∙◌, Bool, true, false, not, cond, ◌&&◌, ◌||◌, ℤ, pos, negsuc, ◌+ℤ◌, ◌*ℤ◌, arith, Option, Some, None, nat_lt, append_assoc}
use Rattle.std.specs.List.{AllByRecursion, list_all}
use Rattle.std.proofs.lemmas.Int.{ints}
use Rattle.std.proofs.lemmas.List.{length-append}
use Rattle.std.proofs.lemmas.Bool.Decides.{nat_tests}
use Rattle.ac_syntax.specs.declared.tree.Place.{Place}
use Rattle.ac_syntax.specs.declared.tree.Quot.{Quot}
use Rattle.ac_syntax.specs.Quotients.{same_quot}
use Rattle.ac_syntax.specs.Small.{IsSmall}
use Rattle.ac_syntax.specs.Index.{is_zero}
use Rattle.ac_syntax.specs.Text as text
use Rattle.ac_syntax.specs.Text.{is_other_than_zero}
use Rattle.ac_parse_grammar.specs.declared.tree.Word.{Word}
use Rattle.ac_parse_grammar.specs.declared.tree.Numeral.{Numeral}
use Rattle.ac_parse_grammar.specs.declared.tree.Operator.{Operator}
use Rattle.ac_parse_grammar.specs.declared.tree.Operator.TheVariants.{Add, Multiply}
use Rattle.ac_parse_grammar.specs.declared.tree.Expr.{Expr}
use Rattle.ac_parse_grammar.specs.declared.tree.Expr.TheVariants as expr
use Rattle.ac_parse_grammar.specs.Chains.{chain_of}
use Rattle.ac_parse_exprs.specs.declared.form.Affine.{Affine}
use Rattle.ac_parse_exprs.specs.declared.form.Collected.{Collected}
use Rattle.ac_parse_exprs.specs.declared.form.Collected.TheVariants.{Known, Large}
use Rattle.ac_parse_exprs.specs.declared.scope.Entry.{Entry}
use Rattle.ac_parse_exprs.specs.declared.scope.Meaning.{Meaning}
use Rattle.ac_parse_exprs.specs.declared.scope.Meaning.TheVariants.{Parameter, Iterator}
use Rattle.ac_parse_exprs.specs.declared.scope.Scope.{Scope}
use Rattle.ac_parse_exprs.specs.declared.index.Judged.{Judged}
use Rattle.ac_parse_exprs.specs.AffineForms.{is_small, all_small, coef_of, is_within, is_kept, all_kept, are_kept, is_constant, with_quot, joined_quots, scaled_quots, sum_form, multiple_form, zeros, constant_form, parameter_form, iterator_form, is_known, is_large, limited, negative_of}
use Rattle.ac_parse_exprs.specs.Meanings.{meaning, is_array, read_rule}
use Rattle.ac_parse_exprs.specs.declared.fault.Rule.TheVariants.{NotAffine}
use Rattle.ac_parse_exprs.specs.declared.fault.Broken.{Broken}
use Rattle.ac_parse_exprs.specs.FaultOrder.{earlier, broken_where}
use Rattle.ac_parse_exprs.specs.IndexExpressions.{is_remainder, form_of, judged, judged_number, judged_negative, name_form, joined, chained}
use Rattle.ac_parse_exprs.specs.Values.{reading, number, negative_reading, chained_reading}
use Rattle.ac_parse_exprs.proofs.Absent.{both_true, each_append}
use Rattle.ac_parse_exprs.proofs.Readings.{reading-number, reading-access, reading-negative, reading-chain}
use Rattle.ac_parse_exprs.proofs.Collecting.{Shaped, Within}
use Rattle.ac_parse_exprs.proofs.Judges.{judges}
use Rattle.ac_parse_exprs.proofs.Judging.{judged-number, judged-access, judged-negative, judged-chain}
use Rattle.ac_parse_roundtrip.specs.CanonicalTrees.{Each, IsNameTree, IsNumberTree, IsIntegerTree, by_name, Summand, summand, products, IsProductTree, IsSummandTree, IsSumTree}
use Rattle.ac_parse_roundtrip.specs.ColumnNames.{Stands, NameColumns, FitColumns}
use Rattle.ac_parse_roundtrip.proofs.Sums.{marked_at, zeros_of, plus_zeros, plus_from_zeros, plus_marked, first_marked, zeros_small, small_append}

-- ---- numbers within the limits

small_kept : (z : ℤ) → is_small z ≡ true → is_kept z ≡ true
small_kept z h = grind (arith, nat_tests)

all_small_kept : (zs : List ℤ) → all_small zs ≡ true → all_kept zs ≡ true
all_small_kept [] h = refl
all_small_kept (z ∷ zs) h = let b = both_true (is_small z) (all_small zs) h in rw (small_kept z b.0, all_small_kept zs b.1) refl

pub within_true : (f : Affine) → Within f → is_within f ≡ true
within_true f w = rw (w.constant, w.params, w.iters, w.coefs, w.count) refl

kept_true : (f : Affine) → Within f → are_kept f ≡ true
kept_true f w = rw (small_kept f.constant w.constant, all_small_kept f.params w.params, all_small_kept f.iters w.iters) refl

pub small_test : (z : ℤ) → IsSmall z → is_small z ≡ true
small_test z h = grind (arith, nat_tests)

pub all_small_test : (zs : List ℤ) → AllByRecursion IsSmall zs → all_small zs ≡ true
all_small_test [] h = refl
all_small_test (z ∷ zs) h = rw (small_test z h.0, all_small_test zs h.1) refl

-- ---- what the rules say of a tree that has a form

-- nothing is rounded in it if it is plain
pub record Reads (plain : Bool) (j : Judged) (f : Affine) : Type 0 where
  pub form : j.form ≡ Known f
  pub large : j.large ≡ false
  pub affine : j.awry ≡ false
  pub exact : plain ≡ true → j.rounds ≡ false
  pub broken : j.broken ≡ None

pub limited_as : (qs : Option (List Quot)) (form : List Quot → Affine) (h : Affine) (constant : Bool) → qs ≡ Some h.quots → form h.quots ≡ h → Within h → limited qs form constant ≡ Known h
limited_as qs form h constant e i w =
    ap (λ o. limited o form constant) e ∙ (ap (λ g. cond (are_kept g) (Known g) (Large constant)) i ∙ rw (kept_true h w) refl)

large_case : (x y : Bool) (c : Collected) (h : Affine) → x ≡ false → y ≡ false → c ≡ Known h → is_within h ≡ true → ((x || y) || is_large c) ≡ false
large_case x y c h a b e w = rw (a, b, e, w) refl

affine_case : (x y : Bool) (a b c : Collected) (f g h : Affine) → x ≡ false → y ≡ false → a ≡ Known f → b ≡ Known g → c ≡ Known h → ((x || y) || ((is_known a && is_known b) && not (is_known c))) ≡ false
affine_case x y a b c f g h u v i j k = rw (u, v, i, j, k) refl

exact_case : (x y z : Bool) → x ≡ false → y ≡ false → z ≡ false → ((x || y) || z) ≡ false
exact_case x y z a b c = rw (a, b, c) refl

broken_case : (x y : Option Broken) (a b c : Collected) (f g h : Affine) (place : Place) → x ≡ None → y ≡ None → a ≡ Known f → b ≡ Known g → c ≡ Known h
    → earlier (earlier x y) (broken_where ((is_known a && is_known b) && not (is_known c)) NotAffine place) ≡ None
broken_case x y a b c f g h place u v i j k = rw (u, v, i, j, k) refl

-- two that are read, joined by an operator that has a form
pub joined_reads : (plain : Bool) (op : Operator) (a b : Judged) (f g h : Affine) → is_remainder op ≡ false → Reads plain a f → Reads plain b g → form_of op a.form b.form ≡ Known h → Within h → Reads plain (joined op a b) h
joined_reads plain op a b f g h m r s k w = record {
  form = k;
  large = large_case a.large b.large (form_of op a.form b.form) h r.large s.large k (within_true h w);
  affine = affine_case a.awry b.awry a.form b.form (form_of op a.form b.form) f g h r.affine s.affine r.form s.form k;
  exact = λ p. exact_case a.rounds b.rounds (is_remainder op) (r.exact p) (s.exact p) m;
  broken = broken_case a.broken b.broken a.form b.form (form_of op a.form b.form) f g h a.place r.broken s.broken r.form s.form k;
}

-- the sum of two forms; the second has each quotient once
pub record Sums (f g h : Affine) : Type 0 where
  pub once : joined_quots (pos 1) [] g.quots ≡ Some g.quots
  pub quots : joined_quots (pos 1) f.quots g.quots ≡ Some h.quots
  pub form : sum_form (pos 1) f g h.quots ≡ h

sum_known : (a b : Collected) (f g h : Affine) → a ≡ Known f → b ≡ Known g → Sums f g h → Within h → form_of Add a b ≡ Known h
sum_known a b f g h i j e w = rw (i, j) (limited_as (joined_quots (pos 1) f.quots g.quots) (sum_form (pos 1) f g) h (is_constant f && is_constant g) e.quots e.form w)

pub sum_reads : (plain : Bool) (a b : Judged) (f g h : Affine) → Reads plain a f → Reads plain b g → Sums f g h → Within h → Reads plain (joined Add a b) h
sum_reads plain a b f g h r s e w = joined_reads plain Add a b f g h refl r s (sum_known a.form b.form f g h r.form s.form e w) w

zeros_none : (n : ℕ) → list_all is_zero (zeros n) ≡ true
zeros_none zero = refl
zeros_none (suc n) = zeros_none n

not_both : (b : Bool) → (b && false) ≡ false
not_both true = refl
not_both false = refl

turned : (n : ℕ) → negsuc 0 *ℤ pos (suc n) ≡ negsuc n
turned n = omega (arith, ints)

pub no_constant : (c : ℤ) → c *ℤ pos 0 ≡ pos 0
no_constant c = omega (arith, ints)

pub once_is : (c : ℤ) → pos 1 *ℤ c ≡ c
once_is c = omega (arith, ints)

pub of_one : (c : ℤ) → c *ℤ pos 1 ≡ c
of_one c = omega (arith, ints)

pub nothing_added : (c : ℤ) → c +ℤ pos 0 ≡ c
nothing_added c = omega (arith, ints)

zero_if : (c : ℤ) → is_other_than_zero c ≡ false → c ≡ pos 0
zero_if (pos zero) h = refl
zero_if (pos (suc n)) h = absurd cc
zero_if (negsuc n) h = absurd cc

pub other_not_zero : (c : ℤ) → is_other_than_zero c ≡ true → is_zero c ≡ false
other_not_zero (pos zero) h = absurd cc
other_not_zero (pos (suc n)) h = refl
other_not_zero (negsuc n) h = refl

some_of : {A : Type 0} (x y : A) → Some x ≡ Some y → x ≡ y
some_of x y e = cc

-- what stands for the first of two lists, and for the second
pub each_split : {A B : Type 0} (R : A → B → Type 0) (xs ys : List A) (zs : List B) → Each R (xs ++ ys) zs → (us : List B) × (vs : List B) × (zs ≡ us ++ vs) × Each R xs us × Each R ys vs
each_split R [] ys zs h = ([], zs, refl, tt, h)
each_split R (x ∷ xs) ys [] h = absurd h
each_split R (x ∷ xs) ys (z ∷ zs) h =
    let s = each_split R xs ys zs h.1 in
    (z ∷ s.0, s.1, ap (λ rest. z ∷ rest) s.2, (h.0, s.3), s.4)

-- a form of these numbers
abbrev pub affine : ℤ → List ℤ → List ℤ → List Quot → Affine
affine constant params iters quots = record { constant = constant; params = params; iters = iters; quots = quots }

-- ---- quotients behind others

abbrev pub Lacks : List Quot → Quot → Type 0
Lacks done q = AllByRecursion (λ d. same_quot q d ≡ false) done

-- a quotient that is new is the last
with_new : (q : Quot) (done : List Quot) → is_small q.coef ≡ true → Lacks done q → with_quot (pos 1) q done ≡ Some (done ++ q ∷ [])
with_new q [] s l = rw (once_is q.coef, s) refl
with_new q (d ∷ done) s l = rw (l.0, with_new q done s l.1) refl

pub joined_new : (q : Quot) (done : List Quot) → is_small q.coef ≡ true → Lacks done q → joined_quots (pos 1) done (q ∷ []) ≡ Some (done ++ q ∷ [])
joined_new q done s l = rw (with_new q done s l) refl

pub lacks_one_more : (done : List Quot) (d q : Quot) → Lacks done q → same_quot q d ≡ false → Lacks (done ++ d ∷ []) q
lacks_one_more done d q l e = each_append (λ (r : Quot). same_quot q r ≡ false) done (d ∷ []) l (e, tt)

pub one_more_small : (done : List Quot) (q : Quot) → all_small (map coef_of done) ≡ true → is_small q.coef ≡ true → all_small (map coef_of (done ++ q ∷ [])) ≡ true
one_more_small [] q h s = rw s refl
one_more_small (d ∷ done) q h s = let b = both_true (is_small d.coef) (all_small (map coef_of done)) h in rw (b.0, one_more_small done q b.1 s) refl

-- plain or not, with trees of quotients
module _ (names : List Entry) (scope : Scope) (plain : Bool) (Rounds : Quot → Expr → Type 0) where
  -- it is read as a number
  abbrev pub IsAlone : Expr → Type 0
  IsAlone tree = reading names scope tree ≡ number (judged names scope tree)

  pub record IsRead (tree : Expr) (f : Affine) : Type 0 where
    pub form : Reads plain (judged names scope tree) f
    pub alone : IsAlone tree

  abbrev ps : ℕ
  ps = scope.params

  abbrev xs : ℕ
  xs = length scope.iterators

  constant_within : (c : ℤ) → is_small c ≡ true → Within (constant_form ps xs c)
  constant_within c h = record { constant = h; params = zeros_small ps; iters = zeros_small xs; coefs = refl; count = refl }

  number_case : (numeral : Numeral) → nat_lt 2147483648 numeral.number ≡ false → Reads plain (judged_number scope numeral) (constant_form ps xs (pos numeral.number))
  number_case numeral h = record { form = rw h refl; large = h; affine = refl; exact = λ p. refl; broken = rw h refl }

  number_alone : (numeral : Numeral) → IsAlone (expr.Number numeral)
  number_alone numeral = reading-number names scope numeral ∙ ap number (sym (judged-number names scope numeral))

  negative_alone : (operand : Expr) (place : Place) → IsAlone operand → IsAlone (expr.Negative operand place)
  negative_alone operand place h = reading-negative names scope operand place ∙ ap (negative_reading place) h ∙ ap number (sym (judged-negative names scope operand place))

  chained_alone : (j : Judged) (ts : List Expr) (ops : List Operator) → AllByRecursion IsAlone ts
      → chained_reading scope (number j) (map (reading names scope) ts) ops ≡ number (chained j (map (judged names scope) ts) ops)
  chained_alone j [] ops h = refl
  chained_alone j (t ∷ ts) [] h = refl
  chained_alone j (t ∷ ts) (op ∷ ops) h = rw h.0 (chained_alone (joined op j (judged names scope t)) ts ops h.1)

  chain_alone : (first : Expr) (ts : List Expr) (ops : List Operator) → IsAlone first → AllByRecursion IsAlone ts → IsAlone (expr.Chain (first ∷ ts) ops)
  chain_alone first ts ops h k =
      reading-chain names scope (first ∷ ts) ops ∙ ap (λ r. chained_reading scope r (map (reading names scope) ts) ops) h ∙ chained_alone (judged names scope first) ts ops k
      ∙ ap number (sym (judged-chain names scope (first ∷ ts) ops))

  pub number_read : (n : ℕ) (tree : Expr) → n ≤ 2147483648 → IsNumberTree n tree → IsRead tree (constant_form ps xs (pos n))
  number_read n tree h t =
      let e : t.0.number ≡ n = t.1 in
      let l : nat_lt 2147483648 t.0.number ≡ false = grind (arith, nat_tests) in
      let r : Reads plain (judged names scope (expr.Number t.0)) (constant_form ps xs (pos n)) = rw (judged-number names scope t.0) (subst (λ k. Reads plain (judged_number scope t.0) (constant_form ps xs (pos k))) e (number_case t.0 l)) in
      subst (λ x. IsRead x (constant_form ps xs (pos n))) (sym t.2) (record { form = r; alone = number_alone t.0 })

  negative_form : (n : ℕ) → multiple_form (negsuc 0) (constant_form ps xs (pos (suc n))) [] ≡ constant_form ps xs (negsuc n)
  negative_form n = rw (zeros_of (negsuc 0) ps, zeros_of (negsuc 0) xs, turned n) refl

  negative_reads : (j : Judged) (place : Place) (n : ℕ) → is_small (negsuc n) ≡ true → Reads plain j (constant_form ps xs (pos (suc n))) → Reads plain (judged_negative place j) (constant_form ps xs (negsuc n))
  negative_reads j place n h r = record {
    form = ap negative_of r.form
        ∙ limited_as (Some []) (multiple_form (negsuc 0) (constant_form ps xs (pos (suc n)))) (constant_form ps xs (negsuc n)) (is_constant (constant_form ps xs (pos (suc n)))) refl (negative_form n) (constant_within (negsuc n) h);
    large = r.large;
    affine = r.affine;
    exact = r.exact;
    broken = r.broken;
  }

  pub integer_read : (c : ℤ) (tree : Expr) → IsSmall c → IsIntegerTree c tree → IsRead tree (constant_form ps xs c)
  integer_read (pos n) tree h t = number_read n tree h t
  integer_read (negsuc n) tree h t =
      let o = number_read (suc n) t.0 h t.2 in
      let r : Reads plain (judged names scope (expr.Negative t.0 t.1)) (constant_form ps xs (negsuc n)) = rw (judged-negative names scope t.0 t.1) (negative_reads (judged names scope t.0) t.1 n (small_test (negsuc n) h) o.form) in
      subst (λ x. IsRead x (constant_form ps xs (negsuc n))) (sym t.3) (record { form = r; alone = negative_alone t.0 t.1 o.alone })

  name_reads : (m : Meaning) (word : Word) (f : Affine) → is_array m ≡ false → read_rule m 0 ≡ None → name_form scope m ≡ Known f → meaning names scope word.name ≡ m
      → IsRead (expr.Access word []) f
  name_reads m word f a r e h =
      let j : Reads plain (judged names scope (expr.Access word [])) f = rw (judged-access names scope word [], h, a, not_both scope.fixed) (record { form = e; large = refl; affine = refl; exact = λ p. refl; broken = rw r refl }) in
      record { form = j; alone = rw (reading-access names scope word [], judged-access names scope word [], h, a, not_both scope.fixed) refl }

  name_read : (m : Meaning) (name : List ℕ) (tree : Expr) (f : Affine) → is_array m ≡ false → read_rule m 0 ≡ None → name_form scope m ≡ Known f → Stands names scope name m → IsNameTree name tree → IsRead tree f
  name_read m name tree f a r e s t =
      subst (λ x. IsRead x f) (sym t.2) (name_reads m t.0 f a r e (ap (meaning names scope) t.1 ∙ s.means))

  -- a number times what is read
  pub record Times (c : ℤ) (g h : Affine) : Type 0 where
    pub quots : scaled_quots c g.quots ≡ Some h.quots
    pub form : multiple_form c g h.quots ≡ h
    pub within : Within h

  product_known : (a b : Collected) (c : ℤ) (g h : Affine) → a ≡ Known (constant_form ps xs c) → b ≡ Known g → Times c g h → form_of Multiply a b ≡ Known h
  product_known a b c g h i j e = rw (i, j, zeros_none ps, zeros_none xs) (limited_as (scaled_quots c g.quots) (multiple_form c g) h (is_constant g) e.quots e.form e.within)

  product_reads : (a b : Judged) (c : ℤ) (g h : Affine) → Reads plain a (constant_form ps xs c) → Reads plain b g → Times c g h → Reads plain (joined Multiply a b) h
  product_reads a b c g h r s e = joined_reads plain Multiply a b (constant_form ps xs c) g h refl r s (product_known a.form b.form c g h r.form s.form e) e.within

  pub product_read : (c : ℤ) (times factor tree : Expr) (g h : Affine) → IsSmall c → Times c g h → IsIntegerTree c times → IsRead factor g → tree ≡ expr.Chain (times ∷ factor ∷ []) (Multiply ∷ []) → IsRead tree h
  product_read c times factor tree g h l e n v t =
      let u = integer_read c times l n in
      let k : Reads plain (judged names scope (expr.Chain (times ∷ factor ∷ []) (Multiply ∷ []))) h =
      rw (judged-chain names scope (times ∷ factor ∷ []) (Multiply ∷ [])) (product_reads (judged names scope times) (judged names scope factor) c g h u.form v.form e) in
      subst (λ x. IsRead x h) (sym t) (record { form = k; alone = chain_alone times (factor ∷ []) (Multiply ∷ []) u.alone (v.alone, tt) })

  pub named_read : (m : Meaning) (c : ℤ) (name : List ℕ) (tree : Expr) (g h : Affine) → is_array m ≡ false → read_rule m 0 ≡ None → name_form scope m ≡ Known g → Times c g h
      → IsSmall c → Stands names scope name m → IsProductTree Rounds c (Some (by_name name)) tree → IsRead tree h
  named_read m c name tree g h a r n e l s t = product_read c t.0 t.1 tree g h l e t.2 (name_read m name t.1 g a r n s t.3) t.4

  -- what is added one after the other, and what it comes to
  abbrev pub Adds : Affine → List Expr → Affine → Type 0
  Adds g [] h = g ≡ h
  Adds g (t ∷ ts) h = (f : Affine) × (k : Affine) × IsRead t f × Sums g f k × Within k × Adds k ts h

  pub adds_append : (f g h : Affine) (ts us : List Expr) → Adds f ts g → Adds g us h → Adds f (ts ++ us) h
  adds_append f g h [] us a b = subst (λ k. Adds k us h) (sym a) b
  adds_append f g h (t ∷ ts) us a b = (a.0, a.1, a.2, a.3, a.4, adds_append a.1 g h ts us a.5 b)

  chain_reads : (j : Judged) (g h : Affine) (ts : List Expr) → Reads plain j g → Adds g ts h → Reads plain (chained j (map (judged names scope) ts) (map (λ (t : Expr). Add) ts)) h
  chain_reads j g h [] r a = subst (λ k. Reads plain j k) a r
  chain_reads j g h (t ∷ ts) r a = chain_reads (joined Add j (judged names scope t)) a.1 h ts (sum_reads plain j (judged names scope t) g a.0 a.1 r a.2.form a.3 a.4) a.5

  adds_alone : (g h : Affine) (ts : List Expr) → Adds g ts h → AllByRecursion IsAlone ts
  adds_alone g h [] a = tt
  adds_alone g h (t ∷ ts) a = (a.2.alone, adds_alone a.1 h ts a.5)

  shape_of : (c : Collected) (f : Affine) → c ≡ Known f → Shaped ps xs c → (length f.params ≡ ps) × (length f.iters ≡ xs)
  shape_of c f e s = subst (λ c. Shaped ps xs c) e s

  zero_sum : (f : Affine) → length f.params ≡ ps → length f.iters ≡ xs → sum_form (pos 1) (constant_form ps xs (pos 0)) f f.quots ≡ f
  zero_sum f h k = rw (plus_from_zeros f.params ps h, plus_from_zeros f.iters xs k, first_marked f.constant) refl

  first_is : (f k : Affine) → length f.params ≡ ps → length f.iters ≡ xs → Sums (constant_form ps xs (pos 0)) f k → f ≡ k
  first_is f k h i s =
      let q : f.quots ≡ k.quots = some_of f.quots k.quots (sym s.once ∙ s.quots) in
      sym (zero_sum f h i) ∙ (ap (λ qs. sum_form (pos 1) (constant_form ps xs (pos 0)) f qs) q ∙ s.form)

  first_reads : (tree : Expr) (f k : Affine) → IsRead tree f → Sums (constant_form ps xs (pos 0)) f k → IsRead tree k
  first_reads tree f k r e =
      let s = shape_of (judged names scope tree).form f r.form.form (judges names scope tree).0 in
      subst (IsRead tree) (first_is f k s.0 s.1 e) r

  chain_read : (first : Expr) (others : List Expr) (g h : Affine) → IsRead first g → Adds g others h → IsRead (chain_of (first ∷ others) (map (λ (t : Expr). Add) others)) h
  chain_read first [] g h r a = subst (IsRead first) a r
  chain_read first (second ∷ more) g h r a =
      let k : Reads plain (judged names scope (expr.Chain (first ∷ second ∷ more) (map (λ (t : Expr). Add) (second ∷ more)))) h =
      rw (judged-chain names scope (first ∷ second ∷ more) (map (λ (t : Expr). Add) (second ∷ more))) (chain_reads (judged names scope first) g h (second ∷ more) r.form a) in
      record { form = k; alone = chain_alone first (second ∷ more) (map (λ (t : Expr). Add) (second ∷ more)) r.alone (adds_alone g h (second ∷ more) a) }

  abbrev pub Comes : (Affine → Type 0) → List Expr → Type 0
  Comes Ends trees = (h : Affine) × Adds (constant_form ps xs (pos 0)) trees h × Ends h

  pub sum_read : (Ends : Affine → Type 0) (ss : List Summand) (tree : Expr) → ((trees : List Expr) → Each (IsSummandTree Rounds) ss trees → Comes Ends trees) → IsSumTree Rounds ss tree
      → (h : Affine) × IsRead tree h × Ends h
  sum_read Ends [] tree a t = let b = a [] tt in (b.0, subst (IsRead tree) b.1 (number_read 0 tree (omega arith) t), b.2)
  sum_read Ends (s ∷ ss) tree a t =
      let b = a (t.0 ∷ t.1) (t.2, t.3) in
      let d = b.1 in
      (b.0, subst (λ x. IsRead x b.0) (sym t.4) (chain_read t.0 t.1 d.1 b.0 (first_reads t.0 d.0 d.1 d.2 d.3) d.5), b.2)

  -- a row of coefficients: how a form is made of it, and what is added to that
  module _ (column : ℕ → Meaning) (n : ℕ) (at alone : List ℤ → Affine)
      (is_read : (c : ℤ) (before behind : ℕ) (name : List ℕ) (tree : Expr) → n ≡ before + suc behind → IsSmall c → Stands names scope name (column before) → IsProductTree Rounds c (Some (by_name name)) tree
      → IsRead tree (alone (zeros before ++ c ∷ zeros behind)))
      (is_sum : (done : List ℤ) (c : ℤ) (behind : ℕ) → Sums (at (done ++ zeros (suc behind))) (alone (zeros (length done) ++ c ∷ zeros behind)) (at (done ++ c ∷ zeros behind)))
      (is_within : (row : List ℤ) → all_small row ≡ true → Within (at row)) where
    one_more : (b : Bool) (c : ℤ) (name : List ℕ) (ss : List Summand) (done : List ℤ) (behind : ℕ) (trees : List Expr) (h : Affine) → is_other_than_zero c ≡ b → n ≡ length done + suc behind
        → all_small done ≡ true → IsSmall c → (b ≡ true → Stands names scope name (column (length done)))
        → ((ts : List Expr) → Each (IsSummandTree Rounds) ss ts → Adds (at (done ++ c ∷ zeros behind)) ts h)
        → Each (IsSummandTree Rounds) (cond b (record { number = c; factor = Some (by_name name) } ∷ []) [] ++ ss) trees → Adds (at (done ++ zeros (suc behind))) trees h
    one_more false c name ss done behind trees h e l s hs w a t = subst (λ z. Adds (at (done ++ z ∷ zeros behind)) trees h) (zero_if c e) (a trees t)
    one_more true c name ss done behind [] h e l s hs w a t = absurd t
    one_more true c name ss done behind (tree ∷ trees) h e l s hs w a t = (
      alone (zeros (length done) ++ c ∷ zeros behind),
      at (done ++ c ∷ zeros behind),
      is_read c (length done) behind name tree l hs (w refl) t.0,
      is_sum done c behind,
      is_within (done ++ c ∷ zeros behind) (small_append done (c ∷ zeros behind) s (rw (small_test c hs, zeros_small behind) refl)),
      a trees t.1,
    )

    pub row_adds : (cs : List ℤ) (ns : List (List ℕ)) (done : List ℤ) (k : ℕ) (trees : List Expr) → k ≡ length done → n ≡ k + length cs → all_small done ≡ true → AllByRecursion IsSmall cs
        → NameColumns names scope column k cs ns → Each (IsSummandTree Rounds) (products cs ns) trees → Adds (at (done ++ zeros (length cs))) trees (at (done ++ cs))
    row_adds [] [] done k [] e l s hs w t = refl
    row_adds [] [] done k (tree ∷ trees) e l s hs w t = absurd t
    row_adds [] (name ∷ ns) done k trees e l s hs w t = absurd w
    row_adds (c ∷ cs) [] done k trees e l s hs w t = absurd w
    row_adds (c ∷ cs) (name ∷ ns) done k trees e l s hs w t =
        one_more (is_other_than_zero c) c name (products cs ns) done (length cs) trees (at (done ++ c ∷ cs)) refl (omega (arith, e, l)) s hs.0 (subst (λ i. is_other_than_zero c ≡ true → Stands names scope name (column i)) e w.0)
        (λ ts u.
        let a = append_assoc done (c ∷ []) cs in
        let b = append_assoc done (c ∷ []) (zeros (length cs)) in
        let r = row_adds cs ns (done ++ c ∷ []) (k + 1) ts (omega (arith, length-append done (c ∷ []), e)) (omega (arith, l)) (small_append done (c ∷ []) s (rw (small_test c hs.0) refl)) hs.1 w.1 u in
        subst (λ row. Adds (at (done ++ c ∷ zeros (length cs))) ts (at row)) a (subst (λ row. Adds (at row) ts (at ((done ++ c ∷ []) ++ cs))) b r))
        t

  -- ---- the rows of a form

  abbrev params_alone : List ℤ → Affine
  params_alone row = affine (pos 0) row (zeros xs) []

  abbrev iters_alone : List ℤ → Affine
  iters_alone row = affine (pos 0) (zeros ps) row []

  param_form : (c : ℤ) (before behind : ℕ) → ps ≡ before + suc behind → multiple_form c (parameter_form ps xs before) [] ≡ params_alone (zeros before ++ c ∷ zeros behind)
  param_form c before behind l = rw (marked_at c before behind ps l, zeros_of c xs, no_constant c) refl

  iter_form : (c : ℤ) (before behind : ℕ) → xs ≡ before + suc behind → multiple_form c (iterator_form ps xs before) [] ≡ iters_alone (zeros before ++ c ∷ zeros behind)
  iter_form c before behind l = rw (marked_at c before behind xs l, zeros_of c ps, no_constant c) refl

  row_small : (c : ℤ) (before behind : ℕ) → is_small c ≡ true → all_small (zeros before ++ c ∷ zeros behind) ≡ true
  row_small c before behind h = small_append (zeros before) (c ∷ zeros behind) (zeros_small before) (rw (h, zeros_small behind) refl)

  params_within : (row : List ℤ) → all_small row ≡ true → Within (params_alone row)
  params_within row h = record { constant = refl; params = h; iters = zeros_small xs; coefs = refl; count = refl }

  param_read : (c : ℤ) (before behind : ℕ) (name : List ℕ) (tree : Expr) → ps ≡ before + suc behind → IsSmall c → Stands names scope name (Parameter before) → IsProductTree Rounds c (Some (by_name name)) tree
      → IsRead tree (params_alone (zeros before ++ c ∷ zeros behind))
  param_read c before behind name tree l s m t =
      named_read (Parameter before) c name tree (parameter_form ps xs before) (params_alone (zeros before ++ c ∷ zeros behind)) refl refl refl
      (record { quots = refl; form = param_form c before behind l; within = params_within (zeros before ++ c ∷ zeros behind) (row_small c before behind (small_test c s)) }) s m t

  param_sum : (done : List ℤ) (c : ℤ) (behind : ℕ) → Sums (params_alone (done ++ zeros (suc behind))) (params_alone (zeros (length done) ++ c ∷ zeros behind)) (params_alone (done ++ c ∷ zeros behind))
  param_sum done c behind = record { once = refl; quots = refl; form = rw (plus_marked done c behind, plus_zeros (zeros xs) xs) refl }

  iter_read : (c : ℤ) (before behind : ℕ) (name : List ℕ) (tree : Expr) → xs ≡ before + suc behind → IsSmall c → Stands names scope name (Iterator before) → IsProductTree Rounds c (Some (by_name name)) tree
      → IsRead tree (iters_alone (zeros before ++ c ∷ zeros behind))
  iter_read c before behind name tree l s m t =
      named_read (Iterator before) c name tree (iterator_form ps xs before) (iters_alone (zeros before ++ c ∷ zeros behind)) refl refl refl
      (record { quots = refl; form = iter_form c before behind l; within = record { constant = refl; params = zeros_small ps; iters = row_small c before behind (small_test c s); coefs = refl; count = refl } }) s m t

  module _ (written : text.Scope) (constant : ℤ) (params iters : List ℤ) (fit : FitColumns names scope written constant params iters) where
    params_small : all_small params ≡ true
    params_small = all_small_test params fit.small_params

    iters_small : all_small iters ≡ true
    iters_small = all_small_test iters fit.small_iters

    iter_sum : (done : List ℤ) (c : ℤ) (behind : ℕ)
        → Sums (affine (pos 0) params (done ++ zeros (suc behind)) []) (iters_alone (zeros (length done) ++ c ∷ zeros behind)) (affine (pos 0) params (done ++ c ∷ zeros behind) [])
    iter_sum done c behind = record { once = refl; quots = refl; form = rw (plus_marked done c behind, plus_zeros params ps) refl }

    params_add : (trees : List Expr) → Each (IsSummandTree Rounds) (products params written.params) trees → Adds (constant_form ps xs (pos 0)) trees (params_alone params)
    params_add trees t =
        subst (λ n. Adds (params_alone (zeros n)) trees (params_alone params)) fit.width
        (row_adds (λ k. Parameter k) ps params_alone params_alone param_read param_sum params_within params written.params [] 0 trees refl (sym fit.width ∙ omega arith) refl fit.small_params fit.param_names t)

    iters_add : (trees : List Expr) → Each (IsSummandTree Rounds) (products iters written.iters) trees → Adds (params_alone params) trees (affine (pos 0) params iters [])
    iters_add trees t =
        subst (λ n. Adds (affine (pos 0) params (zeros n) []) trees (affine (pos 0) params iters [])) fit.depth
        (row_adds (λ k. Iterator k) xs (λ row. affine (pos 0) params row []) iters_alone iter_read iter_sum (λ row h. record { constant = refl; params = params_small; iters = h; coefs = refl; count = refl })
        iters written.iters [] 0 trees refl (sym fit.depth ∙ omega arith) refl fit.small_iters fit.iter_names t)

    pub columns_add : (trees : List Expr) → Each (IsSummandTree Rounds) (products params written.params ++ products iters written.iters) trees → Adds (constant_form ps xs (pos 0)) trees (affine (pos 0) params iters [])
    columns_add trees t =
        let r = each_split (IsSummandTree Rounds) (products params written.params) (products iters written.iters) trees t in
        subst (λ us. Adds (constant_form ps xs (pos 0)) us (affine (pos 0) params iters [])) (sym r.2)
        (adds_append (constant_form ps xs (pos 0)) (params_alone params) (affine (pos 0) params iters []) r.0 r.1 (params_add r.0 r.3) (iters_add r.1 r.4))

    pub columns_within : (c : ℤ) (qs : List Quot) → is_small c ≡ true → all_small (map coef_of qs) ≡ true → length qs ≤ 65536 → Within (affine c params iters qs)
    columns_within c qs s h l = record { constant = s; params = params_small; iters = iters_small; coefs = h; count = grind (arith, nat_tests, l) }

    pub whole_within : (qs : List Quot) → all_small (map coef_of qs) ≡ true → length qs ≤ 65536 → Within (affine constant params iters qs)
    whole_within qs h l = columns_within constant qs (small_test constant fit.small) h l

    constant_sum : (qs : List Quot) → Sums (affine (pos 0) params iters qs) (constant_form ps xs constant) (affine constant params iters qs)
    constant_sum qs = record { once = refl; quots = refl; form = rw (plus_zeros params ps, plus_zeros iters xs, first_marked constant) refl }

    constant_case : (b : Bool) (qs : List Quot) (trees : List Expr) → is_other_than_zero constant ≡ b → Within (affine constant params iters qs)
        → Each (IsSummandTree Rounds) (cond b (record { number = constant; factor = None } ∷ []) []) trees → Adds (affine (pos 0) params iters qs) trees (affine constant params iters qs)
    constant_case false qs [] h w t = ap (λ c. affine c params iters qs) (sym (zero_if constant h))
    constant_case false qs (tree ∷ trees) h w t = absurd t
    constant_case true qs [] h w t = absurd t
    constant_case true qs (tree ∷ []) h w t = (constant_form ps xs constant, affine constant params iters qs, integer_read constant tree fit.small t.0, constant_sum qs, w, refl)
    constant_case true qs (tree ∷ another ∷ trees) h w t = absurd t.1

    pub constant_adds : (qs : List Quot) (trees : List Expr) → Within (affine constant params iters qs) → Each (IsSummandTree Rounds) (summand constant None) trees
        → Adds (affine (pos 0) params iters qs) trees (affine constant params iters qs)
    constant_adds qs trees w t = constant_case (is_other_than_zero constant) qs trees refl w t

    -- what has no quotient
    plain_adds : (trees : List Expr) → Each (IsSummandTree Rounds) (products params written.params ++ products iters written.iters ++ summand constant None) trees
        → Adds (constant_form ps xs (pos 0)) trees (affine constant params iters [])
    plain_adds trees t =
        let s = each_split (IsSummandTree Rounds) (products params written.params ++ products iters written.iters) (summand constant None) trees t in
        subst (λ us. Adds (constant_form ps xs (pos 0)) us (affine constant params iters [])) (sym s.2)
        (adds_append (constant_form ps xs (pos 0)) (affine (pos 0) params iters []) (affine constant params iters []) s.0 s.1 (columns_add s.0 s.3)
        (constant_adds [] s.1 (whole_within [] refl (omega arith)) s.4))

    pub plain_read : (tree : Expr) → IsSumTree Rounds (products params written.params ++ products iters written.iters ++ summand constant None) tree → IsRead tree (affine constant params iters [])
    plain_read tree t =
        let r = sum_read (λ h. affine constant params iters [] ≡ h) (products params written.params ++ products iters written.iters ++ summand constant None) tree
        (λ trees u. (affine constant params iters [], plain_adds trees u, refl)) t in
        subst (IsRead tree) (sym r.2) r.1
