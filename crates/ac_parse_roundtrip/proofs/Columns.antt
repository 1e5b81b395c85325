-- Each coefficient other than 0 of a form that the rules collect belongs to a name that stands for its column.
-- The same holds of what its quotients divide, and they are distinct.
use Rattle.std.proofs.Common.{◌≡◌, ℕ, zero, suc, ◌+◌, ℤ, pos, negsuc, ◌+ℤ◌, ◌*ℤ◌, Bool, true, false, not, cond, ◌&&◌, ◌||◌, ◌==◌, List, [], ◌∷◌, map, length, refl, sym, subst, arith, Option, Some, None}
use Rattle.std.specs.List.{AllByRecursion, range_with_len}
use Rattle.std.proofs.lemmas.Int.{ints}
use Rattle.std.proofs.lemmas.Bool.Decides.{nat_tests}
use Rattle.ac_syntax.specs.Text.{is_other_than_zero}
use Rattle.ac_syntax.specs.declared.tree.Place.{Place}
use Rattle.ac_syntax.specs.declared.tree.Quot.{Quot}
use Rattle.ac_parse_grammar.specs.declared.tree.Word.{Word}
use Rattle.ac_parse_grammar.specs.declared.tree.Numeral.{Numeral}
use Rattle.ac_parse_grammar.specs.declared.tree.Operator.{Operator}
use Rattle.ac_parse_grammar.specs.declared.tree.Operator.TheVariants.{Add, Subtract, Multiply, Divide, Remainder}
use Rattle.ac_parse_grammar.specs.declared.tree.Relation.{Relation}
use Rattle.ac_parse_grammar.specs.declared.tree.Relation.TheVariants.{Less, AtMost, Greater, AtLeast, Equal}
use Rattle.ac_parse_grammar.specs.declared.tree.Part.{Part}
use Rattle.ac_parse_grammar.specs.declared.tree.Expr.{Expr}
use Rattle.ac_parse_exprs.specs.declared.form.Affine.{Affine}
use Rattle.ac_parse_exprs.specs.declared.form.Collected.{Collected}
use Rattle.ac_parse_exprs.specs.declared.form.Collected.TheVariants.{Known, Large, Unknown}
use Rattle.ac_parse_exprs.specs.declared.index.Judged.{Judged}
use Rattle.ac_parse_exprs.specs.declared.index.Parts.{Parts}
use Rattle.ac_parse_exprs.specs.declared.scope.Entry.{Entry}
use Rattle.ac_parse_exprs.specs.declared.scope.Meaning.{Meaning}
use Rattle.ac_parse_exprs.specs.declared.scope.Meaning.TheVariants.{Parameter, Iterator, Array, LoopName, OwnStart, Nothing}
use Rattle.ac_parse_exprs.specs.declared.scope.Scope.{Scope}
use Rattle.ac_parse_exprs.specs.Meanings.{meaning, is_array, read_rule}
use Rattle.ac_parse_exprs.specs.AffineForms.{is_small, is_within, is_constant, plus_times, times, joined_quots, scaled_quots, sum_form, multiple_form, indicator, zeros, constant_form, quotient_form, limited, sum_of, product_of, negative_of, signed, are_kept}
use Rattle.ac_parse_exprs.specs.IndexExpressions.{is_long, judged_number, gathered, no_parts, name_form, judged_name, judged_other, judged_variable, judged_access, judged_negative, form_of, joined, chained, judged_chain, is_refused, added, quot_of, quotient_of, judged_quotient, judged}
use Rattle.ac_parse_exprs.specs.Comparisons.{difference_quots, difference_form, difference, compared_form, compared_by, compared}
use Rattle.ac_parse_exprs.specs.Divisions.{Division, tested_division}
use Rattle.ac_parse_exprs.proofs.Absent.{each, each_map}
use Rattle.ac_parse_exprs.proofs.Judging.{judged-number, judged-decimal, judged-access, judged-call, judged-quotient, judged-negative, judged-group, judged-chain}
use Rattle.ac_parse_exprs.proofs.Trees.{every_expr}
use Rattle.ac_parse_roundtrip.specs.ColumnNames.{Stands}
use Rattle.ac_parse_roundtrip.proofs.DistinctQuotients.{AreListed, ListedOf, scaled_listed, joined_listed, then_listed}

-- ---- numbers other than 0

zero_else : (z : ℤ) → is_other_than_zero z ≡ false → z ≡ pos 0
zero_else (pos zero) h = refl
zero_else (pos (suc n)) h = absurd cc
zero_else (negsuc n) h = absurd cc

multiple_of_zero : (k : ℤ) → k *ℤ pos 0 ≡ pos 0
multiple_of_zero k = omega (arith, ints)

sum_of_zeros : (k : ℤ) → pos 0 +ℤ (k *ℤ pos 0) ≡ pos 0
sum_of_zeros k = omega (arith, ints)

nothing_other : {X : Type 0} (z : ℤ) → z ≡ pos 0 → is_other_than_zero z ≡ true → X
nothing_other z e h = absurd (let f : is_other_than_zero (pos 0) ≡ true = subst (λ (x : ℤ). is_other_than_zero x ≡ true) e h in cc)

-- a product other than 0 has a factor other than 0
factor_other : {X : Type 0} (k x : ℤ) → (is_other_than_zero x ≡ true → X) → is_other_than_zero (k *ℤ x) ≡ true → X
factor_other {X = X} k x f h = by (is_other_than_zero x) refl
  where
    by : (b : Bool) → is_other_than_zero x ≡ b → X
    by true e = f e
    by false e = nothing_other (k *ℤ x) (subst (λ (z : ℤ). k *ℤ z ≡ pos 0) (sym (zero_else x e)) (multiple_of_zero k)) h

-- a sum other than 0 has a part other than 0
part_other : {X : Type 0} (k x y : ℤ) → (is_other_than_zero x ≡ true → X) → (is_other_than_zero y ≡ true → X) → is_other_than_zero (x +ℤ (k *ℤ y)) ≡ true → X
part_other {X = X} k x y f g h = by (is_other_than_zero x) refl (is_other_than_zero y) refl
  where
    by : (b : Bool) → is_other_than_zero x ≡ b → (c : Bool) → is_other_than_zero y ≡ c → X
    by true e c d = f e
    by false e true d = g d
    by false e false d =
        nothing_other (x +ℤ (k *ℤ y)) (subst (λ (z : ℤ). z +ℤ (k *ℤ y) ≡ pos 0) (sym (zero_else x e)) (subst (λ (z : ℤ). pos 0 +ℤ (k *ℤ z) ≡ pos 0) (sym (zero_else y d)) (sum_of_zeros k))) h

-- ---- columns

module _ (Has : Meaning → Type 0) where
  -- something is there for each column, counted from k on, where the coefficient is other than 0
  abbrev pub HasEach : (ℕ → Meaning) → ℕ → List ℤ → Type 0
  HasEach column k [] = Unit {0}
  HasEach column k (c ∷ cs) = (is_other_than_zero c ≡ true → Has (column k)) × HasEach column (k + 1) cs

  -- of what a quotient divides
  abbrev pub HasArgument : Quot → Type 0
  HasArgument q = HasEach (λ k. Parameter k) 0 q.params × HasEach (λ k. Iterator k) 0 q.iters

  abbrev pub HasQuots : List Quot → Type 0
  HasQuots = AreListed HasArgument (λ q c h. h)

  pub record HasColumns (f : Affine) : Type 0 where
    pub params : HasEach (λ k. Parameter k) 0 f.params
    pub iters : HasEach (λ k. Iterator k) 0 f.iters
    pub quots : HasQuots f.quots

  abbrev pub HasForm : Collected → Type 0
  HasForm (Known f) = HasColumns f
  HasForm (Large constant) = Unit {0}
  HasForm Unknown = Unit {0}

  has_zeros : (column : ℕ → Meaning) (k n : ℕ) → HasEach column k (zeros n)
  has_zeros column k zero = tt
  has_zeros column k (suc n) = ((λ h. absurd cc), has_zeros column (k + 1) n)

  has_unit : (column : ℕ → Meaning) (j k n : ℕ) → Has (column j) → HasEach column k (map (indicator j) (range_with_len k n))
  has_unit column j k zero h = tt
  has_unit column j k (suc n) h = (by (k == j) refl, has_unit column j (k + 1) n h)
    where
      by : (b : Bool) → (k == j) ≡ b → is_other_than_zero (cond b (pos 1) (pos 0)) ≡ true → Has (column k)
      by true e o = let s : j ≡ k = grind (arith, nat_tests) in subst (λ i. Has (column i)) s h
      by false e o = absurd cc

  has_sum : (column : ℕ → Meaning) (m : ℤ) (k : ℕ) (xs ys : List ℤ) → HasEach column k xs → HasEach column k ys → HasEach column k (plus_times m xs ys)
  has_sum column m k [] ys h g = tt
  has_sum column m k (x ∷ xs) [] h g = (h.0, has_sum column m (k + 1) xs [] h.1 tt)
  has_sum column m k (x ∷ xs) (y ∷ ys) h g = (part_other m x y h.0 g.0, has_sum column m (k + 1) xs ys h.1 g.1)

  has_multiple : (column : ℕ → Meaning) (m : ℤ) (k : ℕ) (xs : List ℤ) → HasEach column k xs → HasEach column k (times m xs)
  has_multiple column m k [] h = tt
  has_multiple column m k (x ∷ xs) h = (factor_other m x h.0, has_multiple column m (k + 1) xs h.1)

  -- ---- forms

  no_quots : HasQuots []
  no_quots = record { all = tt; distinct = tt }

  constant_has : (ps xs : ℕ) (c : ℤ) → HasColumns (constant_form ps xs c)
  constant_has ps xs c = record { params = has_zeros (λ k. Parameter k) 0 ps; iters = has_zeros (λ k. Iterator k) 0 xs; quots = no_quots }

  sum_columns : (k : ℤ) (f g : Affine) → HasColumns f → HasColumns g → (qs : List Quot) → HasQuots qs → HasColumns (sum_form k f g qs)
  sum_columns k f g h d qs l = record { params = has_sum (λ i. Parameter i) k 0 f.params g.params h.params d.params; iters = has_sum (λ i. Iterator i) k 0 f.iters g.iters h.iters d.iters; quots = l }

  multiple_columns : (k : ℤ) (f : Affine) → HasColumns f → (qs : List Quot) → HasQuots qs → HasColumns (multiple_form k f qs)
  multiple_columns k f h qs l = record { params = has_multiple (λ i. Parameter i) k 0 f.params h.params; iters = has_multiple (λ i. Iterator i) k 0 f.iters h.iters; quots = l }

  limited_has : (o : Option (List Quot)) (form : List Quot → Affine) (constant : Bool) → ListedOf HasArgument (λ q c h. h) o → ((qs : List Quot) → HasQuots qs → HasColumns (form qs)) → HasForm (limited o form constant)
  limited_has None form constant l h = tt
  limited_has (Some qs) form constant l h = by (are_kept (form qs))
    where
      by : (b : Bool) → HasForm (cond b (Known (form qs)) (Large constant))
      by true = h qs l
      by false = tt

  sum_limited : (k : ℤ) (f g : Affine) (constant : Bool) → HasColumns f → HasColumns g → HasForm (limited (joined_quots k f.quots g.quots) (sum_form k f g) constant)
  sum_limited k f g constant h d = limited_has (joined_quots k f.quots g.quots) (sum_form k f g) constant (joined_listed HasArgument (λ q c h. h) k f.quots g.quots h.quots d.quots) (sum_columns k f g h d)

  multiple_limited : (k : ℤ) (f : Affine) (constant : Bool) → HasColumns f → HasForm (limited (scaled_quots k f.quots) (multiple_form k f) constant)
  multiple_limited k f constant h = limited_has (scaled_quots k f.quots) (multiple_form k f) constant (scaled_listed HasArgument (λ q c h. h) k f.quots h.quots) (multiple_columns k f h)

  sum_has : (k : ℤ) (a b : Collected) → HasForm a → HasForm b → HasForm (sum_of k a b)
  sum_has k (Known f) (Known g) h d = sum_limited k f g (is_constant f && is_constant g) h d
  sum_has k (Known f) (Large d) h e = tt
  sum_has k (Known f) Unknown h d = tt
  sum_has k (Large c) (Known g) h d = tt
  sum_has k (Large c) (Large d) h e = tt
  sum_has k (Large c) Unknown h d = tt
  sum_has k Unknown b h d = tt

  either_has : (b c : Bool) (x y : Collected) → HasForm x → HasForm y → HasForm (cond b x (cond c y Unknown))
  either_has true c x y h k = h
  either_has false true x y h k = k
  either_has false false x y h k = tt

  large_has : (b c : Bool) → HasForm (cond b (Large c) Unknown)
  large_has true c = tt
  large_has false c = tt

  product_has : (a b : Collected) → HasForm a → HasForm b → HasForm (product_of a b)
  product_has (Known f) (Known g) h d =
      either_has (is_constant f) (is_constant g) (limited (scaled_quots f.constant g.quots) (multiple_form f.constant g) (is_constant g)) (limited (scaled_quots g.constant f.quots) (multiple_form g.constant f) false)
      (multiple_limited f.constant g (is_constant g) d) (multiple_limited g.constant f false h)
  product_has (Known f) (Large d) h e = large_has (is_constant f || d) (is_constant f && d)
  product_has (Known f) Unknown h d = tt
  product_has (Large c) (Known g) h d = large_has (c || is_constant g) (c && is_constant g)
  product_has (Large c) (Large d) h e = large_has (c || d) (c && d)
  product_has (Large c) Unknown h d = tt
  product_has Unknown b h d = tt

  negative_has : (a : Collected) → HasForm a → HasForm (negative_of a)
  negative_has (Known f) h = multiple_limited (negsuc 0) f (is_constant f) h
  negative_has (Large c) h = tt
  negative_has Unknown h = tt

  form_has : (op : Operator) (a b : Collected) → HasForm a → HasForm b → HasForm (form_of op a b)
  form_has Add a b h k = sum_has (signed false) a b h k
  form_has Subtract a b h k = sum_has (signed true) a b h k
  form_has Multiply a b h k = product_has a b h k
  form_has Divide a b h k = tt
  form_has Remainder a b h k = tt

  difference_listed : (turned : Bool) (ps qs : List Quot) → HasQuots ps → HasQuots qs → ListedOf HasArgument (λ q c h. h) (difference_quots turned ps qs)
  difference_listed true ps qs h d = then_listed HasArgument (λ q c h. h) (pos 1) (negsuc 0) ps qs h d
  difference_listed false ps qs h d = joined_listed HasArgument (λ q c h. h) (negsuc 0) ps qs h d

  difference_columns : (strict : Bool) (f g : Affine) → HasColumns f → HasColumns g → (qs : List Quot) → HasQuots qs → HasColumns (difference_form strict f g qs)
  difference_columns strict f g h d qs l = let s = sum_columns (negsuc 0) f g h d qs l in record { params = s.params; iters = s.iters; quots = l }

  difference_has : (turned strict : Bool) (a b : Collected) → HasForm a → HasForm b → HasForm (difference turned strict a b)
  difference_has turned strict (Known f) (Known g) h d =
      limited_has (difference_quots turned f.quots g.quots) (difference_form strict f g) false (difference_listed turned f.quots g.quots h.quots d.quots) (difference_columns strict f g h d)
  difference_has turned strict (Known f) (Large d) h e = tt
  difference_has turned strict (Known f) Unknown h d = tt
  difference_has turned strict (Large c) (Known g) h d = tt
  difference_has turned strict (Large c) (Large d) h e = tt
  difference_has turned strict (Large c) Unknown h d = tt
  difference_has turned strict Unknown b h d = tt

  compared_form_has : (relation : Relation) (a b : Collected) → HasForm a → HasForm b → HasForm (compared_form relation a b)
  compared_form_has Less a b h k = difference_has true true b a k h
  compared_form_has AtMost a b h k = difference_has true false b a k h
  compared_form_has Greater a b h k = difference_has false true a b h k
  compared_form_has AtLeast a b h k = difference_has false false a b h k
  compared_form_has Equal a b h k = difference_has false false a b h k

  -- ---- what is rounded

  quotient_columns : (ps xs : ℕ) (up : Bool) (n : Numeral) (place : Place) (f : Affine) → HasColumns f → HasColumns (quotient_form ps xs (quot_of up n place f))
  quotient_columns ps xs up n place f h = record {
    params = has_zeros (λ k. Parameter k) 0 ps;
    iters = has_zeros (λ k. Iterator k) 0 xs;
    quots = record { all = ((h.params, h.iters), tt); distinct = (tt, tt) };
  }

  quotient_has : (scope : Scope) (up : Bool) (n : Numeral) (place : Place) (c : Collected) → HasForm c → HasForm (quotient_of scope up n place c)
  quotient_has scope up n place (Known f) h = by (is_within f && is_small (f.constant +ℤ added up n))
    where
      by : (b : Bool) → HasForm (cond b (Known (quotient_form scope.params (length scope.iterators) (quot_of up n place f))) (Large false))
      by true = quotient_columns scope.params (length scope.iterators) up n place f h
      by false = tt
  quotient_has scope up n place (Large constant) h = tt
  quotient_has scope up n place Unknown h = tt

  unless_has : (b : Bool) (c : Collected) → HasForm c → HasForm (cond b Unknown c)
  unless_has true c h = tt
  unless_has false c h = h

-- ---- expressions

module _ (names : List Entry) (scope : Scope) where
  -- a name that stands for this
  abbrev pub IsMeant : Meaning → Type 0
  IsMeant m = (name : List ℕ) × Stands names scope name m

  -- the form has names
  abbrev pub Names : Judged → Type 0
  Names j = HasForm IsMeant j.form

  pub number_names : (n : Numeral) → Names (judged_number scope n)
  number_names n = by (is_long n)
    where
      by : (b : Bool) → HasForm IsMeant (cond b (Large true) (Known (constant_form scope.params (length scope.iterators) (pos n.number))))
      by true = tt
      by false = constant_has IsMeant scope.params (length scope.iterators) (pos n.number)

  pub name_names : (word : Word) → Names (judged_name scope (meaning names scope word.name) word)
  name_names word = by (meaning names scope word.name) refl
    where
      by : (m : Meaning) → meaning names scope word.name ≡ m → HasForm IsMeant (name_form scope m)
      by (Parameter k) e = record {
        params = has_unit IsMeant (λ i. Parameter i) k 0 scope.params (word.name, record { means = e });
        iters = has_zeros IsMeant (λ i. Iterator i) 0 (length scope.iterators);
        quots = no_quots IsMeant;
      }
      by (Iterator k) e = record {
        params = has_zeros IsMeant (λ i. Parameter i) 0 scope.params;
        iters = has_unit IsMeant (λ i. Iterator i) k 0 (length scope.iterators) (word.name, record { means = e });
        quots = no_quots IsMeant;
      }
      by (Array number dimensions) e = tt
      by LoopName e = tt
      by OwnStart e = tt
      by Nothing e = tt

  access_names : (word : Word) (subs : ℕ) (parts : Parts) → Names (judged_access scope (meaning names scope word.name) word subs parts)
  access_names word subs parts = by (scope.fixed && is_array (meaning names scope word.name)) ((subs == 0) && not (is_array (meaning names scope word.name)))
    where
      by : (a b : Bool) → Names (cond a (judged_variable word) (cond b (judged_name scope (meaning names scope word.name) word) (judged_other (read_rule (meaning names scope word.name) subs) word parts)))
      by true b = tt
      by false true = name_names word
      by false false = tt

  pub negative_names : (place : Place) (j : Judged) → Names j → Names (judged_negative place j)
  negative_names place j n = negative_has IsMeant j.form n

  pub joined_names : (op : Operator) (a b : Judged) → Names a → Names b → Names (joined op a b)
  joined_names op a b n m = form_has IsMeant op a.form b.form n m

  pub quotient_names : (up : Bool) (n : Numeral) (place : Place) (j : Judged) → Names j → Names (judged_quotient scope up n place j)
  quotient_names up n place j h = unless_has IsMeant (is_refused scope n j || is_long n) (quotient_of scope up n place j.form) (quotient_has IsMeant scope up n place j.form h)

  chained_names : (a : Judged) (js : List Judged) (ops : List Operator) → Names a → AllByRecursion Names js → Names (chained a js ops)
  chained_names a [] ops n m = n
  chained_names a (j ∷ js) [] n m = n
  chained_names a (j ∷ js) (op ∷ ops) n m = chained_names (joined op a j) js ops (joined_names op a j n m.0) m.1

  chain_names : (js : List Judged) (ops : List Operator) → AllByRecursion Names js → Names (judged_chain scope js ops)
  chain_names [] ops n = number_names (record { number = 0; place = record { at = 0 } })
  chain_names (j ∷ js) ops n = chained_names j js ops n.0 n.1

  pub judged_names : (e : Expr) → Names (judged names scope e)
  judged_names = every_expr (λ e. Names (judged names scope e))
      (λ n. subst Names (sym (judged-number names scope n)) (number_names n))
      (λ word. subst Names (sym (judged-decimal names scope word)) tt)
      (λ name subs h. subst Names (sym (judged-access names scope name subs)) (access_names name (length subs) (gathered no_parts (map (judged names scope) subs))))
      (λ name args h. subst Names (sym (judged-call names scope name args)) tt)
      (λ up argument divisor place h. subst Names (sym (judged-quotient names scope up argument divisor place)) (quotient_names up divisor place (judged names scope argument) h))
      (λ operand place h. subst Names (sym (judged-negative names scope operand place)) (negative_names place (judged names scope operand) h))
      (λ inner place h. subst Names (sym (judged-group names scope inner place)) h)
      (λ operands operators h. subst Names (sym (judged-chain names scope operands operators))
      (chain_names (map (judged names scope) operands) operators (each_map (judged names scope) Names operands h)))

  compared_by_names : (part : Part) (d : Option Division) → Names (compared_by names scope part d)
  compared_by_names part None = compared_form_has IsMeant part.relation (judged names scope part.left).form (judged names scope part.right).form (judged_names part.left) (judged_names part.right)
  compared_by_names part (Some d) =
      let j = judged_chain scope (map (judged names scope) d.operands) d.operators in
      unless_has IsMeant (is_refused scope d.divisor j || is_long d.divisor) j.form
      (chain_names (map (judged names scope) d.operands) d.operators (each_map (judged names scope) Names d.operands (each (λ e. Names (judged names scope e)) judged_names d.operands)))

  pub compared_names : (part : Part) → Names (compared names scope part)
  compared_names part = compared_by_names part (tested_division part)
