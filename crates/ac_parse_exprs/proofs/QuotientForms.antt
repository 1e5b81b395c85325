-- What is true of each quotient that is divided in a scope is true of each quotient of a form, whatever its coefficient.
use Rattle.std.proofs.Common.{◌≡◌, ℕ, List, [], ◌∷◌, map, length, refl, sym, subst, Bool, true, false, not, ◌&&◌, ◌||◌, ◌==◌, ◌+ℤ◌, ◌*ℤ◌, cond, ℤ, pos, negsuc, Option, Some, None}
use Rattle.std.specs.List.{AllByRecursion}
use Rattle.std.specs.Option.{option_map, option_and_then}
use Rattle.ac_syntax.specs.Index.{is_zero}
use Rattle.ac_syntax.specs.Quotients.{same_quot}
use Rattle.ac_syntax.specs.declared.tree.Place.{Place}
use Rattle.ac_syntax.specs.declared.tree.Quot.{Quot}
use Rattle.ac_parse_grammar.specs.declared.tree.Word.{Word}
use Rattle.ac_parse_grammar.specs.declared.tree.Numeral.{Numeral}
use Rattle.ac_parse_grammar.specs.declared.tree.Operator.{Operator}
use Rattle.ac_parse_grammar.specs.declared.tree.Operator.TheVariants.{Add, Subtract, Multiply, Divide, Remainder}
use Rattle.ac_parse_grammar.specs.declared.tree.Relation.{Relation}
use Rattle.ac_parse_grammar.specs.declared.tree.Relation.TheVariants.{Less, AtMost, Greater, AtLeast, Equal}
use Rattle.ac_parse_grammar.specs.declared.tree.Part.{Part}
use Rattle.ac_parse_grammar.specs.declared.tree.Expr.{Expr}
use Rattle.ac_parse_exprs.specs.declared.form.Affine.{Affine}
use Rattle.ac_parse_exprs.specs.declared.form.Collected.{Collected}
use Rattle.ac_parse_exprs.specs.declared.form.Collected.TheVariants.{Known, Large, Unknown}
use Rattle.ac_parse_exprs.specs.declared.index.Judged.{Judged}
use Rattle.ac_parse_exprs.specs.declared.index.Parts.{Parts}
use Rattle.ac_parse_exprs.specs.declared.scope.Entry.{Entry}
use Rattle.ac_parse_exprs.specs.declared.scope.Meaning.{Meaning}
use Rattle.ac_parse_exprs.specs.declared.scope.Meaning.TheVariants.{Parameter, Iterator, Array, LoopName, OwnStart, Nothing}
use Rattle.ac_parse_exprs.specs.declared.scope.Scope.{Scope}
use Rattle.ac_parse_exprs.specs.Meanings.{meaning, is_array, read_rule}
use Rattle.ac_parse_exprs.specs.AffineForms.{is_small, is_within, with_coef, with_quot, joined_quots, scaled_quots, is_constant, are_kept, sum_form, multiple_form, constant_form, quotient_form, limited, sum_of, product_of, negative_of, signed}
use Rattle.ac_parse_exprs.specs.IndexExpressions.{is_long, judged_number, gathered, no_parts, name_form, judged_name, judged_variable, judged_other, changes_by_turn, is_refused, added, quot_of, quotient_of, judged_quotient, form_of, joined, chained, judged_chain, judged}
use Rattle.ac_parse_exprs.specs.Comparisons.{counted, placed_form, form_or_zero, difference_quots, difference_form, difference, compared_form, compared_by, compared}
use Rattle.ac_parse_exprs.specs.Divisions.{Division, tested_division}
use Rattle.ac_parse_exprs.proofs.Absent.{both_true, each, each_map}
use Rattle.ac_parse_exprs.proofs.Collecting.{Shaped}
use Rattle.ac_parse_exprs.proofs.Judges.{judges}
use Rattle.ac_parse_exprs.proofs.Judging.{judged-number, judged-decimal, judged-access, judged-call, judged-quotient, judged-negative, judged-group, judged-chain}
use Rattle.ac_parse_exprs.proofs.Trees.{every_expr}

-- what is known where a form is divided: nothing refuses it
pub record MayDivide (scope : Scope) (up : Bool) (n : Numeral) (f : Affine) : Type 0 where
  pub free : scope.fixed ≡ false
  pub divisor : (n.number == 0) ≡ false
  pub short : is_long n ≡ false
  pub steady : changes_by_turn scope (Known f) ≡ false
  pub within : is_within f ≡ true
  pub small : is_small (f.constant +ℤ added up n) ≡ true
  pub params : length f.params ≡ scope.params
  pub iters : length f.iters ≡ length scope.iterators

or_false : (a b : Bool) → (a || b) ≡ false → (a ≡ false) × (b ≡ false)
or_false true b h = absurd cc
or_false false b h = (refl, h)

-- what is known where nothing refuses
pub not_refused : (scope : Scope) (n : Numeral) (j : Judged) → is_refused scope n j ≡ false
    → (scope.fixed ≡ false) × ((n.number == 0) ≡ false) × (j.rounds ≡ false) × (j.awry ≡ false) × (changes_by_turn scope j.form ≡ false)
not_refused scope n j h =
    let a = or_false (scope.fixed || (n.number == 0) || j.rounds || j.awry) (changes_by_turn scope j.form) h in
    let b = or_false (scope.fixed || (n.number == 0) || j.rounds) j.awry a.0 in
    let c = or_false (scope.fixed || (n.number == 0)) j.rounds b.0 in
    let d = or_false scope.fixed (n.number == 0) c.0 in
    (d.0, d.1, c.1, b.1, a.1)

module _ (P : Quot → Type 0) (other : (q : Quot) (c : ℤ) → is_small c ≡ true → P q → P (record q { coef = c })) where
  abbrev All : List Quot → Type 0
  All = AllByRecursion P

  -- of a list that may be there
  abbrev AllOf : Option (List Quot) → Type 0
  AllOf None = Unit {0}
  AllOf (Some qs) = All qs

  abbrev One : Option Quot → Type 0
  One None = Unit {0}
  One (Some q) = P q

  coef_by : (c : ℤ) (q : Quot) (b : Bool) → is_small c ≡ b → P q → One (option_map (λ z. record q { coef = z }) (cond b (Some c) None))
  coef_by c q true e h = other q c e h
  coef_by c q false e h = tt

  one_coef : (c : ℤ) (q : Quot) → P q → One (with_coef c q)
  one_coef c q h = coef_by c q (is_small c) refl h

  one_more : (r : Option Quot) (qs : List Quot) → One r → All qs → AllOf (option_map (λ q. q ∷ qs) r)
  one_more None qs h k = tt
  one_more (Some q) qs h k = (h, k)

  one_front : (q : Quot) (rest : Option (List Quot)) → P q → AllOf rest → AllOf (option_map (λ qs. q ∷ qs) rest)
  one_front q None h k = tt
  one_front q (Some qs) h k = (h, k)

  quot_by : (k : ℤ) (q p : Quot) (ps : List Quot) (b : Bool) → P q → P p → All ps → AllOf (with_quot k q ps)
      → AllOf (cond b (option_map (λ r. r ∷ ps) (with_coef (p.coef +ℤ (k *ℤ q.coef)) p)) (option_map (λ rest. p ∷ rest) (with_quot k q ps)))
  quot_by k q p ps true h g a rest = one_more (with_coef (p.coef +ℤ (k *ℤ q.coef)) p) ps (one_coef (p.coef +ℤ (k *ℤ q.coef)) p g) a
  quot_by k q p ps false h g a rest = one_front p (with_quot k q ps) g rest

  all_with : (k : ℤ) (q : Quot) (ps : List Quot) → P q → All ps → AllOf (with_quot k q ps)
  all_with k q [] h a = one_more (with_coef (k *ℤ q.coef) q) [] (one_coef (k *ℤ q.coef) q h) tt
  all_with k q (p ∷ ps) h a = quot_by k q p ps (same_quot q p) h a.0 a.1 (all_with k q ps h a.1)

  all_then : (first : Option (List Quot)) (next : List Quot → Option (List Quot)) → AllOf first → ((qs : List Quot) → All qs → AllOf (next qs)) → AllOf (option_and_then next first)
  all_then None next h f = tt
  all_then (Some qs) next h f = f qs h

  all_joined : (k : ℤ) (ps qs : List Quot) → All ps → All qs → AllOf (joined_quots k ps qs)
  all_joined k ps [] h g = h
  all_joined k ps (q ∷ qs) h g = all_then (with_quot k q ps) (λ more. joined_quots k more qs) (all_with k q ps g.0 h) (λ more a. all_joined k more qs a g.1)

  scaled_by : (r : Option Quot) (rest : Option (List Quot)) → One r → AllOf rest → AllOf (option_and_then (λ p. option_map (λ ps. p ∷ ps) rest) r)
  scaled_by None rest h a = tt
  scaled_by (Some p) rest h a = one_front p rest h a

  all_scaled : (k : ℤ) (qs : List Quot) → All qs → AllOf (scaled_quots k qs)
  all_scaled k [] h = tt
  all_scaled k (q ∷ qs) h = scaled_by (with_coef (k *ℤ q.coef) q) (scaled_quots k qs) (one_coef (k *ℤ q.coef) q h.0) (all_scaled k qs h.1)

  -- of the quotients of a form
  abbrev pub Hold : Collected → Type 0
  Hold (Known f) = All f.quots
  Hold (Large constant) = Unit {0}
  Hold Unknown = Unit {0}

  kept_by : (f : Affine) (constant b : Bool) → All f.quots → Hold (cond b (Known f) (Large constant))
  kept_by f constant true h = h
  kept_by f constant false h = tt

  all_limited : (o : Option (List Quot)) (form : List Quot → Affine) (constant : Bool) → AllOf o → ((qs : List Quot) → (form qs).quots ≡ qs) → Hold (limited o form constant)
  all_limited None form constant h e = tt
  all_limited (Some qs) form constant h e = kept_by (form qs) constant (are_kept (form qs)) (subst All (sym (e qs)) h)

  hold_sum : (k : ℤ) (a b : Collected) → Hold a → Hold b → Hold (sum_of k a b)
  hold_sum k (Known f) (Known g) h l = all_limited (joined_quots k f.quots g.quots) (sum_form k f g) (is_constant f && is_constant g) (all_joined k f.quots g.quots h l) (λ qs. refl)
  hold_sum k (Known f) (Large d) h l = tt
  hold_sum k (Known f) Unknown h l = tt
  hold_sum k (Large c) (Known g) h l = tt
  hold_sum k (Large c) (Large d) h l = tt
  hold_sum k (Large c) Unknown h l = tt
  hold_sum k Unknown b h l = tt

  hold_multiple : (k : ℤ) (f : Affine) (constant : Bool) → All f.quots → Hold (limited (scaled_quots k f.quots) (multiple_form k f) constant)
  hold_multiple k f constant h = all_limited (scaled_quots k f.quots) (multiple_form k f) constant (all_scaled k f.quots h) (λ qs. refl)

  either_hold : (b c : Bool) (x y : Collected) → Hold x → Hold y → Hold (cond b x (cond c y Unknown))
  either_hold true c x y h l = h
  either_hold false true x y h l = l
  either_hold false false x y h l = tt

  large_hold : (b c : Bool) → Hold (cond b (Large c) Unknown)
  large_hold true c = tt
  large_hold false c = tt

  hold_product : (a b : Collected) → Hold a → Hold b → Hold (product_of a b)
  hold_product (Known f) (Known g) h l =
      either_hold (is_constant f) (is_constant g) (limited (scaled_quots f.constant g.quots) (multiple_form f.constant g) (is_constant g)) (limited (scaled_quots g.constant f.quots) (multiple_form g.constant f) false)
      (hold_multiple f.constant g (is_constant g) l) (hold_multiple g.constant f false h)
  hold_product (Known f) (Large d) h l = large_hold (is_constant f || d) (is_constant f && d)
  hold_product (Known f) Unknown h l = tt
  hold_product (Large c) (Known g) h l = large_hold (c || is_constant g) (c && is_constant g)
  hold_product (Large c) (Large d) h l = large_hold (c || d) (c && d)
  hold_product (Large c) Unknown h l = tt
  hold_product Unknown b h l = tt

  pub hold_negative : (a : Collected) → Hold a → Hold (negative_of a)
  hold_negative (Known f) h = hold_multiple (negsuc 0) f (is_constant f) h
  hold_negative (Large c) h = tt
  hold_negative Unknown h = tt

  pub hold_form : (op : Operator) (a b : Collected) → Hold a → Hold b → Hold (form_of op a b)
  hold_form Add a b h l = hold_sum (signed false) a b h l
  hold_form Subtract a b h l = hold_sum (signed true) a b h l
  hold_form Multiply a b h l = hold_product a b h l
  hold_form Divide a b h l = tt
  hold_form Remainder a b h l = tt

  -- ---- expressions, where it is true of what is divided

  module _ (names : List Entry) (scope : Scope) (made : (up : Bool) (n : Numeral) (place : Place) (f : Affine) → MayDivide scope up n f → P (quot_of up n place f)) where
    abbrev Good : Judged → Type 0
    Good j = Hold j.form

    pub hold_number : (n : Numeral) → Good (judged_number scope n)
    hold_number n = by (is_long n)
      where
        by : (b : Bool) → Hold (cond b (Large true) (Known (constant_form scope.params (length scope.iterators) (pos n.number))))
        by true = tt
        by false = tt

    pub hold_name : (m : Meaning) → Hold (name_form scope m)
    hold_name (Parameter k) = tt
    hold_name (Iterator k) = tt
    hold_name (Array number dimensions) = tt
    hold_name LoopName = tt
    hold_name OwnStart = tt
    hold_name Nothing = tt

    hold_access : (m : Meaning) (word : Word) (subs : ℕ) (parts : Parts) (a b : Bool) → Good (cond a (judged_variable word) (cond b (judged_name scope m word) (judged_other (read_rule m subs) word parts)))
    hold_access m word subs parts true b = tt
    hold_access m word subs parts false true = hold_name m
    hold_access m word subs parts false false = tt

    rounded_by : (up : Bool) (n : Numeral) (place : Place) (f : Affine) (b : Bool) → (b ≡ true → P (quot_of up n place f))
        → Hold (cond b (Known (quotient_form scope.params (length scope.iterators) (quot_of up n place f))) (Large false))
    rounded_by up n place f true h = (h refl, tt)
    rounded_by up n place f false h = tt

    hold_rounded : (up : Bool) (n : Numeral) (place : Place) (c : Collected) → Shaped scope.params (length scope.iterators) c
        → scope.fixed ≡ false → (n.number == 0) ≡ false → is_long n ≡ false → changes_by_turn scope c ≡ false → Hold (quotient_of scope up n place c)
    hold_rounded up n place (Known f) s o d l t =
        rounded_by up n place f (is_within f && is_small (f.constant +ℤ added up n)) (λ e.
        let b = both_true (is_within f) (is_small (f.constant +ℤ added up n)) e in
        made up n place f (record { free = o; divisor = d; short = l; steady = t; within = b.0; small = b.1; params = s.0; iters = s.1 }))
    hold_rounded up n place (Large constant) s o d l t = tt
    hold_rounded up n place Unknown s o d l t = tt

    unless_by : (a b : Bool) (c : Collected) → (a ≡ false → b ≡ false → Hold c) → Hold (cond (a || b) Unknown c)
    unless_by true b c h = tt
    unless_by false true c h = tt
    unless_by false false c h = h refl refl

    pub hold_quotient : (up : Bool) (n : Numeral) (place : Place) (j : Judged) → Shaped scope.params (length scope.iterators) j.form → Good (judged_quotient scope up n place j)
    hold_quotient up n place j s = unless_by (is_refused scope n j) (is_long n) (quotient_of scope up n place j.form) (λ a l.
        let r = not_refused scope n j a in
        hold_rounded up n place j.form s r.0 r.1 l r.4)

    hold_chained : (a : Judged) (js : List Judged) (ops : List Operator) → Good a → AllByRecursion Good js → Good (chained a js ops)
    hold_chained a [] ops h l = h
    hold_chained a (j ∷ js) [] h l = h
    hold_chained a (j ∷ js) (op ∷ ops) h l = hold_chained (joined op a j) js ops (hold_form op a.form j.form h l.0) l.1

    hold_chain : (js : List Judged) (ops : List Operator) → AllByRecursion Good js → Good (judged_chain scope js ops)
    hold_chain [] ops h = hold_number (record { number = 0; place = record { at = 0 } })
    hold_chain (j ∷ js) ops h = hold_chained j js ops h.0 h.1

    pub hold_judged : (e : Expr) → Good (judged names scope e)
    hold_judged = every_expr (λ e. Good (judged names scope e))
        (λ n. subst Good (sym (judged-number names scope n)) (hold_number n))
        (λ word. subst Good (sym (judged-decimal names scope word)) tt)
        (λ name subs h. subst Good (sym (judged-access names scope name subs))
        (hold_access (meaning names scope name.name) name (length subs) (gathered no_parts (map (judged names scope) subs)) (scope.fixed && is_array (meaning names scope name.name)) ((length subs == 0) && not (is_array (meaning names scope name.name)))))
        (λ name args h. subst Good (sym (judged-call names scope name args)) tt)
        (λ up argument divisor place h. subst Good (sym (judged-quotient names scope up argument divisor place)) (hold_quotient up divisor place (judged names scope argument) (judges names scope argument).0))
        (λ operand place h. subst Good (sym (judged-negative names scope operand place)) (hold_negative (judged names scope operand).form h))
        (λ inner place h. subst Good (sym (judged-group names scope inner place)) h)
        (λ operands operators h. subst Good (sym (judged-chain names scope operands operators)) (hold_chain (map (judged names scope) operands) operators (each_map (judged names scope) Good operands h)))

    -- ---- comparisons

    hold_quots : (turned : Bool) (ps qs : List Quot) → All ps → All qs → AllOf (difference_quots turned ps qs)
    hold_quots true ps qs h l = all_then (scaled_quots (negsuc 0) qs) (λ rs. joined_quots (pos 1) rs ps) (all_scaled (negsuc 0) qs l) (λ rs a. all_joined (pos 1) rs ps a h)
    hold_quots false ps qs h l = all_joined (negsuc 0) ps qs h l

    hold_difference : (turned strict : Bool) (a b : Collected) → Hold a → Hold b → Hold (difference turned strict a b)
    hold_difference turned strict (Known f) (Known g) h l = all_limited (difference_quots turned f.quots g.quots) (difference_form strict f g) false (hold_quots turned f.quots g.quots h l) (λ qs. refl)
    hold_difference turned strict (Known f) (Large d) h l = tt
    hold_difference turned strict (Known f) Unknown h l = tt
    hold_difference turned strict (Large c) (Known g) h l = tt
    hold_difference turned strict (Large c) (Large d) h l = tt
    hold_difference turned strict (Large c) Unknown h l = tt
    hold_difference turned strict Unknown b h l = tt

    hold_compared : (relation : Relation) (a b : Collected) → Hold a → Hold b → Hold (compared_form relation a b)
    hold_compared Less a b h l = hold_difference true true b a l h
    hold_compared AtMost a b h l = hold_difference true false b a l h
    hold_compared Greater a b h l = hold_difference false true a b h l
    hold_compared AtLeast a b h l = hold_difference false false a b h l
    hold_compared Equal a b h l = hold_difference false false a b h l

    pub hold_chain_of : (es : List Expr) (ops : List Operator) → Good (judged_chain scope (map (judged names scope) es) ops)
    hold_chain_of es ops = hold_chain (map (judged names scope) es) ops (each_map (judged names scope) Good es (each (λ e. Good (judged names scope e)) hold_judged es))

    hold_by : (part : Part) (d : Option Division) → Good (compared_by names scope part d)
    hold_by part None = hold_compared part.relation (judged names scope part.left).form (judged names scope part.right).form (hold_judged part.left) (hold_judged part.right)
    hold_by part (Some d) =
        let j = judged_chain scope (map (judged names scope) d.operands) d.operators in
        unless_by (is_refused scope d.divisor j) (is_long d.divisor) j.form (λ a l. hold_chain_of d.operands d.operators)

    pub hold_part : (part : Part) → Good (compared names scope part)
    hold_part part = hold_by part (tested_division part)

  -- ---- index expressions

  counted_by : (q : Quot) (qs : List Quot) (b : Bool) → P q → All qs → All (cond b (q ∷ qs) qs)
  counted_by q qs true h l = (h, l)
  counted_by q qs false h l = l

  pub all_counted : (qs : List Quot) → All qs → All (counted qs)
  all_counted [] h = tt
  all_counted (q ∷ qs) h = counted_by q (counted qs) (not (is_zero q.coef)) h.0 (all_counted qs h.1)

  pub hold_placed : (scope : Scope) (place : Place) (c : Collected) → Hold c → All (placed_form place (form_or_zero scope c)).quots
  hold_placed scope place (Known f) h = by (is_within f)
    where
      by : (b : Bool) → All (placed_form place (cond b f (constant_form scope.params (length scope.iterators) (pos 0)))).quots
      by true = all_counted f.quots h
      by false = tt
  hold_placed scope place (Large constant) h = tt
  hold_placed scope place Unknown h = tt
