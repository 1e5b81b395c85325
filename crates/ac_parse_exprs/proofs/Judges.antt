-- Each index expression has a form that fits its scope or none, and one where no rule is broken has a form.
use Rattle.std.proofs.Common.{◌≡◌, ℕ, List, [], ◌∷◌, map, length, refl, sym, ◌∙◌, subst, Bool, true, false, not, ◌&&◌, ◌||◌, ◌==◌, ◌+ℤ◌, cond, pos, negsuc, Option, Some, None}
use Rattle.std.proofs.lemmas.List.{length-replicate}
use Rattle.std.specs.List.{AllByRecursion}
use Rattle.ac_syntax.specs.declared.tree.Place.{Place}
use Rattle.ac_parse_grammar.specs.declared.tree.Word.{Word}
use Rattle.ac_parse_grammar.specs.declared.tree.Numeral.{Numeral}
use Rattle.ac_parse_grammar.specs.declared.tree.Operator.{Operator}
use Rattle.ac_parse_grammar.specs.declared.tree.Relation.{Relation}
use Rattle.ac_parse_grammar.specs.declared.tree.Relation.TheVariants.{Less, AtMost, Greater, AtLeast, Equal}
use Rattle.ac_parse_grammar.specs.declared.tree.Part.{Part}
use Rattle.ac_parse_grammar.specs.declared.tree.Expr.{Expr}
use Rattle.ac_parse_exprs.specs.declared.fault.Which.TheVariants.{Literal, Coefficient}
use Rattle.ac_parse_exprs.specs.declared.fault.Rule.{Rule}
use Rattle.ac_parse_exprs.specs.declared.fault.Rule.TheVariants.{NotAffine, Limit}
use Rattle.ac_parse_exprs.specs.declared.form.Affine.{Affine}
use Rattle.ac_parse_exprs.specs.declared.form.Collected.{Collected}
use Rattle.ac_parse_exprs.specs.declared.form.Collected.TheVariants.{Known, Large, Unknown}
use Rattle.ac_parse_exprs.specs.declared.index.Judged.{Judged}
use Rattle.ac_parse_exprs.specs.declared.index.Parts.{Parts}
use Rattle.ac_parse_exprs.specs.declared.scope.Entry.{Entry}
use Rattle.ac_parse_exprs.specs.declared.scope.Meaning.{Meaning}
use Rattle.ac_parse_exprs.specs.declared.scope.Meaning.TheVariants.{Parameter, Iterator, Array, LoopName, OwnStart, Nothing}
use Rattle.ac_parse_exprs.specs.declared.scope.Scope.{Scope}
use Rattle.ac_parse_exprs.specs.FaultOrder.{earlier, broken, broken_where, rule_broken}
use Rattle.ac_parse_exprs.specs.Meanings.{meaning, is_array, read_rule, call_rule}
use Rattle.ac_parse_exprs.specs.AffineForms.{is_small, constant_form, quotient_form, is_within, is_known, is_large}
use Rattle.ac_parse_exprs.specs.IndexExpressions.{is_long, judged_number, judged_decimal, with_part, gathered, no_parts, name_form, judged_name, judged_other, judged_variable, judged_access, is_refused, quotient_of, quot_of, added, divided_broken, judged_quotient, judged_negative, judged_group, form_of, is_not_affine, joined, chained, judged_chain, judged}
use Rattle.ac_parse_exprs.specs.Comparisons.{whole_broken, difference_quots, difference_form, difference, compared_form, compared_forms, side_place, judged_division, compared_by, compared}
use Rattle.ac_parse_exprs.specs.Divisions.{Division, tested_division}
use Rattle.ac_parse_exprs.proofs.Absent.{neither, not_where, each, each_map}
use Rattle.ac_parse_exprs.proofs.Collecting.{Shaped, IsKnown, constant_shaped, parameter_shaped, iterator_shaped, limited_shaped, negative_shaped, form_shaped, known_join, known_limited, known_negative, known_true, number_small, quotient_within}
use Rattle.ac_parse_exprs.proofs.Columns.{length-plus_times}
use Rattle.ac_parse_exprs.proofs.Judging.{judged-number, judged-decimal, judged-access, judged-call, judged-quotient, judged-negative, judged-group, judged-chain}
use Rattle.ac_parse_exprs.proofs.Trees.{every_expr}

-- a form fits, and there is one where no rule is broken and nothing is large
abbrev pub Judges : ℕ → ℕ → Judged → Type 0
Judges ps xs j = Shaped ps xs j.form × (j.broken ≡ None → j.large ≡ false → IsKnown j.form)

pub neither_is : (a b : Bool) → (a || b) ≡ false → (a ≡ false) × (b ≡ false)
neither_is true b h = absurd cc
neither_is false b h = (refl, h)

number_case : (ps xs : ℕ) (n : Numeral) (b : Bool) → is_long n ≡ b
    → Shaped ps xs (cond b (Large true) (Known (constant_form ps xs (pos n.number)))) × (cond b (broken (Limit Literal) n.place) None ≡ None → b ≡ false → IsKnown (cond b (Large true) (Known (constant_form ps xs (pos n.number)))))
number_case ps xs n true e = (tt, (λ h k. absurd cc))
number_case ps xs n false e = let s = constant_shaped ps xs (pos n.number) (number_small n.number e) in ((s.0, s.1), (λ h k. s.2))

pub number_judges : (scope : Scope) (n : Numeral) → Judges scope.params (length scope.iterators) (judged_number scope n)
number_judges scope n = number_case scope.params (length scope.iterators) n (is_long n) refl

decimal_judges : (ps xs : ℕ) (word : Word) → Judges ps xs (judged_decimal word)
decimal_judges ps xs word = (tt, (λ h k. absurd cc))

pub name_shaped : (scope : Scope) (m : Meaning) → Shaped scope.params (length scope.iterators) (name_form scope m)
name_shaped scope (Parameter k) = let s = parameter_shaped scope.params (length scope.iterators) k in (s.0, s.1)
name_shaped scope (Iterator k) = let s = iterator_shaped scope.params (length scope.iterators) k in (s.0, s.1)
name_shaped scope (Array number dimensions) = tt
name_shaped scope LoopName = tt
name_shaped scope OwnStart = tt
name_shaped scope Nothing = tt

name_known : (scope : Scope) (m : Meaning) (word : Word) → is_array m ≡ false → rule_broken (read_rule m 0) word.place ≡ None → IsKnown (name_form scope m)
name_known scope (Parameter k) word a h = (parameter_shaped scope.params (length scope.iterators) k).2
name_known scope (Iterator k) word a h = (iterator_shaped scope.params (length scope.iterators) k).2
name_known scope (Array number dimensions) word a h = absurd cc
name_known scope LoopName word a h = absurd cc
name_known scope OwnStart word a h = absurd cc
name_known scope Nothing word a h = absurd cc

pub name_judges : (scope : Scope) (m : Meaning) (word : Word) → is_array m ≡ false → Judges scope.params (length scope.iterators) (judged_name scope m word)
name_judges scope m word a = (name_shaped scope m, (λ h k. name_known scope m word a h))

variable_judges : (ps xs : ℕ) (word : Word) → Judges ps xs (judged_variable word)
variable_judges ps xs word = (tt, (λ h k. absurd cc))

-- whether each part has a form, where none is broken
abbrev AreKnown : Parts → Type 0
AreKnown p = p.broken ≡ None → p.large ≡ false → p.known ≡ true

gathered_known : (ps xs : ℕ) (p : Parts) (js : List Judged) → AllByRecursion (Judges ps xs) js → AreKnown p → AreKnown (gathered p js)
gathered_known ps xs p [] h k = k
gathered_known ps xs p (j ∷ js) h k = gathered_known ps xs (with_part p j) js h.1 (λ b l.
    let n = neither p.broken j.broken b in
    let m = neither_is p.large j.large l in
    let e : p.known ≡ true = k n.0 m.0 in
    let f : is_known j.form ≡ true = known_true j.form (h.0.1 n.1 m.1) in
    rw (e, f) refl)

other_judges : (ps xs : ℕ) (rule : Option Rule) (word : Word) (parts : Parts) → AreKnown parts → Judges ps xs (judged_other rule word parts)
other_judges ps xs rule word parts a = (
  tt,
  (λ h k.
      let n = neither (rule_broken rule word.place) (earlier parts.broken (broken_where parts.known NotAffine word.place)) h in
      let m = neither parts.broken (broken_where parts.known NotAffine word.place) n.1 in
      let e : parts.known ≡ false = not_where parts.known NotAffine word.place m.1 in
      let f : parts.known ≡ true = a m.0 k in
      absurd cc),
)

access_case : (scope : Scope) (m : Meaning) (word : Word) (subs : ℕ) (parts : Parts) (fixed array none : Bool) → is_array m ≡ array → AreKnown parts
    → Judges scope.params (length scope.iterators) (cond (fixed && array) (judged_variable word) (cond (none && not array) (judged_name scope m word) (judged_other (read_rule m subs) word parts)))
access_case scope m word subs parts true true none e k = variable_judges scope.params (length scope.iterators) word
access_case scope m word subs parts false true true e k = other_judges scope.params (length scope.iterators) (read_rule m subs) word parts k
access_case scope m word subs parts false true false e k = other_judges scope.params (length scope.iterators) (read_rule m subs) word parts k
access_case scope m word subs parts true false true e k = name_judges scope m word e
access_case scope m word subs parts false false true e k = name_judges scope m word e
access_case scope m word subs parts true false false e k = other_judges scope.params (length scope.iterators) (read_rule m subs) word parts k
access_case scope m word subs parts false false false e k = other_judges scope.params (length scope.iterators) (read_rule m subs) word parts k

access_judges : (scope : Scope) (m : Meaning) (word : Word) (subs : ℕ) (parts : Parts) → AreKnown parts → Judges scope.params (length scope.iterators) (judged_access scope m word subs parts)
access_judges scope m word subs parts k = access_case scope m word subs parts scope.fixed (is_array m) (subs == 0) refl k

pub negative_judges : (ps xs : ℕ) (place : Place) (j : Judged) → Judges ps xs j → Judges ps xs (judged_negative place j)
negative_judges ps xs place j h = (negative_shaped ps xs j.form h.0, (λ b l. known_negative ps xs j.form h.0 (h.1 b l)))

rounded_shaped : (scope : Scope) (up : Bool) (n : Numeral) (place : Place) (f : Affine) (b : Bool)
    → Shaped scope.params (length scope.iterators) (cond b (Known (quotient_form scope.params (length scope.iterators) (quot_of up n place f))) (Large false))
rounded_shaped scope up n place f true = (length-replicate scope.params (pos 0), length-replicate (length scope.iterators) (pos 0))
rounded_shaped scope up n place f false = tt

quotient_shaped : (scope : Scope) (up : Bool) (n : Numeral) (place : Place) (c : Collected) → Shaped scope.params (length scope.iterators) (quotient_of scope up n place c)
quotient_shaped scope up n place (Known f) = rounded_shaped scope up n place f (is_within f && is_small (f.constant +ℤ added up n))
quotient_shaped scope up n place (Large constant) = tt
quotient_shaped scope up n place Unknown = tt

rounded_known : (scope : Scope) (up : Bool) (n : Numeral) (place : Place) (f : Affine) (b : Bool)
    → is_large (cond b (Known (quotient_form scope.params (length scope.iterators) (quot_of up n place f))) (Large false)) ≡ false
    → IsKnown (cond b (Known (quotient_form scope.params (length scope.iterators) (quot_of up n place f))) (Large false))
rounded_known scope up n place f true h = quotient_within scope.params (length scope.iterators) (quot_of up n place f) refl
rounded_known scope up n place f false h = absurd cc

quotient_known : (scope : Scope) (up : Bool) (n : Numeral) (place : Place) (c : Collected) → IsKnown c → is_large (quotient_of scope up n place c) ≡ false → IsKnown (quotient_of scope up n place c)
quotient_known scope up n place (Known f) k h = rounded_known scope up n place f (is_within f && is_small (f.constant +ℤ added up n)) h
quotient_known scope up n place (Large constant) k h = absurd k
quotient_known scope up n place Unknown k h = absurd k

-- what is divided breaks no rule, and neither does the number
pub undivided : (refused : Bool) (n : Numeral) (place : Place) (j : Judged) → divided_broken refused n place j ≡ None → (j.broken ≡ None) × (is_long n ≡ false) × (refused ≡ false)
undivided refused n place j h =
    let a = neither (earlier j.broken (broken_where (is_long n) (Limit Literal) n.place)) (broken_where refused NotAffine place) h in
    let b = neither j.broken (broken_where (is_long n) (Limit Literal) n.place) a.0 in
    (b.0, not_where (is_long n) (Limit Literal) n.place b.1, not_where refused NotAffine place a.1)

unless_shaped : (ps xs : ℕ) (b : Bool) (c : Collected) → Shaped ps xs c → Shaped ps xs (cond b Unknown c)
unless_shaped ps xs true c h = tt
unless_shaped ps xs false c h = h

unless_known : (b d : Bool) (c : Collected) → b ≡ false → d ≡ false → (is_large c ≡ false → IsKnown c) → is_large (cond (b || d) Unknown c) ≡ false → IsKnown (cond (b || d) Unknown c)
unless_known true d c e f h l = absurd cc
unless_known false true c e f h l = absurd cc
unless_known false false c e f h l = h l

pub quotient_judges : (scope : Scope) (up : Bool) (n : Numeral) (place : Place) (j : Judged) → Judges scope.params (length scope.iterators) j → Judges scope.params (length scope.iterators) (judged_quotient scope up n place j)
quotient_judges scope up n place j h = (
  unless_shaped scope.params (length scope.iterators) (is_refused scope n j || is_long n) (quotient_of scope up n place j.form) (quotient_shaped scope up n place j.form),
  (λ b l.
      let u = undivided (is_refused scope n j) n place j b in
      let i = neither_is j.large (is_large (cond (is_refused scope n j || is_long n) Unknown (quotient_of scope up n place j.form))) l in
      unless_known (is_refused scope n j) (is_long n) (quotient_of scope up n place j.form) u.2 u.1 (quotient_known scope up n place j.form (h.1 u.0 i.0)) i.1),
)

-- a test of a divisor
pub division_judges : (scope : Scope) (n : Numeral) (place : Place) (j : Judged) → Judges scope.params (length scope.iterators) j → Judges scope.params (length scope.iterators) (judged_division scope n place j)
division_judges scope n place j h = (
  unless_shaped scope.params (length scope.iterators) (is_refused scope n j || is_long n) j.form h.0,
  (λ b l.
      let u = undivided (is_refused scope n j) n place j b in
      clear_known (is_refused scope n j) (is_long n) j.form u.2 u.1 (h.1 u.0 l)),
)
  where
    clear_known : (b d : Bool) (c : Collected) → b ≡ false → d ≡ false → IsKnown c → IsKnown (cond (b || d) Unknown c)
    clear_known true d c e f k = absurd cc
    clear_known false true c e f k = absurd cc
    clear_known false false c e f k = k

pub group_judges : (ps xs : ℕ) (place : Place) (j : Judged) → Judges ps xs j → Judges ps xs (judged_group place j)
group_judges ps xs place j h = (h.0, h.1)

pub joined_judges : (ps xs : ℕ) (op : Operator) (a b : Judged) → Judges ps xs a → Judges ps xs b → Judges ps xs (joined op a b)
joined_judges ps xs op a b h k = (
  form_shaped ps xs op a.form b.form h.0 k.0,
  (λ u l.
      let n = neither (earlier a.broken b.broken) (broken_where (is_not_affine op a.form b.form) NotAffine a.place) u in
      let m = neither a.broken b.broken n.0 in
      let i = neither_is (a.large || b.large) (is_large (form_of op a.form b.form)) l in
      let e = neither_is a.large b.large i.0 in
      known_join op a.form b.form (h.1 m.0 e.0) (k.1 m.1 e.1) (not_where (is_not_affine op a.form b.form) NotAffine a.place n.1) i.1),
)

chained_judges : (ps xs : ℕ) (a : Judged) (js : List Judged) (ops : List Operator) → Judges ps xs a → AllByRecursion (Judges ps xs) js → Judges ps xs (chained a js ops)
chained_judges ps xs a [] ops h k = h
chained_judges ps xs a (j ∷ js) [] h k = h
chained_judges ps xs a (j ∷ js) (op ∷ ops) h k = chained_judges ps xs (joined op a j) js ops (joined_judges ps xs op a j h k.0) k.1

chain_judges : (scope : Scope) (js : List Judged) (ops : List Operator) → AllByRecursion (Judges scope.params (length scope.iterators)) js → Judges scope.params (length scope.iterators) (judged_chain scope js ops)
chain_judges scope [] ops h = number_judges scope (record { number = 0; place = record { at = 0 } })
chain_judges scope (j ∷ js) ops h = chained_judges scope.params (length scope.iterators) j js ops h.0 h.1

module _ (names : List Entry) (scope : Scope) where
  abbrev Good : Judged → Type 0
  Good = Judges scope.params (length scope.iterators)

  parts_known : (es : List Expr) → AllByRecursion (λ e. Good (judged names scope e)) es → AreKnown (gathered no_parts (map (judged names scope) es))
  parts_known es h = gathered_known scope.params (length scope.iterators) no_parts (map (judged names scope) es) (each_map (judged names scope) Good es h) (λ b l. refl)

  pub judges : (e : Expr) → Good (judged names scope e)
  judges = every_expr (λ e. Good (judged names scope e))
      (λ n. subst Good (sym (judged-number names scope n)) (number_judges scope n))
      (λ word. subst Good (sym (judged-decimal names scope word)) (decimal_judges scope.params (length scope.iterators) word))
      (λ name subs h. subst Good (sym (judged-access names scope name subs))
      (access_judges scope (meaning names scope name.name) name (length subs) (gathered no_parts (map (judged names scope) subs)) (parts_known subs h)))
      (λ name args h. subst Good (sym (judged-call names scope name args))
      (other_judges scope.params (length scope.iterators) (call_rule (meaning names scope name.name)) name (gathered no_parts (map (judged names scope) args)) (parts_known args h)))
      (λ up argument divisor place h. subst Good (sym (judged-quotient names scope up argument divisor place)) (quotient_judges scope up divisor place (judged names scope argument) h))
      (λ operand place h. subst Good (sym (judged-negative names scope operand place)) (negative_judges scope.params (length scope.iterators) place (judged names scope operand) h))
      (λ inner place h. subst Good (sym (judged-group names scope inner place)) (group_judges scope.params (length scope.iterators) place (judged names scope inner) h))
      (λ operands operators h. subst Good (sym (judged-chain names scope operands operators))
      (chain_judges scope (map (judged names scope) operands) operators (each_map (judged names scope) Good operands h)))

difference_shaped : (ps xs : ℕ) (turned strict : Bool) (a b : Collected) → Shaped ps xs a → Shaped ps xs (difference turned strict a b)
difference_shaped ps xs turned strict (Known f) (Known g) h =
    limited_shaped ps xs (difference_quots turned f.quots g.quots) (difference_form strict f g) false (λ qs. length-plus_times (negsuc 0) f.params g.params ∙ h.0) (λ qs. length-plus_times (negsuc 0) f.iters g.iters ∙ h.1)
difference_shaped ps xs turned strict (Known f) (Large d) h = tt
difference_shaped ps xs turned strict (Known f) Unknown h = tt
difference_shaped ps xs turned strict (Large c) (Known g) h = tt
difference_shaped ps xs turned strict (Large c) (Large d) h = tt
difference_shaped ps xs turned strict (Large c) Unknown h = tt
difference_shaped ps xs turned strict Unknown b h = tt

compared_shaped : (ps xs : ℕ) (relation : Relation) (a b : Collected) → Shaped ps xs a → Shaped ps xs b → Shaped ps xs (compared_form relation a b)
compared_shaped ps xs Less a b h k = difference_shaped ps xs true true b a k
compared_shaped ps xs AtMost a b h k = difference_shaped ps xs true false b a k
compared_shaped ps xs Greater a b h k = difference_shaped ps xs false true a b h
compared_shaped ps xs AtLeast a b h k = difference_shaped ps xs false false a b h
compared_shaped ps xs Equal a b h k = difference_shaped ps xs false false a b h

known_difference : (turned strict : Bool) (a b : Collected) → IsKnown a → IsKnown b → is_large (difference turned strict a b) ≡ false → IsKnown (difference turned strict a b)
known_difference turned strict (Known f) (Known g) h k l = known_limited (difference_quots turned f.quots g.quots) (difference_form strict f g) false l
known_difference turned strict (Known f) (Large d) h k l = absurd k
known_difference turned strict (Known f) Unknown h k l = absurd k
known_difference turned strict (Large c) b h k l = absurd h
known_difference turned strict Unknown b h k l = absurd h

known_compared : (relation : Relation) (a b : Collected) → IsKnown a → IsKnown b → is_large (compared_form relation a b) ≡ false → IsKnown (compared_form relation a b)
known_compared Less a b h k l = known_difference true true b a k h l
known_compared AtMost a b h k l = known_difference true false b a k h l
known_compared Greater a b h k l = known_difference false true a b h k l
known_compared AtLeast a b h k l = known_difference false false a b h k l
known_compared Equal a b h k l = known_difference false false a b h k l

sides_judge : (names : List Entry) (scope : Scope) (part : Part) → Judges scope.params (length scope.iterators) (compared_forms part.relation (judged names scope part.left) (judged names scope part.right))
sides_judge names scope part =
    let a = judged names scope part.left in
    let b = judged names scope part.right in
    let h = judges names scope part.left in
    let k = judges names scope part.right in (
      compared_shaped scope.params (length scope.iterators) part.relation a.form b.form h.0 k.0,
      (λ u l.
          let m = neither a.broken b.broken u in
          let i = neither_is (a.large || b.large) (is_large (compared_form part.relation a.form b.form)) l in
          let e = neither_is a.large b.large i.0 in
          known_compared part.relation a.form b.form (h.1 m.0 e.0) (k.1 m.1 e.1) i.1),
    )

chains_judge : (names : List Entry) (scope : Scope) (es : List Expr) (ops : List Operator) → Judges scope.params (length scope.iterators) (judged_chain scope (map (judged names scope) es) ops)
chains_judge names scope es ops =
    chain_judges scope (map (judged names scope) es) ops (each_map (judged names scope) (Judges scope.params (length scope.iterators)) es (each (λ e. Judges scope.params (length scope.iterators) (judged names scope e)) (judges names scope) es))

pub chain_shaped : (names : List Entry) (scope : Scope) (es : List Expr) (ops : List Operator) → Shaped scope.params (length scope.iterators) (judged_chain scope (map (judged names scope) es) ops).form
chain_shaped names scope es ops = (chains_judge names scope es ops).0

compared_by_judges : (names : List Entry) (scope : Scope) (part : Part) (d : Option Division) → Judges scope.params (length scope.iterators) (compared_by names scope part d)
compared_by_judges names scope part None = sides_judge names scope part
compared_by_judges names scope part (Some d) =
    let j = judged_chain scope (map (judged names scope) d.operands) d.operators in
    division_judges scope d.divisor (side_place d.parenthesis j.place) j
    (chains_judge names scope d.operands d.operators)

pub compared_judges : (names : List Entry) (scope : Scope) (part : Part) → Judges scope.params (length scope.iterators) (compared names scope part)
compared_judges names scope part = compared_by_judges names scope part (tested_division part)

-- where no rule is broken in the whole there is a form
pub whole_known : (ps xs : ℕ) (j : Judged) → Judges ps xs j → whole_broken j ≡ None → IsKnown j.form
whole_known ps xs j h b =
    let n = neither j.broken (broken_where j.large (Limit Coefficient) j.place) b in
    h.1 n.0 (not_where j.large (Limit Coefficient) j.place n.1)
