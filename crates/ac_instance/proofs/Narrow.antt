-- Runs of programs with small numbers: no partial sum leaves 128 bits, since each index value that is taken has 64.
use Rattle.std.proofs.Common.{◌≡◌, ℕ, zero, suc, ◌+◌, ◌*◌, ◌^◌, ◌<◌, ◌≤◌, ℤ, pos, negsuc, ◌+ℤ◌, ◌*ℤ◌, ◌≤ℤ◌, Bool, true, false, List, [], ◌∷◌, ◌++◌, length, map, Option, Some, None, IfSome, Result, Ok, Err, if◌then◌else◌, nat_lt, refl, sym, ap, subst, ◌∙◌, arith}
use Rattle.std.specs.Prelude.{unsigned_abs, option_and_then, option_map}
use Rattle.std.specs.List.{AllByRecursion, flat_map, range_with_len}
use Rattle.std.proofs.lemmas.Bool.Decides.{nat_tests}
use Rattle.std.proofs.lemmas.Int.{ints, unsigned_abs-mul}
use Rattle.std.proofs.lemmas.Nat.{mul-le}
use Rattle.std.proofs.Math.IntN.{*ℤ-zero}
use Rattle.std.proofs.lemmas.List.{append_assoc, append-nil}
use Rattle.std.specs.Int.{int_div_euclid}
use Rattle.ac_syntax.specs.CheckedArithmetic.{fits_128, checked, summed, checked_plain, checked_argument, rounded, checked_quot, plus_times, plus_quot, summed_quots, checked_value, checked_comparison, checked_holds}
use Rattle.ac_syntax.specs.Index.{Point, point, quot_argument, quot_value, index_value, comparison_holds, holds, rel_holds}
use Rattle.ac_syntax.specs.Small.{IsSmall, IsSmallQuot, IsSmallForm, AreSmallForms, IsSmallRel, IsSmallPart, AreSmallParts, IsSmallValue, AreSmallValues, IsSmallStmt, AreSmallStmts, IsSmallPair}
use Rattle.ac_syntax.specs.Outputs.{extents_at}
use Rattle.ac_syntax.specs.Turns.{inside, iterator_at, turns}
use Rattle.ac_syntax.proofs.Exact.{argument_exact, checked_exact}
use Rattle.ac_syntax.specs.declared.tree.Place.{Place}
use Rattle.ac_syntax.specs.declared.tree.Array.{Array}
use Rattle.ac_syntax.specs.declared.tree.Pair.{Pair}
use Rattle.ac_syntax.specs.ReadyPrograms.{FitParts}
use Rattle.ac_syntax.specs.declared.tree.Quot.{Quot}
use Rattle.ac_syntax.specs.declared.tree.IndexExpr.{IndexExpr}
use Rattle.ac_syntax.specs.declared.tree.Rel.{Rel}
use Rattle.ac_syntax.specs.declared.tree.Rel.TheVariants.{NonNegative, Zero, Divides}
use Rattle.ac_syntax.specs.declared.tree.Comparison.{Comparison}
use Rattle.ac_syntax.specs.declared.tree.Cond.{Cond}
use Rattle.ac_syntax.specs.declared.tree.Value.{Value, Row_of-Value, end_of-Value, more_of-Value}
use Rattle.ac_syntax.specs.declared.tree.Value.TheVariants.{Number, Access, Call'}
use Rattle.ac_syntax.specs.declared.tree.Stmt.{Stmt, Row_of-Stmt, end_of-Stmt, more_of-Stmt}
use Rattle.ac_syntax.specs.declared.tree.Stmt.TheVariants.{For', If', Assign}
use Rattle.std.specs.Result.{IsErrOf}
use Rattle.ac_instance.specs.declared.halt.Halt.{Halt}
use Rattle.ac_instance.specs.declared.halt.Ran.{Ran}
use Rattle.ac_instance.specs.declared.halt.Halt.TheVariants.{TooLarge, Range, Wide}
use Rattle.ac_instance.specs.declared.halt.Side.{Side}
use Rattle.ac_instance.specs.declared.halt.Side.TheVariants.{Left, Right}
use Rattle.ac_instance.specs.Events.{Event, event, evaluated, fits_64, unless, reached, quotient, index, divided, in_part, in_value, in_values, in_test, in_turn, in_loop, in_stmt, in_body, in_all, natural, in_elements, in_output}
use Rattle.ac_instance.specs.ComparisonAnswers.{in_outputs, everything, IsRan}
use Rattle.ac_instance.proofs.Happen.{and_then, reached-append}

-- nothing that happens leaves 128 bits
abbrev pub Never : List Event → Type 0
Never hs = (limit n : ℕ) → ¬ (reached limit n hs ≡ Err Wide)

never_nothing : Never []
never_nothing limit n e = absurd cc

never_event : (hs : List Event) → Never hs → Never (event ∷ hs)
never_event hs h limit n = by (nat_lt n limit)
  where
    by : (b : Bool) → ¬ ((if b then reached limit (n + 1) hs else Err (TooLarge limit)) ≡ Err Wide)
    by true = h limit (n + 1)
    by false = λ e. absurd cc

never_value : (side : Side) (place : Place) (v : ℤ) (hs : List Event) → (fits_64 v ≡ true → Never hs) → Never (evaluated side place (Some v) ∷ hs)
never_value side place v hs h limit n = by (fits_64 v) (λ t. h t limit n)
  where
    by : (b : Bool) → (b ≡ true → ¬ (reached limit n hs ≡ Err Wide)) → ¬ (unless (if b then None else Some (Range side place v)) (reached limit n hs) ≡ Err Wide)
    by true k = k refl
    by false k = λ e. absurd cc

never_both : (xs ys : List Event) → Never xs → Never ys → Never (xs ++ ys)
never_both xs ys h k limit n e = by (reached limit n xs) (h limit n) (sym (reached-append limit n xs ys) ∙ e)
  where
    by : (r : Result ℕ Halt) → ¬ (r ≡ Err Wide) → ¬ (and_then r (λ m. reached limit m ys) ≡ Err Wide)
    by (Ok m) h = k limit m
    by (Err x) h = h

never_either : (b : Bool) (xs ys : List Event) → Never xs → Never ys → Never (if b then xs else ys)
never_either true xs ys h k = h
never_either false xs ys h k = k

-- absolute values
abs_add : (a b : ℤ) → unsigned_abs (a +ℤ b) ≤ unsigned_abs a + unsigned_abs b
abs_add (pos a) (pos b) = omega (arith, ints)
abs_add (pos a) (negsuc b) = omega (arith, ints)
abs_add (negsuc a) (pos b) = omega (arith, ints)
abs_add (negsuc a) (negsuc b) = omega (arith, ints)

abs_fits : (v : ℤ) → fits_64 v ≡ true → unsigned_abs v ≤ 2 ^ 63
abs_fits (pos n) h = grind (arith, nat_tests)
abs_fits (negsuc n) h = grind (arith, nat_tests)

fits_abs : (z : ℤ) → unsigned_abs z < 2 ^ 127 → fits_128 z ≡ true
fits_abs (pos n) h = grind (arith, nat_tests)
fits_abs (negsuc n) h = grind (arith, nat_tests)

checked_abs : (z : ℤ) → unsigned_abs z < 2 ^ 127 → checked z ≡ Some z
checked_abs z h = ap (λ b. if b then Some z else None) (fits_abs z h)

-- each number of a list has 64 bits
abbrev pub Fit : List ℤ → Type 0
Fit = AllByRecursion (λ v. fits_64 v ≡ true)

product_small : (c x : ℤ) → IsSmall c → fits_64 x ≡ true → unsigned_abs (c *ℤ x) ≤ 2 ^ 94
product_small c x h k =
    let m : unsigned_abs c * unsigned_abs x ≤ 2 ^ 31 * 2 ^ 63 = mul-le (unsigned_abs c) (unsigned_abs x) (2 ^ 31) (2 ^ 63) h (abs_fits x k) in
    let e = unsigned_abs-mul c x in
    omega (arith, m, e)

summed_small : (cs xs : List ℤ) (sum : ℤ) (k : ℕ) → AllByRecursion IsSmall cs → Fit xs → unsigned_abs sum ≤ 2 ^ 31 + k * 2 ^ 94 → k + length cs ≤ 10
    → (s : ℤ) × (summed sum cs xs ≡ Some s) × (unsigned_abs s ≤ 2 ^ 31 + (k + length cs) * 2 ^ 94)
summed_small [] xs sum k small fit h few = (sum, refl, omega (arith, h))
summed_small (c ∷ cs) [] sum k small fit h few = (sum, refl, omega (arith, h))
summed_small (c ∷ cs) (x ∷ xs) sum k small fit h few =
    let p = product_small c x small.0 fit.0 in
    let a = abs_add sum (c *ℤ x) in
    let next : unsigned_abs (sum +ℤ (c *ℤ x)) ≤ 2 ^ 31 + (k + 1) * 2 ^ 94 = omega (arith, p, a, h) in
    let below : unsigned_abs (sum +ℤ (c *ℤ x)) < 2 ^ 127 = omega (arith, next, few) in
    let rest = summed_small cs xs (sum +ℤ (c *ℤ x)) (k + 1) small.1 fit.1 next (omega (arith, few)) in
    (rest.0, ap (option_and_then (λ s. summed s cs xs)) (checked_abs (sum +ℤ (c *ℤ x)) below) ∙ rest.1, let b = rest.2 in omega (arith, b))

-- where a small form is evaluated
pub record Narrow (p : Point) : Type 0 where
  pub params : Fit p.params
  pub iters : Fit p.iters

-- a form without quotients
plain_small : (p : Point) (konst : ℤ) (ps xs : List ℤ) → Narrow p → IsSmall konst → AllByRecursion IsSmall ps → AllByRecursion IsSmall xs → length ps ≤ 4 → length xs ≤ 6
    → (v : ℤ) × (checked_plain p konst ps xs ≡ Some v) × (unsigned_abs v ≤ 2 ^ 31 + 10 * 2 ^ 94)
plain_small p konst ps xs n k sp sx few more =
    let first = summed_small ps p.params konst 0 sp n.params (omega (arith, k)) (omega (arith, few)) in
    let second = summed_small xs p.iters first.0 (length ps) sx n.iters (let a = first.2 in omega (arith, a)) (omega (arith, few, more)) in
    (second.0, ap (option_and_then (λ s. summed s xs p.iters)) first.1 ∙ second.1, let b = second.2 in omega (arith, b, few, more))

argument_small : (p : Point) (q : Quot) → Narrow p → IsSmallQuot q → checked_argument p q ≡ Some (quot_argument p q)
argument_small p q n s =
    let v = plain_small p q.konst q.params q.iters n s.constant s.params s.iters s.few_params s.few_iters in
    v.1 ∙ ap Some (subst (λ o. IfSome o (λ v. v ≡ quot_argument p q)) v.1 (argument_exact p q))

rounded_some : (d v : ℤ) → pos 1 ≤ℤ d → rounded d v ≡ Some (int_div_euclid v d)
rounded_some (pos zero) v h = absurd (omega (arith, ints))
rounded_some (pos (suc n)) v h = refl
rounded_some (negsuc n) v h = absurd (omega (arith, ints))

quot_small : (p : Point) (q : Quot) → Narrow p → IsSmallQuot q → checked_quot p q ≡ Some (quot_value p q)
quot_small p q n s = ap (option_and_then (rounded q.div)) (argument_small p q n s) ∙ rounded_some q.div (quot_argument p q) s.positive

-- each quotient has 64 bits
abbrev pub FitQuots : Point → List Quot → Type 0
FitQuots p = AllByRecursion (λ q. fits_64 (quot_value p q) ≡ true)

quots_small : (p : Point) (qs : List Quot) (sum : ℤ) (k : ℕ) → Narrow p → AllByRecursion IsSmallQuot qs → FitQuots p qs → unsigned_abs sum ≤ 2 ^ 31 + k * 2 ^ 94 → k + length qs ≤ 10 + 2 ^ 16
    → (s : ℤ) × (summed_quots p sum qs ≡ Some s)
quots_small p [] sum k n s f h few = (sum, refl)
quots_small p (q ∷ qs) sum k n s f h few =
    let v = quot_value p q in
    let m = product_small q.coef v s.0.coef f.0 in
    let a = abs_add sum (q.coef *ℤ v) in
    let next : unsigned_abs (sum +ℤ (q.coef *ℤ v)) ≤ 2 ^ 31 + (k + 1) * 2 ^ 94 = omega (arith, m, a, h) in
    let product : checked (q.coef *ℤ v) ≡ Some (q.coef *ℤ v) = checked_abs (q.coef *ℤ v) (omega (arith, m)) in
    let whole : checked (sum +ℤ (q.coef *ℤ v)) ≡ Some (sum +ℤ (q.coef *ℤ v)) = checked_abs (sum +ℤ (q.coef *ℤ v)) (omega (arith, next, few)) in
    let one : plus_quot p sum q ≡ Some (sum +ℤ (q.coef *ℤ v)) = ap (option_and_then (plus_times sum q.coef)) (quot_small p q n s.0) ∙ ap (option_and_then (λ x. checked (sum +ℤ x))) product ∙ whole in
    let rest = quots_small p qs (sum +ℤ (q.coef *ℤ v)) (k + 1) n s.1 f.1 next (omega (arith, few)) in
    (rest.0, ap (option_and_then (λ t. summed_quots p t qs)) one ∙ rest.1)

value_small : (p : Point) (e : IndexExpr) → Narrow p → IsSmallForm e → FitQuots p e.quots → (v : ℤ) × (checked_value p e ≡ Some v)
value_small p e n s f =
    let first = plain_small p e.konst e.params e.iters n s.constant s.params s.iters s.few_params s.few_iters in
    let second = quots_small p e.quots first.0 10 n s.quots f first.2 (let k = s.few_quots in omega (arith, k)) in
    (second.0, ap (option_and_then (λ s. summed_quots p s e.quots)) first.1 ∙ second.1)

exact_small : (p : Point) (e : IndexExpr) → Narrow p → IsSmallForm e → FitQuots p e.quots → checked_value p e ≡ Some (index_value p e)
exact_small p e n s f =
    let v = value_small p e n s f in
    v.1 ∙ ap Some (subst (λ o. IfSome o (λ v. v ≡ index_value p e)) v.1 (checked_exact p e))

never_quots : (side : Side) (p : Point) (qs : List Quot) (hs : List Event) → Narrow p → AllByRecursion IsSmallQuot qs → (FitQuots p qs → Never hs) → Never (flat_map (quotient side p) qs ++ hs)
never_quots side p [] hs n s h = h tt
never_quots side p (q ∷ qs) hs n s h =
    let rest = flat_map (quotient side p) qs ++ hs in
    subst (λ o. Never (evaluated side q.place o ∷ evaluated side q.place (checked_quot p q) ∷ rest)) (sym (argument_small p q n s.0))
    (never_value side q.place (quot_argument p q) (evaluated side q.place (checked_quot p q) ∷ rest)
    (λ t. subst (λ o. Never (evaluated side q.place o ∷ rest)) (sym (quot_small p q n s.0)) (never_value side q.place (quot_value p q) rest (λ f. never_quots side p qs hs n s.1 (λ g. h (f, g))))))

never_index : (side : Side) (p : Point) (e : IndexExpr) (hs : List Event) → Narrow p → IsSmallForm e → (fits_64 (index_value p e) ≡ true → Never hs) → Never (index side p e ++ hs)
never_index side p e hs n s h =
    subst Never (sym (append_assoc (flat_map (quotient side p) e.quots) (evaluated side e.place (checked_value p e) ∷ []) hs))
    (never_quots side p e.quots (evaluated side e.place (checked_value p e) ∷ hs) n s.quots
    (λ f. subst (λ o. Never (evaluated side e.place o ∷ hs)) (sym (exact_small p e n s f)) (never_value side e.place (index_value p e) hs h)))

never_indices : (side : Side) (p : Point) (es : List IndexExpr) → Narrow p → AreSmallForms es → Never (flat_map (index side p) es)
never_indices side p [] n s = never_nothing
never_indices side p (e ∷ es) n s = never_index side p e (flat_map (index side p) es) n s.0 (λ t. never_indices side p es n s.1)

never_divided : (side : Side) (place : Place) (r : Rel) (v : ℤ) (hs : List Event) → IsSmallRel r → Never hs → Never (divided side place r v ++ hs)
never_divided side place NonNegative v hs s h = h
never_divided side place Zero v hs s h = h
never_divided side place (Divides m) v hs s h = subst (λ o. Never (evaluated side place o ∷ hs)) (sym (rounded_some m v s.0)) (never_value side place (int_div_euclid v m) hs (λ t. h))

never_part : (side : Side) (p : Point) (c : Comparison) (hs : List Event) → Narrow p → IsSmallPart c → Never hs → Never (in_part side p c ++ hs)
never_part side p c hs n s h =
    let quotients = divided side c.form.place c.rel (index_value p c.form) in
    subst Never (sym (append_assoc (index side p c.form) quotients hs)) (never_index side p c.form (quotients ++ hs) n s.form (λ t. never_divided side c.form.place c.rel (index_value p c.form) hs s.rel h))

never_test : (side : Side) (p : Point) (cs : List Comparison) → Narrow p → AreSmallParts cs → Never (in_test side p cs)
never_test side p [] n s = never_nothing
never_test side p (c ∷ cs) n s =
    never_part side p c (if comparison_holds p c then in_test side p cs else []) n s.0 (never_either (comparison_holds p c) (in_test side p cs) [] (never_test side p cs n s.1) never_nothing)

mutual
  unfolding in_value IsSmallValue

  never_in_value : (side : Side) (p : Point) (v : Value) → Narrow p → IsSmallValue v → Never (in_value side p v)
  never_in_value side p (Number e) n s = never_event (index side p e) (subst Never (append-nil (index side p e)) (never_index side p e [] n s (λ t. never_nothing)))
  never_in_value side p (Access array subs place) n s = never_event (flat_map (index side p) subs) (never_indices side p subs n s)
  never_in_value side p (Call' symbol m args place) n s = never_event (in_values side p args) (never_in_values side p args n s)

  never_in_values : (side : Side) (p : Point) {m : _} (vs : Row_of-Value m) → Narrow p → AreSmallValues vs → Never (in_values side p vs)
  never_in_values side p end_of-Value n s = never_nothing
  never_in_values side p (more_of-Value v rest) n s = never_both (in_value side p v) (in_values side p rest) (never_in_value side p v n s.0) (never_in_values side p rest n s.1)

pub fit_more : (xs : List ℤ) (x : ℤ) → Fit xs → fits_64 x ≡ true → Fit (xs ++ x ∷ [])
fit_more [] x h k = (k, tt)
fit_more (y ∷ ys) x h k = (h.0, fit_more ys x h.1 k)

narrow_inside : (p : Point) (x : ℤ) → Narrow p → fits_64 x ≡ true → Narrow (inside p x)
narrow_inside p x n h = record { params = n.params; iters = fit_more p.iters x n.iters h }

-- the turns from one on, and the test that fails
never_turns : (side : Side) (body : Point → List Event) (p : Point) (start : IndexExpr) (cond : Cond) (step : ℤ) (place : Place) → Narrow p → AreSmallParts cond.parts → ((q : Point) → Narrow q → Never (body q))
    → (m k : ℕ) → fits_64 (iterator_at (index_value p start) step k) ≡ true
    → Never (flat_map (in_turn side body p start cond step place) (range_with_len k m) ++ in_test side (inside p (iterator_at (index_value p start) step (k + m))) cond.parts)
never_turns side body p start cond step place n s b zero k h =
    let t : fits_64 (iterator_at (index_value p start) step (k + 0)) ≡ true = subst (λ j. fits_64 (iterator_at (index_value p start) step j) ≡ true) (omega arith) h in
    never_test side (inside p (iterator_at (index_value p start) step (k + 0))) cond.parts (narrow_inside p (iterator_at (index_value p start) step (k + 0)) n t) s
never_turns side body p start cond step place n s b (suc m) k h =
    let at = inside p (iterator_at (index_value p start) step k) in
    let inner = narrow_inside p (iterator_at (index_value p start) step k) n h in
    let next = iterator_at (index_value p start) step (k + 1) in
    let later = flat_map (in_turn side body p start cond step place) (range_with_len (k + 1) m) ++ in_test side (inside p (iterator_at (index_value p start) step (k + suc m))) cond.parts in
    let rest : fits_64 next ≡ true → Never later = λ t.
    subst (λ j. Never (flat_map (in_turn side body p start cond step place) (range_with_len (k + 1) m) ++ in_test side (inside p (iterator_at (index_value p start) step j)) cond.parts)) (omega arith)
    (never_turns side body p start cond step place n s b m (k + 1) t) in
    let test = in_test side at cond.parts in
    let step_on = evaluated side place (Some next) in
    let whole : in_turn side body p start cond step place k ++ later ≡ test ++ ((event ∷ body at) ++ (step_on ∷ later)) = append_assoc (test ++ (event ∷ body at)) (step_on ∷ []) later ∙ append_assoc test (event ∷ body at) (step_on ∷ later) in
    subst Never (sym (append_assoc (in_turn side body p start cond step place k) (flat_map (in_turn side body p start cond step place) (range_with_len (k + 1) m)) (in_test side (inside p (iterator_at (index_value p start) step (k + suc m))) cond.parts) ∙ whole))
    (never_both test ((event ∷ body at) ++ (step_on ∷ later)) (never_test side at cond.parts inner s)
    (never_event (body at ++ (step_on ∷ later)) (never_both (body at) (step_on ∷ later) (b at inner) (never_value side place next later rest))))

never_loop : (side : Side) (body : Point → List Event) (p : Point) (start : IndexExpr) (cond : Cond) (step : ℤ) (place : Place) → Narrow p → IsSmallForm start → AreSmallParts cond.parts → ((q : Point) → Narrow q → Never (body q))
    → Never (in_loop side body p start cond step place)
unfolding in_loop
never_loop side body p start cond step place n f s b =
    never_index side p start (flat_map (in_turn side body p start cond step place) (range_with_len 0 (turns p start cond step)) ++ in_test side (inside p (iterator_at (index_value p start) step (turns p start cond step))) cond.parts) n f
    (λ t. subst (λ j. Never (flat_map (in_turn side body p start cond step place) (range_with_len 0 (turns p start cond step)) ++ in_test side (inside p (iterator_at (index_value p start) step j)) cond.parts)) (none_before (turns p start cond step))
    (never_turns side body p start cond step place n s b (turns p start cond step) 0 (subst (λ v. fits_64 v ≡ true) (at_start (index_value p start) step) t)))
  where
    at_start : (v step : ℤ) → v ≡ iterator_at v step 0
    at_start v step = omega (arith, ints, *ℤ-zero step)

    none_before : (m : ℕ) → 0 + m ≡ m
    none_before m = omega arith

mutual
  unfolding in_stmt IsSmallStmt

  never_in_stmt : (side : Side) (p : Point) (s : Stmt) → Narrow p → IsSmallStmt s → Never (in_stmt side p s)
  never_in_stmt side p (For' iter start cond step m body place) n s = never_loop side (λ q. in_body side q body) p start cond step place n s.0 s.1 (λ q k. never_in_body side q body k s.2)
  never_in_stmt side p (If' cond m taken k other place) n s =
      never_both (in_test side p cond.parts) (if holds p cond then in_body side p taken else in_body side p other) (never_test side p cond.parts n s.0)
      (never_either (holds p cond) (in_body side p taken) (in_body side p other) (never_in_body side p taken n s.1) (never_in_body side p other n s.2))
  never_in_stmt side p (Assign array subs value place) n s = never_both (in_value side p value) (flat_map (index side p) subs) (never_in_value side p value n s.1) (never_indices side p subs n s.0)

  never_in_body : (side : Side) (p : Point) {m : _} (ss : Row_of-Stmt m) → Narrow p → AreSmallStmts ss → Never (in_body side p ss)
  never_in_body side p end_of-Stmt n s = never_nothing
  never_in_body side p (more_of-Stmt t rest) n s = never_both (in_stmt side p t) (in_body side p rest) (never_in_stmt side p t n s.0) (never_in_body side p rest n s.1)

never_all : (side : Side) (p : Point) (ss : List Stmt) → Narrow p → AllByRecursion IsSmallStmt ss → Never (in_all side p ss)
never_all side p [] n s = never_nothing
never_all side p (t ∷ ts) n s = never_both (in_stmt side p t) (in_all side p ts) (never_in_stmt side p t n s.0) (never_all side p ts n s.1)

never_times : (xs : List Event) → Never xs → (m k : ℕ) → Never (flat_map (λ j. xs) (range_with_len k m))
never_times xs h zero k = never_nothing
never_times xs h (suc m) k = never_both xs (flat_map (λ j. xs) (range_with_len (k + 1) m)) h (never_times xs h m (k + 1))

-- elements are events alone
never_elements : (ns : List ℤ) → Never (in_elements ns)
never_elements [] = never_event [] never_nothing
never_elements (n ∷ ns) = never_times (in_elements ns) (never_elements ns) (natural n) 0

small_extents : (arrays : List Array) (o : ℕ) → AllByRecursion (λ (a : Array). AreSmallForms a.extents) arrays → AreSmallForms (extents_at arrays o)
small_extents [] o s = tt
small_extents (a ∷ rest) zero s = s.0
small_extents (a ∷ rest) (suc o) s = small_extents rest o s.1

never_outputs : (side : Side) (p : Point) (arrays : List Array) (os : List ℕ) → Narrow p → AllByRecursion (λ (a : Array). AreSmallForms a.extents) arrays → Never (in_outputs side p arrays os)
never_outputs side p arrays [] n s = never_nothing
never_outputs side p arrays (o ∷ os) n s =
    never_both (in_output side p (extents_at arrays o)) (in_outputs side p arrays os)
    (never_both (flat_map (index side p) (extents_at arrays o)) (in_elements (map (index_value p) (extents_at arrays o))) (never_indices side p (extents_at arrays o) n (small_extents arrays o s)) (never_elements (map (index_value p) (extents_at arrays o))))
    (never_outputs side p arrays os n s)

context_more : (b : Bool) (one : Option Bool) (rest : Option Bool) → one ≡ Some b → ((d : Bool) × (rest ≡ Some d)) → (d : Bool) × (option_and_then (λ b. if b then rest else Some false) one ≡ Some d)
context_more true one rest h k = (k.0, ap (option_and_then (λ b. if b then rest else Some false)) h ∙ k.1)
context_more false one rest h k = (false, ap (option_and_then (λ b. if b then rest else Some false)) h)

-- a context has no quotient
context_small : (p : Point) (ps xs : ℕ) (cs : List Comparison) → Narrow p → AreSmallParts cs → FitParts ps xs cs → (b : Bool) × (checked_holds p cs ≡ Some b)
context_small p ps xs [] n s f = (true, refl)
context_small p ps xs (c ∷ cs) n s f =
    let h : checked_comparison p c ≡ Some (rel_holds c.rel (index_value p c.form)) = ap (option_map (rel_holds c.rel)) (exact_small p c.form n s.0.form (subst (FitQuots p) (sym f.0.form.plain) tt)) in
    context_more (rel_holds c.rel (index_value p c.form)) (checked_comparison p c) (checked_holds p cs) h (context_small p ps xs cs n s.1 f.1)

module _ (pair : Pair) (params : List ℤ) (fit : Fit params) (small : IsSmallPair pair) where
  narrow : Narrow (point params [])
  narrow = record { params = fit; iters = tt }

  pub never_ran : (limit : ℕ) → ¬ (reached limit 0 (everything pair params) ≡ Err Wide)
  never_ran limit =
      let p = point params [] in
      let left = in_all Left p pair.left.body in
      let right = in_all Right p pair.right.body in
      never_both (left ++ right) (in_outputs Left p pair.left.arrays pair.outputs)
      (never_both left right (never_all Left p pair.left.body narrow small.left.body) (never_all Right p pair.right.body narrow small.right.body))
      (never_outputs Left p pair.left.arrays pair.outputs narrow small.left.extents) limit 0

  pub decided : FitParts (length params) 0 pair.context.parts → ¬ (checked_holds (point params []) pair.context.parts ≡ None)
  decided plain e = let c = context_small (point params []) (length params) 0 pair.context.parts narrow small.context plain in let t : Some c.0 ≡ None = sym c.1 ∙ e in absurd cc

  pub not_wide : (limit : ℕ) (r : Result Ran Halt) → IsRan pair params limit r → ¬ (IsErrOf r Wide)
  not_wide limit r h e = never_ran limit (subst (IsRan pair params limit) e h)
