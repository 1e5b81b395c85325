-- Runs at a valuation: their lines, the halts that are due, and what is known where all outcomes are equal.
use Rattle.std.proofs.Common.{◌≡◌, ℕ, zero, suc, ◌+◌, ◌<◌, ℤ, List, [], ◌∷◌, ◌++◌, length, take, min, Contains, slice_index_or, Bool, true, false, ◌&&◌, if◌then◌else◌, nat_lt, Option, None, Some, IfSome, MatchOption, Vec, Ok, Err, refl, sym, ap, subst, ◌∙◌, arith}
use Rattle.std.specs.Prelude.{option_and_then, option_map}
use Rattle.std.specs.Global.{Global}
use Rattle.std.specs.List.{list_all, list_any}
use Rattle.std.proofs.lemmas.List.{append_assoc, append-nil, take_more, length-take, length-map}
use Rattle.ac_syntax.specs.CheckedArithmetic.{checked_value, checked_holds}
use Rattle.ac_syntax.specs.Index.{Point, point, index_value, rel_holds, comparison_holds}
use Rattle.ac_syntax.specs.Outputs.{input_at, swaps_of}
use Rattle.ac_syntax.specs.Where.{element}
use Rattle.ac_syntax.specs.declared.tree.Array.{Array}
use Rattle.ac_syntax.specs.declared.tree.Comparison.{Comparison}
use Rattle.ac_syntax.specs.declared.tree.Pair.{Pair}
use Rattle.ac_syntax.proofs.Agreeing.{same_from_terms}
use Rattle.ac_syntax.proofs.Exact.{checked_exact}
use Rattle.ac_instance.specs.ComparisonAnswers.{IsReadyAt, everything, in_context, due, AreOutcomes, compared}
use Rattle.ac_instance.specs.Events.{Event, event, evaluated, fits_64, unless, reached}
use Rattle.ac_instance.specs.Least.{Looked}
use Rattle.ac_instance.specs.MachineSteps.{IsDue}
use Rattle.ac_instance.specs.declared.halt.Halt.{Halt}
use Rattle.ac_instance.specs.declared.halt.Halt.TheVariants.{OutsideContext, TooLarge, Range, Wide, Memory}
use Rattle.ac_instance.specs.declared.halt.Outcome.{Outcome}
use Rattle.ac_instance.specs.declared.halt.Outcome.TheVariants.{Equal, Different}
use Rattle.ac_cli_args.specs.Valuations.{IsValuationWord, given_to}
use Rattle.ac_top.specs.Reports.{Report, report as a_report}
use Rattle.ac_top.specs.InstanceReports.{IsGiven, is_different, status_of, RunReports, outside, too_large, range, ran, InstanceReports, not_a_valuation, at_valuation, IsTheSameAt, EqualIsSame, IsReadyPair, HaltReports}
use Rattle.ac_top.specs.ConsoleLines.{name_at, outcome_line, outcome_lines, too_large_line}
use Rattle.ac_top.specs.declared.status.Status.TheVariants as status

-- lines of outcomes, one after another
one_line : (arrays : List Array) (os : List ℕ) (rs : List Outcome) (o : ℕ) (r : Outcome) → length os ≡ length rs
    → outcome_lines arrays (os ++ o ∷ []) (rs ++ r ∷ []) ≡ outcome_lines arrays os rs ++ outcome_line (name_at arrays o) r
one_line arrays [] [] o r h = append-nil (outcome_line (name_at arrays o) r)
one_line arrays [] (q ∷ qs) o r h = absurd (omega (arith, h))
one_line arrays (p ∷ ps) [] o r h = absurd (omega (arith, h))
one_line arrays (p ∷ ps) (q ∷ qs) o r h =
    ap (λ l. outcome_line (name_at arrays p) q ++ l) (one_line arrays ps qs o r (omega (arith, h)))
    ∙ sym (append_assoc (outcome_line (name_at arrays p) q) (outcome_lines arrays ps qs) (outcome_line (name_at arrays o) r))

pub one_further_outcome : (arrays : List Array) (os : List ℕ) (rs : List Outcome) (i : ℕ) (r : Outcome) → i < length os → i < length rs → length os ≡ length rs → r ≡ slice_index_or rs i r
    → outcome_lines arrays (take (i + 1) os) (take (i + 1) rs) ≡ outcome_lines arrays (take i os) (take i rs) ++ outcome_line (name_at arrays (slice_index_or os i 0)) r
one_further_outcome arrays os rs i r within beside same is =
    let o = slice_index_or os i 0 in
    let more : take (i + 1) os ≡ take i os ++ o ∷ [] = take_more os i 0 within in
    let longer : take (i + 1) rs ≡ take i rs ++ r ∷ [] = take_more rs i r beside ∙ ap (λ y. take i rs ++ y ∷ []) (sym is) in
    let lengths : length (take i os) ≡ length (take i rs) = length-take i os ∙ ap (min i) same ∙ sym (length-take i rs) in
    (λ j. outcome_lines arrays (more j) (longer j)) ∙ one_line arrays (take i os) (take i rs) o r lengths

-- there is one outcome for each output
pub as_many_outcomes : (looked : ℕ → Looked) (os : List ℕ) (rs : List Outcome) → AreOutcomes looked os rs → length os ≡ length rs
as_many_outcomes looked [] [] h = refl
as_many_outcomes looked [] (r ∷ rs) h = absurd h
as_many_outcomes looked (o ∷ os) [] h = absurd h
as_many_outcomes looked (o ∷ os) (r ∷ rs) h = ap suc (as_many_outcomes looked os rs h.1)

-- a run that is too large exceeds its own limit
limit_reached : (limit n : ℕ) (hs : List Event) (m : ℕ) → reached limit n hs ≡ Err (TooLarge m) → m ≡ limit
limit_reached limit n [] m e = absurd cc
limit_reached limit n (event ∷ hs) m e = by (nat_lt n limit) (limit_reached limit (n + 1) hs m) e
  where
    by : (b : Bool) → (reached limit (n + 1) hs ≡ Err (TooLarge m) → m ≡ limit) → (if b then reached limit (n + 1) hs else Err (TooLarge limit)) ≡ Err (TooLarge m) → m ≡ limit
    by true k d = k d
    by false k d = cc
limit_reached limit n (evaluated side place None ∷ hs) m e = absurd cc
limit_reached limit n (evaluated side place (Some v) ∷ hs) m e = by (fits_64 v) (limit_reached limit n hs m) e
  where
    by : (b : Bool) → (reached limit n hs ≡ Err (TooLarge m) → m ≡ limit) → unless (if b then None else Some (Range side place v)) (reached limit n hs) ≡ Err (TooLarge m) → m ≡ limit
    by true k d = k d
    by false k d = absurd cc

limit_due : (pair : Pair) (params : List ℤ) (limit m : ℕ) → due pair params limit ≡ Err (TooLarge m) → m ≡ limit
limit_due pair params limit m e = by (checked_holds (point params []) pair.context.parts) e
  where
    by : (o : Option Bool) → in_context o (reached limit 0 (everything pair params)) ≡ Err (TooLarge m) → m ≡ limit
    by None d = absurd cc
    by (Some false) d = absurd cc
    by (Some true) d = limit_reached limit 0 (everything pair params) m d

-- the report of the halt that is due
pub of_halt : (a b first second : List ℕ) (pair : Pair) (params : List ℤ) (limit : ℕ) (h : Halt) (r : Report)
    → IsDue (due pair params limit) h → HaltReports a b first second h r → RunReports a b first second pair params limit r
of_halt a b first second pair params limit OutsideContext r d is = subst (RunReports a b first second pair params limit) (sym is) (outside d)
of_halt a b first second pair params limit (TooLarge n) r d is =
    let e : n ≡ limit = limit_due pair params limit n d in
    subst (RunReports a b first second pair params limit) (sym (is ∙ ap (λ m. a_report status.Halted (too_large_line m)) e)) (too_large (d ∙ ap (λ m. Err (TooLarge m)) e))
of_halt a b first second pair params limit (Range side place value) r d is = subst (RunReports a b first second pair params limit) (sym is) (range side place value d)
of_halt a b first second pair params limit Wide r d is = absurd is
of_halt a b first second pair params limit (Memory e) r d is = absurd is

-- a valuation word gives as many values as there are parameters
pub as_many_values : (names : List (List ℕ)) (word : List ℕ) (params : List ℤ) → IsValuationWord names word params → length params ≡ length names
as_many_values names word params h =
    sym (length-map params (λ v. v ∷ [])) ∙ sym (ap length h.gives.each) ∙ length-map names (λ name. given_to name h.given)

-- the values that a word gives, or that it is no valuation
abbrev pub IsFound : Pair → Option (List ℕ) → Option (Vec ℤ Global) → Type 0
IsFound pair at found = MatchOption found ((params : List ℤ) → ¬ (IsGiven pair at params)) (λ values. IsGiven pair at values.items)

pub ready_at : (pair : Pair) (params : List ℤ) → IsReadyPair pair → length params ≡ length pair.left.params → IsReadyAt pair params
ready_at pair params h count = record {
  count = count;
  left = rw count h.left.body;
  right = rw (count, h.params) h.right.body;
  context = rw count h.context;
}

-- a context whose checked values make it hold does hold
exact_holds : (p : Point) (cs : List Comparison) → checked_holds p cs ≡ Some true → list_all (comparison_holds p) cs ≡ true
exact_holds p [] e = refl
exact_holds p (c ∷ cs) e = by (checked_value p c.form) (checked_exact p c.form) (exact_holds p cs) e
  where
    rest : (b : Bool) → b ≡ comparison_holds p c → (checked_holds p cs ≡ Some true → list_all (comparison_holds p) cs ≡ true) → (if b then checked_holds p cs else Some false) ≡ Some true
        → (comparison_holds p c && list_all (comparison_holds p) cs) ≡ true
    rest true h k d = rw (sym h, k d) refl
    rest false h k d = absurd cc

    by : (o : Option ℤ) → IfSome o (λ v. v ≡ index_value p c.form) → (checked_holds p cs ≡ Some true → list_all (comparison_holds p) cs ≡ true)
        → option_and_then (λ b. if b then checked_holds p cs else Some false) (option_map (rel_holds c.rel) o) ≡ Some true
        → (comparison_holds p c && list_all (comparison_holds p) cs) ≡ true
    by None h k d = absurd cc
    by (Some v) h k d = rest (rel_holds c.rel v) (ap (rel_holds c.rel) h) k d

within_context : (pair : Pair) (params : List ℤ) (limit events : ℕ) → due pair params limit ≡ Ok events → checked_holds (point params []) pair.context.parts ≡ Some true
within_context pair params limit events e = by (checked_holds (point params []) pair.context.parts) e
  where
    by : (o : Option Bool) → in_context o (reached limit 0 (everything pair params)) ≡ Ok events → o ≡ Some true
    by None d = absurd cc
    by (Some false) d = absurd cc
    by (Some true) d = refl

none_different : (rs : List Outcome) → status_of rs ≡ status.Done → list_any is_different rs ≡ false
none_different rs h = by (list_any is_different rs) h
  where
    by : (b : Bool) → (if b then status.Different else status.Done) ≡ status.Done → b ≡ false
    by true k = absurd cc
    by false k = refl

all_agree : (looked : ℕ → Looked) (os : List ℕ) (rs : List Outcome) → AreOutcomes looked os rs → list_any is_different rs ≡ false → (o : ℕ) → Contains os o → (e : List ℤ) → (looked o).At e → (looked o).Agrees e
all_agree looked [] rs h none o (k, within, is) = absurd (omega (arith, within))
all_agree looked (p ∷ os) [] h none o at = absurd h
all_agree looked (p ∷ os) (Different e ∷ rs) h none o at = absurd cc
all_agree looked (p ∷ os) (Equal ∷ rs) h none o (zero, within, is) = subst (λ q. (e : List ℤ) → (looked q).At e → (looked q).Agrees e) is h.0
all_agree looked (p ∷ os) (Equal ∷ rs) h none o (suc k, within, is) = all_agree looked os rs h.1 none o (k, omega (arith, within), is)

-- an output whose outcome is equal is the same at the valuation
pub equal_is_same : (pair : Pair) (params : List ℤ) (os : List ℕ) (rs : List Outcome) → AreOutcomes (compared pair params) os rs → EqualIsSame pair params os rs
equal_is_same pair params [] rs h = tt
equal_is_same pair params (o ∷ os) [] h = tt
equal_is_same pair params (o ∷ os) (Equal ∷ rs) h =
    (λ e k. same_from_terms (input_at pair.left.arrays) (swaps_of pair.commutative) pair.left.body pair.right.body params (element o e) (h.0 e k), equal_is_same pair params os rs h.1)
equal_is_same pair params (o ∷ os) (Different d ∷ rs) h = equal_is_same pair params os rs h.1

-- where the outcomes of a run are all equal, each output is the same at its valuation
done_run : (a b first second : List ℕ) (pair : Pair) (at : Option (List ℕ)) (params : List ℤ) (limit : ℕ) (r : Report) → IsGiven pair at params → RunReports a b first second pair params limit r → r.status ≡ status.Done → IsTheSameAt pair at
done_run a b first second pair at params limit r given (outside d) done = absurd cc
done_run a b first second pair at params limit r given (too_large d) done = absurd cc
done_run a b first second pair at params limit r given (range side place value d) done = absurd cc
done_run a b first second pair at params limit r given (ran events rs d all same) done =
    let terms = all_agree (compared pair params) pair.outputs rs all (none_different rs done) in
    record {
      params = params;
      given = given;
      valuation = record { each = as_many_values pair.left.params _ params given; context = exact_holds (point params []) pair.context.parts (within_context pair params limit events d) };
      terms = terms;
      same = λ o k e h. same_from_terms (input_at pair.left.arrays) (swaps_of pair.commutative) pair.left.body pair.right.body params (element o e) (terms o k e h);
    }

pub done_instance : (a b first second : List ℕ) (pair : Pair) (at : Option (List ℕ)) (limit : ℕ) (r : Report) → InstanceReports a b first second pair at limit r → r.status ≡ status.Done → IsTheSameAt pair at
done_instance a b first second pair at limit r (not_a_valuation h) done = absurd cc
done_instance a b first second pair at limit r (at_valuation params s given h) done = done_run a b first second pair at params limit s given h done
