-- Elements that differ at a valuation.
use Rattle.std.proofs.Common.{◌≡◌, ℕ, zero, suc, ℤ, List, [], ◌∷◌, length, Bool, true, false, ◌&&◌, if◌then◌else◌, Option, None, Some, IfOk, IfSome, Result, Ok, Err, refl, sym, ap, subst, ◌∙◌}
use Rattle.std.specs.Prelude.{MatchOption, option_and_then, option_map, slice_get}
use Rattle.std.specs.List.{list_all}
use Rattle.std.specs.declared.alloc.AllocError.{AllocError}
use Rattle.ac_syntax.specs.CheckedArithmetic.{checked_value, checked_holds}
use Rattle.ac_syntax.specs.Index.{Point, point, index_value, rel_holds, comparison_holds}
use Rattle.ac_syntax.specs.ReadyPrograms.{ReadyAll, FitParts}
use Rattle.ac_syntax.specs.declared.tree.Comparison.{Comparison}
use Rattle.ac_syntax.specs.declared.tree.Pair.{Pair}
use Rattle.ac_syntax.proofs.Exact.{checked_exact}
use Rattle.ac_claims.specs.Soundness.{ArePaired}
use Rattle.ac_instance.specs.ComparisonAnswers.{IsReadyAt, IsAnswer, IsOutcome, everything, in_context, due, AreOutcomes, compared}
use Rattle.ac_instance.specs.Events.{reached}
use Rattle.ac_instance.specs.Least.{Looked, IsLeast}
use Rattle.ac_instance.specs.MachineSteps.{IsDue}
use Rattle.ac_instance.specs.declared.halt.Halt.{Halt}
use Rattle.ac_instance.specs.declared.halt.Outcome.{Outcome}
use Rattle.ac_instance.specs.declared.halt.Outcome.TheVariants.{Equal, Different}
use Rattle.ac_instance.specs.declared.halt.Ran.{Ran}
use Rattle.ac_walk.specs.OutputDecisions.{AreDifferent}
use Rattle.ac_walk.specs.TriedValuations.{NumberShowsNone}

-- a valuation with a number for each parameter is one at which both programs may run
pub ready_at : (pair : Pair) (params : List ℤ) → ArePaired pair → length params ≡ length pair.left.params → IsReadyAt pair params
ready_at pair params t count = record {
  count = count;
  left = subst (λ n. ReadyAll n 0 pair.left.body) (sym count) t.left.body;
  right = subst (λ n. ReadyAll n 0 pair.right.body) (t.params ∙ sym count) t.right.body;
  context = subst (λ n. FitParts n 0 pair.context.parts) (sym count) t.context;
}

-- a context whose checked values make it hold does hold
exact_holds : (p : Point) (cs : List Comparison) → checked_holds p cs ≡ Some true → list_all (comparison_holds p) cs ≡ true
exact_holds p [] e = refl
exact_holds p (c ∷ cs) e = by (checked_value p c.form) (checked_exact p c.form) (exact_holds p cs) e
  where
    rest : (b : Bool) → b ≡ comparison_holds p c → (checked_holds p cs ≡ Some true → list_all (comparison_holds p) cs ≡ true) → (if b then checked_holds p cs else Some false) ≡ Some true
        → (comparison_holds p c && list_all (comparison_holds p) cs) ≡ true
    rest true h k d = rw (sym h, k d) refl
    rest false h k d = absurd cc

    by : (o : Option ℤ) → IfSome o (λ v. v ≡ index_value p c.form) → (checked_holds p cs ≡ Some true → list_all (comparison_holds p) cs ≡ true)
        → option_and_then (λ b. if b then checked_holds p cs else Some false) (option_map (rel_holds c.rel) o) ≡ Some true
        → (comparison_holds p c && list_all (comparison_holds p) cs) ≡ true
    by None h k d = absurd cc
    by (Some v) h k d = rest (rel_holds c.rel v) (ap (rel_holds c.rel) h) k d

within_context : (pair : Pair) (params : List ℤ) (limit events : ℕ) → due pair params limit ≡ Ok events → checked_holds (point params []) pair.context.parts ≡ Some true
within_context pair params limit events e = by (checked_holds (point params []) pair.context.parts) e
  where
    by : (o : Option Bool) → in_context o (reached limit 0 (everything pair params)) ≡ Ok events → o ≡ Some true
    by None d = absurd cc
    by (Some false) d = absurd cc
    by (Some true) d = refl

-- the outcome with a number is that of the output with this number
outcome_at : (looked : ℕ → Looked) (os : List ℕ) (rs : List Outcome) (n o : ℕ) (e : List ℤ) → AreOutcomes looked os rs → slice_get os n ≡ Some o → slice_get rs n ≡ Some (Different e) → IsLeast (looked o) (Some e)
outcome_at looked [] rs n o e h a b = absurd cc
outcome_at looked (p ∷ os) [] n o e h a b = absurd h
outcome_at looked (p ∷ os) (r ∷ rs) zero o e h a b =
    let is : p ≡ o = cc in
    let found : r ≡ Different e = cc in
    subst (λ q. IsLeast (looked q) (Some e)) is (subst (IsOutcome (looked p)) found h.0)
outcome_at looked (p ∷ os) (r ∷ rs) (suc n) o e h a b = outcome_at looked os rs n o e h.1 a b

-- the element that a run names is the least one that differs
pub differs : (pair : Pair) (params : List ℤ) (limit number : ℕ) (ran : Ran) (e : List ℤ) → length params ≡ length pair.left.params → IsAnswer pair params limit (Ok ran) → slice_get ran.outcomes number ≡ Some (Different e) → AreDifferent pair number params e
differs pair params limit number ran e count h at = λ output is.
    (record { each = count; context = exact_holds (point params []) pair.context.parts (within_context pair params limit ran.events h.0) }, outcome_at (compared pair params) pair.outputs ran.outcomes number output e h.1 is at)

-- an outcome that names no element is that all terms agree
equal_at : (looked : ℕ → Looked) (os : List ℕ) (rs : List Outcome) (n o : ℕ) → AreOutcomes looked os rs → slice_get os n ≡ Some o → ((e : List ℤ) → ¬ (slice_get rs n ≡ Some (Different e))) → IsLeast (looked o) None
equal_at looked [] rs n o h a none = absurd cc
equal_at looked (p ∷ os) [] n o h a none = absurd h
equal_at looked (p ∷ os) (Equal ∷ rs) zero o h a none = let is : p ≡ o = cc in subst (λ q. IsLeast (looked q) None) is h.0
equal_at looked (p ∷ os) (Different e ∷ rs) zero o h a none = absurd (none e refl)
equal_at looked (p ∷ os) (r ∷ rs) (suc n) o h a none = equal_at looked os rs n o h.1 a none

-- no number of events is due where a run halts
abbrev pub HaltsAll : Halt → Type 0
HaltsAll halt = (d : Result ℕ Halt) (events : ℕ) → IsDue d halt → ¬ (d ≡ Ok events)

-- what the runs at a valuation tell of the output with a number
abbrev pub Tells : Pair → ℕ → List ℤ → Option (List ℤ) → Type 0
Tells pair number params found = MatchOption found (NumberShowsNone pair number params) (AreDifferent pair number params)

pub outcomes_tell : (pair : Pair) (params : List ℤ) (number : ℕ) (ran : Ran) (outcomes : List Outcome) (r : Result (Option (List ℤ)) AllocError) → outcomes ≡ ran.outcomes → ArePaired pair → length params ≡ length pair.left.params → (IsReadyAt pair params → IsAnswer pair params 1000000 (Ok ran))
    → IfOk r (λ found. MatchOption found ((e : List ℤ) → ¬ (slice_get outcomes number ≡ Some (Different e))) (λ e. slice_get outcomes number ≡ Some (Different e))) → IfOk r (Tells pair number params)
outcomes_tell pair params number ran outcomes (Err want) same t count answer h = tt
outcomes_tell pair params number ran outcomes (Ok None) same t count answer h = λ output is v events d.
    equal_at (compared pair params) pair.outputs ran.outcomes number output (answer (ready_at pair params t count)).1 is (subst (λ (os : List Outcome). (e : List ℤ) → ¬ (slice_get os number ≡ Some (Different e))) same h)
outcomes_tell pair params number ran outcomes (Ok (Some e)) same t count answer h =
    differs pair params 1000000 number ran e count (answer (ready_at pair params t count)) (subst (λ (os : List Outcome). slice_get os number ≡ Some (Different e)) same h)

pub halts_tell : (pair : Pair) (params : List ℤ) (number : ℕ) (halt : Halt) (r : Result (Option (List ℤ)) AllocError) → ArePaired pair → length params ≡ length pair.left.params → (IsReadyAt pair params → IsAnswer pair params 1000000 (Err halt))
    → IfOk r (λ found. found ≡ None) → IfOk r (λ found. HaltsAll halt) → IfOk r (Tells pair number params)
halts_tell pair params number halt (Err want) t count answer none halts = tt
halts_tell pair params number halt (Ok None) t count answer none halts = λ output is v events d. absurd (halts (due pair params 1000000) events (answer (ready_at pair params t count)) d)
halts_tell pair params number halt (Ok (Some e)) t count answer none halts = absurd cc

-- no valuation has another number of numbers
pub others_tell : (pair : Pair) (params : List ℤ) (number : ℕ) → ¬ (length params ≡ length pair.left.params) → NumberShowsNone pair number params
others_tell pair params number other = λ output is v. absurd (other v.each)

-- a halt is no number of events
pub halts_all : (halt h : Halt) → halt ≡ h → ((d : Result ℕ Halt) → IsDue d h → d ≡ Err h) → HaltsAll halt
halts_all halt h is only d events k e = let halted : d ≡ Err h = only d (subst (IsDue d) is k) in absurd cc
