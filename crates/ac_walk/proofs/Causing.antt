-- Why outputs are unknown where the search does not begin.
use Rattle.std.proofs.Common.{◌≡◌, ◌⊎◌, inl, inr, ℕ, ℤ, List, length, Option, sym, ap, subst, ◌∙◌}
use Rattle.ac_forms.specs.Rows.{CanTest, Meets}
use Rattle.ac_forms.specs.declared.conj.Conj.{Conj}
use Rattle.ac_omega_certify.specs.declared.strategy.Strategy.TheVariants.{Full}
use Rattle.ac_omega.specs.Decisions.{walk_of, EndsAt, IsLarge, IsSpent, IsWide}
use Rattle.ac_syntax.specs.declared.tree.Pair.{Pair}
use Rattle.ac_poly.specs.declared.types.Model.{Model}
use Rattle.ac_flow.specs.Contexts.{ContextStops}
use Rattle.ac_flow.specs.Flows.{CasesAreSources}
use Rattle.ac_flow.specs.Readers.{AreFlows, StopsAmong, readers}
use Rattle.ac_flow.specs.Writings.{over}
use Rattle.ac_flow.specs.declared.types.ContextStop.{ContextStop}
use Rattle.ac_flow.specs.declared.types.ContextStop.TheVariants as context
use Rattle.ac_flow.specs.declared.types.Flow.{Flow}
use Rattle.ac_flow.specs.declared.types.FlowStop.{FlowStop}
use Rattle.ac_flow.specs.declared.types.FlowStop.TheVariants as flow
use Rattle.ac_report.specs.declared.types.Cause.{Cause}
use Rattle.ac_report.specs.declared.types.Verdict.{Verdict}
use Rattle.ac_walk.specs.UnknownCauses.{AreUnknown, HasFlow, HasValuation, IsAnswered, context_stopped, left_stopped, right_stopped, cause_of, context_cause_of, left_model, right_model}

-- the same stop of a question, of the context or of a flow, has the same cause
pub same_overflow : (stop : ContextStop) (as_flow : FlowStop) (q : Conj) → stop ≡ context.Overflow q → as_flow ≡ flow.Overflow q → cause_of as_flow ≡ context_cause_of stop
same_overflow stop as_flow q a b = ap cause_of b ∙ sym (ap context_cause_of a)

pub same_spent : (stop : ContextStop) (as_flow : FlowStop) (q : Conj) (cost : ℕ) → stop ≡ context.Spent q cost → as_flow ≡ flow.Spent q cost → cause_of as_flow ≡ context_cause_of stop
same_spent stop as_flow q cost a b = ap cause_of b ∙ sym (ap context_cause_of a)

pub of_context : (budget : ℕ) (pair : Pair) (m : Model) (stop : ContextStop) (as_flow : FlowStop) (vs : List Verdict) → m ≡ left_model pair → ContextStops budget m stop → cause_of as_flow ≡ context_cause_of stop → AreUnknown (cause_of as_flow) vs → IsAnswered budget pair vs
of_context budget pair m stop as_flow vs is stops same h =
    context_stopped stop (subst (λ (n : Model). ContextStops budget n stop) is stops) (subst (λ (why : Option Cause). AreUnknown why vs) same h)

pub of_left : (budget : ℕ) (pair : Pair) (m : Model) (stop : FlowStop) (vs : List Verdict) → m ≡ left_model pair → HasValuation budget (left_model pair) → StopsAmong budget m (readers m) stop → AreUnknown (cause_of stop) vs → IsAnswered budget pair vs
of_left budget pair m stop vs is valuation stops h = left_stopped stop valuation (subst (λ (n : Model). StopsAmong budget n (readers n) stop) is stops) h

pub has_valuation : (budget : ℕ) (m n : Model) (p : List ℤ) → m ≡ n → EndsAt p (over m.params m.context) (walk_of Full budget (over m.params m.context)) → length p ≡ m.params → Meets m.context p → HasValuation budget n
has_valuation budget m n p is found each meets = subst (HasValuation budget) is (record { point = p; found = found; each = each; meets = meets })

-- a question with a point is neither too wide nor too costly
apart_from : (budget : ℕ) (q : Conj) (p : List ℤ) → EndsAt p q (walk_of Full budget q) → IsWide q (walk_of Full budget q) ⊎ IsLarge (walk_of Full budget q) → ⊥
apart_from budget q p (f, t) (inl (inl e)) = absurd cc
apart_from budget q p (f, t) (inl (inr (r, e, n))) = let same : p ≡ r = cc in n (subst (CanTest q.rows) same t)
apart_from budget q p (f, t) (inr (k, s, e, l)) = absurd cc

unspent : (budget : ℕ) (q : Conj) (p : List ℤ) (cost : ℕ) → EndsAt p q (walk_of Full budget q) → IsSpent cost (walk_of Full budget q) → ⊥
unspent budget q p cost (f, t) (j, e, l) = absurd cc

-- so there is no valuation where the question of the context stops
stops_in : (budget : ℕ) (m n : Model) (stop same : ContextStop) → m ≡ n → stop ≡ same → ContextStops budget m stop → ContextStops budget n same
stops_in budget m n stop same is e h = subst (ContextStops budget n) e (subst (λ (k : Model). ContextStops budget k stop) is h)

pub none_too_wide : (budget : ℕ) (m n : Model) (stop : ContextStop) (q : Conj) → m ≡ n → stop ≡ context.Overflow q → ContextStops budget m stop → ¬ (HasValuation budget n)
none_too_wide budget m n stop q is e h v =
    let there = stops_in budget m n stop (context.Overflow q) is e h in
    let c = over n.params n.context in
    apart_from budget c v.point v.found (subst (λ (x : Conj). IsWide x (walk_of Full budget x) ⊎ IsLarge (walk_of Full budget x)) there.0 there.1)

pub none_too_costly : (budget : ℕ) (m n : Model) (stop : ContextStop) (q : Conj) (cost : ℕ) → m ≡ n → stop ≡ context.Spent q cost → ContextStops budget m stop → ¬ (HasValuation budget n)
none_too_costly budget m n stop q cost is e h v =
    let there = stops_in budget m n stop (context.Spent q cost) is e h in
    let c = over n.params n.context in
    unspent budget c v.point cost v.found (subst (λ (x : Conj). IsSpent cost (walk_of Full budget x)) there.0 there.1)

pub has_flow : (m n : Model) (f : Flow) → m ≡ n → AreFlows m (readers m) f.reads → CasesAreSources m f → HasFlow n
has_flow m n f is cases sources = subst HasFlow is (record { flow = f; cases = cases; sources = sources })

pub of_right : (budget : ℕ) (pair : Pair) (m : Model) (stop : FlowStop) (vs : List Verdict) → m ≡ right_model pair → HasValuation budget (left_model pair) → HasFlow (left_model pair) → StopsAmong budget m (readers m) stop → AreUnknown (cause_of stop) vs → IsAnswered budget pair vs
of_right budget pair m stop vs is valuation left stops h = right_stopped stop valuation left (subst (λ (n : Model). StopsAmong budget n (readers n) stop) is stops) h
