use Rattle.std.proofs.Common.{◌≡◌, ℤ, List, subst}
use Rattle.ac_poly.specs.declared.types.Model.{Model}
use Rattle.ac_flow.specs.Contexts.{ContextStops}
use Rattle.ac_flow.specs.declared.types.ContextStop.{ContextStop}
use Rattle.ac_flow.specs.declared.types.ContextStop.TheVariants.{EmptyContext}
use Rattle.ac_flow.specs.declared.types.ContextStop.TheVariants as context
use Rattle.ac_walk.specs.UnknownCauses.{IsContextPoint, cause_of, context_cause_of, left_model}
use Rattle.ac_walk.proofs.Causing.{none_too_costly, none_too_wide, of_context, same_overflow, same_spent}
use Rattle.ac_walk.proofs.Contexts.{no_valuation}
use Rattle.ac_walk.proofs.Samples.{overflow_gives_none, samples_without, spent_gives_none}
use Rattle.ac_walk.proofs.proving.without_point.Goals.{in-Overflow, in-Spent}
use Rattle.ac_walk.proofs.proving.without_point.Goals as goal

pub returns-in-EmptyContext-clause-stops : goal.returns-in-EmptyContext-clause-stops
returns-in-EmptyContext-clause-stops c =
    let stops : ContextStops c.args.budget c.args.left.now EmptyContext = subst (λ (e : ContextStop). ContextStops c.args.budget c.args.left.now e) c.in-EmptyContext.is c.requires.stop in
    no_valuation c.args.budget c.args.pair.now c.requires.pair (subst (λ (m : Model). ContextStops c.args.budget m EmptyContext) c.requires.left stops)

pub returns-in-EmptyContext-clause-empty : goal.returns-in-EmptyContext-clause-empty
returns-in-EmptyContext-clause-empty c =
    let stops : ContextStops c.args.budget c.args.left.now EmptyContext = subst (λ (e : ContextStop). ContextStops c.args.budget c.args.left.now e) c.in-EmptyContext.is c.requires.stop in
    subst (λ (m : Model). ContextStops c.args.budget m EmptyContext) c.requires.left stops

pub returns-clause-causes : goal.returns-clause-causes
returns-clause-causes c =
    let same : cause_of c.match-stop.stop ≡ context_cause_of c.args.stop =
    elim c.match-stop.branch [ in-Overflow w ↦ same_overflow c.args.stop c.match-stop.stop w.in-Overflow.question w.in-Overflow.is w.stop-is | in-Spent w ↦ same_spent c.args.stop c.match-stop.stop w.in-Spent.question w.in-Spent.cost w.in-Spent.is w.stop-is ] in
    of_context c.args.budget c.args.pair.now c.args.left.now c.args.stop c.match-stop.stop _ c.requires.left c.requires.stop same c.in_ok-unknown_all.ensures.causes

pub returns-clause-valuation : goal.returns-clause-valuation
returns-clause-valuation c =
    let m = c.args.left.now in
    let n = left_model c.args.pair.now in
    elim c.match-stop.branch [
      | in-Overflow w ↦ none_too_wide c.args.budget m n c.args.stop w.in-Overflow.question c.requires.left w.in-Overflow.is c.requires.stop
      | in-Spent w ↦ none_too_costly c.args.budget m n c.args.stop w.in-Spent.question w.in-Spent.cost c.requires.left w.in-Spent.is c.requires.stop
    ]

pub returns-clause-tried : goal.returns-clause-tried
returns-clause-tried c =
    let pair = c.args.pair.now in
    let none : (q : List ℤ) → IsContextPoint c.args.budget (left_model pair) q → ⊥ =
    elim c.match-stop.branch [
      | in-Overflow w ↦ λ q e. overflow_gives_none c.args.budget (left_model pair) w.in-Overflow.question q (subst (λ (m : Model). ContextStops c.args.budget m (context.Overflow w.in-Overflow.question)) c.requires.left (subst (ContextStops c.args.budget c.args.left.now) w.in-Overflow.is c.requires.stop)) e
      | in-Spent w ↦ λ q e. spent_gives_none c.args.budget (left_model pair) w.in-Spent.question w.in-Spent.cost q (subst (λ (m : Model). ContextStops c.args.budget m (context.Spent w.in-Spent.question w.in-Spent.cost)) c.requires.left (subst (ContextStops c.args.budget c.args.left.now) w.in-Spent.is c.requires.stop)) e
    ] in
    c.in_ok-unknown_all.ensures.tried c.args.budget (samples_without c.args.budget pair c.new.result.items none)
