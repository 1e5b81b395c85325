use Rattle.std.proofs.Common.{inl, inr, Bool, true, false, subst}
use Rattle.ac_poly.specs.declared.types.Model.{Model}
use Rattle.ac_top.specs.ArrangementStages.{IfContextStops, IfFlowStops, IfStops}
use Rattle.ac_top.proofs.stopping.one_stops.Goals as goal

last_stops : (left right : Model) (second : Bool) → IfContextStops left false → IfFlowStops left false → IfFlowStops right second → IfStops left right second
last_stops left right true h k m = inr (inr m)
last_stops left right false h k m = (h, k, m)

pub returns-then-context : goal.returns-then-context
returns-then-context c = let h = subst (IfContextStops c.args.left.now) c.if-context.true c.in_ok-context.ensures in inl h

pub returns-then-first : goal.returns-then-first
returns-then-first c = let h = subst (IfFlowStops c.args.left.now) c.if-first.true c.in_ok-first.ensures in inr (inl h)

pub returns : goal.returns
returns c =
    let left = c.args.left.now in
    let h = subst (IfContextStops left) c.if-context.false c.in_ok-context.ensures in
    let k = subst (IfFlowStops left) c.if-first.false c.in_ok-first.ensures in
    last_stops left c.args.right.now c.in_ok-second.second h k c.in_ok-second.ensures
