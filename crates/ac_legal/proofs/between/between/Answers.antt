use Rattle.std.proofs.Common.{◌≡◌, sym, subst, ◌+◌, List, arith, IfSome, IfNone}
use Rattle.ac_forms.specs.Rows.{AreRowsOver}
use Rattle.ac_forms.specs.declared.row.Row.{Row}
use Rattle.ac_poly.specs.Coordinates.{width}
use Rattle.ac_legal.specs.QuestionChoices.{Part, ArePartsOver, HasNoPointFrom, HaveNoPointsIfDecided, IsPointFrom, StopsFrom, UnlessMemory}
use Rattle.ac_legal.specs.ScheduleAnswers.{NoneBetween, NoDecidedPointBetween, IsPointBetween, StopsBetween}
use Rattle.ac_legal.proofs.Parting.{made_of, asked_over, none_between, point_between, stops_between, if_ok, if_err, if_some, if_none}
use Rattle.ac_legal.proofs.Trying.{unless_map}
use Rattle.ac_legal.proofs.Undecided.{decided_between}
use Rattle.ac_legal.proofs.between.between.Goals as goal

pub search-requires-clause-front : goal.search-requires-clause-front
search-requires-clause-front c =
    let g : c.width.result ≡ width c.args.two.now.first.now = c.width.ensures in
    let h : c.width-2.result ≡ width c.args.two.now.second.now = c.width-2.ensures in
    let n : c.in_ok-all.all ≡ c.args.m.now.params + (width c.args.two.now.first.now + width c.args.two.now.second.now) = omega arith in
    subst (AreRowsOver c.in_ok-all.all) (sym c.as_slice.ensures) (asked_over c.args.m.now c.args.order.now.times c.args.two.now.i c.args.two.now.j c.args.two.now.first.now c.args.two.now.second.now c.in_ok-parts.parts c.in_ok-all.all n c.requires.over c.requires.stmts (made_of c.args.m.now c.args.order.now.times c.args.two.now.i c.args.two.now.j c.args.two.now.first.now c.args.two.now.second.now c.in_ok-parts.parts c.in_ok-parts.ensures)).0

pub search-requires-clause-parts : goal.search-requires-clause-parts
search-requires-clause-parts c =
    let g : c.width.result ≡ width c.args.two.now.first.now = c.width.ensures in
    let h : c.width-2.result ≡ width c.args.two.now.second.now = c.width-2.ensures in
    let n : c.in_ok-all.all ≡ c.args.m.now.params + (width c.args.two.now.first.now + width c.args.two.now.second.now) = omega arith in
    subst (ArePartsOver c.in_ok-all.all) (sym c.as_slice-2.ensures) (asked_over c.args.m.now c.args.order.now.times c.args.two.now.i c.args.two.now.j c.args.two.now.first.now c.args.two.now.second.now c.in_ok-parts.parts c.in_ok-all.all n c.requires.over c.requires.stmts (made_of c.args.m.now c.args.order.now.times c.args.two.now.i c.args.two.now.j c.args.two.now.first.now c.args.two.now.second.now c.in_ok-parts.parts c.in_ok-parts.ensures)).1

pub returns-clause-none : goal.returns-clause-none
returns-clause-none c =
    let g : c.width.result ≡ width c.args.two.now.first.now = c.width.ensures in
    let h : c.width-2.result ≡ width c.args.two.now.second.now = c.width-2.ensures in
    let n : c.in_ok-all.all ≡ c.args.m.now.params + (width c.args.two.now.first.now + width c.args.two.now.second.now) = omega arith in
    if_ok c.search.result (λ found. IfNone found (HasNoPointFrom c.in_ok-all.all c.as_slice.result.now c.as_slice-2.result.now)) (λ found. IfNone found (NoneBetween c.args.m.now c.args.order.now.times c.args.two.now.i c.args.two.now.j))
    (λ found h. if_none found _ _
    (λ k. none_between c.args.m.now c.args.order.now.times c.args.two.now.i c.args.two.now.j c.args.two.now.first.now c.args.two.now.second.now c.in_ok-parts.parts c.in_ok-all.all c.requires.stmts n (made_of c.args.m.now c.args.order.now.times c.args.two.now.i c.args.two.now.j c.args.two.now.first.now c.args.two.now.second.now c.in_ok-parts.parts c.in_ok-parts.ensures)
    (subst (λ (q : List Row × List Part). HasNoPointFrom c.in_ok-all.all q.0 q.1) (λ t. (c.as_slice.ensures t, c.as_slice-2.ensures t)) k)) h)
    c.search.ensures.none

pub returns-clause-point : goal.returns-clause-point
returns-clause-point c =
    let g : c.width.result ≡ width c.args.two.now.first.now = c.width.ensures in
    let h : c.width-2.result ≡ width c.args.two.now.second.now = c.width-2.ensures in
    let n : c.in_ok-all.all ≡ c.args.m.now.params + (width c.args.two.now.first.now + width c.args.two.now.second.now) = omega arith in
    if_ok c.search.result (λ found. IfSome found (λ p. IsPointFrom c.in_ok-all.all c.as_slice.result.now c.as_slice-2.result.now p.items)) (λ found. IfSome found (λ p. IsPointBetween c.args.m.now c.args.order.now.times c.args.two.now.i c.args.two.now.first.now c.args.two.now.j c.args.two.now.second.now p.items))
    (λ found h. if_some found _ _
    (λ p k. point_between c.args.m.now c.args.order.now.times c.args.two.now.i c.args.two.now.j c.args.two.now.first.now c.args.two.now.second.now c.in_ok-parts.parts c.in_ok-all.all p.items n (made_of c.args.m.now c.args.order.now.times c.args.two.now.i c.args.two.now.j c.args.two.now.first.now c.args.two.now.second.now c.in_ok-parts.parts c.in_ok-parts.ensures)
    (subst (λ (q : List Row × List Part). IsPointFrom c.in_ok-all.all q.0 q.1 p.items) (λ t. (c.as_slice.ensures t, c.as_slice-2.ensures t)) k)) h)
    c.search.ensures.point

pub returns-clause-stops : goal.returns-clause-stops
returns-clause-stops c =
    let g : c.width.result ≡ width c.args.two.now.first.now = c.width.ensures in
    let h : c.width-2.result ≡ width c.args.two.now.second.now = c.width-2.ensures in
    let n : c.in_ok-all.all ≡ c.args.m.now.params + (width c.args.two.now.first.now + width c.args.two.now.second.now) = omega arith in
    if_err c.search.result (StopsFrom c.args.budget c.in_ok-all.all c.as_slice.result.now c.as_slice-2.result.now) (λ e. UnlessMemory e (StopsBetween c.args.budget c.args.m.now c.args.order.now.times c.args.two.now.i c.args.two.now.first.now c.args.two.now.j c.args.two.now.second.now e))
    (λ e h. stops_between c.args.budget c.args.m.now c.args.order.now.times c.args.two.now.i c.args.two.now.j c.args.two.now.first.now c.args.two.now.second.now c.in_ok-parts.parts c.in_ok-all.all e n c.in_ok-parts.ensures
    (subst (λ (q : List Row × List Part). StopsFrom c.args.budget c.in_ok-all.all q.0 q.1 e) (λ t. (c.as_slice.ensures t, c.as_slice-2.ensures t)) h))
    c.search.ensures.stops

pub returns-clause-decided : goal.returns-clause-decided
returns-clause-decided c =
    let g : c.width.result ≡ width c.args.two.now.first.now = c.width.ensures in
    let h : c.width-2.result ≡ width c.args.two.now.second.now = c.width-2.ensures in
    let n : c.in_ok-all.all ≡ c.args.m.now.params + (width c.args.two.now.first.now + width c.args.two.now.second.now) = omega arith in
    if_err c.search.result (λ e. UnlessMemory e (HaveNoPointsIfDecided c.args.budget c.in_ok-all.all c.as_slice.result.now c.as_slice-2.result.now))
    (λ e. UnlessMemory e (NoDecidedPointBetween c.args.budget c.args.m.now c.args.order.now.times c.args.two.now.i c.args.two.now.j))
    (λ e. unless_map e (HaveNoPointsIfDecided c.args.budget c.in_ok-all.all c.as_slice.result.now c.as_slice-2.result.now) (NoDecidedPointBetween c.args.budget c.args.m.now c.args.order.now.times c.args.two.now.i c.args.two.now.j)
    (λ k. decided_between c.args.budget c.args.m.now c.args.order.now.times c.args.two.now.i c.args.two.now.j c.args.two.now.first.now c.args.two.now.second.now c.in_ok-parts.parts c.in_ok-all.all c.requires.stmts n c.in_ok-parts.ensures
    (subst (λ (q : List Row × List Part). HaveNoPointsIfDecided c.args.budget c.in_ok-all.all q.0 q.1) (λ t. (c.as_slice.ensures t, c.as_slice-2.ensures t)) k)))
    c.search.ensures.decided
