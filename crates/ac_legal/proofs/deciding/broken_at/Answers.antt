use Rattle.ac_legal.specs.ScheduleAnswers.{NoneBetween, IsPointOfTwo, IfKept, IfBroken, IsCutOf}
use Rattle.ac_legal.proofs.Parting.{if_ok}
use Rattle.ac_legal.proofs.Wholes.{if_kept, if_broken, point_of_two, point_long}
use Rattle.ac_legal.proofs.deciding.broken_at.Goals as goal

pub broken-requires-clause-first : goal.broken-requires-clause-first
broken-requires-clause-first c = (point_long c.args.m.now c.args.order.now.times c.args.two.now.i c.args.two.now.j c.args.two.now.first.now c.args.two.now.second.now c.in_ok-behind.behind c.width.result c.args.point.now c.width.ensures c.in_ok-behind.ensures c.requires.point).0

pub broken-requires-clause-second : goal.broken-requires-clause-second
broken-requires-clause-second c = (point_long c.args.m.now c.args.order.now.times c.args.two.now.i c.args.two.now.j c.args.two.now.first.now c.args.two.now.second.now c.in_ok-behind.behind c.width.result c.args.point.now c.width.ensures c.in_ok-behind.ensures c.requires.point).1

pub returns-clause-kept : goal.returns-clause-kept
returns-clause-kept c =
    if_ok c.broken.result (λ l. IfKept l ⊥) (λ l. IfKept l (NoneBetween c.args.m.now c.args.order.now.times c.args.two.now.i c.args.two.now.j))
    (λ l h. if_kept l _ _ (λ z. absurd z) h) c.broken.ensures.some

pub returns-clause-broken : goal.returns-clause-broken
returns-clause-broken c =
    if_ok c.broken.result (λ l. IfBroken l (IsCutOf c.args.point.now c.args.m.now.params c.in_ok-behind.behind c.args.two.now.i c.args.two.now.first.now c.args.two.now.j c.args.two.now.second.now)) (λ l. IfBroken l (IsPointOfTwo c.args.m.now c.args.order.now.times))
    (λ l h. if_broken l (IsCutOf c.args.point.now c.args.m.now.params c.in_ok-behind.behind c.args.two.now.i c.args.two.now.first.now c.args.two.now.j c.args.two.now.second.now) (IsPointOfTwo c.args.m.now c.args.order.now.times)
    (λ at a xs b ys k. point_of_two c.args.m.now c.args.order.now.times c.args.two.now.i c.args.two.now.j c.args.two.now.first.now c.args.two.now.second.now c.in_ok-behind.behind c.width.result c.args.point.now at xs ys a b c.requires.stmts c.width.ensures c.in_ok-behind.ensures c.requires.point k) h)
    c.broken.ensures.cut
