use Rattle.std.proofs.Common.{refl, length, inl, inr}
use Rattle.std.proofs.lemmas.Option.{slice_get_read, slice_get_past}
use Rattle.ac_graph.proofs.MoveSteps.{argument_pushed, not_argument}
use Rattle.ac_graph.proofs.moves.push_argument.Goals as goal

pub returns-in_ok-push-in-Some-Some : goal.returns-in_ok-push-in-Some-Some
returns-in_ok-push-in-Some-Some c =
    let a = c.in-Some-Some.ensures.lookup in
    let b = c.in-Some-Some.ensures'.lookup in
    argument_pushed c.args.left.now.stmt c.args.right.now.stmt c.args.left.now.args.now c.args.right.now.args.now c.args.left.now.symbol.now c.args.right.now.symbol.now c.args.i c.args.j c.in-Some-Some.k.now c.in-Some-Some.l.now c.args.out.now c.push.new.self
    (slice_get_read c.args.left.now.args.now (length c.args.left.now.args.now) c.args.i c.in-Some-Some.k.now refl a.3.0 a.1)
    (slice_get_read c.args.right.now.args.now (length c.args.right.now.args.now) c.args.j c.in-Some-Some.l.now refl b.3.0 b.1)
    c.in_ok-push-in-Some-Some.ensures.ok

pub returns-in_default : goal.returns-in_default
returns-in_default c =
    not_argument c.args.left.now.stmt c.args.right.now.stmt c.args.left.now.args.now c.args.right.now.args.now c.args.left.now.symbol.now c.args.right.now.symbol.now c.args.i c.args.j c.args.out.now
    (inr (slice_get_past c.args.right.now.args.now c.args.j c.in_default.ensures'.lookup.3))

pub returns-in_default-2 : goal.returns-in_default-2
returns-in_default-2 c =
    not_argument c.args.left.now.stmt c.args.right.now.stmt c.args.left.now.args.now c.args.right.now.args.now c.args.left.now.symbol.now c.args.right.now.symbol.now c.args.i c.args.j c.args.out.now
    (inl (slice_get_past c.args.left.now.args.now c.args.i c.in_default.ensures.lookup.3))
