use Rattle.std.proofs.Common.{refl}
use Rattle.ac_omega_certify.proofs.Bounding.{margin-at}
use Rattle.ac_omega_certify.proofs.Shadowings.{uppers-start, uppers-more, uppers-end}
use Rattle.ac_omega_certify.proofs.path.TreePath.show_uppers.Goals as goal

pub loop-i-init : goal.loop-i-init
loop-i-init c =
    uppers-start c.args.bounded.now.column c.args.low.now.form.now c.args.low.now.margin c.args.low.now.place c.args.low.now.own c.args.bounded.now.rows.now c.args.bounded.now.places.now c.args.self.now c.args.made.now

pub show_beside-requires-clause-margin : goal.show_beside-requires-clause-margin
show_beside-requires-clause-margin c =
    rw (← c.index-bounded-i.is)
    (margin-at c.args.bounded.now.column c.args.bounded.now.rows.now c.args.low.now.margin c.args.low.now.form.now c.args.bounded.now.rows.now c.loop-i.i c.index-bounded-i.result c.requires.margin c.loop-i-test.true c.index-bounded-i.is)

pub loop-i-preserved : goal.loop-i-preserved
loop-i-preserved c =
    uppers-more c.args.bounded.now.column c.args.low.now.form.now c.args.low.now.margin c.args.low.now.place c.args.low.now.own c.args.bounded.now.rows.now c.args.bounded.now.places.now c.args.self.now c.loop-i.self c.show_beside.new.self c.args.made.now c.loop-i.made c.show_beside.new.made c.loop-i.i c.index-bounded-i.result _
    c.loop-i.invariant c.loop-i-test.true c.index-bounded-i.is refl (rw (← c.index-bounded-i.is) at c.in_ok-show_beside.ensures.rows) c.in_ok-show_beside.ensures.long (rw (← c.index-bounded-i.is) at c.in_ok-show_beside.ensures.shows)

pub returns : goal.returns
returns c = record {
  rows = uppers-end c.args.bounded.now.column c.args.low.now.form.now c.args.low.now.margin c.args.low.now.place c.args.low.now.own c.args.bounded.now.rows.now c.args.bounded.now.places.now c.args.self.now c.loop-i.self c.args.made.now c.loop-i.made c.loop-i.i c.loop-i.invariant c.loop-i-test.false;
  long = c.loop-i.invariant.long;
  shows = c.loop-i.invariant.shows;
}
