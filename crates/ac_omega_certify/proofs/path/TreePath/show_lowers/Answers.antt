use Rattle.std.proofs.Common.{refl, arith}
use Rattle.ac_omega_certify.proofs.Bounding.{modest-beside, suffices-at}
use Rattle.ac_omega_certify.proofs.Enough.{suffices-long}
use Rattle.ac_omega_certify.proofs.Shadowings.{lowers-start, lowers-within, lowers-more, lowers-end}
use Rattle.ac_omega_certify.proofs.path.TreePath.show_lowers.Goals as goal

pub loop-i-init : goal.loop-i-init
loop-i-init c = lowers-start c.args.bounded.now.column c.args.bounded.now.rows.now c.args.bounded.now.places.now c.args.counts.now c.args.raised.now c.args.self.now c.args.made.now c.requires.raised

pub bounds-counts-i : goal.bounds-counts-i
bounds-counts-i c =
    let long = suffices-long c.args.bounded.now.column c.args.bounded.now.rows.now c.args.bounded.now.rows.now c.args.counts.now c.requires.suffices in
    omega (arith, long, c.loop-i-test.true)

pub show_lower-requires-clause-within_2_to_120 : goal.show_lower-requires-clause-within_2_to_120
show_lower-requires-clause-within_2_to_120 c = rw (← c.index-bounded-i.is) (modest-beside c.args.bounded.now.rows.now c.loop-i.i c.index-bounded-i.result c.requires.within_2_to_120 c.loop-i-test.true c.index-bounded-i.is)

pub show_lower-requires-clause-suffices : goal.show_lower-requires-clause-suffices
show_lower-requires-clause-suffices c =
    rw (← c.index-bounded-i.is)
    (suffices-at c.args.bounded.now.column c.args.bounded.now.rows.now c.args.bounded.now.rows.now c.args.counts.now c.loop-i.i c.index-bounded-i.result _ c.requires.suffices c.loop-i-test.true c.index-bounded-i.is refl)

pub show_lower-requires-clause-raised : goal.show_lower-requires-clause-raised
show_lower-requires-clause-raised c =
    rw (← c.index-bounded-i.is) (lowers-within c.args.bounded.now.column c.args.bounded.now.rows.now c.args.raised.now c.loop-i.used c.loop-i.i c.index-bounded-i.result c.loop-i.invariant.count c.loop-i-test.true c.index-bounded-i.is)

pub loop-i-preserved : goal.loop-i-preserved
loop-i-preserved c =
    let long = suffices-long c.args.bounded.now.column c.args.bounded.now.rows.now c.args.bounded.now.rows.now c.args.counts.now c.requires.suffices in
    lowers-more c.args.bounded.now.column c.args.bounded.now.rows.now c.args.bounded.now.places.now c.args.counts.now c.args.raised.now c.args.self.now c.loop-i.self c.show_lower.new.self c.args.made.now c.loop-i.made c.show_lower.new.made c.loop-i.used c.in_ok-used.used c.loop-i.i c.index-bounded-i.result _ _
    c.loop-i.invariant long c.loop-i-test.true c.index-bounded-i.is refl refl (rw (← c.index-bounded-i.is) at c.in_ok-used.ensures.used) (rw (← c.index-bounded-i.is) at c.in_ok-used.ensures.rows) c.in_ok-used.ensures.long (rw (← c.index-bounded-i.is) at c.in_ok-used.ensures.shows)

pub returns : goal.returns
returns c = record {
  rows = lowers-end c.args.bounded.now.column c.args.bounded.now.rows.now c.args.bounded.now.places.now c.args.counts.now c.args.raised.now c.args.self.now c.loop-i.self c.args.made.now c.loop-i.made c.loop-i.used c.loop-i.i c.loop-i.invariant c.loop-i-test.false;
  long = c.loop-i.invariant.long;
  shows = c.loop-i.invariant.shows;
}
