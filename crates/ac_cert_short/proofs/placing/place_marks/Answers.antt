use Rattle.ac_cert_short.proofs.Shapes.{popped}
use Rattle.ac_cert_short.proofs.PlacedMarks.{marks_next}
use Rattle.ac_cert_short.proofs.placing.place_marks.Goals as goal

pub loop-mark-preserved : goal.loop-mark-preserved
loop-mark-preserved c =
    marks_next c.args.marks.items c.loop-mark.left.items c.pop.new.self.items c.in-Some.mark c.args.places.now.items c.args.count c.loop-mark.places.items c.loop-mark.reached c.loop-mark.steps c.place_mark.new.places.items c.in_ok-reached.reached c.place_mark.new.steps
    c.loop-mark.invariant
    (popped c.loop-mark.left.items c.pop.new.self.items c.pop.result c.in-Some.mark c.pop.ensures.items c.in-Some.is)
    c.in_ok-reached.ensures
