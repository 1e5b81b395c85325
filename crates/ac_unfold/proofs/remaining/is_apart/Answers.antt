use Rattle.ac_unfold.proofs.Passing.{apart_by}
use Rattle.ac_unfold.proofs.remaining.is_apart.Goals as goal

pub returns-in-Some-Empty : goal.returns-in-Some-Empty
returns-in-Some-Empty c = λ _.
    apart_by c.args.node.now.question.conj c.args.rows.now c.in_ok-both.both c.decide_point.result c.in_ok-freely.field-0 c.in-Some-Empty.field-0 c.in-Some-Empty.field-0-0 c.in_ok-both.ensures c.decide_point.ensures.none c.in_ok-freely.ensures.answered c.in-Some-Empty.is c.in-Some-Empty.field-0-is
