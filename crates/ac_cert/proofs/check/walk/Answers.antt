use Rattle.std.proofs.Common.{◌∙◌, arith}
use Rattle.ac_cert.proofs.Walks.{path-ok, path-stops, path-end, rows-ok, rows-end}
use Rattle.ac_cert.proofs.check.walk.Goals as goal

pub loop-s-preserved : goal.loop-s-preserved
loop-s-preserved c = record {
  made = c.in-Ok.ensures.keeps.made;
  number = omega arith;
  rows = c.loop-s.invariant.rows ∙ rows-ok c.args.steps.now c.loop-s.s-index c.s-item.result c.loop-s.here c.in-Ok.next c.loop-s-test.true c.s-item.is c.in-Ok.ensures.exact;
  so_far = λ go.
      let e = c.saturating_add-at.ensures in
      rw e (c.loop-s.invariant.so_far go ∙ path-ok c.args.steps.now c.loop-s.s-index c.s-item.result c.loop-s.here c.loop-s.at c.in-Ok.next c.loop-s-test.true c.s-item.is c.in-Ok.ensures.exact go);
}

pub returns-in-Err-clause-fails : goal.returns-in-Err-clause-fails
returns-in-Err-clause-fails c = λ go.
    rw c.at.ensures (path-stops c.args.steps.now c.loop-s.s-index c.s-item.result c.loop-s.here c.loop-s.at c.in-Err.stop _ c.loop-s-test.true c.s-item.is c.in-Err.ensures.exact go (c.loop-s.invariant.so_far go))

pub returns-clause-rows : goal.returns-clause-rows
returns-clause-rows c = c.loop-s.invariant.rows ∙ rows-end c.args.steps.now c.loop-s.s-index c.loop-s.here c.loop-s-test.false

pub returns-clause-goes_on : goal.returns-clause-goes_on
returns-clause-goes_on c = λ go. c.loop-s.invariant.so_far go ∙ path-end c.args.steps.now c.loop-s.s-index c.loop-s.here c.loop-s.at go c.loop-s-test.false
