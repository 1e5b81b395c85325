use Rattle.std.proofs.Common.{rules}
use Rattle.std.proofs.lemmas.Result.{on_ok_weaker}
use Rattle.ac_claims_paths.specs.ModelCalls.{pairing}
use Rattle.ac_prooftext.proofs.Streams.{line_taken, all_taken, deep_taken}
use Rattle.ac_prooftext.proofs.checker.take_piece.Goals as goal

pub returns-then-reader-gt-MAX_DEPTH-clause-course : goal.returns-then-reader-gt-MAX_DEPTH-clause-course
returns-then-reader-gt-MAX_DEPTH-clause-course c =
    let s = c.args.stepper.now in
    let taken = line_taken c.args.line.now.items c.args.reader.now s c.args.piece.now c.loop-head.rest.now c.loop-head.line.items c.loop-head.reader c.loop-head.stepper c.in-Some.head.now c.in-Some.behind.now c.end_line.new.line.items c.end_line.new.reader c.end_line.new.stepper
    c.loop-head.invariant.taken c.in-Some.ensures c.in_ok-end_line.ensures.course c.in_ok-end_line.ensures.empty c.in_ok-end_line.ensures.same in
    deep_taken (pairing s.programs) s.outputs.now c.args.line.now.items c.args.reader.now s c.args.piece.now c.in-Some.behind.now c.end_line.new.line.items c.end_line.new.reader c.end_line.new.stepper taken c.if-reader-gt-MAX_DEPTH.true

pub loop-head-preserved : goal.loop-head-preserved
loop-head-preserved c = record {
  steady = c.in_ok-end_line.ensures.steady;
  taken = line_taken c.args.line.now.items c.args.reader.now c.args.stepper.now c.args.piece.now c.loop-head.rest.now c.loop-head.line.items c.loop-head.reader c.loop-head.stepper c.in-Some.head.now c.in-Some.behind.now c.end_line.new.line.items c.end_line.new.reader c.end_line.new.stepper
      c.loop-head.invariant.taken c.in-Some.ensures c.in_ok-end_line.ensures.course c.in_ok-end_line.ensures.empty c.in_ok-end_line.ensures.same;
}

pub returns-clause-course : goal.returns-clause-course
returns-clause-course c =
    let s = c.args.stepper.now in
    on_ok_weaker c.grow_line.result
    (λ e. all_taken (pairing s.programs) s.outputs.now c.args.line.now.items c.args.reader.now s c.args.piece.now c.loop-head.rest.now c.loop-head.line.items c.loop-head.reader c.loop-head.stepper c.grow_line.new.line.items c.loop-head.invariant.taken c.in_default.ensures e)
    c.grow_line.ensures
