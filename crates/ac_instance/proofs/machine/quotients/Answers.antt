use Rattle.std.proofs.Common.{◌+◌, drop, ap, arith}
use Rattle.std.specs.List.{flat_map}
use Rattle.ac_syntax.specs.Index.{point}
use Rattle.ac_instance.specs.Events.{quotient}
use Rattle.ac_instance.proofs.Happen.{halts, goes_on, due_in_whole, drop_more}
use Rattle.ac_instance.proofs.machine.quotients.Goals as goal

pub returns-in_err-quotient : goal.returns-in_err-quotient
returns-in_err-quotient c m =
    let f = quotient c.args.scope.now.side (point c.args.scope.now.params.now c.args.iters.now) in
    let x = c.quot-item.result in
    let i = c.loop-quot.quot-index in
    let more = drop_more c.args.quots.now i x (omega arith) c.quot-item.is in
    let h = c.in_err-quotient.field-0.0 in
    halts m m _ c.from_residual.result h c.from_residual.ensures.1
    (due_in_whole m m _ _ (f x) (flat_map f (drop (i + 1) c.args.quots.now)) h (c.loop-quot.invariant m) (ap (flat_map f) more) (c.in_err-quotient.ensures m))

pub loop-quot-preserved : goal.loop-quot-preserved
loop-quot-preserved c m =
    let f = quotient c.args.scope.now.side (point c.args.scope.now.params.now c.args.iters.now) in
    let x = c.quot-item.result in
    let i = c.loop-quot.quot-index in
    let more = drop_more c.args.quots.now i x (omega arith) c.quot-item.is in
    goes_on m m m _ _ (f x) (flat_map f (drop (i + 1) c.args.quots.now)) (c.loop-quot.invariant m) (ap (flat_map f) more) (c.in_ok-quotient.ensures m)
