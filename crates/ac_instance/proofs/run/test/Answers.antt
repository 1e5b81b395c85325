use Rattle.std.proofs.Common.{◌≡◌, ◌+◌, ◌&&◌, [], ◌++◌, drop, true, ap, sym, ◌∙◌, arith, if◌then◌else◌}
use Rattle.std.specs.List.{list_all}
use Rattle.ac_syntax.specs.Index.{point, comparison_holds}
use Rattle.ac_instance.specs.Events.{in_part, in_test}
use Rattle.ac_instance.proofs.Happen.{halts, goes_on, due_in_whole, drop_more}
use Rattle.ac_instance.proofs.run.test.Goals as goal

pub returns-in_err-compared-clause-steps : goal.returns-in_err-compared-clause-steps
returns-in_err-compared-clause-steps c m =
    let p = point c.args.scope.now.params.now c.args.iters.now in
    let side = c.args.scope.now.side in
    let x = c.part-item.result in
    let i = c.loop-part.part-index in
    let rest = drop (i + 1) c.args.parts.now in
    let more = drop_more c.args.parts.now i x (omega arith) c.part-item.is in
    let h = c.in_err-compared.field-0.0 in
    halts m m _ c.from_residual.result h c.from_residual.ensures.1
    (due_in_whole m m _ _ (in_part side p x) (if comparison_holds p x then in_test side p rest else []) h (c.loop-part.invariant.steps m) (ap (in_test side p) more) (c.in_err-compared.ensures.steps m))

pub loop-part-preserved : goal.loop-part-preserved
loop-part-preserved c =
    let p = point c.args.scope.now.params.now c.args.iters.now in
    let side = c.args.scope.now.side in
    let x = c.part-item.result in
    let i = c.loop-part.part-index in
    let rest = drop (i + 1) c.args.parts.now in
    let more = drop_more c.args.parts.now i x (omega arith) c.part-item.is in
    let yes : comparison_holds p x ≡ true = sym c.in_ok-compared.ensures.value ∙ c.if-not-branch.false in
    record {
      holds = c.loop-part.invariant.holds ∙ ap (list_all (comparison_holds p)) more ∙ ap (λ b. b && list_all (comparison_holds p) rest) yes;
      steps = λ m. goes_on m m m _ _ (in_part side p x) (in_test side p rest) (c.loop-part.invariant.steps m)
          (ap (in_test side p) more ∙ ap (λ b. in_part side p x ++ (if b then in_test side p rest else [])) yes) (c.in_ok-compared.ensures.steps m);
    }
