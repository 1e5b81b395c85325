use Rattle.std.proofs.Common.{◌≡◌, ◌+◌, ◌-◌, ◌<◌, ◌≤◌, ℤ, pos, [], ◌∷◌, ◌++◌, List, length, take, drop, get_or, ap, sym, subst, ◌∙◌, arith, rules, FitsSigned, w64}
use Rattle.std.proofs.lemmas.Int.{to_z-of_z}
use Rattle.std.proofs.lemmas.Result.{IfOk-weaker}
use Rattle.ac_instance.specs.declared.halt.Side.TheVariants.{Left, Right}
use Rattle.ac_instance.specs.Events.{natural, in_elements}
use Rattle.ac_instance.specs.KeptIds.{leaf_in}
use Rattle.ac_instance.specs.Least.{AgreeAt, IsLeast, beneath}
use Rattle.ac_instance.proofs.Elements.{upto, elements_left, element_left, one_more_size, all_sizes, only_one, first_and_rest, nothing_there}
use Rattle.ac_instance.proofs.Happen.{halts, goes_on, due_in_whole}
use Rattle.ac_instance.proofs.Values.{Holds-kept}
use Rattle.ac_instance.proofs.state.Machine.+elements.Goals as goal

pub returns-in_err-found-in-len1-up-clause-steps : goal.returns-in_err-found-in-len1-up-clause-steps
returns-in_err-found-in-len1-up-clause-steps t c =
    let rest = take (length c.args.sizes.now - 1) (drop 1 c.args.sizes.now) in
    let k = c.loop-k.k in
    let n = c.natural-k-end.result in
    let h = c.in_err-found-in-len1-up.field-0.0 in
    halts c.args.self.now c.first_beneath.new.self _ c.from_residual-in_err-found-in-len1-up.result h c.from_residual-in_err-found-in-len1-up.ensures.1
    (due_in_whole c.args.self.now c.loop-k.self _ _ (in_elements rest) (elements_left (k + 1) n rest) h c.loop-k.invariant.steps (element_left k n rest (omega arith)) c.in_err-found-in-len1-up.ensures.steps)

pub loop-k-preserved : goal.loop-k-preserved
loop-k-preserved t c =
    let a = c.args.self.now in
    let here = c.loop-k.self in
    let rest = take (length c.args.sizes.now - 1) (drop 1 c.args.sizes.now) in
    let k = c.loop-k.k in
    let n = c.natural-k-end.result in
    record {
      steps = goes_on a here c.first_beneath.new.self _ _ (in_elements rest) (elements_left (k + 1) n rest) c.loop-k.invariant.steps (element_left k n rest (omega arith)) c.in_ok-found-in-len1-up.ensures.steps;
      least = λ left right hl hr.
          let runs = c.args.runs.now in
          let kept = c.loop-k.invariant.steps.kept in
          let l = Holds-kept a.table here.table kept runs.left.now (leaf_in Left runs.arrays.now) left hl in
          let r = Holds-kept a.table here.table kept runs.right.now (leaf_in Right runs.arrays.now) right hr in
          let agrees = AgreeAt a.table.commutative runs.output left right in
          let fits : FitsSigned w64 c.coordinate.result = search rules in
          let longer = c.deref.ensures.value ∙ (simp to_z-of_z at c.in_ok-longer-in-len1-up.ensures) ∙ ap (λ z. c.args.prefix.now ++ z ∷ []) c.coordinate.ensures in
          let found = subst (λ ns. IsLeast (beneath (AgreeAt ns runs.output left right) c.deref.result.now rest) c.in_ok-found-in-len1-up.found) c.loop-k.invariant.steps.names (c.in_ok-found-in-len1-up.ensures.least left right l r) in
          subst (λ o. IsLeast (upto agrees c.args.prefix.now rest (k + 1)) o) (sym c.first_of-best.ensures)
          (one_more_size agrees c.args.prefix.now rest k c.loop-k.best c.in_ok-found-in-len1-up.found (c.loop-k.invariant.least left right hl hr)
          (subst (λ (zs : List ℤ). IsLeast (beneath agrees zs rest) c.in_ok-found-in-len1-up.found) longer found));
    }

pub returns-in-empty-clause-least : goal.returns-in-empty-clause-least
returns-in-empty-clause-least t c = λ left right hl hr.
    let agrees = AgreeAt c.args.self.now.table.commutative c.args.runs.now.output left right in
    let none = nothing_there c.args.sizes.now (omega arith) in
    IfOk-weaker c.look.result _ _ (λ o h. subst (λ (ns : List ℤ). IsLeast (beneath agrees c.args.prefix.now ns) o) (sym none) (only_one agrees c.args.prefix.now o h)) (c.look.ensures.found left right hl hr)

pub returns-after-loop-k-clause-least : goal.returns-after-loop-k-clause-least
returns-after-loop-k-clause-least t c = λ left right hl hr.
    let agrees = AgreeAt c.args.self.now.table.commutative c.args.runs.now.output left right in
    let rest = take (length c.args.sizes.now - 1) (drop 1 c.args.sizes.now) in
    let n = get_or c.args.sizes.now 0 (pos 0) in
    let some = first_and_rest c.args.sizes.now (pos 0) (omega arith) in
    let fits : FitsSigned w64 n = search rules in
    let value = simp to_z-of_z at c.natural-k-end.ensures.value in
    let end : c.loop-k.k ≡ natural n = (let e : c.loop-k.k ≡ c.natural-k-end.result = omega arith in e) ∙ value in
    subst (λ (ns : List ℤ). IsLeast (beneath agrees c.args.prefix.now ns) c.loop-k.best) (sym some)
    (all_sizes agrees c.args.prefix.now rest n c.loop-k.k c.loop-k.best end (c.loop-k.invariant.least left right hl hr))
