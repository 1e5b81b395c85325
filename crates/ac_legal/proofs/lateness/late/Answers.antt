use Rattle.std.proofs.Common.{◌∙◌, sym, subst, refl, inl, inr, arith, length, pos, negsuc, ◌+ℤ◌}
use Rattle.std.specs.Prelude.{nat_le}
use Rattle.ac_forms.specs.Affine.{Affine, CanCombine}
use Rattle.ac_forms.specs.Fits.{Fits}
use Rattle.ac_legal.specs.WideQuestions.{AreWideTimes}
use Rattle.ac_legal.proofs.Reading.{late_end, wide_on, wide_time, through_err}
use Rattle.ac_legal.proofs.lateness.late.Goals as goal

pub returns-clause-value : goal.returns-clause-value
returns-clause-value c =
    c.in_ok-finish.ensures
    ∙ sym (late_end c.args.times.now c.args.others.now c.loop-k.made c.loop-k.done c.loop-k.k (omega arith) (omega arith) c.loop-k.invariant (nat_le (length c.args.others.now) (length c.args.times.now)) refl)

pub returns-in_err-difference-clause-wide : goal.returns-in_err-difference-clause-wide
returns-in_err-difference-clause-wide c =
    let stop = c.in_err-difference.field-0.0 in
    let f = c.index-times-k.result in
    let g = c.index-others-k.result in
    through_err c.from_residual.result stop (AreWideTimes c.args.times.now c.args.others.now) c.from_residual.ensures.1
    (wide_on stop (¬ (CanCombine (pos 1) f (negsuc 0) g)) (AreWideTimes c.args.times.now c.args.others.now)
    (λ h. wide_time c.args.times.now c.args.others.now c.loop-k.k f g (omega arith) (omega arith) c.index-times-k.is c.index-others-k.is (inl h)) c.in_err-difference.ensures)

pub returns-in_err-more-clause-wide : goal.returns-in_err-more-clause-wide
returns-in_err-more-clause-wide c =
    let stop = c.in_err-more.field-0.0 in
    let f = c.index-times-k.result in
    let g = c.index-others-k.result in
    through_err c.from_residual-in_err-more.result stop (AreWideTimes c.args.times.now c.args.others.now) c.from_residual-in_err-more.ensures.1
    (wide_on stop (¬ (Fits (c.in_ok-difference.difference.konst +ℤ negsuc 0))) (AreWideTimes c.args.times.now c.args.others.now)
    (λ h. wide_time c.args.times.now c.args.others.now c.loop-k.k f g (omega arith) (omega arith) c.index-times-k.is c.index-others-k.is
    (inr (subst (λ (d : Affine). ¬ (Fits (d.konst +ℤ negsuc 0))) c.in_ok-difference.ensures.1 h)))
    c.in_err-more.ensures)
