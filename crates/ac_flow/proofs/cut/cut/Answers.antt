use Rattle.std.proofs.Common.{inl, inr, subst}
use Rattle.ac_flow.specs.Cuts.{HasPoint}
use Rattle.ac_flow.specs.CutStops.{StopsOn}
use Rattle.ac_flow.proofs.CutLoops.{inside-made}
use Rattle.ac_flow.proofs.Asked.{if_err, full_map}
use Rattle.ac_flow.proofs.cut.cut.Goals as goal

pub has_point-requires : goal.has_point-requires
has_point-requires c = inside-made c.args.conj.now c.in_ok-inside.inside c.args.kill.now c.requires.made c.requires.kill c.in_ok-inside.ensures

pub returns-in-Ok-true-clause-stops : goal.returns-in-Ok-true-clause-stops
returns-in-Ok-true-clause-stops c =
    if_err c.keep_outside.result _ _ (λ e s. inr (subst HasPoint c.in_ok-inside.ensures (c.in-Ok-true.ensures.some c.in-Ok-true.field-0-test), s)) c.keep_outside.ensures.stops

pub returns-in-Ok-true-clause-full : goal.returns-in-Ok-true-clause-full
returns-in-Ok-true-clause-full c =
    if_err c.keep_outside.result _ _ (λ e. full_map e _ _ (λ k. (k.0, inr (subst HasPoint c.in_ok-inside.ensures (c.in-Ok-true.ensures.some c.in-Ok-true.field-0-test), k.1)))) c.keep_outside.ensures.full

pub returns-in-Ok-false-clause-stops : goal.returns-in-Ok-false-clause-stops
returns-in-Ok-false-clause-stops c = if_err c.push_kept.result _ _ (λ e s. inl s) (c.push_kept.ensures.stops c.args.budget _)

pub returns-clause-stops : goal.returns-clause-stops
returns-clause-stops c = inl (subst (λ q. StopsOn c.args.budget q c.in-Err.stop) c.in_ok-inside.ensures c.in-Err.ensures.stops)
