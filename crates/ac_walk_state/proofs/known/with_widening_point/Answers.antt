use Rattle.std.proofs.Common.{List, map, subst, sym}
use Rattle.ac_forms.specs.ListMembers.{IsAmong}
use Rattle.ac_walk_state.specs.RecurrencePairs.{WideningPointOf, positions}
use Rattle.ac_walk_state.proofs.LastItems.{in_get}
use Rattle.ac_walk_state.proofs.Making.{keys_more, keys_same}
use Rattle.ac_walk_state.proofs.known.with_widening_point.Goals as goal

pub returns-in-Some : goal.returns-in-Some
returns-in-Some c =
    λ pairs h.
    keys_same c.args.programs.now pairs c.args.widening_points.now.items c.args.pair.now
    (subst (λ (ks : List WideningPointOf). IsAmong c.args.pair.now (map positions ks)) c.as_slice.ensures.value (in_get (map positions c.as_slice.result.now) _ c.args.pair.now c.in-Some.ensures)) h

pub returns-in_ok-push-in-None : goal.returns-in_ok-push-in-None
returns-in_ok-push-in-None c =
    λ pairs h.
    keys_more c.args.programs.now pairs c.args.widening_points.now.items c.push.new.self.items c.args.pair.now c.in_ok-new_widening_point-in-None.field-0
    (λ k. c.in-None.ensures (subst (λ (ks : List WideningPointOf). IsAmong c.args.pair.now (map positions ks)) (sym c.as_slice.ensures.value) k)) c.in_ok-new_widening_point-in-None.ensures.pair c.in_ok-new_widening_point-in-None.ensures.fresh c.in_ok-push-in-None.ensures.items h
