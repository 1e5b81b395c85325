use Rattle.std.proofs.Common.{◌≡◌, ◌∷◌, [], ◌++◌}
use Rattle.ac_match.specs.MatchInternals.Numbers.{AreNumbered}
use Rattle.ac_match.proofs.Numbering.{all_snoc}
use Rattle.ac_match.proofs.orders.Orders.refute.Goals as goal

pub invariant_of-self-in-Ok : goal.invariant_of-self-in-Ok
invariant_of-self-in-Ok c =
    let n : AreNumbered c.self.inside.sites c.args.partial.items c.in_ok-choices.choices = rw (c.as_slice.ensures, c.as_slice-2.ensures.value) at c.in_ok-choices.ensures in
    let a : c.push.new.self ≡ c.self.inside.numbered ++ c.in_ok-choices.choices ∷ [] = c.in_ok-push.ensures.ok in
    let b : c.push-2.new.self ≡ c.self.inside.refuted ++ record { partial = c.from.result; why = c.args.why } ∷ [] = c.in-Ok.ensures.ok in
    rw (a, b, c.from.ensures) (all_snoc c.self.inside.sites c.self.inside.refuted c.self.inside.numbered (record { partial = c.args.partial.items; why = c.args.why }) c.in_ok-choices.choices c.self.invariant n)
