use Rattle.std.proofs.Common.{subst}
use Rattle.ac_walk_state.specs.RecurrencePairInvariant.{IsTooLarge}
use Rattle.ac_walk_state.specs.RecurrencePairs.{WideningPointOf}
use Rattle.ac_walk_state.proofs.MemberGrowth.{grows_at, read_is, width_within}
use Rattle.ac_walk_state.proofs.growth.with_member.Goals as goal

pub returns-in-Ok-insert-clause-grown : goal.returns-in-Ok-insert-clause-grown
returns-in-Ok-insert-clause-grown c =
    grows_at c.args.template.now c.args.widening_points.items c.args.at c.args.point.now c.args.place c.remove-widening_point.result c.in-Ok.grown c.remove-widening_point.new.self.items c.insert.new.self.items (width_within c.args.widening_points.items c.args.at c.args.point.now c.requires.width) c.remove-widening_point.ensures.value
    c.remove-widening_point.ensures.items c.in-Ok-insert.ensures.items c.in-Ok.ensures.made.2 c.in-Ok.ensures.right

pub returns-in-Err-clause-stops : goal.returns-in-Err-clause-stops
returns-in-Err-clause-stops c =
    λ widening_point is.
    subst (λ (k : WideningPointOf). IsTooLarge k c.args.point.now c.in-Err.stop) (read_is c.args.widening_points.items c.args.at c.remove-widening_point.result widening_point is c.remove-widening_point.ensures.value) c.in-Err.ensures.made
