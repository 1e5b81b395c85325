use Rattle.std.proofs.Common.{List, ℕ, sym, subst}
use Rattle.ac_walk.specs.Ranks.{Within}
use Rattle.ac_walk.proofs.Ranked.{all_ranks}
use Rattle.ac_walk.proofs.ranking.ranked.Goals as goal

pub returns : goal.returns
returns c =
    let widening_points = c.args.widening_points.now in
    all_ranks widening_points c.in_ok-numbers.numbers.items c.in_ok-first.first.items
    (c.in_ok-numbers.ensures.within (c.in_ok-first.ensures.within (subst (λ (ns : List ℕ). Within widening_points ns) (sym c.new.ensures.items) tt))) c.in_ok-numbers.ensures.kept c.in_ok-first.ensures.whole c.in_ok-numbers.ensures.whole
