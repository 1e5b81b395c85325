use Rattle.std.proofs.Common.{◌≡◌, ◌++◌, [], ◌∷◌, Some, sym, ap, ◌∙◌, arith}
use Rattle.std.specs.Prelude.{slice_get}
use Rattle.ac_walk.proofs.Lists.{get_some, get_within}
use Rattle.ac_walk.proofs.Ranked.{apart, next_numbered, not_bare, one_numbered}
use Rattle.ac_walk.proofs.ranking.with_numbers.Goals.{then-is_empty-bare+in_ok-push, else-is_empty-bare}
use Rattle.ac_walk.proofs.ranking.with_numbers.Goals as goal

pub loop-at-preserved : goal.loop-at-preserved
loop-at-preserved c =
    let widening_points = c.args.widening_points.now in
    let widening_point = c.index-widening_points-at.result in
    let at : slice_get widening_points c.loop-at.at ≡ Some widening_point = get_some widening_points c.loop-at.at widening_point c.loop-at-test.true ∙ ap Some (sym c.index-widening_points-at.is) in
    elim c.if-is_empty-bare.branch [
      | then-is_empty-bare+in_ok-push w ↦
          let more : c.if-is_empty-bare.made.items ≡ c.loop-at.made.items ++ c.loop-at.at ∷ [] = (let a = w.made-is in let b = w.in_ok-push.ensures.items in cc) in
          one_numbered widening_points c.args.bare c.args.numbers.items c.loop-at.at c.loop-at.made.items c.if-is_empty-bare.made.items c.loop-at-test.true c.loop-at.invariant more
      | else-is_empty-bare w ↦
          let same : c.if-is_empty-bare.made.items ≡ c.loop-at.made.items = (let a = w.made-is in cc) in
          next_numbered widening_points c.args.bare c.args.numbers.items c.loop-at.at c.loop-at.made.items c.if-is_empty-bare.made.items widening_point same at (not_bare c.is_empty.result c.args.bare widening_point c.is_empty.ensures.hull (apart c.is_empty.result c.args.bare w.if-is_empty-bare.false)) c.loop-at.invariant
    ]

pub returns-clause-whole : goal.returns-clause-whole
returns-clause-whole c = λ n widening_point e b. c.loop-at.invariant.whole n widening_point (let l = get_within c.args.widening_points.now n widening_point e in let end = c.loop-at-test.false in omega (arith, l, end)) e b
