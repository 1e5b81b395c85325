use Rattle.std.proofs.Common.{◌≡◌, ◌≤◌, ◌<◌, length, ap, ◌∙◌, arith}
use Rattle.std.specs.Cmp.Lexicographic.{slice_cmp}
use Rattle.std.specs.Ordering.{nat_cmp}
use Rattle.std.specs.declared.cmp.Ordering.TheVariants.{Less}
use Rattle.ac_forms.specs.Rows.{Meets}
use Rattle.ac_widen_programs.specs.PairPathEnds.{entries_at}
use Rattle.ac_unfold.specs.UnfoldEnds.{places_along}
use Rattle.ac_unfold.specs.UnfoldPaths.{BrokenPathsOf}
use Rattle.ac_unfold.specs.BrokenPathResults.{IsPathAt}
use Rattle.ac_unfold.proofs.Reaching.{end_kept, end_more, reached_at, too_many}
use Rattle.ac_unfold.proofs.Results.{at_some}
use Rattle.ac_unfold.proofs.breaks.BrokenPaths.reach.Goals as goal

pub invariant_of-self-then-len-le-MOST_ENDS : goal.invariant_of-self-then-len-le-MOST_ENDS
invariant_of-self-then-len-le-MOST_ENDS c =
    let path = c.in_ok-path.path in
    let less : slice_cmp nat_cmp c.self.inside.last c.in_ok-places.places ≡ Less = cc in
    let places : c.in_ok-places.places ≡ places_along path = c.in_ok-places.ensures ∙ ap places_along c.as_slice-3.ensures in
    let few : length c.push.new.self ≤ 20000 = omega (arith, c.len.ensures, c.if-len-le-MOST_ENDS.true) in
    end_kept c.self.inside.paths c.self.inside.ended c.push.new.self path c.self.inside.last c.in_ok-places.places c.self.invariant less places c.in_ok-push.ensures.ok few

pub returns-then-len-le-MOST_ENDS-clause-paths : goal.returns-then-len-le-MOST_ENDS-clause-paths
returns-then-len-le-MOST_ENDS-clause-paths c = ap (λ (f : BrokenPathsOf). f.paths) c.self.view_is

pub returns-then-len-le-MOST_ENDS-clause-ended : goal.returns-then-len-le-MOST_ENDS-clause-ended
returns-then-len-le-MOST_ENDS-clause-ended c =
    let node = c.args.node.now in
    let path = c.in_ok-path.path in
    let point = c.in-Some.point in
    let there = at_some c.in_ok-point.field-0 point (λ p. (length p.items ≡ node.question.conj.columns) × Meets node.question.conj.rows p.items) c.in-Some.is c.in_ok-point.ensures in
    let are : path ≡ entries_at c.args.params point.items node.pair_path =
    c.in_ok-path.ensures.exact ∙ ap (λ xs. entries_at c.args.params xs c.as_slice-2.result.now) c.deref.ensures.value ∙ ap (entries_at c.args.params point.items) c.as_slice-2.ensures in
    end_more (IsPathAt c.args.params node.pair_path node.question.conj) _ c.self.inside.ended c.push.new.self path (reached_at c.args.params node.pair_path node.question.conj point.items path there are) (ap (λ (f : BrokenPathsOf). f.ended) c.self.view_is) c.in_ok-push.ensures.ok

pub returns-clause-full : goal.returns-clause-full
returns-clause-full c =
    let node = c.args.node.now in
    let path = c.in_ok-path.path in
    let point = c.in-Some.point in
    let there = at_some c.in_ok-point.field-0 point (λ p. (length p.items ≡ node.question.conj.columns) × Meets node.question.conj.rows p.items) c.in-Some.is c.in_ok-point.ensures in
    let are : path ≡ entries_at c.args.params point.items node.pair_path =
    c.in_ok-path.ensures.exact ∙ ap (λ xs. entries_at c.args.params xs c.as_slice-2.result.now) c.deref.ensures.value ∙ ap (entries_at c.args.params point.items) c.as_slice-2.ensures in
    let less : slice_cmp nat_cmp c.self.inside.last c.in_ok-places.places ≡ Less = cc in
    let places : c.in_ok-places.places ≡ places_along path = c.in_ok-places.ensures ∙ ap places_along c.as_slice-3.ensures in
    let many : 20000 < length c.push.new.self = omega (arith, c.len.ensures, c.if-len-le-MOST_ENDS.false) in
    too_many (IsPathAt c.args.params node.pair_path node.question.conj) _ c.self.inside.ended c.push.new.self c.replace-ended.result path c.self.inside.last c.in_ok-places.places c.self.invariant.1 c.self.invariant.2 less places
    (reached_at c.args.params node.pair_path node.question.conj point.items path there are) (ap (λ (f : BrokenPathsOf). f.ended) c.self.view_is) c.in_ok-push.ensures.ok c.replace-ended.ensures.value many
