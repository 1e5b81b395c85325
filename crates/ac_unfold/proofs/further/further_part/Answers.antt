use Rattle.std.proofs.Common.{◌≡◌, [], ◌∷◌, ◌++◌, refl, ap, ◌∙◌, subst}
use Rattle.ac_claims_paths.specs.declared.path.Path.{Path}
use Rattle.ac_widen_programs.specs.PairPathEnds.{entries_at}
use Rattle.ac_unfold.specs.PlanResults.{judge_of}
use Rattle.ac_unfold.specs.BrokenPathResults.{IsNone, IsPointIn}
use Rattle.ac_unfold.proofs.Adding.{adds_none, beside_some, found_at}
use Rattle.ac_unfold.proofs.Beyond.{on_ok, point_in}
use Rattle.ac_unfold.proofs.further.further_part.Goals as goal

pub returns-then-is_some : goal.returns-then-is_some
returns-then-is_some c = adds_none _ _ _ _ refl

pub returns : goal.returns
returns c = on_ok _ _ (adds_none _ _ _ _ refl)

pub returns-in-Some-Point : goal.returns-in-Some-Point
returns-in-Some-Point c =
    let n = c.args.node.now in
    let b = c.in_ok-beside.beside in
    let k = (judge_of c.args.search.now).params in
    let p = c.in-Some-Point.point in
    let there = subst (IsPointIn b.question.conj) c.in-Some-Point.field-0-is (point_in b.question.conj c.decide_question.result c.in_ok-point.field-0 c.in-Some-Point.field-0 c.decide_question.ensures.point c.in_ok-point.ensures.answered c.in-Some-Point.is) in
    let paths : c.push.new.self.paths ≡ c.args.found_paths.now.paths ++ entries_at c.params.result p.items b.pair_path ∷ [] =
    c.in_ok-push-in-Some-Point.ensures.paths ∙ ap (λ xs. c.args.found_paths.now.paths ++ entries_at c.params.result xs b.pair_path ∷ []) c.deref.ensures.value in
    beside_some IsNone k n.pair_path b.pair_path n.question.conj b.question.conj [] (c.args.part.now ∷ []) c.args.part.now _ _ _ (adds_none _ _ _ _ refl) c.in_ok-beside.ensures.pair_path (ap (λ (x : Path). x.conj) c.in_ok-beside.ensures.question) refl
    (found_at IsNone c.params.result k b.pair_path b.question.conj p.items _ _ c.params.ensures there paths c.in_ok-push-in-Some-Point.ensures.ended)
