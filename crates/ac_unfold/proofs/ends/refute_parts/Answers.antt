use Rattle.std.proofs.Common.{[], ◌∷◌, ◌++◌, ◌+◌, List, arith, refl, sym, ap, subst, take, drop}
use Rattle.std.proofs.lemmas.List.{take_all, take-append-drop}
use Rattle.ac_claims.specs.declared.types.Plan.{Plan}
use Rattle.ac_claims_paths.specs.declared.path.Path.{Path}
use Rattle.ac_claims_plans.specs.declared.branching.Part.{Part}
use Rattle.ac_unfold.specs.EndResults.{FullBy}
use Rattle.ac_unfold.specs.PlanResults.{judge_of, IsRefuted}
use Rattle.ac_unfold.specs.BrokenPathResults.{IsNone}
use Rattle.ac_unfold.specs.EndRows.{AreRefutedOn}
use Rattle.ac_unfold.specs.UnfoldStops.{StopsOutside}
use Rattle.ac_unfold.proofs.Adding.{adds_kept, adds_none, beside_all, beside_some}
use Rattle.ac_unfold.proofs.Reaching.{none_by}
use Rattle.ac_unfold.proofs.Results.{at_some, in_read, next_item, refuted_more, refuted_none, refuted_off}
use Rattle.ac_unfold.proofs.Stopped.{if_err, on_side_of}
use Rattle.ac_unfold.specs.UnbrokenResults.{AreEmpty}
use Rattle.ac_unfold.proofs.Unbroken.{empty_more, empty_none, none_after, none_before, not_making, not_more}
use Rattle.ac_unfold.proofs.ends.refute_parts.Goals as goal
use Rattle.ac_unfold.proofs.ends.refute_parts.Goals.{then-search-via-then-search, then-search-via-else-search+then-len-before}

pub loop-part-init : goal.loop-part-init
loop-part-init c = record {
  refuted = subst (λ (ts : List Plan). AreRefutedOn c.args.search.now c.args.node.now.embedding c.args.node.now.question [] ts) (sym c.new-plans.ensures.items) (refuted_none c.args.search.now c.args.node.now.embedding c.args.node.now.question);
  found = adds_none _ _ _ _ refl;
  empty = λ none. empty_none c.args.node.now.question.conj;
}

pub loop-part-preserved-in-Some : goal.loop-part-preserved-in-Some
loop-part-preserved-in-Some c =
    let s = c.args.node.now.embedding in
    let q = c.args.node.now.question in
    let ps = c.args.outside.now in
    let p = c.part-item.result in
    let i = c.loop-part.part-index in
    let b = c.in_ok-beside.beside in
    let t = c.in-Some.plan in
    let more = next_item ps i p c.loop-part-test.true c.part-item.is in
    let r : IsRefuted b.embedding b.question t = at_some c.in_ok-plan.field-0 t (IsRefuted b.embedding b.question) c.in-Some.is c.in_ok-plan.ensures.made in
    record {
      refuted = subst (λ (xs : List Part). AreRefutedOn c.args.search.now s q xs c.push.new.self.items) (sym more)
          (subst (λ (ts : List Plan). AreRefutedOn c.args.search.now s q (take i ps ++ p ∷ []) ts) (sym c.in_ok-push-in-Some.ensures.items) (refuted_more c.args.search.now s q (take i ps) c.loop-part.plans.items p b t c.loop-part.invariant.refuted c.in_ok-beside.ensures.question c.in_ok-beside.ensures.embedding r));
      found = beside_some IsNone (judge_of c.args.search.now).params c.args.node.now.pair_path b.pair_path q.conj b.question.conj (take i ps) (take (i + 1) ps) p _ _ _ c.loop-part.invariant.found c.in_ok-beside.ensures.pair_path (ap (λ (x : Path). x.conj) c.in_ok-beside.ensures.question) more c.in_ok-plan.ensures.found;
      empty = λ none.
          empty_more q.conj b.question.conj (take i ps) (take (i + 1) ps) p more (ap (λ (x : Path). x.conj) c.in_ok-beside.ensures.question) (c.loop-part.invariant.empty (none_before c.args.search.now _ _ _ (adds_kept _ _ _ _ c.in_ok-plan.ensures.found) none))
          (c.in_ok-plan.ensures.empty (none_after c.args.search.now _ _ _ (adds_kept _ _ _ _ c.loop-part.invariant.found) none));
    }

pub loop-part-preserved : goal.loop-part-preserved
loop-part-preserved c =
    let q = c.args.node.now.question in
    let ps = c.args.outside.now in
    let p = c.part-item.result in
    let i = c.loop-part.part-index in
    let b = c.in_ok-beside.beside in
    record {
      refuted = refuted_off c.args.search.now c.args.node.now.embedding c.args.node.now.question (take (c.loop-part.part-index + 1) c.args.outside.now) c.loop-part.plans.items c.if-search.false;
      found = beside_some IsNone (judge_of c.args.search.now).params c.args.node.now.pair_path b.pair_path q.conj b.question.conj (take i ps) (take (i + 1) ps) p _ _ _ c.loop-part.invariant.found c.in_ok-beside.ensures.pair_path (ap (λ (x : Path). x.conj) c.in_ok-beside.ensures.question) (next_item ps i p c.loop-part-test.true c.part-item.is) c.in_ok-plan.ensures.found;
      empty = λ none.
          empty_more q.conj b.question.conj (take i ps) (take (i + 1) ps) p (next_item ps i p c.loop-part-test.true c.part-item.is) (ap (λ (x : Path). x.conj) c.in_ok-beside.ensures.question)
          (c.loop-part.invariant.empty (none_before c.args.search.now _ _ _ (adds_kept _ _ _ _ c.in_ok-plan.ensures.found) none)) (c.in_ok-plan.ensures.empty (none_after c.args.search.now _ _ _ (adds_kept _ _ _ _ c.loop-part.invariant.found) none));
    }

pub returns-then-search-clause-found : goal.returns-then-search-clause-found
returns-then-search-clause-found c =
    let q = c.args.node.now.question in
    let ps = c.args.outside.now in
    let p = c.part-item.result in
    let i = c.loop-part.part-index in
    let b = c.in_ok-beside.beside in
    let n = (judge_of c.args.search.now).params in
    beside_all IsNone n c.args.node.now.pair_path q.conj (take (i + 1) ps) ps (drop (i + 1) ps) _ _ (sym (take-append-drop (i + 1) ps))
    (beside_some IsNone n c.args.node.now.pair_path b.pair_path q.conj b.question.conj (take i ps) (take (i + 1) ps) p _ _ _ c.loop-part.invariant.found c.in_ok-beside.ensures.pair_path (ap (λ (x : Path). x.conj) c.in_ok-beside.ensures.question) (next_item ps i p c.loop-part-test.true c.part-item.is) c.in_ok-plan.ensures.found)

pub returns-clause-closed : goal.returns-clause-closed
returns-clause-closed c = subst (λ (xs : List Part). AreRefutedOn c.args.search.now c.args.node.now.embedding c.args.node.now.question xs c.loop-part.plans.items) (take_all c.loop-part.part-index c.args.outside.now c.loop-part-test.false) c.loop-part.invariant.refuted

pub returns-clause-found : goal.returns-clause-found
returns-clause-found c =
    let ps = c.args.outside.now in
    let i = c.loop-part.part-index in
    beside_all IsNone (judge_of c.args.search.now).params c.args.node.now.pair_path c.args.node.now.question.conj (take i ps) ps (drop i ps) _ _ (sym (take-append-drop i ps)) c.loop-part.invariant.found

pub returns-then-search-clause-missing : goal.returns-then-search-clause-missing
returns-then-search-clause-missing c = λ on.
    let k = adds_kept _ _ _ _ c.loop-part.invariant.found in
    let more = c.in_ok-plan.ensures.missing on c.in-None.is in
    omega (arith, k, more)

pub returns-in_err-plan-clause-causes : goal.returns-in_err-plan-clause-causes
returns-in_err-plan-clause-causes c =
    let b = c.args.search.now.budget in
    let q = c.args.node.now.question in
    let ps = c.args.outside.now in
    let p = c.part-item.result in
    let stop = c.in_err-plan.field-0.0 in
    if_err (StopsOutside b q.conj ps) c.from_residual-in_err-plan.result stop c.from_residual-in_err-plan.ensures.1
    (on_side_of b q c.in_ok-beside.beside.question ps p stop (in_read ps c.loop-part.part-index p c.loop-part-test.true c.part-item.is) c.in_ok-beside.ensures.question c.in_err-plan.ensures.causes)

pub returns-in_err-plan-clause-full : goal.returns-in_err-plan-clause-full
returns-in_err-plan-clause-full c =
    let stop = c.in_err-plan.field-0.0 in
    if_err (FullBy IsNone c.args.found_paths.now.ended) c.from_residual-in_err-plan.result stop c.from_residual-in_err-plan.ensures.1 (none_by IsNone c.args.found_paths.now.ended c.loop-part.found_paths.ended stop c.in_err-plan.ensures.full)

pub returns-then-search-clause-empty : goal.returns-then-search-clause-empty
returns-then-search-clause-empty c = λ none.
    let s = c.args.search.now in
    elim c.then-search.branch [
      | then-search-via-then-search w ↦ not_making s _ _ w.if-search.true none
      | then-search-via-else-search+then-len-before w ↦
          (let more = w.if-len-before.true in
          let before = c.len-before.ensures in
          let after = w.len.ensures in
          not_more s c.args.found_paths.now c.loop-part.found_paths c.refuted_part.new.found_paths (adds_kept _ _ _ _ c.loop-part.invariant.found) (omega (arith, more, before, after)) none)
    ]

pub returns-clause-empty : goal.returns-clause-empty
returns-clause-empty c = λ none. subst (AreEmpty c.args.node.now.question.conj) (take_all c.loop-part.part-index c.args.outside.now c.loop-part-test.false) (c.loop-part.invariant.empty none)
