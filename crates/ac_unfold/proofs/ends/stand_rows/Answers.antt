use Rattle.std.proofs.Common.{rules, ◌+◌, ℕ, List, arith, sym, ap, ◌∙◌, subst, take, drop}
use Rattle.std.proofs.lemmas.List.{take_all, take-append-drop}
use Rattle.ac_forms.specs.declared.row.Row.{Row}
use Rattle.ac_claims_paths.specs.declared.path.Path.{Path}
use Rattle.ac_unfold.specs.EndResults.{EndsMore, FullBy}
use Rattle.ac_unfold.specs.PlanResults.{judge_of}
use Rattle.ac_unfold.specs.PlanGaps.{FindsStood}
use Rattle.ac_unfold.specs.BrokenPathResults.{IsPathAt, IsPathBreaking, KeepsNode}
use Rattle.ac_unfold.specs.EndRows.{AreKept, IsStood}
use Rattle.ac_unfold.specs.UnfoldStops.{StopsStanding}
use Rattle.ac_unfold.specs.declared.ends.Stood.{Stood}
use Rattle.ac_unfold.specs.declared.ends.Stood.TheVariants as stood
use Rattle.ac_unfold.specs.declared.node.Node.{Node}
use Rattle.ac_unfold.proofs.Adding.{adds_end, adds_kept, adds_no_end, adds_then}
use Rattle.ac_unfold.proofs.Beyond.{behind_all}
use Rattle.ac_unfold.proofs.Failing.{breaking_all, breaking_more, breaking_rest}
use Rattle.ac_unfold.proofs.Reaching.{counted_standing, none_by}
use Rattle.ac_unfold.proofs.Results.{ended_made, in_read, kept_more, kept_none, next_item}
use Rattle.ac_unfold.proofs.Stopped.{if_err, standing_among}
use Rattle.ac_forms.specs.Rows.{IsWellMade}
use Rattle.ac_unfold.specs.UnbrokenStarts.{AllHold, HasNoPoint}
use Rattle.ac_unfold.specs.UnbrokenResults.{FindsNone, HoldsOrEnds}
use Rattle.ac_unfold.proofs.Unbroken.{hold_empty, hold_more, hold_none, none_after, none_before}
use Rattle.ac_unfold.proofs.ends.stand_rows.Goals as goal

pub loop-at-init : goal.loop-at-init
loop-at-init c = record {
  kept = kept_none c.args.search.now c.args.node c.new-course.result c.new-course.ensures.node c.new-course.ensures.branches;
  question = ap (λ (n : Node). n.question) c.new-course.ensures.node;
  pair_path = ap (λ (n : Node). n.pair_path) c.new-course.ensures.node;
  spare = c.in_ok-spare.ensures;
  found = adds_end _ _ _ _ c.in_ok-reach.ensures.paths (subst (λ (k : ℕ). EndsMore (IsPathAt k c.args.node.pair_path c.args.node.question.conj) c.args.found_paths.now.ended c.reach.new.self.ended) c.params.ensures c.in_ok-reach.ensures.ended);
  made = search rules;
  met = λ none. hold_none c.args.node.question.conj;
}

pub loop-at-preserved : goal.loop-at-preserved
loop-at-preserved c =
    let rows = c.args.rows.now in
    let i = c.loop-at.at in
    let row = c.index-rows-at.result in
    let more = next_item rows i row c.loop-at-test.true c.index-rows-at.is in
    let same : KeepsNode c.loop-at.course (stood.On c.in-On.next) = subst (KeepsNode c.loop-at.course) c.in-On.is c.in_ok-stood.ensures.kept in
    record {
      kept = subst (λ (xs : List Row). AreKept c.args.search.now c.args.node c.in-On.next xs) (sym more)
          (kept_more c.args.search.now c.args.node c.loop-at.course c.in-On.next (take i rows) row c.loop-at.invariant.kept (subst (λ (x : Stood). IsStood c.args.search.now c.loop-at.course row x) c.in-On.is c.in_ok-stood.ensures.stood));
      question = same.0 ∙ c.loop-at.invariant.question;
      pair_path = same.1 ∙ c.loop-at.invariant.pair_path;
      spare = c.loop-at.invariant.spare;
      found = breaking_more (IsPathAt (judge_of c.args.search.now).params c.args.node.pair_path c.args.node.question.conj) (judge_of c.args.search.now).params c.args.node.pair_path c.loop-at.course.node.pair_path c.args.node.question.conj c.loop-at.course.node.question.conj (take i rows) (take (i + 1) rows) row _ _ _ c.loop-at.invariant.pair_path
          (ap (λ (x : Path). x.conj) c.loop-at.invariant.question) more c.loop-at.invariant.found (adds_no_end _ _ _ _ c.in_ok-stood.ensures.found);
      made = c.loop-at.invariant.made;
      met = (let now = c.loop-at.course.node.question.conj in
          let well : IsWellMade now = subst IsWellMade (sym (ap (λ (x : Path). x.conj) c.loop-at.invariant.question)) c.loop-at.invariant.made in
          hold_more c.args.search.now c.args.node.question.conj now (take i rows) (take (i + 1) rows) row _ _ _ (ap (λ (x : Path). x.conj) c.loop-at.invariant.question) more (adds_kept _ _ _ _ c.loop-at.invariant.found) (adds_kept _ _ _ _ c.in_ok-stood.ensures.found) c.loop-at.invariant.met
          (subst (λ (x : Stood). FindsNone c.args.search.now c.loop-at.found_paths c.stand_row.new.found_paths → HoldsOrEnds now row x) c.in-On.is (c.in_ok-stood.ensures.met well)));
    }

pub returns-in-Ended-clause-stood : goal.returns-in-Ended-clause-stood
returns-in-Ended-clause-stood c =
    let rows = c.args.rows.now in
    ended_made c.args.search.now c.args.node c.loop-at.course (take c.loop-at.at rows) c.in-Ended.plan c.loop-at.invariant.kept (subst (λ (x : Stood). IsStood c.args.search.now c.loop-at.course c.index-rows-at.result x) c.in-Ended.is c.in_ok-stood.ensures.stood)

pub returns-in-Ended-clause-found : goal.returns-in-Ended-clause-found
returns-in-Ended-clause-found c =
    let rows = c.args.rows.now in
    let i = c.loop-at.at in
    let n = (judge_of c.args.search.now).params in
    let v = c.args.node in
    let At = IsPathAt n v.pair_path v.question.conj in
    adds_then (IsPathBreaking n v.pair_path v.question.conj rows) At c.args.found_paths.now c.stand_row.new.found_paths _
    (breaking_all At n v.pair_path v.question.conj (take (i + 1) rows) rows (drop (i + 1) rows) _ _ (sym (take-append-drop (i + 1) rows))
    (breaking_more At n v.pair_path c.loop-at.course.node.pair_path v.question.conj c.loop-at.course.node.question.conj (take i rows) (take (i + 1) rows) c.index-rows-at.result _ _ _ c.loop-at.invariant.pair_path
    (ap (λ (x : Path). x.conj) c.loop-at.invariant.question) (next_item rows i c.index-rows-at.result c.loop-at-test.true c.index-rows-at.is) c.loop-at.invariant.found (adds_no_end _ _ _ _ c.in_ok-stood.ensures.found)))
    (breaking_rest At n v.pair_path v.question.conj (take (i + 1) rows) _ rows _ _ (behind_all rows (i + 1)) (adds_no_end _ _ _ _ (c.in_ok-further-in-Ended.ensures v (c.loop-at.invariant.spare))))

pub returns-clause-stood : goal.returns-clause-stood
returns-clause-stood c = subst (λ (xs : List Row). AreKept c.args.search.now c.args.node c.loop-at.course xs) (take_all c.loop-at.at c.args.rows.now c.loop-at-test.false) c.loop-at.invariant.kept

pub returns-clause-found : goal.returns-clause-found
returns-clause-found c =
    let rows = c.args.rows.now in
    let i = c.loop-at.at in
    breaking_all (IsPathAt (judge_of c.args.search.now).params c.args.node.pair_path c.args.node.question.conj) (judge_of c.args.search.now).params c.args.node.pair_path c.args.node.question.conj (take i rows) rows (drop i rows) _ _ (sym (take-append-drop i rows)) c.loop-at.invariant.found

pub returns-in-Ended-clause-missing : goal.returns-in-Ended-clause-missing
returns-in-Ended-clause-missing c = λ on e.
    let k = adds_kept _ _ _ _ c.loop-at.invariant.found in
    let h : FindsStood c.args.search.now (stood.Ended c.in-Ended.plan) c.loop-at.found_paths c.stand_row.new.found_paths = subst (λ (x : Stood). FindsStood c.args.search.now x c.loop-at.found_paths c.stand_row.new.found_paths) c.in-Ended.is c.in_ok-stood.ensures.missing in
    let more = h on e in
    let further = adds_kept _ _ _ _ (c.in_ok-further-in-Ended.ensures c.args.node c.loop-at.invariant.spare) in
    omega (arith, k, more, further)

pub returns-in_err-stood-clause-causes : goal.returns-in_err-stood-clause-causes
returns-in_err-stood-clause-causes c =
    let b = c.args.search.now.budget in
    let q = c.args.node.question in
    let rows = c.args.rows.now in
    let row = c.index-rows-at.result in
    let stop = c.in_err-stood.field-0.0 in
    if_err (StopsStanding b q.conj rows) c.from_residual-in_err-stood.result stop c.from_residual-in_err-stood.ensures.1
    (standing_among b q.conj c.loop-at.course.node.question.conj rows row stop (ap (λ (x : Path). x.conj) c.loop-at.invariant.question) (in_read rows c.loop-at.at row c.loop-at-test.true c.index-rows-at.is) c.in_err-stood.ensures.causes)

pub returns-in_err-reach-clause-full : goal.returns-in_err-reach-clause-full
returns-in_err-reach-clause-full c =
    let v = c.args.node in
    let stop = c.in_err-reach.field-0.0 in
    let full = subst (λ (k : ℕ). FullBy (IsPathAt k v.pair_path v.question.conj) c.args.found_paths.now.ended stop) c.params.ensures c.in_err-reach.ensures.full in
    if_err (FullBy (IsPathAt (judge_of c.args.search.now).params v.pair_path v.question.conj) c.args.found_paths.now.ended) c.from_residual.result stop c.from_residual.ensures.1 full

pub returns-in_err-reach-clause-causes : goal.returns-in_err-reach-clause-causes
returns-in_err-reach-clause-causes c =
    let s = c.args.search.now in
    let q = c.args.node.question.conj in
    let stop = c.in_err-reach.field-0.0 in
    if_err (StopsStanding s.budget q c.args.rows.now) c.from_residual.result stop c.from_residual.ensures.1 (counted_standing s.budget q c.args.rows.now stop c.in_err-reach.ensures.counted)

pub returns-in_err-stood-clause-full : goal.returns-in_err-stood-clause-full
returns-in_err-stood-clause-full c =
    let v = c.args.node in
    let stop = c.in_err-stood.field-0.0 in
    let At = IsPathAt (judge_of c.args.search.now).params v.pair_path v.question.conj in
    if_err (FullBy At c.args.found_paths.now.ended) c.from_residual-in_err-stood.result stop c.from_residual-in_err-stood.ensures.1 (none_by At c.args.found_paths.now.ended c.loop-at.found_paths.ended stop c.in_err-stood.ensures.full)

-- ---- where no further path is found

pub returns-in-Ended-clause-met : goal.returns-in-Ended-clause-met
returns-in-Ended-clause-met c = λ none.
    let s = c.args.search.now in
    let q = c.args.node.question.conj in
    let now = c.loop-at.course.node.question.conj in
    let same = ap (λ (x : Path). x.conj) c.loop-at.invariant.question in
    let well : IsWellMade now = subst IsWellMade (sym same) c.loop-at.invariant.made in
    let further = adds_kept _ _ _ _ (c.in_ok-further-in-Ended.ensures c.args.node c.loop-at.invariant.spare) in
    let here : FindsNone s c.loop-at.found_paths c.stand_row.new.found_paths = none_before s _ _ _ further (none_after s _ _ _ (adds_kept _ _ _ _ c.loop-at.invariant.found) none) in
    hold_empty q c.args.rows.now (subst HasNoPoint same (subst (λ (x : Stood). FindsNone s c.loop-at.found_paths c.stand_row.new.found_paths → HoldsOrEnds now c.index-rows-at.result x) c.in-Ended.is (c.in_ok-stood.ensures.met well) here))

pub returns-clause-met : goal.returns-clause-met
returns-clause-met c = λ none. subst (AllHold c.args.node.question.conj) (take_all c.loop-at.at c.args.rows.now c.loop-at-test.false) (c.loop-at.invariant.met none)
