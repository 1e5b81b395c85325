use Rattle.std.proofs.Common.{ℕ, List, subst}
use Rattle.std.proofs.lemmas.Result.{IfErr-weaker}
use Rattle.ac_widen.specs.declared.derivation.Entry.{Entry}
use Rattle.ac_unfold.specs.EndResults.{EndsMore, FullBy}
use Rattle.ac_unfold.specs.PlanResults.{judge_of}
use Rattle.ac_unfold.specs.BrokenPathResults.{Adds, IsNone, IsPathAt}
use Rattle.ac_unfold.specs.UnfoldStops.{StopsAsking}
use Rattle.ac_unfold.proofs.Adding.{adds_end, adds_no_end, adds_then}
use Rattle.ac_unfold.proofs.Coming.{on_ok}
use Rattle.ac_unfold.proofs.Missing.{finds_after}
use Rattle.ac_unfold.proofs.Reaching.{counted_asking, none_by}
use Rattle.ac_unfold.proofs.Stopped.{if_err}
use Rattle.ac_unfold.proofs.Unbroken.{none_same}
use Rattle.ac_unfold.proofs.ends.mismatch.Goals as goal

pub returns-clause-missing : goal.returns-clause-missing
returns-clause-missing c = finds_after c.refuted.result c.args.search.now c.args.found_paths.now c.reach.new.self c.refuted.new.found_paths c.in_ok-reach.ensures.paths c.refuted.ensures.missing

pub returns-clause-found : goal.returns-clause-found
returns-clause-found c =
    let v = c.args.node.now in
    let n = (judge_of c.args.search.now).params in
    let At : List Entry → Type 0 = IsPathAt n v.pair_path v.question.conj in
    let before = c.args.found_paths.now in
    let now = c.reach.new.self in
    let ended : EndsMore At before.ended now.ended = subst (λ (k : ℕ). EndsMore (IsPathAt k v.pair_path v.question.conj) before.ended now.ended) c.params.ensures c.in_ok-reach.ensures.ended in
    on_ok c.refuted.result (Adds At IsNone now c.refuted.new.found_paths) _ (λ h. adds_then At At before now c.refuted.new.found_paths (adds_end At At before now c.in_ok-reach.ensures.paths ended) (adds_no_end At At now c.refuted.new.found_paths h)) c.refuted.ensures.found

pub returns-clause-full : goal.returns-clause-full
returns-clause-full c =
    let v = c.args.node.now in
    let At : List Entry → Type 0 = IsPathAt (judge_of c.args.search.now).params v.pair_path v.question.conj in
    IfErr-weaker c.refuted.result (FullBy IsNone c.reach.new.self.ended) _ (λ stop h. none_by At c.args.found_paths.now.ended c.reach.new.self.ended stop h) c.refuted.ensures.full

pub returns-in_err-reach-clause-full : goal.returns-in_err-reach-clause-full
returns-in_err-reach-clause-full c =
    let v = c.args.node.now in
    let stop = c.in_err-reach.field-0.0 in
    let full = subst (λ (k : ℕ). FullBy (IsPathAt k v.pair_path v.question.conj) c.args.found_paths.now.ended stop) c.params.ensures c.in_err-reach.ensures.full in
    if_err (FullBy (IsPathAt (judge_of c.args.search.now).params v.pair_path v.question.conj) c.args.found_paths.now.ended) c.from_residual.result stop c.from_residual.ensures.1 full

pub returns-in_err-reach-clause-causes : goal.returns-in_err-reach-clause-causes
returns-in_err-reach-clause-causes c =
    let s = c.args.search.now in
    let q = c.args.node.now.question.conj in
    let stop = c.in_err-reach.field-0.0 in
    if_err (StopsAsking s.budget q) c.from_residual.result stop c.from_residual.ensures.1 (counted_asking s.budget q stop c.in_err-reach.ensures.counted)

pub returns-clause-empty : goal.returns-clause-empty
returns-clause-empty c = none_same c.refuted.result c.args.search.now c.args.found_paths.now c.reach.new.self c.refuted.new.found_paths _ c.in_ok-reach.ensures.paths c.refuted.ensures.empty
