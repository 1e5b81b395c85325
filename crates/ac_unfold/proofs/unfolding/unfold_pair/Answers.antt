use Rattle.std.proofs.Common.{List, Ok, Some, refl, sym, subst}
use Rattle.std.proofs.lemmas.Result.{IfErr-weaker}
use Rattle.ac_forms.specs.declared.row.Row.{Row}
use Rattle.ac_syntax.specs.declared.tree.Order.TheVariants.{Keep}
use Rattle.ac_unfold.specs.UnfoldQuestions.{AreTargets}
use Rattle.ac_unfold.specs.KillCuts.{IsNext}
use Rattle.ac_unfold.specs.EndResults.{FullUnder, IsEndOfSteps}
use Rattle.ac_unfold.specs.PlanResults.{judge_of, IsEndFor, IsMade}
use Rattle.ac_unfold.specs.BrokenPathResults.{IsAt, IsKindThere}
use Rattle.ac_unfold.specs.SearchPlanStops.{IsUnclaimed, MayStep}
use Rattle.ac_unfold.specs.UnfoldStops.{Follows, HasItsCalls, IsMatchOf, StopsUnder}
use Rattle.ac_unfold.specs.declared.kinds.Next.{Next}
use Rattle.ac_unfold.specs.declared.kinds.Next.TheVariants as kind
use Rattle.ac_unfold.specs.declared.tasks.Task.TheVariants as task
use Rattle.ac_unfold.proofs.Coming.{broken_past, match_broken, mismatch_broken, on_ok}
use Rattle.ac_unfold.proofs.Full.{full_end, full_hands}
use Rattle.ac_unfold.proofs.PairTasks.{all_ended, ended_stops, onward_full, onward_goes, onward_stops, tabled_goes}
use Rattle.ac_unfold.proofs.Places.{asking_stops, match_stops}
use Rattle.ac_unfold.proofs.Results.{all_refuted_made}
use Rattle.ac_unfold.proofs.Stopped.{followed_hands, if_err}
use Rattle.ac_unfold.proofs.Unbroken.{empty_stands, match_stands, none_by}
use Rattle.ac_unfold.proofs.unfolding.unfold_pair.Goals as goal

-- ---- at a claim

pub returns-in-Some-clause-goes : goal.returns-in-Some-clause-goes
returns-in-Some-clause-goes c =
    let s = c.args.search.now in
    let n = c.args.node in
    let r = c.at_claim-made.result in
    all_ended s (task.Visit n) c.ended.result r (IsMade s n.embedding n.question) c.args.plans.now.items c.ended.new.plans.items c.args.found_paths.now c.at_claim-made.new.found_paths c.ended.ensures.ends (λ ps qs one. one) c.at_claim-made.ensures.missing c.at_claim-made.ensures.made c.at_claim-made.ensures.stands c.at_claim-made.ensures.broken

pub returns-in-Some-clause-causes : goal.returns-in-Some-clause-causes
returns-in-Some-clause-causes c = ended_stops c.ended.result c.at_claim-made.result (StopsUnder c.args.search.now (Follows c.args.search.now c.args.node.pair_path c.args.node.question)) (λ want. tt) c.ended.ensures.stops c.at_claim-made.ensures.causes

pub returns-in-Some-clause-full : goal.returns-in-Some-clause-full
returns-in-Some-clause-full c =
    let n = c.args.node in
    ended_stops c.ended.result c.at_claim-made.result (FullUnder c.args.search.now (IsAt c.args.search.now n.pair_path n.question) c.args.found_paths.now) (λ want. tt) c.ended.ensures.stops c.at_claim-made.ensures.full

-- ---- at a tabled claim

pub returns-in-Some-tabled-clause-goes : goal.returns-in-Some-tabled-clause-goes
returns-in-Some-tabled-clause-goes c =
    let s = c.args.search.now in
    let n = c.args.node in
    tabled_goes s n c.ended-in-Some-tabled.result c.in-Some-tabled.plan c.in_ok-tabled.tabled c.args.plans.now.items c.ended-in-Some-tabled.new.plans.items c.args.found_paths.now c.args.found_paths.now c.in-Some-tabled.is c.in_ok-tabled.ensures.making c.in_ok-tabled.ensures.made refl c.ended-in-Some-tabled.ensures.ends

pub returns-in-Some-tabled-clause-causes : goal.returns-in-Some-tabled-clause-causes
returns-in-Some-tabled-clause-causes c = ended_stops c.ended-in-Some-tabled.result (Ok (Some c.in-Some-tabled.plan)) (StopsUnder c.args.search.now (Follows c.args.search.now c.args.node.pair_path c.args.node.question)) (λ want. tt) c.ended-in-Some-tabled.ensures.stops tt

pub returns-in-Some-tabled-clause-full : goal.returns-in-Some-tabled-clause-full
returns-in-Some-tabled-clause-full c =
    let n = c.args.node in
    ended_stops c.ended-in-Some-tabled.result (Ok (Some c.in-Some-tabled.plan)) (FullUnder c.args.search.now (IsAt c.args.search.now n.pair_path n.question) c.args.found_paths.now) (λ want. tt) c.ended-in-Some-tabled.ensures.stops tt

-- ---- what comes next is not formed

pub returns-in_err-next-clause-causes : goal.returns-in_err-next-clause-causes
returns-in_err-next-clause-causes c =
    let s = c.args.search.now in
    let q = c.args.node.question in
    let stop = c.in_err-next.field-0.0 in
    if_err (StopsUnder s (Follows s c.args.node.pair_path q)) c.from_residual-in_err-next.result stop c.from_residual-in_err-next.ensures.1 (followed_hands s c.args.node.pair_path q stop c.in_err-next.ensures.causes)

pub returns-in_err-next-clause-full : goal.returns-in_err-next-clause-full
returns-in_err-next-clause-full c =
    let s = c.args.search.now in
    let v = c.args.node in
    let stop = c.in_err-next.field-0.0 in
    if_err (FullUnder s (IsAt s v.pair_path v.question) c.args.found_paths.now) c.from_residual-in_err-next.result stop c.from_residual-in_err-next.ensures.1
    (full_hands s (IsAt s v.pair_path v.question) c.args.found_paths.now v.question.conj _ stop c.in_err-next.ensures.causes)

-- ---- reads and outputs

pub read-requires : goal.read-requires
read-requires c =
    let s = c.args.search.now in
    let q = c.args.node.question in
    let unclaimed : IsUnclaimed s q = record { none = c.claim_of.ensures.none c.in_default.is; passes = c.in_ok-tabled.ensures.none c.in_default-tabled.is } in
    let may : MayStep s q Keep = record { unclaimed = unclaimed; takes = subst (λ (x : Next). IsNext s q x) c.in-Read.is c.in_ok-next.ensures.next } in
    record { kind = subst (λ (x : Next). IsKindThere s q x) c.in-Read.is c.in_ok-next.ensures.kind; may = may }

pub returns-in-Read-clause-goes : goal.returns-in-Read-clause-goes
returns-in-Read-clause-goes c = onward_goes c.args.search.now (task.Visit c.args.node) c.onward.result c.read.result c.args.plans.now.items c.read.new.plans.items _ _ c.onward.ensures refl c.read.ensures.unfolds

pub returns-in-Read-clause-causes : goal.returns-in-Read-clause-causes
returns-in-Read-clause-causes c = onward_stops c.onward.result c.read.result (StopsUnder c.args.search.now (Follows c.args.search.now c.args.node.pair_path c.args.node.question)) c.onward.ensures c.read.ensures.causes

pub returns-in-Read-clause-full : goal.returns-in-Read-clause-full
returns-in-Read-clause-full c =
    let n = c.args.node in
    onward_full c.args.search.now (IsAt c.args.search.now n.pair_path n.question) c.args.found_paths.now c.onward.result c.read.result c.onward.ensures c.read.ensures.never

-- ---- calls

pub calls-requires : goal.calls-requires
calls-requires c =
    let s = c.args.search.now in
    let q = c.args.node.question in
    let unclaimed : IsUnclaimed s q = record { none = c.claim_of.ensures.none c.in_default.is; passes = c.in_ok-tabled.ensures.none c.in_default-tabled.is } in
    let may : MayStep s q c.in-Calls.order = record { unclaimed = unclaimed; takes = subst (λ (x : Next). IsNext s q x) c.in-Calls.is c.in_ok-next.ensures.next } in
    record { kind = subst (λ (x : Next). IsKindThere s q x) c.in-Calls.is c.in_ok-next.ensures.kind; calls = subst (λ (x : Next). HasItsCalls s q x) c.in-Calls.is c.in_ok-next.ensures.calls; may = may }

pub returns-in-Calls-clause-goes : goal.returns-in-Calls-clause-goes
returns-in-Calls-clause-goes c = onward_goes c.args.search.now (task.Visit c.args.node) c.onward-in-Calls.result c.calls.result c.args.plans.now.items c.calls.new.plans.items _ _ c.onward-in-Calls.ensures refl c.calls.ensures.unfolds

pub returns-in-Calls-clause-causes : goal.returns-in-Calls-clause-causes
returns-in-Calls-clause-causes c = onward_stops c.onward-in-Calls.result c.calls.result (StopsUnder c.args.search.now (Follows c.args.search.now c.args.node.pair_path c.args.node.question)) c.onward-in-Calls.ensures c.calls.ensures.causes

pub returns-in-Calls-clause-full : goal.returns-in-Calls-clause-full
returns-in-Calls-clause-full c =
    let n = c.args.node in
    onward_full c.args.search.now (IsAt c.args.search.now n.pair_path n.question) c.args.found_paths.now c.onward-in-Calls.result c.calls.result c.onward-in-Calls.ensures c.calls.ensures.never

-- ---- rows that have to stand

pub stand-made-requires : goal.stand-made-requires
stand-made-requires c =
    let s = c.args.search.now in
    let q = c.args.node.question in
    subst (λ (rows : List Row). IsEndFor s q rows c.in-Match.end) (sym c.as_slice.ensures) (subst (λ (x : Next). IsNext s q x) c.in-Match.is c.in_ok-next.ensures.next (record { none = c.claim_of.ensures.none c.in_default.is; passes = c.in_ok-tabled.ensures.none c.in_default-tabled.is }))

pub returns-in-Match-clause-goes : goal.returns-in-Match-clause-goes
returns-in-Match-clause-goes c =
    let s = c.args.search.now in
    let v = c.args.node in
    let q = v.question in
    let r = c.stand-made.result in
    let none = c.claim_of.ensures.none c.in_default.is in
    let targets = subst (λ (rows : List Row). AreTargets (judge_of s) s.claims.now q (Some rows)) (sym c.as_slice.ensures) (subst (λ (x : Next). IsMatchOf s q x) c.in-Match.is c.in_ok-next.ensures.targets) in
    let there = subst (λ (xs : List Row). IsKindThere s q (kind.Match xs c.in-Match.end)) (sym c.as_slice.ensures) (subst (λ (x : Next). IsKindThere s q x) c.in-Match.is c.in_ok-next.ensures.kind) in
    let ends = subst (λ (x : Next). IsEndOfSteps s q x) c.in-Match.is c.in_ok-next.ensures.ends in
    all_ended s (task.Visit v) c.ended-in-Match.result r (IsMade s v.embedding q) c.args.plans.now.items c.ended-in-Match.new.plans.items c.args.found_paths.now c.stand-made.new.found_paths c.ended-in-Match.ensures.ends (λ ps qs one. one) c.stand-made.ensures.missing c.stand-made.ensures.made
    (none_by r s c.args.found_paths.now c.stand-made.new.found_paths _ _ (match_stands s q c.as_slice.result.now none targets) c.stand-made.ensures.met)
    (on_ok r _ _ (λ h. broken_past s v.pair_path q _ _ none (match_broken s v.pair_path q c.as_slice.result.now c.in-Match.end _ _ there ends targets h)) c.stand-made.ensures.found)

pub returns-in-Match-clause-causes : goal.returns-in-Match-clause-causes
returns-in-Match-clause-causes c =
    let s = c.args.search.now in
    let q = c.args.node.question in
    ended_stops c.ended-in-Match.result c.stand-made.result (StopsUnder s (Follows s c.args.node.pair_path q)) (λ want. tt) c.ended-in-Match.ensures.stops
    (match_stops c.stand-made.result s c.args.node.pair_path q c.as_slice.result.now
    (subst (λ (rows : List Row). AreTargets (judge_of s) s.claims.now q (Some rows)) (sym c.as_slice.ensures) (subst (λ (x : Next). IsMatchOf s q x) c.in-Match.is c.in_ok-next.ensures.targets)) c.stand-made.ensures.causes)

pub returns-in-Match-clause-full : goal.returns-in-Match-clause-full
returns-in-Match-clause-full c =
    let s = c.args.search.now in
    let v = c.args.node in
    ended_stops c.ended-in-Match.result c.stand-made.result (FullUnder s (IsAt s v.pair_path v.question) c.args.found_paths.now) (λ want. tt) c.ended-in-Match.ensures.stops
    (IfErr-weaker c.stand-made.result _ _ (full_end s v.pair_path v.question c.args.found_paths.now (c.claim_of.ensures.none c.in_default.is) (subst (λ (x : Next). IsEndOfSteps s v.question x) c.in-Match.is c.in_ok-next.ensures.ends)) c.stand-made.ensures.full)

-- ---- mismatches

pub returns-clause-goes : goal.returns-clause-goes
returns-clause-goes c =
    let s = c.args.search.now in
    let v = c.args.node in
    let q = v.question in
    let r = c.mismatch-made.result in
    let none = c.claim_of.ensures.none c.in_default.is in
    let there = subst (λ (x : Next). IsKindThere s q x) c.in-Mismatch.is c.in_ok-next.ensures.kind in
    let ends = subst (λ (x : Next). IsEndOfSteps s q x) c.in-Mismatch.is c.in_ok-next.ensures.ends in
    all_ended s (task.Visit v) c.ended-in-Mismatch.result r (IsMade s v.embedding q) c.args.plans.now.items c.ended-in-Mismatch.new.plans.items c.args.found_paths.now c.mismatch-made.new.found_paths c.ended-in-Mismatch.ensures.ends (λ ps qs one. one) c.mismatch-made.ensures.missing
    (all_refuted_made r s v.embedding q c.mismatch-made.ensures.made) (none_by r s c.args.found_paths.now c.mismatch-made.new.found_paths _ _ (empty_stands s q) c.mismatch-made.ensures.empty)
    (on_ok r _ _ (λ h. broken_past s v.pair_path q _ _ none (mismatch_broken s v.pair_path q _ _ there ends h)) c.mismatch-made.ensures.found)

pub returns-clause-causes : goal.returns-clause-causes
returns-clause-causes c =
    let s = c.args.search.now in
    let q = c.args.node.question in
    ended_stops c.ended-in-Mismatch.result c.mismatch-made.result (StopsUnder s (Follows s c.args.node.pair_path q)) (λ want. tt) c.ended-in-Mismatch.ensures.stops (asking_stops c.mismatch-made.result s c.args.node.pair_path q c.mismatch-made.ensures.causes)

pub returns-clause-full : goal.returns-clause-full
returns-clause-full c =
    let s = c.args.search.now in
    let v = c.args.node in
    ended_stops c.ended-in-Mismatch.result c.mismatch-made.result (FullUnder s (IsAt s v.pair_path v.question) c.args.found_paths.now) (λ want. tt) c.ended-in-Mismatch.ensures.stops
    (IfErr-weaker c.mismatch-made.result _ _ (full_end s v.pair_path v.question c.args.found_paths.now (c.claim_of.ensures.none c.in_default.is) (subst (λ (x : Next). IsEndOfSteps s v.question x) c.in-Mismatch.is c.in_ok-next.ensures.ends)) c.mismatch-made.ensures.full)
