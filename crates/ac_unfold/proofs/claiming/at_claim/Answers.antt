use Rattle.std.proofs.Common.{◌≡◌, ◌+◌, ◌<◌, ltb, true, ℕ, List, length, Some, None, refl, sym, ap, ◌∙◌, subst, arith}
use Rattle.std.proofs.lemmas.Bool.Decides.{nat_tests}
use Rattle.std.proofs.lemmas.Option.{slice_get_read}
use Rattle.std.proofs.lemmas.Result.{IfErr-weaker}
use Rattle.ac_forms.specs.Renaming.{rows_renaming}
use Rattle.ac_forms.specs.declared.row.Row.{Row}
use Rattle.ac_claims.specs.declared.types.PlanNext.TheVariants.{Hit}
use Rattle.ac_unfold.specs.UnfoldQuestions.{AreTargets}
use Rattle.ac_unfold.specs.KillCuts.{columns_there}
use Rattle.ac_unfold.specs.EndResults.{FullUnder}
use Rattle.ac_unfold.specs.PlanResults.{judge_of, IsEndFor}
use Rattle.ac_unfold.proofs.Matching.{claim_ends}
use Rattle.ac_unfold.specs.BrokenPathResults.{Adds, IsAt, IsPathAt, IsPathBreaking}
use Rattle.ac_unfold.specs.UnfoldStops.{Follows, StopsStanding, StopsUnder}
use Rattle.ac_unfold.proofs.Coming.{claim_broken, on_ok}
use Rattle.ac_unfold.proofs.Full.{full_claim, full_hands}
use Rattle.ac_unfold.proofs.Results.{get_below}
use Rattle.ac_unfold.proofs.Stopped.{claim_targets, followed_hands, followed_standing, hands_because, if_err}
use Rattle.ac_unfold.proofs.Unbroken.{claim_stands, none_by}
use Rattle.ac_unfold.proofs.claiming.at_claim.Goals as goal

below : (a b : ℕ) → ltb a b ≡ true → a < b
below a b e = grind (arith, nat_tests)

pub unreachable-requires : goal.unreachable-requires
unreachable-requires c =
    let l = c.in_default.ensures.lookup.3 in
    let there = get_below c.args.search.now.claims.now c.args.number c.requires.at.claim c.requires.at.is in
    omega (arith, l, there)

pub stand-requires : goal.stand-requires
stand-requires c =
    let s = c.args.search.now in
    let q = c.args.node.question in
    let rows : Some c.in_ok-rows.rows ≡ rows_renaming (columns_there s q) c.in-Some.claim.now.rows = c.in_ok-rows.ensures.rows in
    let within : c.args.number < length s.claims.now = below c.args.number (length s.claims.now) (sym c.in-Some.ensures.lookup.0) in
    subst (λ (n : ℕ). IsEndFor s q c.as_slice.result.now (Hit n)) (sym c.in_ok-column_after.ensures)
    (subst (λ (xs : List Row). IsEndFor s q xs (Hit (s.base + c.args.number))) (sym c.as_slice.ensures) (claim_ends s q c.args.number c.in-Some.claim.now c.in_ok-rows.rows c.requires (slice_get_read s.claims.now (length s.claims.now) c.args.number c.in-Some.claim.now refl within c.in-Some.ensures.lookup.1) rows))

pub returns-clause-broken : goal.returns-clause-broken
returns-clause-broken c =
    let s = c.args.search.now in
    let q = c.args.node.question in
    let n = (judge_of s).params in
    let rows : Some c.in_ok-rows.rows ≡ rows_renaming (columns_there s q) c.in-Some.claim.now.rows = c.in_ok-rows.ensures.rows in
    let within : c.args.number < length s.claims.now = below c.args.number (length s.claims.now) (sym c.in-Some.ensures.lookup.0) in
    let there = slice_get_read s.claims.now (length s.claims.now) c.args.number c.in-Some.claim.now refl within c.in-Some.ensures.lookup.1 in
    on_ok c.stand.result (Adds (IsPathBreaking n c.args.node.pair_path q.conj c.as_slice.result.now) (IsPathAt n c.args.node.pair_path q.conj) c.args.found_paths.now c.stand.new.found_paths) _
    (λ h. claim_broken s c.args.node.pair_path q c.args.number c.in-Some.claim.now c.in_ok-rows.rows c.args.found_paths.now c.stand.new.found_paths c.requires there rows (claim_targets s q c.args.number c.in-Some.claim.now (Some c.in_ok-rows.rows) c.requires there rows)
    (subst (λ (xs : List Row). Adds (IsPathBreaking n c.args.node.pair_path q.conj xs) (IsPathAt n c.args.node.pair_path q.conj) c.args.found_paths.now c.stand.new.found_paths) c.as_slice.ensures h)) c.stand.ensures.found

pub returns-in_err-rows-clause-causes : goal.returns-in_err-rows-clause-causes
returns-in_err-rows-clause-causes c =
    let s = c.args.search.now in
    let q = c.args.node.question in
    let stop = c.in_err-rows.field-0.0 in
    let within : c.args.number < length s.claims.now = below c.args.number (length s.claims.now) (sym c.in-Some.ensures.lookup.0) in
    let there = slice_get_read s.claims.now (length s.claims.now) c.args.number c.in-Some.claim.now refl within c.in-Some.ensures.lookup.1 in
    if_err (StopsUnder s (Follows s c.args.node.pair_path q)) c.from_residual.result stop c.from_residual.ensures.1
    (followed_hands s c.args.node.pair_path q stop
    (hands_because q.conj (rows_renaming (columns_there s q) c.in-Some.claim.now.rows ≡ None) (AreTargets (judge_of s) s.claims.now q None) stop
    (λ e. claim_targets s q c.args.number c.in-Some.claim.now None c.requires there (sym e)) c.in_err-rows.ensures.causes))

pub returns-clause-causes : goal.returns-clause-causes
returns-clause-causes c =
    let s = c.args.search.now in
    let q = c.args.node.question in
    let rows : Some c.in_ok-rows.rows ≡ rows_renaming (columns_there s q) c.in-Some.claim.now.rows = c.in_ok-rows.ensures.rows in
    let within : c.args.number < length s.claims.now = below c.args.number (length s.claims.now) (sym c.in-Some.ensures.lookup.0) in
    let there = slice_get_read s.claims.now (length s.claims.now) c.args.number c.in-Some.claim.now refl within c.in-Some.ensures.lookup.1 in
    IfErr-weaker c.stand.result (StopsStanding s.budget q.conj c.as_slice.result.now) (StopsUnder s (Follows s c.args.node.pair_path q))
    (λ stop h. followed_standing s c.args.node.pair_path q c.as_slice.result.now stop (claim_targets s q c.args.number c.in-Some.claim.now (Some c.as_slice.result.now) c.requires there (ap Some c.as_slice.ensures ∙ rows)) h) c.stand.ensures.causes

-- ---- too many paths

pub returns-in_err-rows-clause-full : goal.returns-in_err-rows-clause-full
returns-in_err-rows-clause-full c =
    let s = c.args.search.now in
    let v = c.args.node in
    let stop = c.in_err-rows.field-0.0 in
    if_err (FullUnder s (IsAt s v.pair_path v.question) c.args.found_paths.now) c.from_residual.result stop c.from_residual.ensures.1
    (full_hands s (IsAt s v.pair_path v.question) c.args.found_paths.now v.question.conj _ stop c.in_err-rows.ensures.causes)

pub returns-clause-full : goal.returns-clause-full
returns-clause-full c =
    let v = c.args.node in
    IfErr-weaker c.stand.result _ _ (full_claim c.args.search.now v.pair_path v.question c.args.number c.args.found_paths.now c.requires) c.stand.ensures.full

-- ---- where no further path is found

pub returns-clause-stands : goal.returns-clause-stands
returns-clause-stands c =
    let s = c.args.search.now in
    let q = c.args.node.question in
    let rows : Some c.in_ok-rows.rows ≡ rows_renaming (columns_there s q) c.in-Some.claim.now.rows = c.in_ok-rows.ensures.rows in
    let within : c.args.number < length s.claims.now = below c.args.number (length s.claims.now) (sym c.in-Some.ensures.lookup.0) in
    let there = slice_get_read s.claims.now (length s.claims.now) c.args.number c.in-Some.claim.now refl within c.in-Some.ensures.lookup.1 in
    none_by c.stand.result s c.args.found_paths.now c.stand.new.found_paths _ _ (claim_stands s q c.args.number c.in-Some.claim.now c.as_slice.result.now c.requires there (ap Some c.as_slice.ensures ∙ rows)) c.stand.ensures.met
