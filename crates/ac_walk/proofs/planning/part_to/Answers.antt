use Rattle.std.proofs.Common.{◌≡◌, ◌<◌, ℕ, Some, get_or, length, subst, arith}
use Rattle.std.specs.Prelude.{slice_get}
use Rattle.ac_walk_state.proofs.LastItems.{if_err}
use Rattle.ac_walk.specs.PartConstruction.{IsAdded, IsFirstAdded}
use Rattle.ac_walk.specs.SearchStops.{EndsEarly}
use Rattle.ac_walk.proofs.Found.{have_claims}
use Rattle.ac_walk.proofs.Lists.{all_at, get_some}
use Rattle.ac_walk.proofs.Planned.{broken_key, broken_output, claim_is, key_there, next_begun}
use Rattle.ac_walk.proofs.Stopped.{key_ends, output_ends}
use Rattle.ac_walk.proofs.planning.part_to.Goals as goal

pub begin-requires-clause-claims : goal.begin-requires-clause-claims
begin-requires-clause-claims c = have_claims c.args.search.now c.args.order.now c.args.known.now c.args.listed.now.numbers.now c.args.listed.now.claims.now c.requires.known c.requires.ranks c.requires.claims

pub add-requires-clause-claims : goal.add-requires-clause-claims
add-requires-clause-claims c = have_claims c.args.search.now c.args.order.now c.args.known.now c.args.listed.now.numbers.now c.args.listed.now.claims.now c.requires.known c.requires.ranks c.requires.claims

pub returns-in-Broken-clause-planned : goal.returns-in-Broken-clause-planned
returns-in-Broken-clause-planned c =
    let s = c.args.search.now in
    let h = subst (IsFirstAdded s c.args.order.now c.args.listed.now.claims.now c.args.listed.now.tabled.now) c.in-Broken.is c.in_ok-part.ensures.added in
    broken_output s c.args.order.now c.args.known.now c.args.listed.now.numbers.now c.args.listed.now.claims.now c.requires.ranks c.requires.claims h.0 c.in-Broken.path h.1 h.2

pub loop-at-preserved : goal.loop-at-preserved
loop-at-preserved c =
    let s = c.args.search.now in
    let known = c.args.known.now in
    let numbers = c.args.listed.now.numbers.now in
    let n = get_or numbers c.loop-at.at 0 in
    let widening_point = c.index-widening_points-number.result in
    let within : c.loop-at.at < length numbers = (let a = c.loop-at-test.true in let b = c.requires.count in omega (arith, a, b)) in
    let there : slice_get known.widening_points.items n ≡ Some widening_point = key_there known.widening_points.items c.as_slice-widening_points.result.now n widening_point c.as_slice-widening_points.ensures.value (all_at (λ (m : ℕ). m < length known.widening_points.items) numbers c.loop-at.at 0 within c.requires.ranks.within) c.index-widening_points-number.is in
    let start : slice_get c.args.listed.now.claims.now c.loop-at.at ≡ Some c.in_ok-start.start = claim_is known numbers c.args.listed.now.claims.now c.loop-at.at n widening_point c.in_ok-start.start c.requires.claims (get_some numbers c.loop-at.at 0 within) there c.in_ok-start.ensures.value in
    next_begun s c.args.order.now c.args.listed.now.claims.now c.args.listed.now.tabled.now c.loop-at.at c.loop-at.part c.in-Part-2.longer c.in_ok-start.start start c.loop-at.invariant (subst (IsAdded s c.args.order.now c.args.listed.now.claims.now c.args.listed.now.tabled.now c.in_ok-start.start c.loop-at.part) c.in-Part-2.is c.in_ok-longer.ensures.added)

pub returns-in-Broken-2-clause-planned : goal.returns-in-Broken-2-clause-planned
returns-in-Broken-2-clause-planned c =
    let s = c.args.search.now in
    let known = c.args.known.now in
    let numbers = c.args.listed.now.numbers.now in
    let n = get_or numbers c.loop-at.at 0 in
    let widening_point = c.index-widening_points-number.result in
    let within : c.loop-at.at < length numbers = (let a = c.loop-at-test.true in let b = c.requires.count in omega (arith, a, b)) in
    let there : slice_get known.widening_points.items n ≡ Some widening_point = key_there known.widening_points.items c.as_slice-widening_points.result.now n widening_point c.as_slice-widening_points.ensures.value (all_at (λ (m : ℕ). m < length known.widening_points.items) numbers c.loop-at.at 0 within c.requires.ranks.within) c.index-widening_points-number.is in
    broken_key s c.args.order.now known numbers c.args.listed.now.claims.now c.requires.ranks c.requires.claims n widening_point c.in_ok-start.start c.in-Broken-2.path there c.in_ok-start.ensures.value
    (subst (IsAdded s c.args.order.now c.args.listed.now.claims.now c.args.listed.now.tabled.now c.in_ok-start.start c.loop-at.part) c.in-Broken-2.is c.in_ok-longer.ensures.added)

pub returns-in_err-part-clause-causes : goal.returns-in_err-part-clause-causes
returns-in_err-part-clause-causes c =
    let s = c.args.search.now in
    let stop = c.in_err-part.field-0.0 in
    if_err (EndsEarly s c.args.order.now) c.from_residual.result stop c.from_residual.ensures.1
    (output_ends s c.args.order.now c.args.known.now c.args.listed.now.numbers.now c.args.listed.now.claims.now c.requires.known c.requires.ranks c.requires.claims stop c.in_err-part.ensures.causes)

pub returns-in_err-longer-clause-causes : goal.returns-in_err-longer-clause-causes
returns-in_err-longer-clause-causes c =
    let s = c.args.search.now in
    let known = c.args.known.now in
    let numbers = c.args.listed.now.numbers.now in
    let n = get_or numbers c.loop-at.at 0 in
    let widening_point = c.index-widening_points-number.result in
    let stop = c.in_err-longer.field-0.0 in
    let within : c.loop-at.at < length numbers = (let a = c.loop-at-test.true in let b = c.requires.count in omega (arith, a, b)) in
    let there : slice_get known.widening_points.items n ≡ Some widening_point = key_there known.widening_points.items c.as_slice-widening_points.result.now n widening_point c.as_slice-widening_points.ensures.value (all_at (λ (m : ℕ). m < length known.widening_points.items) numbers c.loop-at.at 0 within c.requires.ranks.within) c.index-widening_points-number.is in
    if_err (EndsEarly s c.args.order.now) c.from_residual-in_err-longer.result stop c.from_residual-in_err-longer.ensures.1
    (key_ends s c.args.order.now known numbers c.args.listed.now.claims.now c.requires.known c.requires.ranks c.requires.claims n widening_point c.in_ok-start.start stop there c.in_ok-start.ensures.value c.in_err-longer.ensures.causes)
