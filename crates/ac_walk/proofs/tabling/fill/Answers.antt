use Rattle.std.proofs.Common.{◌≡◌, ◌<◌, ℕ, Some, get_or, length}
use Rattle.std.specs.Prelude.{slice_get}
use Rattle.ac_walk_state.proofs.LastItems.{if_err}
use Rattle.ac_walk.specs.PartConstruction.{IsBrokenBy}
use Rattle.ac_walk.specs.SearchStops.{EndsEarly}
use Rattle.ac_walk.proofs.Lists.{all_at}
use Rattle.ac_walk.proofs.Planned.{broken_key, broken_output, key_there}
use Rattle.ac_walk.proofs.Stopped.{first_ends, key_ends, output_ends}
use Rattle.ac_walk.proofs.Tabled.{broken_of_table, ends_of_table, new_is_table, some_broken, table_grows}
use Rattle.ac_walk.proofs.tabling.fill.Goals as goal

pub loop-at-init : goal.loop-at-init
loop-at-init c =
    let s = c.args.search.now in
    table_grows s c.args.order.now c.args.claims.items c.in_ok-table.table c.fill_from.new.table (new_is_table s c.args.order.now c.args.claims.items c.in_ok-base.base c.in_ok-table.table c.in_ok-base.ensures c.in_ok-table.ensures) c.fill_from.ensures.tabled

pub loop-at-preserved : goal.loop-at-preserved
loop-at-preserved c = table_grows c.args.search.now c.args.order.now c.args.claims.items c.loop-at.table c.fill_from-in-loop-at.new.table c.loop-at.invariant c.fill_from-in-loop-at.ensures.tabled

pub returns-in-Some-clause-filled : goal.returns-in-Some-clause-filled
returns-in-Some-clause-filled c =
    let s = c.args.search.now in
    let claims = c.args.claims.items in
    let output = c.in_ok-output.output in
    let table = table_grows s c.args.order.now claims c.in_ok-table.table c.fill_from.new.table (new_is_table s c.args.order.now claims c.in_ok-base.base c.in_ok-table.table c.in_ok-base.ensures c.in_ok-table.ensures) c.fill_from.ensures.tabled in
    let broken = some_broken (IsBrokenBy s c.fill_from.new.table.order c.fill_from.new.table.claims output) c.in_ok-path.field-0 c.in-Some.path c.in-Some.is c.in_ok-path.ensures.broken in
    broken_output s c.args.order.now c.args.known.now c.args.numbers.now claims c.requires.ranks c.requires.claims output c.in-Some.path (c.in_ok-output.ensures s.pair.now c.requires.search.programs c.requires.search.output) (broken_of_table s c.args.order.now claims c.fill_from.new.table output c.in-Some.path table broken)

pub returns-in-Some-2-clause-filled : goal.returns-in-Some-2-clause-filled
returns-in-Some-2-clause-filled c =
    let s = c.args.search.now in
    let known = c.args.known.now in
    let numbers = c.args.numbers.now in
    let claims = c.args.claims.items in
    let n = get_or numbers c.loop-at.at 0 in
    let widening_point = c.index-widening_points-number.result in
    let within : c.loop-at.at < length numbers = c.loop-at-test.true in
    let there : slice_get known.widening_points.items n ≡ Some widening_point = key_there known.widening_points.items c.as_slice-widening_points.result.now n widening_point c.as_slice-widening_points.ensures.value (all_at (λ (m : ℕ). m < length known.widening_points.items) numbers c.loop-at.at 0 within c.requires.ranks.within) c.index-widening_points-number.is in
    let table = table_grows s c.args.order.now claims c.loop-at.table c.fill_from-in-loop-at.new.table c.loop-at.invariant c.fill_from-in-loop-at.ensures.tabled in
    let broken = some_broken (IsBrokenBy s c.fill_from-in-loop-at.new.table.order c.fill_from-in-loop-at.new.table.claims c.in_ok-start.start) c.in_ok-path-2.field-0 c.in-Some-2.path c.in-Some-2.is c.in_ok-path-2.ensures.broken in
    broken_key s c.args.order.now known numbers claims c.requires.ranks c.requires.claims n widening_point c.in_ok-start.start c.in-Some-2.path there c.in_ok-start.ensures.value (broken_of_table s c.args.order.now claims c.fill_from-in-loop-at.new.table c.in_ok-start.start c.in-Some-2.path table broken)

pub returns-in_err-path-clause-causes : goal.returns-in_err-path-clause-causes
returns-in_err-path-clause-causes c =
    let s = c.args.search.now in
    let claims = c.args.claims.items in
    let output = c.in_ok-output.output in
    let stop = c.in_err-path.field-0.0 in
    let table = table_grows s c.args.order.now claims c.in_ok-table.table c.fill_from.new.table (new_is_table s c.args.order.now claims c.in_ok-base.base c.in_ok-table.table c.in_ok-base.ensures c.in_ok-table.ensures) c.fill_from.ensures.tabled in
    if_err (EndsEarly s c.args.order.now) c.from_residual-in_err-path.result stop c.from_residual-in_err-path.ensures.1
    (output_ends s c.args.order.now c.args.known.now c.args.numbers.now claims c.requires.known c.requires.ranks c.requires.claims stop
    (first_ends s c.args.order.now claims output stop (c.in_ok-output.ensures s.pair.now c.requires.search.programs c.requires.search.output) (ends_of_table s c.args.order.now claims c.fill_from.new.table output stop table c.in_err-path.ensures.causes)))

pub returns-in_err-path-2-clause-causes : goal.returns-in_err-path-2-clause-causes
returns-in_err-path-2-clause-causes c =
    let s = c.args.search.now in
    let known = c.args.known.now in
    let numbers = c.args.numbers.now in
    let claims = c.args.claims.items in
    let n = get_or numbers c.loop-at.at 0 in
    let widening_point = c.index-widening_points-number.result in
    let stop = c.in_err-path-2.field-0.0 in
    let within : c.loop-at.at < length numbers = c.loop-at-test.true in
    let there : slice_get known.widening_points.items n ≡ Some widening_point = key_there known.widening_points.items c.as_slice-widening_points.result.now n widening_point c.as_slice-widening_points.ensures.value (all_at (λ (m : ℕ). m < length known.widening_points.items) numbers c.loop-at.at 0 within c.requires.ranks.within) c.index-widening_points-number.is in
    let table = table_grows s c.args.order.now claims c.loop-at.table c.fill_from-in-loop-at.new.table c.loop-at.invariant c.fill_from-in-loop-at.ensures.tabled in
    if_err (EndsEarly s c.args.order.now) c.from_residual-in_err-path-2.result stop c.from_residual-in_err-path-2.ensures.1
    (key_ends s c.args.order.now known numbers claims c.requires.known c.requires.ranks c.requires.claims n widening_point c.in_ok-start.start stop there c.in_ok-start.ensures.value (ends_of_table s c.args.order.now claims c.fill_from-in-loop-at.new.table c.in_ok-start.start stop table c.in_err-path-2.ensures.causes))
