use Rattle.std.proofs.Common.{◌≡◌, Some}
use Rattle.std.specs.Prelude.{slice_get}
use Rattle.std.proofs.lemmas.Result.{IfErr-weaker}
use Rattle.ac_widen_programs.specs.DerivationEntries.{entries_of}
use Rattle.ac_walk_state.specs.BrokenPathStarts.{BeginsInside, BeginsOf}
use Rattle.ac_walk_state.specs.PathEntries.{GoesOn}
use Rattle.ac_walk_state.proofs.Beginning.{begins_by_key, begins_by_output, from_within, inside_from, right_at}
use Rattle.ac_walk_state.proofs.LastItems.{both_ok, get_is}
use Rattle.ac_walk_state.proofs.Stopping.{stops_among}
use Rattle.ac_walk_state.proofs.begins.begin_of.Goals as goal

pub begin_at-requires-clause-inside : goal.begin_at-requires-clause-inside
begin_at-requires-clause-inside c =
    let known = c.args.known.now in
    let r = c.requires in
    let at = c.in-Some.at in
    let x = c.index.result.now in
    let is : slice_get known.widening_points.items at ≡ Some x = get_is known.widening_points.items at x (from_within r.0 r.1 known c.args.from at c.in-Some.is r.2) c.index.ensures in
    inside_from r.0 r.1 known c.args.from at x c.args.path.now c.in-Some.is is r.2 r.3

pub begin_at-requires-clause-right : goal.begin_at-requires-clause-right
begin_at-requires-clause-right c =
    let known = c.args.known.now in
    let r = c.requires in
    let at = c.in-Some.at in
    let x = c.index.result.now in
    let is : slice_get known.widening_points.items at ≡ Some x = get_is known.widening_points.items at x (from_within r.0 r.1 known c.args.from at c.in-Some.is r.2) c.index.ensures in
    (r.1, entries_of known.entries, right_at r.0 r.1 known at x r.2.is_known is)

pub returns-in-Some-clause-begins : goal.returns-in-Some-clause-begins
returns-in-Some-clause-begins c =
    let known = c.args.known.now in
    let from = c.args.from in
    let path = c.args.path.now in
    let r = c.requires in
    let at = c.in-Some.at in
    let x = c.index.result.now in
    let is : slice_get known.widening_points.items at ≡ Some x = get_is known.widening_points.items at x (from_within r.0 r.1 known from at c.in-Some.is r.2) c.index.ensures in
    both_ok (GoesOn path) (BeginsInside x path) (BeginsOf known from path) c.begin_at.result (λ b goes inside. begins_by_key known from at x path b c.in-Some.is is goes inside) c.begin_at.ensures.steps c.begin_at.ensures.begins

pub returns-in-None-clause-begins : goal.returns-in-None-clause-begins
returns-in-None-clause-begins c = begins_by_output c.args.known.now c.args.from c.args.path.now c.in-None.is

pub returns-in-Some-clause-stops : goal.returns-in-Some-clause-stops
returns-in-Some-clause-stops c =
    let known = c.args.known.now in
    let path = c.args.path.now in
    let r = c.requires in
    let at = c.in-Some.at in
    let x = c.index.result.now in
    let is : slice_get known.widening_points.items at ≡ Some x = get_is known.widening_points.items at x (from_within r.0 r.1 known c.args.from at c.in-Some.is r.2) c.index.ensures in
    IfErr-weaker c.begin_at.result _ _ (λ stop f t. stops_among t known.widening_points.items at x path stop is (f t)) c.begin_at.ensures.stops
