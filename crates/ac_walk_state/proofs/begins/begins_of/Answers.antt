use Rattle.std.proofs.Common.{◌≡◌, ◌∙◌, ◌+◌, List, [], ◌∷◌, ap, arith, subst, sym, length, length-append}
use Rattle.std.proofs.lemmas.List.{take_all}
use Rattle.ac_forms.specs.ListMembers.{IsAmong}
use Rattle.ac_widen.specs.declared.derivation.Entry.{Entry}
use Rattle.ac_widen_programs.specs.BrokenPaths.{IsBroken}
use Rattle.ac_walk_state.specs.declared.template.Template.{Template}
use Rattle.ac_walk_state.specs.BrokenPathStarts.{AtEach, BeginsOf}
use Rattle.ac_walk_state.specs.OrderKnowledge.{claims_of}
use Rattle.ac_walk_state.specs.GrowthStops.{StopsAt}
use Rattle.ac_walk_state.proofs.LastItems.{all_in, if_err, in_read}
use Rattle.ac_walk_state.proofs.Making.{each_more}
use Rattle.ac_walk_state.proofs.begins.begins_of.Goals as goal

pub push_begin-requires : goal.push_begin-requires
push_begin-requires c =
    let known = c.args.known.now in
    let r = c.requires in
    let path = c.path-item.result in
    let among = in_read c.args.paths.now c.loop-path.path-index path c.loop-path-test.true c.path-item.is in
    (r.0, r.1, r.2.0, subst (IsBroken r.0 (claims_of known)) (sym c.as_slice.ensures) (all_in (IsBroken r.0 (claims_of known)) c.args.paths.now path r.2.1 among))

pub loop-path-preserved : goal.loop-path-preserved
loop-path-preserved c =
    let known = c.args.known.now in
    let from = c.args.from in
    let e = c.in_ok-push_begin.ensures.begins in
    let i = c.loop-path.path-index in
    let old = c.loop-path.begins in
    let h = c.loop-path.invariant in
    let count : length c.push_begin.new.begins ≡ length old + 1 = ap length e.2 ∙ length-append old (e.0 ∷ []) in
    record {
      count = omega (arith, count, h.count);
      each = each_more (BeginsOf known from) c.args.paths.now i c.path-item.result old c.push_begin.new.begins e.0 c.loop-path-test.true c.path-item.is h.count e.2 (subst (λ (p : List Entry). BeginsOf known from p e.0) c.as_slice.ensures e.1) h.each;
    }

pub returns-clause-count : goal.returns-clause-count
returns-clause-count c = let h = c.loop-path.invariant.count in let l = c.loop-path-test.false in let k = c.loop-path.auto.path-index-end in omega (arith, h, l, k)

pub returns-clause-each : goal.returns-clause-each
returns-clause-each c =
    subst (λ (ps : List (List Entry)). AtEach (BeginsOf c.args.known.now c.args.from) ps c.loop-path.begins) (take_all c.loop-path.path-index c.args.paths.now c.loop-path-test.false) c.loop-path.invariant.each

pub returns-in_err-push_begin-clause-stops : goal.returns-in_err-push_begin-clause-stops
returns-in_err-push_begin-clause-stops c =
    let known = c.args.known.now in
    let paths = c.args.paths.now in
    let path = c.path-item.result in
    let stop = c.in_err-push_begin.field-0.0 in
    let among = in_read paths c.loop-path.path-index path c.loop-path-test.true c.path-item.is in
    if_err (λ s. (p : List Entry) × IsAmong p paths × ((t : Template) → StopsAt t known.widening_points.items p s)) c.from_residual.result stop c.from_residual.ensures.1
    (path, among, λ t. subst (λ (p : List Entry). StopsAt t known.widening_points.items p stop) c.as_slice.ensures (c.in_err-push_begin.ensures.stops t))
