use Rattle.std.proofs.Common.{◌≡◌, ◌∙◌, ◌<◌, ◌≤◌, List, ap, arith, get_or, length, subst, sym, take}
use Rattle.std.proofs.lemmas.List.{take_all}
use Rattle.ac_forms.specs.ListMembers.{IsAmong}
use Rattle.ac_widen.specs.declared.derivation.Entry.{Entry}
use Rattle.ac_walk_state.specs.BrokenPathStarts.{AtEach, BeginsOf}
use Rattle.ac_walk_state.specs.Growth.{IsGrowthOf}
use Rattle.ac_walk_state.specs.GrowthStops.{StopsGrowth}
use Rattle.ac_walk_state.specs.declared.begins.Begin.{Begin}
use Rattle.ac_walk_state.proofs.LastItems.{among_taken, get_is, if_err}
use Rattle.ac_walk_state.proofs.Onward.{may_take, start_path, take_one}
use Rattle.ac_walk_state.proofs.Stopping.{begin_stops, next_stops}
use Rattle.ac_walk_state.proofs.known.Known.take.Goals as goal

pub take_next-requires-clause-path : goal.take_next-requires-clause-path
take_next-requires-clause-path c =
    let t = c.args.template.now in
    let start = c.args.self in
    let paths = c.args.paths in
    let at = c.loop-at.at in
    let path = c.as_slice.result.now in
    let read = c.index-paths-at.result in
    let many = ap length c.as_slice-paths.ensures in
    let test = c.loop-at-test.true in
    let l : at < length paths = omega (arith, many, test) in
    let is_read : read ≡ get_or paths at read = c.index-paths-at.is ∙ ap (λ (ps : List (List Entry)). get_or ps at read) c.as_slice-paths.ensures in
    let is : path ≡ get_or paths at path = subst (λ (p : List Entry). p ≡ get_or paths at p) (sym c.as_slice.ensures) is_read in
    let r = c.requires.paths in
    may_take r.0 t start _ path c.loop-at.growth (c.loop-at.invariant r.0 r.1) (start_path r.0 t start c.args.from paths at path r.1 (get_is paths at path l is))

pub loop-at-preserved : goal.loop-at-preserved
loop-at-preserved c =
    λ u h.
    let t = c.args.template.now in
    let start = c.args.self in
    let from = c.args.from in
    let paths = c.args.paths in
    let begins = c.in_ok-begins.begins in
    let at = c.loop-at.at in
    let path = c.as_slice.result.now in
    let read = c.index-paths-at.result in
    let begin = c.index-begins-at.result in
    let many = ap length c.as_slice-paths.ensures in
    let test = c.loop-at-test.true in
    let count = c.in_ok-begins.ensures.count in
    let l : at < length paths = omega (arith, many, test) in
    let lb : at < length begins = omega (arith, count, test) in
    let is_read : read ≡ get_or paths at read = c.index-paths-at.is ∙ ap (λ (ps : List (List Entry)). get_or ps at read) c.as_slice-paths.ensures in
    let is : path ≡ get_or paths at path = subst (λ (p : List Entry). p ≡ get_or paths at p) (sym c.as_slice.ensures) is_read in
    let is_begin : begin ≡ get_or begins at begin = c.index-begins-at.is ∙ ap (λ (bs : List Begin). get_or bs at begin) c.as_slice-begins.ensures in
    let each = subst (λ (ps : List (List Entry)). AtEach (BeginsOf start from) ps begins) c.as_slice-paths.ensures c.in_ok-begins.ensures.each in
    take_one u t start from paths begins at path begin c.loop-at.growth c.in_ok-growth.growth h each l is (get_is begins at begin lb is_begin) (λ before r p b. c.in_ok-growth.ensures.takes u start before r p b) (c.loop-at.invariant u h)

pub returns-clause-takes : goal.returns-clause-takes
returns-clause-takes c =
    λ u h.
    let paths = c.args.paths in
    let many = ap length c.as_slice-paths.ensures in
    let test = c.loop-at-test.false in
    let l : length paths ≤ c.loop-at.at = omega (arith, many, test) in
    subst (λ (ps : List (List Entry)). IsGrowthOf u c.args.template.now c.args.self ps c.loop-at.growth) (take_all c.loop-at.at paths l) (c.loop-at.invariant u h)

pub take_next-requires-clause-steps : goal.take_next-requires-clause-steps
take_next-requires-clause-steps c =
    let paths = c.args.paths in
    let begins = c.in_ok-begins.begins in
    let at = c.loop-at.at in
    let path = c.as_slice.result.now in
    let read = c.index-paths-at.result in
    let begin = c.index-begins-at.result in
    let many = ap length c.as_slice-paths.ensures in
    let test = c.loop-at-test.true in
    let count = c.in_ok-begins.ensures.count in
    let l : at < length paths = omega (arith, many, test) in
    let lb : at < length begins = omega (arith, count, test) in
    let is_read : read ≡ get_or paths at read = c.index-paths-at.is ∙ ap (λ (ps : List (List Entry)). get_or ps at read) c.as_slice-paths.ensures in
    let is : path ≡ get_or paths at path = subst (λ (p : List Entry). p ≡ get_or paths at p) (sym c.as_slice.ensures) is_read in
    let is_begin : begin ≡ get_or begins at begin = c.index-begins-at.is ∙ ap (λ (bs : List Begin). get_or bs at begin) c.as_slice-begins.ensures in
    let each = subst (λ (ps : List (List Entry)). AtEach (BeginsOf c.args.self c.args.from) ps begins) c.as_slice-paths.ensures c.in_ok-begins.ensures.each in
    (each at path begin (get_is paths at path l is) (get_is begins at begin lb is_begin)).0

pub returns-in_err-begins-clause-stops : goal.returns-in_err-begins-clause-stops
returns-in_err-begins-clause-stops c =
    let t = c.args.template.now in
    let start = c.args.self in
    let from = c.args.from in
    let paths = c.args.paths in
    let stop = c.in_err-begins.field-0.0 in
    let h = c.in_err-begins.ensures.stops in
    if_err (StopsGrowth t start from paths) c.from_residual.result stop c.from_residual.ensures.1 (begin_stops t start from paths h.0 stop (subst (IsAmong h.0) c.as_slice-paths.ensures h.1) (h.2 t))

pub returns-in_err-growth-clause-stops : goal.returns-in_err-growth-clause-stops
returns-in_err-growth-clause-stops c =
    let t = c.args.template.now in
    let start = c.args.self in
    let from = c.args.from in
    let paths = c.args.paths in
    let at = c.loop-at.at in
    let path = c.as_slice.result.now in
    let read = c.index-paths-at.result in
    let stop = c.in_err-growth.field-0.0 in
    let many = ap length c.as_slice-paths.ensures in
    let test = c.loop-at-test.true in
    let l : at < length paths = omega (arith, many, test) in
    let is_read : read ≡ get_or paths at read = c.index-paths-at.is ∙ ap (λ (ps : List (List Entry)). get_or ps at read) c.as_slice-paths.ensures in
    let is : path ≡ get_or paths at path = subst (λ (p : List Entry). p ≡ get_or paths at p) (sym c.as_slice.ensures) is_read in
    if_err (StopsGrowth t start from paths) c.from_residual-in_err-growth.result stop c.from_residual-in_err-growth.ensures.1
    (next_stops t start from paths (take at paths) at path c.loop-at.growth stop (among_taken paths at) c.loop-at.invariant (get_is paths at path l is) c.in_err-growth.ensures.stops)
