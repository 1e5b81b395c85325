use Rattle.std.proofs.Common.{◌≡◌, ◌∙◌, List, ap, subst, sym, get_or}
use Rattle.std.specs.Option.{MatchOption}
use Rattle.ac_widen.specs.Combinations.{InHull}
use Rattle.ac_widen.specs.declared.derivation.Entry.{Entry}
use Rattle.ac_walk_state.specs.RecurrencePairInvariant.{IsReasonAt}
use Rattle.ac_walk_state.proofs.Standing.{claim_in_hull}
use Rattle.ac_walk_state.proofs.Stopping.{stops_combining}
use Rattle.ac_walk_state.proofs.begins.begin_at.Goals as goal

pub unreachable-requires : goal.unreachable-requires
unreachable-requires c =
    let k = c.args.widening_point.now in
    let r = c.requires.right in
    let h = c.requires.inside in
    let p = c.as_slice-point.result.now in
    let point : p ≡ h.first.point = c.as_slice-point.ensures ∙ ap (λ (xs : List Entry). (get_or xs 0 c.index-path-0.result).point) h.path_is in
    let none : ¬ (InHull k.hull.members p) = subst (λ o. MatchOption o (¬ (InHull k.hull.members p)) (IsReasonAt k p)) c.in-Ok-None.field-0-is c.in-Ok-None.ensures.1 in
    none (subst (InHull k.hull.members) (sym point) (claim_in_hull r.0 r.1 k h.first.point r.2 h.width h.meets))

pub returns-in-Err-clause-stops : goal.returns-in-Err-clause-stops
returns-in-Err-clause-stops c =
    λ t.
    let h = c.requires.inside in
    let point : c.as_slice-point.result.now ≡ h.first.point = c.as_slice-point.ensures ∙ ap (λ (xs : List Entry). (get_or xs 0 c.index-path-0.result).point) h.path_is in
    stops_combining t c.args.widening_point.now c.args.path.now h c.as_slice-point.result.now c.in-Err.stop point c.in-Err.ensures
