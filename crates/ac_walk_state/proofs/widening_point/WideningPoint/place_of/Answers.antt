use Rattle.std.proofs.Common.{◌≡◌, ◌<◌, length, get_or, ap, sym, ◌∙◌, arith}
use Rattle.std.proofs.lemmas.Bool.Decides.{Decides-int_eq}
use Rattle.std.proofs.lemmas.Slice.Eq.{slice_eq-Decides}
use Rattle.ac_walk_state.proofs.Testing.{at_place, search_step}
use Rattle.ac_walk_state.proofs.widening_point.WideningPoint.place_of.Goals as goal

pub returns-then-eq : goal.returns-then-eq
returns-then-eq c =
    let i = c.self.inside in
    let d = slice_eq-Decides Decides-int_eq c.as_slice.result.now c.args.point.now c.eq.result c.eq.ensures in
    let e : c.index-members-at.result ≡ c.args.point.now = sym c.as_slice.ensures ∙ d.0 c.if-eq.true in
    let m = rw (c.as_slice-members.ensures, e) at c.index-members-at.is in
    let l : c.loop-at.at < length i.places = rw c.as_slice-places.ensures at c.loop-at-test.true in
    let n : get_or c.as_slice-places.result.now c.loop-at.at 0 ≡ get_or i.places c.loop-at.at 0 = ap (λ xs. get_or xs c.loop-at.at 0) c.as_slice-places.ensures in
    rw (← c.self.view_is) (λ es a. at_place es (i.left, i.right) i.places i.members c.loop-at.at (get_or c.as_slice-places.result.now c.loop-at.at 0) c.args.point.now a l n m)

pub loop-at-preserved : goal.loop-at-preserved
loop-at-preserved c =
    let d = slice_eq-Decides Decides-int_eq c.as_slice.result.now c.args.point.now c.eq.result c.eq.ensures in
    let f = c.if-eq.false in
    let n : ¬ (c.index-members-at.result ≡ c.args.point.now) = λ e. let t = d.1 (c.as_slice.ensures ∙ e) in absurd cc in
    let a : length c.as_slice-places.result.now ≡ length c.self.inside.places = ap length c.as_slice-places.ensures in
    let b : length c.as_slice-members.result.now ≡ length c.self.inside.members = ap length c.as_slice-members.ensures in
    let d : length c.self.inside.places ≡ length c.self.inside.members = c.self.invariant.entries in
    let t = c.loop-at-test.true in
    let l : c.loop-at.at < length c.as_slice-members.result.now = omega arith in
    search_step c.args.point.now c.as_slice-members.result.now c.loop-at.at c.index-members-at.result c.loop-at.invariant l c.index-members-at.is n
