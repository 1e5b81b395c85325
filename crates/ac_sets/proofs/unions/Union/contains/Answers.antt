use Rattle.std.proofs.Common.{◌≡◌, length, take, sym}
use Rattle.std.proofs.lemmas.List.{length-take-le}
use Rattle.ac_sets.proofs.Searches.{piece-at, within-at, search_found, met-holds}
use Rattle.ac_sets.proofs.unions.Union.contains.Goals as goal

pub slice_bounds-holds_at-end : goal.slice_bounds-holds_at-end
slice_bounds-holds_at-end c =
    let l = rw c.as_slice-piece-items.ensures at c.loop-piece-test.true in
    let e = rw c.as_slice-piece-items.ensures at c.piece-item.is in
    sym (length-take-le c.piece-item.result.columns c.args.point.now (within-at (length c.args.point.now) c.args.self.now.pieces c.loop-piece.piece-index c.piece-item.result c.requires.columns l e))

pub holds_at-requires-clause-columns : goal.holds_at-requires-clause-columns
holds_at-requires-clause-columns c =
    let l = rw c.as_slice-piece-items.ensures at c.loop-piece-test.true in
    let e = rw c.as_slice-piece-items.ensures at c.piece-item.is in
    length-take-le c.piece-item.result.columns c.args.point.now (within-at (length c.args.point.now) c.args.self.now.pieces c.loop-piece.piece-index c.piece-item.result c.requires.columns l e)

pub holds_at-requires-clause-made : goal.holds_at-requires-clause-made
holds_at-requires-clause-made c =
    let l = rw c.as_slice-piece-items.ensures at c.loop-piece-test.true in
    let e = rw c.as_slice-piece-items.ensures at c.piece-item.is in
    (piece-at c.args.self.now.visible c.args.self.now.pieces c.loop-piece.piece-index c.piece-item.result c.requires.made l e).1

pub returns-then-branch-clause-holds : goal.returns-then-branch-clause-holds
returns-then-branch-clause-holds c = λ t.
    let met = c.in_ok-holds_at.ensures.1.0 c.if-branch.true in
    let some = (search_found c.as_slice-piece-items.result.now c.args.point.now c.loop-piece.piece-index c.piece-item.result c.loop-piece.invariant c.loop-piece-test.true c.piece-item.is c.in_ok-holds_at.ensures.0 met).1 in
    met-holds c.args.self.now c.args.point.now c.requires.made c.requires.columns (rw c.as_slice-piece-items.ensures at some)
