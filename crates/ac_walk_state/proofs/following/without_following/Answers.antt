use Rattle.std.proofs.Common.{◌≡◌, ◌+◌, ◌++◌, [], ◌∷◌, take, sym, ◌∙◌, ap}
use Rattle.std.proofs.lemmas.List.{take_more, take_all}
use Rattle.ac_walk_state.proofs.Reducing.{left_none}
use Rattle.ac_walk_state.proofs.following.without_following.Goals as goal

pub loop-row-init : goal.loop-row-init
loop-row-init c = rw c.new-left.ensures (left_none c.args.equalities.now)

pub loop-row-preserved : goal.loop-row-preserved
loop-row-preserved c =
    let rs = c.args.rows.now in
    let r = c.row-item.result in
    let i = c.loop-row.row-index in
    let t : take (i + 1) rs ≡ take i rs ++ r ∷ [] = take_more rs i r c.loop-row-test.true ∙ ap (λ x. take i rs ++ x ∷ []) (sym c.row-item.is) in
    rw t (c.in_ok-left.ensures (take i rs) c.loop-row.invariant)

pub returns : goal.returns
returns c = rw (take_all c.loop-row.row-index c.args.rows.now c.loop-row-test.false) at c.loop-row.invariant
