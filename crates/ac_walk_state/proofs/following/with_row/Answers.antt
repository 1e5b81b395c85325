use Rattle.std.proofs.Common.{◌≡◌, ◌++◌, [], ◌∷◌, rules}
use Rattle.ac_walk_state.proofs.Reducing.{left_kept, left_dropped}
use Rattle.ac_walk_state.proofs.following.with_row.Goals as goal

pub returns-then-branch : goal.returns-then-branch
returns-then-branch c = λ rows h. left_dropped c.args.equalities.now rows c.args.left c.args.row.now h (c.in_ok-follows.ensures c.if-branch.true)

pub returns : goal.returns
returns c = λ rows h.
    let e : c.push.new.self ≡ c.args.left ++ c.args.row.now ∷ [] = search rules in
    rw e (left_kept c.args.equalities.now rows c.args.left c.args.row.now h)
