use Rattle.std.proofs.lemmas.Result.{IfErr-weaker}
use Rattle.ac_walk.proofs.Added.{first_added}
use Rattle.ac_walk.proofs.Stopped.{first_ends}
use Rattle.ac_walk.proofs.planning.begin.Goals as goal

pub returns-clause-added : goal.returns-clause-added
returns-clause-added c =
    first_added c.args.search.now c.args.order.now c.args.claims.now c.args.tabled.now c.no_part.result c.in_ok-output.output c.add.result (c.in_ok-output.ensures c.args.search.now.pair.now c.requires.search.programs c.requires.search.output) c.no_part.ensures.claims c.no_part.ensures.trees c.add.ensures.added

pub returns-clause-causes : goal.returns-clause-causes
returns-clause-causes c =
    let s = c.args.search.now in
    IfErr-weaker c.add.result _ _ (λ stop h. first_ends s c.args.order.now c.args.claims.now c.in_ok-output.output stop (c.in_ok-output.ensures s.pair.now c.requires.search.programs c.requires.search.output) h) c.add.ensures.causes
