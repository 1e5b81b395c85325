use Rattle.ac_omega.proofs.Endings.{pieces-wide, wide-back, first-back, first-answer, normal-made}
use Rattle.ac_omega.proofs.pieces.eliminated.Goals as goal

pub search-requires-clause-made : goal.search-requires-clause-made
search-requires-clause-made c = normal-made c.args.conj.now c.in-Ok.rest c.requires c.in-Ok.ensures.exact.1

pub returns-in-Err-Wide-clause-exact : goal.returns-in-Err-Wide-clause-exact
returns-in-Err-Wide-clause-exact c =
    wide-back c.handed_back.result c.args.conj.now _ c.handed_back.ensures (pieces-wide c.args.strategy c.args.vars.now c.args.budget c.args.conj.now (rw c.in-Err-Wide.field-0-is at c.in-Err-Wide.ensures.exact))

pub returns-in-Ok-search-clause-exact : goal.returns-in-Ok-search-clause-exact
returns-in-Ok-search-clause-exact c =
    (first-answer c.args.strategy c.in-Ok-search.field-0 c.search.new.progress.pieces c.args.vars.now c.args.budget c.args.conj.now c.in-Ok.rest _ c.new-path.result c.new-pieces.result c.requires c.in-Ok.ensures.exact.0 c.in-Ok.ensures.exact.1 c.new-path.ensures c.new-pieces.ensures c.in-Ok-search.ensures.exact).exact

pub returns-in-Ok-search-clause-gone : goal.returns-in-Ok-search-clause-gone
returns-in-Ok-search-clause-gone c =
    (first-answer c.args.strategy c.in-Ok-search.field-0 c.search.new.progress.pieces c.args.vars.now c.args.budget c.args.conj.now c.in-Ok.rest _ c.new-path.result c.new-pieces.result c.requires c.in-Ok.ensures.exact.0 c.in-Ok.ensures.exact.1 c.new-path.ensures c.new-pieces.ensures c.in-Ok-search.ensures.exact).gone

pub returns-in-Ok-search-clause-projection : goal.returns-in-Ok-search-clause-projection
returns-in-Ok-search-clause-projection c =
    (first-answer c.args.strategy c.in-Ok-search.field-0 c.search.new.progress.pieces c.args.vars.now c.args.budget c.args.conj.now c.in-Ok.rest _ c.new-path.result c.new-pieces.result c.requires c.in-Ok.ensures.exact.0 c.in-Ok.ensures.exact.1 c.new-path.ensures c.new-pieces.ensures c.in-Ok-search.ensures.exact).projection

pub returns-in-Err-clause-exact : goal.returns-in-Err-clause-exact
returns-in-Err-clause-exact c =
    first-back c.args.strategy c.handed_back-in-Err.result c.in-Err.halt c.search.new.progress.pieces c.args.vars.now c.args.budget c.args.conj.now c.in-Ok.rest _ c.new-path.result c.new-pieces.result c.in-Ok.ensures.exact.0 c.in-Ok.ensures.exact.1 c.new-path.ensures c.new-pieces.ensures c.in-Err.ensures.exact c.handed_back-in-Err.ensures
