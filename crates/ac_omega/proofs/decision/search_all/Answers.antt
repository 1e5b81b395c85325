use Rattle.std.proofs.Common.{◌+◌, ◌∙◌, arith}
use Rattle.ac_omega.proofs.AllColumns.{all-settle}
use Rattle.ac_omega.proofs.Visiting.{searched-all}
use Rattle.ac_omega.proofs.decision.search_all.Goals as goal

pub search-requires-clause-settle : goal.search-requires-clause-settle
search-requires-clause-settle c = λ w. all-settle c.args.strategy c.args.conj.columns c.as_slice-vars.result.now (c.as_slice-vars.ensures.value ∙ c.in_ok-columns.ensures)

pub returns-clause-exact : goal.returns-clause-exact
returns-clause-exact c =
    searched-all c.args.strategy c.search.result c.args.aim c.as_slice-vars.result.now c.args.budget c.new-path.result c.args.conj c.args.met c.new-pieces.result c.search.new.progress.pieces c.requires.aim (c.as_slice-vars.ensures.value ∙ c.in_ok-columns.ensures) (c.search.ensures.exact (c.args.budget + 1) (omega arith))
