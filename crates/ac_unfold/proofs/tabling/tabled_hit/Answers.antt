use Rattle.std.proofs.Common.{◌≡◌, true, false, sym, ◌∙◌}
use Rattle.ac_unfold.proofs.Tabled.{anyway, none_anyway, start_fails}
use Rattle.ac_unfold.proofs.tabling.tabled_hit.Goals as goal

pub returns-then-not-search-clause-none : goal.returns-then-not-search-clause-none
returns-then-not-search-clause-none c = λ _ making. let z : true ≡ false = sym making ∙ c.if-not-search.true in absurd cc

pub returns-then-not-node-clause-none : goal.returns-then-not-node-clause-none
returns-then-not-node-clause-none c = λ _ making moduli columns. start_fails c.args.search.now c.args.node.now.question c.args.search.now.tabled.now c.if-not-node.true

pub returns-clause-making : goal.returns-clause-making
returns-clause-making c = anyway (c.args.search.now.making ≡ true) c.first_hit.result c.if-not-search.false

pub returns-clause-none : goal.returns-clause-none
returns-clause-none c = none_anyway _ (c.args.search.now.making ≡ true) c.first_hit.result c.first_hit.ensures.none
