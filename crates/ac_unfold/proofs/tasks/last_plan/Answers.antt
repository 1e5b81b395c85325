use Rattle.std.proofs.Common.{◌≡◌, true, false, sym, ◌∙◌, rules}
use Rattle.ac_unfold.proofs.TaskRuns.{one_last}
use Rattle.ac_unfold.proofs.tasks.last_plan.Goals as goal

pub returns-then-not-search-clause-none : goal.returns-then-not-search-clause-none
returns-then-not-search-clause-none c = λ on none. let z : true ≡ false = sym on ∙ c.if-not-search.true in absurd cc

pub returns-clause-last : goal.returns-clause-last
returns-clause-last c = one_last c.args.search.now c.args.plans.items c.pop.new.self.items c.pop.result c.if-not-search.false c.pop.ensures.items

pub returns-clause-none : goal.returns-clause-none
returns-clause-none c = λ on none. search rules
