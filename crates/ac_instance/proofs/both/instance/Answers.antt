use Rattle.std.proofs.Common.{sym}
use Rattle.ac_instance.proofs.Narrow.{decided, not_wide}
use Rattle.ac_instance.proofs.both.instance.Goals as goal

pub returns-in-None-clause-narrow : goal.returns-in-None-clause-narrow
returns-in-None-clause-narrow c = λ ready small e. decided c.args.pair.now c.args.valuation.now c.fit_64_bits.ensures small ready.context (sym c.in-None.ensures.checked)

pub returns-in-Some-true-clause-narrow : goal.returns-in-Some-true-clause-narrow
returns-in-Some-true-clause-narrow c = λ ready small. not_wide c.args.pair.now c.args.valuation.now c.fit_64_bits.ensures small c.args.limit c.within_context.result (c.within_context.ensures ready)
