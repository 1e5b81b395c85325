use Rattle.std.proofs.Common.{sym, ◌∙◌}
use Rattle.ac_top.proofs.ArrangedAnswers.{differs_so, equal_found, unknown_apart, unknown_early}
use Rattle.ac_top.proofs.findings.finding_of.Goals as goal

pub returns-in-Equal : goal.returns-in-Equal
returns-in-Equal c = λ pair output paired h m a t. equal_found pair output c.args.verdict.now c.in-Equal.is paired h m a

pub returns-in-Different : goal.returns-in-Different
returns-in-Different c = λ pair output paired h m a t. differs_so pair output c.args.verdict.now c.in-Different.is h

pub returns-else-is_early : goal.returns-else-is_early
returns-else-is_early c = λ pair output paired h m a t. unknown_apart pair output c.args.verdict.now c.in-Unknown.cause c.in-Unknown.is (sym c.is_early.ensures ∙ c.if-is_early.false) h

pub returns-then-is_early : goal.returns-then-is_early
returns-then-is_early c = λ pair output paired h m a t.
    unknown_early pair output c.args.verdict.now c.in-Unknown.cause c.words_of.result.now c.in-Unknown.is (sym c.is_early.ensures ∙ c.if-is_early.true) c.words_of.ensures h a t
