use Rattle.ac_top.proofs.ArrangedAnswers.{last_early, last_spent, last_unmatched}
use Rattle.ac_top.proofs.arrangements.last_answer.Goals as goal

pub returns-in-Some : goal.returns-in-Some
returns-in-Some c = λ names pair output e h. last_early names pair output c.args.early c.in-Some.first c.in-Some.is h

pub returns-then-count-gt-MOST_TRIED : goal.returns-then-count-gt-MOST_TRIED
returns-then-count-gt-MOST_TRIED c = λ names pair output e h. last_spent names pair output c.args.early c.args.count c.in-None.is e c.if-count-gt-MOST_TRIED.true h

pub returns-else-count-gt-MOST_TRIED : goal.returns-else-count-gt-MOST_TRIED
returns-else-count-gt-MOST_TRIED c = λ names pair output e h. last_unmatched names pair output c.args.early c.args.count c.in-None.is e c.if-count-gt-MOST_TRIED.false h
