use Rattle.ac_top.proofs.ArrangedAnswers.{first_stays, first_made}
use Rattle.ac_top.proofs.arrangements.first_end.Goals as goal

pub returns-in-Some-clause-number : goal.returns-in-Some-clause-number
returns-in-Some-clause-number c = let is = c.in-Some.is in λ none. absurd cc

pub returns-in-Some-clause-so_far : goal.returns-in-Some-clause-so_far
returns-in-Some-clause-so_far c = λ names pair output h ends. first_stays names pair output c.args.early c.in-Some.first c.args.number c.args.words.now c.in-Some.is h ends

pub returns-in-None-clause-so_far : goal.returns-in-None-clause-so_far
returns-in-None-clause-so_far c = λ names pair output h ends. first_made names pair output c.args.early (record { number = c.args.number; words = c.args.words }) c.in-None.is h ends
