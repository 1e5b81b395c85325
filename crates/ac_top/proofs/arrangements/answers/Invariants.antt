use Rattle.std.proofs.Common.{take}
use Rattle.ac_top.specs.ArrangementReports.{AreAnswers}
use Rattle.ac_top.proofs.arrangements.answers.Given as goal

abbrev pub invariant-loop-at : goal.invariant-loop-at
invariant-loop-at l = AreAnswers l.asked.symbols.now l.asked.pair.now (take l.at l.outputs) l.answers.items
