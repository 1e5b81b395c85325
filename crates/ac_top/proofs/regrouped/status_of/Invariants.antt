use Rattle.std.proofs.Common.{◌≡◌, take, true}
use Rattle.std.specs.List.{list_all}
use Rattle.ac_top.specs.ArrangementLines.{is_equal}
use Rattle.ac_top.proofs.regrouped.status_of.Given as goal

abbrev pub invariant-loop-answer : goal.invariant-loop-answer
invariant-loop-answer l = list_all is_equal (take l.answer-index l.answers) ≡ true
