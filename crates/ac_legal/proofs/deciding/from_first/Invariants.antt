use Rattle.std.proofs.Common.{ℕ, ◌<◌, MatchOption}
use Rattle.ac_legal.specs.QuestionChoices.{UnlessMemory}
use Rattle.ac_legal.specs.ScheduleAnswers.{NoneBetween, NoDecidedPointBetween, SomeStops}
use Rattle.ac_legal.proofs.deciding.from_first.Given as goal

abbrev pub invariant-loop-j : goal.invariant-loop-j
invariant-loop-j l =
    MatchOption l.held ((j : ℕ) → j < l.j → NoneBetween l.m l.order.times l.i j) (λ e. UnlessMemory e (SomeStops l.budget l.m l.order.times e))
    × ((j : ℕ) → j < l.j → NoDecidedPointBetween l.budget l.m l.order.times l.i j)
