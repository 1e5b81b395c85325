use Rattle.std.proofs.Common.{ℕ, ◌<◌, length, MatchOption}
use Rattle.ac_legal.specs.QuestionChoices.{UnlessMemory}
use Rattle.ac_legal.specs.ScheduleAnswers.{NoneBetween, NoDecidedPointBetween, SomeStops}
use Rattle.ac_legal.proofs.deciding.from_all.Given as goal

abbrev pub invariant-loop-i : goal.invariant-loop-i
invariant-loop-i l =
    MatchOption l.held ((i j : ℕ) → i < l.i → j < length l.m.stmts → NoneBetween l.m l.order.times i j) (λ e. UnlessMemory e (SomeStops l.budget l.m l.order.times e))
    × ((i j : ℕ) → i < l.i → j < length l.m.stmts → NoDecidedPointBetween l.budget l.m l.order.times i j)
