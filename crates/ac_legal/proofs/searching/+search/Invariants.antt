use Rattle.std.proofs.Common.{◌++◌, ◌+◌, ◌-◌, List, length, drop, take, MatchOption}
use Rattle.ac_forms.specs.ListMembers.{IsAmong}
use Rattle.ac_forms.specs.declared.row.Row.{Row}
use Rattle.ac_legal.specs.QuestionChoices.{HasNoPointFrom, HaveNoPointsIfDecided, StopsFrom}
use Rattle.ac_legal.proofs.searching.+search.Given as goal

abbrev pub decreases-search : goal.decreases-search
decreases-search l = length l.parts.now - l.depth

abbrev pub invariant-loop-choice : goal.invariant-loop-choice
invariant-loop-choice l =
    MatchOption l.held ((choice : List Row) → IsAmong choice (take l.choice-index l.choice-items) → HasNoPointFrom l.columns (l.front ++ choice) (drop (l.depth + 1) l.parts))
    (λ e. (choice : List Row) × IsAmong choice l.choice-items × StopsFrom l.budget l.columns (l.front ++ choice) (drop (l.depth + 1) l.parts) e)
    × ((choice : List Row) → IsAmong choice (take l.choice-index l.choice-items) → HaveNoPointsIfDecided l.budget l.columns (l.front ++ choice) (drop (l.depth + 1) l.parts))
