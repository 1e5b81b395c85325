use Rattle.std.proofs.Common.{rules, arith, ◌≡◌, ◌∙◌, sym, ap, IfSome, IfNone, length, drop, take, ◌+◌, ◌<◌, ◌≤◌, List, ◌++◌, Some, None}
use Rattle.ac_forms.specs.ListMembers.{IsAmong}
use Rattle.ac_forms.specs.declared.row.Row.{Row}
use Rattle.ac_legal.specs.QuestionChoices.{HasNoPointFrom, HaveNoPointsIfDecided, IsPointFrom, StopsOn, StopsFrom, UnlessMemory}
use borrow.Author.Gap.{counting}
use Rattle.ac_legal.proofs.Parting.{if_err}
use Rattle.ac_legal.proofs.Trying.{some_of, none_of, rows_over, point_step, choice_step, held_on, held_stop, held_some, stop_choice, stop_end, not_memory, decided_last, decided_if_none, decided_unformed, decided_end}
use Rattle.ac_legal.proofs.searching.+search.Goals as goal

pub search-requires : goal.search-requires
search-requires t c =
    let lt : c.args.depth < length c.args.parts.now = omega arith in
    let g : c.as_slice-choice-items.result.now ≡ c.in-Some.choices = c.as_slice-choice-items.ensures in
    let k : c.loop-choice.choice-index < length c.as_slice-choice-items.result.now = omega arith in
    let b : c.index-parts-depth.result ≡ Some c.as_slice-choice-items.result.now = c.in-Some.is ∙ ap (λ (t : List (List Row)). Some t) (sym g) in
    let r : c.as_slice-in-loop-choice.result.now ≡ c.args.front.now ++ c.choice-item.result = c.as_slice-in-loop-choice.ensures ∙ c.in_ok-rows-in-Some.ensures ∙ ap (λ (t : List Row). c.args.front.now ++ t) c.as_slice.ensures in (
      search (rules, counting),
      (
        omega arith,
        (
          rows_over c.args.columns c.args.depth c.loop-choice.choice-index c.args.front.now c.as_slice-in-loop-choice.result.now c.choice-item.result c.args.parts.now c.index-parts-depth.result c.as_slice-choice-items.result.now
              lt c.index-parts-depth.is b k c.choice-item.is r c.requires.front c.requires.parts,
          c.requires.parts,
        ),
      ),
    )

pub returns-in-Ok-Some-clause-point : goal.returns-in-Ok-Some-clause-point
returns-in-Ok-Some-clause-point t c =
    let lt : c.args.depth < length c.args.parts.now = omega arith in
    let g : c.as_slice-choice-items.result.now ≡ c.in-Some.choices = c.as_slice-choice-items.ensures in
    let k : c.loop-choice.choice-index < length c.as_slice-choice-items.result.now = omega arith in
    let b : c.index-parts-depth.result ≡ Some c.as_slice-choice-items.result.now = c.in-Some.is ∙ ap (λ (t : List (List Row)). Some t) (sym g) in
    let r : c.as_slice-in-loop-choice.result.now ≡ c.args.front.now ++ c.choice-item.result = c.as_slice-in-loop-choice.ensures ∙ c.in_ok-rows-in-Some.ensures ∙ ap (λ (t : List Row). c.args.front.now ++ t) c.as_slice.ensures in
    point_step c.args.columns c.args.depth c.loop-choice.choice-index c.args.front.now c.as_slice-in-loop-choice.result.now c.choice-item.result c.args.parts.now c.index-parts-depth.result c.as_slice-choice-items.result.now c.in-Ok-Some.point.items
    lt c.index-parts-depth.is b k c.choice-item.is r
    (let z : c.in-Ok-Some.field-0 ≡ Some c.in-Ok-Some.point = c.in-Ok-Some.field-0-is in
    let y : IfSome c.in-Ok-Some.field-0 (λ p. IsPointFrom c.args.columns c.as_slice-in-loop-choice.result.now (drop (c.args.depth + 1) c.args.parts.now) p.items) = c.in-Ok-Some.ensures.point in
    some_of c.in-Ok-Some.field-0 c.in-Ok-Some.point (λ p. IsPointFrom c.args.columns c.as_slice-in-loop-choice.result.now (drop (c.args.depth + 1) c.args.parts.now) p.items) z y)

pub returns-then-depth-parts-clause-decided : goal.returns-then-depth-parts-clause-decided
returns-then-depth-parts-clause-decided t c =
    if_err c.ask.result (StopsOn c.args.budget c.args.columns c.args.front.now) (λ e. UnlessMemory e (HaveNoPointsIfDecided c.args.budget c.args.columns c.args.front.now (drop c.args.depth c.args.parts.now)))
    (λ e h. decided_last c.args.budget c.args.columns c.args.depth c.args.front.now c.args.parts.now e (omega arith) h) c.ask.ensures.stops

pub returns-in_ok-question-in-None-clause-decided : goal.returns-in_ok-question-in-None-clause-decided
returns-in_ok-question-in-None-clause-decided t c =
    let lt : c.args.depth < length c.args.parts.now = omega arith in
    decided_unformed c.args.budget c.args.columns c.args.depth c.args.front.now c.args.parts.now c.index-parts-depth.result lt c.index-parts-depth.is c.in-None.is

pub loop-choice-init : goal.loop-choice-init
loop-choice-init t c = (λ choice m. absurd m, λ choice m. absurd m)

pub loop-choice-preserved-in-Ok-None : goal.loop-choice-preserved-in-Ok-None
loop-choice-preserved-in-Ok-None t c =
    let rest = drop (c.args.depth + 1) c.args.parts.now in
    let choices = c.as_slice-choice-items.result.now in
    let rows = c.as_slice-in-loop-choice.result.now in
    let k : c.loop-choice.choice-index < length choices = omega arith in
    let r : rows ≡ c.args.front.now ++ c.choice-item.result = c.as_slice-in-loop-choice.ensures ∙ c.in_ok-rows-in-Some.ensures ∙ ap (λ (t : List Row). c.args.front.now ++ t) c.as_slice.ensures in
    let z : c.in-Ok-None.field-0 ≡ None = c.in-Ok-None.field-0-is in
    let y : IfNone c.in-Ok-None.field-0 (HasNoPointFrom c.args.columns rows rest) = c.in-Ok-None.ensures.none in
    let none : HasNoPointFrom c.args.columns rows rest = none_of c.in-Ok-None.field-0 (HasNoPointFrom c.args.columns rows rest) z y in (
      held_on c.loop-choice.held
          ((choice : List Row) → IsAmong choice (take c.loop-choice.choice-index choices) → HasNoPointFrom c.args.columns (c.args.front.now ++ choice) rest)
          ((choice : List Row) → IsAmong choice (take (c.loop-choice.choice-index + 1) choices) → HasNoPointFrom c.args.columns (c.args.front.now ++ choice) rest)
          (λ e. (choice : List Row) × IsAmong choice choices × StopsFrom c.args.budget c.args.columns (c.args.front.now ++ choice) rest e)
          (λ h. choice_step (λ (q : List Row). HasNoPointFrom c.args.columns q rest) c.loop-choice.choice-index c.args.front.now rows c.choice-item.result choices k c.choice-item.is r h none)
          c.loop-choice.invariant.0,
      choice_step (λ (q : List Row). HaveNoPointsIfDecided c.args.budget c.args.columns q rest) c.loop-choice.choice-index c.args.front.now rows c.choice-item.result choices k c.choice-item.is r c.loop-choice.invariant.1
          (decided_if_none c.args.budget c.args.columns rows rest none),
    )

pub loop-choice-preserved : goal.loop-choice-preserved
loop-choice-preserved t c =
    let rest = drop (c.args.depth + 1) c.args.parts.now in
    let choices = c.as_slice-choice-items.result.now in
    let rows = c.as_slice-in-loop-choice.result.now in
    let k : c.loop-choice.choice-index < length choices = omega arith in
    let r : rows ≡ c.args.front.now ++ c.choice-item.result = c.as_slice-in-loop-choice.ensures ∙ c.in_ok-rows-in-Some.ensures ∙ ap (λ (t : List Row). c.args.front.now ++ t) c.as_slice.ensures in (
      held_stop c.loop-choice.held c.in_ok-held-in-Err.held c.in-Err.stop
          ((choice : List Row) → IsAmong choice (take c.loop-choice.choice-index choices) → HasNoPointFrom c.args.columns (c.args.front.now ++ choice) rest)
          ((choice : List Row) → IsAmong choice (take (c.loop-choice.choice-index + 1) choices) → HasNoPointFrom c.args.columns (c.args.front.now ++ choice) rest)
          (λ e. (choice : List Row) × IsAmong choice choices × StopsFrom c.args.budget c.args.columns (c.args.front.now ++ choice) rest e)
          c.in_ok-held-in-Err.ensures.first
          (stop_choice c.args.budget c.args.columns c.loop-choice.choice-index c.args.front.now rows c.choice-item.result rest choices c.in-Err.stop k c.choice-item.is r c.in-Err.ensures.stops)
          c.loop-choice.invariant.0,
      choice_step (λ (q : List Row). HaveNoPointsIfDecided c.args.budget c.args.columns q rest) c.loop-choice.choice-index c.args.front.now rows c.choice-item.result choices k c.choice-item.is r c.loop-choice.invariant.1
          (not_memory c.in-Err.stop (HaveNoPointsIfDecided c.args.budget c.args.columns rows rest) c.in_ok-held-in-Err.ensures.refusal c.in-Err.ensures.decided),
    )

pub returns-in-Some-held-clause-stops : goal.returns-in-Some-held-clause-stops
returns-in-Some-held-clause-stops t c =
    let lt : c.args.depth < length c.args.parts.now = omega arith in
    let g : c.as_slice-choice-items.result.now ≡ c.in-Some.choices = c.as_slice-choice-items.ensures in
    let b : c.index-parts-depth.result ≡ Some c.as_slice-choice-items.result.now = c.in-Some.is ∙ ap (λ (t : List (List Row)). Some t) (sym g) in
    stop_end c.args.budget c.args.columns c.args.depth c.args.front.now c.args.parts.now c.index-parts-depth.result c.as_slice-choice-items.result.now c.in-Some-held.stop lt c.index-parts-depth.is b
    (held_some c.loop-choice.held c.in-Some-held.stop
    ((choice : List Row) → IsAmong choice (take c.loop-choice.choice-index c.as_slice-choice-items.result.now) → HasNoPointFrom c.args.columns (c.args.front.now ++ choice) (drop (c.args.depth + 1) c.args.parts.now))
    (λ e. (choice : List Row) × IsAmong choice c.as_slice-choice-items.result.now × StopsFrom c.args.budget c.args.columns (c.args.front.now ++ choice) (drop (c.args.depth + 1) c.args.parts.now) e)
    c.in-Some-held.is c.loop-choice.invariant.0)

pub returns-in-Some-held-clause-decided : goal.returns-in-Some-held-clause-decided
returns-in-Some-held-clause-decided t c =
    let lt : c.args.depth < length c.args.parts.now = omega arith in
    let g : c.as_slice-choice-items.result.now ≡ c.in-Some.choices = c.as_slice-choice-items.ensures in
    let b : c.index-parts-depth.result ≡ Some c.as_slice-choice-items.result.now = c.in-Some.is ∙ ap (λ (t : List (List Row)). Some t) (sym g) in
    let whole : length c.as_slice-choice-items.result.now ≤ c.loop-choice.choice-index = omega arith in
    decided_end c.args.budget c.args.columns c.args.depth c.loop-choice.choice-index c.args.front.now c.args.parts.now c.index-parts-depth.result c.as_slice-choice-items.result.now c.in-Some-held.stop lt c.index-parts-depth.is b whole
    c.loop-choice.invariant.1
