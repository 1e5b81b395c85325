-- A schedule keeps the order if and only if none of its questions has a point.
use Rattle.std.specs.Prelude.{ℕ, ◌+◌, ◌≡◌, ◌↔◌, ◌++◌, List, ℤ, length, take, Some, slice_get}
use Rattle.ac_forms.specs.Affine.{Affine}
use Rattle.ac_forms.specs.Rows.{Meets}
use Rattle.ac_forms.specs.PieceMembership.{IsInSome}
use Rattle.ac_syntax.specs.ReadyPrograms.{ReadyProgram, FitParts}
use Rattle.ac_syntax.specs.Source.{Writer}
use Rattle.ac_syntax.specs.Trace.{Entry, trace_of}
use Rattle.ac_syntax.specs.declared.tree.Cond.{Cond}
use Rattle.ac_syntax.specs.declared.tree.Program.{Program}
use Rattle.ac_poly.specs.Coordinates.{width, coordinates_at}
use Rattle.ac_poly.specs.Model.{model_of}
use Rattle.ac_poly.specs.declared.types.Model.{Model}
use Rattle.ac_poly.specs.declared.types.StmtModel.{StmtModel}
use Rattle.ac_legal_law.specs.Conflicts.{Conflict}
use Rattle.ac_legal_law.specs.OrderQuestions.{order_questions}
use Rattle.ac_legal_law.specs.Schedules.{time_of, IsValuationOf, ScheduleKeepsOrder}
use Rattle.ac_legal_law.specs.EntryTimes.{IsSmaller}

-- two entries of a list that conflict, of which the first has no smaller time
pub record IsBroken (time : Entry → List ℤ) (es : List Entry) (w u : Writer) : Type 0 where
  pub conflict : Conflict es w u
  pub late : ¬ IsSmaller (time w.entry) (time u.entry)

-- an entry of the assignment with a number, with these counters
pub record IsOf (w : Writer) (number : ℕ) (at : List ℤ) : Type 0 where
  pub stmt : w.entry.stmt ≡ number
  pub counters : w.entry.counters ≡ at

-- at a valuation of the context the order is broken between the instances with these counters
pub record BreaksAt (p : Program) (context : Cond) (times : List (List Affine)) (params : List ℤ) (i : ℕ) (xs : List ℤ) (j : ℕ) (ys : List ℤ) : Type 0 where
  pub valuation : IsValuationOf p context params
  pub first : Writer
  pub second : Writer
  pub first_is : IsOf first i xs
  pub second_is : IsOf second j ys
  pub broken : IsBroken (time_of times params) (trace_of p.body params) first second

-- the counters, which come first among coordinates
abbrev pub counters_in : StmtModel → List ℤ → List ℤ
counters_in s xs = take (length s.loops) xs

-- these are the coordinates of two instances, and the order is broken between them
pub record BreaksBetween (p : Program) (context : Cond) (times : List (List Affine)) (params : List ℤ) (i : ℕ) (s : StmtModel) (xs : List ℤ) (j : ℕ) (u : StmtModel) (ys : List ℤ) : Type 0 where
  pub first_coords : coordinates_at s params (counters_in s xs) ≡ xs
  pub second_coords : coordinates_at u params (counters_in u ys) ≡ ys
  pub breaks : BreaksAt p context times params i (counters_in s xs) j (counters_in u ys)

-- a point meets one of the questions of two assignments if and only if the order is broken between its two instances
abbrev pub QuestionsAreBrokenOrders : Type 0
QuestionsAreBrokenOrders =
    (p : Program) (context : Cond) (times : List (List Affine)) → ReadyProgram p → FitParts (length p.params) 0 context.parts
    → (params xs ys : List ℤ) (i j : ℕ) (s u : StmtModel) → length params ≡ length p.params → slice_get (model_of p context).stmts i ≡ Some s → slice_get (model_of p context).stmts j ≡ Some u
    → length xs ≡ width s → length ys ≡ width u
    → IsInSome Meets (order_questions (model_of p context) times i s j u) (params ++ (xs ++ ys)) ↔ BreaksBetween p context times params i s xs j u ys

-- no point meets a question
abbrev pub NoQuestionHasAPoint : Model → List (List Affine) → Type 0
NoQuestionHasAPoint m times =
    (i j : ℕ) (s u : StmtModel) (p : List ℤ) → slice_get m.stmts i ≡ Some s → slice_get m.stmts j ≡ Some u → length p ≡ m.params + (width s + width u) → ¬ IsInSome Meets (order_questions m times i s j u) p

abbrev pub KeptWhereNoQuestionHasAPoint : Type 0
KeptWhereNoQuestionHasAPoint =
    (p : Program) (context : Cond) (times : List (List Affine)) → ReadyProgram p → FitParts (length p.params) 0 context.parts
    → NoQuestionHasAPoint (model_of p context) times ↔ ScheduleKeepsOrder times p context
