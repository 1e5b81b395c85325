-- What is decided of a schedule: that it keeps the order, or two instances between which it is broken, or what stops the search and
-- what is known of the other questions then.
use Rattle.std.specs.Prelude.{ℕ, ◌+◌, ◌≡◌, ◌++◌, List, [], ◌∷◌, map, length, take, drop, ℤ, Some, slice_get}
use Rattle.ac_forms.specs.Affine.{Affine}
use Rattle.ac_forms.specs.ListMembers.{IsAmong}
use Rattle.ac_forms.specs.PieceMembership.{IsInSome}
use Rattle.ac_forms.specs.Renaming.{renamed, renamed_row}
use Rattle.ac_forms.specs.Rows.{Meets}
use Rattle.ac_forms.specs.declared.row.Row.{Row}
use Rattle.ac_syntax.specs.ReadyPrograms.{ReadyProgram, FitParts}
use Rattle.ac_syntax.specs.declared.tree.Cond.{Cond}
use Rattle.ac_syntax.specs.declared.tree.Program.{Program}
use Rattle.ac_poly.specs.Coordinates.{width, levels_before}
use Rattle.ac_poly.specs.Model.{model_of}
use Rattle.ac_poly.specs.declared.types.Model.{Model}
use Rattle.ac_poly.specs.declared.types.StmtModel.{StmtModel}
use Rattle.ac_legal_law.specs.BrokenOrders.{BreaksAt, counters_in}
use Rattle.ac_legal_law.specs.OrderQuestions.{first_columns, second_columns, first_counters, second_counters, clashes, late, joined, order_questions}
use Rattle.ac_legal_law.specs.Schedules.{forms_of, ScheduleKeepsOrder}
use Rattle.ac_legal.specs.QuestionChoices.{Part, IsPart, StopsOn, HasNoPointIfDecided, over}
use Rattle.ac_legal.specs.WideQuestions.{HaveWideCells, AreWideTimes}
use Rattle.ac_legal.specs.declared.types.Legal.{Legal}
use Rattle.ac_legal.specs.declared.types.Legal.TheVariants.{Kept, Broken}
use Rattle.ac_legal.specs.declared.types.LegalStop.{LegalStop}
use Rattle.ac_legal.specs.declared.types.LegalStop.TheVariants.{Overflow}

-- ---- what a question of two assignments is made of, behind the context

abbrev pub first_pieces : Model → StmtModel → List (List Row)
first_pieces m s = map (map (renamed_row (first_columns m.params s))) s.pieces

abbrev pub second_pieces : Model → StmtModel → StmtModel → List (List Row)
second_pieces m s u = map (map (renamed_row (second_columns m.params s u))) u.pieces

-- the equalities of two cells
abbrev pub cells_of : Model → StmtModel → StmtModel → List (List Row)
cells_of m s u = clashes (first_columns m.params s) (second_columns m.params s u) s u

-- the times, over the parameters and the counters alone
abbrev pub first_times : Model → List (List Affine) → ℕ → StmtModel → List Affine
first_times m times i s = map (renamed (first_counters m.params s)) (forms_of times i)

abbrev pub second_times : Model → List (List Affine) → StmtModel → ℕ → StmtModel → List Affine
second_times m times s j u = map (renamed (second_counters m.params s u)) (forms_of times j)

-- the ways to be late
abbrev pub lates_of : Model → List (List Affine) → ℕ → StmtModel → ℕ → StmtModel → List (List Row)
lates_of m times i s j u = late (first_times m times i s) (second_times m times s j u) []

abbrev pub questions_width : Model → StmtModel → StmtModel → ℕ
questions_width m s u = m.params + (width s + width u)

-- ---- two assignments

-- the numbers of two assignments with their models
pub record AreOf (m : Model) (i : ℕ) (s : StmtModel) (j : ℕ) (u : StmtModel) : Type 0 where
  pub first : slice_get m.stmts i ≡ Some s
  pub second : slice_get m.stmts j ≡ Some u

-- no question of two assignments has a point
abbrev pub NoneBetween : Model → List (List Affine) → ℕ → ℕ → Type 0
NoneBetween m times i j = (s u : StmtModel) → AreOf m i s j u → (p : List ℤ) → length p ≡ m.params + (width s + width u) → IsInSome Meets (order_questions m times i s j u) p → ⊥

-- one of their questions has the point
pub record IsPointBetween (m : Model) (times : List (List Affine)) (i : ℕ) (s : StmtModel) (j : ℕ) (u : StmtModel) (p : List ℤ) : Type 0 where
  pub long : length p ≡ m.params + (width s + width u)
  pub meets : IsInSome Meets (order_questions m times i s j u) p

-- the parts: pieces and levels can always be formed, cells and times unless a difference leaves `i128`
pub record AreParts (m : Model) (times : List (List Affine)) (i : ℕ) (s : StmtModel) (j : ℕ) (u : StmtModel) (parts : List Part) : Type 0 where
  pub cells : Part
  pub lates : Part
  pub list : parts ≡ Some (first_pieces m s) ∷ Some (second_pieces m s u) ∷ Some (levels_before m.params i s j u) ∷ cells ∷ lates ∷ []
  pub cells_are : IsPart (HaveWideCells (first_columns m.params s) (second_columns m.params s u) s u) cells (cells_of m s u)
  pub lates_are : IsPart (AreWideTimes (first_times m times i s) (second_times m times s j u)) lates (lates_of m times i s j u)

-- the rows of their questions before the equalities of cells
abbrev pub rows_before_cells : Model → ℕ → StmtModel → ℕ → StmtModel → List (List Row)
rows_before_cells m i s j u = joined (m.context ∷ []) (joined (first_pieces m s) (joined (second_pieces m s u) (levels_before m.params i s j u)))

-- and before the ways to be late
abbrev pub rows_before_times : Model → ℕ → StmtModel → ℕ → StmtModel → List (List Row)
rows_before_times m i s j u = joined (m.context ∷ []) (joined (first_pieces m s) (joined (second_pieces m s u) (joined (levels_before m.params i s j u) (cells_of m s u))))

-- the search through their questions stops: at one of them, or where its cells or times cannot be formed, with the rows
-- before these
pub data StopsBetween (budget : ℕ) (m : Model) (times : List (List Affine)) (i : ℕ) (s : StmtModel) (j : ℕ) (u : StmtModel) : LegalStop → Type 0 where
  question_stops : (e : LegalStop) (rows : List Row) → IsAmong rows (order_questions m times i s j u) → StopsOn budget (questions_width m s u) rows e → StopsBetween budget m times i s j u e
  cells_leave : (rows : List Row) → IsAmong rows (rows_before_cells m i s j u) → HaveWideCells (first_columns m.params s) (second_columns m.params s u) s u
      → StopsBetween budget m times i s j u (Overflow (over (questions_width m s u) rows))
  times_leave : (rows : List Row) → IsAmong rows (rows_before_times m i s j u) → AreWideTimes (first_times m times i s) (second_times m times s j u)
      → StopsBetween budget m times i s j u (Overflow (over (questions_width m s u) rows))

-- their questions can be formed: no difference of two subscripts or of two times leaves `i128`
pub record CanBeFormed (m : Model) (times : List (List Affine)) (i : ℕ) (s : StmtModel) (j : ℕ) (u : StmtModel) : Type 0 where
  pub cells : ¬ HaveWideCells (first_columns m.params s) (second_columns m.params s u) s u
  pub lates : ¬ AreWideTimes (first_times m times i s) (second_times m times s j u)

-- if they can, each of them has no point, or is left undecided
abbrev pub NoDecidedPointBetween : ℕ → Model → List (List Affine) → ℕ → ℕ → Type 0
NoDecidedPointBetween budget m times i j =
    (s u : StmtModel) → AreOf m i s j u → CanBeFormed m times i s j u → (rows : List Row) → IsAmong rows (order_questions m times i s j u) → HasNoPointIfDecided budget (questions_width m s u) rows

-- a point of a question, as the valuation and the counters of two instances
pub record IsPointOfTwo (m : Model) (times : List (List Affine)) (at : List ℤ) (i : ℕ) (xs : List ℤ) (j : ℕ) (ys : List ℤ) : Type 0 where
  pub first : StmtModel
  pub second : StmtModel
  pub are : AreOf m i first j second
  pub coords : List ℤ
  pub others : List ℤ
  pub at_long : length at ≡ m.params
  pub first_long : length coords ≡ width first
  pub second_long : length others ≡ width second
  pub first_is : counters_in first coords ≡ xs
  pub second_is : counters_in second others ≡ ys
  pub meets : IsInSome Meets (order_questions m times i first j second) (at ++ (coords ++ others))

abbrev pub IfKept : Legal → Type 0 → Type 0
IfKept Kept P = P
IfKept (Broken at first second) P = Unit {0}

abbrev pub IfBroken : Legal → (List ℤ → ℕ → List ℤ → ℕ → List ℤ → Type 0) → Type 0
IfBroken Kept P = Unit {0}
IfBroken (Broken at first second) P = P at.items first.0 first.1.items second.0 second.1.items

-- a point is cut into the valuation and the coordinates of two instances, of which the counters are kept
abbrev pub IsCutOf : List ℤ → ℕ → ℕ → ℕ → StmtModel → ℕ → StmtModel → List ℤ → ℕ → List ℤ → ℕ → List ℤ → Type 0
IsCutOf point params behind i s j u at a xs b ys =
    (at ≡ take params point) × (xs ≡ counters_in s (drop params point)) × (ys ≡ counters_in u (drop behind point)) × (a ≡ i) × (b ≡ j)

-- the search through the questions of two of the assignments stops
pub record SomeStops (budget : ℕ) (m : Model) (times : List (List Affine)) (e : LegalStop) : Type 0 where
  pub i : ℕ
  pub j : ℕ
  pub first : StmtModel
  pub second : StmtModel
  pub are : AreOf m i first j second
  pub stops : StopsBetween budget m times i first j second e

-- each order question that can be formed has no point, or is left undecided
abbrev pub NoDecidedQuestionHasAPoint : ℕ → Model → List (List Affine) → Type 0
NoDecidedQuestionHasAPoint budget m times = (i j : ℕ) → NoDecidedPointBetween budget m times i j

-- whatever ready program the model is of
abbrev pub KeepsForAll : Model → List (List Affine) → Type 0
KeepsForAll m times = (p : Program) (context : Cond) → ReadyProgram p → FitParts (length p.params) 0 context.parts → m ≡ model_of p context → ScheduleKeepsOrder times p context

abbrev pub BreaksForAll : Model → List (List Affine) → List ℤ → ℕ → List ℤ → ℕ → List ℤ → Type 0
BreaksForAll m times at i xs j ys = (p : Program) (context : Cond) → ReadyProgram p → FitParts (length p.params) 0 context.parts → m ≡ model_of p context → BreaksAt p context times at i xs j ys
