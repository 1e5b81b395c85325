-- Questions that are made of one choice for each of several parts: their points, when one of them stops a search, and what is known
-- of the others then.
use Rattle.std.specs.Prelude.{ℕ, ◌≡◌, ◌⊎◌, List, [], ◌∷◌, ◌++◌, length, ℤ, Option, Some, None}
use Rattle.std.specs.List.{AllByRecursion}
use Rattle.std.specs.declared.alloc.AllocError.{AllocError}
use Rattle.ac_forms.specs.ListMembers.{IsAmong}
use Rattle.ac_forms.specs.Rows.{Meets, AreRowsOver}
use Rattle.ac_forms.specs.declared.conj.Conj.{Conj}
use Rattle.ac_forms.specs.declared.row.Row.{Row}
use Rattle.ac_omega.specs.Decisions.{walk_of, IsWide, IsSpent}
use Rattle.ac_omega.specs.Either.{StopsFinding}
use Rattle.ac_omega_certify.specs.declared.strategy.Strategy.TheVariants.{Full, Economical}
use Rattle.ac_legal.specs.declared.types.LegalStop.{LegalStop}
use Rattle.ac_legal.specs.declared.types.LegalStop.TheVariants.{Overflow, Spent, Memory}

abbrev pub over : ℕ → List Row → Conj
over columns rows = record { columns = columns; rows = rows }

-- ---- one question

abbrev pub HasNoPoint : ℕ → List Row → Type 0
HasNoPoint columns rows = (p : List ℤ) → length p ≡ columns → Meets rows p → ⊥

abbrev pub IsPointAt : ℕ → List Row → List ℤ → Type 0
IsPointAt columns rows p = (length p ≡ columns) × Meets rows p

-- the question stops its search: both walks stop, and of the full one a number leaves `i128`, or its cost exceeds the budget
abbrev pub StopsOn : ℕ → ℕ → List Row → LegalStop → Type 0
StopsOn budget columns rows (Overflow q) = (q ≡ over columns rows) × StopsFinding (over columns rows) (walk_of Economical budget (over columns rows)) × IsWide (over columns rows) (walk_of Full budget (over columns rows))
StopsOn budget columns rows (Spent q k) = (q ≡ over columns rows) × StopsFinding (over columns rows) (walk_of Economical budget (over columns rows)) × IsSpent k (walk_of Full budget (over columns rows))
StopsOn budget columns rows (Memory e) = Unit {0}

-- the question is left undecided: both walks stop
abbrev pub IsUndecided : ℕ → ℕ → List Row → Type 0
IsUndecided budget columns rows = StopsFinding (over columns rows) (walk_of Economical budget (over columns rows)) × StopsFinding (over columns rows) (walk_of Full budget (over columns rows))

-- it has no point, or it is left undecided
abbrev pub HasNoPointIfDecided : ℕ → ℕ → List Row → Type 0
HasNoPointIfDecided budget columns rows = HasNoPoint columns rows ⊎ IsUndecided budget columns rows

-- ---- several

-- the choices of a part, or none where they cannot be formed in `i128`
abbrev pub Part : Type 0
Part = Option (List (List Row))

abbrev pub IsPartOver : ℕ → Part → Type 0
IsPartOver columns None = Unit {0}
IsPartOver columns (Some choices) = AllByRecursion (AreRowsOver columns) choices

abbrev pub ArePartsOver : ℕ → List Part → Type 0
ArePartsOver columns = AllByRecursion (IsPartOver columns)

-- no question has a point, and each could be formed
abbrev pub HasNoPointFrom : ℕ → List Row → List Part → Type 0
HasNoPointFrom columns front [] = HasNoPoint columns front
HasNoPointFrom columns front (None ∷ parts) = ⊥
HasNoPointFrom columns front (Some choices ∷ parts) = (choice : List Row) → IsAmong choice choices → HasNoPointFrom columns (front ++ choice) parts

-- each question that could be formed has no point, or is left undecided
abbrev pub HaveNoPointsIfDecided : ℕ → ℕ → List Row → List Part → Type 0
HaveNoPointsIfDecided budget columns front [] = HasNoPointIfDecided budget columns front
HaveNoPointsIfDecided budget columns front (None ∷ parts) = Unit {0}
HaveNoPointsIfDecided budget columns front (Some choices ∷ parts) = (choice : List Row) → IsAmong choice choices → HaveNoPointsIfDecided budget columns (front ++ choice) parts

-- one of the questions has the point
abbrev pub IsPointFrom : ℕ → List Row → List Part → List ℤ → Type 0
IsPointFrom columns front [] p = IsPointAt columns front p
IsPointFrom columns front (None ∷ parts) p = ⊥
IsPointFrom columns front (Some choices ∷ parts) p = (choice : List Row) × IsAmong choice choices × IsPointFrom columns (front ++ choice) parts p

-- the want of memory, if a stop is one
abbrev pub want_of : LegalStop → Option AllocError
want_of (Overflow q) = None
want_of (Spent q k) = None
want_of (Memory e) = Some e

-- the first of two stops, of which the first may be missing
abbrev pub first_stop : Option LegalStop → LegalStop → Option LegalStop
first_stop None e = Some e
first_stop (Some e) f = Some e

abbrev pub UnlessMemory : LegalStop → Type 0 → Type 0
UnlessMemory (Overflow q) P = P
UnlessMemory (Spent q k) P = P
UnlessMemory (Memory e) P = Unit {0}

-- what stops a search: a question, or a part that cannot be formed
abbrev pub StopsFrom : ℕ → ℕ → List Row → List Part → LegalStop → Type 0
StopsFrom budget columns front [] e = StopsOn budget columns front e
StopsFrom budget columns front (None ∷ parts) e = UnlessMemory e (e ≡ Overflow (over columns front))
StopsFrom budget columns front (Some choices ∷ parts) e = UnlessMemory e ((choice : List Row) × IsAmong choice choices × StopsFrom budget columns (front ++ choice) parts e)

-- the part has these choices; where it cannot be formed, this holds
abbrev pub IsPart : Type 0 → Part → List (List Row) → Type 0
IsPart wide None choices = wide
IsPart wide (Some made) choices = made ≡ choices
