-- The entries of a path among all entries.
use Rattle.std.specs.Prelude.{ℕ, suc, ◌<◌, ℤ, List, [], ◌∷◌, ◌++◌, length}
use Rattle.ac_syntax.specs.declared.tree.Order.{Order}
use Rattle.ac_syntax.specs.declared.tree.Position.{Position}
use Rattle.ac_widen.specs.Derivations.{StandsAt, Justified}
use Rattle.ac_widen.specs.Setting.{Setting}
use Rattle.ac_widen.specs.declared.derivation.Entry.{Entry}
use Rattle.ac_widen.specs.declared.derivation.Reason.{Reason}
use Rattle.ac_widen.specs.declared.derivation.Reason.TheVariants.{Step}
use Rattle.ac_widen_programs.specs.DerivationEntries.{entries_of}
use Rattle.ac_walk_state.specs.declared.begins.Begin.{Begin}
use Rattle.ac_walk_state.specs.declared.begins.Begin.TheVariants.{At, Further}

-- an entry that stands for a reason
abbrev pub by_reason : Entry → Reason → Entry
by_reason e reason = record { left = e.left; right = e.right; point = e.point; reason = reason }

-- steps behind an entry, each from the one before it: the number of that entry, and the number of the first step
abbrev pub steps_from : ℕ → ℕ → List Entry → List Entry
steps_from from next [] = []
steps_from from next (e ∷ es) = by_reason e (Step from) ∷ steps_from next (suc next) es

-- the entries with those of a path: its first pair is an entry already, or is a further one
abbrev pub entered : List Entry → Begin → List Entry → List Entry
entered es begin [] = es
entered es (At place) (e ∷ path) = es ++ steps_from place (length es) path
entered es (Further reason) (e ∷ path) = (es ++ by_reason e reason ∷ []) ++ steps_from (length es) (suc (length es)) path

-- the pair at the point is the entry with the number, or stands for the reason
abbrev pub BeginsAt : Setting (Position × Position) → (Position × Position → Order) → List Entry → Position × Position → List ℤ → Begin → Type 0
BeginsAt s order es widening_point p (At place) = StandsAt (entries_of es) place widening_point p
BeginsAt s order es widening_point p (Further reason) = Justified s order (entries_of es) widening_point p reason

-- so it is with the first pair of a path
abbrev pub Begins : Setting (Position × Position) → (Position × Position → Order) → List Entry → List Entry → Begin → Type 0
Begins s order es [] begin = ⊥
Begins s order es (e ∷ path) begin = BeginsAt s order es (e.left, e.right) e.point begin

-- a path from an entry has a step
abbrev pub GoesOn : List Entry → Begin → Type 0
GoesOn path (At place) = 1 < length path
GoesOn path (Further reason) = Unit {0}
