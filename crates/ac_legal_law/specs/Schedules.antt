-- Schedules: for each assignment forms over the parameters and then the counters, whose values are the time of an entry.
use Rattle.std.specs.Prelude.{ℕ, ◌≡◌, ◌++◌, List, [], ℤ, length, true, slice_index_or}
use Rattle.std.specs.List.Sorted.{IsPermutation}
use Rattle.ac_forms.specs.Affine.{Affine}
use Rattle.ac_syntax.specs.Algebra.{Cell, run, integers}
use Rattle.ac_syntax.specs.Index.{point, holds}
use Rattle.ac_syntax.specs.Sameness.{leaves}
use Rattle.ac_syntax.specs.Trace.{Entry, trace_of}
use Rattle.ac_syntax.specs.declared.tree.Cond.{Cond}
use Rattle.ac_syntax.specs.declared.tree.Program.{Program}
use Rattle.ac_syntax.specs.declared.tree.Symbol.{Symbol}
use Rattle.ac_poly.specs.ModelMeaning.{values_at}
use Rattle.ac_legal_law.specs.EntryTimes.{KeepsOrder, NeverFall}

-- the forms of the assignment with a number
abbrev pub forms_of : List (List Affine) → ℕ → List Affine
forms_of times k = slice_index_or times k []

-- the time of an entry: its assignment's forms at its counters
abbrev pub time_of : List (List Affine) → List ℤ → Entry → List ℤ
time_of times params e = values_at (params ++ e.counters) (forms_of times e.stmt)

-- a valuation of a context of a program
pub record IsValuationOf (p : Program) (context : Cond) (params : List ℤ) : Type 0 where
  pub each : length params ≡ length p.params
  pub context_holds : holds (point params []) context ≡ true

-- the schedule keeps the order: at every valuation of the context the earlier entry of each two that conflict has the
-- smaller time
abbrev pub ScheduleKeepsOrder : List (List Affine) → Program → Cond → Type 0
ScheduleKeepsOrder times p context = (params : List ℤ) → IsValuationOf p context params → KeepsOrder (time_of times params) (trace_of p.body params)

-- if it does, each list of the entries of the trace along which times never fall leaves the same
abbrev pub KeptOrdersReorder : Type 0
KeptOrdersReorder =
    (times : List (List Affine)) (p : Program) (context : Cond) → ScheduleKeepsOrder times p context → (params : List ℤ) → IsValuationOf p context params
    → (es : List Entry) → IsPermutation (trace_of p.body params) es → NeverFall (time_of times params) es
    → (table : Symbol → List ℤ → ℤ) (contents : Cell → ℤ) (c : Cell) → run (integers table) es contents c ≡ leaves p.body params table contents c
