-- Lists of the same entries in another order leave the same, if times keep the order of what conflicts.
use Rattle.std.specs.Prelude.{◌≡◌, List, ℤ}
use Rattle.std.specs.List.Sorted.{IsPermutation}
use Rattle.ac_syntax.specs.Algebra.{Cell, run, integers}
use Rattle.ac_syntax.specs.Sameness.{leaves}
use Rattle.ac_syntax.specs.Trace.{Entry, trace_of}
use Rattle.ac_syntax.specs.declared.tree.Stmt.{Stmt}
use Rattle.ac_syntax.specs.declared.tree.Symbol.{Symbol}
use Rattle.ac_legal_law.specs.EntryTimes.{KeepsOrder, NeverFall}

abbrev pub SortingLeavesTheState : Type 0
SortingLeavesTheState =
    (time : Entry → List ℤ) (es fs : List Entry) → KeepsOrder time es → IsPermutation es fs → NeverFall time fs
    → (table : Symbol → List ℤ → ℤ) (contents : Cell → ℤ) (c : Cell) → run (integers table) fs contents c ≡ run (integers table) es contents c

abbrev pub ReorderingsLeaveTheState : Type 0
ReorderingsLeaveTheState =
    (time : Entry → List ℤ) (body : List Stmt) (params : List ℤ) (es : List Entry) → KeepsOrder time (trace_of body params) → IsPermutation (trace_of body params) es → NeverFall time es
    → (table : Symbol → List ℤ → ℤ) (contents : Cell → ℤ) (c : Cell) → run (integers table) es contents c ≡ leaves body params table contents c
