-- The source of a read or of an output is the last writer, and what a run leaves is what the source stored.
use Rattle.std.specs.Prelude.{◌≡◌, List, ℤ, Option, Some, None}
use Rattle.std.specs.List.{Contains}
use Rattle.ac_syntax.specs.Trace.{Entry, trace_of}
use Rattle.ac_syntax.specs.Algebra.{Cell, target, run, integers}
use Rattle.ac_syntax.specs.Source.{Writer, Stands, source}
use Rattle.ac_syntax.specs.Spot.{value_at, resolved}
use Rattle.ac_syntax.specs.ExecutionOrder.{IsBefore}
use Rattle.ac_syntax.specs.declared.tree.Stmt.{Stmt}
use Rattle.ac_syntax.specs.declared.tree.Symbol.{Symbol}

-- an entry of the trace that writes the cell
pub record Writes (es : List Entry) (c : Cell) (e : Entry) : Type 0 where
  pub stands : Contains es e
  pub target : target e ≡ c

-- of the writers that `Counts` admits the last one, or none where there is none
abbrev pub IsLast : List Stmt → List Entry → Cell → (Entry → Type 0) → Option Writer → Type 0
IsLast body es c Counts None = (e : Entry) → Writes es c e → ¬ Counts e
IsLast body es c Counts (Some w) = Writes es c w.entry × Counts w.entry × ((e : Entry) → Writes es c e → Counts e → ¬ IsBefore body w.entry e)

-- the source of a read is the last writer that is before the reader
abbrev pub SourceIsTheLastWriterBefore : Type 0
SourceIsTheLastWriterBefore =
    (body : List Stmt) (params : List ℤ) (c : Cell) (reader : Writer) → Stands (trace_of body params) reader
    → IsLast body (trace_of body params) c (λ e. IsBefore body e reader.entry) (source c reader.earlier)

-- the source of an element at the end of a run is the last writer of all
abbrev pub SourceIsTheLastWriter : Type 0
SourceIsTheLastWriter = (body : List Stmt) (params : List ℤ) (c : Cell) → IsLast body (trace_of body params) c (λ e. Unit {0}) (source c (trace_of body params))

-- a run leaves in a cell what its source stored, or the initial contents
abbrev pub RunLeavesWhatTheSourceStored : Type 0
RunLeavesWhatTheSourceStored =
    (table : Symbol → List ℤ → ℤ) (es : List Entry) (contents : Cell → ℤ) (c : Cell)
    → run (integers table) es contents c ≡ value_at (integers table) es contents (resolved c (source c es))
