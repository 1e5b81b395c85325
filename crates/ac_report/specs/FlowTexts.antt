-- The lines of a flow.
use Rattle.std.specs.Prelude.{ℕ, ◌==◌, Bool, true, false, List, [], ◌∷◌, ◌++◌, length, map, codes, Option, Some, None, if◌then◌else◌}
use Rattle.std.specs.Fmt.{decimal}
use Rattle.std.specs.List.{flat_map, range_with_len}
use Rattle.ac_forms.specs.declared.conj.Conj.{Conj}
use Rattle.ac_syntax.specs.declared.tree.Position.{Position}
use Rattle.ac_syntax.specs.declared.tree.Position.TheVariants.{Output, Node, InitialOutput, InitialNode}
use Rattle.ac_sets.specs.SetTexts.{pieces_text}
use Rattle.ac_prooftext_lines.specs.Spelling.{position_word}
use Rattle.ac_flow.specs.declared.types.Case.{Case}
use Rattle.ac_flow.specs.declared.types.ReadFlow.{ReadFlow}
use Rattle.ac_flow.specs.declared.types.Remainder.{Remainder}
use Rattle.ac_report.specs.Layouts.{Layout, columns_of, read_name, numbered}
use Rattle.ac_report.specs.ReportTexts.{line}

abbrev pub is_same_source : Option ℕ → Option ℕ → Bool
is_same_source None None = true
is_same_source None (Some v) = false
is_same_source (Some u) None = false
is_same_source (Some u) (Some v) = u == v

-- what is left of a case, if it is one of this source
abbrev pub pieces_in : Option ℕ → Case → List Conj
pieces_in source case = if is_same_source source case.source then map (λ (r : Remainder). r.conj) case.pieces else []

-- where a source gives the value, in the order of its cases
abbrev pub pieces_of : Option ℕ → List Case → List Conj
pieces_of source cases = flat_map (pieces_in source) cases

-- the columns of a read of the assignment s: the parameters, and x0, x1 and so on for its loops and quotients
abbrev pub reader_names : Layout → ℕ → List (List ℕ)
reader_names l s = l.params ++ numbered 120 (columns_of l s)

-- behind these w0, w1 and so on for the loops and quotients of the source u
abbrev pub source_names : Layout → ℕ → ℕ → List (List ℕ)
source_names l s u = reader_names l s ++ numbered 119 (columns_of l u)

-- the line of a source, none where it is nowhere the source
abbrev pub union_line : List ℕ → List (List ℕ) → List Conj → List ℕ
union_line head names [] = []
union_line head names (c ∷ cs) = line (codes "  " ++ head ++ codes ": " ++ pieces_text names (c ∷ cs))

abbrev pub source_line : Layout → ℕ → List Case → ℕ → List ℕ
source_line l s cases u = union_line (codes "from S" ++ decimal u) (source_names l s u) (pieces_of (Some u) cases)

abbrev pub initial_line : Layout → ℕ → List Case → List ℕ
initial_line l s cases = union_line (codes "initial") (reader_names l s) (pieces_of None cases)

-- a read with its sources: the assignments in the order of the text, then the initial contents
abbrev pub read_lines : Layout → ℕ → ℕ → List Case → List ℕ
read_lines l s k cases =
    line (position_word (Node s k) ++ codes " reads " ++ read_name l s k) ++ flat_map (source_line l s cases) (range_with_len 0 (length l.assignments)) ++ initial_line l s cases

-- only reads are shown
abbrev pub reader_lines : Layout → Position → List Case → List ℕ
reader_lines l (Output o) cases = []
reader_lines l (Node s k) cases = read_lines l s k cases
reader_lines l (InitialOutput o) cases = []
reader_lines l (InitialNode s k) cases = []

abbrev pub flow_lines : Layout → List ReadFlow → List ℕ
flow_lines l reads = flat_map (λ (r : ReadFlow). reader_lines l r.position r.cases) reads
