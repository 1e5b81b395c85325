-- Every line that is said of an output, and of a flow that stops.
use Rattle.std.specs.Prelude.{ℕ, ◌+◌, ℤ, List, [], ◌∷◌, ◌++◌, length, take, drop, codes, Option, Some, None, slice_get}
use Rattle.std.specs.Fmt.{decimal, signed_decimal}
use Rattle.std.specs.List.{flat_map, join_by}
use Rattle.ac_forms.specs.declared.conj.Conj.{Conj}
use Rattle.ac_syntax.specs.Text.{array_name}
use Rattle.ac_syntax.specs.declared.tree.Order.{Order}
use Rattle.ac_syntax.specs.declared.tree.Position.{Position}
use Rattle.ac_syntax.specs.declared.tree.Site.{Site}
use Rattle.ac_sets.specs.SetTexts.{rows_text}
use Rattle.ac_prooftext_lines.specs.Spelling.{position_word, order_word}
use Rattle.ac_widen.specs.declared.derivation.Entry.{Entry}
use Rattle.ac_widen.specs.declared.derivation.Reason.{Reason}
use Rattle.ac_widen.specs.declared.derivation.Reason.TheVariants as reason
use Rattle.ac_match.specs.declared.orders.Refuted.{Refuted}
use Rattle.ac_flow.specs.declared.types.FlowStop.{FlowStop}
use Rattle.ac_flow.specs.declared.types.FlowStop.TheVariants as flow
use Rattle.ac_flow.specs.declared.types.ContextStop.{ContextStop}
use Rattle.ac_flow.specs.declared.types.ContextStop.TheVariants as context
use Rattle.ac_report.specs.Layouts.{Layout, width, numbered}
use Rattle.ac_report.specs.declared.types.Cause.{Cause}
use Rattle.ac_report.specs.declared.types.Cause.TheVariants.{Unmatched, OverflowQuestion, OverflowHull, SpentQuestion, SpentPieces, SpentPaths, SpentOrders}
use Rattle.ac_report.specs.declared.types.Verdict.{Verdict}
use Rattle.ac_report.specs.declared.types.Verdict.TheVariants.{Equal, Different, Unknown}

-- a line ends with a newline
abbrev pub line : List ℕ → List ℕ
line text = text ++ 10 ∷ []

-- ---- entries of a derivation

-- numbers in parentheses, joined by commas
abbrev pub tuple_text : List ℤ → List ℕ
tuple_text xs = codes "(" ++ join_by signed_decimal (codes ",") xs ++ codes ")"

-- a position at coordinates
abbrev pub spot_text : Position → List ℤ → List ℕ
spot_text P xs = position_word P ++ tuple_text xs

-- the weight of an entry
abbrev pub weight_text : ℕ × ℤ → List ℕ
weight_text w = codes " " ++ decimal w.0 ++ codes "*" ++ signed_decimal w.1

abbrev pub reason_text : Reason → List ℕ
reason_text reason.Output = codes " output"
reason_text (reason.Step from) = codes " step " ++ decimal from
reason_text (reason.Hull m weights) = codes " hull " ++ signed_decimal m ++ flat_map weight_text weights

-- the coordinates of both positions, behind the valuation
abbrev pub coordinates : Layout → Entry → List ℤ
coordinates l e = drop (length l.params) e.point

-- both positions at their coordinates
abbrev pub pair_text : Layout → Entry → List ℕ
pair_text l e = spot_text e.left (take (width l e.left) (coordinates l e)) ++ codes " ~ " ++ spot_text e.right (drop (width l e.left) (coordinates l e))

-- an entry with its number
abbrev pub entry_line : Layout → ℕ → Entry → List ℕ
entry_line l k e = line (codes "    " ++ decimal k ++ codes ": " ++ pair_text l e ++ codes " at " ++ tuple_text (take (length l.params) e.point) ++ reason_text e.reason)

-- entries, from the one with the number k on
abbrev pub entry_lines : Layout → ℕ → List Entry → List ℕ
entry_lines l k [] = []
entry_lines l k (e ∷ es) = entry_line l k e ++ entry_lines l (k + 1) es

-- the order of the arguments at a pair of calls
abbrev pub site_text : Site × Order → List ℕ
site_text s = codes " " ++ position_word s.0.left ++ codes "/" ++ position_word s.0.right ++ codes "=" ++ order_word s.1

-- a refuted order, and how a mismatch follows under it
abbrev pub refuted_lines : Layout → Refuted → List ℕ
refuted_lines l r = line (codes "  order" ++ flat_map site_text r.partial) ++ entry_lines l 0 r.why.entries

-- ---- causes

-- the rows of a question, over the columns c0, c1 and so on
abbrev pub question_text : Conj → List ℕ
question_text q = rows_text (numbered 99 q.columns) q.rows

abbrev pub question_line : Conj → List ℕ
question_line q = line (codes "  question: " ++ question_text q)

abbrev pub members_line : List (List ℤ) → List ℕ
members_line members = line (codes "  members: " ++ join_by tuple_text (codes " ") members)

abbrev pub cost_line : ℕ → Conj → List ℕ
cost_line cost q = line (codes "  cost " ++ decimal cost ++ codes ": " ++ question_text q)

-- the first count that is too large, and where
abbrev pub pieces_line : Position → List ℕ
pieces_line P = line (codes "  4097 at " ++ position_word P)

abbrev pub cause_words : Cause → List ℕ
cause_words (Unmatched refuted) = codes "unmatched"
cause_words (OverflowQuestion q) = codes "overflow"
cause_words (OverflowHull members) = codes "overflow"
cause_words (SpentQuestion q cost) = codes "spent question"
cause_words (SpentPieces P kept) = codes "spent pieces"
cause_words (SpentPaths paths) = codes "spent paths"
cause_words (SpentOrders refuted) = codes "spent orders"

-- what follows the first line
abbrev pub cause_lines : Layout → Cause → List ℕ
cause_lines l (Unmatched refuted) = flat_map (refuted_lines l) refuted
cause_lines l (OverflowQuestion q) = question_line q
cause_lines l (OverflowHull members) = members_line members
cause_lines l (SpentQuestion q cost) = cost_line cost q
cause_lines l (SpentPieces P kept) = pieces_line P
cause_lines l (SpentPaths paths) = line (codes "  20001")
cause_lines l (SpentOrders refuted) = flat_map (refuted_lines l) refuted

-- ---- verdicts

-- the value of a parameter
abbrev pub value_text : List ℕ → ℤ → List ℕ
value_text name value = name ++ codes "=" ++ signed_decimal value

-- further parameters with their values
abbrev pub further_values : List (List ℕ) → List ℤ → List ℕ
further_values [] vs = []
further_values (n ∷ ns) [] = []
further_values (n ∷ ns) (v ∷ vs) = codes ", " ++ value_text n v ++ further_values ns vs

-- the parameters with their values, where there are any
abbrev pub valuation_text : List (List ℕ) → List ℤ → List ℕ
valuation_text [] vs = []
valuation_text (n ∷ ns) [] = []
valuation_text (n ∷ ns) (v ∷ vs) = codes " at " ++ value_text n v ++ further_values ns vs

-- a coordinate in brackets
abbrev pub coordinate_text : ℤ → List ℕ
coordinate_text x = codes "[" ++ signed_decimal x ++ codes "]"

-- the lines of an output of this name
abbrev pub verdict_lines : Layout → List ℕ → Verdict → List ℕ
verdict_lines l name Equal = line (name ++ codes " equal")
verdict_lines l name (Different at element) = line (name ++ codes " different" ++ valuation_text l.params at ++ codes ", element " ++ flat_map coordinate_text element)
verdict_lines l name (Unknown cause) = line (name ++ codes " unknown " ++ cause_words cause) ++ cause_lines l cause

-- those of all outputs, each with its verdict
abbrev pub report_lines : Layout → List ℕ → List Verdict → List ℕ
report_lines l [] vs = []
report_lines l (o ∷ os) [] = []
report_lines l (o ∷ os) (v ∷ vs) = verdict_lines l (array_name (slice_get l.arrays o)) v ++ report_lines l os vs

-- ---- stops

-- a flow that stops; want of memory has no text
abbrev pub flow_stop_text : FlowStop → Option (List ℕ)
flow_stop_text (flow.Overflow q) = Some (line (codes "stopped overflow") ++ question_line q)
flow_stop_text (flow.Spent q cost) = Some (line (codes "stopped spent question") ++ cost_line cost q)
flow_stop_text (flow.Pieces P kept) = Some (line (codes "stopped spent pieces") ++ pieces_line P)
flow_stop_text (flow.Memory e) = None

-- a context without a valuation, or whose question stops
abbrev pub context_stop_text : ContextStop → Option (List ℕ)
context_stop_text context.EmptyContext = Some (line (codes "empty context"))
context_stop_text (context.Overflow q) = Some (line (codes "stopped overflow") ++ question_line q)
context_stop_text (context.Spent q cost) = Some (line (codes "stopped spent question") ++ cost_line cost q)
context_stop_text (context.Memory e) = None
