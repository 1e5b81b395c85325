-- The lines of `aprove`.
use Rattle.std.specs.Prelude.{ℕ, List, [], ◌∷◌, ◌++◌, codes, decimal, Option, Some, None, Bool, true, false, if◌then◌else◌}
use Rattle.std.specs.List.{list_all}
use Rattle.ac_syntax.specs.declared.tree.Array.{Array}
use Rattle.ac_assoc.specs.declared.types.AssocFault.{AssocFault}
use Rattle.ac_assoc.specs.declared.types.AssocFault.TheVariants.{Arity, Long, Memory}
use Rattle.ac_top.specs.ConsoleLines.{line, name_at, refusal_line}
use Rattle.ac_top.specs.InstanceReports.{of_side}
use Rattle.ac_top.specs.declared.arrangements.Answer.{Answer}
use Rattle.ac_top.specs.declared.arrangements.Answer.TheVariants as answer
use Rattle.ac_top.specs.declared.arrangements.Early.{Early}
use Rattle.ac_top.specs.declared.status.Status.{Status}
use Rattle.ac_top.specs.declared.status.Status.TheVariants as status

-- what is said of a fault of a chain, in the file of its side; want of memory is no fault of a chain
abbrev pub fault_line : (a b first second : List ℕ) → AssocFault → Option (List ℕ)
fault_line a b first second (Arity side place) = Some (refusal_line (of_side side a b) (of_side side first second) (record { words = codes "misused"; at = place.at }))
fault_line a b first second (Long side place) = Some (refusal_line (of_side side a b) (of_side side first second) (record { words = codes "limit chain"; at = place.at }))
fault_line a b first second (Memory error) = None

-- what stands behind the name of an output on which the search ends early
abbrev pub early_words : Early → List ℕ
early_words first = codes " unknown early in arrangement " ++ decimal first.number ++ codes ": " ++ first.words.now

-- what stands behind the name of an output
abbrev pub answer_words : Answer → List ℕ
answer_words answer.Equal = codes " equal"
answer_words answer.Unmatched = codes " unknown unmatched"
answer_words answer.Spent = codes " unknown spent arrangements"
answer_words (answer.Early first) = early_words first

-- the line of an output of this name
abbrev pub answer_line : List ℕ → Answer → List ℕ
answer_line name said = line (name ++ answer_words said)

-- one line for each output, in order
abbrev pub answer_lines : List Array → List ℕ → List Answer → List ℕ
answer_lines arrays [] answers = []
answer_lines arrays (o ∷ os) [] = []
answer_lines arrays (o ∷ os) (said ∷ rest) = answer_line (name_at arrays o) said ++ answer_lines arrays os rest

abbrev pub is_equal : Answer → Bool
is_equal answer.Equal = true
is_equal answer.Unmatched = false
is_equal answer.Spent = false
is_equal (answer.Early first) = false

-- done where each answer is equal, else unknown
abbrev pub status_of : List Answer → Status
status_of answers = if list_all is_equal answers then status.Done else status.Unknown
