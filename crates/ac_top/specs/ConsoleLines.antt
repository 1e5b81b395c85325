-- Every line that the program prints, in one place.
use Rattle.std.specs.Prelude.{ℕ, zero, suc, ℤ, List, [], ◌∷◌, ◌++◌, codes, decimal, Option, Some, None}
use Rattle.std.specs.Fmt.{signed_decimal}
use Rattle.std.specs.List.{flat_map}
use Rattle.ac_syntax.specs.declared.tree.Array.{Array}
use Rattle.ac_instance.specs.declared.halt.Outcome.{Outcome}
use Rattle.ac_instance.specs.declared.halt.Outcome.TheVariants as outcome
use Rattle.ac_syntax.specs.declared.tree.Place.{Place}
use Rattle.ac_lex.specs.declared.tokens.LexFault.TheVariants.{BadByte, BadNumber, LongName, OpenComment}
use Rattle.ac_lex.specs.declared.tokens.LexFault.TheVariants as lex
use Rattle.ac_parse_exprs.specs.declared.fault.Which.{Which}
use Rattle.ac_parse_exprs.specs.declared.fault.Which.TheVariants.{File, Nesting, Parameters, Arrays, Dimensions, Depth, Assignments, Nodes, Literal, Coefficient, Pieces, Quotients}
use Rattle.ac_parse.specs.declared.faults.SourceFault.{SourceFault}
use Rattle.ac_parse.specs.declared.faults.SourceFault.TheVariants.{Lex, Syntax, NotAffine, Undeclared, Misused, Duplicate, Endless, Limit, Memory}
use Rattle.ac_cert.specs.RuleNames.{name_of}
use Rattle.ac_cert.specs.declared.types.Rule.{Rule}
use Rattle.ac_poly.specs.declared.types.LowerFault.{LowerFault}
use Rattle.ac_poly.specs.declared.types.LowerFault.TheVariants as lowering
use Rattle.ac_top.specs.TextPlaces.{place_text}

-- a line ends with a newline
abbrev pub line : List ℕ → List ℕ
line text = text ++ 10 ∷ []

abbrev pub usage_line : List ℕ
usage_line = line (codes "usage: prove A B [--budget n] [--proof P] | check A B P | instance A B [--at N=5,M=3] [--limit n] | flow A | gen SEED SIZE | legal A S | aprove A B SYMBOLS")

abbrev pub read_fault_line : List ℕ → List ℕ
read_fault_line name = line (name ++ codes ": read fault")

abbrev pub write_fault_line : List ℕ → List ℕ
write_fault_line name = line (name ++ codes ": write fault")

abbrev pub too_long_line : List ℕ → List ℕ
too_long_line name = line (name ++ codes ":1:1: limit file")

-- the limit that a text exceeds
abbrev pub limit_words : Which → List ℕ
limit_words File = codes "limit file"
limit_words Nesting = codes "limit nesting"
limit_words Parameters = codes "limit parameters"
limit_words Arrays = codes "limit arrays"
limit_words Dimensions = codes "limit dimensions"
limit_words Depth = codes "limit depth"
limit_words Assignments = codes "limit assignments"
limit_words Nodes = codes "limit nodes"
limit_words Literal = codes "limit literal"
limit_words Coefficient = codes "limit coefficient"
limit_words Pieces = codes "limit pieces"
limit_words Quotients = codes "limit quotients"

-- what is said of a text, and of which of its bytes
pub record Complaint : Type 0 where
  pub words : List ℕ
  pub at : ℕ

abbrev pub about : Place → List ℕ → Option Complaint
about place words = Some (record { words = words; at = place.at })

-- what is said of each fault; want of memory is none of the text's
abbrev pub complaint : SourceFault → Option Complaint
complaint (Lex (BadByte place)) = about place (codes "bad byte")
complaint (Lex (BadNumber place)) = about place (codes "bad number")
complaint (Lex (LongName place)) = about place (codes "long name")
complaint (Lex (OpenComment place)) = about place (codes "open comment")
complaint (Lex (lex.Memory error)) = None
complaint (Syntax place) = about place (codes "syntax")
complaint (NotAffine place) = about place (codes "not affine")
complaint (Undeclared place) = about place (codes "undeclared")
complaint (Misused place) = about place (codes "misused")
complaint (Duplicate place) = about place (codes "duplicate")
complaint (Endless place) = about place (codes "endless loop")
complaint (Limit which place) = about place (limit_words which)
complaint (Memory error) = None

-- what is said of a program that is not lowered; want of memory is none of its own
abbrev pub lower_complaint : LowerFault → Option Complaint
lower_complaint (lowering.Pieces place) = about place (codes "limit pieces")
lower_complaint (lowering.Wide place) = about place (codes "wide")
lower_complaint (lowering.Memory error) = None

-- NAME:L:C: WORDS
abbrev pub refusal_line : List ℕ → List ℕ → Complaint → List ℕ
refusal_line name bytes said = line (place_text name bytes said.at ++ codes ": " ++ said.words)

abbrev pub signature_line : ℕ → List ℕ
signature_line number = line (codes "signature " ++ decimal number)

abbrev pub no_output_line : List ℕ
no_output_line = line (codes "no output")

-- a coordinate in brackets
abbrev pub coordinate_text : ℤ → List ℕ
coordinate_text x = codes "[" ++ signed_decimal x ++ codes "]"

-- the coordinates of an element
abbrev pub element_text : List ℤ → List ℕ
element_text = flat_map coordinate_text

-- the name of the array with a number
abbrev pub name_at : List Array → ℕ → List ℕ
name_at [] k = []
name_at (a ∷ rest) zero = a.name
name_at (a ∷ rest) (suc k) = name_at rest k

abbrev pub empty_context_line : List ℕ
empty_context_line = line (codes "empty context")

abbrev pub valuation_line : List ℕ
valuation_line = line (codes "valuation")

abbrev pub outside_context_line : List ℕ
outside_context_line = line (codes "outside context")

-- more events than this limit
abbrev pub too_large_line : ℕ → List ℕ
too_large_line limit = line (codes "halted: more than " ++ decimal limit ++ codes " events")

-- an index value that leaves its range, at a byte of the named text
abbrev pub range_line : List ℕ → List ℕ → ℕ → ℤ → List ℕ
range_line name bytes at value = line (codes "halted: " ++ place_text name bytes at ++ codes ": range " ++ signed_decimal value)

abbrev pub outcome_line : List ℕ → Outcome → List ℕ
outcome_line name outcome.Equal = line (name ++ codes " equal")
outcome_line name (outcome.Different e) = line (name ++ codes " different, element " ++ element_text e)

-- one line for each output, in order
abbrev pub outcome_lines : List Array → List ℕ → List Outcome → List ℕ
outcome_lines arrays [] rs = []
outcome_lines arrays (o ∷ os) [] = []
outcome_lines arrays (o ∷ os) (r ∷ rs) = outcome_line (name_at arrays o) r ++ outcome_lines arrays os rs

-- an output that an accepted proof names
abbrev pub accepted_line : List ℕ → List ℕ
accepted_line name = line (name ++ codes " accepted")

-- one line for each output, in order
abbrev pub accepted_lines : List Array → List ℕ → List ℕ
accepted_lines arrays [] = []
accepted_lines arrays (o ∷ os) = accepted_line (name_at arrays o) ++ accepted_lines arrays os

-- the line of a proof that a rule refuses
abbrev pub rejected_line : ℕ → Rule → List ℕ
rejected_line number rule = line (codes "rejected at line " ++ decimal number ++ codes ": " ++ name_of rule)

-- a proof of too many bytes, or one that is nested too deep
abbrev pub rejected_too_long_line : List ℕ
rejected_too_long_line = line (codes "rejected: too long")

-- an order that keeps what conflicts
abbrev pub kept_line : List ℕ
kept_line = line (codes "kept")

-- the first line of the text of an order that is at fault
abbrev pub order_fault_line : ℕ → List ℕ
order_fault_line number = line (codes "order at line " ++ decimal number)

-- the text of an order that has too many bytes
abbrev pub order_too_long_line : List ℕ
order_too_long_line = line (codes "order too long")
