-- A whole file: the first rule that it breaks, and its program.
use Rattle.std.specs.Prelude.{ℕ, ◌≡◌, nat_lt, Bool, true, false, ◌&&◌, if◌then◌else◌, List, [], ◌∷◌, ◌++◌, map, length, slice_get, Option, Some, None, option_and_then, Result, Ok, Err}
use Rattle.ac_syntax.specs.declared.tree.Kind.TheVariants.{Input, Local}
use Rattle.ac_syntax.specs.declared.tree.Array.{Array}
use Rattle.ac_syntax.specs.declared.tree.Comparison.{Comparison}
use Rattle.ac_syntax.specs.declared.tree.Stmt.{Stmt}
use Rattle.ac_syntax.specs.declared.tree.Program.{Program}
use Rattle.ac_parse_grammar.specs.declared.tree.Word.{Word}
use Rattle.ac_parse_grammar.specs.declared.tree.Part.{Part}
use Rattle.ac_parse_grammar.specs.declared.tree.Statement.{Statement}
use Rattle.ac_parse_grammar.specs.declared.tree.Pragma.{Pragma}
use Rattle.ac_parse_grammar.specs.declared.tree.Pragma.TheVariants.{Context, Commutative, Output}
use Rattle.ac_parse_grammar.specs.declared.tree.File.{File}
use Rattle.ac_parse_exprs.specs.declared.fault.Which.TheVariants as which
use Rattle.ac_parse_exprs.specs.declared.fault.Rule.{Rule}
use Rattle.ac_parse_exprs.specs.declared.fault.Rule.TheVariants as rule
use Rattle.ac_parse_exprs.specs.declared.fault.Broken.{Broken}
use Rattle.ac_parse_rules.specs.declared.fault.RuleFault.{RuleFault}
use Rattle.ac_parse_rules.specs.declared.fault.RuleFault.TheVariants as fault
use Rattle.ac_parse_exprs.specs.declared.scope.Meaning.{Meaning}
use Rattle.ac_parse_exprs.specs.declared.scope.Meaning.TheVariants as means
use Rattle.ac_parse_exprs.specs.declared.scope.Entry.{Entry}
use Rattle.ac_parse_exprs.specs.declared.scope.Scope.{Scope}
use Rattle.ac_parse_exprs.specs.FaultOrder.{earlier, broken, rule_broken}
use Rattle.ac_parse_exprs.specs.Meanings.{declared_meaning, misused_unless}
use Rattle.ac_parse_exprs.specs.Comparisons.{first_of, condition, condition_broken}
use Rattle.ac_parse_exprs.specs.Values.{array_number}
use Rattle.ac_parse_rules.specs.Declarations.{is_whole, is_loop_name, param_count, input_count, entries, fixed_scope, each_declared_broken, arrays_from, slots_from, param_names}
use Rattle.ac_parse_rules.specs.FewQuotients.{all_crowded}
use Rattle.ac_parse_rules.specs.Statements.{statements_broken, all_targets, stmts}

-- what the lines of each kind say, in the order of the text
abbrev pub context_parts : List Pragma → List Part
context_parts [] = []
context_parts (Context parts ∷ ps) = parts ++ context_parts ps
context_parts (Commutative words ∷ ps) = context_parts ps
context_parts (Output words ∷ ps) = context_parts ps

abbrev pub commutative_words : List Pragma → List Word
commutative_words [] = []
commutative_words (Context parts ∷ ps) = commutative_words ps
commutative_words (Commutative words ∷ ps) = words ++ commutative_words ps
commutative_words (Output words ∷ ps) = commutative_words ps

abbrev pub line_words : Pragma → List Word
line_words (Context parts) = []
line_words (Commutative words) = []
line_words (Output words) = words

abbrev pub output_words : List Pragma → List Word
output_words [] = []
output_words (p ∷ ps) = line_words p ++ output_words ps

abbrev pub has_output_line : List Pragma → Bool
has_output_line [] = false
has_output_line (Context parts ∷ ps) = has_output_line ps
has_output_line (Commutative words ∷ ps) = has_output_line ps
has_output_line (Output words ∷ ps) = true

-- an output is an array of the parameter list, with brackets; the first arrays are those of the list
abbrev pub output_rule : ℕ → Meaning → Option Rule
output_rule inputs (means.Parameter k) = Some rule.Misused
output_rule inputs (means.Iterator k) = Some rule.Misused
output_rule inputs (means.Array number dimensions) = misused_unless (nat_lt number inputs && nat_lt 0 dimensions)
output_rule inputs means.LoopName = Some rule.Undeclared
output_rule inputs means.OwnStart = Some rule.Misused
output_rule inputs means.Nothing = Some rule.Undeclared

abbrev pub output_broken : List Entry → ℕ → Word → Option Broken
output_broken names inputs word = rule_broken (output_rule inputs (declared_meaning names word.name)) word.place

abbrev pub pragma_broken : List Entry → Scope → ℕ → Pragma → Option Broken
pragma_broken names scope inputs (Context parts) = condition_broken names scope parts
pragma_broken names scope inputs (Commutative words) = None
pragma_broken names scope inputs (Output words) = first_of (map (output_broken names inputs) words)

-- the numbers of the outputs, where there is an output line
abbrev pub output_numbers : List Entry → List Word → List ℕ
output_numbers names words = map (λ word. array_number (declared_meaning names word.name)) words

abbrev pub output_line : List Entry → List Pragma → Option (List ℕ)
output_line names ps = if has_output_line ps then Some (output_numbers names (output_words ps)) else None

-- outside all loops
abbrev pub body_scope : ℕ → Scope
body_scope params = record { params = params; iterators = []; starting = None; fixed = false; tested = false }

-- one assignment too many
abbrev pub assignments_broken : List Statement → Option Broken
assignments_broken body = option_and_then (λ place. broken (rule.Limit which.Assignments) place) (slice_get (all_targets body) 48)

abbrev pub declarations_broken : List Entry → File → Option Broken
declarations_broken names file =
    earlier (first_of (each_declared_broken names (fixed_scope (param_count file.params)) 0 file.params))
    (first_of (each_declared_broken names (fixed_scope (param_count file.params)) (length file.params) file.locals))

abbrev pub body_broken : List Entry → File → Option Broken
body_broken names file = earlier (statements_broken names (body_scope (param_count file.params)) file.body) (earlier (assignments_broken file.body) (all_crowded names (body_scope (param_count file.params)) [] file.body))

abbrev pub pragmas_broken : List Entry → File → Option Broken
pragmas_broken names file = first_of (map (pragma_broken names (fixed_scope (param_count file.params)) (input_count file.params)) file.pragmas)

abbrev pub broken_under : List Entry → File → Option Broken
broken_under names file = earlier (declarations_broken names file) (earlier (body_broken names file) (pragmas_broken names file))

abbrev pub arrays_under : List Entry → File → List Array
arrays_under names file =
    arrays_from names (fixed_scope (param_count file.params)) Input is_whole 0 file.params
    ++ arrays_from names (fixed_scope (param_count file.params)) Local (is_loop_name file.body) (length file.params) file.locals

abbrev pub body_under : List Entry → File → List Stmt
body_under names file = stmts names (body_scope (param_count file.params)) file.body

abbrev pub context_under : List Entry → File → List Comparison
context_under names file = condition names (fixed_scope (param_count file.params)) (context_parts file.pragmas)

abbrev pub program_under : List Entry → File → Program
program_under names file = record {
  name = file.name.name;
  params = param_names file.params;
  arrays = arrays_under names file;
  slots = slots_from file.params 0 0;
  body = body_under names file;
  context = record { parts = context_under names file };
  commutative = map (λ word. word.name) (commutative_words file.pragmas);
  outputs = output_line names file.pragmas;
}

abbrev pub names_of : File → List Entry
names_of file = entries file.params file.locals file.body

-- the first rule that a file breaks
abbrev pub file_broken : File → Option Broken
file_broken file = broken_under (names_of file) file

-- the program of a file
abbrev pub program_of : File → Program
program_of file = program_under (names_of file) file

-- a fault as a broken rule; want of memory is none
abbrev pub broken_of : RuleFault → Option Broken
broken_of (fault.NotAffine place) = broken rule.NotAffine place
broken_of (fault.Undeclared place) = broken rule.Undeclared place
broken_of (fault.Misused place) = broken rule.Misused place
broken_of (fault.Duplicate place) = broken rule.Duplicate place
broken_of (fault.Endless place) = broken rule.Endless place
broken_of (fault.Limit which place) = broken (rule.Limit which) place
broken_of (fault.Memory e) = None

-- the program where no rule is broken, else the first; want of memory may come at any time
abbrev pub IsAnswer : File → Result Program RuleFault → Type 0
IsAnswer file (Ok program) = (file_broken file ≡ None) × (program ≡ program_of file)
IsAnswer file (Err (fault.NotAffine place)) = file_broken file ≡ broken rule.NotAffine place
IsAnswer file (Err (fault.Undeclared place)) = file_broken file ≡ broken rule.Undeclared place
IsAnswer file (Err (fault.Misused place)) = file_broken file ≡ broken rule.Misused place
IsAnswer file (Err (fault.Duplicate place)) = file_broken file ≡ broken rule.Duplicate place
IsAnswer file (Err (fault.Endless place)) = file_broken file ≡ broken rule.Endless place
IsAnswer file (Err (fault.Limit which place)) = file_broken file ≡ broken (rule.Limit which) place
IsAnswer file (Err (fault.Memory e)) = Unit {0}
