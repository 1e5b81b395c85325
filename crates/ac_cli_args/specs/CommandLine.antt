-- The command line as the library clap reads it: its subcommands, each with the words that it must have and its options.
use Rattle.std.specs.Prelude.{List, [], ◌∷◌, ◌++◌, true, false, Some, codes}
use Rattle.clap.specs.Walk.{Rule, Text}
use Rattle.clap.specs.Simple.{App, Shape, new_rule, new_shape}

-- a word that must be there
abbrev pub needed : Text → Rule
needed id = record (new_rule id) { required = true }

-- an option of this name, with a value
abbrev pub optional : Text → Rule
optional id = record (new_rule id) { long = Some id }

abbrev pub with_rules : Shape → List Rule → Shape
with_rules s rules = record s { rules = s.rules ++ rules }

-- a subcommand with two files
abbrev pub of_two_files : Text → Shape
of_two_files name = record (new_shape name) { rules = needed (codes "A") ∷ needed (codes "B") ∷ [] }

-- `prove A B [--budget n] [--proof P]`
abbrev pub prove_line : Shape
prove_line = with_rules (of_two_files (codes "prove")) (optional (codes "budget") ∷ optional (codes "proof") ∷ [])

-- `check A B P`
abbrev pub check_line : Shape
check_line = with_rules (of_two_files (codes "check")) (needed (codes "P") ∷ [])

-- `instance A B [--at W] [--limit n]`
abbrev pub instance_line : Shape
instance_line = with_rules (of_two_files (codes "instance")) (optional (codes "at") ∷ optional (codes "limit") ∷ [])

-- `flow A`
abbrev pub flow_line : Shape
flow_line = with_rules (new_shape (codes "flow")) (needed (codes "A") ∷ [])

-- `gen SEED SIZE`
abbrev pub gen_line : Shape
gen_line = with_rules (new_shape (codes "gen")) (needed (codes "SEED") ∷ needed (codes "SIZE") ∷ [])

-- `legal A S`
abbrev pub legal_line : Shape
legal_line = with_rules (new_shape (codes "legal")) (needed (codes "A") ∷ needed (codes "S") ∷ [])

-- `aprove A B SYMBOLS`
abbrev pub aprove_line : Shape
aprove_line = with_rules (of_two_files (codes "aprove")) (needed (codes "SYMBOLS") ∷ [])

-- no program's name stands before the words, and a subcommand must
abbrev pub bare_line : App
bare_line = record { top = record (new_shape (codes "denmavoli")) { no_binary_name = true; subcommand_required = true }; subs = [] }

-- with the subcommands on pairs, flows and seeds
abbrev pub first_commands : App
first_commands = record {
  top = record bare_line.top { is_leaf = false };
  subs = prove_line ∷ check_line ∷ instance_line ∷ flow_line ∷ gen_line ∷ [];
}

-- with all subcommands
abbrev pub command_line : App
command_line = record first_commands { subs = first_commands.subs ++ legal_line ∷ aprove_line ∷ [] }
