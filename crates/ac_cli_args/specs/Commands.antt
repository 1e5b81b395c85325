-- What a command line asks for, where clap takes its words.
use Rattle.std.specs.Prelude.{◌≡◌, ℕ, List, [], codes, map, Option, None, Some, Vec, option_map}
use Rattle.std.specs.Global.{Global}
use Rattle.std.specs.List.{AllByRecursion}
use Rattle.std.specs.Str.{IsUtf8}
use Rattle.clap.specs.Faults.{fault_of}
use Rattle.clap.specs.Simple.{subcommand_of}
use Rattle.clap.specs.Walk.{Row, Text, first_of}
use Rattle.ac_cli_args.specs.CommandLine.{command_line}
use Rattle.ac_cli_args.specs.DecimalNumbers.{IsLimitOr, IsSeed, IsSize}
use Rattle.ac_cli_args.specs.SymbolLists.{HasSymbols, listed_in}
use Rattle.ac_cli_args.specs.declared.command.Command.{Command}
use Rattle.ac_cli_args.specs.declared.command.Command.TheVariants.{Prove, Check, Instance, Flow, Gen, Legal, Aprove}

-- the bytes of the words
abbrev pub spelled : List (Vec ℕ Global) → List Text
spelled = map (λ word. word.items)

-- what a command line asks for: names of files, with that of a proof for `check` and maybe for `prove`; a budget; the word that gives the
-- parameters their values, and a limit; a seed and a size; the name of a file with an order; and for `aprove` the names of symbols
pub data Asked : Type 0 where
  prove : Text → Text → ℕ → Option Text → Asked
  check_of : Text → Text → Text → Asked
  instance_of : Text → Text → Option Text → ℕ → Asked
  flow_of : Text → Asked
  gen_of : ℕ → ℕ → Asked
  legal_of : Text → Text → Asked
  aprove_of : Text → Text → List Text → Asked

-- the argument with this id has this value
abbrev pub Has : List Row → Text → Text → Type 0
Has found id value = first_of id found ≡ Some value

-- the number of an argument, where it has one
abbrev pub HasNumber : (Text → ℕ → Type 0) → Option Text → ℕ → Type 0
HasNumber IsNumber None n = ⊥
HasNumber IsNumber (Some text) n = IsNumber text n

-- what a subcommand asks for with the values that were found for its arguments; where there is no n the budget is 50,000 and the limit
-- 1,000,000
abbrev pub Asks : Text → List Row → Asked → Type 0
Asks name found (prove a b budget proof) =
    (name ≡ codes "prove") × Has found (codes "A") a × Has found (codes "B") b × IsLimitOr 50000 (first_of (codes "budget") found) budget × (first_of (codes "proof") found ≡ proof)
Asks name found (check_of a b p) = (name ≡ codes "check") × Has found (codes "A") a × Has found (codes "B") b × Has found (codes "P") p
Asks name found (instance_of a b at limit) =
    (name ≡ codes "instance") × Has found (codes "A") a × Has found (codes "B") b × (first_of (codes "at") found ≡ at) × IsLimitOr 1000000 (first_of (codes "limit") found) limit
Asks name found (flow_of a) = (name ≡ codes "flow") × Has found (codes "A") a
Asks name found (gen_of seed size) =
    (name ≡ codes "gen") × HasNumber IsSeed (first_of (codes "SEED") found) seed × HasNumber IsSize (first_of (codes "SIZE") found) size
Asks name found (legal_of a order) = (name ≡ codes "legal") × Has found (codes "A") a × Has found (codes "S") order
Asks name found (aprove_of a b names) =
    (name ≡ codes "aprove") × Has found (codes "A") a × Has found (codes "B") b × HasSymbols (first_of (codes "SYMBOLS") found) names

abbrev pub AsksIn : Option (Text × List Row) → Asked → Type 0
AsksIn None asked = ⊥
AsksIn (Some met) asked = Asks met.0 met.1 asked

-- clap takes the words for the command line, and what it finds for the subcommand asks for this
pub record IsSpelled (words : List Text) (asked : Asked) : Type 0 where
  pub taken : fault_of command_line words ≡ []
  pub asks : AsksIn (subcommand_of command_line words) asked

-- words in UTF-8 that spell this
pub record IsCommand (words : List Text) (asked : Asked) : Type 0 where
  pub texts : AllByRecursion IsUtf8 words
  pub spelled : IsSpelled words asked

-- the words have one of the listed forms
abbrev pub HasForm : List Text → Type 0
HasForm words = (asked : Asked) × IsCommand words asked

-- the same in plain lists
abbrev pub asked_by : Command → Asked
asked_by (Prove left right budget proof) = prove left.now right.now budget (option_map (λ w. w.now) proof)
asked_by (Check left right proof) = check_of left.now right.now proof.now
asked_by (Instance left right at limit) = instance_of left.now right.now (option_map (λ w. w.now) at) limit
asked_by (Flow file) = flow_of file.now
asked_by (Gen seed size) = gen_of seed size
asked_by (Legal file order) = legal_of file.now order.now
asked_by (Aprove left right symbols) = aprove_of left.now right.now (listed_in symbols.now)
