-- The forms of words: their numbers, and the words behind texts.
use Rattle.std.proofs.Common.{◌≡◌, ◌≤◌, ◌<◌, ◌^◌, ℕ, List, Option, None, Some, MatchOption, sym, subst, arith}
use Rattle.std.specs.List.{AllByRecursion}
use Rattle.std.specs.Prelude.{codes}
use Rattle.std.specs.Str.{IsUtf8}
use Rattle.clap.specs.Words.{Row, Text, first_of, subcommand_of}
use Rattle.ac_cli_args.specs.CommandLine.{command_line}
use Rattle.ac_cli_args.specs.DecimalNumbers.{IsLimitOr, IsSeed, IsSize}
use Rattle.ac_cli_args.specs.Commands.{Asked, prove, check_of, instance_of, flow_of, gen_of, legal_of, aprove_of, Asks, AsksIn, HasNumber, IsSpelled, IsCommand, HasForm, asked_by}
use Rattle.ac_cli_args.specs.SymbolLists.{FitsAName, HasSymbols}
use Rattle.ac_cli_args.specs.UniqueCommands.{IsInRange, CommandsAreInRange}
use Rattle.ac_cli_args.specs.declared.command.Command.{Command}
use Rattle.ac_cli_args.proofs.SymbolWords.{symbols_fit}

limit_in : (otherwise : ℕ) (d : Option (List ℕ)) (n : ℕ) → 1 ≤ otherwise → otherwise ≤ 1000000 → IsLimitOr otherwise d n → (1 ≤ n) × (n ≤ 1000000)
limit_in otherwise None n low high h = (omega (arith, low, h), omega (arith, high, h))
limit_in otherwise (Some d) n low high h = (h.at_least, h.at_most)

seed_in : (d : Option (List ℕ)) (n : ℕ) → HasNumber IsSeed d n → n < 2 ^ 64
seed_in None n h = absurd h
seed_in (Some d) n h = let k = h.at_most in omega (arith, k)

size_in : (d : Option (List ℕ)) (n : ℕ) → HasNumber IsSize d n → (1 ≤ n) × (n ≤ 12)
size_in None n h = absurd h
size_in (Some d) n h = (h.at_least, h.at_most)

symbols_in : (d : Option Text) (names : List Text) → HasSymbols d names → AllByRecursion FitsAName names
symbols_in None names h = absurd h
symbols_in (Some d) names h = symbols_fit names h.symbols

asks_in : (name : Text) (found : List Row) (asked : Asked) → Asks name found asked → IsInRange asked
asks_in name found (prove a b budget proof) h = limit_in 50000 (first_of (codes "budget") found) budget (omega arith) (omega arith) h.3
asks_in name found (check_of a b p) h = tt
asks_in name found (instance_of a b at limit) h = limit_in 1000000 (first_of (codes "limit") found) limit (omega arith) (omega arith) h.4
asks_in name found (flow_of a) h = tt
asks_in name found (gen_of seed size) h = let k = size_in (first_of (codes "SIZE") found) size h.2 in (seed_in (first_of (codes "SEED") found) seed h.1, k.0, k.1)
asks_in name found (legal_of a order) h = tt
asks_in name found (aprove_of a b names) h = symbols_in (first_of (codes "SYMBOLS") found) names h.3

met_in : (met : Option (Text × List Row)) (asked : Asked) → AsksIn met asked → IsInRange asked
met_in None asked h = absurd h
met_in (Some met) asked h = asks_in met.0 met.1 asked h

pub in_range : CommandsAreInRange
in_range words asked h = met_in (subcommand_of command_line words) asked h.spelled.asks

-- what the texts of words ask for, the words ask for
pub command_from : (words texts : List Text) → texts ≡ words → AllByRecursion IsUtf8 words → (r : Option Command)
    → MatchOption r ((a : Asked) → ¬ (IsSpelled texts a)) (λ c. IsSpelled texts (asked_by c)) → MatchOption r (¬ (HasForm words)) (λ c. IsCommand words (asked_by c))
command_from words texts same utf8 None h = λ form. h form.0 (subst (λ ts. IsSpelled ts form.0) (sym same) form.1.spelled)
command_from words texts same utf8 (Some c) h = record { texts = utf8; spelled = subst (λ ts. IsSpelled ts (asked_by c)) same h }

-- words that are no texts have no form
pub no_text : (words : List Text) → ¬ (AllByRecursion IsUtf8 words) → ¬ (HasForm words)
no_text words h form = h form.1.texts
