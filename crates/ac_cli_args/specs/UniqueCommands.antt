-- What words determine, and which numbers they give.
use Rattle.std.specs.Prelude.{◌≡◌, ◌≤◌, ◌<◌, ◌^◌, ℕ, ℤ, List}
use Rattle.std.specs.List.{AllByRecursion}
use Rattle.ac_cli_args.specs.Commands.{Asked, prove, check_of, instance_of, flow_of, gen_of, legal_of, aprove_of, IsCommand}
use Rattle.ac_cli_args.specs.SymbolLists.{FitsAName}
use Rattle.ac_cli_args.specs.Valuations.{IsValuationWord}

-- words spell one command at most
abbrev pub HasOneCommand : Type 0
HasOneCommand = (words : List (List ℕ)) (asked other : Asked) → IsCommand words asked → IsCommand words other → asked ≡ other

-- a word gives the parameters their values in one way at most
abbrev pub HasOneValuation : Type 0
HasOneValuation = (params : List (List ℕ)) (word : List ℕ) (values others : List ℤ) → IsValuationWord params word values → IsValuationWord params word others → values ≡ others

-- a budget and a limit are from 1 to 1,000,000, a seed has 64 bits, a size is from 1 to 12, and a symbol has as many bytes as a name may have
abbrev pub IsInRange : Asked → Type 0
IsInRange (prove a b budget proof) = (1 ≤ budget) × (budget ≤ 1000000)
IsInRange (check_of a b p) = Unit {0}
IsInRange (instance_of a b at limit) = (1 ≤ limit) × (limit ≤ 1000000)
IsInRange (flow_of a) = Unit {0}
IsInRange (gen_of seed size) = (seed < 2 ^ 64) × (1 ≤ size) × (size ≤ 12)
IsInRange (legal_of a order) = Unit {0}
IsInRange (aprove_of a b names) = AllByRecursion FitsAName names

abbrev pub CommandsAreInRange : Type 0
CommandsAreInRange = (words : List (List ℕ)) (asked : Asked) → IsCommand words asked → IsInRange asked
