use Rattle.std.proofs.Common.{◌≡◌, ◌++◌, drop, map}
use Rattle.ac_cli_args.specs.ValuationEntries.{plain}
use Rattle.ac_cli_args.specs.Valuations.{given_to}
use Rattle.ac_cli_args.proofs.Values.{found_so_far}
use Rattle.ac_cli_args.proofs.given.only_value.Given as goal

abbrev pub invariant-loop-entry : goal.invariant-loop-entry
invariant-loop-entry l = given_to l.name (map plain l.given) ≡ found_so_far l.found ++ given_to l.name (map plain (drop l.entry-index l.given))
