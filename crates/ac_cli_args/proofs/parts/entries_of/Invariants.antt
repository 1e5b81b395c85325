use Rattle.std.proofs.Common.{map}
use Rattle.ac_cli_args.specs.ValuationEntries.{plain}
use Rattle.ac_cli_args.proofs.Reading.{IsReadTo}
use Rattle.ac_cli_args.proofs.parts.entries_of.Given as goal

abbrev pub invariant-loop-turn : goal.invariant-loop-turn
invariant-loop-turn l = IsReadTo l.word l.rest l._turn (map plain l.given.items)
