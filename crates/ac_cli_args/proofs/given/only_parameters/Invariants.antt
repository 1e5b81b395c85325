use Rattle.std.proofs.Common.{◌≡◌, drop, map, nat_eq}
use Rattle.std.specs.List.{list_any, list_all}
use Rattle.std.specs.Cmp.Lexicographic.{pointwise}
use Rattle.ac_cli_args.specs.ValuationEntries.{Given, plain}
use Rattle.ac_cli_args.proofs.given.only_parameters.Given as goal

abbrev pub invariant-loop-entry : goal.invariant-loop-entry
invariant-loop-entry l =
    list_all {X = Given} (λ g. list_any (pointwise nat_eq g.name) l.params) (map plain l.given)
    ≡ list_all {X = Given} (λ g. list_any (pointwise nat_eq g.name) l.params) (map plain (drop l.entry-index l.given))
