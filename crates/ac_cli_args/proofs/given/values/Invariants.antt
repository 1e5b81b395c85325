use Rattle.std.proofs.Common.{◌≡◌, take, map, ◌∷◌, []}
use Rattle.ac_cli_args.specs.ValuationEntries.{plain}
use Rattle.ac_cli_args.specs.Valuations.{given_to}
use Rattle.ac_cli_args.proofs.given.values.Given as goal

abbrev pub invariant-loop-param : goal.invariant-loop-param
invariant-loop-param l = map (λ name. given_to name (map plain l.given)) (take l.param-index l.params) ≡ map (λ v. v ∷ []) l.values.items
