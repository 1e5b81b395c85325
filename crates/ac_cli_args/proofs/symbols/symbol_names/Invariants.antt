use Rattle.std.proofs.Common.{◌≡◌, take, map}
use Rattle.ac_cli_args.proofs.symbols.symbol_names.Given as goal

abbrev pub invariant-loop-text : goal.invariant-loop-text
invariant-loop-text l = l.names.items ≡ map (λ t. t.now) (take l.text-index l.text-items)
