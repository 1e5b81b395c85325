use Rattle.std.proofs.Common.{◌≡◌, drop, map}
use Rattle.ac_cli_args.specs.SymbolLists.{are_different}
use Rattle.ac_cli_args.proofs.symbols.are_different.Given as goal

abbrev pub invariant-loop-at : goal.invariant-loop-at
invariant-loop-at l = are_different (map (λ t. t.now) l.texts) ≡ are_different (map (λ t. t.now) (drop l.at l.texts))
