use Rattle.std.proofs.Common.{◌≡◌, ℕ, List, drop, map}
use Rattle.std.specs.List.{list_all}
use Rattle.ac_cli_args.specs.SymbolLists.{is_symbol}
use Rattle.ac_cli_args.proofs.symbols.all_symbols.Given as goal

abbrev pub invariant-loop-text : goal.invariant-loop-text
invariant-loop-text l = list_all {X = List ℕ} is_symbol (map (λ t. t.now) l.texts) ≡ list_all {X = List ℕ} is_symbol (map (λ t. t.now) (drop l.text-index l.texts))
