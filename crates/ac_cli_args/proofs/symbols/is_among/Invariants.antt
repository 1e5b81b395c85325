use Rattle.std.proofs.Common.{◌≡◌, ℕ, List, drop, map, nat_eq}
use Rattle.std.specs.List.{list_any}
use Rattle.std.specs.Cmp.Lexicographic.{pointwise}
use Rattle.ac_cli_args.proofs.symbols.is_among.Given as goal

abbrev pub invariant-loop-other : goal.invariant-loop-other
invariant-loop-other l = list_any {X = List ℕ} (pointwise nat_eq l.text) (map (λ t. t.now) l.others) ≡ list_any {X = List ℕ} (pointwise nat_eq l.text) (map (λ t. t.now) (drop l.other-index l.others))
