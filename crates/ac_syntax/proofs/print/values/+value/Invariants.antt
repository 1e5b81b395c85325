use Rattle.std.proofs.Common.{◌≡◌, ◌++◌, drop, codes}
use Rattle.std.specs.List.{flat_map, join_by}
use Rattle.ac_syntax.specs.Text.{value_text}
use Rattle.ac_syntax.proofs.print.values.+value.Given as goal

abbrev pub invariant-push_arguments-loop-value : goal.invariant-push_arguments-loop-value
invariant-push_arguments-loop-value l =
    l.bytes.items ++ flat_map (λ v. codes ", " ++ value_text l.scope v) (drop l.value-index l.rest) ≡ l.fn.bytes.items ++ join_by (value_text l.scope) (codes ", ") l.args
