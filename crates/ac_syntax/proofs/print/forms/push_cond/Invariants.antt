use Rattle.std.proofs.Common.{◌≡◌, ◌++◌, drop, codes}
use Rattle.std.specs.List.{flat_map}
use Rattle.ac_syntax.specs.Text.{comparison_text, cond_text}
use Rattle.ac_syntax.proofs.print.forms.push_cond.Given as goal

abbrev pub invariant-loop-c : goal.invariant-loop-c
invariant-loop-c l = l.bytes.items ++ flat_map (λ c. codes " && " ++ comparison_text l.scope c) (drop l.c-index l.rest) ≡ l.fn.bytes.items ++ cond_text l.scope l.cond
