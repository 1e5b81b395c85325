use Rattle.std.proofs.Common.{◌≡◌, map, string_bytes}
use Rattle.ac_cli.proofs.as_bytes.Given as goal

abbrev pub invariant-loop-word : goal.invariant-loop-word
invariant-loop-word l = map (λ word. word.items) l.all.items ≡ map string_bytes l.yielded
