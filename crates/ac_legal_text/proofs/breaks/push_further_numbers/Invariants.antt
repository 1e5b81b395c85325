use Rattle.std.proofs.Common.{◌≡◌, ◌++◌, take, codes}
use Rattle.std.specs.List.{flat_map}
use Rattle.std.specs.Fmt.{signed_decimal}
use Rattle.ac_legal_text.proofs.breaks.push_further_numbers.Given as goal

abbrev pub invariant-loop-number : goal.invariant-loop-number
invariant-loop-number l = l.bytes.items ≡ l.fn.bytes.items ++ flat_map (λ n. codes "," ++ signed_decimal n) (take l.number-index l.numbers)
