use Rattle.std.proofs.Common.{◌≡◌, drop}
use Rattle.std.specs.List.{list_all}
use Rattle.ac_syntax.specs.Index.{is_zero}
use Rattle.ac_syntax.proofs.quotients.are_zeros.Given as goal

abbrev pub invariant-loop-number : goal.invariant-loop-number
invariant-loop-number l = list_all is_zero (drop l.number-index l.numbers) ≡ list_all is_zero l.numbers
