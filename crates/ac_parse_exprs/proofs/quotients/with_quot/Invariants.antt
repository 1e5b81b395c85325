use Rattle.std.proofs.Common.{◌≡◌, ◌++◌, drop}
use Rattle.std.specs.Option.{option_map}
use Rattle.ac_parse_exprs.specs.AffineForms.{signed, with_quot}
use Rattle.ac_parse_exprs.proofs.quotients.with_quot.Given as goal

abbrev pub invariant-loop-at : goal.invariant-loop-at
invariant-loop-at l = option_map (λ rest. l.made ++ rest) (with_quot (signed l.down) l.quot (drop l.at l.quots)) ≡ with_quot (signed l.down) l.quot l.quots
