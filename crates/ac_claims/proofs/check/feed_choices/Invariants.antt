use Rattle.std.proofs.Common.{drop}
use Rattle.std.specs.List.{flat_map}
use Rattle.ac_claims.specs.CheckFeed.{Reaches, of_choice}
use Rattle.ac_claims.proofs.check.feed_choices.Given as goal

abbrev pub invariant-loop-choice : goal.invariant-loop-choice
invariant-loop-choice l = Reaches l.fn.stepper (flat_map of_choice l.choices) l.stepper (flat_map of_choice (drop l.choice-index l.choices))
