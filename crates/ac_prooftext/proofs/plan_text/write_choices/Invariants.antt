use Rattle.std.proofs.Common.{drop}
use Rattle.std.specs.List.{flat_map}
use Rattle.ac_claims.specs.CheckFeed.{of_choice}
use Rattle.ac_prooftext.proofs.LineProgress.{Leads}
use Rattle.ac_prooftext.proofs.plan_text.write_choices.Given as goal

abbrev pub invariant-loop-choice : goal.invariant-loop-choice
invariant-loop-choice l = Leads l.fn.text (flat_map of_choice l.choices) l.text (flat_map of_choice (drop l.choice-index l.choices))
