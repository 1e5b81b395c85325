use Rattle.std.proofs.Common.{ℕ, [], ◌∷◌, ◌++◌, refl, ap, ◌∙◌}
use Rattle.ac_walk_state.proofs.Stops.{names_with_part, stops_with_part}
use Rattle.ac_walk_state.proofs.Whole.{longer_accepted}
use Rattle.ac_walk_state.proofs.proofs.with_part.Goals as goal

pub returns-clause-longer : goal.returns-clause-longer
returns-clause-longer c = record {
  point = refl;
  heads = refl;
  claims = c.in_ok-with_claims.ensures;
  outputs = c.outputs.view_is ∙ c.in_ok-push.ensures.ok ∙ ap (λ (n : ℕ). c.args.proof.outputs ++ (c.args.array, n) ∷ []) c.len-number.ensures;
  trees = c.in_ok-with_trees.ensures;
}

pub returns-clause-accepted : goal.returns-clause-accepted
returns-clause-accepted c = λ g outputs a f. longer_accepted g outputs c.args.proof c.args.part c.args.array _ (returns-clause-longer c) a f

pub returns-clause-stops : goal.returns-clause-stops
returns-clause-stops c = stops_with_part c.args.proof c.args.part c.args.array _ (returns-clause-longer c)

pub returns-clause-named : goal.returns-clause-named
returns-clause-named c = names_with_part c.args.proof c.args.part c.args.array _ (returns-clause-longer c)
