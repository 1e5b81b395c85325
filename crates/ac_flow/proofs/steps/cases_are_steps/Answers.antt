use Rattle.ac_flow.proofs.InPieces.{cases_are_in_pieces}
use Rattle.ac_flow.proofs.Stepping.{cases_are_steps, steps_are_of_cases, steps_are_determined}
use Rattle.ac_flow.proofs.steps.cases_are_steps.Goals as goal

pub returns-clause-steps : goal.returns-clause-steps
returns-clause-steps c = cases_are_steps

pub returns-clause-pieces : goal.returns-clause-pieces
returns-clause-pieces c = cases_are_in_pieces

pub returns-clause-each : goal.returns-clause-each
returns-clause-each c = steps_are_of_cases

pub returns-clause-one : goal.returns-clause-one
returns-clause-one c = steps_are_determined
