use Rattle.ac_poly_quotients.proofs.Multiples.{multiples_are_rows, multiples_are_tests, never_both}
use Rattle.ac_poly_quotients.proofs.laws.multiples_are_rows.Goals as goal

pub returns-clause-rows : goal.returns-clause-rows
returns-clause-rows c = multiples_are_rows

pub returns-clause-tests : goal.returns-clause-tests
returns-clause-tests c = multiples_are_tests

pub returns-clause-apart : goal.returns-clause-apart
returns-clause-apart c = never_both
