use Rattle.ac_syntax.specs.Algebra.{integers}
use Rattle.ac_syntax.specs.Term.{free, Initial}
use Rattle.ac_syntax.proofs.LastWriters.{source_before, source_of_all}
use Rattle.ac_syntax.proofs.Stored.{run_resolved}
use Rattle.ac_syntax.proofs.laws.sources_of_cells.Goals as goal

pub returns-clause-read : goal.returns-clause-read
returns-clause-read c = source_before

pub returns-clause-output : goal.returns-clause-output
returns-clause-output c = source_of_all

pub returns-clause-run : goal.returns-clause-run
returns-clause-run c = λ table es contents cell. run_resolved (integers table) es contents cell

pub returns-clause-term : goal.returns-clause-term
returns-clause-term c = λ es leaf cell. run_resolved free es (λ d. Initial (leaf d)) cell
