use Rattle.ac_syntax.specs.Algebra.{integers}
use Rattle.ac_syntax.specs.Trace.{trace_of}
use Rattle.ac_syntax.proofs.Runs.{run_is_eval, agree_eval}
use Rattle.ac_syntax.proofs.Matching.{agree_matches, matches_agree}
use Rattle.ac_syntax.proofs.laws.values_of_terms.Goals as goal

pub returns-clause-integers : goal.returns-clause-integers
returns-clause-integers c = λ body params table contents leaf cell. run_is_eval (integers table) contents leaf (trace_of body params) cell

pub returns-clause-agreeing : goal.returns-clause-agreeing
returns-clause-agreeing c = λ swaps table contents t u r h. agree_eval swaps (integers table) r contents h

pub returns-clause-matching : goal.returns-clause-matching
returns-clause-matching c = λ swaps t u. (agree_matches swaps, matches_agree swaps)
