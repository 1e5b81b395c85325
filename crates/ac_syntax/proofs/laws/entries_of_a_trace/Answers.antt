use Rattle.ac_syntax.specs.Index.{point}
use Rattle.std.proofs.Common.{[]}
use Rattle.ac_syntax.proofs.Instances.{instance_among, among_instances}
use Rattle.ac_syntax.proofs.Texts.{entry_text}
use Rattle.ac_syntax.proofs.laws.entries_of_a_trace.Goals as goal

pub returns-clause-instances : goal.returns-clause-instances
returns-clause-instances c = λ body first p counters e. (instance_among body first p counters e, among_instances body first p counters e)

pub returns-clause-text : goal.returns-clause-text
returns-clause-text c = λ body params w h. entry_text body (point params []) w h
