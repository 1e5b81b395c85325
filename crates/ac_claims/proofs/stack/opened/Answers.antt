use Rattle.ac_claims.proofs.StackSteps.{no_entries, first_plan, some_entries}
use Rattle.ac_claims.proofs.stack.opened.Goals as goal

pub push_at-requires-clause-entries : goal.push_at-requires-clause-entries
push_at-requires-clause-entries c = no_entries c.args.path.conj.rows c.new-entries.result c.new-entries.ensures

pub returns-clause-value : goal.returns-clause-value
returns-clause-value c = first_plan c.args.path c.new-entries.result c.push_at.new.due c.new-entries.ensures c.in_ok-push_at.ensures.dues

pub returns-clause-ongoing : goal.returns-clause-ongoing
returns-clause-ongoing c = record {
  entries = c.in_ok-push_at.ensures.entries;
  some = some_entries c.args.path.conj.rows c.push_at.new.due _ _ c.in_ok-push_at.ensures.dues;
}
