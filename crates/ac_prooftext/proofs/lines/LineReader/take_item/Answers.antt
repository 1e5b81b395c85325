use Rattle.std.proofs.Common.{rules}
use Rattle.ac_prooftext.proofs.Taking.{malformed, misplaced, placed}
use Rattle.ac_prooftext.proofs.lines.LineReader.take_item.Goals as goal

pub returns-in_default-clause-ok : goal.returns-in_default-clause-ok
returns-in_default-clause-ok c = λ ls h. malformed ls c.args.self.now c.args.line.now c.in_ok-item.field-0 c.requires h c.in_ok-item.ensures c.in_default.is

pub returns-then-not-may_stand-clause-ok : goal.returns-then-not-may_stand-clause-ok
returns-then-not-may_stand-clause-ok c = λ ls h. misplaced ls c.args.self.now c.args.line.now c.in-Some.item c.requires h (search rules) (search rules)

pub returns-clause-ok : goal.returns-clause-ok
returns-clause-ok c = λ ls h.
    placed ls c.args.self.now c.args.line.now c.in-Some.item c.take.new.self c.saturating_add-self.result c.saturating_add-depth.result c.max-self.result c.requires h (search rules) (search rules) (search rules) (search rules) (search rules)
