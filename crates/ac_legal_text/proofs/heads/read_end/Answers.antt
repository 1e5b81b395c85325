use Rattle.std.proofs.Common.{◌≡◌, ap, length, rules}
use Rattle.ac_legal_text.proofs.Lines.{no_end, is_end, beyond_end, empty_is}
use Rattle.ac_legal_text.proofs.heads.read_end.Goals as goal
use borrow.Author.Tests.{true-eqb, false-eqb}

pub returns-in_default-clause-fault : goal.returns-in_default-clause-fault
returns-in_default-clause-fault c = no_end c.args.text.now c.args.before c.in_default.ensures

pub returns-then-is_empty-clause-end : goal.returns-then-is_empty-clause-end
returns-then-is_empty-clause-end c = is_end c.args.text.now c.in-Some.rest.now c.in-Some.ensures (empty_is c.in-Some.rest.now (true-eqb (length c.in-Some.rest.now) 0 (search rules)))

pub returns-clause-fault : goal.returns-clause-fault
returns-clause-fault c = beyond_end c.args.text.now c.in-Some.rest.now c.args.before c.in-Some.ensures (λ e. false-eqb (length c.in-Some.rest.now) 0 (search rules) (ap length e))
