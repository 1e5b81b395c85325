use Rattle.std.proofs.Common.{rules, ◌≡◌, refl}
use Rattle.ac_prooftext.proofs.Answering.{counted_on, taken_on}
use Rattle.ac_prooftext.proofs.checker.Checker.feed.Goals as goal

pub returns-then-is_over-clause-fed : goal.returns-then-is_over-clause-fed
returns-then-is_over-clause-fed c = λ g outputs text h. counted_on g outputs text c.args.piece.now c.args.self.now _ h (search rules) refl refl (c.is_over.ensures.0 (search rules))
