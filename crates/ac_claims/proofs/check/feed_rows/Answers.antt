use Rattle.std.proofs.Common.{sym, subst}
use Rattle.ac_forms.proofs.Passes.{modulus_at}
use Rattle.ac_claims.specs.CheckKnowledge.{IsLine}
use Rattle.ac_claims.proofs.check.feed_rows.Goals as goal

pub feed-requires-clause-item : goal.feed-requires-clause-item
feed-requires-clause-item c = subst IsLine (sym c.in_ok-row_item.ensures) (modulus_at c.args.rows.now c.loop-row.row-index c.row-item.result c.requires.rows c.loop-row-test.true c.row-item.is)
