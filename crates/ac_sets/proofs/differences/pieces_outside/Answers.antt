use Rattle.std.proofs.Common.{sym, subst, ℕ}
use Rattle.ac_forms.specs.Rows.{IsRowOver}
use Rattle.ac_forms.proofs.RowTests.{rows_at}
use Rattle.ac_sets.proofs.differences.pieces_outside.Goals as goal

pub push_outside-requires : goal.push_outside-requires
push_outside-requires c =
    let over = rows_at c.args.conj.now.columns c.args.rows.now c.loop-row.row-index c.row-item.result c.requires c.loop-row-test.true c.row-item.is in
    subst (λ (n : ℕ). IsRowOver n c.row-item.result) (sym c.loop-row.invariant.columns) over
