use Rattle.ac_forms.proofs.RowTests.{rows_at}
use Rattle.ac_forms.proofs.conj.Conj.holds_at.Goals as goal

pub holds_at-requires : goal.holds_at-requires
holds_at-requires c =
    let l = rw c.as_slice-row-items.ensures at c.loop-row-test.true in
    rw c.requires.columns (rows_at _ _ c.loop-row.row-index _ c.requires.made l (rw c.as_slice-row-items.ensures at c.row-item.is))
