use Rattle.ac_legal.proofs.between.cell_part.Goals as goal

pub returns-in-Err-Wide : goal.returns-in-Err-Wide
returns-in-Err-Wide c = rw c.in-Err-Wide.field-0-is at c.in-Err-Wide.ensures.wide
