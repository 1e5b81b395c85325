use Rattle.std.proofs.Common.{◌≡◌, ◌++◌, drop, codes}
use Rattle.std.specs.List.{flat_map}
use Rattle.ac_sets.specs.SetTexts.{row_text, rows_text}
use Rattle.ac_sets.proofs.texts.push_rows.Given as goal

abbrev pub invariant-loop-row : goal.invariant-loop-row
invariant-loop-row l = l.bytes.items ++ flat_map (λ r. codes " and " ++ row_text l.names r) (drop l.row-index l.rest) ≡ l.fn.bytes.items ++ rows_text l.names l.rows
