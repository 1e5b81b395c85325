use Rattle.std.proofs.Common.{◌≡◌, drop}
use Rattle.ac_forms.specs.Standing.{is_among, kept_rows}
use Rattle.ac_claims_paths.specs.RowNotes.{rows_of}
use Rattle.ac_claims_paths.proofs.noted.is_normal_among.Given as goal

abbrev pub invariant-loop-note : goal.invariant-loop-note
invariant-loop-note l = is_among l.row (kept_rows (rows_of l.noted)) ≡ is_among l.row (kept_rows (rows_of (drop l.note-index l.noted)))
