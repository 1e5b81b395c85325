-- The status of several verdicts.
use Rattle.std.specs.Prelude.{List, Bool, true, false, if◌then◌else◌}
use Rattle.std.specs.List.{list_any}
use Rattle.ac_report.specs.declared.types.Verdict.{Verdict}
use Rattle.ac_report.specs.declared.types.Verdict.TheVariants.{Equal, Different, Unknown}
use Rattle.ac_top.specs.declared.status.Status.{Status}
use Rattle.ac_top.specs.declared.status.Status.TheVariants as status

abbrev pub is_different : Verdict → Bool
is_different Equal = false
is_different (Different at element) = true
is_different (Unknown cause) = false

abbrev pub is_unknown : Verdict → Bool
is_unknown Equal = false
is_unknown (Different at element) = false
is_unknown (Unknown cause) = true

-- different where one is, else unknown where one is, else done
abbrev pub status_of : List Verdict → Status
status_of verdicts = if list_any is_different verdicts then status.Different else if list_any is_unknown verdicts then status.Unknown else status.Done
