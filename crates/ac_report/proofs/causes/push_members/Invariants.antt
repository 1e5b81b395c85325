use Rattle.std.proofs.Common.{◌≡◌, ◌++◌, drop, codes}
use Rattle.std.specs.List.{flat_map, join_by}
use Rattle.ac_report.specs.ReportTexts.{tuple_text}
use Rattle.ac_report.proofs.causes.push_members.Given as goal

abbrev pub invariant-loop-member : goal.invariant-loop-member
invariant-loop-member l = l.bytes.items ++ flat_map (λ m. codes " " ++ tuple_text m) (drop l.member-index l.rest) ≡ l.fn.bytes.items ++ join_by tuple_text (codes " ") l.members
