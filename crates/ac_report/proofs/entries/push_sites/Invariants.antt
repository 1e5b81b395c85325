use Rattle.std.proofs.Common.{◌≡◌, ◌++◌, take}
use Rattle.std.specs.List.{flat_map}
use Rattle.ac_report.specs.ReportTexts.{site_text}
use Rattle.ac_report.proofs.entries.push_sites.Given as goal

abbrev pub invariant-loop-site : goal.invariant-loop-site
invariant-loop-site l = l.bytes.items ≡ l.fn.bytes.items ++ flat_map site_text (take l.site-index l.sites)
