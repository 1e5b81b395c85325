-- What `gen` reports: the verdict on the pair of a seed, and what the run of both programs at N=1000 finds.
use Rattle.std.specs.Prelude.{◌≡◌, ℕ, ℤ, pos, List, [], ◌∷◌, ◌++◌, codes, decimal, None, Ok}
use Rattle.std.specs.List.{flat_map}
use Rattle.ac_syntax.specs.declared.tree.Pair.{Pair}
use Rattle.ac_instance.specs.ComparisonAnswers.{due, AreOutcomes, compared}
use Rattle.ac_instance.specs.declared.halt.Outcome.{Outcome}
use Rattle.ac_instance.specs.declared.halt.Outcome.TheVariants.{Equal, Different}
use Rattle.ac_gen.specs.GeneratedPair.{IsGeneratedPair}
use Rattle.ac_top.specs.FlowReports.{default_budget}
use Rattle.ac_top.specs.ProveReports.{ProveReports}
use Rattle.ac_top.specs.Reports.{Report, report}
use Rattle.ac_top.specs.InstanceReports.{RunReports, EqualIsSame, status_of}
use Rattle.ac_top.specs.ConsoleLines.{line, element_text, name_at}
use Rattle.ac_top.specs.declared.status.Status.{Status}
use Rattle.ac_top.specs.declared.status.Status.TheVariants as status

-- N is 1000
abbrev pub at_1000 : List ℤ
at_1000 = pos 1000 ∷ []

-- what a run finds of an output with this name
abbrev pub found_text : List ℕ → Outcome → List ℕ
found_text name Equal = name ++ codes " equal"
found_text name (Different e) = name ++ codes " different, element " ++ element_text e

abbrev pub all_found_text : List ℕ → List Outcome → List ℕ
all_found_text name = flat_map (found_text name)

-- the run at N=1000 of a pair whose one output is the array with the number 1
abbrev pub ran_line : Pair → List Outcome → ℕ → List ℕ
ran_line pair outcomes events = line (codes "instance at N=1000: " ++ all_found_text (name_at pair.left.arrays 1) outcomes ++ codes ", " ++ decimal events ++ codes " events")

abbrev pub ran_report : Pair → List Outcome → ℕ → Report
ran_report pair outcomes events = report (status_of outcomes) (ran_line pair outcomes events)

-- how the run at N=1000 ends: halted, as `instance` reports it of files with the names `left` and `right`, or with its outcome and events
pub data RunEnds (pair : Pair) : Report → Type 0 where
  run_halted : (text : List ℕ) → RunReports (codes "left") (codes "right") [] [] pair at_1000 1000000 (report status.Halted text) → RunEnds pair (report status.Halted text)
  run_ended : (events : ℕ) (outcomes : List Outcome) → due pair at_1000 1000000 ≡ Ok events → AreOutcomes (compared pair at_1000) pair.outputs outcomes → EqualIsSame pair at_1000 pair.outputs outcomes
      → RunEnds pair (ran_report pair outcomes events)

abbrev pub seed_line : ℕ → ℕ → List ℕ
seed_line seed stages = line (codes "seed " ++ decimal seed ++ codes " stages " ++ decimal stages)

-- that of the run where the verdict is done, else that of the verdict
abbrev pub status_of_both : Status → Status → Status
status_of_both status.Done of_run = of_run
status_of_both of_verdict of_run = of_verdict

-- which pair it is, what `prove` reports of it, and how its run at N=1000 ends
pub data GenReports (seed stages : ℕ) : Report → Type 0 where
  of_generated : (pair : Pair) (proved ended : Report) → IsGeneratedPair seed stages pair → ProveReports pair default_budget None proved → RunEnds pair ended
      → GenReports seed stages (report (status_of_both proved.status ended.status) (seed_line seed stages ++ proved.text ++ ended.text))
