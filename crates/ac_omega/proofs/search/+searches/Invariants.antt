use Rattle.std.proofs.Common.{◌≡◌, ℕ, ◌<◌, ◌≤◌, ◌-◌, ◌*◌, ◌+◌, length}
use Rattle.std.specs.List.{AllByRecursion}
use Rattle.ac_omega.specs.Cursors.{alternatives_left, IsSound}
use Rattle.ac_omega.specs.WalkAnswers.{AreLegal, WantsRefutation}
use Rattle.ac_omega.specs.Visits.{seen, tried}
use Rattle.ac_omega.specs.Within.{HaveRisen, IsWithin}
use Rattle.ac_omega_certify.specs.Refutations.{AreModuliWithin}
use Rattle.ac_omega_certify.specs.Alternatives.{alternatives_for, all_of}
use Rattle.ac_omega_certify.proofs.GatheredChoices.{gathered}
use Rattle.ac_omega.proofs.Refuting.{AreRefutedBehind}
use Rattle.ac_omega.proofs.search.+searches.Given as goal

abbrev pub decreases-by_choice : goal.decreases-by_choice
decreases-by_choice l = 3 * (l.task.now.budget - l.cost) + 1

abbrev pub decreases-by_column : goal.decreases-by_column
decreases-by_column l = 3 * (l.task.now.budget - l.cost) + 2

abbrev pub decreases-search : goal.decreases-search
decreases-search l = 3 * (l.task.now.budget - l.cost)

abbrev pub invariant-by_column-choices : goal.invariant-by_column-choices
invariant-by_column-choices l = record {
  low : l.cost ≤ l.spent;
  high : l.spent ≤ l.task.budget;
  sound : IsSound l.task.strategy l.z l.rows l.cursor;
  legal : AreLegal (alternatives_left l.task.strategy l.z l.rows l.cursor) l.fn.conj;
  same_path : l.progress.path ≡ l.initial.progress.path;
  so_far : (n : ℕ) → l.task.budget < n + l.cost → tried l.task.strategy l.task.aim l.task.vars.now n l.task.budget l.initial.progress.path l.fn.conj (alternatives_for l.task.strategy l.z l.fn.conj.rows) l.cost (seen l.fn.met l.initial.progress.pieces)
      ≡ tried l.task.strategy l.task.aim l.task.vars.now n l.task.budget l.initial.progress.path l.fn.conj (alternatives_left l.task.strategy l.z l.rows l.cursor) l.spent (seen l.all l.progress.pieces);
  tried : WantsRefutation l.task.aim → all_of (alternatives_for l.task.strategy l.z l.fn.conj.rows) ≡ gathered l.choices (alternatives_left l.task.strategy l.z l.rows l.cursor);
  refuted : AreRefutedBehind l.choices l.fn.conj l.below;
  within : AllByRecursion (IsWithin l.all) l.below;
  moduli : AreModuliWithin l.all.factor l.choices;
  risen : HaveRisen l.fn.met l.all;
}

abbrev pub decreases-by_column-choices : goal.decreases-by_column-choices
decreases-by_column-choices l = length (alternatives_left l.task.strategy l.z l.rows l.cursor)
