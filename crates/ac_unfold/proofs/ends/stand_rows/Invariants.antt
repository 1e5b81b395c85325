use Rattle.std.proofs.Common.{◌≡◌, take}
use Rattle.std.specs.Prelude.{IfSome}
use Rattle.ac_forms.specs.Rows.{IsWellMade}
use Rattle.ac_unfold.specs.PlanResults.{judge_of}
use Rattle.ac_unfold.specs.BrokenPathResults.{Adds, IsPathAt, IsPathBreaking}
use Rattle.ac_unfold.specs.EndRows.{AreKept}
use Rattle.ac_unfold.specs.UnbrokenStarts.{AllHold}
use Rattle.ac_unfold.specs.UnbrokenResults.{FindsNone}
use Rattle.ac_unfold.proofs.ends.stand_rows.Given as goal

abbrev pub invariant-loop-at : goal.invariant-loop-at
invariant-loop-at l = record {
  kept : AreKept l.search l.fn.node l.course (take l.at l.rows);
  question : l.course.node.question ≡ l.fn.node.question;
  pair_path : l.course.node.pair_path ≡ l.fn.node.pair_path;
  spare : IfSome l.spare (λ same. same ≡ l.fn.node);
  found : Adds (IsPathBreaking (judge_of l.search).params l.fn.node.pair_path l.fn.node.question.conj (take l.at l.rows)) (IsPathAt (judge_of l.search).params l.fn.node.pair_path l.fn.node.question.conj) l.fn.found_paths l.found_paths;
  made : IsWellMade l.fn.node.question.conj;
  met : FindsNone l.search l.fn.found_paths l.found_paths → AllHold l.fn.node.question.conj (take l.at l.rows);
}
