use Rattle.std.proofs.Common.{◌≡◌, ◌<◌, ◌-◌, ℕ, length, drop}
use Rattle.ac_cert_short.specs.Drafts.{mark_uses}
use Rattle.ac_cert_short.specs.DraftRelations.{at}
use Rattle.ac_cert_short.proofs.forgetting.forget_marks.Given as goal

abbrev pub invariant-loop-mark : goal.invariant-loop-mark
invariant-loop-mark l = record {
  long : length l.counts.items ≡ length l.fn.counts.items;
  forgotten : (i : ℕ) → i < length l.counts.items → at l.counts.items i - mark_uses i (drop l.mark-index l.marks) ≡ at l.fn.counts.items i - mark_uses i l.marks;
}
