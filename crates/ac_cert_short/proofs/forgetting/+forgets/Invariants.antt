use Rattle.std.proofs.Common.{◌≡◌, ◌<◌, ◌-◌, ℕ, length, drop}
use Rattle.ac_cert_short.specs.Drafts.{kids_uses}
use Rattle.ac_cert_short.specs.DraftRelations.{at}
use Rattle.ac_cert_short.proofs.forgetting.+forgets.Given as goal

abbrev pub invariant-forget_kids-loop-kid : goal.invariant-forget_kids-loop-kid
invariant-forget_kids-loop-kid l = record {
  long : length l.counts.items ≡ length l.fn.counts.items;
  forgotten : (i : ℕ) → i < length l.counts.items → at l.counts.items i - kids_uses i (drop l.kid-index l.kids) ≡ at l.fn.counts.items i - kids_uses i l.kids;
}
