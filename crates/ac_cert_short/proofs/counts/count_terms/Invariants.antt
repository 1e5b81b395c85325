use Rattle.std.proofs.Common.{◌≡◌, ◌<◌, ◌+◌, ℕ, length, drop}
use Rattle.ac_cert_short.specs.CertificateNodes.{term_uses}
use Rattle.ac_cert_short.specs.DraftRelations.{at}
use Rattle.ac_cert_short.proofs.counts.count_terms.Given as goal

abbrev pub invariant-loop-term : goal.invariant-loop-term
invariant-loop-term l = record {
  long : length l.uses.items ≡ length l.fn.uses.items;
  counted : (i : ℕ) → i < length l.uses.items → at l.uses.items i + term_uses i (drop l.term-index l.terms) ≡ at l.fn.uses.items i + term_uses i l.terms;
}
