use Rattle.std.proofs.Common.{◌≡◌, ◌+◌, ℕ, length, drop}
use Rattle.ac_cert_short.specs.CertificateNodes.{rows_along}
use Rattle.ac_cert_short.specs.DraftRelations.{at}
use Rattle.ac_cert_short.proofs.counts.open_steps.Given as goal

abbrev pub invariant-loop-step : goal.invariant-loop-step
invariant-loop-step l = record {
  long : length l.uses.items + rows_along (drop l.step-index l.steps) ≡ length l.fn.uses.items + rows_along l.steps;
  same : (i : ℕ) → at l.uses.items i ≡ at l.fn.uses.items i;
}
