use Rattle.std.proofs.Common.{◌≡◌, ℕ, length}
use Rattle.ac_cert_short.specs.DraftRelations.{place}
use Rattle.ac_cert_short.proofs.places.same_places.Given as goal

abbrev pub invariant-loop-row : goal.invariant-loop-row
invariant-loop-row l = record {
  long : length l.places.items ≡ l.row;
  same : (i : ℕ) → place l.places.items i ≡ i;
}
