use Rattle.std.proofs.Common.{◌≡◌, length}
use Rattle.ac_omega_certify.specs.ChoiceBranches.{AreRefutedBy, seen}
use Rattle.ac_omega_certify.proofs.certificate.+certifies.Given as goal

abbrev pub invariant-certify_each-loop-j : goal.invariant-certify_each-loop-j
invariant-certify_each-loop-j l = record {
  served : AreRefutedBy (seen l.stage) l.choices l.trees.items;
  long : length l.trees.items ≡ l.j;
}
