use Rattle.std.proofs.Common.{◌≡◌, drop}
use Rattle.ac_forms.specs.Rows.{IsWellMade}
use Rattle.ac_cert.specs.AcceptedTrees.{after_steps}
use Rattle.ac_cert.specs.CertificateFaults.{Onward, later, path_fault}
use Rattle.ac_cert.proofs.check.walk.Given as goal

abbrev pub invariant-loop-s : goal.invariant-loop-s
invariant-loop-s l = record {
  made : IsWellMade l.here;
  number : l.at ≡ later l.fn.node l.s-index;
  rows : after_steps l.steps l.fn.conj ≡ after_steps (drop l.s-index l.steps) l.here;
  so_far : (go : Onward) → path_fault l.steps go l.fn.conj l.fn.node ≡ path_fault (drop l.s-index l.steps) go l.here l.at;
}
