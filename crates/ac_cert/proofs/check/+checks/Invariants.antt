use Rattle.std.proofs.Common.{◌≡◌, ◌≤◌, ◌-◌, ◌^◌, drop}
use Rattle.ac_cert.specs.CertificateFaults.{later, kids_fault, kids_size}
use Rattle.ac_cert.proofs.check.+checks.Given as goal

abbrev pub invariant-check_kids-loop-r : goal.invariant-check_kids-loop-r
invariant-check_kids-loop-r g l = record {
  small : l.at ≤ 2 ^ 64 - 1;
  same : l.here ≡ l.fn.conj;
  number : later l.at (kids_size (drop l.r l.kids)) ≡ later l.fn.node (kids_size l.kids);
  so_far : kids_fault l.kids (λ e c. g.E.End.refusal e l.env c) l.m l.e 0 l.fn.conj l.fn.node ≡ kids_fault (drop l.r l.kids) (λ e c. g.E.End.refusal e l.env c) l.m l.e l.r l.fn.conj l.at;
}
