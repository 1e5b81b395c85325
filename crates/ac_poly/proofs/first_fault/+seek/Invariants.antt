use Rattle.ac_poly.proofs.Seeking.{Sought}
use Rattle.ac_poly.proofs.first_fault.+seek.Given as goal

abbrev pub invariant-seek_all-loop-s : goal.invariant-seek_all-loop-s
invariant-seek_all-loop-s l = Sought l.ss l.number l.pieces l.s-index l.next
