use Rattle.ac_cert.proofs.Apart.{end-apart, split-apart, residue-apart}
use Rattle.ac_cert.proofs.branch_laws.behind_a_branch.Goals as goal

pub returns-clause-end : goal.returns-clause-end
returns-clause-end g c = λ refusal d e is h. end-apart c.args.next.now e refusal d is h

pub returns-clause-split : goal.returns-clause-split
returns-clause-split g c = λ refusal d f left right is h. split-apart c.args.next.now f left right refusal d is h

pub returns-clause-residue : goal.returns-clause-residue
returns-clause-residue g c = λ refusal d m f kids is h. residue-apart c.args.next.now m f kids refusal d is h
