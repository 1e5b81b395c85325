use Rattle.ac_forms.proofs.Passes.{moduli_of}
use Rattle.ac_omega.proofs.Complete.{made-complete}
use Rattle.ac_omega.proofs.Legal.{made-legal}
use Rattle.ac_omega.proofs.listing.choices_by.Goals as goal

pub listed-requires : goal.listed-requires
listed-requires c = rw c.as_slice.ensures (moduli_of c.args.conj.now.columns c.args.conj.now.rows c.requires.made)

pub returns-clause-legal : goal.returns-clause-legal
returns-clause-legal c = made-legal c.args.strategy c.args.z c.args.conj.now c.listed.result c.requires.made c.requires.column c.requires.not_absurd (rw c.as_slice.ensures at c.listed.ensures)

pub returns-clause-complete : goal.returns-clause-complete
returns-clause-complete c = made-complete c.args.strategy c.args.z c.args.conj.now c.listed.result c.requires.made c.requires.column (rw c.as_slice.ensures at c.listed.ensures)
