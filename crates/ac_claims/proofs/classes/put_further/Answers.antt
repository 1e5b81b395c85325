use Rattle.std.proofs.Common.{refl}
use Rattle.ac_claims.proofs.Residues.{last_taken}
use Rattle.ac_claims.proofs.classes.put_further.Goals as goal

pub next_of-requires : goal.next_of-requires
next_of-requires c = c.requires.classes.high

pub returns-in-None-clause-value : goal.returns-in-None-clause-value
returns-in-None-clause-value c = last_taken c.args.path.now c.args.path.now.conj.columns c.args.classes _ _ c.requires.classes c.in-None.ensures refl
