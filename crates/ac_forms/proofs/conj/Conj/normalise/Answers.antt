use Rattle.ac_forms.proofs.Passes.{moduli_of}
use Rattle.ac_forms.proofs.Joining.{made_points}
use Rattle.ac_forms.proofs.conj.Conj.normalise.Goals as goal

pub normal_rows-requires : goal.normal_rows-requires
normal_rows-requires c = rw c.as_slice.ensures (moduli_of c.args.self.now.columns c.args.self.now.rows c.requires)

pub returns-clause-points : goal.returns-clause-points
returns-clause-points c p =
    made_points c.args.self.now.columns c.args.self.now.rows c.as_slice.result.now c.in_ok-rows.rows.items c.from.result p c.requires c.as_slice.ensures c.in_ok-rows.ensures.1 c.from.ensures
