use Rattle.ac_base.proofs.Bits.{again_128}
use Rattle.ac_walk_state.proofs.Reducing.{row_follows}
use Rattle.ac_walk_state.proofs.following.follows.Goals as goal

pub returns : goal.returns
returns c = λ t q v.
    let d = (rw (again_128 c.modulus.result (record { sfits = c.modulus.type_inv })) at c.divides_all.ensures).0 t in
    row_follows c.args.row.now _ c.modulus.result c.in-Div.form c.in_ok-rest.rest q c.in-Div.is c.modulus.ensures (c.in_ok-rest.ensures q v) d.0 d.1
