use Rattle.ac_omega.proofs.Moduli.{modulus-wide, modulus-more}
use Rattle.ac_omega.proofs.scan.common_modulus.Goals as goal

pub returns-in-None : goal.returns-in-None
returns-in-None c =
    let held = c.loop-row.invariant in
    modulus-wide c.args.z c.loop-row.multiple c.loop-row.row-index c.args.rows.now c.row-item.result c.loop-row-test.true c.row-item.is held.value held.positive held.moduli c.in-None.ensures

pub loop-row-preserved : goal.loop-row-preserved
loop-row-preserved c =
    let held = c.loop-row.invariant in
    let more = modulus-more c.args.z c.loop-row.multiple c.loop-row.row-index c.in-Some.next c.args.rows.now c.row-item.result c.loop-row-test.true c.row-item.is held.value held.positive held.moduli c.in-Some.ensures.1 in
    record { value = more.0; positive = more.1; moduli = more.2 }
