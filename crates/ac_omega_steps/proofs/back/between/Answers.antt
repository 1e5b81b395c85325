use Rattle.ac_omega_steps.proofs.Values.{between_none}
use Rattle.ac_omega_steps.proofs.back.between.Goals as goal

pub returns-in-Ok-None-least_high : goal.returns-in-Ok-None-least_high
returns-in-Ok-None-least_high c =
    let h = rw c.in-Ok-None.field-0-is at c.in-Ok-None.ensures in
    let g = rw c.in-Ok-None-least_high.field-0-is at c.in-Ok-None-least_high.ensures in
    between_none c.args.z c.args.rows.now c.args.point.now h.1 g.0 g.1
