use Rattle.std.proofs.Common.{◌≡◌, ◌∙◌, ℤ, ap, set, rules, to_z, of_z}
use Rattle.std.specs.Int.{w128}
use Rattle.ac_base.proofs.Bits.{again_128}
use Rattle.ac_omega_steps.proofs.Cleared.{is_cleared, between_made, between_left}
use Rattle.ac_omega_steps.proofs.back.between_bounds.Goals as goal

pub between-requires-clause-cleared : goal.between-requires-clause-cleared
between-requires-clause-cleared c = is_cleared c.args.point.now c.as_slice.result.now c.args.z (c.as_slice.ensures.value ∙ c.in_ok-cleared.ensures)

pub returns-in-Ok : goal.returns-in-Ok
returns-in-Ok c =
    let e : to_z w128 (of_z w128 c.in-Ok.number) ≡ c.in-Ok.number = search (rules, again_128) in
    between_made c.args.z c.args.rows.now c.args.point.now c.as_slice.result.now _ c.in-Ok.number (c.as_slice.ensures.value ∙ c.in_ok-cleared.ensures) c.in-Ok.ensures (c.in_ok-with_value-in-Ok.ensures ∙ ap (λ (x : ℤ). set c.args.point.now c.args.z x) e)

pub returns : goal.returns
returns c = between_left c.args.z c.args.rows.now c.args.point.now c.as_slice.result.now (c.as_slice.ensures.value ∙ c.in_ok-cleared.ensures) c.in-Err.ensures
