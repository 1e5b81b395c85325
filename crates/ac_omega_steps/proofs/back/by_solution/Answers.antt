use Rattle.std.proofs.Common.{◌≡◌, ◌∙◌, ℤ, ap, set, rules, slice_get, to_z, of_z}
use Rattle.std.specs.Int.{w128}
use Rattle.ac_base.proofs.Bits.{again_128}
use Rattle.ac_omega_steps.proofs.Cleared.{is_cleared, solved_made, solved_left}
use Rattle.ac_omega_steps.proofs.back.by_solution.Goals as goal

pub solved_at-requires-clause-cleared : goal.solved_at-requires-clause-cleared
solved_at-requires-clause-cleared c = is_cleared c.args.point.now c.as_slice.result.now c.args.z (c.as_slice.ensures.value ∙ c.in_ok-cleared.ensures)

pub returns-in-Some : goal.returns-in-Some
returns-in-Some c =
    let e : to_z w128 (of_z w128 c.in-Some.number) ≡ c.in-Some.number = search (rules, again_128) in
    solved_made c.args.z (slice_get c.args.conj.now.rows c.args.at) c.args.point.now c.as_slice.result.now _ c.in-Some.number (c.as_slice.ensures.value ∙ c.in_ok-cleared.ensures) c.in-Some.ensures (c.in_ok-with_value-in-Some.ensures ∙ ap (λ (x : ℤ). set c.args.point.now c.args.z x) e)

pub returns : goal.returns
returns c = solved_left c.args.z (slice_get c.args.conj.now.rows c.args.at) c.args.point.now c.as_slice.result.now (c.as_slice.ensures.value ∙ c.in_ok-cleared.ensures) c.in-None.ensures
