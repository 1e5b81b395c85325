use Rattle.std.proofs.Common.{◌≡◌, ◌∙◌, to_z, of_z, rules}
use Rattle.std.specs.Int.{w128}
use Rattle.ac_base.proofs.Bits.{again_128}
use Rattle.ac_omega_certify.proofs.Equated.{replaced-can}
use Rattle.ac_omega_certify.proofs.replaced.replaced_row.Goals as goal

pub combined-requires : goal.combined-requires
combined-requires c =
    let s : to_z w128 (of_z w128 c.size-size.result) ≡ c.size-size.result = search (rules, again_128) in
    let k : to_z w128 (of_z w128 c.factor-factor.result) ≡ c.factor-factor.result = search (rules, again_128) in
    replaced-can c.args.z c.args.equality.now c.args.row.now c.form-2.result.now _ _ c.form-2.ensures (s ∙ c.size-size.ensures) (k ∙ rw (← c.form.ensures) c.factor-factor.ensures) c.requires.fits
