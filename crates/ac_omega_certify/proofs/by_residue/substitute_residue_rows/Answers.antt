use Rattle.std.proofs.Common.{◌∙◌}
use Rattle.ac_omega_steps.specs.Choices.{substitute_residue_row}
use Rattle.ac_base.proofs.Bits.{read_back}
use Rattle.std.proofs.Common.{FitsSigned}
use Rattle.std.specs.Int.{w128}
use Rattle.ac_omega_certify.proofs.SpreadRows.{fits-at, map-whole}
use Rattle.ac_omega_certify.proofs.by_residue.substitute_residue_rows.Goals as goal

pub substitute_residue_row-requires : goal.substitute_residue_row-requires
substitute_residue_row-requires c =
    let fm : FitsSigned w128 c.args.m = c.ranges.m in
    let fr : FitsSigned w128 c.args.r = c.ranges.r in
    simp read_back (fits-at c.args.z c.args.m c.args.r c.args.rows.now c.loop-row.row-index c.row-item.result c.requires c.loop-row-test.true c.row-item.is)

pub returns : goal.returns
returns c =
    let fm : FitsSigned w128 c.args.m = c.ranges.m in
    let fr : FitsSigned w128 c.args.r = c.ranges.r in
    let inv = simp read_back at c.loop-row.invariant in
    inv ∙ map-whole (substitute_residue_row c.args.z c.args.m c.args.r) c.args.rows.now c.loop-row.row-index c.loop-row.auto.row-index-end c.loop-row-test.false
