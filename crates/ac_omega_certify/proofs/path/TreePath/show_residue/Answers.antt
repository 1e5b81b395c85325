use Rattle.std.proofs.Common.{FitsSigned, List, length, sym, subst}
use Rattle.std.specs.Int.{w128}
use Rattle.ac_base.proofs.Bits.{read_back}
use Rattle.ac_forms.specs.declared.row.Row.{Row}
use Rattle.ac_omega_certify.specs.Descents.{AreRowsUpTo2To122, Carries}
use Rattle.std.specs.Prelude.{set}
use Rattle.ac_omega_certify.proofs.SpreadSizes.{residue-bound, all-taken, all-small, all-calm}
use Rattle.ac_omega_certify.proofs.SpreadRows.{residue-carries}
use Rattle.ac_omega_certify.proofs.path.TreePath.show_residue.Goals as goal

pub take_each-requires-clause-small : goal.take_each-requires-clause-small
take_each-requires-clause-small c =
    let h = c.requires.within_2_to_120 in
    all-small h.factor h.number c.args.z c.args.m c.args.r c.args.stage.now.rows.now (residue-bound c.args.z c.args.m c.args.r c.args.stage.now.rows.now h c.requires.modulus c.requires.low c.requires.high) h.rows

pub returns-clause-up_to_2_to_122 : goal.returns-clause-up_to_2_to_122
returns-clause-up_to_2_to_122 c =
    let h = c.requires.within_2_to_120 in
    let fm : FitsSigned w128 c.args.m = c.ranges.m in
    let fr : FitsSigned w128 c.args.r = c.ranges.r in
    let made = simp read_back at c.in_ok-rows.ensures in
    subst AreRowsUpTo2To122 (sym made) (all-calm h.factor h.number c.args.z c.args.m c.args.r c.args.stage.now.rows.now (residue-bound c.args.z c.args.m c.args.r c.args.stage.now.rows.now h c.requires.modulus c.requires.low c.requires.high) h.rows)

pub returns-clause-carries : goal.returns-clause-carries
returns-clause-carries c = λ start carries.
    let h = c.requires.within_2_to_120 in
    let fm : FitsSigned w128 c.args.m = c.ranges.m in
    let fr : FitsSigned w128 c.args.r = c.ranges.r in
    let made = simp read_back at c.in_ok-rows.ensures in
    let bound = residue-bound c.args.z c.args.m c.args.r c.args.stage.now.rows.now h c.requires.modulus c.requires.low c.requires.high in
    subst (λ (rs : List Row). Carries c.take_each.new.self start (set c.args.stage.now.names.now c.args.z c.args.self.now.columns) rs c.in_ok-places.places.items) (sym made)
    (residue-carries c.args.self.now c.show_class_quotient.new.self c.take_each.new.self start c.args.stage.now.names.now c.args.z c.args.class c.in_ok-equality.equality c.args.m c.args.r c.args.stage.now.rows.now c.args.stage.now.places.now c.in_ok-places.places.items
    c.requires.column c.requires.made (all-taken h.factor h.number (length c.args.stage.now.names.now) c.args.z c.args.m c.args.r c.args.stage.now.rows.now c.requires.column bound h.rows c.requires.made)
    c.in_ok-equality.ensures.columns c.in_ok-equality.ensures.one c.in_ok-places.ensures.base (simp read_back at c.in_ok-equality.ensures.leads) c.in_ok-places.ensures.leads carries)
