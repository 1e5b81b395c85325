use Rattle.std.proofs.Common.{pos, length, ℕ, refl, rules, sym, ap, ◌∙◌}
use Rattle.ac_base.proofs.Bits.{again_128}
use Rattle.ac_forms.specs.Fits.{Fits}
use Rattle.ac_omega_certify.specs.ChoiceBranches.{Stage, seen, AreResidues}
use Rattle.ac_omega_certify.proofs.ChoiceTrees.{are-splinters, ShadowFirst, shadow-taken, from-nothing, are-residues, residues-long, residues-accepted}
use Rattle.ac_omega_certify.proofs.choice_tree.choice_tree.Goals as goal

pub residues_tree-requires-clause-each : goal.residues_tree-requires-clause-each
residues_tree-requires-clause-each c =
    let f : Fits c.in-Residue.m = search rules in
    let n = length c.args.stage.now.names.now in
    let a : AreResidues n c.in-Residue.z c.in-Residue.m c.args.choices.now = are-residues n c.args.stage.now.rows.now c.args.stage.now.counts.now c.args.choices.now c.in-Residue.z c.in-Residue.m c.in-Residue.field-2 c.requires.all c.in-Residue.is in
    again_128 c.in-Residue.m f ∙ a.is ∙ ap (λ (n : ℕ). pos n) (sym (c.requires.each ∙ residues-long n c.in-Residue.z c.in-Residue.m c.args.choices.now a))

pub returns-in-Residue : goal.returns-in-Residue
returns-in-Residue c =
    let f : Fits c.in-Residue.m = search rules in
    let s : Stage = seen c.args.stage.now in
    let n = length c.args.stage.now.names.now in
    let a : AreResidues n c.in-Residue.z c.in-Residue.m c.args.choices.now = are-residues n c.args.stage.now.rows.now c.args.stage.now.counts.now c.args.choices.now c.in-Residue.z c.in-Residue.m c.in-Residue.field-2 c.requires.all c.in-Residue.is in
    residues-accepted s n c.in-Residue.z c.in-Residue.m c.args.choices.now c.args.trees.items c.residues_tree.result a c.requires.each c.requires.served (rw (again_128 c.in-Residue.m f) at c.residues_tree.ensures)

pub raised_from-requires-clause-counts : goal.raised_from-requires-clause-counts
raised_from-requires-clause-counts c =
    let a = are-splinters (length c.args.stage.now.names.now) c.args.stage.now.rows.now c.args.stage.now.counts.now c.args.choices.now c.in-Shadow.field-0 c.requires.all c.in-Shadow.is in
    (c.in-Shadow.field-0, a.suffice)

pub raised_from-requires-clause-served : goal.raised_from-requires-clause-served
raised_from-requires-clause-served c =
    let s : Stage = seen c.args.stage.now in
    let x : ShadowFirst s c.remove-shadow.result c.remove-shadow.new.self.items = shadow-taken s c.args.stage.now.rows.now (length c.args.stage.now.names.now) c.args.choices.now c.in-Shadow.field-0 c.args.trees.items c.remove-shadow.new.self.items c.remove-shadow.result refl c.requires.all c.in-Shadow.is c.requires.each c.remove-shadow.ensures.value c.remove-shadow.ensures.items c.requires.served in
    x.leaves

pub raised_from-requires-clause-shadow : goal.raised_from-requires-clause-shadow
raised_from-requires-clause-shadow c =
    let s : Stage = seen c.args.stage.now in
    let x : ShadowFirst s c.remove-shadow.result c.remove-shadow.new.self.items = shadow-taken s c.args.stage.now.rows.now (length c.args.stage.now.names.now) c.args.choices.now c.in-Shadow.field-0 c.args.trees.items c.remove-shadow.new.self.items c.remove-shadow.result refl c.requires.all c.in-Shadow.is c.requires.each c.remove-shadow.ensures.value c.remove-shadow.ensures.items c.requires.served in
    x.shadow

pub returns-in-Shadow : goal.returns-in-Shadow
returns-in-Shadow c = from-nothing (seen c.args.stage.now) c.raised_from.result c.raised_from.ensures
