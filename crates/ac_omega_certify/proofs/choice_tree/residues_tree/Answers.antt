use Rattle.std.proofs.Common.{◌≤◌, length, arith, subst}
use Rattle.ac_base.proofs.Bits.{again_128}
use Rattle.ac_forms.specs.Affine.{Affine, column_form}
use Rattle.ac_omega_certify.specs.ChoiceBranches.{Stage, seen}
use Rattle.ac_omega_certify.specs.TreePathRows.{Renames}
use Rattle.ac_omega_certify.proofs.ChoiceTrees.{each-residue}
use Rattle.ac_omega_certify.proofs.choice_tree.residues_tree.Goals as goal

pub returns : goal.returns
returns c = λ path served on.
    let s : Stage = seen c.args.stage.now in
    let names = c.args.stage.now.names.now in
    let form = c.in_ok-form.form in
    let r : Renames names (column_form (length names) c.args.z) form = subst (λ (f : Affine). Renames names f form) c.in_ok-column.ensures (c.in_ok-form.ensures.renames on.names) in
    let short : length form.coefs ≤ path.columns = omega (arith, c.in_ok-form.ensures.within, on.columns) in
    let accepted = rw (again_128 c.args.m c.ranges.m) at c.class_tree.ensures in
    accepted path short (each-residue s c.args.z c.args.m form path on r (length c.args.trees.items) 0 c.args.trees.items served)
