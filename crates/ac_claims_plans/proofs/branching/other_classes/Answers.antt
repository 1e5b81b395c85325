use Rattle.std.proofs.Common.{rules, ◌≡◌, ◌≤◌, ◌++◌, [], ◌∷◌, pos, ◌-ℤ◌, ◌<ℤ◌, ◌≤ℤ◌}
use Rattle.ac_forms.specs.Fits.{Fits}
use Rattle.ac_cert.specs.Rules.{class_row}
use Rattle.ac_claims_plans.specs.BranchSides.{one_row}
use Rattle.ac_claims_plans.proofs.Classes.{classes_more, classes_same}
use Rattle.ac_claims_plans.proofs.branching.other_classes.Goals as goal
use Rattle.ac_claims_plans.proofs.branching.other_classes.Goals.{then-from-modulus+in_ok-class_part+in_ok-push, else-from-modulus}

pub loop-number-preserved : goal.loop-number-preserved
loop-number-preserved c =
    let n = c.loop-number.number in
    let l : 1 ≤ n = search rules in
    elim c.if-from-modulus.branch [
      | then-from-modulus+in_ok-class_part+in_ok-push w ↦
          let test : pos n <ℤ c.args.modulus.now = search rules in
          let made : Fits (c.args.form.now.konst -ℤ pos n) × (w.in_ok-class_part.field-0 ≡ one_row (class_row c.args.modulus.now c.args.form.now (pos n)) 0 0 1) = search rules in
          let is : c.if-from-modulus.outside ≡ c.loop-number.outside ++ w.in_ok-class_part.field-0 ∷ [] = search rules in
          classes_more c.args.modulus.now c.args.form.now n w.in_ok-class_part.field-0 c.loop-number.outside c.if-from-modulus.outside c.loop-number.invariant l test made is
      | else-from-modulus w ↦
          let test : c.args.modulus.now ≤ℤ pos n = search rules in
          rw w.outside-is (classes_same c.args.modulus.now c.args.form.now n c.loop-number.outside c.loop-number.invariant l test)
    ]
