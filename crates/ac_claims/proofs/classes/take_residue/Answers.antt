use Rattle.std.proofs.Common.{◌≡◌, ◌++◌, pos, ap, ◌∙◌, refl, sym, subst}
use Rattle.ac_claims_paths.specs.ModelCalls.{pairing}
use Rattle.ac_claims.specs.StackEntries.{AreClasses, classes_of, dues}
use Rattle.ac_claims.specs.Machine.{Onto}
use Rattle.ac_claims.specs.declared.entry.Classes.{Classes}
use Rattle.ac_claims.proofs.Residues.{residue_taken, are_classes}
use Rattle.ac_claims.proofs.StackSteps.{settles_as}
use Rattle.ac_claims.proofs.classes.take_residue.Goals as goal

pub awaits-requires-clause-due : goal.awaits-requires-clause-due
awaits-requires-clause-due c =
    let d : Classes = record { modulus = c.args.modulus.now; form = c.args.form.now; next = pos 0 } in
    let e : c.all_classes-classes.result ≡ d = c.all_classes-classes.ensures ∙ (λ i. record { modulus = c.args.modulus.now; form = c.in_ok-form.ensures i; next = pos 0 }) in
    subst (AreClasses c.args.path.conj.columns) (sym e) (are_classes c.args.path.conj.columns d (sym c.in_ok-has_residues.ensures ∙ c.if-not-branch.false) refl)

pub returns : goal.returns
returns c =
    let d : Classes = record { modulus = c.args.modulus.now; form = c.args.form.now; next = pos 0 } in
    let e : c.all_classes-classes.result ≡ d = c.all_classes-classes.ensures ∙ (λ i. record { modulus = c.args.modulus.now; form = c.in_ok-form.ensures i; next = pos 0 }) in
    settles_as _ _ c.awaits.new.due c.awaits.result
    (residue_taken (pairing c.args.line.now.programs.now) c.args.line.now.claims.now c.args.path d c.args.line.now.number (dues c.args.path.conj.rows c.args.due.now) (sym c.in_ok-has_residues.ensures ∙ c.if-not-branch.false) refl ∙ ap (λ (x : Classes). Onto (classes_of c.args.path x ++ dues c.args.path.conj.rows c.args.due.now)) (sym e))
    c.awaits.ensures
