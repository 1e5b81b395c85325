use Rattle.std.proofs.Common.{◌≡◌, ℕ, ℤ, List, length, subst, sym, refl}
use Rattle.ac_forms.specs.Negation.{HasExtension}
use Rattle.ac_forms.specs.PieceMembership.{IsInSome, IsInOneAtMost}
use Rattle.ac_forms.specs.Rows.{AreRowsOver}
use Rattle.ac_forms.specs.declared.conj.Conj.{Conj}
use Rattle.ac_sets.specs.Unions.{ArePieces, AreFixed}
use Rattle.ac_sets.specs.SetDifferences.{outside}
use Rattle.ac_sets.proofs.Outsides.{outside-points, outside-apart, outside-made, outside-fixed}
use Rattle.ac_forms.specs.declared.row.Row.{Row}
use Rattle.ac_cert.proofs.Soundness.{tree-covered}
use Rattle.ac_sets.specs.DifferenceEnds.{part_refusal, IsInPart}
use Rattle.ac_sets.specs.EndLaw.{part_sound}
use Rattle.ac_sets.specs.DifferencePaths.{EndsStand}
use Rattle.ac_sets.specs.declared.parts.Parts.{Parts}
use Rattle.ac_sets.proofs.Standing.{start-stands}
use Rattle.ac_sets.proofs.differences.subtract.Goals as goal

pub returns-clause-points : goal.returns-clause-points
returns-clause-points c = λ p l.
    let over = subst (λ (n : ℕ). AreRowsOver n c.args.b.now.rows) (sym c.requires.columns) c.requires.second in
    let made = rw c.as_slice.ensures at c.in_ok-pieces.ensures.1 in
    let is = outside-points c.args.a.now c.args.b.now.rows p c.requires.first over l in
    ((λ h. subst (λ (cs : List Conj). IsInSome HasExtension cs p) (sym made) (is.0 h)), (λ h. is.1 (subst (λ (cs : List Conj). IsInSome HasExtension cs p) made h)))

pub returns-clause-apart : goal.returns-clause-apart
returns-clause-apart c = λ p l.
    let over = subst (λ (n : ℕ). AreRowsOver n c.args.b.now.rows) (sym c.requires.columns) c.requires.second in
    let made = rw c.as_slice.ensures at c.in_ok-pieces.ensures.1 in
    subst (λ (cs : List Conj). IsInOneAtMost HasExtension cs p) (sym made) (outside-apart c.args.a.now c.args.b.now.rows p c.requires.first over l)

pub returns-clause-made : goal.returns-clause-made
returns-clause-made c =
    let over = subst (λ (n : ℕ). AreRowsOver n c.args.b.now.rows) (sym c.requires.columns) c.requires.second in
    let made = rw c.as_slice.ensures at c.in_ok-pieces.ensures.1 in
    subst (ArePieces c.args.a.now.columns) (sym made) (outside-made c.args.a.now c.args.b.now.rows c.requires.first over)

pub returns-clause-fixed : goal.returns-clause-fixed
returns-clause-fixed c =
    let over = subst (λ (n : ℕ). AreRowsOver n c.args.b.now.rows) (sym c.requires.columns) c.requires.second in
    let made = rw c.as_slice.ensures at c.in_ok-pieces.ensures.1 in
    subst (AreFixed c.args.a.now.columns) (sym made) (outside-fixed c.args.a.now c.args.b.now.rows c.requires.first over)

pub returns-clause-accepted : goal.returns-clause-accepted
returns-clause-accepted c =
    let parts : Parts = record { pieces = c.in_ok-pieces.pieces; inside = c.args.b.now } in
    let made = rw c.as_slice.ensures at c.in_ok-pieces.ensures.1 in
    let ends = start-stands c.args.a.now c.args.b.now c.in_ok-pieces.pieces c.requires.columns c.requires.first c.requires.second made in
    c.in_ok-tree.ensures.1 (part_refusal parts) c.args.a.now refl (sym c.len.ensures) (subst (λ (rs : List Row). EndsStand (part_refusal parts) rs c.args.a.now 0) (sym c.as_slice-2.ensures) ends)

pub returns-clause-cover : goal.returns-clause-cover
returns-clause-cover c = λ p at.
    let parts : Parts = record { pieces = c.in_ok-pieces.pieces; inside = c.args.b.now } in
    let made = rw c.as_slice.ensures at c.in_ok-pieces.ensures.1 in
    let ends = start-stands c.args.a.now c.args.b.now c.in_ok-pieces.pieces c.requires.columns c.requires.first c.requires.second made in
    let accepted = c.in_ok-tree.ensures.1 (part_refusal parts) c.args.a.now refl (sym c.len.ensures) (subst (λ (rs : List Row). EndsStand (part_refusal parts) rs c.args.a.now 0) (sym c.as_slice-2.ensures) ends) in
    tree-covered c.in_ok-tree.tree (part_refusal parts) (IsInPart parts) (λ e path q r w to. part_sound parts e path q r to) c.args.a.now 0 c.requires.first (accepted 0) p at
