use Rattle.std.proofs.Common.{◌≡◌, length, refl, sym, ap, ◌∙◌, subst}
use Rattle.ac_forms.proofs.Passes.{moduli_of}
use Rattle.ac_omega_certify.specs.ChoiceBranches.{numbers_from}
use Rattle.ac_omega_certify.specs.Descents.{AreRowsUpTo2To122}
use Rattle.ac_omega_certify.proofs.Moderate.{modest-calm}
use Rattle.ac_omega_certify.proofs.Questions.{first-carries, numbers-length}
use Rattle.ac_omega_certify.proofs.question.question_branch.Goals as goal

pub returns : goal.returns
returns c =
    let q = c.args.question.now in
    let rows : c.in_ok-rows.rows.items ≡ q.rows = c.in_ok-rows.ensures ∙ c.as_slice.ensures in
    let places : c.in_ok-places.places.items ≡ numbers_from 0 (length q.rows) = c.in_ok-places.ensures ∙ ap (numbers_from 0) c.len-2.ensures in
    record {
      names = ap length c.in_ok-names.ensures ∙ numbers-length q.columns;
      long = ap length places ∙ numbers-length (length q.rows) ∙ sym (ap length rows);
      rows = rows;
      up_to_2_to_122 = subst AreRowsUpTo2To122 (sym rows) (modest-calm q.rows c.requires.within_2_to_120 (moduli_of q.columns q.rows c.requires.made));
      carries = first-carries c.in_ok-tree_path.tree_path q c.in_ok-names.names.items c.in_ok-places.places.items c.in_ok-rows.rows.items c.in_ok-names.ensures places rows c.requires.made (c.in_ok-tree_path.ensures q refl (sym c.len.ensures));
    }
