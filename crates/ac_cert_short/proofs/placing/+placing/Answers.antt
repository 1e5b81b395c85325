use Rattle.std.proofs.Common.{◌≡◌, ◌∙◌, ◌++◌, ◌∷◌, [], ◌+◌, take, length, rules, subst, ap, refl, to_z, of_z, arith}
use Rattle.std.proofs.lemmas.Grind.{common_steps}
use Rattle.std.specs.Int.{w128}
use Rattle.ac_cert.specs.declared.types.Next.{Split, Residue}
use Rattle.ac_cert_short.specs.CertificateNodes.{nodes_behind, nodes_of}
use Rattle.ac_cert_short.specs.Drafts.{draft_behind, draft_nodes}
use Rattle.ac_cert_short.specs.DraftRelations.{IsPlaced}
use Rattle.ac_cert_short.proofs.Shapes.{popped}
use Rattle.ac_cert_short.proofs.PlacedMarks.{cut_back, going_next, going_all, split_placed, residue_placed}
use Rattle.ac_cert_short.proofs.placing.+placing.Goals as goal

pub placed-returns-clause-placed : goal.placed-returns-clause-placed
placed-returns-clause-placed t c =
    c.in_ok-steps.ensures.placed (draft_behind c.args.draft.behind) (nodes_behind c.in_ok-next.next) c.in_ok-next.ensures.placed

pub placed-returns-clause-same : goal.placed-returns-clause-same
placed-returns-clause-same t c =
    let rows : c.len-rows.result ≡ length c.args.places.now.items = search rules in
    cut_back c.args.draft.marks.items c.args.places.now.items c.args.count c.place_marks.new.places.items c.in_ok-steps.reached c.in_ok-steps.steps c.placed_behind.new.places.items c.truncate.new.self.items c.in_ok-steps.ensures c.in_ok-next.ensures.same
    (c.truncate.ensures.items ∙ ap (λ n. take n c.placed_behind.new.places.items) rows)

pub placed_kids-loop-kid-preserved : goal.placed_kids-loop-kid-preserved
placed_kids-loop-kid-preserved t c = record {
  same = c.in_ok-tree.ensures.same ∙ c.loop-kid.invariant.same;
  going = going_next c.args.kids.items c.loop-kid.left.items c.pop.new.self.items c.in-Some.kid c.args.places.now.items c.args.count c.loop-kid.made.items c.push.new.self.items c.in_ok-tree.tree
      c.loop-kid.invariant.going
      (popped c.loop-kid.left.items c.pop.new.self.items c.pop.result c.in-Some.kid c.pop.ensures.items c.in-Some.is)
      (subst (λ ps. IsPlaced (ps ++ c.args.count ∷ []) (c.args.count + 1) (draft_nodes c.in-Some.kid) (nodes_of c.in_ok-tree.tree)) c.loop-kid.invariant.same c.in_ok-tree.ensures.placed)
      (search rules);
}

pub placed_behind-returns-in_ok-right_box-in-Split-clause-placed : goal.placed_behind-returns-in_ok-right_box-in-Split-clause-placed
placed_behind-returns-in_ok-right_box-in-Split-clause-placed t c =
    let ps = c.args.places.now.items in
    let n = c.args.count in
    let left = c.in_ok-left_box-in-Split.left_box in
    let right = c.in_ok-right_box-in-Split.right_box in
    let left_is : left.value ≡ c.in_ok-first-in-Split.first = search rules in
    let right_is : right.value ≡ c.in_ok-second-in-Split.second = search rules in
    split_placed ps n (Split c.in-Split.form left right) c.args.behind c.in-Split.form c.in-Split.left c.in-Split.right left right c.in_ok-first-in-Split.first c.in_ok-second-in-Split.second c.into_inner.result c.into_inner-in-Split.result
    c.in-Split.is refl c.into_inner.ensures c.into_inner-in-Split.ensures left_is right_is
    c.in_ok-first-in-Split.ensures.placed
    (subst (λ qs. IsPlaced (qs ++ n ∷ []) (n + 1) (draft_nodes c.into_inner-in-Split.result) (nodes_of c.in_ok-second-in-Split.second)) c.in_ok-first-in-Split.ensures.same c.in_ok-second-in-Split.ensures.placed)

pub placed_behind-returns-in_ok-made-in-Residue-clause-placed : goal.placed_behind-returns-in_ok-made-in-Residue-clause-placed
placed_behind-returns-in_ok-made-in-Residue-clause-placed t c =
    let again = to_z w128 (of_z w128 c.in-Residue.m) in
    let same : again ≡ c.in-Residue.m = search rules in
    residue_placed c.args.places.now.items c.args.count (Residue again c.in-Residue.form c.in_ok-made-in-Residue.made) c.args.behind c.in-Residue.m again c.in-Residue.form c.in-Residue.kids c.in_ok-made-in-Residue.made
    c.in-Residue.is refl c.in_ok-made-in-Residue.ensures.placed same

pub placed_kids-returns-clause-placed : goal.placed_kids-returns-clause-placed
placed_kids-returns-clause-placed t c =
    let none_left : c.loop-kid.left.items ≡ [] = first_of (search rules, grind (arith, common_steps)) in
    going_all c.args.kids.items c.loop-kid.left.items c.args.places.now.items c.args.count c.loop-kid.made.items c.loop-kid.invariant.going none_left
