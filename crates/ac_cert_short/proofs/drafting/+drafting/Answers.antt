use Rattle.std.proofs.Common.{◌≡◌, Bool, sym, ap, subst, rules, arith, true}
use Rattle.ac_cert.specs.declared.types.Tree.{Tree}
use Rattle.ac_cert.specs.declared.ends.Absurd.{Absurd}
use Rattle.ac_cert_short.specs.CertificateNodes.{nodes_of, nodes_behind, rows_along}
use Rattle.ac_cert_short.specs.Drafts.{draft_nodes}
use Rattle.ac_cert_short.specs.DraftRelations.{ChildDrafted, Drafted}
use Rattle.ac_cert_short.proofs.DraftNodes.{drafted-same}
use Rattle.ac_cert_short.proofs.Shapes.{next_at_residue, tree_at_split, kid_alone, kids_next, popped}
use Rattle.ac_cert_short.proofs.drafting.+drafting.Goals as goal

pub drafted-returns-clause-drafted : goal.drafted-returns-clause-drafted
drafted-returns-clause-drafted t c =
    let long = c.in_ok-open_steps.ensures.long in
    let same : rows_along c.as_slice.result.now ≡ rows_along c.args.tree.steps = ap rows_along c.as_slice.ensures in
    let kept = c.in_ok-made.ensures.long in
    c.in_ok-whole.ensures.drafted c.args.uses.now.items (nodes_behind c.args.tree.next) (omega (arith, long, same, kept))
    (drafted-same c.args.uses.now.items c.open_steps.new.uses.items c.drafted_next.new.uses.items (nodes_behind c.args.tree.next) (draft_nodes c.in_ok-made.made) c.in_ok-open_steps.ensures.same c.in_ok-made.ensures.drafted)

pub drafted_next-returns-in_ok-made-in-Residue-clause-drafted : goal.drafted_next-returns-in_ok-made-in-Residue-clause-drafted
drafted_next-returns-in_ok-made-in-Residue-clause-drafted t c =
    next_at_residue c.args.uses.now.items c.drafted_residue.new.uses.items c.args.next c.in-Residue.m _ c.in-Residue.form c.in-Residue.kids (draft_nodes c.in_ok-made-in-Residue.made) c.in-Residue.is c.in_ok-made-in-Residue.ensures.drafted (search rules)

pub drafted_residue-returns-then-not-used-clause-drafted : goal.drafted_residue-returns-then-not-used-clause-drafted
drafted_residue-returns-then-not-used-clause-drafted t c =
    kid_alone c.args.kids.items c.loop-kid.left.items c.pop.new.self.items c.in-Some.kid c.args.uses.now.items c.loop-kid.uses.items c.drafted_child.new.uses.items c.instead.new.uses.items c.args.m.now c.args.form c.loop-kid.made.items c.as_slice.result.now (draft_nodes c.in_ok-draft.draft) (draft_nodes c.in_ok-alone.alone) c.in_ok-draft.used
    c.loop-kid.invariant
    (popped c.loop-kid.left.items c.pop.new.self.items c.pop.result c.in-Some.kid c.pop.ensures.items c.in-Some.is)
    c.in_ok-draft.ensures c.if-not-used.true c.instead.ensures.long c.as_slice.ensures.value c.instead.ensures.forgotten c.in_ok-alone.ensures.alone

pub drafted_residue-loop-kid-preserved : goal.drafted_residue-loop-kid-preserved
drafted_residue-loop-kid-preserved t c =
    kids_next c.args.kids.items c.loop-kid.left.items c.pop.new.self.items c.in-Some.kid c.args.uses.now.items c.loop-kid.uses.items c.drafted_child.new.uses.items c.loop-kid.made.items c.push.new.self.items c.in_ok-draft.draft c.in_ok-draft.used
    c.loop-kid.invariant
    (popped c.loop-kid.left.items c.pop.new.self.items c.pop.result c.in-Some.kid c.pop.ensures.items c.in-Some.is)
    c.in_ok-draft.ensures c.if-not-used.false (search rules)

pub drafted_next-returns-in_ok-made-in-Split-clause-drafted : goal.drafted_next-returns-in_ok-made-in-Split-clause-drafted
drafted_next-returns-in_ok-made-in-Split-clause-drafted t c =
    let old = c.args.uses.now.items in
    let mid = c.drafted_child.new.uses.items in
    let late = c.drafted_child-in-Split.new.uses.items in
    let left = c.in-Split.left in
    let right = c.in-Split.right in
    let first : ChildDrafted old mid (nodes_of left.value) (draft_nodes c.in_ok-first-in-Split.first) true =
    subst (λ (b : Bool). ChildDrafted old mid (nodes_of left.value) (draft_nodes c.in_ok-first-in-Split.first) b) c.if-not-first_used.false
    (subst (λ (z : Tree Absurd). ChildDrafted old mid (nodes_of z) (draft_nodes c.in_ok-first-in-Split.first) c.in_ok-first-in-Split.first_used) c.into_inner.ensures c.in_ok-first-in-Split.ensures) in
    let second : ChildDrafted mid late (nodes_of right.value) (draft_nodes c.in_ok-second-in-Split.second) c.in_ok-second-in-Split.used =
    subst (λ (z : Tree Absurd). ChildDrafted mid late (nodes_of z) (draft_nodes c.in_ok-second-in-Split.second) c.in_ok-second-in-Split.used) c.into_inner-in-Split.ensures c.in_ok-second-in-Split.ensures in
    let made = c.in_ok-made-in-Split.ensures.drafted old mid (nodes_of left.value) (nodes_of right.value) first second in
    subst (λ p. Drafted old c.beside.new.uses.items p (draft_nodes c.in_ok-made-in-Split.made)) (sym (tree_at_split c.args.next c.in-Split.form left right c.in-Split.is)) made
