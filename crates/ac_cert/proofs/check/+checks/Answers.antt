use Rattle.std.proofs.Common.{◌≡◌, ◌+◌, ◌∙◌, sym, ap, subst, Ok, true, false, length, refl, arith}
use Rattle.ac_forms.specs.Rows.{IsWellMade}
use Rattle.ac_forms.specs.declared.conj.Conj.{Conj}
use Rattle.ac_cert.specs.Rules.{with_row, is_partition}
use Rattle.ac_cert.specs.CertificateFaults.{fault_of, tree_fault, later, kids_fault, kids_size, size_of}
use Rattle.ac_cert.specs.CheckStops.{Checked, Fails}
use Rattle.ac_cert.proofs.Kids.{fault-at-split, count-at-split, fault-at-residue, count-at-residue}
use Rattle.ac_cert.proofs.StepRules.{sides-made}
use Rattle.ac_cert.proofs.Checks.{path-on, child-back, split-err, split-on, kids-on, kids-err, child-fits, child-made}
use Rattle.ac_cert.proofs.check.+checks.Goals as goal

pub check_at-returns-in-Err : goal.check_at-returns-in-Err
check_at-returns-in-Err g t c =
    let f = c.in-Err.ensures.fails (fault_of c.args.tree.now.next (λ e d. g.E.End.refusal e c.args.env.now d)) in
    rw c.as_slice.ensures at f

pub check_at-returns-in-Ok-check_next : goal.check_at-returns-in-Ok-check_next
check_at-returns-in-Ok-check_next g t c =
    let rows = rw c.as_slice.ensures at c.in-Ok.ensures.rows in
    let on = rw c.as_slice.ensures at c.in-Ok.ensures.goes_on in
    let number = rw c.as_slice.ensures at c.in-Ok.ensures.number in
    let back = rw c.len-count.ensures at c.first_of.ensures in
    let p = path-on c.args.tree.now.steps c.args.tree.now.next (λ e d. g.E.End.refusal e c.args.env.now d) c.args.conj c.args.node c.in-Ok.here c.in-Ok.at c.in-Ok-check_next.here c.in-Ok-check_next.behind rows on number c.in-Ok-check_next.ensures in
    (p.0, back ∙ p.1, p.2)

pub check_next-returns-then-not-stands : goal.check_next-returns-then-not-stands
check_next-returns-then-not-stands g t c =
    let no : is_partition c.in-Residue.m c.in-Residue.e c.args.conj.columns (length c.in-Residue.kids.items) ≡ false = cc in
    let s = fault-at-residue c.args.next.now (λ e d. g.E.End.refusal e c.args.env.now d) c.args.conj c.args.node c.in-Residue.m c.in-Residue.e c.in-Residue.kids c.in-Residue.is in
    rw (s, no) refl

pub check_kids-child_row-requires : goal.check_kids-child_row-requires
check_kids-child_row-requires g t c =
    child-fits c.args.m.now c.args.e.now c.loop-r.r c.args.conj.columns (length c.args.kids.now) c.see_constant.ensures c.requires.partition c.loop-r-test.true

pub check_next-child_of-requires : goal.check_next-child_of-requires
check_next-child_of-requires g t c = (sides-made c.in-Split.e c.args.conj c.in-Ok-side_rows.both c.in-Ok-side_rows.ensures c.requires).0

pub check_next-child_of-requires-in-Split : goal.check_next-child_of-requires-in-Split
check_next-child_of-requires-in-Split g t c =
    let made = (sides-made c.in-Split.e c.args.conj c.in-Ok-side_rows.both c.in-Ok-side_rows.ensures c.requires).1 in
    let cut = rw c.len-count.ensures at c.first_of.ensures in
    let same = cut ∙ child-back c.args.conj c.in_ok-first-in-Split.first c.in-Ok-check_at.checked.0 c.in-Ok-side_rows.both.0 c.in_ok-first-in-Split.ensures.value c.in-Ok-check_at.ensures.1 in
    subst (λ (x : Conj). IsWellMade (with_row x c.in-Ok-side_rows.both.1)) (sym same) made

pub check_next-returns-in-Err-check_at : goal.check_next-returns-in-Err-check_at
check_next-returns-in-Err-check_at g t c =
    let s = fault-at-split c.args.next.now (λ e d. g.E.End.refusal e c.args.env.now d) c.args.conj c.args.node c.in-Split.e c.in-Split.left c.in-Split.right c.in-Split.is in
    let f : Fails (tree_fault c.deref.result.now (λ e d. g.E.End.refusal e c.args.env.now d) c.in_ok-first-in-Split.first c.saturating_add-in-Split.result) c.in-Err-check_at.e = c.in-Err-check_at.ensures in
    let h = rw (c.deref.ensures, c.saturating_add-in-Split.ensures) at f in
    rw s (split-err (λ e d. g.E.End.refusal e c.args.env.now d) c.in-Split.left.value c.in-Split.right.value c.in-Split.e c.args.conj c.in_ok-first-in-Split.first c.args.node c.in-Ok-side_rows.both c.in-Err-check_at.e c.in-Ok-side_rows.ensures c.in_ok-first-in-Split.ensures.value h)

pub check_next-returns-in-Err-check_at-2 : goal.check_next-returns-in-Err-check_at-2
check_next-returns-in-Err-check_at-2 g t c =
    let s = fault-at-split c.args.next.now (λ e d. g.E.End.refusal e c.args.env.now d) c.args.conj c.args.node c.in-Split.e c.in-Split.left c.in-Split.right c.in-Split.is in
    let l : Checked (tree_fault c.deref.result.now (λ e d. g.E.End.refusal e c.args.env.now d) c.in_ok-first-in-Split.first c.saturating_add-in-Split.result) c.in_ok-first-in-Split.first (later c.saturating_add-in-Split.result (size_of c.deref.result.now)) (Ok c.in-Ok-check_at.checked) = c.in-Ok-check_at.ensures in
    let first = rw (c.deref.ensures, c.saturating_add-in-Split.ensures) at l in
    let cut = rw c.len-count.ensures at c.first_of.ensures in
    let same = cut ∙ child-back c.args.conj c.in_ok-first-in-Split.first c.in-Ok-check_at.checked.0 c.in-Ok-side_rows.both.0 c.in_ok-first-in-Split.ensures.value first.1 in
    let second = c.in_ok-second-in-Split.ensures.value ∙ ap (λ (x : Conj). with_row x c.in-Ok-side_rows.both.1) same in
    let on = split-on (λ e d. g.E.End.refusal e c.args.env.now d) c.in-Split.left.value c.in-Split.right.value c.in-Split.e c.args.conj c.in_ok-first-in-Split.first c.in_ok-second-in-Split.second c.args.node c.in-Ok-check_at.checked.1 c.in-Ok-side_rows.both c.in-Ok-side_rows.ensures c.in_ok-first-in-Split.ensures.value first.0 first.2 second in
    let f : Fails (tree_fault c.deref-in-Split.result.now (λ e d. g.E.End.refusal e c.args.env.now d) c.in_ok-second-in-Split.second c.in-Ok-check_at.checked.1) c.in-Err-check_at-2.e = c.in-Err-check_at-2.ensures in
    let h = rw c.deref-in-Split.ensures at f in
    rw (s ∙ on) h

pub check_next-returns-in-Ok-check_at-2 : goal.check_next-returns-in-Ok-check_at-2
check_next-returns-in-Ok-check_at-2 g t c =
    let s = fault-at-split c.args.next.now (λ e d. g.E.End.refusal e c.args.env.now d) c.args.conj c.args.node c.in-Split.e c.in-Split.left c.in-Split.right c.in-Split.is in
    let k = count-at-split c.args.next.now c.in-Split.e c.in-Split.left c.in-Split.right c.in-Split.is in
    let l : Checked (tree_fault c.deref.result.now (λ e d. g.E.End.refusal e c.args.env.now d) c.in_ok-first-in-Split.first c.saturating_add-in-Split.result) c.in_ok-first-in-Split.first (later c.saturating_add-in-Split.result (size_of c.deref.result.now)) (Ok c.in-Ok-check_at.checked) = c.in-Ok-check_at.ensures in
    let first = rw (c.deref.ensures, c.saturating_add-in-Split.ensures) at l in
    let cut = rw c.len-count.ensures at c.first_of.ensures in
    let same = cut ∙ child-back c.args.conj c.in_ok-first-in-Split.first c.in-Ok-check_at.checked.0 c.in-Ok-side_rows.both.0 c.in_ok-first-in-Split.ensures.value first.1 in
    let second = c.in_ok-second-in-Split.ensures.value ∙ ap (λ (x : Conj). with_row x c.in-Ok-side_rows.both.1) same in
    let on = split-on (λ e d. g.E.End.refusal e c.args.env.now d) c.in-Split.left.value c.in-Split.right.value c.in-Split.e c.args.conj c.in_ok-first-in-Split.first c.in_ok-second-in-Split.second c.args.node c.in-Ok-check_at.checked.1 c.in-Ok-side_rows.both c.in-Ok-side_rows.ensures c.in_ok-first-in-Split.ensures.value first.0 first.2 second in
    let r : Checked (tree_fault c.deref-in-Split.result.now (λ e d. g.E.End.refusal e c.args.env.now d) c.in_ok-second-in-Split.second c.in-Ok-check_at.checked.1) c.in_ok-second-in-Split.second (later c.in-Ok-check_at.checked.1 (size_of c.deref-in-Split.result.now)) (Ok (c.in-Ok-check_at-2.second, c.in-Ok-check_at-2.behind)) = c.in-Ok-check_at-2.ensures in
    let last = rw c.deref-in-Split.ensures at r in
    let back = rw c.len-count.ensures at c.first_of-in-Ok-check_at-2.ensures in
    let whole = back ∙ child-back c.args.conj c.in_ok-second-in-Split.second c.in-Ok-check_at-2.second c.in-Ok-side_rows.both.1 second last.1 in
    (s ∙ on ∙ last.0, whole, rw k (omega (arith, first.2, last.2)))

pub check_next-returns-else-not-stands : goal.check_next-returns-else-not-stands
check_next-returns-else-not-stands g t c =
    let yes : is_partition c.in-Residue.m c.in-Residue.e c.args.conj.columns (length c.in-Residue.kids.items) ≡ true = cc in
    let s = fault-at-residue c.args.next.now (λ e d. g.E.End.refusal e c.args.env.now d) c.args.conj c.args.node c.in-Residue.m c.in-Residue.e c.in-Residue.kids c.in-Residue.is in
    let k = count-at-residue c.args.next.now c.in-Residue.m c.in-Residue.e c.in-Residue.kids c.in-Residue.is in
    let d : Checked (kids_fault c.deref-in-Residue.result.now (λ e d. g.E.End.refusal e c.args.env.now d) c.in-Residue.m c.in-Residue.e 0 c.args.conj c.saturating_add-in-Residue.result) c.args.conj (later c.saturating_add-in-Residue.result (kids_size c.deref-in-Residue.result.now)) c.check_kids.result = c.check_kids.ensures in
    let h = rw (c.deref-in-Residue.ensures.value, c.saturating_add-in-Residue.ensures) at d in
    let l : later c.args.node (1 + kids_size c.in-Residue.kids.items) ≡ later (later c.args.node 1) (kids_size c.in-Residue.kids.items) = omega arith in
    rw (s, yes, k, l) h

pub check_kids-child_of-requires : goal.check_kids-child_of-requires
check_kids-child_of-requires g t c =
    child-made c.args.m.now c.args.e.now c.loop-r.r (length c.args.kids.now) c.loop-r.here c.args.conj c.in_ok-row.row c.see_constant.ensures c.requires.partition c.loop-r-test.true c.loop-r.invariant.same c.in_ok-row.ensures c.requires.made

pub check_kids-returns-in-Err : goal.check_kids-returns-in-Err
check_kids-returns-in-Err g t c =
    kids-err (λ e d. g.E.End.refusal e c.args.env.now d) c.args.kids.now c.loop-r.r c.index-kids-r.result c.args.m.now c.args.e.now c.args.conj c.loop-r.here c.in_ok-child.child c.in_ok-row.row c.loop-r.at c.in-Err.e _ c.loop-r-test.true c.index-kids-r.is c.loop-r.invariant.same c.in_ok-row.ensures c.in_ok-child.ensures.value c.in-Err.ensures c.loop-r.invariant.so_far

pub check_kids-loop-r-preserved : goal.check_kids-loop-r-preserved
check_kids-loop-r-preserved g t c =
    let h : Checked _ c.in_ok-child.child (later c.loop-r.at (size_of c.index-kids-r.result)) (Ok (c.in-Ok.child, c.in-Ok.behind)) = c.in-Ok.ensures in
    let cut = rw c.len-count.ensures at c.first_of-here.ensures in
    let on = kids-on (λ e d. g.E.End.refusal e c.args.env.now d) c.args.kids.now c.loop-r.r c.index-kids-r.result c.args.m.now c.args.e.now c.args.conj c.loop-r.here c.in_ok-child.child c.in-Ok.child c.first_of-here.result c.in_ok-row.row c.loop-r.at c.in-Ok.behind c.loop-r-test.true c.index-kids-r.is c.loop-r.invariant.same c.in_ok-row.ensures c.in_ok-child.ensures.value h cut in
    record { small = omega (arith, h.2); same = on.same; number = sym on.number ∙ c.loop-r.invariant.number; so_far = c.loop-r.invariant.so_far ∙ on.fault }
