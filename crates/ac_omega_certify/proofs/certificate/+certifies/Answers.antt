use Rattle.std.proofs.Common.{ℕ, ◌+◌, [], ◌∷◌, length, get_or, refl, ap, ◌∙◌, arith, rules, length-append}
use Rattle.ac_forms.specs.declared.conj.Conj.{Conj}
use Rattle.ac_omega_steps.specs.declared.choose.Choice.{Choice}
use Rattle.ac_omega_steps.specs.declared.choose.Choice.TheVariants.{Drop}
use Rattle.ac_omega_certify.specs.ChoiceBranches.{Stage, stage, seen, conj_on, IsBranch}
use Rattle.ac_omega_certify.specs.Refutations.{conj_of}
use Rattle.ac_omega_certify.specs.declared.refutation.Refutation.{the_lemmas}
use Rattle.ac_omega_certify.proofs.Certified.{absurd-rows, absurd-length, absurd-stands, behind, choice-own, choice-fits, Opened, opened-on, open-long, open-accepted, Chosen, chosen, Ready, ready, serves}
use Rattle.ac_omega_certify.proofs.Refuted.{served-more, refute-lengths, modest-at, try-at}
use Rattle.ac_omega_certify.proofs.certificate.+certifies.Goals as goal

pub certify_at-bounds-places-0 : goal.certify_at-bounds-places-0
certify_at-bounds-places-0 t c = omega (arith, c.requires.long, absurd-length (conj_of c.args.refutation.now).rows (absurd-rows c.args.refutation.now _ c.in-Absurd.is c.requires.refutes))

pub certify_at-returns-in-Absurd : goal.certify_at-returns-in-Absurd
certify_at-returns-in-Absurd t c = λ path on. c.absurd_tree.ensures.accepted path (absurd-stands c.args.base c.args.names.now c.args.refutation.now c.args.places.now _ path c.in-Absurd.is c.requires.refutes on)

pub certify_at-certify_each-requires : goal.certify_at-certify_each-requires
certify_at-certify_each-requires t c = (
  search (rules, the_lemmas),
  let s : Stage = stage c.args.base c.args.names.now c.args.places.now c.as_slice-rows.result.now c.as_slice-splinters.result.now c.depth_of-depth.result in
      let o : Opened (conj_on s) c.as_slice-choices.result.now c.as_slice-below.result.now s.counts = opened-on s c.args.refutation.now c.in-Open.conj c.in-Open.choices c.as_slice-choices.result.now c.in-Open.below c.as_slice-below.result.now c.in_ok-counts-in-Open.counts.items c.len.result c.in-Open.is c.as_slice-choices.ensures c.as_slice-below.ensures c.as_slice-rows.ensures c.as_slice-splinters.ensures.value c.in_ok-counts-in-Open.ensures c.len.ensures c.requires.names c.requires.refutes c.requires.within_2_to_120 in
      (open-long c.args.refutation.now c.in-Open.conj c.in-Open.choices c.in-Open.below c.as_slice-rows.result.now c.args.places.now c.in-Open.is c.as_slice-rows.ensures c.requires.long, (o.long, (o.made, (o.within_2_to_120, (o.fan.tries, (o.refuted, o.each_is_within_2_to_120)))))),
)

pub certify_at-choice_tree-requires-clause-long : goal.certify_at-choice_tree-requires-clause-long
certify_at-choice_tree-requires-clause-long t c = open-long c.args.refutation.now c.in-Open.conj c.in-Open.choices c.in-Open.below c.as_slice-rows.result.now c.args.places.now c.in-Open.is c.as_slice-rows.ensures c.requires.long

pub certify_at-choice_tree-requires-clause-counts : goal.certify_at-choice_tree-requires-clause-counts
certify_at-choice_tree-requires-clause-counts t c =
    let s : Stage = stage c.args.base c.args.names.now c.args.places.now c.as_slice-rows.result.now c.as_slice-splinters.result.now c.depth_of-depth.result in
    let o : Opened (conj_on s) c.as_slice-choices.result.now c.as_slice-below.result.now s.counts = opened-on s c.args.refutation.now c.in-Open.conj c.in-Open.choices c.as_slice-choices.result.now c.in-Open.below c.as_slice-below.result.now c.in_ok-counts-in-Open.counts.items c.len.result c.in-Open.is c.as_slice-choices.ensures c.as_slice-below.ensures c.as_slice-rows.ensures c.as_slice-splinters.ensures.value c.in_ok-counts-in-Open.ensures c.len.ensures c.requires.names c.requires.refutes c.requires.within_2_to_120 in
    o.long

pub certify_at-choice_tree-requires-clause-made : goal.certify_at-choice_tree-requires-clause-made
certify_at-choice_tree-requires-clause-made t c =
    let s : Stage = stage c.args.base c.args.names.now c.args.places.now c.as_slice-rows.result.now c.as_slice-splinters.result.now c.depth_of-depth.result in
    let o : Opened (conj_on s) c.as_slice-choices.result.now c.as_slice-below.result.now s.counts = opened-on s c.args.refutation.now c.in-Open.conj c.in-Open.choices c.as_slice-choices.result.now c.in-Open.below c.as_slice-below.result.now c.in_ok-counts-in-Open.counts.items c.len.result c.in-Open.is c.as_slice-choices.ensures c.as_slice-below.ensures c.as_slice-rows.ensures c.as_slice-splinters.ensures.value c.in_ok-counts-in-Open.ensures c.len.ensures c.requires.names c.requires.refutes c.requires.within_2_to_120 in
    o.made

pub certify_at-choice_tree-requires-clause-within_2_to_120 : goal.certify_at-choice_tree-requires-clause-within_2_to_120
certify_at-choice_tree-requires-clause-within_2_to_120 t c =
    let s : Stage = stage c.args.base c.args.names.now c.args.places.now c.as_slice-rows.result.now c.as_slice-splinters.result.now c.depth_of-depth.result in
    let o : Opened (conj_on s) c.as_slice-choices.result.now c.as_slice-below.result.now s.counts = opened-on s c.args.refutation.now c.in-Open.conj c.in-Open.choices c.as_slice-choices.result.now c.in-Open.below c.as_slice-below.result.now c.in_ok-counts-in-Open.counts.items c.len.result c.in-Open.is c.as_slice-choices.ensures c.as_slice-below.ensures c.as_slice-rows.ensures c.as_slice-splinters.ensures.value c.in_ok-counts-in-Open.ensures c.len.ensures c.requires.names c.requires.refutes c.requires.within_2_to_120 in
    o.within_2_to_120

pub certify_at-choice_tree-requires-clause-all : goal.certify_at-choice_tree-requires-clause-all
certify_at-choice_tree-requires-clause-all t c =
    let s : Stage = stage c.args.base c.args.names.now c.args.places.now c.as_slice-rows.result.now c.as_slice-splinters.result.now c.depth_of-depth.result in
    let o : Opened (conj_on s) c.as_slice-choices.result.now c.as_slice-below.result.now s.counts = opened-on s c.args.refutation.now c.in-Open.conj c.in-Open.choices c.as_slice-choices.result.now c.in-Open.below c.as_slice-below.result.now c.in_ok-counts-in-Open.counts.items c.len.result c.in-Open.is c.as_slice-choices.ensures c.as_slice-below.ensures c.as_slice-rows.ensures c.as_slice-splinters.ensures.value c.in_ok-counts-in-Open.ensures c.len.ensures c.requires.names c.requires.refutes c.requires.within_2_to_120 in
    o.fan.all

pub certify_at-returns-in_ok-trees-in-Open : goal.certify_at-returns-in_ok-trees-in-Open
certify_at-returns-in_ok-trees-in-Open t c =
    open-accepted (stage c.args.base c.args.names.now c.args.places.now c.as_slice-rows.result.now c.as_slice-splinters.result.now c.depth_of-depth.result) c.args.refutation.now c.in-Open.conj c.in-Open.choices c.in-Open.below c.choice_tree.result c.in-Open.is c.as_slice-rows.ensures c.choice_tree.ensures

pub certify_each-bounds-choices-j : goal.certify_each-bounds-choices-j
certify_each-bounds-choices-j t c = omega (arith, c.loop-j-test.true, refute-lengths (conj_on (seen c.args.stage.now)) c.args.choices.now c.args.below.now c.requires.refuted)

pub certify_each-branch_of-requires-clause-made : goal.certify_each-branch_of-requires-clause-made
certify_each-branch_of-requires-clause-made t c = c.requires.made

pub certify_each-branch_of-requires-clause-within_2_to_120 : goal.certify_each-branch_of-requires-clause-within_2_to_120
certify_each-branch_of-requires-clause-within_2_to_120 t c =
    let l = c.loop-j-test.true in
    modest-at c.args.stage.now.rows.now c.args.choices.now c.loop-j.j _ c.requires.within_2_to_120 (omega (arith, l, refute-lengths (conj_on (seen c.args.stage.now)) c.args.choices.now c.args.below.now c.requires.refuted)) (choice-own (conj_on (seen c.args.stage.now)) c.args.choices.now c.args.below.now c.loop-j.j c.requires.refuted l)

pub certify_each-branch_of-requires-clause-tried : goal.certify_each-branch_of-requires-clause-tried
certify_each-branch_of-requires-clause-tried t c =
    let l = c.loop-j-test.true in
    try-at (length c.args.stage.now.names.now) c.args.stage.now.rows.now c.args.stage.now.counts.now c.args.choices.now c.loop-j.j _ c.requires.tries (omega (arith, l, refute-lengths (conj_on (seen c.args.stage.now)) c.args.choices.now c.args.below.now c.requires.refuted)) (choice-own (conj_on (seen c.args.stage.now)) c.args.choices.now c.args.below.now c.loop-j.j c.requires.refuted l)

pub certify_each-branch_of-requires-clause-fits : goal.certify_each-branch_of-requires-clause-fits
certify_each-branch_of-requires-clause-fits t c =
    choice-fits (conj_on (seen c.args.stage.now)) c.args.choices.now c.args.below.now c.loop-j.j _ c.requires.refuted c.loop-j-test.true (choice-own (conj_on (seen c.args.stage.now)) c.args.choices.now c.args.below.now c.loop-j.j c.requires.refuted c.loop-j-test.true)

pub certify_each-beneath-requires : goal.certify_each-beneath-requires
certify_each-beneath-requires t c = (
  search (rules, the_lemmas),
  let l = c.loop-j-test.true in
      let s : Stage = seen c.args.stage.now in
      let x : Chosen (conj_on (seen c.args.stage.now)) (get_or c.args.choices.now c.loop-j.j (Drop 0)) c.index-below-j.result c.args.stage.now.counts.now =
      chosen (conj_on (seen c.args.stage.now)) c.args.choices.now c.args.below.now c.args.stage.now.counts.now c.loop-j.j (get_or c.args.choices.now c.loop-j.j (Drop 0)) c.index-below-j.result c.requires.within_2_to_120 c.requires.tries c.requires.refuted c.requires.below l (choice-own (conj_on (seen c.args.stage.now)) c.args.choices.now c.args.below.now c.loop-j.j c.requires.refuted l) c.index-below-j.is in
      let r : Ready c.in_ok-branch.branch c.index-below-j.result = ready s (conj_on (seen c.args.stage.now)) (get_or c.args.choices.now c.loop-j.j (Drop 0)) c.index-below-j.result c.in_ok-branch.branch refl refl x c.in_ok-branch.ensures in
      let i : IsBranch s (get_or c.args.choices.now c.loop-j.j (Drop 0)) c.in_ok-branch.branch = c.in_ok-branch.ensures in
      (i.long, (r.names, (r.made, (r.fits, (i.up_to_2_to_122, (r.normal, (x.refutes, x.is_within_2_to_120))))))),
)

pub certify_each-loop-j-preserved : goal.certify_each-loop-j-preserved
certify_each-loop-j-preserved t c =
    let l = c.loop-j-test.true in
    let s : Stage = seen c.args.stage.now in
    let h : Choice = get_or c.args.choices.now c.loop-j.j (Drop 0) in
    let own = choice-own (conj_on (seen c.args.stage.now)) c.args.choices.now c.args.below.now c.loop-j.j c.requires.refuted l in
    record {
      served = rw c.in_ok-push.ensures.items
          (served-more s c.args.choices.now c.loop-j.trees.items h c.in_ok-tree.tree c.loop-j.invariant.served (omega (arith, l, c.loop-j.invariant.long, refute-lengths (conj_on (seen c.args.stage.now)) c.args.choices.now c.args.below.now c.requires.refuted)) (rw c.loop-j.invariant.long own)
          (serves s h c.in_ok-branch.branch c.in_ok-tree.tree c.in_ok-branch.ensures c.in_ok-tree.ensures));
      long = ap length c.in_ok-push.ensures.items ∙ length-append c.loop-j.trees.items (c.in_ok-tree.tree ∷ []) ∙ ap (λ (n : ℕ). n + 1) c.loop-j.invariant.long;
    }

pub certify_each-returns-clause-served : goal.certify_each-returns-clause-served
certify_each-returns-clause-served t c = c.loop-j.invariant.served

pub certify_each-returns-clause-each : goal.certify_each-returns-clause-each
certify_each-returns-clause-each t c = omega (arith, c.loop-j.invariant.long, refute-lengths (conj_on (seen c.args.stage.now)) c.args.choices.now c.args.below.now c.requires.refuted)

pub beneath-returns : goal.beneath-returns
beneath-returns t c =
    behind c.args.branch c.show_normal_form.new.self c.base.result c.deref.result.now c.deref-2.result.now c.in_ok-below.below c.as_slice-normal.result.now c.args.child.now c.in_ok-tree.tree c.behind_steps.result c.deref.ensures.value c.deref-2.ensures.value (c.as_slice-normal.ensures ∙ ap (λ (d : Conj). d.rows) c.conj.ensures) c.base.ensures
    c.in_ok-below.ensures.settles c.in_ok-tree.ensures c.behind_steps.ensures.accepted
