use Rattle.std.proofs.Common.{◌≡◌, ℕ, ◌+◌, length, set, rules, subst, ap, ◌∙◌, arith}
use Rattle.std.proofs.lemmas.List.{length-set}
use Rattle.ac_base.proofs.Bits.{again_128}
use Rattle.ac_omega_certify.specs.Descents.{Carries}
use Rattle.ac_omega_certify.specs.declared.descent.Base.{Base}
use Rattle.ac_omega_certify.proofs.Branching.{carries-behind, stand-class}
use Rattle.ac_omega_certify.proofs.ShownFor.{stand-same}
use Rattle.ac_omega_certify.proofs.branch.residue_branch.Goals as goal

pub returns : goal.returns
returns c = record {
  names = length-set c.in_ok-names.names.items c.args.z _ ∙ ap length c.in_ok-names.ensures.items;
  long = c.in_ok-standing.ensures.long;
  rows = stand-same (length c.args.stage.now.names.now) _ _ (rw (again_128 c.args.m c.ranges.m, again_128 c.args.r c.ranges.r) at c.in_ok-standing.ensures.rows);
  up_to_2_to_122 = c.in_ok-standing.ensures.up_to_2_to_122;
  carries = λ p d on is.
      let next : c.in-Some.next ≡ c.args.stage.now.base.rows + 1 = first_of (omega arith, search rules) in
      let go = rw (again_128 c.args.m c.ranges.m, again_128 c.args.r c.ranges.r) at c.in_ok-standing.ensures.carries in
      let columns : c.behind-tree_path.result.columns ≡ c.args.stage.now.base.columns = ap (λ (b : Base). b.columns) c.behind-tree_path.ensures.base in
      let stand = go d (carries-behind c.behind-tree_path.result _ d _ _ _ c.behind-tree_path.ensures.steps c.behind-tree_path.ensures.base (stand-class c.args.stage.now.base p d c.args.stage.now.names.now c.args.stage.now.rows.now c.args.stage.now.places.now c.args.z c.in-Some.next c.args.m c.args.r next on is)) in
      rw c.in_ok-names.ensures.items (subst (λ (q : ℕ). Carries c.show_residue.new.self d (set c.args.stage.now.names.now c.args.z q) c.in_ok-standing.standing.rows.items c.in_ok-standing.standing.places.items) columns stand);
}
