use Rattle.std.proofs.Common.{length, subst, sym, ap}
use Rattle.ac_omega_certify.specs.Descents.{StandOn}
use Rattle.ac_omega_certify.proofs.Branching.{carries-behind}
use Rattle.ac_omega_certify.proofs.ShownFor.{stand-same}
use Rattle.ac_omega_certify.proofs.branch.equal_branch.Goals as goal

pub returns : goal.returns
returns c = record {
  names = ap length c.in_ok-names.ensures.items;
  long = c.in_ok-standing.ensures.long;
  rows = stand-same (length c.args.stage.now.names.now) _ _ (c.in_ok-standing.ensures.rows);
  up_to_2_to_122 = c.in_ok-standing.ensures.up_to_2_to_122;
  carries = λ p d on is.
      let here : StandOn c.args.stage.now.base c.args.stage.now.names.now c.args.stage.now.rows.now c.args.stage.now.places.now d = subst (StandOn c.args.stage.now.base c.args.stage.now.names.now c.args.stage.now.rows.now c.args.stage.now.places.now) (sym is) on in
      rw c.in_ok-names.ensures.items (c.in_ok-standing.ensures.carries d (carries-behind c.behind-tree_path.result c.args.stage.now.base d _ _ _ c.behind-tree_path.ensures.steps c.behind-tree_path.ensures.base here));
}
