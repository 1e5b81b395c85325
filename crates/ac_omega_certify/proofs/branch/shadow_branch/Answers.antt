use Rattle.std.proofs.Common.{◌≡◌, ◌++◌, ℕ, ◌+◌, List, length, subst, sym, ap, ◌∙◌, arith}
use Rattle.ac_omega_certify.specs.ChoiceBranches.{lift_count, raised_places}
use Rattle.ac_omega_certify.specs.Descents.{Carries, raised_rows}
use Rattle.ac_omega_certify.proofs.Branching.{carries-behind, stand-shadow}
use Rattle.ac_omega_certify.proofs.RaisedPlaces.{raised-length}
use Rattle.ac_omega_certify.proofs.branch.shadow_branch.Goals as goal

pub show_shadow-requires-clause-lows : goal.show_shadow-requires-clause-lows
show_shadow-requires-clause-lows c =
    ap length (c.as_slice.ensures.value ∙ c.in_ok-raised.ensures) ∙ raised-length c.args.z c.args.stage.now.rows.now c.args.stage.now.counts.now c.args.stage.now.places.now c.args.stage.now.base.rows c.requires.counts c.requires.long

pub returns : goal.returns
returns c = record {
  names = ap length c.in_ok-names.ensures.items;
  long = c.in_ok-standing.ensures.long;
  rows = c.in_ok-standing.ensures.rows;
  up_to_2_to_122 = c.in_ok-standing.ensures.up_to_2_to_122;
  carries = λ p d on is.
      let rows = c.args.stage.now.rows.now in
      let end : c.in-Some.end ≡ c.args.stage.now.base.rows + lift_count c.args.stage.now.counts.now = first_of (omega (arith, c.lift_count.ensures), omega (arith, c.lift_count.ensures, c.in-Some.ensures)) in
      let stand = stand-shadow c.args.stage.now.base p d c.args.stage.now.names.now rows c.args.stage.now.places.now c.args.stage.now.counts.now c.args.z c.in-Some.end c.requires.counts end on is in
      let raised = c.as_slice.ensures.value ∙ c.in_ok-raised.ensures in
      let old = carries-behind c.behind-tree_path.result _ d c.args.stage.now.names.now (rows ++ raised_rows c.args.z rows c.args.stage.now.counts.now) (c.args.stage.now.places.now ++ raised_places c.args.z rows c.args.stage.now.counts.now c.args.stage.now.places.now c.args.stage.now.base.rows) c.behind-tree_path.ensures.steps c.behind-tree_path.ensures.base stand in
      rw c.in_ok-names.ensures.items (c.in_ok-standing.ensures.carries d (subst (λ (ps : List ℕ). Carries c.behind-tree_path.result d c.args.stage.now.names.now (rows ++ raised_rows c.args.z rows c.args.stage.now.counts.now) (c.args.stage.now.places.now ++ ps)) (sym raised) old));
}
