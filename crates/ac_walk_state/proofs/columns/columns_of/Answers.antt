use Rattle.std.proofs.Common.{◌≡◌, ◌+◌, rules}
use Rattle.ac_claims_paths.specs.ModelCalls.{pairing}
use Rattle.ac_widen_programs.specs.PairSetting.{coordinate_count}
use Rattle.ac_walk_state.proofs.Widths.{columns_are}
use Rattle.ac_walk_state.proofs.columns.columns_of.Goals as goal

pub returns : goal.returns
returns c =
    let g = pairing c.args.programs.now in
    let b : c.in_ok-behind.behind ≡ coordinate_count g.left c.args.left.now + coordinate_count g.right c.args.right.now = search rules in
    let a : c.in_ok-columns.columns ≡ g.left.params + c.in_ok-behind.behind = search rules in
    λ pair e. columns_are pair g c.args.left.now c.args.right.now c.in_ok-behind.behind c.in_ok-columns.columns e b a
