use Rattle.std.proofs.Common.{rules, ◌≡◌, ◌<◌, ◌-◌, length, false, arith, sym, ◌∙◌}
use Rattle.ac_assoc.specs.ChosenOrders.{is_right}
use Rattle.ac_assoc.proofs.Mixing.{read_start, read_left, read_end}
use Rattle.ac_assoc.proofs.mixed.chosen.Goals as goal

pub loop-at-init : goal.loop-at-init
loop-at-init c = record { value = read_start c.args.chains.now c.args.number c.new-made.result c.new-made.ensures; within = search rules }

pub loop-at-preserved : goal.loop-at-preserved
loop-at-preserved c =
    let l : c.loop-at.at - 1 < length c.args.chains.now = omega (arith, c.loop-at.invariant.within) in
    let r : is_right c.index-chains-at.result.side ≡ false = sym c.is_right.ensures ∙ c.if-is_right.false in
    record {
      value = read_left c.args.chains.now c.args.number c.loop-at.at (c.loop-at.at - 1) c.loop-at.rest c.loop-at.made c.index-chains-at.result c.loop-at.invariant.value (omega arith) l c.index-chains-at.is r;
      within = omega (arith, c.loop-at.invariant.within);
    }

pub returns : goal.returns
returns c = read_end _ _ c.loop-at.at _ _ c.loop-at.invariant.value (omega arith)
