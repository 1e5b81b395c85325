use Rattle.std.proofs.Common.{List, subst, sym}
use Rattle.std.proofs.lemmas.List.{take_all}
use Rattle.ac_syntax.specs.declared.tree.Position.{Position}
use Rattle.ac_walk_state.specs.FreshRecurrencePairs.{HaveWideningPoints}
use Rattle.ac_walk_state.proofs.LastItems.{next_item, reread}
use Rattle.ac_walk_state.proofs.Making.{fresh_known}
use Rattle.ac_walk_state.proofs.known.Known.new.Goals as goal

pub loop-pair-preserved : goal.loop-pair-preserved
loop-pair-preserved c =
    let l = c.loop-pair-test.true in
    subst (λ (ps : List (Position × Position)). HaveWideningPoints c.args.programs.now ps c.with_widening_point.new.widening_points.items) (sym (next_item c.args.pairs.now c.loop-pair.pair-index _ l (reread c.args.pairs.now c.loop-pair.pair-index _ l))) (c.in_ok-with_widening_point.ensures _ c.loop-pair.invariant)

pub returns-clause-pairs : goal.returns-clause-pairs
returns-clause-pairs c =
    let h = subst (λ (ps : List (Position × Position)). HaveWideningPoints c.args.programs.now ps c.loop-pair.widening_points.items) (take_all c.loop-pair.pair-index c.args.pairs.now c.loop-pair-test.false) c.loop-pair.invariant in
    λ widening_point. h.all widening_point

pub returns-clause-known : goal.returns-clause-known
returns-clause-known c =
    let h = subst (λ (ps : List (Position × Position)). HaveWideningPoints c.args.programs.now ps c.loop-pair.widening_points.items) (take_all c.loop-pair.pair-index c.args.pairs.now c.loop-pair-test.false) c.loop-pair.invariant in
    λ pair t same. fresh_known c.args.programs.now c.args.pairs.now (record { widening_points = c.loop-pair.widening_points; entries = c.new.result }) h c.new.ensures pair t same
