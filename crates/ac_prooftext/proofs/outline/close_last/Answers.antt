use Rattle.std.proofs.Common.{rules, ◌≡◌, ◌<◌, ◌-◌, suc, length, slice_index_or, sym, ◌∙◌, arith}
use Rattle.ac_prooftext.proofs.Counts.{counted}
use Rattle.ac_prooftext.proofs.outline.close_last.Goals as goal

pub returns-then-count-gt1 : goal.returns-then-count-gt1
returns-then-count-gt1 c =
    sym c.loop-left.invariant
    ∙ counted c.loop-left.left.items (c.len-at.result - 1) c.index-count.result.now (search rules) c.index-count.ensures c.if-count-gt1.true
