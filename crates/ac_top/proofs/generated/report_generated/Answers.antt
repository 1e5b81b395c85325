use Rattle.std.proofs.Common.{pos}
use Rattle.ac_top.proofs.generated.report_generated.Goals as goal

pub report_pair-requires : goal.report_pair-requires
report_pair-requires c =
    let made = c.in_ok-made.ensures in
    record { pair = made.pair; models = made.models; paired = made.paired; small = made.small; ready = made.ready (pos 1000); within = made.within (pos 1000) 1000000 }
