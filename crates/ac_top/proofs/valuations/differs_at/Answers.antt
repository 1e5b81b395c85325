use Rattle.std.proofs.Common.{◌≡◌, length}
use Rattle.ac_top.proofs.Refuting.{ran_apart}
use Rattle.ac_top.proofs.valuations.differs_at.Goals as goal

pub returns-in-Different : goal.returns-in-Different
returns-in-Different c = λ output is e.
    let count : length c.args.at.now ≡ length c.args.pair.now.left.params = cc in
    ran_apart c.args.pair.now c.args.at.now output c.in-Ok.ran c.as_slice.result.now c.as_slice.ensures is c.requires count c.in-Ok.ensures.answer c.in-Different.ensures
