use Rattle.std.proofs.Common.{◌+◌}
use Rattle.ac_port.proofs.Known.{left_after, sent_after}
use Rattle.ac_port.proofs.streams.write_whole.Goals as goal

pub loop-rest-preserved : goal.loop-rest-preserved
loop-rest-preserved g c =
    let so_far = c.loop-rest.invariant in
    let count = c.in_ok-count.count in (
      so_far.0 + count,
      left_after c.args.bytes.now c.loop-rest.rest.now so_far.0 count so_far.1,
      sent_after c.args.bytes.now c.loop-rest.rest.now so_far.0 count _ _ _ so_far.1 so_far.2 c.in_ok-count.ensures.bytes,
    )
