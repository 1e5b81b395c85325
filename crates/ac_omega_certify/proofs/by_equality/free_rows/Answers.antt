use Rattle.std.proofs.Common.{◌≤◌, length, arith}
use Rattle.ac_omega_certify.proofs.FreeRows.{free-more, free-rows, rows_without-calm}
use Rattle.ac_omega_certify.proofs.Moderate.{modest-calm}
use Rattle.ac_omega_certify.proofs.by_equality.free_rows.Goals as goal

pub loop-i-preserved : goal.loop-i-preserved
loop-i-preserved c =
    free-more c.args.z c.loop-i.i c.args.rows.now c.args.places.now c.loop-i.kept.rows.items c.loop-i.kept.places.items c.index-rows-i.result c.keep_free.new.kept.rows.items c.keep_free.new.kept.places.items
    c.loop-i.invariant (omega arith) c.index-rows-i.is c.in_ok-keep_free.ensures.rows c.in_ok-keep_free.ensures.long c.in_ok-keep_free.ensures.stand

pub returns-clause-up_to_2_to_122 : goal.returns-clause-up_to_2_to_122
returns-clause-up_to_2_to_122 c =
    let past : length c.args.rows.now ≤ c.loop-i.i = omega arith in
    rw (free-rows c.args.z c.loop-i.i c.args.rows.now c.args.places.now c.loop-i.kept.rows.items c.loop-i.kept.places.items c.loop-i.invariant past)
    (rows_without-calm c.args.z c.args.rows.now (modest-calm c.args.rows.now c.requires.within_2_to_120 c.requires.moduli))
