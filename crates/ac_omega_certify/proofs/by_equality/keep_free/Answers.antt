use Rattle.ac_omega_certify.proofs.StandingLists.{stand-push}
use Rattle.ac_omega_certify.proofs.by_equality.keep_free.Goals as goal

pub returns-clause-stand : goal.returns-clause-stand
returns-clause-stand c = λ path names s h.
    rw (c.in_ok-keep.ensures.rows, c.in_ok-keep.ensures.places, c.in_ok-copy.ensures)
    (stand-push names path c.args.kept.now.rows.items c.args.kept.now.places.items c.args.row.now c.args.place h s)
