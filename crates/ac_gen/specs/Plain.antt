-- Stages of which none is shifted.
use Rattle.ac_gen.specs.declared.draws.Stage.{Stage}

abbrev pub unshifted : Stage → Stage
unshifted t = record { function = t.function; reach = t.reach; shift = 0 }
