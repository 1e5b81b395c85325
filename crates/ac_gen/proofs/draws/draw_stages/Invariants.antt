use Rattle.std.proofs.Common.{◌≡◌, ◌++◌, ◌-◌}
use Rattle.ac_gen.specs.Draws.{stages}
use Rattle.ac_gen.proofs.draws.draw_stages.Given as goal

abbrev pub invariant-loop-turn : goal.invariant-loop-turn
invariant-loop-turn l = l.drawn.items ++ stages l.state (l.fn.count - l._turn) ≡ stages l.fn.seed l.fn.count
