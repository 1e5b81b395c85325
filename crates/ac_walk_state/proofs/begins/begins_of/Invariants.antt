use Rattle.std.proofs.Common.{◌≡◌, length, take}
use Rattle.ac_walk_state.specs.BrokenPathStarts.{AtEach, BeginsOf}
use Rattle.ac_walk_state.proofs.begins.begins_of.Given as goal

abbrev pub invariant-loop-path : goal.invariant-loop-path
invariant-loop-path l = record { count : length l.begins ≡ l.path-index; each : AtEach (BeginsOf l.known l.from) (take l.path-index l.paths) l.begins }
