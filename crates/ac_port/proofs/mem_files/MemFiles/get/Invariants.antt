use Rattle.std.proofs.Common.{◌≡◌, map}
use Rattle.std.specs.Ordering.{nat_cmp}
use Rattle.std.specs.Cmp.Lexicographic.{slice_cmp}
use Rattle.std.specs.FinMap.{get, find}
use Rattle.std.specs.VecDeque.Iter.{deque_iter_rest}
use Rattle.ac_port.specs.Log.{named_bytes}
use Rattle.ac_port.proofs.mem_files.MemFiles.get.Given as goal

abbrev pub invariant-loop-entry : goal.invariant-loop-entry
invariant-loop-entry l = get l.self.contents l.name ≡ find (slice_cmp nat_cmp) l.name (map named_bytes (deque_iter_rest l.entry-iterator))
