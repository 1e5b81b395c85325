use Rattle.std.proofs.Common.{◌≡◌, ◌+◌, ◌≤◌, ℕ, ℤ, List, drop, length}
use Rattle.std.specs.List.{flat_map, range_with_len}
use Rattle.ac_syntax.specs.Algebra.{Cell, run}
use Rattle.ac_syntax.specs.Index.{point}
use Rattle.ac_syntax.specs.ReadyPrograms.{ReadyAll}
use Rattle.ac_syntax.specs.Term.{Term, free}
use Rattle.ac_syntax.specs.Trace.{trace_all}
use Rattle.ac_syntax.specs.Turns.{Bounded, turns}
use Rattle.ac_syntax.proofs.Walking.{Walking}
use Rattle.ac_syntax.proofs.TurnEntries.{in_turn_of}
use Rattle.ac_instance.specs.Events.{in_all, in_loop}
use Rattle.ac_instance.specs.KeptIds.{leaf_in, Holds}
use Rattle.ac_instance.proofs.Happen.{Continues}
use Rattle.ac_instance.proofs.Turning.{turns_left}
use Rattle.ac_instance.proofs.state.Machine.+runs.Given as goal

abbrev pub invariant-repeat-loop-turn : goal.invariant-repeat-loop-turn
invariant-repeat-loop-turn l = record {
  walking : Walking (point l.scope.params.now l.iters) l.head.start.now l.head.cond.now l.head.step l.x l._turn;
  grows : Bounded (length l.iters) l.head.step l.head.cond.now → ReadyAll (length l.scope.params.now) (length l.iters + 1) l.body → l.fn.self.events + l._turn ≤ l.self.events;
  within : Bounded (length l.iters) l.head.step l.head.cond.now → l._turn ≤ turns (point l.scope.params.now l.iters) l.head.start.now l.head.cond.now l.head.step;
  steps : Bounded (length l.iters) l.head.step l.head.cond.now → ReadyAll (length l.scope.params.now) (length l.iters + 1) l.body
      → Continues l.fn.self (in_loop l.scope.side (λ q. in_all l.scope.side q l.body) (point l.scope.params.now l.iters) l.head.start.now l.head.cond.now l.head.step l.head.place)
      l.self (turns_left l.scope.side (λ q. in_all l.scope.side q l.body) (point l.scope.params.now l.iters) l.head.start.now l.head.cond.now l.head.step l.head.place l._turn);
  ran : Bounded (length l.iters) l.head.step l.head.cond.now → ReadyAll (length l.scope.params.now) (length l.iters + 1) l.body
      → (first : ℕ) (counters : List ℤ) (state : Cell → Term) → Holds l.fn.self.table l.fn.cells (leaf_in l.scope.side l.scope.arrays.now) state
      → Holds l.self.table l.cells (leaf_in l.scope.side l.scope.arrays.now) (run free (flat_map (in_turn_of l.body first (point l.scope.params.now l.iters) l.head.start.now l.head.step counters) (range_with_len 0 l._turn)) state);
}

abbrev pub invariant-run_all-loop-stmt : goal.invariant-run_all-loop-stmt
invariant-run_all-loop-stmt l = record {
  ready : ReadyAll (length l.scope.params.now) (length l.iters) l.stmts → ReadyAll (length l.scope.params.now) (length l.iters) (drop l.stmt-index l.stmts);
  steps : ReadyAll (length l.scope.params.now) (length l.iters) l.stmts
      → Continues l.fn.self (in_all l.scope.side (point l.scope.params.now l.iters) l.stmts) l.self (in_all l.scope.side (point l.scope.params.now l.iters) (drop l.stmt-index l.stmts));
  ran : ReadyAll (length l.scope.params.now) (length l.iters) l.stmts
      → (first : ℕ) (counters : List ℤ) (state : Cell → Term) → Holds l.fn.self.table l.fn.cells (leaf_in l.scope.side l.scope.arrays.now) state
      → (next : ℕ) × (now : Cell → Term) × Holds l.self.table l.cells (leaf_in l.scope.side l.scope.arrays.now) now
      × (run free (trace_all l.stmts first (point l.scope.params.now l.iters) counters) state ≡ run free (trace_all (drop l.stmt-index l.stmts) next (point l.scope.params.now l.iters) counters) now);
}
