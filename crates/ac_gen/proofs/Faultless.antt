-- What is lowered has no first fault.
use Rattle.std.proofs.Common.{inl, inr, ℕ, suc, ◌+◌, ◌≤◌, List, [], ◌∷◌, length, arith}
use Rattle.ac_syntax.specs.LoopNests.{loop_count, loop_count_in}
use Rattle.ac_syntax.specs.declared.tree.Place.{Place}
use Rattle.ac_syntax.specs.declared.tree.Stmt.{Stmt, Row_of-Stmt, end_of-Stmt, more_of-Stmt}
use Rattle.ac_syntax.specs.declared.tree.Stmt.TheVariants.{For', If', Assign}
use Rattle.ac_poly.specs.LoweringFaults.{IsLowerable, IsLowerableIn, IsFirst, IsFirstIn, AreLowerable, IsFirstAll, Names}
use Rattle.ac_poly_quotients.specs.QuotientScopes.{in_loop, where_holds, where_fails}
use Rattle.ac_poly_quotients.specs.ScopeRange.{CanHold, CanFail, CanEnter}
use Rattle.ac_poly_quotients.specs.declared.types.Scope.{Scope}
use Rattle.ac_poly.specs.LoweringRange.{CanAssign}
use Rattle.ac_poly.specs.declared.types.LowerFault.{LowerFault}
use Rattle.ac_poly.specs.declared.types.LowerFault.TheVariants.{Pieces, Wide, Memory}

none_named : (place : Place) (sc : Scope) (fit : Type 0) (f : LowerFault) → length sc.pieces ≤ 16 → fit → Names place sc fit f → ⊥
none_named place sc fit (Pieces p) few h n = omega (arith, few, n.1)
none_named place sc fit (Wide p) few h n = n.2 h
none_named place sc fit (Memory e) few h n = n

mutual
  unfolding IsLowerable IsFirst

  none_first : (s : Stmt) (loop : ℕ) (sc : Scope) (fit : Type 0) (f : LowerFault) → IsLowerable s loop sc fit → IsFirst s loop sc fit f → ⊥
  none_first (For' iter start cond step k body place) loop sc fit f h n = none_first_in body (suc loop) (in_loop sc loop start cond step) (fit × CanEnter sc loop start cond step) f h n
  none_first (If' cond k taken m other place) loop sc fit f h (inl n) = none_first_in taken loop (where_holds sc cond) (fit × CanHold sc cond) f h.0 n
  none_first (If' cond k taken m other place) loop sc fit f h (inr n) = none_first_in other (loop + loop_count_in taken) (where_fails sc cond) (fit × CanFail sc cond) f h.1 n.1
  none_first (Assign array subs value place) loop sc fit f h n = none_named place sc (fit × CanAssign sc subs value) f h.0 (h.1, h.2) n

  none_first_in : {m : _} (b : Row_of-Stmt m) (loop : ℕ) (sc : Scope) (fit : Type 0) (f : LowerFault) → IsLowerableIn b loop sc fit → IsFirstIn b loop sc fit f → ⊥
  none_first_in end_of-Stmt loop sc fit f h n = n
  none_first_in (more_of-Stmt s rest) loop sc fit f h (inl n) = none_first s loop sc fit f h.0 n
  none_first_in (more_of-Stmt s rest) loop sc fit f h (inr n) = none_first_in rest (loop + loop_count s) sc fit f h.1 n.1

pub none_first_all : (ss : List Stmt) (loop : ℕ) (sc : Scope) (fit : Type 0) (f : LowerFault) → AreLowerable ss loop sc fit → IsFirstAll ss loop sc fit f → ⊥
none_first_all [] loop sc fit f h n = n
none_first_all (s ∷ ss) loop sc fit f h (inl n) = none_first s loop sc fit f h.0 n
none_first_all (s ∷ ss) loop sc fit f h (inr n) = none_first_all ss (loop + loop_count s) sc fit f h.1 n.1
