-- Which programs are lowered, and what is named of the others: the first assignment in the text that has more than 16
-- pieces, or for which some number leaves `i128`.
use Rattle.std.specs.Prelude.{ℕ, suc, ◌+◌, ◌<◌, ◌≤◌, ◌≡◌, ◌⊎◌, List, [], ◌∷◌, length, Result, Ok, Err}
use Rattle.ac_syntax.specs.LoopNests.{loop_count, loop_count_in}
use Rattle.ac_syntax.specs.declared.tree.Place.{Place}
use Rattle.ac_syntax.specs.declared.tree.Stmt.{Stmt, Row_of-Stmt, end_of-Stmt, more_of-Stmt}
use Rattle.ac_syntax.specs.declared.tree.Stmt.TheVariants.{For', If', Assign}
use Rattle.ac_poly_quotients.specs.QuotientScopes.{in_loop, where_holds, where_fails}
use Rattle.ac_poly_quotients.specs.ScopeRange.{CanHold, CanFail, CanEnter}
use Rattle.ac_poly_quotients.specs.declared.types.Scope.{Scope}
use Rattle.ac_poly.specs.LoweringRange.{CanAssign}
use Rattle.ac_poly.specs.declared.types.LowerFault.{LowerFault}
use Rattle.ac_poly.specs.declared.types.LowerFault.TheVariants.{Pieces, Wide, Memory}

-- each assignment has at most 16 pieces, and its numbers and those of what is around it stay in `i128`; `fit` says so of
-- what is around the statement
unfoldable mutual
  pub IsLowerable : Stmt → ℕ → Scope → Type 0 → Type 0
  IsLowerable (For' iter start cond step n body place) loop sc fit = IsLowerableIn body (suc loop) (in_loop sc loop start cond step) (fit × CanEnter sc loop start cond step)
  IsLowerable (If' cond n taken m other place) loop sc fit =
      IsLowerableIn taken loop (where_holds sc cond) (fit × CanHold sc cond) × IsLowerableIn other (loop + loop_count_in taken) (where_fails sc cond) (fit × CanFail sc cond)
  IsLowerable (Assign array subs value place) loop sc fit = (length sc.pieces ≤ 16) × fit × CanAssign sc subs value

  pub IsLowerableIn : {m : _} → Row_of-Stmt m → ℕ → Scope → Type 0 → Type 0
  IsLowerableIn end_of-Stmt loop sc fit = Unit {0}
  IsLowerableIn (more_of-Stmt s rest) loop sc fit = IsLowerable s loop sc fit × IsLowerableIn rest (loop + loop_count s) sc fit

-- what is named of an assignment: too many pieces first, else a number that does not fit
abbrev pub Names : Place → Scope → Type 0 → LowerFault → Type 0
Names place sc fit (Pieces p) = (p ≡ place) × (16 < length sc.pieces)
Names place sc fit (Wide p) = (p ≡ place) × (length sc.pieces ≤ 16) × (¬ fit)
Names place sc fit (Memory e) = ⊥

-- the first assignment that is not fine
unfoldable mutual
  pub IsFirst : Stmt → ℕ → Scope → Type 0 → LowerFault → Type 0
  IsFirst (For' iter start cond step n body place) loop sc fit f = IsFirstIn body (suc loop) (in_loop sc loop start cond step) (fit × CanEnter sc loop start cond step) f
  IsFirst (If' cond n taken m other place) loop sc fit f =
      IsFirstIn taken loop (where_holds sc cond) (fit × CanHold sc cond) f
      ⊎ (IsLowerableIn taken loop (where_holds sc cond) (fit × CanHold sc cond) × IsFirstIn other (loop + loop_count_in taken) (where_fails sc cond) (fit × CanFail sc cond) f)
  IsFirst (Assign array subs value place) loop sc fit f = Names place sc (fit × CanAssign sc subs value) f

  pub IsFirstIn : {m : _} → Row_of-Stmt m → ℕ → Scope → Type 0 → LowerFault → Type 0
  IsFirstIn end_of-Stmt loop sc fit f = ⊥
  IsFirstIn (more_of-Stmt s rest) loop sc fit f = IsFirst s loop sc fit f ⊎ (IsLowerable s loop sc fit × IsFirstIn rest (loop + loop_count s) sc fit f)

-- the same at several statements
abbrev pub AreLowerable : List Stmt → ℕ → Scope → Type 0 → Type 0
AreLowerable [] loop sc fit = Unit {0}
AreLowerable (s ∷ ss) loop sc fit = IsLowerable s loop sc fit × AreLowerable ss (loop + loop_count s) sc fit

abbrev pub IsFirstAll : List Stmt → ℕ → Scope → Type 0 → LowerFault → Type 0
IsFirstAll [] loop sc fit f = ⊥
IsFirstAll (s ∷ ss) loop sc fit f = IsFirst s loop sc fit f ⊎ (IsLowerable s loop sc fit × IsFirstAll ss (loop + loop_count s) sc fit f)

-- a value of which Q holds, or a fault of which F holds; want of memory may come at any time
abbrev pub Answers : {T : Type 0} → Result T LowerFault → (T → Type 0) → (LowerFault → Type 0) → Type 0
Answers (Ok x) Q F = Q x
Answers (Err (Pieces p)) Q F = F (Pieces p)
Answers (Err (Wide p)) Q F = F (Wide p)
Answers (Err (Memory e)) Q F = Unit {0}
