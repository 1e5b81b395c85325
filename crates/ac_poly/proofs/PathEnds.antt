-- The way to the assignment with a number, as a relation by cases on the text.
use Rattle.std.specs.Prelude.{ℕ, suc, ◌+◌, ◌≡◌, ◌⊎◌, List, [], ◌∷◌}
use Rattle.ac_syntax.specs.LoopNests.{loop_count, loop_count_in}
use Rattle.ac_syntax.specs.Trace.{assignments, assignments_in}
use Rattle.ac_syntax.specs.declared.tree.IndexExpr.{IndexExpr}
use Rattle.ac_syntax.specs.declared.tree.Quot.{Quot}
use Rattle.ac_syntax.specs.declared.tree.Value.{Value}
use Rattle.ac_syntax.specs.declared.tree.Stmt.{Stmt, Row_of-Stmt, end_of-Stmt, more_of-Stmt}
use Rattle.ac_syntax.specs.declared.tree.Stmt.TheVariants.{For', If', Assign}
use Rattle.ac_poly_quotients.specs.LoopPaths.{Step, Enters, Taken, Other, scope_at}
use Rattle.ac_poly_quotients.specs.OwnQuotients.{own_quots}
use Rattle.ac_poly_quotients.specs.declared.types.Scope.{Scope}
use Rattle.ac_poly.specs.Lower.{model_in}
use Rattle.ac_poly.specs.declared.types.StmtModel.{StmtModel}

-- an assignment, and the way to it from the outside in
pub record End : Type 0 where
  pub path : List Step
  pub array : ℕ
  pub subs : List IndexExpr
  pub value : Value

abbrev pub behind : Step → End → End
behind s w = record w { path = s ∷ w.path }

abbrev pub end_quots : End → List Quot
end_quots w = own_quots w.subs w.value

-- its scope and its model, where the way starts in a scope
abbrev pub end_scope : Scope → End → Scope
end_scope sc w = scope_at sc w.path (end_quots w)

abbrev pub end_model : Scope → End → StmtModel
end_model sc w = model_in (end_scope sc w) w.array w.subs w.value

-- the assignment k, where assignments are numbered from `first` and loops from `loop`
unfoldable mutual
  pub LeadsTo : Stmt → ℕ → ℕ → ℕ → End → Type 0
  LeadsTo (For' iter start cond step n body place) first loop k w = (u : End) × (w ≡ behind (Enters loop start cond step) u) × LeadsToIn body first (suc loop) k u
  LeadsTo (If' cond n taken m other place) first loop k w =
      ((u : End) × (w ≡ behind (Taken cond) u) × LeadsToIn taken first loop k u)
      ⊎ ((u : End) × (w ≡ behind (Other cond) u) × LeadsToIn other (first + assignments_in taken) (loop + loop_count_in taken) k u)
  LeadsTo (Assign array subs value place) first loop k w = (k ≡ first) × (w ≡ record { path = []; array = array; subs = subs; value = value })

  pub LeadsToIn : {m : _} → Row_of-Stmt m → ℕ → ℕ → ℕ → End → Type 0
  LeadsToIn end_of-Stmt first loop k w = ⊥
  LeadsToIn (more_of-Stmt s rest) first loop k w = LeadsTo s first loop k w ⊎ LeadsToIn rest (first + assignments s) (loop + loop_count s) k w

abbrev pub LeadsToAll : List Stmt → ℕ → ℕ → ℕ → End → Type 0
LeadsToAll [] first loop k w = ⊥
LeadsToAll (s ∷ ss) first loop k w = LeadsTo s first loop k w ⊎ LeadsToAll ss (first + assignments s) (loop + loop_count s) k w
