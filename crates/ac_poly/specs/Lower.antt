-- How a program becomes integer points: what is around each statement, from the outside in, and what each assignment becomes.
use Rattle.std.specs.Prelude.{ℕ, suc, ◌+◌, List, [], ◌∷◌, ◌++◌, map}
use Rattle.ac_forms.specs.Affine.{Affine}
use Rattle.ac_forms.specs.Renaming.{renamed}
use Rattle.ac_syntax.specs.LoopNests.{loop_count, loop_count_in}
use Rattle.ac_syntax.specs.declared.tree.IndexExpr.{IndexExpr}
use Rattle.ac_syntax.specs.declared.tree.Value.{Value}
use Rattle.ac_syntax.specs.declared.tree.Stmt.{Stmt, Row_of-Stmt, end_of-Stmt, more_of-Stmt}
use Rattle.ac_syntax.specs.declared.tree.Stmt.TheVariants.{For', If', Assign}
use Rattle.ac_poly_quotients.specs.FilledColumns.{counters}
use Rattle.ac_poly_quotients.specs.LastColumns.{places, finals, placed_pieces}
use Rattle.ac_poly_quotients.specs.OwnQuotients.{own_quots}
use Rattle.ac_poly_quotients.specs.QuotientScopes.{outermost, with_quots, in_loop, where_holds, where_fails, lowered_in}
use Rattle.ac_poly_quotients.specs.declared.types.Scope.{Scope}
use Rattle.ac_poly.specs.ModelNodes.{nodes}
use Rattle.ac_poly.specs.declared.types.StmtModel.{StmtModel}

-- the scope of an assignment, in which its own quotients have columns
abbrev pub own_scope : Scope → List IndexExpr → Value → Scope
own_scope sc subs value = with_quots sc (own_quots subs value)

-- the form of an index expression behind the parameters, the counters and the quotients
abbrev pub last_form : Scope → IndexExpr → Affine
last_form c e = renamed (places c) (lowered_in c c.iters e)

-- an assignment, in its scope
abbrev pub model_in : Scope → ℕ → List IndexExpr → Value → StmtModel
model_in c array subs value = record {
  loops = c.loops;
  quots = finals (places c) c.columns;
  pieces = placed_pieces c.params (counters c.columns) c.columns c.pieces;
  array = array;
  subs = map (last_form c) subs;
  nodes = nodes (last_form c) value 0;
}

-- an assignment, in the scope around it
abbrev pub assigned : Scope → ℕ → List IndexExpr → Value → StmtModel
assigned sc array subs value = model_in (own_scope sc subs value) array subs value

-- the assignments of a statement in the order of the text; its loops are numbered from `loop` on
unfoldable mutual
  pub lower : Stmt → ℕ → Scope → List StmtModel
  lower (For' iter start cond step n body place) loop sc = lower_in body (suc loop) (in_loop sc loop start cond step)
  lower (If' cond n taken m other place) loop sc = lower_in taken loop (where_holds sc cond) ++ lower_in other (loop + loop_count_in taken) (where_fails sc cond)
  lower (Assign array subs value place) loop sc = assigned sc array subs value ∷ []

  pub lower_in : {m : _} → Row_of-Stmt m → ℕ → Scope → List StmtModel
  lower_in end_of-Stmt loop sc = []
  lower_in (more_of-Stmt s rest) loop sc = lower s loop sc ++ lower_in rest (loop + loop_count s) sc

-- the assignments of several statements
abbrev pub lower_all : List Stmt → ℕ → Scope → List StmtModel
lower_all [] loop sc = []
lower_all (s ∷ ss) loop sc = lower s loop sc ++ lower_all ss (loop + loop_count s) sc

-- the assignments of a program's body over so many parameters
abbrev pub lowered_body : ℕ → List Stmt → List StmtModel
lowered_body params body = lower_all body 0 (outermost params)
