-- No point is in two pieces of an assignment.
use Rattle.std.proofs.Common.{ℕ, ℤ, List, [], ◌∷◌, length, sym, subst}
use Rattle.ac_forms.specs.PieceMembership.{IsInOneAtMost}
use Rattle.ac_forms.specs.Renaming.{picked}
use Rattle.ac_forms.specs.Rows.{Meets}
use Rattle.ac_forms.specs.declared.row.Row.{Row}
use Rattle.ac_syntax.specs.declared.tree.Cond.{Cond}
use Rattle.ac_syntax.specs.declared.tree.Program.{Program}
use Rattle.ac_syntax.specs.declared.tree.Quot.{Quot}
use Rattle.ac_poly_quotients.specs.FilledColumns.{counters}
use Rattle.ac_poly_quotients.specs.LastColumns.{places}
use Rattle.ac_poly_quotients.specs.LoopPaths.{Step, Enters, Taken, Other, scope_at}
use Rattle.ac_poly_quotients.specs.QuotientScopes.{outermost, in_loop, where_holds, where_fails}
use Rattle.ac_poly_quotients.specs.declared.types.Scope.{Scope}
use Rattle.ac_poly_quotients.proofs.NotedColumns.{grown_all}
use Rattle.ac_poly_quotients.proofs.PlacedPieces.{placed_once}
use Rattle.ac_poly_quotients.proofs.ScopePieces.{loop_once, holds_once, fails_once}
use Rattle.ac_poly.specs.Model.{model_of, PiecesAreApart}
use Rattle.ac_poly.specs.declared.types.StmtModel.{StmtModel}
use Rattle.ac_poly.proofs.LowerEnds.{end_at}
use Rattle.ac_poly.proofs.PathEnds.{End, end_quots, end_scope, end_model}

-- on a way the pieces stay apart
path_once : (sc : Scope) (ss : List Step) (qs : List Quot) (p : List ℤ) → IsInOneAtMost Meets sc.pieces p → IsInOneAtMost Meets (scope_at sc ss qs).pieces p
path_once sc [] qs p a = subst (λ (x : List (List Row)). IsInOneAtMost Meets x p) (sym (grown_all sc qs).pieces) a
path_once sc (Enters number start cond step ∷ ss) qs p a = path_once (in_loop sc number start cond step) ss qs p (loop_once sc number start cond step p a)
path_once sc (Taken cond ∷ ss) qs p a = path_once (where_holds sc cond) ss qs p (holds_once sc cond p a)
path_once sc (Other cond ∷ ss) qs p a = path_once (where_fails sc cond) ss qs p (fails_once sc cond p a)

-- and so do those among the last columns
model_once : (n : ℕ) (w : End) (p : List ℤ) → IsInOneAtMost Meets (end_model (outermost n) w).pieces p
model_once n w p =
    let c = end_scope (outermost n) w in
    placed_once c.params (counters c.columns) c.columns c.pieces p (path_once (outermost n) w.path (end_quots w) (picked (places c) p) ((λ m. tt), tt))

pub pieces_are_apart : (p : Program) (context : Cond) → PiecesAreApart (model_of p context)
pieces_are_apart p context number stmt q at =
    let e = end_at p.body (length p.params) number stmt at in
    subst (λ (x : StmtModel). IsInOneAtMost Meets x.pieces q) (sym e.2) (model_once (length p.params) e.0 q)
