-- What stands on the way to an assignment of a ready program fits, and so do its own expressions.
use Rattle.std.proofs.Common.{◌≡◌, inl, inr, ℕ, suc, ◌+◌, List, [], ◌∷◌, sym, arith, subst}
use Rattle.ac_syntax.specs.LoopNests.{loop_count, loop_count_in}
use Rattle.ac_syntax.specs.FittingForms.{FormsFit}
use Rattle.ac_syntax.specs.ReadyPrograms.{FitsValue, Ready, ReadyIn, ReadyAll}
use Rattle.ac_syntax.specs.Trace.{assignments, assignments_in}
use Rattle.ac_syntax.specs.declared.tree.Stmt.{Stmt, Row_of-Stmt, end_of-Stmt, more_of-Stmt}
use Rattle.ac_syntax.specs.declared.tree.Stmt.TheVariants.{For', If', Assign}
use Rattle.ac_poly_quotients.specs.LoopPaths.{depth_of, FitsPath}
use Rattle.ac_poly.proofs.OwnFits.{own_fit}
use Rattle.ac_poly.proofs.PathEnds.{End, end_quots, LeadsTo, LeadsToIn, LeadsToAll}

-- the way, and the expressions of the assignment inside all its loops
pub record FitsEnd (ps xs : ℕ) (w : End) : Type 0 where
  pub path : FitsPath ps xs w.path (end_quots w)
  pub subs : FormsFit ps (xs + depth_of w.path) w.subs
  pub value : FitsValue ps (xs + depth_of w.path) w.value

mutual
  unfolding LeadsTo Ready

  pub fits_end : (s : Stmt) (first loop ps xs k : ℕ) (w : End) → Ready ps xs s → LeadsTo s first loop k w → FitsEnd ps xs w
  fits_end (For' iter start cond step n body place) first loop ps xs k w r (u, i, l) =
      let a = fits_end_in body first (suc loop) ps (xs + 1) k u r.4 l in
      let d : xs + 1 + depth_of u.path ≡ xs + suc (depth_of u.path) = omega arith in
      subst (FitsEnd ps xs) (sym i)
      (record {
        path = (r.0, r.1, r.2, a.path);
        subs = subst (λ (n : ℕ). FormsFit ps n u.subs) d a.subs;
        value = subst (λ (n : ℕ). FitsValue ps n u.value) d a.value;
      })
  fits_end (If' cond n taken m other place) first loop ps xs k w r (inl (u, i, l)) =
      let a = fits_end_in taken first loop ps xs k u r.1 l in
      subst (FitsEnd ps xs) (sym i) (record { path = (r.0, a.path); subs = a.subs; value = a.value })
  fits_end (If' cond n taken m other place) first loop ps xs k w r (inr (u, i, l)) =
      let a = fits_end_in other (first + assignments_in taken) (loop + loop_count_in taken) ps xs k u r.2 l in
      subst (FitsEnd ps xs) (sym i) (record { path = (r.0, a.path); subs = a.subs; value = a.value })
  fits_end (Assign array subs value place) first loop ps xs k w r l =
      let d : xs ≡ xs + 0 = omega arith in
      subst (FitsEnd ps xs) (sym l.1)
      (record { path = own_fit ps xs subs value r.0 r.1; subs = subst (λ (n : ℕ). FormsFit ps n subs) d r.0; value = subst (λ (n : ℕ). FitsValue ps n value) d r.1 })

  pub fits_end_in : {m : _} (b : Row_of-Stmt m) (first loop ps xs k : ℕ) (w : End) → ReadyIn ps xs b → LeadsToIn b first loop k w → FitsEnd ps xs w
  fits_end_in end_of-Stmt first loop ps xs k w r l = absurd l
  fits_end_in (more_of-Stmt s rs) first loop ps xs k w r (inl l) = fits_end s first loop ps xs k w r.0 l
  fits_end_in (more_of-Stmt s rs) first loop ps xs k w r (inr l) = fits_end_in rs (first + assignments s) (loop + loop_count s) ps xs k w r.1 l

pub fits_end_all : (ss : List Stmt) (first loop ps xs k : ℕ) (w : End) → ReadyAll ps xs ss → LeadsToAll ss first loop k w → FitsEnd ps xs w
fits_end_all [] first loop ps xs k w r l = absurd l
fits_end_all (s ∷ ss) first loop ps xs k w r (inl l) = fits_end s first loop ps xs k w r.0 l
fits_end_all (s ∷ ss) first loop ps xs k w r (inr l) = fits_end_all ss (first + assignments s) (loop + loop_count s) ps xs k w r.1 l

pub fits_all : (ss : List Stmt) (first loop ps xs k : ℕ) (w : End) → ReadyAll ps xs ss → LeadsToAll ss first loop k w → FitsPath ps xs w.path (end_quots w)
fits_all ss first loop ps xs k w r l = (fits_end_all ss first loop ps xs k w r l).path
