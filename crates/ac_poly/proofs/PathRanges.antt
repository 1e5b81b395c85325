-- Which numbers the assignments of a statement have: those of its ways, and those of its entries.
use Rattle.std.proofs.Common.{◌≡◌, inl, inr, ℕ, suc, ◌+◌, ◌<◌, ◌≤◌, List, [], ◌∷◌, ap, arith, ℤ}
use Rattle.ac_syntax.specs.Index.{Point}
use Rattle.ac_syntax.specs.Instance.{IsInstance, IsInstanceIn, IsInstanceAmong}
use Rattle.ac_syntax.specs.LoopNests.{loop_count, loop_count_in}
use Rattle.ac_syntax.specs.Trace.{Entry, assignments, assignments_in}
use Rattle.ac_syntax.specs.declared.tree.Stmt.{Stmt, Row_of-Stmt, end_of-Stmt, more_of-Stmt}
use Rattle.ac_syntax.specs.declared.tree.Stmt.TheVariants.{For', If', Assign}
use Rattle.ac_poly.proofs.PathEnds.{End, LeadsTo, LeadsToIn, LeadsToAll}

mutual
  unfolding LeadsTo assignments

  pub end_range : (s : Stmt) (first loop k : ℕ) (w : End) → LeadsTo s first loop k w → (first ≤ k) × (k < first + assignments s)
  end_range (For' iter start cond step n body place) first loop k w l = end_range_in body first (suc loop) k l.0 l.2
  end_range (If' cond n taken m other place) first loop k w (inl l) = let r = end_range_in taken first loop k l.0 l.2 in (r.0, omega arith)
  end_range (If' cond n taken m other place) first loop k w (inr l) =
      let r = end_range_in other (first + assignments_in taken) (loop + loop_count_in taken) k l.0 l.2 in (omega arith, omega arith)
  end_range (Assign array subs value place) first loop k w l = (omega (arith, l.0), omega (arith, l.0))

  pub end_range_in : {m : _} (b : Row_of-Stmt m) (first loop k : ℕ) (w : End) → LeadsToIn b first loop k w → (first ≤ k) × (k < first + assignments_in b)
  end_range_in end_of-Stmt first loop k w l = absurd l
  end_range_in (more_of-Stmt s rest) first loop k w (inl l) = let r = end_range s first loop k w l in (r.0, omega arith)
  end_range_in (more_of-Stmt s rest) first loop k w (inr l) = let r = end_range_in rest (first + assignments s) (loop + loop_count s) k w l in (omega arith, omega arith)

mutual
  unfolding IsInstance assignments

  pub instance_range : (s : Stmt) (first : ℕ) (p : Point) (zs : List ℤ) (e : Entry) → IsInstance s first p zs e → (first ≤ e.stmt) × (e.stmt < first + assignments s)
  instance_range (For' iter start cond step n body place) first p zs e (k, h, i) = instance_range_in body first _ _ e i
  instance_range (If' cond n taken m other place) first p zs e (inl (b, i)) = let r = instance_range_in taken first p zs e i in (r.0, omega arith)
  instance_range (If' cond n taken m other place) first p zs e (inr (b, i)) = let r = instance_range_in other (first + assignments_in taken) p zs e i in (omega arith, omega arith)
  instance_range (Assign array subs value place) first p zs e i = let q : e.stmt ≡ first = ap (λ (e : Entry). e.stmt) i in (omega arith, omega arith)

  pub instance_range_in : {m : _} (b : Row_of-Stmt m) (first : ℕ) (p : Point) (zs : List ℤ) (e : Entry) → IsInstanceIn b first p zs e → (first ≤ e.stmt) × (e.stmt < first + assignments_in b)
  instance_range_in end_of-Stmt first p zs e i = absurd i
  instance_range_in (more_of-Stmt s rest) first p zs e (inl i) = let r = instance_range s first p zs e i in (r.0, omega arith)
  instance_range_in (more_of-Stmt s rest) first p zs e (inr i) = let r = instance_range_in rest (first + assignments s) p zs e i in (omega arith, omega arith)

-- in a list nothing comes before the first
pub end_after : (ss : List Stmt) (first loop k : ℕ) (w : End) → LeadsToAll ss first loop k w → first ≤ k
end_after [] first loop k w l = absurd l
end_after (s ∷ ss) first loop k w (inl l) = (end_range s first loop k w l).0
end_after (s ∷ ss) first loop k w (inr l) = omega (arith, end_after ss (first + assignments s) (loop + loop_count s) k w l)

pub instance_after : (ss : List Stmt) (first : ℕ) (p : Point) (zs : List ℤ) (e : Entry) → IsInstanceAmong ss first p zs e → first ≤ e.stmt
instance_after [] first p zs e i = absurd i
instance_after (s ∷ ss) first p zs e (inl i) = (instance_range s first p zs e i).0
instance_after (s ∷ ss) first p zs e (inr i) = omega (arith, instance_after ss (first + assignments s) p zs e i)
