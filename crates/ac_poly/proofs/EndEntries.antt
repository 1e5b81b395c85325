-- The entries of an assignment are the counters by which its end is reached.
use Rattle.std.proofs.Common.{◌≡◌, inl, inr, ℕ, suc, ◌+◌, ◌<◌, List, [], ◌∷◌, ◌++◌, length, true, false, refl, sym, ap, ◌∙◌, arith, ℤ, pos, negsuc, ◌+ℤ◌, ◌*ℤ◌, ◌≤ℤ◌, subst, length-append, append_assoc, append-nil}
use Rattle.std.specs.List.{AllByRecursion}
use Rattle.std.proofs.Math.IntN.{*ℤ-zero}
use Rattle.std.proofs.lemmas.Int.{ints}
use Rattle.ac_syntax.specs.Index.{Point, index_value, holds}
use Rattle.ac_syntax.specs.Instance.{IsInstance, IsInstanceIn, IsInstanceAmong}
use Rattle.ac_syntax.specs.LoopNests.{loop_count, loop_count_in}
use Rattle.ac_syntax.specs.FittingForms.{FitTests}
use Rattle.ac_syntax.specs.ReadyPrograms.{Ready, ReadyIn, ReadyAll}
use Rattle.ac_syntax.specs.Trace.{Entry, assignments, assignments_in}
use Rattle.ac_syntax.specs.Turns.{inside, iterator_at, turns, Bounded, IsSteady}
use Rattle.ac_syntax.specs.declared.tree.Comparison.{Comparison}
use Rattle.ac_syntax.specs.declared.tree.Cond.{Cond}
use Rattle.ac_syntax.specs.declared.tree.IndexExpr.{IndexExpr}
use Rattle.ac_syntax.specs.declared.tree.Stmt.{Stmt, Row_of-Stmt, end_of-Stmt, more_of-Stmt}
use Rattle.ac_syntax.specs.declared.tree.Stmt.TheVariants.{For', If', Assign}
use Rattle.ac_syntax.proofs.TurnRows.{turn_rows, rows_turn}
use Rattle.ac_poly_quotients.specs.LoopPaths.{Step, Enters, Taken, Other, depth_of, point_at, Reaches}
use Rattle.ac_poly.proofs.PathEnds.{End, behind, LeadsTo, LeadsToIn, LeadsToAll}
use Rattle.ac_poly.proofs.PathRanges.{end_range, end_range_in, end_after, instance_range, instance_range_in, instance_after}

-- ---- the turns of a loop

iters_fit : (ps xs : ℕ) (cs : List Comparison) → FitTests ps xs cs → AllByRecursion (λ (c : Comparison). length c.form.iters ≡ xs) cs
iters_fit ps xs [] h = tt
iters_fit ps xs (c ∷ cs) h = (h.0.form.iters, iters_fit ps xs cs h.1)

at_first : (first step : ℤ) → iterator_at first step 0 ≡ first
at_first first step = omega (arith, ints, *ℤ-zero step)

turn_holds : (p : Point) (start : IndexExpr) (cond : Cond) (step : ℤ) (k : ℕ) → k < turns p start cond step
    → (holds (inside p (index_value p start)) cond ≡ true) × (holds (inside p (iterator_at (index_value p start) step k)) cond ≡ true)
turn_holds p start cond step k h =
    let w = rows_turn p start cond step k h in
    (sym (ap (λ z. holds (inside p z) cond) (at_first (index_value p start) step)) ∙ w.0, w.1)

turn_from : (ps : ℕ) (p : Point) (start : IndexExpr) (cond : Cond) (step : ℤ) (k : ℕ) → FitTests ps (length p.iters + 1) cond.parts → AllByRecursion (IsSteady (length p.iters)) cond.parts → Bounded (length p.iters) step cond
    → holds (inside p (index_value p start)) cond ≡ true → holds (inside p (iterator_at (index_value p start) step k)) cond ≡ true → k < turns p start cond step
turn_from ps p start cond step k c s b h i =
    turn_rows p start cond step b (iters_fit ps (length p.iters + 1) cond.parts c) s k
    (ap (λ z. holds (inside p z) cond) (at_first (index_value p start) step) ∙ h) i

-- ---- from an entry to its counters

-- an entry is that of the end of a way, whose counters are behind zs
pub record Arrives (p : Point) (zs : List ℤ) (w : End) (e : Entry) : Type 0 where
  pub rest : List ℤ
  pub counters : e.counters ≡ zs ++ rest
  pub reaches : Reaches p w.path rest
  pub point : e.point ≡ point_at p w.path rest
  pub array : e.array ≡ w.array
  pub subs : e.subs ≡ w.subs
  pub value : e.value ≡ w.value

arrives_loop : (p : Point) (zs : List ℤ) (u : End) (e : Entry) (number : ℕ) (start : IndexExpr) (cond : Cond) (step : ℤ) (t : ℕ) → t < turns p start cond step
    → Arrives (inside p (index_value p start +ℤ (step *ℤ pos t))) (zs ++ pos t ∷ []) u e → Arrives p zs (behind (Enters number start cond step) u) e
arrives_loop p zs u e number start cond step t lt a =
    let w = turn_holds p start cond step t lt in
    record {
      rest = pos t ∷ a.rest;
      counters = a.counters ∙ append_assoc zs (pos t ∷ []) a.rest;
      reaches = (omega (arith, ints), w.0, w.1, a.reaches);
      point = a.point;
      array = a.array;
      subs = a.subs;
      value = a.value;
    }

arrives_taken : (p : Point) (zs : List ℤ) (u : End) (e : Entry) (cond : Cond) → holds p cond ≡ true → Arrives p zs u e → Arrives p zs (behind (Taken cond) u) e
arrives_taken p zs u e cond h a = record { rest = a.rest; counters = a.counters; reaches = (h, a.reaches); point = a.point; array = a.array; subs = a.subs; value = a.value }

arrives_other : (p : Point) (zs : List ℤ) (u : End) (e : Entry) (cond : Cond) → holds p cond ≡ false → Arrives p zs u e → Arrives p zs (behind (Other cond) u) e
arrives_other p zs u e cond h a = record { rest = a.rest; counters = a.counters; reaches = (h, a.reaches); point = a.point; array = a.array; subs = a.subs; value = a.value }

mutual
  unfolding LeadsTo IsInstance

  pub arrives : (s : Stmt) (first loop k : ℕ) (w : End) (p : Point) (zs : List ℤ) (e : Entry) → LeadsTo s first loop k w → IsInstance s first p zs e → e.stmt ≡ k → Arrives p zs w e
  arrives (For' iter start cond step n body place) first loop k w p zs e (u, i, l) (t, lt, is) q =
      subst (λ (w : End). Arrives p zs w e) (sym i)
      (arrives_loop p zs u e loop start cond step t lt (arrives_in body first (suc loop) k u (inside p (index_value p start +ℤ (step *ℤ pos t))) (zs ++ pos t ∷ []) e l is q))
  arrives (If' cond n taken m other place) first loop k w p zs e (inl (u, i, l)) (inl is) q =
      subst (λ (w : End). Arrives p zs w e) (sym i) (arrives_taken p zs u e cond is.0 (arrives_in taken first loop k u p zs e l is.1 q))
  arrives (If' cond n taken m other place) first loop k w p zs e (inl (u, i, l)) (inr is) q =
      absurd (let a = end_range_in taken first loop k u l in let b = instance_range_in other (first + assignments_in taken) p zs e is.1 in omega arith)
  arrives (If' cond n taken m other place) first loop k w p zs e (inr (u, i, l)) (inl is) q =
      absurd (let a = end_range_in other (first + assignments_in taken) (loop + loop_count_in taken) k u l in let b = instance_range_in taken first p zs e is.1 in omega arith)
  arrives (If' cond n taken m other place) first loop k w p zs e (inr (u, i, l)) (inr is) q =
      subst (λ (w : End). Arrives p zs w e) (sym i) (arrives_other p zs u e cond is.0 (arrives_in other (first + assignments_in taken) (loop + loop_count_in taken) k u p zs e l is.1 q))
  arrives (Assign array subs value place) first loop k w p zs e l is q =
      subst (λ (w : End). Arrives p zs w e) (sym l.1)
      (record {
        rest = [];
        counters = ap (λ (e : Entry). e.counters) is ∙ sym (append-nil zs);
        reaches = tt;
        point = ap (λ (e : Entry). e.point) is;
        array = ap (λ (e : Entry). e.array) is;
        subs = ap (λ (e : Entry). e.subs) is;
        value = ap (λ (e : Entry). e.value) is;
      })

  pub arrives_in : {m : _} (b : Row_of-Stmt m) (first loop k : ℕ) (w : End) (p : Point) (zs : List ℤ) (e : Entry) → LeadsToIn b first loop k w → IsInstanceIn b first p zs e → e.stmt ≡ k → Arrives p zs w e
  arrives_in end_of-Stmt first loop k w p zs e l is q = absurd l
  arrives_in (more_of-Stmt s rs) first loop k w p zs e (inl l) (inl is) q = arrives s first loop k w p zs e l is q
  arrives_in (more_of-Stmt s rs) first loop k w p zs e (inl l) (inr is) q =
      absurd (let a = end_range s first loop k w l in let b = instance_range_in rs (first + assignments s) p zs e is in omega arith)
  arrives_in (more_of-Stmt s rs) first loop k w p zs e (inr l) (inl is) q =
      absurd (let a = end_range_in rs (first + assignments s) (loop + loop_count s) k w l in let b = instance_range s first p zs e is in omega arith)
  arrives_in (more_of-Stmt s rs) first loop k w p zs e (inr l) (inr is) q = arrives_in rs (first + assignments s) (loop + loop_count s) k w p zs e l is q

pub arrives_all : (ss : List Stmt) (first loop k : ℕ) (w : End) (p : Point) (zs : List ℤ) (e : Entry) → LeadsToAll ss first loop k w → IsInstanceAmong ss first p zs e → e.stmt ≡ k → Arrives p zs w e
arrives_all [] first loop k w p zs e l is q = absurd l
arrives_all (s ∷ ss) first loop k w p zs e (inl l) (inl is) q = arrives s first loop k w p zs e l is q
arrives_all (s ∷ ss) first loop k w p zs e (inl l) (inr is) q = absurd (let a = end_range s first loop k w l in let b = instance_after ss (first + assignments s) p zs e is in omega arith)
arrives_all (s ∷ ss) first loop k w p zs e (inr l) (inl is) q = absurd (let a = end_after ss (first + assignments s) (loop + loop_count s) k w l in let b = instance_range s first p zs e is in omega arith)
arrives_all (s ∷ ss) first loop k w p zs e (inr l) (inr is) q = arrives_all ss (first + assignments s) (loop + loop_count s) k w p zs e l is q

-- there is a counter for each loop
pub counters_reach : (p : Point) (ss : List Step) (rest : List ℤ) → Reaches p ss rest → length rest ≡ depth_of ss
counters_reach p [] [] r = refl
counters_reach p [] (z ∷ rest) r = absurd r
counters_reach p (Enters number start cond step ∷ ss) [] r = absurd r
counters_reach p (Enters number start cond step ∷ ss) (z ∷ rest) r = omega (arith, counters_reach (inside p (index_value p start +ℤ (step *ℤ z))) ss rest r.3)
counters_reach p (Taken cond ∷ ss) rest r = counters_reach p ss rest r.1
counters_reach p (Other cond ∷ ss) rest r = counters_reach p ss rest r.1

-- ---- from counters to an entry

-- the entry of the assignment k at the end of a way
abbrev pub entry_at : ℕ → List ℤ → Point → End → List ℤ → Entry
entry_at k zs p w rest = record { stmt = k; counters = zs ++ rest; point = point_at p w.path rest; array = w.array; subs = w.subs; value = w.value }

one_more : (p : Point) (x : ℤ) → length (inside p x).iters ≡ length p.iters + 1
one_more p x = length-append p.iters (x ∷ [])

mutual
  unfolding LeadsTo IsInstance Ready

  pub entered : (s : Stmt) (first loop k : ℕ) (w : End) (p : Point) (zs rest : List ℤ) → LeadsTo s first loop k w → Ready (length p.params) (length p.iters) s → Reaches p w.path rest
      → IsInstance s first p zs (entry_at k zs p w rest)
  entered (For' iter start cond step n body place) first loop k w p zs [] (u, i, l) r h = absurd (subst (λ (w : End). Reaches p w.path []) i h)
  entered (For' iter start cond step n body place) first loop k w p zs (pos t ∷ rest) (u, i, l) r h =
      let x = index_value p start +ℤ (step *ℤ pos t) in
      let g : Reaches p (Enters loop start cond step ∷ u.path) (pos t ∷ rest) = subst (λ (w : End). Reaches p w.path (pos t ∷ rest)) i h in
      let b : ReadyIn (length p.params) (length (inside p x).iters) body = subst (λ (n : ℕ). ReadyIn (length p.params) n body) (sym (one_more p x)) r.4 in
      let again = entered_in body first (suc loop) k u (inside p x) (zs ++ pos t ∷ []) rest l b g.3 in
      let e : Entry = entry_at k (zs ++ pos t ∷ []) (inside p x) u rest in
      let is : IsInstanceIn body first (inside p x) (zs ++ pos t ∷ []) (record e { counters = zs ++ pos t ∷ rest }) =
      subst (λ (cs : List ℤ). IsInstanceIn body first (inside p x) (zs ++ pos t ∷ []) (record e { counters = cs })) (append_assoc zs (pos t ∷ []) rest) again in
      subst (λ (w : End). IsInstance (For' iter start cond step n body place) first p zs (entry_at k zs p w (pos t ∷ rest))) (sym i) (t, turn_from (length p.params) p start cond step t r.1 r.2 r.3 g.1 g.2, is)
  entered (For' iter start cond step n body place) first loop k w p zs (negsuc t ∷ rest) (u, i, l) r h =
      let g : Reaches p (Enters loop start cond step ∷ u.path) (negsuc t ∷ rest) = subst (λ (w : End). Reaches p w.path (negsuc t ∷ rest)) i h in
      let never : pos 0 ≤ℤ negsuc t = g.0 in
      absurd (omega (arith, ints))
  entered (If' cond n taken m other place) first loop k w p zs rest (inl (u, i, l)) r h =
      let g : Reaches p (Taken cond ∷ u.path) rest = subst (λ (w : End). Reaches p w.path rest) i h in
      subst (λ (w : End). IsInstance (If' cond n taken m other place) first p zs (entry_at k zs p w rest)) (sym i) (inl (g.0, entered_in taken first loop k u p zs rest l r.1 g.1))
  entered (If' cond n taken m other place) first loop k w p zs rest (inr (u, i, l)) r h =
      let g : Reaches p (Other cond ∷ u.path) rest = subst (λ (w : End). Reaches p w.path rest) i h in
      subst (λ (w : End). IsInstance (If' cond n taken m other place) first p zs (entry_at k zs p w rest)) (sym i)
      (inr (g.0, entered_in other (first + assignments_in taken) (loop + loop_count_in taken) k u p zs rest l r.2 g.1))
  entered (Assign array subs value place) first loop k w p zs [] l r h =
      let j : w ≡ record { path = []; array = array; subs = subs; value = value } = l.1 in
      ap (λ (w : End). entry_at k zs p w []) j ∙ (λ i. record { stmt = l.0 i; counters = append-nil zs i; point = p; array = array; subs = subs; value = value })
  entered (Assign array subs value place) first loop k w p zs (z ∷ rest) l r h = absurd (subst (λ (w : End). Reaches p w.path (z ∷ rest)) l.1 h)

  pub entered_in : {m : _} (b : Row_of-Stmt m) (first loop k : ℕ) (w : End) (p : Point) (zs rest : List ℤ) → LeadsToIn b first loop k w → ReadyIn (length p.params) (length p.iters) b → Reaches p w.path rest
      → IsInstanceIn b first p zs (entry_at k zs p w rest)
  entered_in end_of-Stmt first loop k w p zs rest l r h = absurd l
  entered_in (more_of-Stmt s rs) first loop k w p zs rest (inl l) r h = inl (entered s first loop k w p zs rest l r.0 h)
  entered_in (more_of-Stmt s rs) first loop k w p zs rest (inr l) r h = inr (entered_in rs (first + assignments s) (loop + loop_count s) k w p zs rest l r.1 h)

pub entered_all : (ss : List Stmt) (first loop k : ℕ) (w : End) (p : Point) (zs rest : List ℤ) → LeadsToAll ss first loop k w → ReadyAll (length p.params) (length p.iters) ss → Reaches p w.path rest
    → IsInstanceAmong ss first p zs (entry_at k zs p w rest)
entered_all [] first loop k w p zs rest l r h = absurd l
entered_all (s ∷ ss) first loop k w p zs rest (inl l) r h = inl (entered s first loop k w p zs rest l r.0 h)
entered_all (s ∷ ss) first loop k w p zs rest (inr l) r h = inr (entered_all ss (first + assignments s) (loop + loop_count s) k w p zs rest l r.1 h)
