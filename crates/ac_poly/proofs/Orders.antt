-- The levels of two assignments are the order of their entries.
use Rattle.std.proofs.Common.{◌≡◌, ◌↔◌, inl, inr, ℕ, suc, ◌+◌, ◌<◌, ◌≤◌, List, [], ◌∷◌, ◌++◌, length, Bool, true, false, cond, refl, sym, ap, ◌∙◌, arith, subst, length-append, append_assoc, append-nil, ℤ}
use Rattle.std.specs.Prelude.{nat_lt, slice_get, Some}
use Rattle.std.specs.List.{flat_map}
use Rattle.std.proofs.lemmas.Bool.Decides.{nat_tests}
use Rattle.ac_forms.specs.PieceMembership.{IsInSome}
use Rattle.ac_forms.specs.Rows.{Meets}
use Rattle.ac_syntax.specs.ExecutionOrder.{Before}
use Rattle.ac_syntax.specs.Index.{point}
use Rattle.ac_syntax.specs.LoopNests.{loops, loops_in, loops_all, loops_around, common, loop_count, loop_count_in}
use Rattle.ac_syntax.specs.ReadyPrograms.{ReadyAll}
use Rattle.ac_syntax.specs.Source.{Writer, Stands}
use Rattle.ac_syntax.specs.Trace.{assignments, assignments_in, trace_of}
use Rattle.ac_syntax.specs.declared.tree.Quot.{Quot}
use Rattle.ac_syntax.specs.declared.tree.Stmt.{Stmt, Row_of-Stmt, end_of-Stmt, more_of-Stmt}
use Rattle.ac_syntax.specs.declared.tree.Stmt.TheVariants.{For', If', Assign}
use Rattle.ac_syntax.proofs.LastWriters.{is_before, stands_before, stands_contains}
use Rattle.ac_poly_quotients.specs.LoopPaths.{Step, Enters, Taken, Other, scope_at}
use Rattle.ac_poly_quotients.specs.QuotientRows.{quotients_at}
use Rattle.ac_poly_quotients.specs.QuotientScopes.{outermost, part_quots, in_loop, where_holds, where_fails}
use Rattle.ac_poly_quotients.specs.declared.types.Scope.{Scope}
use Rattle.ac_poly_quotients.proofs.CounterOrder.{counters_are_read}
use Rattle.ac_poly_quotients.proofs.NotedColumns.{grown_all}
use Rattle.ac_poly_quotients.proofs.QuotientRows.{length-quotients}
use Rattle.ac_poly.specs.Coordinates.{width, coordinates_at, levels_before}
use Rattle.ac_poly.specs.LevelRows.{numbers, LevelsAreTheOrder}
use Rattle.ac_poly.specs.Lower.{lowered_body}
use Rattle.ac_poly.specs.declared.types.StmtModel.{StmtModel}
use Rattle.ac_poly.proofs.Bodies.{counters_told}
use Rattle.ac_poly.proofs.Commons.{common_within}
use Rattle.ac_poly.proofs.LevelRows.{levels_hold}
use Rattle.ac_poly.proofs.LowerEnds.{end_at}
use Rattle.ac_poly.proofs.PathDepths.{loop_loops}
use Rattle.ac_poly.proofs.PathEnds.{End, end_quots, LeadsTo, LeadsToIn, LeadsToAll}
use Rattle.ac_poly.proofs.PathRanges.{end_range, end_range_in, end_after}

is_less : (a b : ℕ) → a < b → nat_lt a b ≡ true
is_less a b h = grind (arith, nat_tests)

not_less : (a b : ℕ) → b ≤ a → nat_lt a b ≡ false
not_less a b h = grind (arith, nat_tests)

first_of : (b : Bool) (xs ys : List ℕ) → b ≡ true → xs ≡ cond b xs ys
first_of true xs ys e = refl
first_of false xs ys e = absurd cc

second_of : (b : Bool) (xs ys : List ℕ) → b ≡ false → ys ≡ cond b xs ys
second_of true xs ys e = absurd cc
second_of false xs ys e = refl

-- the loops that a way enters
abbrev path_loops : List Step → List ℕ
path_loops [] = []
path_loops (Enters number start cond step ∷ ss) = number ∷ path_loops ss
path_loops (Taken cond ∷ ss) = path_loops ss
path_loops (Other cond ∷ ss) = path_loops ss

-- the scope at its end stands in these
loops_along : (sc : Scope) (ss : List Step) (qs : List Quot) → (scope_at sc ss qs).loops ≡ sc.loops ++ path_loops ss
loops_along sc [] qs = (grown_all sc qs).loops ∙ sym (append-nil sc.loops)
loops_along sc (Enters number start cond step ∷ ss) qs =
    loops_along (in_loop sc number start cond step) ss qs ∙ ap (λ (ls : List ℕ). ls ++ path_loops ss) (loop_loops sc number start cond step) ∙ append_assoc sc.loops (number ∷ []) (path_loops ss)
loops_along sc (Taken cond ∷ ss) qs = loops_along (where_holds sc cond) ss qs ∙ ap (λ (ls : List ℕ). ls ++ path_loops ss) (grown_all sc (flat_map part_quots cond.parts)).loops
loops_along sc (Other cond ∷ ss) qs = loops_along (where_fails sc cond) ss qs ∙ ap (λ (ls : List ℕ). ls ++ path_loops ss) (grown_all sc (flat_map part_quots cond.parts)).loops

mutual
  unfolding LeadsTo loops

  loops_are : (s : Stmt) (first loop k : ℕ) (w : End) → LeadsTo s first loop k w → path_loops w.path ≡ loops s first loop k
  loops_are (For' iter start cond step n body place) first loop k w (u, e, i) = ap (λ (w : End). path_loops w.path) e ∙ ap (λ (ls : List ℕ). loop ∷ ls) (loops_are_in body first (suc loop) k u i)
  loops_are (If' cond n taken m other place) first loop k w (inl (u, e, i)) =
      let r = end_range_in taken first loop k u i in
      ap (λ (w : End). path_loops w.path) e ∙ loops_are_in taken first loop k u i ∙ first_of (nat_lt k (first + assignments_in taken)) (loops_in taken first loop k) _ (is_less k (first + assignments_in taken) r.1)
  loops_are (If' cond n taken m other place) first loop k w (inr (u, e, i)) =
      let r = end_range_in other (first + assignments_in taken) (loop + loop_count_in taken) k u i in
      ap (λ (w : End). path_loops w.path) e ∙ loops_are_in other (first + assignments_in taken) (loop + loop_count_in taken) k u i
      ∙ second_of (nat_lt k (first + assignments_in taken)) (loops_in taken first loop k) _ (not_less k (first + assignments_in taken) r.0)
  loops_are (Assign array subs value place) first loop k w i = ap (λ (w : End). path_loops w.path) i.1

  loops_are_in : {m : _} (b : Row_of-Stmt m) (first loop k : ℕ) (w : End) → LeadsToIn b first loop k w → path_loops w.path ≡ loops_in b first loop k
  loops_are_in end_of-Stmt first loop k w i = absurd i
  loops_are_in (more_of-Stmt s rest) first loop k w (inl i) =
      let r = end_range s first loop k w i in
      loops_are s first loop k w i ∙ first_of (nat_lt k (first + assignments s)) (loops s first loop k) _ (is_less k (first + assignments s) r.1)
  loops_are_in (more_of-Stmt s rest) first loop k w (inr i) =
      let r = end_range_in rest (first + assignments s) (loop + loop_count s) k w i in
      loops_are_in rest (first + assignments s) (loop + loop_count s) k w i ∙ second_of (nat_lt k (first + assignments s)) (loops s first loop k) _ (not_less k (first + assignments s) r.0)

loops_are_all : (ss : List Stmt) (first loop k : ℕ) (w : End) → LeadsToAll ss first loop k w → path_loops w.path ≡ loops_all ss first loop k
loops_are_all [] first loop k w i = absurd i
loops_are_all (s ∷ ss) first loop k w (inl i) =
    let r = end_range s first loop k w i in
    loops_are s first loop k w i ∙ first_of (nat_lt k (first + assignments s)) (loops s first loop k) _ (is_less k (first + assignments s) r.1)
loops_are_all (s ∷ ss) first loop k w (inr i) =
    let r = end_after ss (first + assignments s) (loop + loop_count s) k w i in
    loops_are_all ss (first + assignments s) (loop + loop_count s) k w i ∙ second_of (nat_lt k (first + assignments s)) (loops s first loop k) _ (not_less k (first + assignments s) r)

-- the model has the loops around the assignment
pub loops_at : (body : List Stmt) (n k : ℕ) (l : StmtModel) → slice_get (lowered_body n body) k ≡ Some l → l.loops ≡ loops_around body k
loops_at body n k l at =
    let e = end_at body n k l at in
    ap (λ (l : StmtModel). l.loops) e.2 ∙ loops_along (outermost n) e.0.path (end_quots e.0) ∙ loops_are_all body 0 0 k e.0 e.1

text : (a b : ℕ) → (nat_lt a b ≡ true) ↔ (a < b)
text a b = ((λ h. grind (arith, nat_tests, h)), (λ h. grind (arith, nat_tests)))

pub levels_are_the_order : LevelsAreTheOrder
levels_are_the_order body ps p i j w u l m r at bt a b vw vu =
    let lw = loops_at body (length ps) w.entry.stmt l at in
    let lu = loops_at body (length ps) u.entry.stmt m bt in
    let c : common l.loops m.loops ≡ common (loops_around body w.entry.stmt) (loops_around body u.entry.stmt) = λ i. common (lw i) (lu i) in
    let cw = common_within l.loops m.loops in
    let k1 = cw.0 in
    let k2 = cw.1 in
    let n1 = counters_told body ps w.entry l r at (stands_contains a) in
    let n2 = counters_told body ps u.entry m r bt (stands_contains b) in
    let h = levels_hold (common l.loops m.loops) w.entry.stmt u.entry.stmt p i j w.entry.counters u.entry.counters (nat_lt w.entry.stmt u.entry.stmt) []
    (omega arith) (omega arith) (ap (λ n. numbers i n p) n1 ∙ vw) (ap (λ n. numbers j n p) n2 ∙ vu) (text w.entry.stmt u.entry.stmt) in
    let B : ℕ → Type 0 = λ c. Before c w.entry.stmt u.entry.stmt w.entry.counters u.entry.counters in (
      (λ lt. h.1 (tt, subst B (sym c) (is_before body (point ps []) w u a b lt))),
      (λ s. stands_before body (point ps []) w u a b (subst B c (h.0 s).1)),
    )

-- counters with quotients behind them, behind the parameters and before other coordinates
first_read : (ps : List ℤ) (l : StmtModel) (zs back : List ℤ) → length zs ≡ length l.loops → numbers (length ps) (length l.loops) (ps ++ (coordinates_at l ps zs ++ back)) ≡ zs
first_read ps l zs back h = counters_are_read ps zs (quotients_at l.quots (ps ++ zs)) back (length ps) (length l.loops) refl h

-- and behind other coordinates
second_read : (ps front : List ℤ) (m : StmtModel) (zs : List ℤ) (from : ℕ) → length ps + length front ≡ from → length zs ≡ length m.loops → numbers from (length m.loops) (ps ++ (front ++ coordinates_at m ps zs)) ≡ zs
second_read ps front m zs from e h =
    let at = coordinates_at m ps zs in
    let whole : ps ++ (front ++ at) ≡ (ps ++ front) ++ (at ++ []) = sym (append_assoc ps front at) ∙ ap (λ (x : List ℤ). (ps ++ front) ++ x) (sym (append-nil at)) in
    ap (numbers from (length m.loops)) whole ∙ counters_are_read (ps ++ front) zs (quotients_at m.quots (ps ++ zs)) [] from (length m.loops) (length-append ps front ∙ e) h

-- as many as an assignment has
wide : (ps : List ℤ) (l : StmtModel) (zs : List ℤ) → length zs ≡ length l.loops → length (coordinates_at l ps zs) ≡ width l
wide ps l zs h = omega (arith, length-append zs (quotients_at l.quots (ps ++ zs)), length-quotients l.quots (ps ++ zs), h)

-- behind the parameters the coordinates of both
pub counters_behind : (body : List Stmt) (ps : List ℤ) (w u : Writer) (l m : StmtModel) → ReadyAll (length ps) 0 body
    → slice_get (lowered_body (length ps) body) w.entry.stmt ≡ Some l → slice_get (lowered_body (length ps) body) u.entry.stmt ≡ Some m
    → Stands (trace_of body ps) w → Stands (trace_of body ps) u
    → (length w.earlier < length u.earlier)
    ↔ IsInSome Meets (levels_before (length ps) w.entry.stmt l u.entry.stmt m) (ps ++ (coordinates_at l ps w.entry.counters ++ coordinates_at m ps u.entry.counters))
counters_behind body ps w u l m r at bt a b =
    let n1 = counters_told body ps w.entry l r at (stands_contains a) in
    let n2 = counters_told body ps u.entry m r bt (stands_contains b) in
    let first : List ℤ = coordinates_at l ps w.entry.counters in
    let second : List ℤ = coordinates_at m ps u.entry.counters in
    levels_are_the_order body ps (ps ++ (first ++ second)) (length ps) (length ps + width l) w u l m r at bt a b
    (first_read ps l w.entry.counters second n1)
    (second_read ps first m u.entry.counters (length ps + width l) (ap (λ n. length ps + n) (wide ps l w.entry.counters n1)) n2)
