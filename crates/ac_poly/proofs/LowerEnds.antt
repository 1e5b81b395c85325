-- Each model that a program is lowered to is that of the end of a way.
use Rattle.std.proofs.Common.{◌≡◌, ◌⊎◌, inl, inr, ℕ, zero, suc, ◌+◌, ◌-◌, ◌<◌, List, [], ◌∷◌, ◌++◌, length, get_or, refl, sym, ◌∙◌, arith, subst, length-append, zero-add}
use Rattle.std.specs.Prelude.{slice_get, Some}
use Rattle.std.proofs.lemmas.List.{get_or_append_left, get_or-append-add}
use Rattle.std.proofs.lemmas.Option.{slice_get_within, get_or_from_slice_get}
use Rattle.ac_syntax.specs.LoopNests.{loop_count, loop_count_in}
use Rattle.ac_syntax.specs.Trace.{assignments, assignments_in}
use Rattle.ac_syntax.specs.declared.tree.Stmt.{Stmt, Row_of-Stmt, end_of-Stmt, more_of-Stmt}
use Rattle.ac_syntax.specs.declared.tree.Stmt.TheVariants.{For', If', Assign}
use Rattle.ac_poly_quotients.specs.LoopPaths.{Enters, Taken, Other}
use Rattle.ac_poly_quotients.specs.QuotientScopes.{outermost, in_loop, where_holds, where_fails}
use Rattle.ac_poly_quotients.specs.declared.types.Scope.{Scope}
use Rattle.ac_poly.specs.Lower.{lower, lower_in, lower_all, lowered_body}
use Rattle.ac_poly.specs.declared.types.StmtModel.{StmtModel}
use Rattle.ac_poly.proofs.PathEnds.{End, behind, end_model, LeadsTo, LeadsToIn, LeadsToAll}

mutual
  unfolding lower assignments

  pub length-lower : (s : Stmt) (loop : ℕ) (sc : Scope) → length (lower s loop sc) ≡ assignments s
  length-lower (For' iter start cond step n body place) loop sc = length-lower_in body (suc loop) (in_loop sc loop start cond step)
  length-lower (If' cond n taken m other place) loop sc =
      length-append (lower_in taken loop (where_holds sc cond)) (lower_in other (loop + loop_count_in taken) (where_fails sc cond))
      ∙ (λ i. length-lower_in taken loop (where_holds sc cond) i + length-lower_in other (loop + loop_count_in taken) (where_fails sc cond) i)
  length-lower (Assign array subs value place) loop sc = refl

  pub length-lower_in : {m : _} (b : Row_of-Stmt m) (loop : ℕ) (sc : Scope) → length (lower_in b loop sc) ≡ assignments_in b
  length-lower_in end_of-Stmt loop sc = refl
  length-lower_in (more_of-Stmt s rest) loop sc =
      length-append (lower s loop sc) (lower_in rest (loop + loop_count s) sc) ∙ (λ i. length-lower s loop sc i + length-lower_in rest (loop + loop_count s) sc i)

-- an element of two lists
at_append : {A : Type 0} (P : ℕ → A → Type 0) (xs ys : List A) (d : A) (i : ℕ) → ((j : ℕ) → j < length xs → P j (get_or xs j d)) → ((j : ℕ) → j < length ys → P (length xs + j) (get_or ys j d))
    → i < length (xs ++ ys) → P i (get_or (xs ++ ys) i d)
at_append P xs ys d i f g h = by (cases i (length xs))
  where
    cases : (a b : ℕ) → (a < b) ⊎ (b + (a - b) ≡ a)
    cases a b = grind arith

    by : (i < length xs) ⊎ (length xs + (i - length xs) ≡ i) → P i (get_or (xs ++ ys) i d)
    by (inl l) = subst (P i) (sym (get_or_append_left xs ys d i l)) (f i l)
    by (inr e) = subst (λ k. P k (get_or (xs ++ ys) k d)) e (subst (P (length xs + (i - length xs))) (sym (get_or-append-add xs ys (i - length xs) d)) (g (i - length xs) (omega (arith, length-append xs ys))))

-- the model of the assignment k of a statement, in the scope around it
abbrev pub Ends : Stmt → ℕ → ℕ → Scope → ℕ → StmtModel → Type 0
Ends s first loop sc k l = (w : End) × LeadsTo s first loop k w × (l ≡ end_model sc w)

abbrev pub EndsIn : (m : _) → Row_of-Stmt m → ℕ → ℕ → Scope → ℕ → StmtModel → Type 0
EndsIn m b first loop sc k l = (w : End) × LeadsToIn b first loop k w × (l ≡ end_model sc w)

abbrev pub EndsAll : List Stmt → ℕ → ℕ → Scope → ℕ → StmtModel → Type 0
EndsAll ss first loop sc k l = (w : End) × LeadsToAll ss first loop k w × (l ≡ end_model sc w)

mutual
  unfolding lower LeadsTo

  pub lower_ends : (s : Stmt) (first loop : ℕ) (sc : Scope) (d : StmtModel) (i : ℕ) → i < length (lower s loop sc) → Ends s first loop sc (first + i) (get_or (lower s loop sc) i d)
  lower_ends (For' iter start cond step n body place) first loop sc d i h =
      let a = lower_ends_in body first (suc loop) (in_loop sc loop start cond step) d i h in
      (behind (Enters loop start cond step) a.0, (a.0, refl, a.1), a.2)
  lower_ends (If' cond n taken m other place) first loop sc d i h =
      at_append (λ i l. Ends (If' cond n taken m other place) first loop sc (first + i) l) (lower_in taken loop (where_holds sc cond)) (lower_in other (loop + loop_count_in taken) (where_fails sc cond)) d i
      (λ j l. let a = lower_ends_in taken first loop (where_holds sc cond) d j l in (behind (Taken cond) a.0, inl (a.0, refl, a.1), a.2))
      (λ j l.
      let a = lower_ends_in other (first + assignments_in taken) (loop + loop_count_in taken) (where_fails sc cond) d j l in
      let k : first + assignments_in taken + j ≡ first + (length (lower_in taken loop (where_holds sc cond)) + j) = omega (arith, length-lower_in taken loop (where_holds sc cond)) in
      (behind (Other cond) a.0, inr (a.0, refl, subst (λ k. LeadsToIn other (first + assignments_in taken) (loop + loop_count_in taken) k a.0) k a.1), a.2))
      h
  lower_ends (Assign array subs value place) first loop sc d zero h = (record { path = []; array = array; subs = subs; value = value }, (omega arith, refl), refl)
  lower_ends (Assign array subs value place) first loop sc d (suc i) h = absurd (omega arith)

  pub lower_ends_in : {m : _} (b : Row_of-Stmt m) (first loop : ℕ) (sc : Scope) (d : StmtModel) (i : ℕ) → i < length (lower_in b loop sc) → EndsIn m b first loop sc (first + i) (get_or (lower_in b loop sc) i d)
  lower_ends_in end_of-Stmt first loop sc d i h = absurd (omega arith)
  lower_ends_in (more_of-Stmt s rest) first loop sc d i h =
      at_append (λ i l. EndsIn _ (more_of-Stmt s rest) first loop sc (first + i) l) (lower s loop sc) (lower_in rest (loop + loop_count s) sc) d i
      (λ j l. let a = lower_ends s first loop sc d j l in (a.0, inl a.1, a.2))
      (λ j l.
      let a = lower_ends_in rest (first + assignments s) (loop + loop_count s) sc d j l in
      let k : first + assignments s + j ≡ first + (length (lower s loop sc) + j) = omega (arith, length-lower s loop sc) in
      (a.0, inr (subst (λ k. LeadsToIn rest (first + assignments s) (loop + loop_count s) k a.0) k a.1), a.2))
      h

pub lower_ends_all : (ss : List Stmt) (first loop : ℕ) (sc : Scope) (d : StmtModel) (i : ℕ) → i < length (lower_all ss loop sc) → EndsAll ss first loop sc (first + i) (get_or (lower_all ss loop sc) i d)
lower_ends_all [] first loop sc d i h = absurd (omega arith)
lower_ends_all (s ∷ ss) first loop sc d i h =
    at_append (λ i l. EndsAll (s ∷ ss) first loop sc (first + i) l) (lower s loop sc) (lower_all ss (loop + loop_count s) sc) d i
    (λ j l. let a = lower_ends s first loop sc d j l in (a.0, inl a.1, a.2))
    (λ j l.
    let a = lower_ends_all ss (first + assignments s) (loop + loop_count s) sc d j l in
    let k : first + assignments s + j ≡ first + (length (lower s loop sc) + j) = omega (arith, length-lower s loop sc) in
    (a.0, inr (subst (λ k. LeadsToAll ss (first + assignments s) (loop + loop_count s) k a.0) k a.1), a.2))
    h

-- the model of the assignment k of a body
pub end_at : (body : List Stmt) (n k : ℕ) (l : StmtModel) → slice_get (lowered_body n body) k ≡ Some l → EndsAll body 0 0 (outermost n) k l
end_at body n k l at =
    let h = slice_get_within (lowered_body n body) k l at in
    let g = get_or_from_slice_get (lowered_body n body) k l l at in
    subst (λ j. EndsAll body 0 0 (outermost n) j l) (zero-add k)
    (subst (λ (x : StmtModel). EndsAll body 0 0 (outermost n) (0 + k) x) g (lower_ends_all body 0 0 (outermost n) l k h))
