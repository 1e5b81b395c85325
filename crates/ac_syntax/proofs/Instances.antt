-- The trace has exactly the instances.
use Rattle.std.proofs.Common.{ℤ, pos, ◌≡◌, ℕ, zero, suc, ◌+◌, ◌<◌, List, [], ◌∷◌, ◌++◌, Bool, true, false, cond, refl, sym, arith, ◌⊎◌, inl, inr, subst}
use Rattle.std.specs.List.{Contains, flat_map, range_with_len}
use Rattle.std.proofs.lemmas.List.Elements.{Contains-append_left, Contains-append_right, Contains-append_cases}
use Rattle.ac_syntax.specs.Index.{Point, index_value, holds}
use Rattle.ac_syntax.specs.Trace.{Entry, each_turn, assignments, assignments_in, trace, trace_in, trace_all}
use Rattle.ac_syntax.specs.Turns.{turns, inside, iterator_at}
use Rattle.ac_syntax.specs.Instance.{IsInstance, IsInstanceIn, IsInstanceAmong}
use Rattle.ac_syntax.specs.declared.tree.Stmt.{Stmt, Row_of-Stmt, end_of-Stmt, more_of-Stmt}
use Rattle.ac_syntax.specs.declared.tree.Stmt.TheVariants.{For', If', Assign}

pub in_nothing : {A B : Type 0} (x : A) → Contains [] x → B
in_nothing x h = let lt : h.0 < 0 = h.1 in absurd (omega arith)

pub in_one : {A : Type 0} (y x : A) → Contains (y ∷ []) x → x ≡ y
in_one y x (zero, h, e) = sym e
in_one y x (suc k, h, e) = absurd (omega arith)

-- an element of the pieces of n turns is in the piece of one of them
pub in_turn : {A : Type 0} (f : ℕ → List A) (a n : ℕ) (x : A) → Contains (flat_map f (range_with_len a n)) x → (k : ℕ) × (k < n) × Contains (f (a + k)) x
in_turn f a zero x h = in_nothing x h
in_turn f a (suc n) x h = by (Contains-append_cases (f a) (flat_map f (range_with_len (a + 1) n)) x h) (in_turn f (a + 1) n x)
  where
    by : Contains (f a) x ⊎ Contains (flat_map f (range_with_len (a + 1) n)) x → (Contains (flat_map f (range_with_len (a + 1) n)) x → (k : ℕ) × (k < n) × Contains (f (a + 1 + k)) x) → (k : ℕ) × (k < suc n) × Contains (f (a + k)) x
    by (inl here) later = (0, omega arith, subst (λ i. Contains (f i) x) (omega arith) here)
    by (inr there) later = let r = later there in (suc r.0, (let h : r.0 < n = r.1 in omega arith), subst (λ i. Contains (f i) x) (omega arith) r.2)

pub of_turn : {A : Type 0} (f : ℕ → List A) (a n k : ℕ) (x : A) → k < n → Contains (f (a + k)) x → Contains (flat_map f (range_with_len a n)) x
of_turn f a zero k x h m = absurd (omega arith)
of_turn f a (suc n) zero x h m = Contains-append_left (f a) _ x (subst (λ i. Contains (f i) x) (omega arith) m)
of_turn f a (suc n) (suc k) x h m = Contains-append_right (f a) _ x (of_turn f (a + 1) n k x (omega arith) (subst (λ i. Contains (f i) x) (omega arith) m))

either : {A B C D : Type 0} → A ⊎ B → (A → C) → (B → D) → C ⊎ D
either (inl a) f g = inl (f a)
either (inr b) f g = inr (g b)

side : {A P Q : Type 0} {x : A} (b : Bool) {c : Bool} → c ≡ b → (xs ys : List A) → Contains (cond b xs ys) x → (Contains xs x → P) → (Contains ys x → Q) → ((c ≡ true) × P) ⊎ ((c ≡ false) × Q)
side true e xs ys h f g = inl (e, f h)
side false e xs ys h f g = inr (e, g h)

mutual
  unfolding IsInstance trace each_turn

  pub instance_of_trace : (s : Stmt) (first : ℕ) (p : Point) (cs : List ℤ) (e : Entry) → Contains (trace s first p cs) e → IsInstance s first p cs e
  instance_of_trace (For' iter start cond step n body place) first p cs e h =
      let r = in_turn _ 0 (turns p start cond step) e h in
      (r.0, r.1, instance_of_trace_in body first _ _ e (subst (λ i. Contains (trace_in body first (inside p (iterator_at (index_value p start) step i)) (cs ++ pos i ∷ [])) e) (omega arith) r.2))
  instance_of_trace (If' cond n taken m other place) first p cs e h =
      side (holds p cond) refl (trace_in taken first p cs) (trace_in other (first + assignments_in taken) p cs) h (instance_of_trace_in taken first p cs e) (instance_of_trace_in other (first + assignments_in taken) p cs e)
  instance_of_trace (Assign array subs value place) first p cs e h = in_one _ e h

  pub instance_of_trace_in : {m : _} (k : Row_of-Stmt m) (first : ℕ) (p : Point) (cs : List ℤ) (e : Entry) → Contains (trace_in k first p cs) e → IsInstanceIn k first p cs e
  instance_of_trace_in end_of-Stmt first p cs e h = in_nothing e h
  instance_of_trace_in (more_of-Stmt s rest) first p cs e h =
      either (Contains-append_cases (trace s first p cs) (trace_in rest (first + assignments s) p cs) e h) (instance_of_trace s first p cs e) (instance_of_trace_in rest (first + assignments s) p cs e)

mutual
  unfolding IsInstance trace each_turn

  pub trace_of_instance : (s : Stmt) (first : ℕ) (p : Point) (cs : List ℤ) (e : Entry) → IsInstance s first p cs e → Contains (trace s first p cs) e
  trace_of_instance (For' iter start cond step n body place) first p cs e (k, h, i) =
      of_turn (λ k. trace_in body first (inside p (iterator_at (index_value p start) step k)) (cs ++ pos k ∷ [])) 0 (turns p start cond step) k e h
      (subst (λ i. Contains (trace_in body first (inside p (iterator_at (index_value p start) step i)) (cs ++ pos i ∷ [])) e) (omega arith) (trace_of_instance_in body first _ _ e i))
  trace_of_instance (If' cond n taken m other place) first p cs e (inl (b, i)) = rw b (trace_of_instance_in taken first p cs e i)
  trace_of_instance (If' cond n taken m other place) first p cs e (inr (b, i)) = rw b (trace_of_instance_in other (first + assignments_in taken) p cs e i)
  trace_of_instance (Assign array subs value place) first p cs e h = (0, omega arith, sym h)

  pub trace_of_instance_in : {m : _} (k : Row_of-Stmt m) (first : ℕ) (p : Point) (cs : List ℤ) (e : Entry) → IsInstanceIn k first p cs e → Contains (trace_in k first p cs) e
  trace_of_instance_in end_of-Stmt first p cs e h = absurd h
  trace_of_instance_in (more_of-Stmt s rest) first p cs e (inl i) = Contains-append_left _ _ e (trace_of_instance s first p cs e i)
  trace_of_instance_in (more_of-Stmt s rest) first p cs e (inr i) = Contains-append_right _ _ e (trace_of_instance_in rest (first + assignments s) p cs e i)

-- at the statements of a body
pub instance_among : (ss : List Stmt) (first : ℕ) (p : Point) (cs : List ℤ) (e : Entry) → Contains (trace_all ss first p cs) e → IsInstanceAmong ss first p cs e
instance_among [] first p cs e h = in_nothing e h
instance_among (s ∷ ss) first p cs e h =
    either (Contains-append_cases (trace s first p cs) (trace_all ss (first + assignments s) p cs) e h) (instance_of_trace s first p cs e) (instance_among ss (first + assignments s) p cs e)

pub among_instances : (ss : List Stmt) (first : ℕ) (p : Point) (cs : List ℤ) (e : Entry) → IsInstanceAmong ss first p cs e → Contains (trace_all ss first p cs) e
among_instances [] first p cs e h = absurd h
among_instances (s ∷ ss) first p cs e (inl i) = Contains-append_left _ _ e (trace_of_instance s first p cs e i)
among_instances (s ∷ ss) first p cs e (inr i) = Contains-append_right _ _ e (among_instances ss (first + assignments s) p cs e i)
