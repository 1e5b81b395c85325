-- An entry does what the assignment with its number says.
use Rattle.std.proofs.Common.{◌≡◌, ℕ, ◌+◌, List, [], ◌∷◌, ◌++◌, cond, refl, Option, Some, subst, ℤ, pos}
use Rattle.std.specs.Prelude.{nat_lt}
use Rattle.std.specs.List.{AllByRecursion}
use Rattle.ac_syntax.specs.Index.{Point, index_value, holds}
use Rattle.ac_syntax.specs.Source.{Writer, Stands}
use Rattle.ac_syntax.specs.Trace.{Entry, each_turn, assignments, assignments_in, trace, trace_in, trace_all}
use Rattle.ac_syntax.specs.Turns.{turns, inside, iterator_at}
use Rattle.ac_syntax.specs.AssignmentText.{Assigned, assigned, assigned_in, assigned_all, text_of}
use Rattle.ac_syntax.specs.declared.tree.Stmt.{Stmt, Row_of-Stmt, end_of-Stmt, more_of-Stmt}
use Rattle.ac_syntax.specs.declared.tree.Stmt.TheVariants.{For', If', Assign}
use Rattle.ac_syntax.proofs.Order.{Within, within_trace, within_trace_in, within_trace_all, lt_true, lt_false, if_either}
use Rattle.ac_syntax.proofs.Pairwise.{every_append, every_turns}

abbrev pub Says : (ℕ → Option Assigned) → Entry → Type 0
Says f e = f e.stmt ≡ Some (text_of e)

every_both : {A : Type 0} (P Q R : A → Type 0) → ((x : A) → P x → Q x → R x) → (xs : List A) → AllByRecursion P xs → AllByRecursion Q xs → AllByRecursion R xs
every_both P Q R f [] h k = tt
every_both P Q R f (x ∷ xs) h k = (f x h.0 k.0, every_both P Q R f xs h.1 k.1)

module _ (first n m : ℕ) (cs : List ℤ) (f g : ℕ → Option Assigned) where
  says_low : (e : Entry) → Within first n cs e → Says f e → Says (λ i. cond (nat_lt i (first + n)) (f i) (g i)) e
  says_low e w h = rw (lt_true e.stmt (first + n) w.high) h

  says_high : (e : Entry) → Within (first + n) m cs e → Says g e → Says (λ i. cond (nat_lt i (first + n)) (f i) (g i)) e
  says_high e w h = rw (lt_false e.stmt (first + n) w.low) h

mutual
  unfolding trace each_turn assigned

  pub says_trace : (s : Stmt) (first : ℕ) (p : Point) (cs : List ℤ) → AllByRecursion (Says (assigned s first)) (trace s first p cs)
  says_trace (For' iter start cond step n body place) first p cs =
      every_turns (Says (assigned_in body first)) (λ k. trace_in body first (inside p (iterator_at (index_value p start) step k)) (cs ++ pos k ∷ [])) 0 (turns p start cond step) (λ k h. says_trace_in body first _ (cs ++ pos k ∷ []))
  says_trace (If' cond n taken m other place) first p cs =
      if_either (AllByRecursion (Says (assigned (If' cond n taken m other place) first))) (holds p cond) _ _
      (every_both _ _ _ (says_low first (assignments_in taken) (assignments_in other) cs (assigned_in taken first) (assigned_in other (first + assignments_in taken))) _ (within_trace_in taken first p cs) (says_trace_in taken first p cs))
      (every_both _ _ _ (says_high first (assignments_in taken) (assignments_in other) cs (assigned_in taken first) (assigned_in other (first + assignments_in taken))) _ (within_trace_in other (first + assignments_in taken) p cs) (says_trace_in other (first + assignments_in taken) p cs))
  says_trace (Assign array subs value place) first p cs = (refl, tt)

  pub says_trace_in : {m : _} (k : Row_of-Stmt m) (first : ℕ) (p : Point) (cs : List ℤ) → AllByRecursion (Says (assigned_in k first)) (trace_in k first p cs)
  says_trace_in end_of-Stmt first p cs = tt
  says_trace_in (more_of-Stmt s rest) first p cs = every_append _ (trace s first p cs) _
      (every_both _ _ _ (says_low first (assignments s) (assignments_in rest) cs (assigned s first) (assigned_in rest (first + assignments s))) _ (within_trace s first p cs) (says_trace s first p cs))
      (every_both _ _ _ (says_high first (assignments s) (assignments_in rest) cs (assigned s first) (assigned_in rest (first + assignments s))) _ (within_trace_in rest (first + assignments s) p cs) (says_trace_in rest (first + assignments s) p cs))

says_trace_all : (ss : List Stmt) (first : ℕ) (p : Point) (cs : List ℤ) → AllByRecursion (Says (assigned_all ss first)) (trace_all ss first p cs)
says_trace_all [] first p cs = tt
says_trace_all (s ∷ ss) first p cs = every_append _ (trace s first p cs) _
    (every_both _ _ _ (says_low first (assignments s) 0 cs (assigned s first) (assigned_all ss (first + assignments s))) _ (within_trace s first p cs) (says_trace s first p cs))
    (every_both _ _ _ (says_high first (assignments s) _ cs (assigned s first) (assigned_all ss (first + assignments s))) _ (within_trace_all ss (first + assignments s) p cs) (says_trace_all ss (first + assignments s) p cs))

every_at : {A : Type 0} (P : A → Type 0) (xs : List A) (x : A) (ys : List A) → AllByRecursion P (xs ++ x ∷ ys) → P x
every_at P [] x ys h = h.0
every_at P (y ∷ xs) x ys h = every_at P xs x ys h.1

pub entry_text : (body : List Stmt) (p : Point) (w : Writer) → Stands (trace_all body 0 p []) w → assigned_all body 0 w.entry.stmt ≡ Some (text_of w.entry)
entry_text body p w h = every_at (Says (assigned_all body 0)) w.earlier w.entry h.later (subst (AllByRecursion (Says (assigned_all body 0))) h.splits (says_trace_all body 0 p []))
