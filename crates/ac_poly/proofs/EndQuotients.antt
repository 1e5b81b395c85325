-- The quotients of an assignment in the text are those that are noted on the way to it.
use Rattle.std.proofs.Common.{◌≡◌, inl, inr, ℕ, suc, ◌+◌, ◌<◌, ◌≤◌, List, [], ◌∷◌, Bool, true, false, cond, refl, sym, ap, ◌∙◌, arith}
use Rattle.std.specs.Prelude.{nat_lt}
use Rattle.std.proofs.lemmas.Bool.Decides.{nat_tests}
use Rattle.ac_syntax.specs.LoopNests.{loop_count, loop_count_in}
use Rattle.ac_syntax.specs.Quotients.{noted_form, noted_parts, quotients, quotients_in, quotients_all}
use Rattle.ac_syntax.specs.Trace.{assignments, assignments_in}
use Rattle.ac_syntax.specs.declared.tree.Quot.{Quot}
use Rattle.ac_syntax.specs.declared.tree.Stmt.{Stmt, Row_of-Stmt, end_of-Stmt, more_of-Stmt}
use Rattle.ac_syntax.specs.declared.tree.Stmt.TheVariants.{For', If', Assign}
use Rattle.ac_poly_quotients.specs.LoopPaths.{noted_path}
use Rattle.ac_poly_quotients.proofs.OwnQuotients.{own_noted}
use Rattle.ac_poly.proofs.PathEnds.{End, end_quots, LeadsTo, LeadsToIn, LeadsToAll}
use Rattle.ac_poly.proofs.PathRanges.{end_range, end_range_in, end_after}

first_of : {A : Type 0} (b : Bool) (x y : A) → b ≡ true → cond b x y ≡ x
first_of true x y e = refl
first_of false x y e = absurd cc

second_of : {A : Type 0} (b : Bool) (x y : A) → b ≡ false → cond b x y ≡ y
second_of true x y e = absurd cc
second_of false x y e = refl

is_less : (a b : ℕ) → a < b → nat_lt a b ≡ true
is_less a b h = grind (arith, nat_tests)

not_less : (a b : ℕ) → b ≤ a → nat_lt a b ≡ false
not_less a b h = grind (arith, nat_tests)

mutual
  unfolding LeadsTo quotients

  pub quotients_end : (s : Stmt) (first loop k : ℕ) (w : End) (seen : List Quot) → LeadsTo s first loop k w → quotients s first seen k ≡ noted_path seen w.path (end_quots w)
  quotients_end (For' iter start cond step n body place) first loop k w seen (u, i, l) =
      quotients_end_in body first (suc loop) k u (noted_parts (noted_form seen start) cond.parts) l ∙ ap (λ (w : End). noted_path seen w.path (end_quots w)) (sym i)
  quotients_end (If' cond n taken m other place) first loop k w seen (inl (u, i, l)) =
      first_of (nat_lt k (first + assignments_in taken)) _ _ (is_less k (first + assignments_in taken) (end_range_in taken first loop k u l).1)
      ∙ quotients_end_in taken first loop k u (noted_parts seen cond.parts) l ∙ ap (λ (w : End). noted_path seen w.path (end_quots w)) (sym i)
  quotients_end (If' cond n taken m other place) first loop k w seen (inr (u, i, l)) =
      second_of (nat_lt k (first + assignments_in taken)) _ _ (not_less k (first + assignments_in taken) (end_range_in other (first + assignments_in taken) (loop + loop_count_in taken) k u l).0)
      ∙ quotients_end_in other (first + assignments_in taken) (loop + loop_count_in taken) k u (noted_parts seen cond.parts) l ∙ ap (λ (w : End). noted_path seen w.path (end_quots w)) (sym i)
  quotients_end (Assign array subs value place) first loop k w seen l = sym (own_noted seen subs value) ∙ ap (λ (w : End). noted_path seen w.path (end_quots w)) (sym l.1)

  pub quotients_end_in : {m : _} (b : Row_of-Stmt m) (first loop k : ℕ) (w : End) (seen : List Quot) → LeadsToIn b first loop k w → quotients_in b first seen k ≡ noted_path seen w.path (end_quots w)
  quotients_end_in end_of-Stmt first loop k w seen l = absurd l
  quotients_end_in (more_of-Stmt s rest) first loop k w seen (inl l) =
      first_of (nat_lt k (first + assignments s)) _ _ (is_less k (first + assignments s) (end_range s first loop k w l).1) ∙ quotients_end s first loop k w seen l
  quotients_end_in (more_of-Stmt s rest) first loop k w seen (inr l) =
      second_of (nat_lt k (first + assignments s)) _ _ (not_less k (first + assignments s) (end_range_in rest (first + assignments s) (loop + loop_count s) k w l).0)
      ∙ quotients_end_in rest (first + assignments s) (loop + loop_count s) k w seen l

pub quotients_end_all : (ss : List Stmt) (first loop k : ℕ) (w : End) (seen : List Quot) → LeadsToAll ss first loop k w → quotients_all ss first seen k ≡ noted_path seen w.path (end_quots w)
quotients_end_all [] first loop k w seen l = absurd l
quotients_end_all (s ∷ ss) first loop k w seen (inl l) =
    first_of (nat_lt k (first + assignments s)) _ _ (is_less k (first + assignments s) (end_range s first loop k w l).1) ∙ quotients_end s first loop k w seen l
quotients_end_all (s ∷ ss) first loop k w seen (inr l) =
    second_of (nat_lt k (first + assignments s)) _ _ (not_less k (first + assignments s) (end_after ss (first + assignments s) (loop + loop_count s) k w l))
    ∙ quotients_end_all ss (first + assignments s) (loop + loop_count s) k w seen l
