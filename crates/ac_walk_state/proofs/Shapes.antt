-- Shapes of assignments, one after the other.
use Rattle.std.proofs.Common.{◌≡◌, ℕ, ◌+◌, ◌<◌, ◌≤◌, ◌&&◌, List, [], ◌∷◌, ◌++◌, length, take, get_or, Bool, true, false, refl, sym, ap, ◌∙◌, subst}
use Rattle.std.specs.Prelude.{nat_eq}
use Rattle.std.proofs.lemmas.Bool.{eq-eqb}
use Rattle.std.proofs.lemmas.List.{take_all, take_more}
use Rattle.ac_poly.specs.declared.types.StmtModel.{StmtModel}
use Rattle.ac_claims.specs.ProofFaults.{has_shape, have_shapes}
use Rattle.ac_walk_state.proofs.ListElements.{true_both}

shape_is : (stmt : StmtModel) (n q : ℕ) → n ≡ length stmt.loops → q ≡ length stmt.quots → has_shape (n, q) stmt ≡ true
shape_is stmt n q e f = true_both (nat_eq n (length stmt.loops)) (nat_eq q (length stmt.quots)) (eq-eqb n (length stmt.loops) e) (eq-eqb q (length stmt.quots) f)

last_shape : (hs : List (ℕ × ℕ)) (stmts : List StmtModel) (h : ℕ × ℕ) (stmt : StmtModel) → have_shapes hs stmts ≡ true → has_shape h stmt ≡ true → have_shapes (hs ++ h ∷ []) (stmts ++ stmt ∷ []) ≡ true
last_shape [] [] h stmt e s = true_both (has_shape h stmt) true s refl
last_shape [] (x ∷ stmts) h stmt e s = absurd cc
last_shape (k ∷ hs) [] h stmt e s = absurd cc
last_shape (k ∷ hs) (x ∷ stmts) h stmt e s = by (has_shape k x) e (last_shape hs stmts h stmt)
  where
    by : (b : Bool) → (b && have_shapes hs stmts) ≡ true → (have_shapes hs stmts ≡ true → has_shape h stmt ≡ true → have_shapes (hs ++ h ∷ []) (stmts ++ stmt ∷ []) ≡ true) → (b && have_shapes (hs ++ h ∷ []) (stmts ++ stmt ∷ [])) ≡ true
    by true f next = next f s
    by false f next = absurd cc

pub one_more : (made new : List (ℕ × ℕ)) (stmts items : List StmtModel) (i n q : ℕ) (x : StmtModel) → items ≡ stmts → have_shapes made (take i stmts) ≡ true → i < length items → x ≡ get_or items i x → n ≡ length x.loops → q ≡ length x.quots → new ≡ made ++ (n, q) ∷ []
    → have_shapes new (take (i + 1) stmts) ≡ true
one_more made new stmts items i n q x same e l is nx qx en =
    let k : i < length stmts = subst (λ (z : List StmtModel). i < length z) same l in
    let at : x ≡ get_or stmts i x = subst (λ (z : List StmtModel). x ≡ get_or z i x) same is in
    let last : take (i + 1) stmts ≡ take i stmts ++ x ∷ [] = take_more stmts i x k ∙ ap (λ (z : StmtModel). take i stmts ++ z ∷ []) (sym at) in
    (λ j. have_shapes (en j) (last j)) ∙ last_shape made (take i stmts) (n, q) x e (shape_is x n q nx qx)

pub all_shapes : (made : List (ℕ × ℕ)) (stmts items : List StmtModel) (i : ℕ) → items ≡ stmts → have_shapes made (take i stmts) ≡ true → length items ≤ i → have_shapes made stmts ≡ true
all_shapes made stmts items i same e l = ap (have_shapes made) (sym (take_all i stmts (subst (λ (z : List StmtModel). length z ≤ i) same l))) ∙ e
