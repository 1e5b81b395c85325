-- What the steps over statements make.
use Rattle.std.proofs.Common.{◌≡◌, ℕ, ◌+◌, ◌<◌, ◌≤◌, List, [], ◌∷◌, ◌++◌, length, drop, get_or, refl, sym, ap, ◌∙◌, append_assoc, append-nil, rules, sum_by, ℤ}
use Rattle.std.proofs.lemmas.List.{drop_more, drop_all}
use Rattle.ac_syntax.specs.Trace.{assignments}
use Rattle.ac_syntax.specs.declared.tree.Place.{Place}
use Rattle.ac_syntax.specs.declared.tree.Cond.{Cond}
use Rattle.ac_syntax.specs.declared.tree.IndexExpr.{IndexExpr}
use Rattle.ac_syntax.specs.declared.tree.Value.{Value}
use Rattle.ac_syntax.specs.declared.tree.Stmt.{Stmt, Row_of-Stmt, end_of-Stmt, more_of-Stmt, items-the_row-Stmt, the_lemmas}
use Rattle.ac_syntax.specs.declared.tree.Stmt.TheVariants.{For, For', If, If', Assign}
use Rattle.ac_syntax.proofs.Assignments.{row as count_row}
use Rattle.ac_assoc_law.specs.ArrangedPairs.{arranged, arranged_stmt, arranged_body, arranged_all}

more : {A : Type 0} (xs : List A) (i : ℕ) (x : A) → i < length xs → x ≡ get_or xs i x → drop i xs ≡ x ∷ drop (i + 1) xs
more xs i x l e = drop_more xs i x l ∙ ap (λ y. y ∷ drop (i + 1) xs) (sym e)

body_row : (names : List (List ℕ)) (choice : ℕ → ℕ → ℕ) (m : _) (k : Row_of-Stmt m) (first : ℕ) → arranged_body names choice first k ≡ arranged_all names choice first (items-the_row-Stmt m k)
unfolding arranged_stmt
body_row names choice m end_of-Stmt first = refl
body_row names choice m (more_of-Stmt {n = n} s rest) first = ap (λ r. arranged_stmt names choice first s ∷ r) (body_row names choice n rest (first + assignments s))

for_row : (names : List (List ℕ)) (choice : ℕ → ℕ → ℕ) (first : ℕ) (iter : List ℕ) (start : IndexExpr) (cond : Cond) (step : ℤ) (n : _) (body : Row_of-Stmt _) (place : Place)
    → arranged_stmt names choice first (For' iter start cond step n body place) ≡ For iter start cond step (arranged_all names choice first (items-the_row-Stmt _ body)) place
unfolding arranged_stmt
for_row names choice first iter start cond step n body place = ap (λ r. For iter start cond step r place) (body_row names choice _ body first)

pub arranged_for : (names : List (List ℕ)) (choice : ℕ → ℕ → ℕ) (first : ℕ) (iter : List ℕ) (start : IndexExpr) (cond : Cond) (step : ℤ) (body : List Stmt) (place : Place)
    → arranged_stmt names choice first (For iter start cond step body place) ≡ For iter start cond step (arranged_all names choice first body) place
arranged_for names choice first iter start cond step body place = search (rules, the_lemmas, for_row)

if_row : (names : List (List ℕ)) (choice : ℕ → ℕ → ℕ) (first : ℕ) (cond : Cond) (n : _) (taken : Row_of-Stmt _) (m : _) (other : Row_of-Stmt _) (place : Place)
    → arranged_stmt names choice first (If' cond n taken m other place)
    ≡ If cond (arranged_all names choice first (items-the_row-Stmt _ taken)) (arranged_all names choice (first + sum_by assignments (items-the_row-Stmt _ taken)) (items-the_row-Stmt _ other)) place
unfolding arranged_stmt
if_row names choice first cond n taken m other place =
    λ i. If cond (body_row names choice _ taken first i) ((ap (λ k. arranged_body names choice (first + k) other) (count_row _ taken) ∙ body_row names choice _ other (first + sum_by assignments (items-the_row-Stmt _ taken))) i) place

pub arranged_if : (names : List (List ℕ)) (choice : ℕ → ℕ → ℕ) (first : ℕ) (cond : Cond) (taken other : List Stmt) (place : Place)
    → arranged_stmt names choice first (If cond taken other place) ≡ If cond (arranged_all names choice first taken) (arranged_all names choice (first + sum_by assignments taken) other) place
arranged_if names choice first cond taken other place = search (rules, the_lemmas, if_row)

pub arranged_assign : (names : List (List ℕ)) (choice : ℕ → ℕ → ℕ) (first : ℕ) (array : ℕ) (subs : List IndexExpr) (value : Value) (place : Place)
    → arranged_stmt names choice first (Assign array subs value place) ≡ Assign array subs (arranged names (choice first) 0 value) place
unfolding arranged_stmt
arranged_assign names choice first array subs value place = refl

pub ruleset stmt_steps = (arranged_for, arranged_if, arranged_assign)

pub record StmtsMade (names : List (List ℕ)) (choice : ℕ → ℕ → ℕ) (first : ℕ) (ss : List Stmt) (i : ℕ) (made : List Stmt) (at : ℕ) : Type 0 where
  pub value : arranged_all names choice first ss ≡ made ++ arranged_all names choice at (drop i ss)

pub stmts_step : (names : List (List ℕ)) (choice : ℕ → ℕ → ℕ) (first : ℕ) (ss : List Stmt) (i : ℕ) (made new : List Stmt) (at next : ℕ) (s t : Stmt) → StmtsMade names choice first ss i made at → i < length ss → s ≡ get_or ss i s
    → t ≡ arranged_stmt names choice at s → new ≡ made ++ t ∷ [] → next ≡ at + assignments s → StmtsMade names choice first ss (i + 1) new next
stmts_step names choice first ss i made new at next s t h l e m n k =
    record { value = rw (n, k, m) (h.value ∙ rw (more ss i s l e) (sym (append_assoc made (arranged_stmt names choice at s ∷ []) (arranged_all names choice (at + assignments s) (drop (i + 1) ss))))) }

pub stmts_end : (names : List (List ℕ)) (choice : ℕ → ℕ → ℕ) (first : ℕ) (ss : List Stmt) (i : ℕ) (made : List Stmt) (at : ℕ) → StmtsMade names choice first ss i made at → length ss ≤ i → made ≡ arranged_all names choice first ss
stmts_end names choice first ss i made at h l = sym ((h.value ∙ ap (λ r. made ++ arranged_all names choice at r) (drop_all i ss l)) ∙ append-nil made)

pub for_made : (names : List (List ℕ)) (choice : ℕ → ℕ → ℕ) (first : ℕ) (s : Stmt) (iter iter2 : List ℕ) (start start2 : IndexExpr) (cond cond2 : Cond) (step step2 : ℤ) (body body2 made : List Stmt) (place : Place)
    → s ≡ For iter start cond step body place → iter2 ≡ iter → start2 ≡ start → cond2 ≡ cond → step2 ≡ step → body2 ≡ body → made ≡ arranged_all names choice first body2
    → For iter2 start2 cond2 step2 made place ≡ arranged_stmt names choice first s
for_made names choice first s iter iter2 start start2 cond cond2 step step2 body body2 made place is a b c d e m =
    (λ i. For (a i) (b i) (c i) (d i) ((m ∙ ap (arranged_all names choice first) e) i) place)
    ∙ sym (ap (arranged_stmt names choice first) is ∙ arranged_for names choice first iter start cond step body place)
