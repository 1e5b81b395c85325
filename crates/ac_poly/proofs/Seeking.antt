-- Looking for the first fault.
use Rattle.std.proofs.Common.{◌≡◌, ℕ, suc, ◌+◌, ◌<◌, ◌≤◌, List, ◌∷◌, length, drop, get_or, refl, sym, ap, ◌∙◌, arith, rules, ℤ, subst, sum_by, Option, Some, None, Result, Ok, Err, add_assoc, add-zero, cond, true, false}
use Rattle.std.specs.Prelude.{nat_lt}
use Rattle.std.specs.Result.{IsErrAnd}
use Rattle.std.proofs.lemmas.List.{drop_more, drop_all}
use Rattle.std.proofs.lemmas.Bool.Decides.{nat_tests}
use Rattle.std.proofs.lemmas.List.Sums.{sum_by-cons}
use Rattle.ac_syntax.specs.LoopNests.{loop_count, loop_count_in}
use Rattle.ac_syntax.specs.declared.tree.Place.{Place}
use Rattle.ac_syntax.specs.declared.tree.IndexExpr.{IndexExpr}
use Rattle.ac_syntax.specs.declared.tree.Value.{Value}
use Rattle.ac_syntax.specs.declared.tree.Cond.{Cond}
use Rattle.ac_syntax.specs.declared.tree.Stmt.{Stmt, Row_of-Stmt, end_of-Stmt, more_of-Stmt, items-the_row-Stmt, the_lemmas}
use Rattle.ac_syntax.specs.declared.tree.Stmt.TheVariants.{For, If, Assign, For', If'}
use Rattle.ac_poly.specs.LoweringSteps.{ways, pieces_by, or_first, fault, fault_in, fault_all, Seeks, SeeksAll}
use Rattle.ac_poly.specs.declared.types.LowerFault.{LowerFault}
use Rattle.ac_poly.specs.declared.types.LowerFault.TheVariants.{Pieces, Wide}
use Rattle.ac_poly.proofs.Answering.{answers_map, err_map, err_is}

pub loops_row : (m : _) (k : Row_of-Stmt m) → loop_count_in k ≡ sum_by loop_count (items-the_row-Stmt m k)
unfolding loop_count
loops_row m end_of-Stmt = refl
loops_row m (more_of-Stmt {n = n} s rest) = ap (λ k. loop_count s + k) (loops_row n rest) ∙ sym (sum_by-cons loop_count s (items-the_row-Stmt n rest))

for_row : (iter : List ℕ) (start : IndexExpr) (c : Cond) (step : ℤ) (n : _) (body : Row_of-Stmt _) (place : Place) → loop_count (For' iter start c step n body place) ≡ suc (sum_by loop_count (items-the_row-Stmt _ body))
unfolding loop_count
for_row iter start c step n body place = ap (λ k. suc k) (loops_row _ body)

pub loops_for : (iter : List ℕ) (start : IndexExpr) (c : Cond) (step : ℤ) (body : List Stmt) (place : Place) → loop_count (For iter start c step body place) ≡ suc (sum_by loop_count body)
loops_for iter start c step body place = search (rules, the_lemmas, for_row)

if_row : (c : Cond) (n : _) (taken : Row_of-Stmt _) (m : _) (other : Row_of-Stmt _) (place : Place) → loop_count (If' c n taken m other place) ≡ sum_by loop_count (items-the_row-Stmt _ taken) + sum_by loop_count (items-the_row-Stmt _ other)
unfolding loop_count
if_row c n taken m other place = λ i. loops_row _ taken i + loops_row _ other i

pub loops_if : (c : Cond) (taken other : List Stmt) (place : Place) → loop_count (If c taken other place) ≡ sum_by loop_count taken + sum_by loop_count other
loops_if c taken other place = search (rules, the_lemmas, if_row)

pub loops_assign : (array : ℕ) (subs : List IndexExpr) (value : Value) (place : Place) → loop_count (Assign array subs value place) ≡ 0
unfolding loop_count
loops_assign array subs value place = refl

fault_row : (m : _) (k : Row_of-Stmt m) (n : ℕ) → fault_in k n ≡ fault_all (items-the_row-Stmt m k) n
unfolding fault
fault_row m end_of-Stmt n = refl
fault_row m (more_of-Stmt {n = k} s rest) n = ap (λ r. or_first (fault s n) r) (fault_row k rest n)

fault_for_row : (iter : List ℕ) (start : IndexExpr) (c : Cond) (step : ℤ) (k : _) (body : Row_of-Stmt _) (place : Place) (n : ℕ) → fault (For' iter start c step k body place) n ≡ fault_all (items-the_row-Stmt _ body) n
unfolding fault
fault_for_row iter start c step k body place n = fault_row _ body n

pub fault_for : (iter : List ℕ) (start : IndexExpr) (c : Cond) (step : ℤ) (body : List Stmt) (place : Place) (n : ℕ) → fault (For iter start c step body place) n ≡ fault_all body n
fault_for iter start c step body place n = search (rules, the_lemmas, fault_for_row)

fault_if_row : (c : Cond) (k : _) (taken : Row_of-Stmt _) (m : _) (other : Row_of-Stmt _) (place : Place) (n : ℕ)
    → fault (If' c k taken m other place) n ≡ or_first (fault_all (items-the_row-Stmt _ taken) n) (fault_all (items-the_row-Stmt _ other) (pieces_by n (ways c.parts)))
unfolding fault
fault_if_row c k taken m other place n = λ i. or_first (fault_row _ taken n i) (fault_row _ other (pieces_by n (ways c.parts)) i)

pub fault_if : (c : Cond) (taken other : List Stmt) (place : Place) (n : ℕ) → fault (If c taken other place) n ≡ or_first (fault_all taken n) (fault_all other (pieces_by n (ways c.parts)))
fault_if c taken other place n = search (rules, the_lemmas, fault_if_row)

pub fault_assign : (array : ℕ) (subs : List IndexExpr) (value : Value) (place : Place) (n : ℕ) → fault (Assign array subs value place) n ≡ Some (cond (nat_lt 16 n) (Pieces place) (Wide place))
unfolding fault
fault_assign array subs value place n = refl

pub seek_for : (r : Result ℕ LowerFault) (s : Stmt) (iter : List ℕ) (start : IndexExpr) (c : Cond) (step : ℤ) (body body2 : List Stmt) (place : Place) (number next pieces : ℕ)
    → s ≡ For iter start c step body place → body2 ≡ body → next ≡ number + 1 → SeeksAll r body2 next pieces → Seeks r s number pieces
seek_for r s iter start c step body body2 place number next pieces is b n h =
    subst (λ s. Seeks r s number pieces) (sym is)
    (answers_map r _ _ _ _
    (λ after x. ((let l = loops_for iter start c step body place in let e : sum_by loop_count body2 ≡ sum_by loop_count body = ap (λ x. sum_by loop_count x) b in let a : after ≡ next + sum_by loop_count body2 = x.0 in let q : after ≡ number + loop_count (For iter start c step body place) = omega arith in q), fault_for iter start c step body place pieces ∙ ap (λ x. fault_all x pieces) (sym b) ∙ x.1))
    (λ f x. fault_for iter start c step body place pieces ∙ ap (λ x. fault_all x pieces) (sym b) ∙ x) h)

pub seek_if : (r : Result ℕ LowerFault) (s : Stmt) (c : Cond) (taken other taken2 other2 : List Stmt) (place : Place) (number next pieces inner : ℕ)
    → s ≡ If c taken other place → taken2 ≡ taken → other2 ≡ other → SeeksAll (Ok next) taken2 number pieces → inner ≡ pieces_by pieces (ways c.parts) → SeeksAll r other2 next inner → Seeks r s number pieces
seek_if r s c taken other taken2 other2 place number next pieces inner is t o a n h =
    let a0 : (next ≡ number + sum_by loop_count taken) × (fault_all taken pieces ≡ None) = subst (λ x. SeeksAll (Ok next) x number pieces) t a in
    let h0 : SeeksAll r other next (pieces_by pieces (ways c.parts)) = subst (λ k. SeeksAll r other next k) n (subst (λ x. SeeksAll r x next inner) o h) in
    let e : fault (If c taken other place) pieces ≡ fault_all other (pieces_by pieces (ways c.parts)) = fault_if c taken other place pieces ∙ ap (λ f. or_first f (fault_all other (pieces_by pieces (ways c.parts)))) a0.1 in
    subst (λ s. Seeks r s number pieces) (sym is)
    (answers_map r _ _ _ _
    (λ after x. ((let l = loops_if c taken other place in let b : next ≡ number + sum_by loop_count taken = a0.0 in let d : after ≡ next + sum_by loop_count other = x.0 in let q : after ≡ number + loop_count (If c taken other place) = omega arith in q), e ∙ x.1))
    (λ f x. e ∙ x) h0)

found_first : (a b : Option LowerFault) (f : LowerFault) → a ≡ Some f → or_first a b ≡ Some f
found_first a b f e = ap (λ x. or_first x b) e

pub seek_if_stops : (r : Result ℕ LowerFault) (stop : LowerFault) (s : Stmt) (c : Cond) (taken other taken2 : List Stmt) (place : Place) (number pieces : ℕ)
    → IsErrAnd r (λ e. e ≡ stop) → s ≡ If c taken other place → taken2 ≡ taken → SeeksAll (Err stop) taken2 number pieces → Seeks r s number pieces
seek_if_stops r stop s c taken other taken2 place number pieces e is t h =
    subst (λ r. Seeks r s number pieces) (sym (err_is r stop e))
    (subst (λ s. Seeks (Err stop) s number pieces) (sym is)
    (err_map stop _ _ _ _ (λ f x. fault_if c taken other place pieces ∙ found_first (fault_all taken pieces) _ f (ap (λ x. fault_all x pieces) (sym t) ∙ x)) h))

pub seek_many : (s : Stmt) (array : ℕ) (subs : List IndexExpr) (value : Value) (place : Place) (number pieces : ℕ) → s ≡ Assign array subs value place → 16 < pieces → Seeks (Err (Pieces place)) s number pieces
seek_many s array subs value place number pieces is h =
    let e : nat_lt 16 pieces ≡ true = grind (arith, nat_tests) in
    subst (λ s. fault s pieces ≡ Some (Pieces place)) (sym is) (fault_assign array subs value place pieces ∙ ap (λ b. Some (cond b (Pieces place) (Wide place))) e)

pub seek_few : (s : Stmt) (array : ℕ) (subs : List IndexExpr) (value : Value) (place : Place) (number pieces : ℕ) → s ≡ Assign array subs value place → pieces ≤ 16 → Seeks (Err (Wide place)) s number pieces
seek_few s array subs value place number pieces is h =
    let e : nat_lt 16 pieces ≡ false = grind (arith, nat_tests) in
    subst (λ s. fault s pieces ≡ Some (Wide place)) (sym is) (fault_assign array subs value place pieces ∙ ap (λ b. Some (cond b (Pieces place) (Wide place))) e)

-- before the statement i of a list: what is counted, and what is left
pub record Sought (ss : List Stmt) (number pieces i next : ℕ) : Type 0 where
  pub count : next + sum_by loop_count (drop i ss) ≡ number + sum_by loop_count ss
  pub value : fault_all ss pieces ≡ fault_all (drop i ss) pieces

more : (ss : List Stmt) (i : ℕ) (s : Stmt) → i < length ss → s ≡ get_or ss i s → drop i ss ≡ s ∷ drop (i + 1) ss
more ss i s l e = drop_more ss i s l ∙ ap (λ y. y ∷ drop (i + 1) ss) (sym e)

pub sought_start : (ss : List Stmt) (number pieces : ℕ) → Sought ss number pieces 0 number
sought_start ss number pieces = record { count = refl; value = refl }

pub sought_step : (ss : List Stmt) (number pieces i next after : ℕ) (s : Stmt) → Sought ss number pieces i next → i < length ss → s ≡ get_or ss i s → Seeks (Ok after) s next pieces → Sought ss number pieces (i + 1) after
sought_step ss number pieces i next after s h l e x =
    let d = more ss i s l e in
    record {
      count = rw x.0 (add_assoc next (loop_count s) (sum_by loop_count (drop (i + 1) ss)) ∙ ap (λ n. next + n) (sym (sum_by-cons loop_count s (drop (i + 1) ss))) ∙ (rw d at h.count));
      value = h.value ∙ ap (λ l. fault_all l pieces) d ∙ ap (λ f. or_first f (fault_all (drop (i + 1) ss) pieces)) x.1;
    }

pub sought_end : (ss : List Stmt) (number pieces i next : ℕ) → Sought ss number pieces i next → length ss ≤ i → SeeksAll (Ok next) ss number pieces
sought_end ss number pieces i next h l =
    let d = drop_all i ss l in
    ((let c = rw d at h.count in sym (add-zero next) ∙ c), h.value ∙ ap (λ l. fault_all l pieces) d)

pub sought_stops : (r : Result ℕ LowerFault) (stop : LowerFault) (ss : List Stmt) (number pieces i next : ℕ) (s : Stmt) → IsErrAnd r (λ e. e ≡ stop) → Sought ss number pieces i next → i < length ss → s ≡ get_or ss i s
    → Seeks (Err stop) s next pieces → SeeksAll r ss number pieces
sought_stops r stop ss number pieces i next s is h l e x =
    subst (λ r. SeeksAll r ss number pieces) (sym (err_is r stop is))
    (err_map stop _ _ _ _ (λ f g. h.value ∙ ap (λ l. fault_all l pieces) (more ss i s l e) ∙ found_first (fault s pieces) _ f g) x)

pub ruleset seek_steps = (seek_for, seek_if, seek_if_stops, seek_many, seek_few)

pub ruleset sought_steps = (sought_start, sought_step, sought_end, sought_stops)
