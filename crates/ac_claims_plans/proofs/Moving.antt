-- A certificate that is accepted on a question is accepted, moved, on each path on which the question stands.
use Rattle.std.proofs.Common.{Result, Ok, Err, ◌≡◌, ℕ, suc, ◌+◌, ℤ, pos, ◌≤ℤ◌, int_le, nat_le, List, [], ◌∷◌, length, map, Option, Some, None, Bool, true, false, cond, slice_get, refl, ap}
use Rattle.std.specs.Prelude.{IfOk}
use Rattle.std.specs.declared.alloc.AllocError.{AllocError}
use Rattle.std.specs.Ordering.{int_eq}
use Rattle.ac_forms.specs.Affine.{Affine}
use Rattle.ac_forms.specs.Rows.{IsWellMade}
use Rattle.ac_forms.specs.declared.conj.Conj.{Conj}
use Rattle.ac_forms.specs.declared.row.Row.{Row}
use Rattle.ac_forms.specs.declared.row.Row.TheVariants.{Eq, Div, Ge}
use Rattle.ac_cert.specs.AcceptedTrees.{Accepts, absurd_refusals}
use Rattle.ac_cert.specs.AbsurdEnd.{is_absurd, is_false, absurd_refusal}
use Rattle.ac_cert.specs.CertificateFaults.{Fault, Onward, later, first_fault_of, step_fault, path_fault, split_fault, child_count, node_count, fault_of, row_fault}
use Rattle.ac_cert.specs.Rules.{all_zero, after_step, rule_of, both_sides, class, has_class, is_partition}
use Rattle.ac_cert.specs.declared.ends.Absurd.{Absurd}
use Rattle.ac_cert.specs.declared.types.Next as tree
use Rattle.ac_cert.specs.declared.types.Rule.TheVariants as rule
use Rattle.ac_cert.specs.declared.types.Step.{Step}
use Rattle.ac_cert.specs.declared.types.Tree.{Tree}
use Rattle.ac_cert.proofs.Soundness.{first-none, no-refusal, if-none}
use Rattle.ac_cert.proofs.StepRules.{step-keeps, sides-keep, class-over}
use Rattle.ac_base.proofs.Truths.{and-true, le-true}
use Rattle.ac_claims_paths.specs.PathSteps.{Pairing, at_rows}
use Rattle.ac_claims_paths.specs.declared.path.Path.{Path}
use Rattle.ac_claims.specs.PlanFaults.{steps_fault, absurd_fault, count_of, line_count, next_fault, classes_fault}
use Rattle.ac_claims.specs.declared.types.Claim.{Claim}
use Rattle.ac_claims.specs.declared.types.Plan.{Plan}
use Rattle.ac_claims.specs.declared.types.PlanNext as plan
use Rattle.ac_claims.specs.declared.types.PlanNext.TheVariants as end
use Rattle.ac_claims_plans.specs.Embeddings.{row_on, moved_form, moved_step}
use Rattle.ac_claims_plans.specs.PlanAcceptance.{Serves, IsMovedNext, AreMovedKids, IsMoved}
use Rattle.ac_claims_plans.specs.declared.embedding.Embedding.{Embedding}
use Rattle.ac_claims_plans.proofs.Named.{named, Stands, IsShifted}
use Rattle.ac_claims_plans.proofs.Renamings.{moved-all_zero}
use Rattle.ac_claims_plans.proofs.EmbeddedSteps.{moved-on, sides-on, partition-on, class-on}
use Rattle.ac_claims_plans.proofs.Views.{view-shifted}

-- ---- an absurd row

absurd-at : (names : ℕ → Option ℕ) (d : Conj) (i : ℕ) (r : Row) → Stands names d i r → is_absurd (Some r) ≡ true → is_absurd (slice_get d.rows i) ≡ true
absurd-at names d i (Eq f) a e = let b = and-true (all_zero f.coefs) (is_false (Eq f)) e in rw (a.at, moved-all_zero names f a.form a.renames b.0, a.renames.konst) b.1
absurd-at names d i (Div m f) a e = let b = and-true (all_zero f.coefs) (is_false (Div m f)) e in rw (a.at, moved-all_zero names f a.form a.renames b.0, a.renames.konst) b.1
absurd-at names d i (Ge f) a e = let b = and-true (all_zero f.coefs) (is_false (Ge f)) e in rw (a.at, moved-all_zero names f a.form a.renames b.0, a.renames.konst) b.1

is-accepted : (b : Bool) → cond b None (Some rule.Absurd) ≡ None → b ≡ true
is-accepted true e = refl
is-accepted false e = absurd cc

absurd-on : (s : Embedding) (c d : Conj) (i : ℕ) → IsShifted s c d → absurd_refusal i c ≡ None → is_absurd (slice_get d.rows (row_on s i)) ≡ true
absurd-on s c d i x e = by (slice_get c.rows i) refl (is-accepted (is_absurd (slice_get c.rows i)) e)
  where
    by : (o : Option Row) → slice_get c.rows i ≡ o → is_absurd o ≡ true → is_absurd (slice_get d.rows (row_on s i)) ≡ true
    by None p t = absurd cc
    by (Some r) p t = absurd-at (named s) d (row_on s i) r (x.rows i r p) t

end-moved : (s : Embedding) (c d : Conj) (e : Absurd) (i k : ℕ) → i ≡ row_on s e.row → IsShifted s c d → absurd_refusal e.row c ≡ None → absurd_fault (absurd_refusal i d) k ≡ None
end-moved s c d e i k is x a = rw (is, absurd-on s c d e.row x a) refl

-- ---- steps

steps-moved : (s : Embedding) (ts : List Step) (go : Onward) (on : Conj → ℕ → Fault) (c d : Conj) (j k : ℕ) → IsShifted s c d → IsWellMade d → path_fault ts go c j ≡ None
    → ((a b : Conj) (i l : ℕ) → IsShifted s a b → IsWellMade b → go a i ≡ None → on b l ≡ None) → steps_fault (map (moved_step s) ts) on d k ≡ None
steps-moved s [] go on c d j k x w e h = h c d j k x w e
steps-moved s (t ∷ ts) go on c d j k x w e h = by (after_step t c) refl e (λ a b n made f. steps-moved s ts go on a b (later j 1) (k + 1) n made f h)
  where
    by : (o : Option Conj) → after_step t c ≡ o → step_fault o (rule_of t) j (λ a. path_fault ts go a (later j 1)) ≡ None
        → ((a b : Conj) → IsShifted s a b → IsWellMade b → path_fault ts go a (later j 1) ≡ None → steps_fault (map (moved_step s) ts) on b (k + 1) ≡ None) → steps_fault (map (moved_step s) (t ∷ ts)) on d k ≡ None
    by None p f again = absurd cc
    by (Some a) p f again =
        let m = moved-on s t c a d x w p in
        rw m.is (again a m.path m.shifted (step-keeps (moved_step s t) d m.path m.is w).made f)

-- ---- branches

both-none : (a b : Fault) → a ≡ None → b ≡ None → first_fault_of a b ≡ None
both-none a b e f = rw (e, f) refl

split-moved : (s : Embedding) (f g : Affine) (c d : Conj) (j k : ℕ) (left right low high : Conj → Fault) → g ≡ moved_form s f → IsShifted s c d → IsWellMade d → split_fault (both_sides f c) j left right ≡ None
    → ((a b : Conj) → IsShifted s a b → IsWellMade b → left a ≡ None → low b ≡ None) → ((a b : Conj) → IsShifted s a b → IsWellMade b → right a ≡ None → high b ≡ None) → split_fault (both_sides g d) k low high ≡ None
split-moved s f g c d j k left right low high is x w e l r = rw is (by (both_sides f c) refl e)
  where
    by : (o : Option (Conj × Conj)) → both_sides f c ≡ o → split_fault o j left right ≡ None → split_fault (both_sides (moved_form s f) d) k low high ≡ None
    by None p n = absurd cc
    by (Some (a, b)) p n =
        let m = sides-on s f c d a b x p in
        let made = sides-keep (moved_form s f) d m.left m.right m.is w in
        let t = first-none (left a) (right b) n in
        rw m.is (both-none (low m.left) (high m.right) (l a m.left m.first made.0 t.0) (r b m.right m.second made.1 t.1))

kids-counted : (s : Embedding) {w : _} (all : tree.Row_of-Tree Absurd w) {v : _} (each : plan.Row_of-Plan v) → AreMovedKids s all each → count_of each ≡ child_count all
kids-counted s tree.end_of-Tree plan.end_of-Plan h = refl
kids-counted s tree.end_of-Tree (plan.more_of-Plan xs v more) h = absurd h
kids-counted s (tree.more_of-Tree ss l rest) plan.end_of-Plan h = absurd h
kids-counted s (tree.more_of-Tree ss l rest) (plan.more_of-Plan xs v more) h = ap (λ (n : ℕ). suc n) (kids-counted s rest more h.2)

-- the parts of a residue branch that stands
record Partition (m : ℤ) (f : Affine) (columns : ℕ) : Type 0 where
  positive : pos 1 ≤ℤ m
  within : nat_le (length f.coefs) columns ≡ true

partition-parts : (m : ℤ) (f : Affine) (columns count : ℕ) → is_partition m f columns count ≡ true → Partition m f columns
unfolding is_partition has_class
partition-parts m f columns count e =
    let a = and-true (int_eq m (pos count)) _ e in
    let b = and-true (int_le (pos 1) m) _ a.1 in
    let c = and-true (nat_le (length f.coefs) columns) _ b.1 in
    record { positive = le-true (pos 1) m b.0; within = c.0 }

class-moved : (s : Embedding) (m : ℤ) (f : Affine) (i : ℤ) (d : Conj) → Partition m (moved_form s f) d.columns → IsWellMade d → IsWellMade (class m (moved_form s f) i d)
class-moved s m f i d p w = class-over m (moved_form s f) i d p.positive p.within w

-- ---- all nodes

mutual
  next-moved : (g : Pairing) (cs : List Claim) (s : Embedding) (x : tree.Next Absurd) (y : plan.PlanNext) (c : Conj) (h : Path) (j k : ℕ) → IsMovedNext s x y → IsShifted s c h.conj → IsWellMade h.conj → fault_of x absurd_refusals c j ≡ None → next_fault g cs y h k ≡ None
  next-moved g cs s (tree.End e) (end.Absurd i) c h j k m x w f = end-moved s c h.conj e i k m x (no-refusal (absurd_refusal e.row c) j f)
  next-moved g cs s (tree.Split' e p ss l q ts r) (plan.Split' u b xs v t ys z) c h j k m x w f =
      split-moved s e u c h.conj j k _ _ _ _ m.0 x w f
      (λ a d n made h0. rw m.1 (steps-moved s ss (fault_of l absurd_refusals) (λ b. next_fault g cs v (at_rows h b)) a d (later j 1) (k + 1) n made h0 (λ a1 b1 i1 k1 n1 w1 f1. next-moved g cs s l v a1 (at_rows h b1) i1 k1 m.2 n1 w1 f1)))
      (λ a d n made h0. rw m.3 (steps-moved s ts (fault_of r absurd_refusals) (λ b. next_fault g cs z (at_rows h b)) a d _ _ n made h0 (λ a1 b1 i1 k1 n1 w1 f1. next-moved g cs s r z a1 (at_rows h b1) i1 k1 m.4 n1 w1 f1)))
  next-moved g cs s (tree.Residue' n e shape all) (plan.Residue' o u form each) c h j k m x w f =
      let both = if-none (is_partition n e c.columns (child_count all)) (row_fault all absurd_refusals n e 0 c (later j 1)) (j, rule.Residue) f in
      let there = partition-on s n e c h.conj (child_count all) x both.0 in
      rw (m.0, m.1, kids-counted s all each m.2, there)
      (kids-moved g cs s all each n e 0 c h (later j 1) (k + 1) m.2 x w (partition-parts n (moved_form s e) h.conj.columns (child_count all) there) both.1)
  next-moved g cs s (tree.Split' e p ss l q ts r) (plan.Residue' o u form each) c h j k m x w f = absurd m
  next-moved g cs s (tree.Split' e p ss l q ts r) (plan.Go' order u each) c h j k m x w f = absurd m
  next-moved g cs s (tree.Split' e p ss l q ts r) (end.Absurd i) c h j k m x w f = absurd m
  next-moved g cs s (tree.Split' e p ss l q ts r) (end.Killed kill) c h j k m x w f = absurd m
  next-moved g cs s (tree.Split' e p ss l q ts r) (end.Hit claim) c h j k m x w f = absurd m
  next-moved g cs s (tree.Split' e p ss l q ts r) end.SameNumber c h j k m x w f = absurd m
  next-moved g cs s (tree.Split' e p ss l q ts r) end.SameInitial c h j k m x w f = absurd m
  next-moved g cs s (tree.Residue' n e shape all) (plan.Split' u b xs v t ys z) c h j k m x w f = absurd m
  next-moved g cs s (tree.Residue' n e shape all) (plan.Go' order u each) c h j k m x w f = absurd m
  next-moved g cs s (tree.Residue' n e shape all) (end.Absurd i) c h j k m x w f = absurd m
  next-moved g cs s (tree.Residue' n e shape all) (end.Killed kill) c h j k m x w f = absurd m
  next-moved g cs s (tree.Residue' n e shape all) (end.Hit claim) c h j k m x w f = absurd m
  next-moved g cs s (tree.Residue' n e shape all) end.SameNumber c h j k m x w f = absurd m
  next-moved g cs s (tree.Residue' n e shape all) end.SameInitial c h j k m x w f = absurd m
  next-moved g cs s (tree.End e) (plan.Split' u b xs v t ys z) c h j k m x w f = absurd m
  next-moved g cs s (tree.End e) (plan.Residue' o u form each) c h j k m x w f = absurd m
  next-moved g cs s (tree.End e) (plan.Go' order u each) c h j k m x w f = absurd m
  next-moved g cs s (tree.End e) (end.Killed kill) c h j k m x w f = absurd m
  next-moved g cs s (tree.End e) (end.Hit claim) c h j k m x w f = absurd m
  next-moved g cs s (tree.End e) end.SameNumber c h j k m x w f = absurd m
  next-moved g cs s (tree.End e) end.SameInitial c h j k m x w f = absurd m

  kids-moved : (g : Pairing) (cs : List Claim) (s : Embedding) {w : _} (all : tree.Row_of-Tree Absurd w) {v : _} (each : plan.Row_of-Plan v) (n : ℤ) (e : Affine) (i : ℕ) (c : Conj) (h : Path) (j k : ℕ) → AreMovedKids s all each → IsShifted s c h.conj → IsWellMade h.conj
      → Partition n (moved_form s e) h.conj.columns → row_fault all absurd_refusals n e i c j ≡ None → classes_fault g cs each n (moved_form s e) i h k ≡ None
  kids-moved g cs s tree.end_of-Tree plan.end_of-Plan n e i c h j k m x w p f = refl
  kids-moved g cs s (tree.more_of-Tree ss l rest) (plan.more_of-Plan xs v more) n e i c h j k m x w p f =
      let both = first-none (path_fault ss (fault_of l absurd_refusals) (class n e (pos i) c) j) (row_fault rest absurd_refusals n e (i + 1) c (later j (length ss + node_count l))) f in
      both-none _ _
      (rw m.0 (steps-moved s ss (fault_of l absurd_refusals) (λ b. next_fault g cs v (at_rows h b)) (class n e (pos i) c) (class n (moved_form s e) (pos i) h.conj) j k (class-on s n e (pos i) c h.conj x) (class-moved s n e (pos i) h.conj p w) both.0
      (λ a1 b1 i1 k1 n1 w1 f1. next-moved g cs s l v a1 (at_rows h b1) i1 k1 m.1 n1 w1 f1)))
      (kids-moved g cs s rest more n e (i + 1) c h (later j (length ss + node_count l)) (k + (length xs + line_count v)) m.2 x w p both.1)
  kids-moved g cs s tree.end_of-Tree (plan.more_of-Plan xs v more) n e i c h j k m x w p f = absurd m
  kids-moved g cs s (tree.more_of-Tree ss l rest) plan.end_of-Plan n e i c h j k m x w p f = absurd m

pub moved-serves : (s : Embedding) (t : Tree Absurd) (p : Plan) → IsMoved s t p → (g : Pairing) (cs : List Claim) (h : Path) (c : Conj) → IsWellMade c → Accepts t absurd_refusals c → Serves g cs h s c p
moved-serves s t p m g cs h c made a d v w k =
    rw m.0 (steps-moved s t.steps (fault_of t.next absurd_refusals) (λ b. next_fault g cs p.next (at_rows h b)) c d 0 k (view-shifted s c d made v) w (a 0)
    (λ a1 b1 i1 k1 n1 w1 f1. next-moved g cs s t.next p.next a1 (at_rows h b1) i1 k1 m.1 n1 w1 f1))

pub moved_result : (res : Result Plan AllocError) (s : Embedding) (t : Tree Absurd) → IfOk res (λ p. IsMoved s t p) → IfOk res (λ p. (g : Pairing) (cs : List Claim) (h : Path) (c : Conj) → IsWellMade c → Accepts t absurd_refusals c → Serves g cs h s c p)
moved_result (Ok p) s t m = moved-serves s t p m
moved_result (Err e) s t m = tt
