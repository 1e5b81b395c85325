-- A tree in which no node fails covers each point of its rows.
use Rattle.std.proofs.Common.{◌≡◌, ℕ, zero, suc, ◌+◌, ◌<◌, ◌≤◌, ℤ, pos, negsuc, ◌-ℤ◌, ◌≤ℤ◌, nat_le, int_le, List, [], ◌∷◌, ◌++◌, append_assoc, append-nil, length, Option, Some, None, Bool, true, false, cond, ◌&&◌, ◌⊎◌, inl, inr, refl, sym, ap, ◌∙◌, subst, arith}
use Rattle.std.specs.Prelude.{option_map}
use Rattle.std.specs.Ordering.{int_eq}
use Rattle.std.proofs.lemmas.Bool.Decides.{Decides-int_eq}
use Rattle.std.proofs.lemmas.Int.{ints}
use Rattle.ac_forms.specs.Affine.{Affine}
use Rattle.ac_forms.specs.Fits.{fits}
use Rattle.ac_forms.specs.Rows.{IsWellMade}
use Rattle.ac_forms.specs.declared.conj.Conj.{Conj}
use Rattle.ac_omega_steps.specs.IntegerPoints.{IsPoint}
use Rattle.ac_base.proofs.Truths.{and-true, le-true}
use Rattle.ac_cert.specs.declared.types.Rule.{Rule}
use Rattle.ac_cert.specs.declared.types.Step.{Step}
use Rattle.ac_cert.specs.declared.types.Next.{Next, End, Split', Residue', Row_of-Tree, end_of-Tree, more_of-Tree}
use Rattle.ac_cert.specs.declared.types.Tree.{Tree}
use Rattle.ac_cert.specs.PointExtension.{Extends, Keeps}
use Rattle.ac_cert.specs.Rules.{after_step, rule_of, both_sides, class, is_partition, has_class}
use Rattle.ac_cert.specs.CertificateFaults.{Fault, Refusal, Onward, later, first_fault_of, step_fault, path_fault, split_fault, child_count, fault_of, row_fault, tree_fault}
use Rattle.ac_cert.specs.Cover.{Fact, AtStep, Along, AtSides, Covers, SomeCovers, IsCovered, AtSomeEnd}
use Rattle.ac_cert.proofs.StepRules.{step-keeps, sides-keep, class-over, class-some}

pub first-none : (a b : Fault) → first_fault_of a b ≡ None → (a ≡ None) × (b ≡ None)
first-none None b e = (refl, e)
first-none (Some a) b e = absurd cc

step-sound : (o : Option Conj) (r : Rule) (k : ℕ) (go : Conj → Fault) (P : Fact) (c : Conj) (p : List ℤ) → ((d : Conj) → o ≡ Some d → Keeps c d) → step_fault o r k go ≡ None → IsPoint c p → ((d : Conj) → IsWellMade d → go d ≡ None → (q : List ℤ) → IsPoint d q → P d q) → AtStep o P p
step-sound None r k go P c p keeps e at on = absurd cc
step-sound (Some d) r k go P c p keeps e at on =
    let kept = keeps d refl in
    let x = kept.goes_on p at in
    (x.0, x.1, on d kept.made e x.0 x.2)

pub path-sound : (steps : List Step) (go : Onward) (P : Fact) (c : Conj) (k : ℕ) → IsWellMade c → path_fault steps go c k ≡ None → ((d : Conj) (j : ℕ) → IsWellMade d → go d j ≡ None → (q : List ℤ) → IsPoint d q → P d q) → (p : List ℤ) → IsPoint c p → Along steps P c p
path-sound [] go P c k w e on p at = (at, on c k w e p at)
path-sound (s ∷ steps) go P c k w e on p at = (
  at,
  step-sound (after_step s c) (rule_of s) k (λ d. path_fault steps go d (later k 1)) (Along steps P) c p
      (λ d is. step-keeps s c d is w) e at
      (λ d wd ed q aq. path-sound steps go P d (later k 1) wd ed on q aq),
)

split-sound : (o : Option (Conj × Conj)) (k : ℕ) (left right : Conj → Fault) (L R : Conj → Type 0) → split_fault o k left right ≡ None → ((a b : Conj) → o ≡ Some (a, b) → left a ≡ None → right b ≡ None → L a ⊎ R b) → AtSides o L R
split-sound None k left right L R e h = absurd cc
split-sound (Some s) k left right L R e h = let f = first-none (left s.0) (right s.1) e in h s.0 s.1 refl f.0 f.1

pub no-refusal : (o : Option Rule) (k : ℕ) → option_map {U = ℕ × Rule} (λ r. (k, r)) o ≡ None → o ≡ None
no-refusal None k e = refl
no-refusal (Some r) k e = absurd cc

pub if-none : {A : Type 0} (b : Bool) (o : Option A) (x : A) → cond b o (Some x) ≡ None → (b ≡ true) × (o ≡ None)
if-none true o x e = (refl, e)
if-none false o x e = absurd cc

here_or_later : (c i : ℕ) → c ≤ i → (c ≡ i) ⊎ (c + 1 ≤ i)
here_or_later zero zero l = inl refl
here_or_later zero (suc i) l = inr (omega arith)
here_or_later (suc c) zero l = absurd (omega arith)
here_or_later (suc c) (suc i) l = elim (here_or_later c i (omega arith)) [ inl h ↦ inl (ap (λ (x : ℕ). suc x) h) | inr h ↦ inr (omega arith) ]

-- the parts of a residue branch that stands
record Partition (m : ℤ) (f : Affine) (columns count : ℕ) : Type 0 where
  modulus : m ≡ pos count
  positive : pos 1 ≤ℤ m
  within : nat_le (length f.coefs) columns ≡ true

partition : (m : ℤ) (f : Affine) (columns count : ℕ) → is_partition m f columns count ≡ true → Partition m f columns count
unfolding is_partition has_class
partition m f columns count e =
    let a = and-true (int_eq m (pos count)) (int_le (pos 1) m && (nat_le (length f.coefs) columns && fits (f.konst -ℤ (m -ℤ pos 1)))) e in
    let b = and-true (int_le (pos 1) m) (nat_le (length f.coefs) columns && fits (f.konst -ℤ (m -ℤ pos 1))) a.1 in
    let c = and-true (nat_le (length f.coefs) columns) (fits (f.konst -ℤ (m -ℤ pos 1))) b.1 in
    record { modulus = (Decides-int_eq m (pos count)).0 a.0; positive = le-true (pos 1) m b.0; within = c.0 }

natural : (z : ℤ) → pos 0 ≤ℤ z → (n : ℕ) × (z ≡ pos n)
natural (pos n) h = (n, refl)
natural (negsuc n) h = absurd (omega (arith, ints))

-- what makes an end's meaning hold
abbrev pub IsSound : {E : Type 0} → Refusal E → (E → List ℤ → Type 0) → Type 0
IsSound {E} refusal Means = (e : E) (c : Conj) (p : List ℤ) → refusal e c ≡ None → IsWellMade c → IsPoint c p → Means e p

mutual
  pub tree-sound : {E : Type 0} (x : Next E) (refusal : Refusal E) (Means : E → List ℤ → Type 0) → IsSound refusal Means → (c : Conj) (k : ℕ) → IsWellMade c → fault_of x refusal c k ≡ None → (p : List ℤ) → IsPoint c p → Covers x Means c p
  tree-sound (End e) refusal Means law c k w f p at = law e c p (no-refusal (refusal e c) k f) w at
  tree-sound (Split' g a s l b t r) refusal Means law c k w f p at =
      split-sound (both_sides g c) k _ _ _ _ f (λ left right is none_left none_right.
      let keep = sides-keep g c left right is w in
      elim (keep.2 p at) [
        | inl h ↦ inl (path-sound s (fault_of l refusal) (Covers l Means) left (later k 1) keep.0 none_left (λ d j wd ed q aq. tree-sound l refusal Means law d j wd ed q aq) p h)
        | inr h ↦ inr (path-sound t (fault_of r refusal) (Covers r Means) right _ keep.1 none_right (λ d j wd ed q aq. tree-sound r refusal Means law d j wd ed q aq) p h)
      ])
  tree-sound (Residue' m g shape all) refusal Means law c k w f p at =
      let both = if-none (is_partition m g c.columns (child_count all)) (row_fault all refusal m g 0 c (later k 1)) _ f in
      let parts = partition m g c.columns (child_count all) both.0 in
      let d = class-some m g c parts.positive p at in
      let n = natural d.0 d.1 in
      some-sound all refusal Means law m g 0 c (later k 1) w parts.positive parts.within both.1 p n.0 (omega arith) (omega (arith, ints, d.2, n.1, parts.modulus)) (subst (λ (x : ℤ). IsPoint (class m g x c) p) n.1 d.3)

  some-sound : {E : Type 0} {z : _} (all : Row_of-Tree E z) (refusal : Refusal E) (Means : E → List ℤ → Type 0) → IsSound refusal Means → (m : ℤ) (g : Affine) (i : ℕ) (c : Conj) (k : ℕ) → IsWellMade c → pos 1 ≤ℤ m → nat_le (length g.coefs) c.columns ≡ true → row_fault all refusal m g i c k ≡ None → (p : List ℤ) (j : ℕ) → i ≤ j → j < i + child_count all → IsPoint (class m g (pos j) c) p → SomeCovers all Means m g i c p
  some-sound end_of-Tree refusal Means law m g i c k w a v f p j low high at = absurd (omega arith)
  some-sound (more_of-Tree s t rest) refusal Means law m g i c k w a v f p j low high at =
      let both = first-none (path_fault s (fault_of t refusal) (class m g (pos i) c) k) _ f in
      elim (here_or_later i j low) [
        | inl h ↦ inl (path-sound s (fault_of t refusal) (Covers t Means) (class m g (pos i) c) k (class-over m g (pos i) c a v w) both.0 (λ d l wd ed q aq. tree-sound t refusal Means law d l wd ed q aq) p (subst (λ (x : ℕ). IsPoint (class m g (pos x) c) p) (sym h) at))
        | inr h ↦ inr (some-sound rest refusal Means law m g (i + 1) c _ w a v both.1 p j h (omega arith) at)
      ]

pub tree-covered : {E : Type 0} (t : Tree E) (refusal : Refusal E) (Means : E → List ℤ → Type 0) → IsSound refusal Means → (c : Conj) (k : ℕ) → IsWellMade c → tree_fault t refusal c k ≡ None → (p : List ℤ) → IsPoint c p → IsCovered t Means c p
tree-covered t refusal Means law c k w f p at =
    path-sound t.steps (fault_of t.next refusal) (Covers t.next Means) c k w f (λ d j wd ed q aq. tree-sound t.next refusal Means law d j wd ed q aq) p at

-- what a cover comes to for a caller: some end's meaning holds at the point with further numbers
pub Extends-again : (p q r : List ℤ) → Extends p q → Extends q r → Extends p r
Extends-again p q r a b = (a.0 ++ b.0, b.1 ∙ ap (λ (x : List ℤ). x ++ b.0) a.1 ∙ append_assoc p a.0 b.0)

end-further : {E : Type 0} (Means : E → List ℤ → Type 0) (p q : List ℤ) → Extends p q → AtSomeEnd Means q → AtSomeEnd Means p
end-further Means p q x a = (a.0, a.1, Extends-again p q a.1 x a.2, a.3)

step-end : {E : Type 0} (Means : E → List ℤ → Type 0) (o : Option Conj) (P : Fact) (p : List ℤ) → ((d : Conj) (q : List ℤ) → P d q → AtSomeEnd Means q) → AtStep o P p → AtSomeEnd Means p
step-end Means None P p on h = absurd h
step-end Means (Some d) P p on h = end-further Means p h.0 h.1 (on d h.0 h.2)

path-end : {E : Type 0} (Means : E → List ℤ → Type 0) (steps : List Step) (P : Fact) (c : Conj) (p : List ℤ) → ((d : Conj) (q : List ℤ) → P d q → AtSomeEnd Means q) → Along steps P c p → AtSomeEnd Means p
path-end Means [] P c p on h = on c p h.1
path-end Means (s ∷ steps) P c p on h = step-end Means (after_step s c) (Along steps P) p (λ d q a. path-end Means steps P d q on a) h.1

sides-end : {E : Type 0} (Means : E → List ℤ → Type 0) (o : Option (Conj × Conj)) (L R : Conj → Type 0) (p : List ℤ) → ((a : Conj) → L a → AtSomeEnd Means p) → ((b : Conj) → R b → AtSomeEnd Means p) → AtSides o L R → AtSomeEnd Means p
sides-end Means None L R p l r h = absurd h
sides-end Means (Some s) L R p l r h = elim h [ inl a ↦ l s.0 a | inr b ↦ r s.1 b ]

mutual
  end-of_next : {E : Type 0} (x : Next E) (Means : E → List ℤ → Type 0) (c : Conj) (p : List ℤ) → Covers x Means c p → AtSomeEnd Means p
  end-of_next (End e) Means c p h = (e, p, ([], sym (append-nil p)), h)
  end-of_next (Split' g a s l b t r) Means c p h =
      sides-end Means (both_sides g c) (λ a. Along s (Covers l Means) a p) (λ b. Along t (Covers r Means) b p) p
      (λ left x. path-end Means s (Covers l Means) left p (λ d q y. end-of_next l Means d q y) x)
      (λ right x. path-end Means t (Covers r Means) right p (λ d q y. end-of_next r Means d q y) x) h
  end-of_next (Residue' m g shape all) Means c p h = end-of_kids all Means m g 0 c p h

  end-of_kids : {E : Type 0} {z : _} (all : Row_of-Tree E z) (Means : E → List ℤ → Type 0) (m : ℤ) (g : Affine) (i : ℕ) (c : Conj) (p : List ℤ) → SomeCovers all Means m g i c p → AtSomeEnd Means p
  end-of_kids end_of-Tree Means m g i c p h = absurd h
  end-of_kids (more_of-Tree s t rest) Means m g i c p (inl h) = path-end Means s (Covers t Means) (class m g (pos i) c) p (λ d q y. end-of_next t Means d q y) h
  end-of_kids (more_of-Tree s t rest) Means m g i c p (inr h) = end-of_kids rest Means m g (i + 1) c p h

pub end-of_cover : {E : Type 0} (t : Tree E) (Means : E → List ℤ → Type 0) (c : Conj) (p : List ℤ) → IsCovered t Means c p → AtSomeEnd Means p
end-of_cover t Means c p h = path-end Means t.steps (Covers t.next Means) c p (λ d q y. end-of_next t.next Means d q y) h
