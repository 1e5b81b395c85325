-- A tree that is accepted, taken apart; a path that is cut back; the rows of a branch.
use Rattle.std.proofs.Common.{◌≡◌, ◌⊎◌, inl, inr, ℕ, ◌+◌, ◌≤◌, ℤ, pos, negsuc, neg_ℤ, ◌+ℤ◌, ◌-ℤ◌, ◌≤ℤ◌, ◌&&◌, int_le, nat_le, List, [], ◌∷◌, ◌++◌, length, take, Option, Some, None, Bool, true, false, cond, refl, sym, ap, ◌∙◌, subst, arith, Result, Ok, Err}
use Rattle.std.specs.Prelude.{Box, Vec, option_map, IfOk}
use Rattle.std.specs.declared.alloc.Global.{Global}
use Rattle.std.proofs.lemmas.Int.{ints}
use Rattle.ac_forms.specs.Affine.{Affine, value_at, shifted}
use Rattle.ac_forms.specs.Fits.{fits}
use Rattle.ac_forms.specs.Rows.{Holds, IsRowOver, IsWellMade}
use Rattle.ac_forms.specs.declared.conj.Conj.{Conj}
use Rattle.ac_forms.specs.declared.row.Row.{Row}
use Rattle.ac_forms.specs.declared.row.Row.TheVariants.{Div, Ge}
use Rattle.ac_omega_steps.proofs.Keeping.{made-push}
use Rattle.ac_base.proofs.Options.{bind-some, map-some, if-some, some-is}
use Rattle.ac_base.proofs.Truths.{and-true, le-true}
use Rattle.ac_cert.specs.AcceptedTrees.{Accepts, AcceptsEach, IsSplit, after_steps}
use Rattle.ac_cert.specs.Apart.{AcceptsNext, IsOnto}
use Rattle.ac_cert.specs.CertificateFaults.{Refusal, later, step_fault, path_fault, split_fault, fault_of, tree_fault, kids_fault, size_of}
use Rattle.ac_cert.specs.Rules.{after_step, rule_of, both_sides, side_rows, rest_of, class, class_row, has_class, is_partition, first_of, with_row}
use Rattle.ac_forms.specs.FormStops.{GivenOf}
use Rattle.ac_cert.specs.CheckStops.{Refuses}
use Rattle.ac_cert.specs.declared.types.EndStop.{EndStop}
use Rattle.ac_cert.specs.declared.types.Next.{Next, End, Split, Residue}
use Rattle.ac_cert.specs.declared.types.Rule.{Rule}
use Rattle.ac_cert.specs.declared.types.Rule.TheVariants as rule
use Rattle.ac_cert.specs.declared.types.Step.{Step}
use Rattle.ac_cert.specs.declared.types.Tree.{Tree, roll-Tree}
use Rattle.ac_cert.proofs.Behind.{step-onto}
use Rattle.ac_cert.proofs.EveryNumber.{tree-at}
use Rattle.ac_cert.proofs.Kids.{fault-at-split, fault-at-residue}
use Rattle.ac_cert.proofs.Soundness.{first-none, no-refusal, if-none}
use Rattle.ac_cert.proofs.StepRules.{rest-value, rest_within}
use borrow.Author.Tests.{leb-true}

-- ---- trees

bare : {E : Type 0} (x : Next E) (R : Refusal E) (c : Conj) (k : ℕ) → fault_of x R c k ≡ None → AcceptsNext x R c
bare {E} x R c k f = tree-at (roll-Tree E (record { steps = []; next = x })) R c k f

-- behind the steps
record Behind {E : Type 0} (steps : List Step) (x : Next E) (R : Refusal E) (c : Conj) : Type 0 where
  path : Conj
  is : after_steps steps c ≡ Some path
  accepts : AcceptsNext x R path

steps-apart : {E : Type 0} (steps : List Step) (x : Next E) (R : Refusal E) (c : Conj) (k : ℕ) → path_fault steps (fault_of x R) c k ≡ None → Behind steps x R c
steps-apart [] x R c k f = record { path = c; is = refl; accepts = bare x R c k f }
steps-apart (s ∷ steps) x R c k f = by (after_step s c) refl f (λ d g. steps-apart steps x R d (later k 1) g)
  where
    by : (o : Option Conj) → after_step s c ≡ o → step_fault o (rule_of s) k (λ d. path_fault steps (fault_of x R) d (later k 1)) ≡ None → ((d : Conj) → path_fault steps (fault_of x R) d (later k 1) ≡ None → Behind steps x R d) → Behind (s ∷ steps) x R c
    by None e f on = absurd cc
    by (Some d) e f on = let b = on d f in record { path = b.path; is = rw e b.is; accepts = b.accepts }

pub tree-apart : {E : Type 0} (t : Tree E) (R : Refusal E) (c : Conj) → Accepts t R c → (d : Conj) × (after_steps t.steps c ≡ Some d) × AcceptsNext t.next R d
tree-apart t R c h = let b = steps-apart t.steps t.next R c 0 (h 0) in (b.path, b.is, b.accepts)

pub end-apart : {E : Type 0} (x : Next E) (e : E) (R : Refusal E) (c : Conj) → x ≡ End e → AcceptsNext x R c → R e c ≡ None
end-apart {E} x e R c is h = no-refusal (R e c) 0 (subst (λ (y : Next E). fault_of y R c 0 ≡ None) is (h 0))

-- at a split
record Sides {E : Type 0} (f : Affine) (left right : Tree E) (R : Refusal E) (c : Conj) : Type 0 where
  first : Conj
  second : Conj
  is : both_sides f c ≡ Some (first, second)
  left_accepts : Accepts left R first
  right_accepts : Accepts right R second

boxes-apart : {E : Type 0} (x : Next E) (f : Affine) (left right : Box (Tree E) Global) (R : Refusal E) (c : Conj) → x ≡ Split f left right → AcceptsNext x R c → Sides f left.value right.value R c
boxes-apart x f left right R c is h = by (both_sides f c) refl (sym (fault-at-split x R c 0 f left right is) ∙ h 0)
  where
    by : (o : Option (Conj × Conj)) → both_sides f c ≡ o → split_fault o 0 (λ a. tree_fault left.value R a (later 0 1)) (λ b. tree_fault right.value R b (later (later 0 1) (size_of left.value))) ≡ None → Sides f left.value right.value R c
    by None e n = absurd cc
    by (Some s) e n =
        let b = first-none (tree_fault left.value R s.0 (later 0 1)) (tree_fault right.value R s.1 (later (later 0 1) (size_of left.value))) n in
        record { first = s.0; second = s.1; is = e; left_accepts = tree-at left.value R s.0 (later 0 1) b.0; right_accepts = tree-at right.value R s.1 (later (later 0 1) (size_of left.value)) b.1 }

pub split-apart : {E : Type 0} (x : Next E) (f : Affine) (left right : Tree E) (R : Refusal E) (c : Conj) → IsSplit x f left right → AcceptsNext x R c → (a : Conj) × (b : Conj) × (both_sides f c ≡ Some (a, b)) × Accepts left R a × Accepts right R b
split-apart {E} x f left right R c is h =
    let s = boxes-apart x f is.0 is.1 R c is.2 h in
    (s.first, s.second, s.is, subst (λ (t : Tree E). Accepts t R s.first) is.3 s.left_accepts, subst (λ (t : Tree E). Accepts t R s.second) is.4 s.right_accepts)

-- at a residue branch
kids-apart : {E : Type 0} (ts : List (Tree E)) (R : Refusal E) (m : ℤ) (f : Affine) (i : ℕ) (c : Conj) (k : ℕ) → kids_fault ts R m f i c k ≡ None → AcceptsEach ts R m f i c
kids-apart [] R m f i c k n = tt
kids-apart (t ∷ ts) R m f i c k n =
    let b = first-none (tree_fault t R (class m f (pos i) c) k) (kids_fault ts R m f (i + 1) c (later k (size_of t))) n in
    (tree-at t R (class m f (pos i) c) k b.0, kids-apart ts R m f (i + 1) c (later k (size_of t)) b.1)

pub residue-apart : {E : Type 0} (x : Next E) (m : ℤ) (f : Affine) (kids : Vec (Tree E) Global) (R : Refusal E) (c : Conj) → x ≡ Residue m f kids → AcceptsNext x R c → (is_partition m f c.columns (length kids.items) ≡ true) × AcceptsEach kids.items R m f 0 c
residue-apart x m f kids R c is h =
    let n = sym (fault-at-residue x R c 0 m f kids is) ∙ h 0 in
    let b = if-none (is_partition m f c.columns (length kids.items)) (kids_fault kids.items R m f 0 c (later 0 1)) (0, rule.Residue) n in
    (b.0, kids-apart kids.items R m f 0 c (later 0 1) b.1)

-- ---- paths

pub step-is_onto : (s : Step) (c d : Conj) → after_step s c ≡ Some d → IsOnto c d
step-is_onto s c d e = let on = step-onto s c d e in record { more = on.more; rows = on.rows; columns = on.columns }

-- ---- rows of a branch

record SideRows (f : Affine) (columns : ℕ) (s : Row × Row) : Type 0 where
  within : length f.coefs ≤ columns
  rest : Affine
  below : rest_of (negsuc 0) f ≡ Some rest
  is : s ≡ (Ge f, Ge rest)

side-rows : (f : Affine) (columns : ℕ) (s : Row × Row) → side_rows f columns ≡ Some s → SideRows f columns s
unfolding side_rows
side-rows f columns s e =
    let a = if-some (nat_le (length f.coefs) columns) (option_map (λ g. (Ge f, Ge g)) (rest_of (negsuc 0) f)) s e in
    let t = map-some (rest_of (negsuc 0) f) (λ g. (Ge f, Ge g)) s a.1 in
    record { within = leb-true _ _ a.0; rest = t.0; below = t.1; is = t.2 }

side-cases : (v w : ℤ) → w ≡ negsuc 0 -ℤ v → (pos 0 ≤ℤ v) ⊎ (pos 0 ≤ℤ w)
side-cases (pos n) w e = inl (omega (arith, ints))
side-cases (negsuc n) w e = inr (omega (arith, ints, e))

sides-cover : (f : Affine) (columns : ℕ) (s : Row × Row) → side_rows f columns ≡ Some s → (p : List ℤ) → Holds s.0 p ⊎ Holds s.1 p
sides-cover f columns s e p =
    let r = side-rows f columns s e in
    let both = side-cases (value_at f p) (value_at r.rest p) (rest-value (negsuc 0) f r.rest p r.below) in
    subst (λ (x : Row × Row). Holds x.0 p ⊎ Holds x.1 p) (sym r.is) both

sides-over : (f : Affine) (columns : ℕ) (s : Row × Row) → side_rows f columns ≡ Some s → IsRowOver columns s.0 × IsRowOver columns s.1
sides-over f columns s e =
    let r = side-rows f columns s e in
    let l = rest_within (negsuc 0) f r.rest r.below in
    subst (λ (x : Row × Row). IsRowOver columns x.0 × IsRowOver columns x.1) (sym r.is) ((r.within, tt), (subst (λ (n : ℕ). n ≤ columns) (sym l) r.within, tt))

pub side-covers : (res : Result (Row × Row) EndStop) (f : Affine) (columns : ℕ) → GivenOf res (Refuses rule.Split) (side_rows f columns) → IfOk res (λ rows. (p : List ℤ) → Holds rows.0 p ⊎ Holds rows.1 p)
side-covers (Ok s) f columns e = sides-cover f columns s e
side-covers (Err stop) f columns e = tt

pub side-made : (res : Result (Row × Row) EndStop) (f : Affine) (columns : ℕ) → GivenOf res (Refuses rule.Split) (side_rows f columns) → IfOk res (λ rows. IsRowOver columns rows.0 × IsRowOver columns rows.1)
side-made (Ok s) f columns e = sides-over f columns s e
side-made (Err stop) f columns e = tt

class-row-over : (m : ℤ) (f : Affine) (r : ℤ) (columns : ℕ) → has_class m f r columns ≡ true → IsRowOver columns (class_row m f r)
unfolding has_class
class-row-over m f r columns e =
    let a = and-true (int_le (pos 1) m) (nat_le (length f.coefs) columns && fits (f.konst -ℤ r)) e in
    let b = and-true (nat_le (length f.coefs) columns) (fits (f.konst -ℤ r)) a.1 in
    (leb-true _ _ b.0, le-true (pos 1) m a.0)

pub class-row-made : (res : Result Row EndStop) (m : ℤ) (f : Affine) (r : ℤ) (columns : ℕ) → GivenOf res (Refuses rule.Residue) (cond (has_class m f r columns) (Some (class_row m f r)) None) → IfOk res (λ row. IsRowOver columns row)
class-row-made (Ok row) m f r columns e =
    let a = if-some (has_class m f r columns) (Some (class_row m f r)) row e in
    subst (λ (x : Row). IsRowOver columns x) (some-is (class_row m f r) row a.1) (class-row-over m f r columns a.0)
class-row-made (Err stop) m f r columns e = tt

pub with-made : (c : Conj) (r : Row) → IsWellMade c → IsRowOver c.columns r → IsWellMade (with_row c r)
with-made c r w o = made-push c.columns c.rows r w o
