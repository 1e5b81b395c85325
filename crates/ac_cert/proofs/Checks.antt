-- What a check of a tree says, from what its parts say.
use Rattle.std.proofs.Common.{◌≡◌, ℕ, ◌+◌, ◌<◌, ℤ, pos, negsuc, ◌-ℤ◌, ◌≤ℤ◌, ◌-◌, ◌^◌, true, ◌&&◌, nat_le, int_le, List, ◌∷◌, length, drop, take, [], get_or, Some, None, Ok, Err, refl, sym, ap, ◌∙◌, subst, arith}
use Rattle.ac_forms.specs.Affine.{Affine}
use Rattle.ac_forms.specs.Fits.{fits}
use Rattle.ac_forms.specs.Rows.{IsWellMade}
use Rattle.ac_forms.specs.declared.conj.Conj.{Conj}
use Rattle.ac_forms.specs.declared.row.Row.{Row}
use Rattle.ac_base.proofs.Truths.{and-true}
use Rattle.ac_cert.specs.declared.types.Step.{Step}
use Rattle.ac_cert.specs.declared.types.TreeFault.{TreeFault}
use Rattle.ac_cert.specs.declared.types.TreeFault.TheVariants as fault
use Rattle.ac_cert.specs.declared.types.Next.{Next}
use Rattle.ac_cert.specs.declared.types.Tree.{Tree}
use Rattle.std.specs.Ordering.{int_eq}
use Rattle.std.proofs.lemmas.Bool.Decides.{Decides-int_eq}
use Rattle.std.proofs.lemmas.List.{at_drop_more}
use Rattle.std.proofs.Math.Seq.{take-append_seam}
use Rattle.std.proofs.lemmas.Int.{ints}
use borrow.Author.Tests.{ltb-true, lt-ltb}
use Rattle.ac_cert.proofs.StepRules.{class-made, class-fits}
use Rattle.ac_cert.proofs.Behind.{Onto, steps-onto}
use Rattle.ac_cert.specs.AcceptedTrees.{after_steps}
use Rattle.ac_cert.specs.Rules.{with_row, first_of, side_rows, both_sides, class_row, class, has_class, is_partition}
use Rattle.ac_cert.specs.CheckStops.{Fails, Checked}
use Rattle.ac_cert.specs.CertificateFaults.{Fault, Refusal, Onward, later, first_fault_of, split_fault, path_fault, fault_of, node_count, tree_fault, size_of, kids_fault, kids_size}

then-err : (a b : Fault) (c d : Conj) (m n : ℕ) (e : TreeFault) → Checked a c m (Err e) → Checked (first_fault_of a b) d n (Err e)
then-err (Some x) b c d m n e h = h
then-err None b c d m n (fault.Refused k r) h = absurd cc
then-err None b c d m n (fault.Memory x) h = tt

first-on : (a b : Fault) → a ≡ None → first_fault_of a b ≡ b
first-on a b e = rw e refl

-- the rows are cut back
first-onto : (c d : Conj) → Onto c d → first_of c.columns (length c.rows) d ≡ c
first-onto c d on =
    let e : take (length c.rows) d.rows ≡ c.rows = ap (λ (x : List Row). take (length c.rows) x) on.rows ∙ take-append_seam c.rows on.more in
    ap (λ (x : List Row). over c.columns x) e
  where
    over : ℕ → List Row → Conj
    over n rows = record { columns = n; rows = rows }

pub path-on : {E : Type 0} (steps : List Step) (x : Next E) (R : Refusal E) (c : Conj) (k : ℕ) (d : Conj) (j : ℕ) (e : Conj) (behind : ℕ) → after_steps steps c ≡ Some d → ((go : Onward) → path_fault steps go c k ≡ go d j) → j ≡ later k (length steps) → Checked (fault_of x R d j) d (later j (node_count x)) (Ok (e, behind)) → Checked (path_fault steps (fault_of x R) c k) c (later k (length steps + node_count x)) (Ok (first_of c.columns (length c.rows) e, behind))
path-on steps x R c k d j e behind rows on is h =
    let n : later k (length steps + node_count x) ≡ later j (node_count x) = omega arith in
    (on (fault_of x R) ∙ h.0, ap (λ (z : Conj). first_of c.columns (length c.rows) z) h.1 ∙ first-onto c d (steps-onto steps c d rows), h.2 ∙ sym n)

-- a child's rows are cut back to the path's
pub child-back : (c d e : Conj) (row : Row) → d ≡ with_row c row → e ≡ d → first_of c.columns (length c.rows) e ≡ c
child-back c d e row is same =
    let on : Onto c (with_row c row) = record { more = row ∷ []; rows = refl; columns = omega arith } in
    ap (λ (z : Conj). first_of c.columns (length c.rows) z) (same ∙ is) ∙ first-onto c (with_row c row) on

pub split-err : {E : Type 0} (R : Refusal E) (left right : Tree E) (e : Affine) (c d : Conj) (k : ℕ) (s : Row × Row) (f : TreeFault) → side_rows e c.columns ≡ Some s → d ≡ with_row c s.0 → Fails (tree_fault left R d (later k 1)) f → Fails (split_fault (both_sides e c) k (λ a. tree_fault left R a (later k 1)) (λ b. tree_fault right R b (later (later k 1) (size_of left)))) f
split-err R left right e c d k s f b is h =
    let x = tree_fault left R (with_row c s.0) (later k 1) in
    let y = tree_fault right R (with_row c s.1) (later (later k 1) (size_of left)) in
    rw b (then-err x y c c 0 0 f (subst (λ (z : Conj). Fails (tree_fault left R z (later k 1)) f) is h))

-- where the first side has no fault, the split's is the second side's
pub split-on : {E : Type 0} (R : Refusal E) (left right : Tree E) (e : Affine) (c d g : Conj) (k behind : ℕ) (s : Row × Row) → side_rows e c.columns ≡ Some s → d ≡ with_row c s.0 → tree_fault left R d (later k 1) ≡ None → behind ≡ later (later k 1) (size_of left) → g ≡ with_row c s.1 → split_fault (both_sides e c) k (λ a. tree_fault left R a (later k 1)) (λ b. tree_fault right R b (later (later k 1) (size_of left))) ≡ tree_fault right R g behind
split-on R left right e c d g k behind s b is none at second =
    let x = tree_fault left R (with_row c s.0) (later k 1) in
    let y = tree_fault right R (with_row c s.1) (later (later k 1) (size_of left)) in
    let first : x ≡ None = ap (λ (z : Conj). tree_fault left R z (later k 1)) (sym is) ∙ none in
    let last : y ≡ tree_fault right R g behind = ap (λ (z : Conj). tree_fault right R z (later (later k 1) (size_of left))) (sym second) ∙ ap (λ (n : ℕ). tree_fault right R g n) (sym at) in
    rw b (first-on x y first ∙ last)

classed : (m : ℤ) (e : Affine) (i : ℤ) (here c : Conj) (row : Row) → here ≡ c → row ≡ class_row m e i → with_row here row ≡ class m e i c
classed m e i here c row same is = ap (λ (x : Conj). with_row x row) same ∙ ap (λ (x : Row). with_row c x) is

-- one child of a branch
pub record KidOn {E : Type 0} (R : Refusal E) (kids : List (Tree E)) (i : ℕ) (m : ℤ) (e : Affine) (c : Conj) (k : ℕ) (back : Conj) (behind : ℕ) : Type 0 where
  pub fault : kids_fault (drop i kids) R m e i c k ≡ kids_fault (drop (i + 1) kids) R m e (i + 1) c behind
  pub number : later k (kids_size (drop i kids)) ≡ later behind (kids_size (drop (i + 1) kids))
  pub same : back ≡ c

pub kids-on : {E : Type 0} (R : Refusal E) (kids : List (Tree E)) (i : ℕ) (t : Tree E) (m : ℤ) (e : Affine) (c here child back next : Conj) (row : Row) (k behind : ℕ) → i < length kids → t ≡ get_or kids i t → here ≡ c → row ≡ class_row m e (pos i) → child ≡ with_row here row → Checked (tree_fault t R child k) child (later k (size_of t)) (Ok (back, behind)) → next ≡ first_of c.columns (length c.rows) back → KidOn R kids i m e c k next behind
kids-on {E = E} R kids i t m e c here child back next row k behind l at same is of h cut =
    let cl = of ∙ classed m e (pos i) here c row same is in
    let none : tree_fault t R (class m e (pos i) c) k ≡ None = ap (λ (x : Conj). tree_fault t R x k) (sym cl) ∙ h.0 in
    let whole : drop i kids ≡ t ∷ drop (i + 1) kids = at_drop_more (λ (x : List (Tree E)). x) kids i t l ∙ ap (λ x. x ∷ drop (i + 1) kids) (sym at) in
    record {
      fault = ap (λ x. kids_fault x R m e i c k) whole
          ∙ first-on (tree_fault t R (class m e (pos i) c) k) (kids_fault (drop (i + 1) kids) R m e (i + 1) c (later k (size_of t))) none
          ∙ ap (λ (x : ℕ). kids_fault (drop (i + 1) kids) R m e (i + 1) c x) (sym h.2);
      number = rw whole (omega (arith, h.2));
      same = cut ∙ child-back c child back (class_row m e (pos i)) cl h.1;
    }

pub kids-err : {E : Type 0} (R : Refusal E) (kids : List (Tree E)) (i : ℕ) (t : Tree E) (m : ℤ) (e : Affine) (c here child : Conj) (row : Row) (k : ℕ) (f : TreeFault) (whole : Fault) → i < length kids → t ≡ get_or kids i t → here ≡ c → row ≡ class_row m e (pos i) → child ≡ with_row here row → Fails (tree_fault t R child k) f → whole ≡ kids_fault (drop i kids) R m e i c k → Fails whole f
kids-err {E = E} R kids i t m e c here child row k f whole l at same is of h so_far =
    let g : Fails (tree_fault t R (class m e (pos i) c) k) f = subst (λ (x : Conj). Fails (tree_fault t R x k) f) (of ∙ classed m e (pos i) here c row same is) h in
    let all : drop i kids ≡ t ∷ drop (i + 1) kids = at_drop_more (λ (x : List (Tree E)). x) kids i t l ∙ ap (λ x. x ∷ drop (i + 1) kids) (sym at) in
    rw (so_far, all) (then-err (tree_fault t R (class m e (pos i) c) k) (kids_fault (drop (i + 1) kids) R m e (i + 1) c (later k (size_of t))) c c 0 0 f g)

fit-bounds : (z : ℤ) → fits z ≡ true → (negsuc (2 ^ 127 - 1) ≤ℤ z) × (z ≤ℤ pos (2 ^ 127 - 1))
fit-bounds (pos n) e = let l = ltb-true n (2 ^ 127) e in (omega (arith, ints), omega (arith, ints))
fit-bounds (negsuc n) e = let l = ltb-true n (2 ^ 127) e in (omega (arith, ints), omega (arith, ints))

fit-within : (z : ℤ) → negsuc (2 ^ 127 - 1) ≤ℤ z → z ≤ℤ pos (2 ^ 127 - 1) → fits z ≡ true
fit-within (pos n) a b = lt-ltb n (2 ^ 127) (omega (arith, ints))
fit-within (negsuc n) a b = lt-ltb n (2 ^ 127) (omega (arith, ints))

fit-between : (z : ℤ) (i : ℕ) (m : ℤ) → fits z ≡ true → fits (z -ℤ (m -ℤ pos 1)) ≡ true → pos i ≤ℤ (m -ℤ pos 1) → fits (z -ℤ pos i) ≡ true
fit-between z i m a b l =
    let x = fit-bounds z a in
    let y = fit-bounds (z -ℤ (m -ℤ pos 1)) b in
    fit-within (z -ℤ pos i) (omega (arith, ints)) (omega (arith, ints))

-- each child of a branch that stands does
pub class-stands : (m : ℤ) (e : Affine) (i columns count : ℕ) → fits e.konst ≡ true → is_partition m e columns count ≡ true → i < count → has_class m e (pos i) columns ≡ true
unfolding is_partition has_class
class-stands m e i columns count f p l =
    let a = and-true (int_eq m (pos count)) (int_le (pos 1) m && (nat_le (length e.coefs) columns && fits (e.konst -ℤ (m -ℤ pos 1)))) p in
    let b = and-true (int_le (pos 1) m) (nat_le (length e.coefs) columns && fits (e.konst -ℤ (m -ℤ pos 1))) a.1 in
    let c = and-true (nat_le (length e.coefs) columns) (fits (e.konst -ℤ (m -ℤ pos 1))) b.1 in
    let is : m ≡ pos count = (Decides-int_eq m (pos count)).0 a.0 in
    rw (b.0, c.0, fit-between e.konst i m f c.1 (omega (arith, ints))) refl

-- the row of a child of a branch that stands is made, and over the columns
pub child-fits : (m : ℤ) (e : Affine) (i columns count : ℕ) → fits e.konst ≡ true → is_partition m e columns count ≡ true → i < count → fits (e.konst -ℤ pos i) ≡ true
child-fits m e i columns count f p l = class-fits m e (pos i) columns (class-stands m e i columns count f p l)

pub child-made : (m : ℤ) (e : Affine) (i count : ℕ) (here c : Conj) (row : Row) → fits e.konst ≡ true → is_partition m e c.columns count ≡ true → i < count → here ≡ c → row ≡ class_row m e (pos i) → IsWellMade c → IsWellMade (with_row here row)
child-made m e i count here c row f p l same is w = subst (λ (x : Conj). IsWellMade x) (sym (classed m e (pos i) here c row same is)) (class-made m e (pos i) c (class-stands m e i c.columns count f p l) w)
