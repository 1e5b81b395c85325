-- A run of the entries in another order, by moving one entry at a time to the front.
use Rattle.std.proofs.Common.{◌≡◌, List, [], ◌∷◌, ◌++◌, ℤ, Bool, true, false, sym, ap, ◌∙◌, subst}
use Rattle.std.specs.List.{AllByRecursion}
use Rattle.std.specs.Ordering.{is_lt}
use Rattle.ac_syntax.specs.Algebra.{Algebra, Cell, run}
use Rattle.ac_syntax.specs.Trace.{Entry}
use Rattle.ac_syntax.proofs.Pairwise.{AllPairs, every_append}
use Rattle.ac_legal_law.specs.Conflicts.{Clash}
use Rattle.ac_legal_law.specs.EntryTimes.{time_cmp, IsSmaller}
use Rattle.ac_legal_law.proofs.Commuting.{run_past, stepped}

-- each item of the one list stands in the other, which without it holds the others
abbrev pub IsReordering : {A : Type 0} → List A → List A → Type 0
IsReordering [] ys = ys ≡ []
IsReordering {A} (x ∷ xs) ys = (front : List A) × (back : List A) × (ys ≡ front ++ x ∷ back) × IsReordering xs (front ++ back)

module _ {A : Type 0} where
  pub every_split : (P : A → Type 0) (xs ys : List A) → AllByRecursion P (xs ++ ys) → AllByRecursion P xs × AllByRecursion P ys
  every_split P [] ys h = (tt, h)
  every_split P (x ∷ xs) ys h = let r = every_split P xs ys h.1 in ((h.0, r.0), r.1)

  pub every_reordered : (P : A → Type 0) (xs ys : List A) → IsReordering xs ys → AllByRecursion P xs → AllByRecursion P ys
  every_reordered P [] ys r h = subst (AllByRecursion P) (sym r) tt
  every_reordered P (x ∷ xs) ys r h =
      let k = every_split P r.0 r.1 (every_reordered P xs (r.0 ++ r.1) r.3 h.1) in
      subst (AllByRecursion P) (sym r.2) (every_append P r.0 (x ∷ r.1) k.0 (h.0, k.1))

  pub every_two : (P Q R : A → Type 0) → ((x : A) → P x → Q x → R x) → (xs : List A) → AllByRecursion P xs → AllByRecursion Q xs → AllByRecursion R xs
  every_two P Q R f [] h k = tt
  every_two P Q R f (x ∷ xs) h k = (f x h.0 k.0, every_two P Q R f xs h.1 k.1)

  -- without an element the others are in the relation still, and those before it are in it with the element
  pub pairs_without : (R : A → A → Type 0) (xs : List A) (e : A) (ys : List A) → AllPairs R (xs ++ e ∷ ys) → AllByRecursion (λ x. R x e) xs × AllPairs R (xs ++ ys)
  pairs_without R [] e ys h = (tt, h.1)
  pairs_without R (x ∷ xs) e ys h =
      let k = every_split (R x) xs (e ∷ ys) h.0 in
      let r = pairs_without R xs e ys h.1 in
      ((k.1.0, r.0), (every_append (R x) xs ys k.0 k.1.1, r.1))

true_false : {b : Bool} → b ≡ true → b ≡ false → ⊥
true_false h k = let e : true ≡ false = sym h ∙ k in absurd cc

pub run_reordered : (a : Algebra) (time : Entry → List ℤ) (es fs : List Entry) (s : Cell → a.Carrier)
    → AllPairs (λ e f. Clash e f → IsSmaller (time e) (time f)) es
    → AllPairs (λ f g. is_lt (time_cmp (time g) (time f)) ≡ false) fs
    → IsReordering es fs → run a fs s ≡ run a es s
run_reordered a time [] fs s k n r = ap (λ xs. run a xs s) r
run_reordered a time (e ∷ es) fs s k n r =
    let parts = pairs_without (λ f g. is_lt (time_cmp (time g) (time f)) ≡ false) r.0 e r.1 (subst (AllPairs (λ f g. is_lt (time_cmp (time g) (time f)) ≡ false)) r.2 n) in
    let smaller = every_split (λ x. Clash e x → IsSmaller (time e) (time x)) r.0 r.1 (every_reordered (λ x. Clash e x → IsSmaller (time e) (time x)) es (r.0 ++ r.1) r.3 k.0) in
    let free : AllByRecursion (λ x. Clash e x → ⊥) r.0 = every_two (λ x. Clash e x → IsSmaller (time e) (time x)) (λ x. is_lt (time_cmp (time e) (time x)) ≡ false) (λ x. Clash e x → ⊥) (λ x p q c. true_false (ap is_lt (p c)) q) r.0 smaller.0 parts.0 in
    ap (λ xs. run a xs s) r.2
    ∙ run_past a e r.0 r.1 s free
    ∙ run_reordered a time es (r.0 ++ r.1) (stepped a e s) k.1 parts.1 r.3
