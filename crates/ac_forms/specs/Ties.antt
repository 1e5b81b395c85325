-- The order of forms is a total order, and it ties exactly where the forms are equal.
use Rattle.std.proofs.Common.{◌≡◌, ◌==◌, ◌&&◌, ℕ, zero, suc, ℤ, pos, arith, List, [], ◌∷◌, length, Bool, true, false, ◌⊎◌, inl, inr, refl, subst, sym, ap, ◌∙◌, int_eq, int_cmp, nat_cmp, nat_eq}
use Rattle.std.specs.declared.cmp.Ordering.{Ordering}
use Rattle.std.specs.declared.cmp.Ordering.TheVariants.{Less, Equal, Greater}
use Rattle.std.specs.Cmp.{IsTotalOrder, IsEquivalence, tied_then}
use Rattle.std.specs.Cmp.Lexicographic.{pointwise}
use Rattle.std.specs.Ordering.{eq_by_cmp, then_cmp, on, eq_of_both, ordering_then, ordering_reverse, is_eq, MatchOrdering}
use Rattle.std.proofs.lemmas.Int.{ints}
use Rattle.std.proofs.lemmas.Cmp.{int_cmp_total, nat_cmp_total, on_total, then_total, on_equiv, and_equiv, lists_equiv, int_eq_equiv, nat_eq_equiv, tied_itself, int_ranked}
use Rattle.ac_forms.specs.Affine.{Affine}
use Rattle.ac_forms.specs.FormOrder.{columns_cmp, form_cmp, form_eq, kind_of, modulus_of, row_cmp, row_eq}
use Rattle.ac_forms.specs.Rows.{form_of}
use Rattle.ac_forms.specs.declared.row.Row.{Row}

-- one column of the three laws, from the laws of integers and what holds further on
anti_step : (a b : Ordering) (o p : Ordering) → a ≡ ordering_reverse b → o ≡ ordering_reverse p → ordering_then a o ≡ ordering_reverse (ordering_then b p)
anti_step a Less o p e f = rw e refl
anti_step a Equal o p e f = rw (e, f) refl
anti_step a Greater o p e f = rw e refl

columns_anti : (xs ys : List ℤ) → columns_cmp xs ys ≡ ordering_reverse (columns_cmp ys xs)
columns_anti [] [] = refl
columns_anti [] (y ∷ ys) = anti_step _ _ _ _ (int_cmp_total.antisymm (pos 0) y) (columns_anti [] ys)
columns_anti (x ∷ xs) [] = anti_step _ _ _ _ (int_cmp_total.antisymm x (pos 0)) (columns_anti xs [])
columns_anti (x ∷ xs) (y ∷ ys) = anti_step _ _ _ _ (int_cmp_total.antisymm x y) (columns_anti xs ys)

pub int_tied : (x y : ℤ) → int_cmp x y ≡ Equal → x ≡ y
int_tied x y e = rw e at (int_ranked x y (int_cmp x y) refl)

pub then_tied : (a o : Ordering) → ordering_then a o ≡ Equal → (a ≡ Equal) × (o ≡ Equal)
then_tied Less o e = absurd cc
then_tied Equal o e = (refl, e)
then_tied Greater o e = absurd cc

then_less : (a o : Ordering) → ordering_then a o ≡ Less → (a ≡ Less) ⊎ ((a ≡ Equal) × (o ≡ Less))
then_less Less o e = inl refl
then_less Equal o e = inr (refl, e)
then_less Greater o e = absurd cc

congr_step : (x y z : ℤ) (o p q : Ordering) → (o ≡ Equal → p ≡ q) → ordering_then (int_cmp x y) o ≡ Equal → ordering_then (int_cmp x z) p ≡ ordering_then (int_cmp y z) q
congr_step x y z o p q h e =
    let t = then_tied (int_cmp x y) o e in
    ap (λ (v : ℤ). ordering_then (int_cmp v z) p) (int_tied x y t.0) ∙ ap (λ (r : Ordering). ordering_then (int_cmp y z) r) (h t.1)

columns_congr : (xs ys zs : List ℤ) → columns_cmp xs ys ≡ Equal → columns_cmp xs zs ≡ columns_cmp ys zs
columns_congr [] [] [] e = refl
columns_congr [] [] (z ∷ zs) e = refl
columns_congr [] (y ∷ ys) [] e = congr_step (pos 0) y (pos 0) (columns_cmp [] ys) _ _ (columns_congr [] ys []) e
columns_congr [] (y ∷ ys) (z ∷ zs) e = congr_step (pos 0) y z (columns_cmp [] ys) _ _ (columns_congr [] ys zs) e
columns_congr (x ∷ xs) [] [] e = congr_step x (pos 0) (pos 0) (columns_cmp xs []) _ _ (columns_congr xs [] []) e
columns_congr (x ∷ xs) [] (z ∷ zs) e = congr_step x (pos 0) z (columns_cmp xs []) _ _ (columns_congr xs [] zs) e
columns_congr (x ∷ xs) (y ∷ ys) [] e = congr_step x y (pos 0) (columns_cmp xs ys) _ _ (columns_congr xs ys []) e
columns_congr (x ∷ xs) (y ∷ ys) (z ∷ zs) e = congr_step x y z (columns_cmp xs ys) _ _ (columns_congr xs ys zs) e

trans_step : (x y z : ℤ) (o p q : Ordering) → (o ≡ Less → p ≡ Less → q ≡ Less)
    → ordering_then (int_cmp x y) o ≡ Less → ordering_then (int_cmp y z) p ≡ Less → ordering_then (int_cmp x z) q ≡ Less
trans_step x y z o p q h e f =
    elim (then_less (int_cmp x y) o e) [
      | inl a ↦ elim (then_less (int_cmp y z) p f) [
        | inl b ↦ ap (λ (r : Ordering). ordering_then r q) (int_cmp_total.trans x y z a b)
        | inr b ↦ ap (λ (r : Ordering). ordering_then r q) (ap (λ (v : ℤ). int_cmp x v) (sym (int_tied y z b.0)) ∙ a)
      ]
      | inr a ↦ elim (then_less (int_cmp y z) p f) [
        | inl b ↦ ap (λ (r : Ordering). ordering_then r q) (ap (λ (v : ℤ). int_cmp v z) (int_tied x y a.0) ∙ b)
        | inr b ↦ ap (λ (r : Ordering). ordering_then r q) (ap (λ (v : ℤ). int_cmp v z) (int_tied x y a.0) ∙ b.0) ∙ h a.1 b.1
      ]
    ]

columns_trans : (xs ys zs : List ℤ) → columns_cmp xs ys ≡ Less → columns_cmp ys zs ≡ Less → columns_cmp xs zs ≡ Less
columns_trans [] [] zs e f = absurd cc
columns_trans [] (y ∷ ys) [] e f = absurd (opposite (ordering_then (int_cmp (pos 0) y) (columns_cmp [] ys)) (ordering_then (int_cmp y (pos 0)) (columns_cmp ys [])) e f (columns_anti [] (y ∷ ys)))
  where
    opposite : (a b : Ordering) → a ≡ Less → b ≡ Less → a ≡ ordering_reverse b → ⊥
    opposite a b e f g = cc
columns_trans [] (y ∷ ys) (z ∷ zs) e f = trans_step (pos 0) y z (columns_cmp [] ys) (columns_cmp ys zs) (columns_cmp [] zs) (columns_trans [] ys zs) e f
columns_trans (x ∷ xs) [] [] e f = absurd cc
columns_trans (x ∷ xs) [] (z ∷ zs) e f = trans_step x (pos 0) z (columns_cmp xs []) (columns_cmp [] zs) (columns_cmp xs zs) (columns_trans xs [] zs) e f
columns_trans (x ∷ xs) (y ∷ ys) [] e f = trans_step x y (pos 0) (columns_cmp xs ys) (columns_cmp ys []) (columns_cmp xs []) (columns_trans xs ys []) e f
columns_trans (x ∷ xs) (y ∷ ys) (z ∷ zs) e f = trans_step x y z (columns_cmp xs ys) (columns_cmp ys zs) (columns_cmp xs zs) (columns_trans xs ys zs) e f

pub columns_total : IsTotalOrder columns_cmp
columns_total = record { antisymm = columns_anti; trans = columns_trans; congr = columns_congr }

pub form_total : IsTotalOrder form_cmp
form_total = then_total (on_total (λ f. f.coefs) columns_total) (then_total (on_total (λ f. f.konst) int_cmp_total) (on_total (λ f. length f.coefs) nat_cmp_total))

pub form_equiv : IsEquivalence form_eq
form_equiv = and_equiv (on_equiv (λ f. f.coefs) (lists_equiv int_eq_equiv)) (on_equiv (λ f. f.konst) int_eq_equiv)

int_ties : (x y : ℤ) → int_eq x y ≡ eq_by_cmp int_cmp x y
int_ties x y = grind (arith, ints)

and_false : (b : Bool) → (b && false) ≡ false
and_false true = refl
and_false false = refl

and_assoc : (a b c : Bool) → ((a && b) && c) ≡ (a && (b && c))
and_assoc true b c = refl
and_assoc false b c = refl

and_swap : (a b c : Bool) → (a && (b && c)) ≡ ((a && c) && b)
and_swap true true true = refl
and_swap true true false = refl
and_swap true false true = refl
and_swap true false false = refl
and_swap false b c = refl

lengths_front : (m : ℕ) → is_eq (nat_cmp 0 (suc m)) ≡ false
lengths_front m = grind arith

lengths_back : (m : ℕ) → is_eq (nat_cmp (suc m) 0) ≡ false
lengths_back m = grind arith

lengths_suc : (m n : ℕ) → is_eq (nat_cmp (suc m) (suc n)) ≡ is_eq (nat_cmp m n)
lengths_suc m n = grind arith

-- lists are equal exactly where they tie and are as long
columns_ties : (xs ys : List ℤ) → pointwise int_eq xs ys ≡ (is_eq (columns_cmp xs ys) && is_eq (nat_cmp (length xs) (length ys)))
columns_ties [] [] = refl
columns_ties [] (y ∷ ys) = sym (ap (λ (b : Bool). is_eq (columns_cmp [] (y ∷ ys)) && b) (lengths_front (length ys)) ∙ and_false (is_eq (columns_cmp [] (y ∷ ys))))
columns_ties (x ∷ xs) [] = sym (ap (λ (b : Bool). is_eq (columns_cmp (x ∷ xs) []) && b) (lengths_back (length xs)) ∙ and_false (is_eq (columns_cmp (x ∷ xs) [])))
columns_ties (x ∷ xs) (y ∷ ys) =
    ap (λ (b : Bool). b && pointwise int_eq xs ys) (int_ties x y)
    ∙ ap (λ (b : Bool). is_eq (int_cmp x y) && b) (columns_ties xs ys)
    ∙ sym (and_assoc (is_eq (int_cmp x y)) (is_eq (columns_cmp xs ys)) (is_eq (nat_cmp (length xs) (length ys))))
    ∙ ap (λ (b : Bool). b && is_eq (nat_cmp (length xs) (length ys))) (tied_then (int_cmp x y) (columns_cmp xs ys))
    ∙ ap (λ (b : Bool). is_eq (columns_cmp (x ∷ xs) (y ∷ ys)) && b) (sym (lengths_suc (length xs) (length ys)))

pub form_ties : (f g : Affine) → form_eq f g ≡ eq_by_cmp form_cmp f g
form_ties f g =
    let a = columns_cmp f.coefs g.coefs in
    let b = int_cmp f.konst g.konst in
    let c = nat_cmp (length f.coefs) (length g.coefs) in
    ap (λ (t : Bool). t && int_eq f.konst g.konst) (columns_ties f.coefs g.coefs)
    ∙ ap (λ (t : Bool). (is_eq a && is_eq c) && t) (int_ties f.konst g.konst)
    ∙ sym (and_swap (is_eq a) (is_eq b) (is_eq c))
    ∙ ap (λ (t : Bool). is_eq a && t) (tied_then b c)
    ∙ tied_then a (ordering_then b c)

pub row_total : IsTotalOrder row_cmp
row_total = then_total (on_total kind_of nat_cmp_total) (then_total (on_total modulus_of int_cmp_total) (on_total form_of form_total))

pub row_equiv : IsEquivalence row_eq
row_equiv = and_equiv (on_equiv kind_of nat_eq_equiv) (and_equiv (on_equiv modulus_of int_eq_equiv) (on_equiv form_of form_equiv))

kinds_tie : (x y : ℕ) → nat_eq x y ≡ is_eq (nat_cmp x y)
kinds_tie x y = grind arith

pub row_ties : (r s : Row) → row_eq r s ≡ eq_by_cmp row_cmp r s
row_ties r s =
    let a = nat_cmp (kind_of r) (kind_of s) in
    let b = int_cmp (modulus_of r) (modulus_of s) in
    let c = form_cmp (form_of r) (form_of s) in
    ap (λ (t : Bool). t && (int_eq (modulus_of r) (modulus_of s) && form_eq (form_of r) (form_of s))) (kinds_tie (kind_of r) (kind_of s))
    ∙ ap (λ (t : Bool). is_eq a && (t && form_eq (form_of r) (form_of s))) (int_ties (modulus_of r) (modulus_of s))
    ∙ ap (λ (t : Bool). is_eq a && (is_eq b && t)) (form_ties (form_of r) (form_of s))
    ∙ ap (λ (t : Bool). is_eq a && t) (tied_then b c)
    ∙ tied_then a (ordering_then b c)
