-- The negation of a row: its pieces have no point in common, and hold together exactly where the row doesn't.
use Rattle.std.proofs.Common.{◌≡◌, ◌↔◌, ◌⊎◌, inl, inr, ℕ, zero, suc, ◌+◌, ◌-◌, ◌<◌, ◌≤◌, ℤ, pos, negsuc, neg_ℤ, ◌+ℤ◌, ◌-ℤ◌, ◌*ℤ◌, ◌≤ℤ◌, List, [], ◌∷◌, ◌++◌, length, map, replicate, refl, sym, ap, ◌∙◌, subst, arith, Result, Ok, Err, append-nil}
use Rattle.std.specs.Prelude.{IfOk, Vec, ◌<ℤ◌}
use Rattle.std.specs.declared.alloc.Global.{Global}
use Rattle.std.specs.Int.{int_div_euclid, int_rem_euclid}
use Rattle.std.proofs.lemmas.Int.{ints, by_lt_z}
use Rattle.std.proofs.lemmas.List.{length-append, length-replicate, length-map}
use Rattle.std.proofs.Math.Logic.{∥∥₁_elim}
use Rattle.ac_base.specs.Dot.{dot}
use Rattle.ac_base.specs.Multiple.{IsMultiple}
use Rattle.ac_base.proofs.Dot.{dot-append, dot-append_both, dot-nil}
use Rattle.ac_base.proofs.Floor.{positive_is}
use Rattle.ac_base.proofs.Multiples.{multiple_from, multiple_is}
use Rattle.ac_base.proofs.Products.{mul-le-mul_ℤ, mul-add_ℤ, neg-mul_ℤ}
use Rattle.ac_base.proofs.Residues.{split_mod, class_of}
use Rattle.ac_forms.specs.Affine.{Affine, value_at, shifted, scaled}
use Rattle.ac_forms.specs.Negation.{opposite, above, below, with_column, piece, negation, NegationFits, HasExtension}
use Rattle.ac_forms.specs.PieceMembership.{IsInSome, IsInNone, IsInOneAtMost}
use Rattle.ac_forms.specs.Rows.{Holds, IsRowOver, Meets}
use Rattle.ac_forms.specs.FormStops.{MadeWhere}
use Rattle.ac_forms.specs.declared.conj.Conj.{Conj}
use Rattle.ac_forms.specs.declared.stop.FormStop.{FormStop}
use Rattle.ac_forms.specs.declared.row.Row.{Row}
use Rattle.ac_forms.specs.declared.row.Row.TheVariants.{Eq, Div, Ge}
use Rattle.ac_forms.proofs.Values.{value_at-scaled, value_at-append}

pub length-with_column : (n : ℕ) (k : ℤ) (f : Affine) → length f.coefs ≤ n → length (with_column n k f).coefs ≡ n + 1
length-with_column n k f h =
    omega (arith, length-append (f.coefs ++ replicate (n - length f.coefs) (pos 0)) (k ∷ []), length-append f.coefs (replicate (n - length f.coefs) (pos 0)), length-replicate (n - length f.coefs) (pos 0))

pub value-below : (f : Affine) (p : List ℤ) → value_at (below f) p ≡ neg_ℤ (value_at f p) +ℤ negsuc 0
value-below f p = let e = value_at-scaled (negsuc 0) f p in omega (arith, ints, e)

pub value-above : (f : Affine) (p : List ℤ) → value_at (above f) p ≡ value_at f p +ℤ negsuc 0
value-above f p = omega (arith, ints)

dot-zeros : (m : ℕ) (p : List ℤ) → dot (replicate m (pos 0)) p ≡ pos 0
dot-zeros zero p = refl
dot-zeros (suc m) [] = refl
dot-zeros (suc m) (x ∷ p) = let e = dot-zeros m p in omega (arith, ints, e)

pub ruleset negation_steps = length-with_column

dot-pad : (cs p : List ℤ) (m : ℕ) → dot (cs ++ replicate m (pos 0)) p ≡ dot cs p
dot-pad [] p m = dot-zeros m p
dot-pad (c ∷ cs) [] m = refl
dot-pad (c ∷ cs) (x ∷ p) m = ap (λ r. c *ℤ x +ℤ r) (dot-pad cs p m)

-- the value with a further column
pub value-with_column : (n : ℕ) (k : ℤ) (f : Affine) (p : List ℤ) (q : ℤ) → length f.coefs ≤ n → length p ≡ n → value_at (with_column n k f) (p ++ q ∷ []) ≡ value_at f p +ℤ k *ℤ q
value-with_column n k f p q h l =
    let zeros = replicate (n - length f.coefs) (pos 0) in
    let long : length (f.coefs ++ zeros) ≡ length p = omega (arith, length-append f.coefs zeros, length-replicate (n - length f.coefs) (pos 0), l, h) in
    let d = dot-append_both (f.coefs ++ zeros) (k ∷ []) p (q ∷ []) long in
    let e = dot-pad f.coefs p (n - length f.coefs) in
    omega (arith, ints, d, e)

nil_of : (xs : List ℤ) → length xs ≡ 0 → xs ≡ []
nil_of [] e = refl
nil_of (x ∷ xs) e = absurd (omega (arith, e))

one_of : (xs : List ℤ) → length xs ≡ 1 → (x : ℤ) × (xs ≡ x ∷ [])
one_of [] e = absurd (omega (arith, e))
one_of (x ∷ []) e = (x, refl)
one_of (x ∷ y ∷ xs) e = absurd (omega (arith, e))

-- a piece without further columns
flat_of : (n : ℕ) (rows : List Row) (p : List ℤ) → length p ≡ n → HasExtension (piece n rows) p → Meets rows p
flat_of n rows p l x =
    let e : x.0 ≡ [] = nil_of x.0 (omega (arith, length-append p x.0, x.1, l)) in
    rw (e, append-nil p) at x.2

flat_in : (n : ℕ) (rows : List Row) (p : List ℤ) → length p ≡ n → Meets rows p → HasExtension (piece n rows) p
flat_in n rows p l m = ([], rw (append-nil p) l, rw (append-nil p) m)

below_in : (n : ℕ) (f : Affine) (p : List ℤ) → length p ≡ n → value_at f p <ℤ pos 0 → HasExtension (piece n (Ge (below f) ∷ [])) p
below_in n f p l h = flat_in n (Ge (below f) ∷ []) p l (omega (arith, ints, value-below f p, h), tt)

above_in : (n : ℕ) (f : Affine) (p : List ℤ) → length p ≡ n → pos 0 <ℤ value_at f p → HasExtension (piece n (Ge (above f) ∷ [])) p
above_in n f p l h = flat_in n (Ge (above f) ∷ []) p l (omega (arith, ints, value-above f p, h), tt)

below_out : (n : ℕ) (f : Affine) (p : List ℤ) → length p ≡ n → HasExtension (piece n (Ge (below f) ∷ [])) p → value_at f p <ℤ pos 0
below_out n f p l x = let m = (flat_of n (Ge (below f) ∷ []) p l x).0 in omega (arith, ints, value-below f p, m)

above_out : (n : ℕ) (f : Affine) (p : List ℤ) → length p ≡ n → HasExtension (piece n (Ge (above f) ∷ [])) p → pos 0 <ℤ value_at f p
above_out n f p l x = let m = (flat_of n (Ge (above f) ∷ []) p l x).0 in omega (arith, ints, value-above f p, m)

ge_complement : (n : ℕ) (f : Affine) (p : List ℤ) → length p ≡ n → (¬ Holds (Ge f) p) ↔ IsInSome HasExtension (negation n (Ge f)) p
ge_complement n f p l = (
  (λ h. by_lt_z (value_at f p) (pos 0) (λ less. inl (below_in n f p l less)) (λ most. absurd (h most))),
  (λ s. elim s [ inl x ↦ (λ h. let b = below_out n f p l x in omega (arith, ints, b, h)) | inr b ↦ absurd b ]),
)

eq_complement : (n : ℕ) (f : Affine) (p : List ℤ) → length p ≡ n → (¬ Holds (Eq f) p) ↔ IsInSome HasExtension (negation n (Eq f)) p
eq_complement n f p l = (
  (λ h. by_lt_z (value_at f p) (pos 0) (λ less. inr (inl (below_in n f p l less)))
      (λ most. by_lt_z (pos 0) (value_at f p) (λ more. inl (above_in n f p l more)) (λ least. absurd (h (omega (arith, ints, most, least)))))),
  (λ s. elim s [
    | inl x ↦ (λ h. let b = above_out n f p l x in omega (arith, ints, b, h))
    | inr t ↦ elim t [ inl x ↦ (λ h. let b = below_out n f p l x in omega (arith, ints, b, h)) | inr b ↦ absurd b ]
  ]),
)

-- between two multiples
between : (k : ℕ) (v t q : ℤ) → v ≡ pos k *ℤ t → pos 0 ≤ℤ (v +ℤ negsuc 0 +ℤ neg_ℤ (pos k) *ℤ q) → pos 0 ≤ℤ (neg_ℤ v +ℤ (pos k -ℤ pos 1) +ℤ pos k *ℤ q) → ⊥
between k v t q e low high =
    let n = neg-mul_ℤ (pos k) q in
    by_lt_z q t
    (λ more.
    let m = mul-le-mul_ℤ k (q +ℤ pos 1) t (omega (arith, ints, more)) in
    omega (arith, ints, m, mul-add_ℤ (pos k) q (pos 1), high, e))
    (λ most.
    let m = mul-le-mul_ℤ k t q most in
    omega (arith, ints, m, n, low, e))

map_within : (cs : List ℤ) (n : ℕ) → length cs ≤ n → length (map (λ c. negsuc 0 *ℤ c) cs) ≤ n
map_within cs n h = omega (arith, length-map cs (λ (c : ℤ). negsuc 0 *ℤ c), h)

div_values : (n k : ℕ) (f : Affine) (p : List ℤ) (q : ℤ) → length f.coefs ≤ n → length p ≡ n
    → (value_at (with_column n (neg_ℤ (pos k)) (above f)) (p ++ q ∷ []) ≡ value_at f p +ℤ negsuc 0 +ℤ neg_ℤ (pos k) *ℤ q)
    × (value_at (with_column n (pos k) (shifted (opposite f) (pos k -ℤ pos 1))) (p ++ q ∷ []) ≡ neg_ℤ (value_at f p) +ℤ (pos k -ℤ pos 1) +ℤ pos k *ℤ q)
div_values n k f p q h l =
    let a = value-with_column n (neg_ℤ (pos k)) (above f) p q h l in
    let b = value-with_column n (pos k) (shifted (opposite f) (pos k -ℤ pos 1)) p q (map_within f.coefs n h) l in
    let s = value_at-scaled (negsuc 0) f p in
    (a ∙ ap (λ z. z +ℤ neg_ℤ (pos k) *ℤ q) (value-above f p), b ∙ ap (λ z. z +ℤ pos k *ℤ q) (omega (arith, ints, s)))

div_out : (n k : ℕ) (f : Affine) (p : List ℤ) → length f.coefs ≤ n → length p ≡ n → IsInSome HasExtension (negation n (Div (pos k) f)) p → ¬ Holds (Div (pos k) f) p
div_out n k f p h l (inl x) =
    let o = one_of x.0 (omega (arith, length-append p x.0, x.1, l)) in
    let m = rw o.1 at x.2 in
    let v = div_values n k f p o.0 h l in
    let low = rw v.0 at m.0 in
    let high = rw v.1 at m.1.0 in
    λ d. ∥∥₁_elim (multiple_is (pos k) (value_at f p) d) (λ a b. absurd a) (λ t. between k (value_at f p) t.0 o.0 t.1 low high)
div_out n k f p h l (inr b) = absurd b

div_in : (n k i : ℕ) (f : Affine) (p : List ℤ) (q : ℤ) → length f.coefs ≤ n → length p ≡ n → value_at f p ≡ pos k *ℤ q +ℤ pos i → i < k → ¬ Holds (Div (pos k) f) p → IsInSome HasExtension (negation n (Div (pos k) f)) p
div_in n k zero f p q h l e s d = absurd (d (multiple_from (pos k) (value_at f p) q (omega (arith, ints, e))))
div_in n k (suc i) f p q h l e s d =
    let v = div_values n k f p q h l in
    let m = neg-mul_ℤ (pos k) q in
    inl (q ∷ [], omega (arith, length-append p (q ∷ []), l), (rw v.0 (omega (arith, ints, e, m)), (rw v.1 (omega (arith, ints, e, s)), tt)))

div_complement : (n k : ℕ) (f : Affine) (p : List ℤ) → length f.coefs ≤ n → length p ≡ n → 0 < k → (¬ Holds (Div (pos k) f) p) ↔ IsInSome HasExtension (negation n (Div (pos k) f)) p
div_complement n k f p h l some =
    let c = class_of (value_at f p) k some in
    let e = rw c.2 at (split_mod (value_at f p) k some) in
    ((λ d. div_in n k c.0 f p (int_div_euclid (value_at f p) (pos k)) h l e c.1 d), (λ s. div_out n k f p h l s))

pub complement : (n : ℕ) (r : Row) (p : List ℤ) → IsRowOver n r → length p ≡ n → (¬ Holds r p) ↔ IsInSome HasExtension (negation n r) p
complement n (Eq f) p w l = eq_complement n f p l
complement n (Div m f) p w l = let s = positive_is m w.1 in rw s.2 (div_complement n s.0 f p w.0 l s.1)
complement n (Ge f) p w l = ge_complement n f p l

pub apart : (n : ℕ) (r : Row) (p : List ℤ) → length p ≡ n → IsInOneAtMost HasExtension (negation n r) p
apart n (Eq f) p l =
    ((λ x. ((λ y. let a = above_out n f p l x in let b = below_out n f p l y in omega (arith, ints, a, b)), tt)), ((λ _. tt), tt))
apart n (Div m f) p l = ((λ _. tt), tt)
apart n (Ge f) p l = ((λ _. tt), tt)

pub pieces_complement : (P : Type 0) (res : Result (Vec Conj Global) FormStop) (n : ℕ) (r : Row) → IsRowOver n r → MadeWhere res P (λ pieces. pieces.items ≡ negation n r)
    → IfOk res (λ pieces. (p : List ℤ) → length p ≡ n → (¬ Holds r p) ↔ IsInSome HasExtension pieces.items p)
pieces_complement P (Ok pieces) n r w m = λ p l. rw m.1 (complement n r p w l)
pieces_complement P (Err stop) n r w m = tt

pub pieces_apart : (P : Type 0) (res : Result (Vec Conj Global) FormStop) (n : ℕ) (r : Row) → MadeWhere res P (λ pieces. pieces.items ≡ negation n r)
    → IfOk res (λ pieces. (p : List ℤ) → length p ≡ n → IsInOneAtMost HasExtension pieces.items p)
pieces_apart P (Ok pieces) n r m = λ p l. rw m.1 (apart n r p l)
pieces_apart P (Err stop) n r m = tt
