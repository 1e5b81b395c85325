-- Forms of one value where equalities hold, and divisibilities that follow.
use Rattle.std.proofs.Common.{◌≡◌, ◌⊎◌, inl, inr, ℕ, zero, suc, ◌+◌, ◌<◌, ◌≤◌, ℤ, pos, ◌+ℤ◌, ◌*ℤ◌, List, [], ◌∷◌, ◌++◌, length, drop, get_or, unsigned_abs, ap, ◌∙◌, subst, arith}
use Rattle.std.proofs.lemmas.Int.{ints}
use Rattle.std.proofs.lemmas.List.{drop_more, drop_all}
use Rattle.ac_base.specs.Dot.{dot}
use Rattle.ac_base.specs.Gcd.{DividesEach}
use Rattle.ac_base.specs.Multiple.{IsMultiple}
use Rattle.ac_base.proofs.Multiples.{multiple_add, multiple_from}
use Rattle.ac_forms.specs.Affine.{Affine, combined, value_at}
use Rattle.ac_forms.specs.FormOrder.{modulus_of}
use Rattle.ac_forms.specs.Rows.{Holds, Meets}
use Rattle.ac_forms.specs.declared.row.Row.{Row}
use Rattle.ac_forms.specs.declared.row.Row.TheVariants.{Div}
use Rattle.ac_forms.specs.ListMembers.{IsAmong}
use Rattle.ac_forms.proofs.Values.{value_at-combined}
use Rattle.ac_hull.specs.Hulls.{Vanish}
use Rattle.ac_hull.proofs.Among.{among_front, among_back, among_parts}
use Rattle.ac_walk_state.specs.RowRedundancy.{AreEnoughOn}

-- ---- forms

-- a multiple of an equality changes no value where the equality holds
pub same_value : (f e : Affine) (k : ℤ) (q : List ℤ) → value_at e q ≡ pos 0 → value_at (combined (pos 1) f k e) q ≡ value_at f q
same_value f e k q h = value_at-combined (pos 1) f k e q ∙ ap (λ v. pos 1 *ℤ value_at f q +ℤ k *ℤ v) h ∙ (omega (arith, ints))

pub ruleset reduce_steps = (same_value)

multiple_dot : (m : ℤ) (cs p : List ℤ) → DividesEach (unsigned_abs m) cs → IsMultiple m (dot cs p)
multiple_dot m [] p h = multiple_from m (pos 0) (pos 0) (omega (arith, ints))
multiple_dot m (c ∷ cs) [] h = multiple_from m (pos 0) (pos 0) (omega (arith, ints))
multiple_dot m (c ∷ cs) (x ∷ p) h =
    let e : c *ℤ x +ℤ dot cs p ≡ x *ℤ c +ℤ pos 1 *ℤ dot cs p = omega (arith, ints) in
    rw e (multiple_add m x c (pos 1) (dot cs p) h.0 (multiple_dot m cs p h.1))

-- a number that divides the constant and all coefficients divides each value
pub multiple_value : (m : ℤ) (f : Affine) (q : List ℤ) → DividesEach (unsigned_abs m) f.coefs → IsMultiple m f.konst → IsMultiple m (value_at f q)
multiple_value m f q h k =
    let e : value_at f q ≡ pos 1 *ℤ dot f.coefs q +ℤ pos 1 *ℤ f.konst = omega (arith, ints) in
    rw e (multiple_add m (pos 1) (dot f.coefs q) (pos 1) f.konst (multiple_dot m f.coefs q h) k)

pub row_follows : (r : Row) (m x : ℤ) (f rest : Affine) (q : List ℤ) → r ≡ Div m f → x ≡ modulus_of r → value_at rest q ≡ value_at f q → DividesEach (unsigned_abs x) rest.coefs → IsMultiple x rest.konst → Holds r q
row_follows r m x f rest q is e v h k =
    let n : x ≡ m = e ∙ ap modulus_of is in
    rw is (subst (λ (w : ℤ). IsMultiple m w) v (multiple_value m rest q (rw n at h) (rw n at k)))

-- before equality i: the form that is left has the value where all equalities hold
pub record ReducedHalfway (form : Affine) (es : List Affine) (rest : Affine) (i : ℕ) : Type 0 where
  pub value : (q : List ℤ) → Vanish es q → value_at rest q ≡ value_at form q

pub reduced_start : (form rest : Affine) (es : List Affine) → rest ≡ form → ReducedHalfway form es rest 0
reduced_start form rest es e = record { value = λ q v. ap (λ f. value_at f q) e }

vanish_at : (es : List Affine) (q : List ℤ) (i : ℕ) (e : Affine) → Vanish es q → i < length es → e ≡ get_or es i e → value_at e q ≡ pos 0
vanish_at [] q i e v l is = absurd (omega arith)
vanish_at (f ∷ es) q zero e v l is = rw is v.0
vanish_at (f ∷ es) q (suc i) e v l is = vanish_at es q i e v.1 (omega arith) is

pub reduced_step : (form : Affine) (es : List Affine) (rest new : Affine) (i : ℕ) (e : Affine) → ReducedHalfway form es rest i → i < length es → e ≡ get_or es i e → ((q : List ℤ) → value_at e q ≡ pos 0 → value_at new q ≡ value_at rest q)
    → ReducedHalfway form es new (i + 1)
reduced_step form es rest new i e h l is k = record { value = λ q v. k q (vanish_at es q i e v l is) ∙ h.value q v }

-- ---- divisors of all coefficients

-- before coefficient i: the number divides those before it
pub record DividesHalfway (m : ℤ) (cs : List ℤ) (i : ℕ) : Type 0 where
  pub room : i ≤ length cs
  pub onward : DividesEach (unsigned_abs m) cs → DividesEach (unsigned_abs m) (drop i cs)
  pub back : DividesEach (unsigned_abs m) (drop i cs) → DividesEach (unsigned_abs m) cs

pub divides_start : (m : ℤ) (cs : List ℤ) → DividesHalfway m cs 0
divides_start m cs = record { room = omega arith; onward = λ h. h; back = λ h. h }

pub divides_step : (m : ℤ) (cs : List ℤ) (i : ℕ) → DividesHalfway m cs i → i < length cs → IsMultiple m (get_or cs i (pos 0)) → DividesHalfway m cs (i + 1)
divides_step m cs i h l d =
    let e : drop i cs ≡ get_or cs i (pos 0) ∷ drop (i + 1) cs = drop_more cs i (pos 0) l in
    record { room = omega arith; onward = λ x. (rw e at (h.onward x)).1; back = λ x. h.back (rw e (d, x)) }

pub divides_fails : (m : ℤ) (cs : List ℤ) (i : ℕ) → DividesHalfway m cs i → i < length cs → ¬ (IsMultiple m (get_or cs i (pos 0))) → ¬ (DividesEach (unsigned_abs m) cs)
divides_fails m cs i h l n x =
    let e : drop i cs ≡ get_or cs i (pos 0) ∷ drop (i + 1) cs = drop_more cs i (pos 0) l in
    n (rw e at (h.onward x)).0

pub divides_end : (m : ℤ) (cs : List ℤ) (i : ℕ) → DividesHalfway m cs i → length cs ≤ i → DividesEach (unsigned_abs m) cs
divides_end m cs i h l = h.back (rw (drop_all i cs l) tt)

pub ruleset divides_steps = (divides_start, divides_step, divides_fails, divides_end)

-- ---- rows that are left

pub left_none : (es : List Affine) → AreEnoughOn es [] []
left_none es = record { among = λ r a. a; follow = λ q v m. tt }

among_snoc : (rows : List Row) (r x : Row) → IsAmong x (rows ++ r ∷ []) → IsAmong x rows ⊎ (x ≡ r)
among_snoc rows r x a = elim (among_parts x rows (r ∷ []) a) [ inl b ↦ inl b | inr b ↦ elim b [ inl e ↦ inr e | inr z ↦ absurd z ] ]

meets_snoc : (rows : List Row) (r : Row) (q : List ℤ) → Meets (rows ++ r ∷ []) q → Meets rows q × Holds r q
meets_snoc [] r q m = (tt, m.0)
meets_snoc (x ∷ rows) r q m = let k = meets_snoc rows r q m.1 in ((m.0, k.0), k.1)

snoc_meets : (rows : List Row) (r : Row) (q : List ℤ) → Meets rows q → Holds r q → Meets (rows ++ r ∷ []) q
snoc_meets [] r q m h = (h, tt)
snoc_meets (x ∷ rows) r q m h = (m.0, snoc_meets rows r q m.1 h)

pub left_kept : (es : List Affine) (seen kept : List Row) (r : Row) → AreEnoughOn es seen kept → AreEnoughOn es (seen ++ r ∷ []) (kept ++ r ∷ [])
left_kept es seen kept r h = record {
  among = λ x a. elim (among_snoc kept r x a) [ inl b ↦ among_front x seen (r ∷ []) (h.among x b) | inr e ↦ among_back x seen (r ∷ []) (inl e) ];
  follow = λ q v m. let k = meets_snoc kept r q m in snoc_meets seen r q (h.follow q v k.0) k.1;
}

pub left_dropped : (es : List Affine) (seen kept : List Row) (r : Row) → AreEnoughOn es seen kept → ((q : List ℤ) → Vanish es q → Holds r q) → AreEnoughOn es (seen ++ r ∷ []) kept
left_dropped es seen kept r h f = record { among = λ x a. among_front x seen (r ∷ []) (h.among x a); follow = λ q v m. snoc_meets seen r q (h.follow q v m) (f q v) }
