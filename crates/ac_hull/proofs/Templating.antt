-- Template rows, pair by pair, and that they are exactly the template rows.
use Rattle.std.proofs.Common.{◌≡◌, ◌≢◌, ◌⊎◌, inl, inr, ◌==◌, nat_lt, ℕ, zero, suc, ◌+◌, ◌<◌, ◌≤◌, ℤ, pos, List, [], ◌∷◌, ◌++◌, length, map, take, get_or, Bool, true, false, cond, if◌then◌else◌, refl, ap, sym, ◌∙◌, arith, add-one, append_assoc, append-nil, unsigned_abs, to_z, of_z}
use Rattle.std.proofs.lemmas.Bool.{eqb-true, eqb-false, ltb-true, lt-ltb, cases_lt}
use Rattle.std.specs.Int.{w128}
use Rattle.std.proofs.lemmas.List.{take_more}
use Rattle.ac_base.proofs.Bits.{again_128}
use Rattle.ac_forms.specs.Fits.{Fits}
use Rattle.ac_forms.specs.declared.row.Row.{Row}
use Rattle.ac_forms.specs.declared.row.Row.TheVariants.{Div, Ge}
use Rattle.ac_forms.specs.ListMembers.{IsAmong}
use Rattle.ac_hull.proofs.Among.{among_front, among_back, among_parts}
use Rattle.ac_hull.specs.Templates.{difference, IsBound, IsClass, bounds_of, classes_below, classes_of, pair_rows, row_rows, all_rows, template_rows, IsTemplate}

module _ (columns : ℕ) (thresholds moduli : List ℤ) where
  abbrev Good : Row → Type 0
  Good r = IsBound columns thresholds r ⊎ IsClass columns moduli r

  map_bound : (s t : ℕ) (cs : List ℤ) (r : Row) → IsAmong r (map (λ c. Ge (difference columns s t c)) cs) → (c : ℤ) × IsAmong c cs × (r ≡ Ge (difference columns s t c))
  map_bound s t [] r a = absurd a
  map_bound s t (c ∷ cs) r (inl e) = (c, inl refl, e)
  map_bound s t (c ∷ cs) r (inr a) = let x = map_bound s t cs r a in (x.0, inr x.1, x.2)

  bound_map : (s t : ℕ) (cs : List ℤ) (c : ℤ) → IsAmong c cs → IsAmong (Ge (difference columns s t c)) (map (λ c. Ge (difference columns s t c)) cs)
  bound_map s t [] c a = absurd a
  bound_map s t (d ∷ cs) c (inl e) = inl (ap (λ x. Ge (difference columns s t x)) e)
  bound_map s t (d ∷ cs) c (inr a) = inr (bound_map s t cs c a)

  bounds_good : (s t : ℕ) (b : Bool) → (s == t) ≡ b → s ≤ columns → t ≤ columns → (r : Row) → IsAmong r (if b then [] else map (λ c. Ge (difference columns s t c)) thresholds) → Good r
  bounds_good s t true e hs ht r a = absurd a
  bounds_good s t false e hs ht r a = let x = map_bound s t thresholds r a in inl (s, t, x.0, hs, ht, eqb-false s t e, x.1, x.2)

  class_below : (s t : ℕ) (m : ℤ) (n : ℕ) (r : Row) → IsAmong r (classes_below columns s t m n) → (c : ℕ) × (c < n) × (r ≡ Div m (difference columns s t (pos c)))
  class_below s t m zero r a = absurd a
  class_below s t m (suc n) r a =
      elim (among_parts r (classes_below columns s t m n) (Div m (difference columns s t (pos n)) ∷ []) a) [
        | inl b ↦ (let x = class_below s t m n r b in (x.0, omega (arith, x.1), x.2))
        | inr b ↦ (n, omega arith, elim b [ inl e ↦ e | inr z ↦ absurd z ])
      ]

  below_class : (s t : ℕ) (m : ℤ) (n c : ℕ) → c < n → IsAmong (Div m (difference columns s t (pos c))) (classes_below columns s t m n)
  below_class s t m zero c h = absurd (omega arith)
  below_class s t m (suc n) c h =
      elim (cases_lt c n) [
        | inl l ↦ among_front (Div m (difference columns s t (pos c))) (classes_below columns s t m n) (Div m (difference columns s t (pos n)) ∷ []) (below_class s t m n c l)
        | inr l ↦ (let e : n ≡ c = omega arith in rw e (among_back (Div m (difference columns s t (pos c))) (classes_below columns s t m c) (Div m (difference columns s t (pos c)) ∷ []) (inl refl)))
      ]

  classes_in : (s t : ℕ) (ms : List ℤ) (r : Row) → IsAmong r (classes_of columns s t ms) → (m : ℤ) × (c : ℕ) × IsAmong m ms × (c < unsigned_abs m) × (r ≡ Div m (difference columns s t (pos c)))
  classes_in s t [] r a = absurd a
  classes_in s t (m ∷ ms) r a =
      elim (among_parts r (classes_below columns s t m (unsigned_abs m)) (classes_of columns s t ms) a) [
        | inl b ↦ (let x = class_below s t m (unsigned_abs m) r b in (m, x.0, inl refl, x.1, x.2))
        | inr b ↦ (let x = classes_in s t ms r b in (x.0, x.1, inr x.2, x.3, x.4))
      ]

  in_classes : (s t : ℕ) (ms : List ℤ) (m : ℤ) (c : ℕ) → IsAmong m ms → c < unsigned_abs m → IsAmong (Div m (difference columns s t (pos c))) (classes_of columns s t ms)
  in_classes s t [] m c a h = absurd a
  in_classes s t (d ∷ ms) m c (inl e) h = rw (← e) (among_front (Div m (difference columns s t (pos c))) (classes_below columns s t m (unsigned_abs m)) (classes_of columns s t ms) (below_class s t m (unsigned_abs m) c h))
  in_classes s t (d ∷ ms) m c (inr a) h = among_back (Div m (difference columns s t (pos c))) (classes_below columns s t d (unsigned_abs d)) (classes_of columns s t ms) (in_classes s t ms m c a h)

  class_good : (s t : ℕ) (b : Bool) → nat_lt s t ≡ b → t ≤ columns → (r : Row) → IsAmong r (if b then classes_of columns s t moduli else []) → Good r
  class_good s t true e ht r a = let x = classes_in s t moduli r a in inr (s, t, x.0, x.1, ltb-true s t e, ht, x.2, x.3, x.4)
  class_good s t false e ht r a = absurd a

  pair_good : (s t : ℕ) → s ≤ columns → t ≤ columns → (r : Row) → IsAmong r (pair_rows columns thresholds moduli s t) → Good r
  pair_good s t hs ht r a =
      elim (among_parts r (bounds_of columns thresholds s t) (if nat_lt s t then classes_of columns s t moduli else []) a) [
        | inl b ↦ bounds_good s t (s == t) refl hs ht r b
        | inr b ↦ class_good s t (nat_lt s t) refl ht r b
      ]

  row_good : (s n : ℕ) → s ≤ columns → n ≤ columns + 1 → (r : Row) → IsAmong r (row_rows columns thresholds moduli s n) → Good r
  row_good s zero hs h r a = absurd a
  row_good s (suc n) hs h r a =
      elim (among_parts r (row_rows columns thresholds moduli s n) (pair_rows columns thresholds moduli s n) a) [
        | inl b ↦ row_good s n hs (omega arith) r b
        | inr b ↦ pair_good s n hs (omega arith) r b
      ]

  all_good : (n : ℕ) → n ≤ columns + 1 → (r : Row) → IsAmong r (all_rows columns thresholds moduli n) → Good r
  all_good zero h r a = absurd a
  all_good (suc n) h r a =
      elim (among_parts r (all_rows columns thresholds moduli n) (row_rows columns thresholds moduli n (columns + 1)) a) [
        | inl b ↦ all_good n (omega arith) r b
        | inr b ↦ row_good n (columns + 1) (omega arith) (omega arith) r b
      ]

  -- a row of a pair is one of all
  pair_row : (s t n : ℕ) (r : Row) → t < n → IsAmong r (pair_rows columns thresholds moduli s t) → IsAmong r (row_rows columns thresholds moduli s n)
  pair_row s t zero r h a = absurd (omega arith)
  pair_row s t (suc n) r h a =
      elim (cases_lt t n) [
        | inl l ↦ among_front r (row_rows columns thresholds moduli s n) (pair_rows columns thresholds moduli s n) (pair_row s t n r l a)
        | inr l ↦ (let e : t ≡ n = omega arith in among_back r (row_rows columns thresholds moduli s n) (pair_rows columns thresholds moduli s n) (rw e at a))
      ]

  row_all : (s n : ℕ) (r : Row) → s < n → IsAmong r (row_rows columns thresholds moduli s (columns + 1)) → IsAmong r (all_rows columns thresholds moduli n)
  row_all s zero r h a = absurd (omega arith)
  row_all s (suc n) r h a =
      elim (cases_lt s n) [
        | inl l ↦ among_front r (all_rows columns thresholds moduli n) (row_rows columns thresholds moduli n (columns + 1)) (row_all s n r l a)
        | inr l ↦ (let e : s ≡ n = omega arith in among_back r (all_rows columns thresholds moduli n) (row_rows columns thresholds moduli n (columns + 1)) (rw e at a))
      ]

  in_all : (s t : ℕ) (r : Row) → s ≤ columns → t ≤ columns → IsAmong r (pair_rows columns thresholds moduli s t) → IsAmong r (template_rows columns thresholds moduli)
  in_all s t r hs ht a = row_all s (columns + 1) r (omega arith) (pair_row s t (columns + 1) r (omega arith) a)

  not_same : (s t : ℕ) (b : Bool) → (s == t) ≡ b → ¬ (s ≡ t) → b ≡ false
  not_same s t true e n = absurd (n (eqb-true s t e))
  not_same s t false e n = refl

  bound_in : (r : Row) → IsBound columns thresholds r → IsAmong r (template_rows columns thresholds moduli)
  bound_in r (s, t, c, hs, ht, n, a, e) =
      let f : (s == t) ≡ false = not_same s t (s == t) refl n in
      let m = bound_map s t thresholds c a in
      let b : IsAmong r (bounds_of columns thresholds s t) = rw (e, f) m in
      in_all s t r hs ht (among_front r (bounds_of columns thresholds s t) (if nat_lt s t then classes_of columns s t moduli else []) b)

  class_in : (r : Row) → IsClass columns moduli r → IsAmong r (template_rows columns thresholds moduli)
  class_in r (s, t, m, c, h, ht, a, l, e) =
      let f : nat_lt s t ≡ true = lt-ltb s t h in
      let b : IsAmong r (if nat_lt s t then classes_of columns s t moduli else []) = rw (e, f) (in_classes s t moduli m c a l) in
      in_all s t r (omega (arith, h, ht)) ht (among_back r (bounds_of columns thresholds s t) (if nat_lt s t then classes_of columns s t moduli else []) b)

pub template_exact : (columns : ℕ) (thresholds moduli : List ℤ) (rows : List Row) → rows ≡ template_rows columns thresholds moduli → IsTemplate columns thresholds moduli rows
template_exact columns thresholds moduli rows e r =
    rw e (
      (λ a. all_good columns thresholds moduli (columns + 1) (omega arith) r a),
      (λ g. elim g [ inl b ↦ bound_in columns thresholds moduli r b | inr c ↦ class_in columns thresholds moduli r c ]),
    )

-- one more of each
pub rows_more : (columns : ℕ) (thresholds moduli : List ℤ) (n : ℕ) → all_rows columns thresholds moduli (n + 1) ≡ all_rows columns thresholds moduli n ++ row_rows columns thresholds moduli n (columns + 1)
rows_more columns thresholds moduli n = rw (add-one n) refl

pub row_more : (columns : ℕ) (thresholds moduli : List ℤ) (s n : ℕ) → row_rows columns thresholds moduli s (n + 1) ≡ row_rows columns thresholds moduli s n ++ pair_rows columns thresholds moduli s n
row_more columns thresholds moduli s n = rw (add-one n) refl

pub class_more : (columns s t : ℕ) (m : ℤ) (n : ℕ) → classes_below columns s t m (n + 1) ≡ classes_below columns s t m n ++ Div m (difference columns s t (pos n)) ∷ []
class_more columns s t m n = rw (add-one n) refl

pub classes_snoc : (columns s t : ℕ) (ms : List ℤ) (m : ℤ) → classes_of columns s t (ms ++ m ∷ []) ≡ classes_of columns s t ms ++ classes_below columns s t m (unsigned_abs m)
classes_snoc columns s t [] m = append-nil (classes_below columns s t m (unsigned_abs m))
classes_snoc columns s t (d ∷ ms) m = ap (λ x. classes_below columns s t d (unsigned_abs d) ++ x) (classes_snoc columns s t ms m) ∙ sym (append_assoc (classes_below columns s t d (unsigned_abs d)) (classes_of columns s t ms) (classes_below columns s t m (unsigned_abs m)))

pub ruleset template_steps = (rows_more, template_exact)

pub ruleset row_steps = (row_more, append_assoc, append-nil)

pub ruleset pair_steps = (append_assoc, append-nil)

pub ruleset bound_steps = (append_assoc, append-nil)

pub ruleset class_steps = (classes_snoc, append_assoc, append-nil)

pub ruleset modulus_steps = (class_more, append_assoc, append-nil)

pub classes_step : (columns s t : ℕ) (ms : List ℤ) (rows made new : List Row) (i : ℕ) → i < length ms → made ≡ rows ++ classes_of columns s t (take i ms) → Fits (get_or ms i (pos 0))
    → new ≡ made ++ classes_below columns s t (to_z w128 (of_z w128 (get_or ms i (pos 0)))) (unsigned_abs (to_z w128 (of_z w128 (get_or ms i (pos 0))))) → new ≡ rows ++ classes_of columns s t (take (i + 1) ms)
classes_step columns s t ms rows made new i l h f e =
    let m = get_or ms i (pos 0) in
    let a : new ≡ made ++ classes_below columns s t m (unsigned_abs m) = rw (again_128 m f) at e in
    a ∙ ap (λ x. x ++ classes_below columns s t m (unsigned_abs m)) h ∙ append_assoc rows (classes_of columns s t (take i ms)) (classes_below columns s t m (unsigned_abs m))
    ∙ ap (λ x. rows ++ x) (sym (ap (classes_of columns s t) (take_more ms i (pos 0) l) ∙ classes_snoc columns s t (take i ms) m))
