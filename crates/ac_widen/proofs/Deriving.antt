-- Derivations show obligations, and grow by output pairs, steps and hull entries.
use Rattle.std.proofs.Common.{◌≡◌, ◌⊎◌, inl, inr, ℕ, zero, suc, ℤ, List, [], ◌∷◌, ◌++◌, length, map, zip, Some, true, refl, ap, sym, ◌∙◌, arith, append_assoc, length-append}
use Rattle.std.specs.Prelude.{slice_get}
use Rattle.ac_syntax.specs.declared.tree.Order.{Order}
use Rattle.ac_forms.specs.Rows.{Holds, Meets}
use Rattle.ac_forms.specs.declared.row.Row.{Row}
use Rattle.ac_forms.specs.ListMembers.{IsAmong}
use Rattle.ac_widen.specs.Combinations.{IsCombination, Each}
use Rattle.ac_widen.specs.Setting.{Setting}
use Rattle.ac_widen.specs.Obligations.{Obligation, Obligations, BrokenBy, output, step, hull, none, more}
use Rattle.ac_widen.specs.Derivations.{EntryOf, StandsAt, Weighs, BrokenEarlier, Justified, Derives, IsDerivation}
use Rattle.ac_widen.specs.declared.derivation.Reason.{Reason}
use Rattle.ac_widen.specs.declared.derivation.Reason.TheVariants.{Output, Step, Hull}
use Rattle.ac_widen.specs.Claims.{IsClaimOf}
use Rattle.ac_widen.specs.DerivationPaths.{StepsOn, path_entries, AreAt}
use Rattle.ac_widen.proofs.Tests.{holds_or}
use Rattle.ac_widen.proofs.Widening.{claim_broken}

-- entries stay where they are as the list grows
pub get_front : {A : Type 0} (xs ys : List A) (i : ℕ) (x : A) → slice_get xs i ≡ Some x → slice_get (xs ++ ys) i ≡ Some x
get_front [] ys i x e = absurd cc
get_front (z ∷ xs) ys zero x e = e
get_front (z ∷ xs) ys (suc i) x e = get_front xs ys i x e

pub get_last : {A : Type 0} (xs : List A) (x : A) (ys : List A) → slice_get (xs ++ x ∷ ys) (length xs) ≡ Some x
get_last [] x ys = refl
get_last (z ∷ xs) x ys = get_last xs x ys

each_get : {A : Type 0} (P : A → Type 0) (xs : List A) (i : ℕ) (x : A) → Each P xs → slice_get xs i ≡ Some x → P x
each_get P [] i x h e = absurd cc
each_get P (z ∷ xs) zero x h e = let q : z ≡ x = cc in rw (← q) h.0
each_get P (z ∷ xs) (suc i) x h e = each_get P xs i x h.1 e

pub each_append : {A : Type 0} (P : A → Type 0) (xs ys : List A) → Each P xs → Each P ys → Each P (xs ++ ys)
each_append P [] ys h g = g
each_append P (x ∷ xs) ys h g = (h.0, each_append P xs ys h.1 g)

module _ {K : Type 0} (s : Setting K) (order : K → Order) where
  abbrev Shown : EntryOf K → Type 0
  Shown e = Obligation s order e.positions e.point

  stands_obligation : (es : List (EntryOf K)) (i : ℕ) (k : K) (p : List ℤ) → Each Shown es → StandsAt es i k p → Obligation s order k p
  stands_obligation es i k p h a = rw (← a.2, ← a.3) (each_get Shown es i a.0 h a.1)

  weighed_obligation : (es : List (EntryOf K)) (k : K) (ws : List (ℕ × ℤ)) (ps : List (List ℤ)) → Each Shown es → Weighs es k ws ps → Obligations s order k ps
  weighed_obligation es k [] [] h w = none k
  weighed_obligation es k [] (p ∷ ps) h w = absurd w
  weighed_obligation es k (w ∷ ws) [] h g = absurd g
  weighed_obligation es k (w ∷ ws) (p ∷ ps) h g = more k p ps (stands_obligation es w.0 k p h g.0) (weighed_obligation es k ws ps h g.1)

  -- the breakers that a hull entry needs, gathered from the rows one by one
  breakers : (es : List (EntryOf K)) (k : K) (template : List Row) (q : List ℤ) → Each Shown es → BrokenEarlier es k template q
      → (bs : List (List ℤ)) × Obligations s order k bs × BrokenBy template bs q
  breakers es k [] q h b = ([], none k, λ r a n. absurd a)
  breakers es k (r ∷ rs) q h b = with_rest (breakers es k rs q h (λ x a n. b x (inr a) n)) (holds_or r q)
    where
      with_rest : (rest : ((bs : List (List ℤ)) × Obligations s order k bs × BrokenBy rs bs q)) → Holds r q ⊎ (¬ (Holds r q)) → (bs : List (List ℤ)) × Obligations s order k bs × BrokenBy (r ∷ rs) bs q
      with_rest rest (inl y) = (rest.0, rest.1, λ x a n. elim a [ inl e ↦ absurd (n (rw e y)) | inr m ↦ rest.2 x m n ])
      with_rest rest (inr n) =
          let c = b r (inl refl) n in (
            c.1 ∷ rest.0,
            more k c.1 rest.0 (stands_obligation es c.0 k c.1 h c.2) rest.1,
            λ x a y. elim a [ inl e ↦ (c.1, inl refl, rw e c.3) | inr m ↦ (let d = rest.2 x m y in (d.0, inr d.1, d.2)) ],
          )

  justified_obligation : (es : List (EntryOf K)) (k : K) (q : List ℤ) (why : Reason) → Each Shown es → Justified s order es k q why → Obligation s order k q
  justified_obligation es k q Output h j = output k q j
  justified_obligation es k q (Step i) h j = step j.0 j.1 k q (stands_obligation es i j.0 j.1 h j.2) j.3
  justified_obligation es k q (Hull m ws) h j =
      let b = breakers es k (s.template k) q h j.3 in
      hull k q m (map (λ w. w.1) ws) j.2.0 b.0 j.0 j.1 (weighed_obligation es k ws j.2.0 h j.2.1) b.1 j.2.2 b.2

  shown_after : (before es : List (EntryOf K)) → Each Shown before → Derives s order before es → Each Shown (before ++ es)
  shown_after before [] h d = each_append Shown before [] h tt
  shown_after before (e ∷ es) h d =
      let more_ = each_append Shown before (e ∷ []) h (justified_obligation before e.positions e.point e.reason h d.0, tt) in
      rw (sym (append_assoc before (e ∷ []) es)) (shown_after (before ++ e ∷ []) es more_ d.1)

  -- each entry of a derivation is an obligation
  pub derived_obligation : (es : List (EntryOf K)) → IsDerivation s order es → Each (λ e. Obligation s order e.positions e.point) es
  derived_obligation es d = shown_after [] es tt d

  derives_append : (before es fs : List (EntryOf K)) → Derives s order before es → Derives s order (before ++ es) fs → Derives s order before (es ++ fs)
  derives_append before [] fs d f = rw (append_nil before) at f
    where
      append_nil : {A : Type 0} (xs : List A) → xs ++ [] ≡ xs
      append_nil [] = refl
      append_nil (x ∷ xs) = ap (λ ys. x ∷ ys) (append_nil xs)
  derives_append before (e ∷ es) fs d f = (d.0, derives_append (before ++ e ∷ []) es fs d.1 (rw (sym (append_assoc before (e ∷ []) es)) at f))

  -- a derivation grows by a justified entry
  pub one_more : (es : List (EntryOf K)) (e : EntryOf K) → IsDerivation s order es → Justified s order es e.positions e.point e.reason → IsDerivation s order (es ++ e ∷ [])
  one_more es e d j = derives_append [] es (e ∷ []) d (j, tt)

  path_derives : (es : List (EntryOf K)) (i : ℕ) (k : K) (p : List ℤ) (path : List (K × List ℤ)) → length es ≡ suc i → StandsAt es i k p → StepsOn s order k p path
      → Derives s order es (path_entries i path)
  path_derives es i k p [] l a d = tt
  path_derives es i k p (c ∷ cs) l a d =
      let e : EntryOf K = record { positions = c.0; point = c.1; reason = Step i } in (
        (k, p, a, d.0),
        path_derives (es ++ e ∷ []) (suc i) c.0 c.1 cs (length-append es (e ∷ []) ∙ (omega (arith, l))) (e, rw (← l) (get_last es e []), refl, refl) d.1,
      )

  -- and by a path from its last entry
  pub path_more : (es : List (EntryOf K)) (i : ℕ) (k : K) (p : List ℤ) (path : List (K × List ℤ)) → IsDerivation s order es → length es ≡ suc i → StandsAt es i k p → StepsOn s order k p path
      → IsDerivation s order (es ++ path_entries i path)
  path_more es i k p path d l a w = derives_append [] es (path_entries i path) d (path_derives es i k p path l a w)

-- the weights of members, by their entries
weighs_zip : {K : Type 0} (es : List (EntryOf K)) (k : K) (ns : List ℕ) (ws : List ℤ) (ps : List (List ℤ)) → AreAt es k ns ps → length ws ≡ length ps → Weighs es k (zip ns ws) ps
weighs_zip es k [] [] [] a l = tt
weighs_zip es k [] [] (p ∷ ps) a l = absurd a
weighs_zip es k [] (w ∷ ws) [] a l = absurd (omega (arith, l))
weighs_zip es k [] (w ∷ ws) (p ∷ ps) a l = absurd a
weighs_zip es k (n ∷ ns) [] [] a l = absurd a
weighs_zip es k (n ∷ ns) [] (p ∷ ps) a l = absurd (omega (arith, l))
weighs_zip es k (n ∷ ns) (w ∷ ws) [] a l = absurd a
weighs_zip es k (n ∷ ns) (w ∷ ws) (p ∷ ps) a l = (a.0, weighs_zip es k ns ws ps a.1 (omega (arith, l)))

weights_zip : {K : Type 0} (es : List (EntryOf K)) (k : K) (ns : List ℕ) (ws : List ℤ) (ps : List (List ℤ)) → AreAt es k ns ps → length ws ≡ length ps → map (λ (w : ℕ × ℤ). w.1) (zip ns ws) ≡ ws
weights_zip es k [] [] [] a l = refl
weights_zip es k [] [] (p ∷ ps) a l = absurd a
weights_zip es k [] (w ∷ ws) [] a l = absurd (omega (arith, l))
weights_zip es k [] (w ∷ ws) (p ∷ ps) a l = absurd a
weights_zip es k (n ∷ ns) [] [] a l = absurd a
weights_zip es k (n ∷ ns) [] (p ∷ ps) a l = absurd (omega (arith, l))
weights_zip es k (n ∷ ns) (w ∷ ws) [] a l = absurd a
weights_zip es k (n ∷ ns) (w ∷ ws) (p ∷ ps) a l = ap (λ vs. w ∷ vs) (weights_zip es k ns ws ps a.1 (omega (arith, l)))

found_at : {K : Type 0} (es : List (EntryOf K)) (k : K) (ns : List ℕ) (ps : List (List ℤ)) (b : List ℤ) → AreAt es k ns ps → IsAmong b ps → (i : ℕ) × StandsAt es i k b
found_at es k [] [] b a m = absurd m
found_at es k [] (p ∷ ps) b a m = absurd a
found_at es k (n ∷ ns) [] b a m = absurd a
found_at es k (n ∷ ns) (p ∷ ps) b a (inl e) = (n, rw e a.0)
found_at es k (n ∷ ns) (p ∷ ps) b a (inr m) = found_at es k ns ps b a.1 m

-- a point of a claim whose members stand among the entries is a hull entry, with the weights of a combination of the kept members
pub hull_justified : {K : Type 0} (s : Setting K) (order : K → Order) (es : List (EntryOf K)) (k : K) (kept found : List (List ℤ)) (ns fs : List ℕ) (rows : List Row) (q : List ℤ) (m : ℤ) (ws : List ℤ)
    → s.recurrent k ≡ true → s.Instance k q → length q ≡ s.width k → IsClaimOf (s.width k) (s.template k) kept found rows → AreAt es k ns kept → AreAt es k fs found → Meets rows q → IsCombination q m ws kept
    → Justified s order es k q (Hull m (zip ns ws))
hull_justified s order es k kept found ns fs rows q m ws t inst w c a b meets comb = (
  t,
  inst,
  (kept, weighs_zip es k ns ws kept a comb.lengths, rw (weights_zip es k ns ws kept a comb.lengths) comb),
  λ r g n. let x = claim_broken (s.width k) (s.template k) kept found rows q c w meets r g n in let y = found_at es k fs found x.0 b x.1 in (y.0, x.0, y.1, x.2),
)

-- members stay where they are
pub are_still_at : {K : Type 0} (es more_ : List (EntryOf K)) (k : K) (ns : List ℕ) (ps : List (List ℤ)) → AreAt es k ns ps → AreAt (es ++ more_) k ns ps
are_still_at es more_ k [] [] a = tt
are_still_at es more_ k [] (p ∷ ps) a = absurd a
are_still_at es more_ k (n ∷ ns) [] a = absurd a
are_still_at es more_ k (n ∷ ns) (p ∷ ps) a = ((a.0.0, get_front es more_ n a.0.0 a.0.1, a.0.2, a.0.3), are_still_at es more_ k ns ps a.1)
