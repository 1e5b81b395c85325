-- Trees made of drafts, at the new places of their rows.
use Rattle.std.proofs.Common.{◌≡◌, ℕ, zero, suc, ◌+◌, ◌<◌, ◌⊎◌, inl, inr, ℤ, pos, List, [], ◌∷◌, ◌++◌, length, length-append, Some, None, cond, refl, sym, ap, ◌∙◌, subst, arith}
use Rattle.std.specs.Prelude.{option_map}
use Rattle.ac_forms.specs.Affine.{Affine}
use Rattle.ac_forms.specs.declared.conj.Conj.{Conj}
use Rattle.ac_forms.specs.declared.row.Row.{Row}
use Rattle.ac_cert.specs.declared.types.Step.{Step}
use Rattle.ac_cert.specs.declared.types.Step.TheVariants.{Add, Cut, DivScale, DivAdd, DivMod, DivEq, Quot, Floor, EqCut}
use Rattle.ac_cert.specs.AbsurdEnd.{is_absurd}
use Rattle.ac_cert.specs.declared.types.Rule.TheVariants as rule
use Rattle.ac_cert.specs.Rules.{both_sides, side_rows, class_row, with_row, is_partition}
use Rattle.ac_base.proofs.Options.{map-some}
use Rattle.ac_cert_short.specs.CertificateNodes.{Nodes, once, term_uses, step_uses, uses, rows_of, makes_column, IsNeeded}
use Rattle.ac_cert_short.specs.CertificateNodes.Nodes.{absurdity, split, residue, none, child, step, gap}
use Rattle.ac_cert_short.specs.Drafts.{kid_count, Stands}
use Rattle.ac_cert_short.specs.DraftRelations.{AgreeOn, further, place, moved, moved_terms, IsPlaced, KidsPlaced}
use Rattle.ac_cert_short.proofs.Agreeing.{length-further, place-before, place-next, once-self, once-same, agree-less, agree-row, agree-more, agree-gap, moved-on}

-- ---- a moved step uses the rows at their new places

once-moved : (ps : List ℕ) (i j : ℕ) → 0 < once i j → 0 < once (place ps i) (place ps j)
once-moved ps i j h =
    let e = once-self (place ps i) in
    let same : 0 < once (place ps i) (place ps i) = omega (arith, e) in
    subst (λ k. 0 < once (place ps i) (place ps k)) (once-same i j h) same

either : (a b : ℕ) → 0 < a + b → (0 < a) ⊎ (0 < b)
either zero b h = inr (omega (arith, h))
either (suc a) b h = inl (omega arith)

both-used : (a b x y : ℕ) → (0 < a → 0 < x) → (0 < b → 0 < y) → 0 < a + b → 0 < x + y
both-used a b x y f g h = elim (either a b h) [
  | inl p ↦ let q = f p in omega (arith, q)
  | inr p ↦ let q = g p in omega (arith, q)
]

terms-moved : (ps : List ℕ) (i : ℕ) (ts : List (ℕ × ℤ)) → 0 < term_uses i ts → 0 < term_uses (place ps i) (moved_terms ps ts)
terms-moved ps i [] h = absurd (omega (arith, h))
terms-moved ps i (t ∷ ts) h = both-used (once i t.0) (term_uses i ts) (once (place ps i) (place ps t.0)) (term_uses (place ps i) (moved_terms ps ts)) (λ p. once-moved ps i t.0 p) (λ p. terms-moved ps i ts p) h

step-moved : (ps : List ℕ) (i : ℕ) (s : Step) → 0 < step_uses i s → 0 < step_uses (place ps i) (moved ps s)
step-moved ps i (Add ts) h = terms-moved ps i ts h
step-moved ps i (Cut j g) h = once-moved ps i j h
step-moved ps i (DivScale j k) h = once-moved ps i j h
step-moved ps i (DivAdd j k l n) h = both-used (once i j) (once i l) (once (place ps i) (place ps j)) (once (place ps i) (place ps l)) (λ p. once-moved ps i j p) (λ p. once-moved ps i l p) h
step-moved ps i (DivMod j g n f) h = once-moved ps i j h
step-moved ps i (DivEq j n) h = once-moved ps i j h
step-moved ps i (Quot j) h = once-moved ps i j h
step-moved ps i (Floor m f) h = absurd (omega (arith, h))
step-moved ps i (EqCut j l) h = both-used (once i j) (once i l) (once (place ps i) (place ps j)) (once (place ps i) (place ps l)) (λ p. once-moved ps i j p) (λ p. once-moved ps i l p) h

pub rows-moved : (ps : List ℕ) (s : Step) → rows_of (moved ps s) ≡ rows_of s
rows-moved ps (Add ts) = refl
rows-moved ps (Cut j g) = refl
rows-moved ps (DivScale j k) = refl
rows-moved ps (DivAdd j k l n) = refl
rows-moved ps (DivMod j g n f) = refl
rows-moved ps (DivEq j n) = refl
rows-moved ps (Quot j) = refl
rows-moved ps (Floor m f) = refl
rows-moved ps (EqCut j l) = refl

column-moved : (ps : List ℕ) (s : Step) → makes_column (moved ps s) ≡ makes_column s
column-moved ps (Add ts) = refl
column-moved ps (Cut j g) = refl
column-moved ps (DivScale j k) = refl
column-moved ps (DivAdd j k l n) = refl
column-moved ps (DivMod j g n f) = refl
column-moved ps (DivEq j n) = refl
column-moved ps (Quot j) = refl
column-moved ps (Floor m f) = refl
column-moved ps (EqCut j l) = refl

pub rows-some : (s : Step) → 0 < rows_of s
rows-some (Floor m f) = omega arith
rows-some (Add ts) = omega arith
rows-some (Cut j g) = omega arith
rows-some (DivScale j k) = omega arith
rows-some (DivAdd j k l n) = omega arith
rows-some (DivMod j g n f) = omega arith
rows-some (DivEq j n) = omega arith
rows-some (Quot j) = omega arith
rows-some (EqCut j l) = omega arith

-- ---- steps and gaps

pub placed-gap : (ps : List ℕ) (x n : ℕ) (K T : Nodes) → IsPlaced (ps ++ x ∷ []) n K T → IsPlaced ps n (gap K) T
placed-gap ps x n K T k =
    let long = length-append ps (x ∷ []) in
    record {
      stands = λ need c d y l h. k.stands (subst (λ j. IsNeeded j K) (sym long) need.1) (with_row c h.0) d (agree-gap ps x (λ i. uses i K) c d h.0 y need.0) l h.1;
      needed = λ need. k.needed (subst (λ j. IsNeeded j K) (sym long) need.1);
      used = λ i l h. subst (λ j. 0 < uses j T) (place-before ps (x ∷ []) i l) (k.used i (omega (arith, l, long)) h);
      size = k.size;
    }

pub placed-step : (ps : List ℕ) (n : ℕ) (s : Step) (K T : Nodes) → IsPlaced (ps ++ further n (rows_of s)) (n + rows_of s) K T → IsPlaced ps n (step s K) (step (moved ps s) T)
placed-step ps n s K T k =
    let qs = further n (rows_of s) in
    let some = rows-some s in
    let long : length (ps ++ qs) ≡ length ps + rows_of s = length-append ps qs ∙ ap (λ j. length ps + j) (length-further n (rows_of s)) in
    record {
      stands = λ need c d y l h.
          let m = moved-on ps s c d h.0 (agree-less ps (λ i. step_uses i s + uses i K) (λ i. step_uses i s) c d (λ i u. omega (arith, u)) y) h.1 in
          let z = agree-more m.more ps n (λ i. uses i K) c d h.0 m.path (agree-less ps (λ i. step_uses i s + uses i K) (λ i. uses i K) c d (λ i u. omega (arith, u)) y) l m.columns m.rows m.path_rows in
          let w : AgreeOn (ps ++ qs) (λ i. uses i K) h.0 m.path = subst (λ j. AgreeOn (ps ++ further n j) (λ i. uses i K) h.0 m.path) m.count z in
          let count : length m.path.rows ≡ n + rows_of s =
          let a = ap length m.path_rows ∙ length-append d.rows m.more in
          let b = m.count in
          omega (arith, a, b, l) in
          (m.path, m.is, k.stands (subst (λ j. IsNeeded j K) (sym long) need.1) h.0 m.path w count h.2);
      needed = λ need.
          let column = column-moved ps s in
          let rest : IsNeeded (n + rows_of s) T = k.needed (subst (λ j. IsNeeded j K) (sym long) need.1) in (
            elim need.0 [
              | inl e ↦ inl (column ∙ e)
              | inr u ↦ inr (subst (λ j. 0 < uses j T) (place-next ps n (rows_of s) some) (k.used (length ps) (omega (arith, long, some)) u))
            ],
            subst (λ j. IsNeeded (n + j) T) (sym (rows-moved ps s)) rest,
          );
      used = λ i l h. both-used (step_uses i s) (uses i K) (step_uses (place ps i) (moved ps s)) (uses (place ps i) T)
          (λ p. step-moved ps i s p)
          (λ p. subst (λ j. 0 < uses j T) (place-before ps qs i l) (k.used i (omega (arith, l, long)) p)) h;
      size = ap suc k.size;
    }

-- ---- ends

pub placed-end : (ps : List ℕ) (n j : ℕ) → IsPlaced ps n (absurdity j) (absurdity (place ps j))
placed-end ps n j = record {
  stands = λ need c d y l h.
      let e = y.rows j (let o = once-self j in omega (arith, o)) in
      ap (λ o. cond (is_absurd o) None (Some rule.Absurd)) e ∙ h;
  needed = λ need. tt;
  used = λ i l h. once-moved ps i j h;
  size = refl;
}

-- ---- branches

-- a branch's row on both paths
child-agrees : (ps : List ℕ) (u v : ℕ → ℕ) (c d : Conj) (n : ℕ) (r : Row) → ((i : ℕ) → 0 < v i → 0 < u i) → AgreeOn ps u c d → length d.rows ≡ n → AgreeOn (ps ++ n ∷ []) v (with_row c r) (with_row d r)
child-agrees ps u v c d n r less x l =
    subst (λ k. AgreeOn (ps ++ k ∷ []) v (with_row c r) (with_row d r)) l
    (agree-row ps v c d (with_row c r) (with_row d r) r (agree-less ps u v c d less x) x.columns refl refl)

-- what a child's tree has
record ChildPlaced (ps : List ℕ) (n : ℕ) (K T : Nodes) : Type 0 where
  stands : IsNeeded (length ps + 1) K → (u : ℕ → ℕ) → ((i : ℕ) → 0 < uses i K → 0 < u i) → (c d : Conj) (r : Row) → AgreeOn ps u c d → length d.rows ≡ n → Stands K (with_row c r) → Stands T (with_row d r)
  needed : IsNeeded (length ps + 1) K → IsNeeded (n + 1) T
  used : (i : ℕ) → i < length ps → 0 < uses i K → 0 < uses (place ps i) T
  busy : 0 < uses (length ps) K → 0 < uses n T

child-placed : (ps : List ℕ) (n : ℕ) (K T : Nodes) → IsPlaced (ps ++ n ∷ []) (n + 1) K T → ChildPlaced ps n K T
child-placed ps n K T k =
    let long = length-append ps (n ∷ []) in
    record {
      stands = λ need u less c d r x l h.
          k.stands (subst (λ j. IsNeeded j K) (sym long) need) (with_row c r) (with_row d r)
          (child-agrees ps u (λ i. uses i K) c d n r less x l) (length-append d.rows (r ∷ []) ∙ ap (λ j. j + 1) l) h;
      needed = λ need. k.needed (subst (λ j. IsNeeded j K) (sym long) need);
      used = λ i l h. subst (λ j. 0 < uses j T) (place-before ps (n ∷ []) i l) (k.used i (omega (arith, l, long)) h);
      busy = λ h. subst (λ j. 0 < uses j T) (place-next ps n 1 (omega arith)) (k.used (length ps) (omega (arith, long)) h);
    }

sides-on : (f : Affine) (c d a b : Conj) → d.columns ≡ c.columns → both_sides f c ≡ Some (a, b) → (s : Row × Row) × (both_sides f d ≡ Some (with_row d s.0, with_row d s.1)) × (a ≡ with_row c s.0) × (b ≡ with_row c s.1)
sides-on f c d a b columns e =
    let m = map-some (side_rows f c.columns) (λ s. (with_row c s.0, with_row c s.1)) (a, b) e in
    (m.0, ap (λ n. option_map (λ s. (with_row d s.0, with_row d s.1)) (side_rows f n)) columns ∙ ap (λ o. option_map (λ s. (with_row d s.0, with_row d s.1)) o) m.1, ap (λ x. x.0) m.2, ap (λ x. x.1) m.2)

pub placed-split : (ps : List ℕ) (n : ℕ) (f : Affine) (K L T U : Nodes) → IsPlaced (ps ++ n ∷ []) (n + 1) K T → IsPlaced (ps ++ n ∷ []) (n + 1) L U → IsPlaced ps n (split f K L) (split f T U)
placed-split ps n f K L T U k l =
    let x = child-placed ps n K T k in
    let y = child-placed ps n L U l in
    record {
      stands = λ need c d g long h.
          let s = sides-on f c d h.0 h.1 g.columns h.2 in (
            with_row d s.0.0,
            with_row d s.0.1,
            s.1,
            x.stands need.2 (λ i. uses i K + uses i L) (λ i p. omega (arith, p)) c d s.0.0 g long (subst (λ z. Stands K z) s.2 h.3),
            y.stands need.3 (λ i. uses i K + uses i L) (λ i p. omega (arith, p)) c d s.0.1 g long (subst (λ z. Stands L z) s.3 h.4),
          );
      needed = λ need. (x.busy need.0, y.busy need.1, x.needed need.2, y.needed need.3);
      used = λ i b h. both-used (uses i K) (uses i L) (uses (place ps i) T) (uses (place ps i) U) (λ p. x.used i b p) (λ p. y.used i b p) h;
      size = let a = k.size in let b = l.size in omega (arith, a, b);
    }

pub kids-placed-none : (ps : List ℕ) (n : ℕ) → KidsPlaced ps n none none
kids-placed-none ps n = record { stands = λ need m f i c d g l h. tt; count = refl; needed = λ need. tt; used = λ i l h. h; size = refl }

pub kids-placed-more : (ps : List ℕ) (n : ℕ) (K T ks ts : Nodes) → IsPlaced (ps ++ n ∷ []) (n + 1) K T → KidsPlaced ps n ks ts → KidsPlaced ps n (child K ks) (child T ts)
kids-placed-more ps n K T ks ts k more =
    let x = child-placed ps n K T k in
    record {
      stands = λ need m f i c d g l h. (
        x.stands need.1 (λ i. uses i K + uses i ks) (λ i p. omega (arith, p)) c d (class_row m f (pos i)) g l h.0,
        more.stands need.2 m f (i + 1) c d (agree-less ps (λ i. uses i K + uses i ks) (λ i. uses i ks) c d (λ i p. omega (arith, p)) g) l h.1,
      );
      count = ap suc more.count;
      needed = λ need. (x.busy need.0, x.needed need.1, more.needed need.2);
      used = λ i b h. both-used (uses i K) (uses i ks) (uses (place ps i) T) (uses (place ps i) ts) (λ p. x.used i b p) (λ p. more.used i b p) h;
      size = let a = k.size in let b = more.size in omega (arith, a, b);
    }

pub placed-residue : (ps : List ℕ) (n : ℕ) (m : ℤ) (f : Affine) (ks ts : Nodes) → KidsPlaced ps n ks ts → IsPlaced ps n (residue m f ks) (residue m f ts)
placed-residue ps n m f ks ts k = record {
  stands = λ need c d g l h.
      (ap (λ j. is_partition m f j (kid_count ts)) g.columns ∙ ap (λ j. is_partition m f c.columns j) k.count ∙ h.0, k.stands need m f 0 c d g l h.1);
  needed = λ need. k.needed need;
  used = λ i b h. k.used i b h;
  size = let a = k.size in omega (arith, a);
}
