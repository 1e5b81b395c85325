-- Drafts made step by step and branch by branch.
use Rattle.std.proofs.Common.{◌≡◌, ℕ, suc, ◌+◌, ◌<◌, ◌≤◌, ◌⊎◌, inl, inr, ℤ, pos, List, [], ◌∷◌, ◌++◌, length, length-append, take, Some, Bool, true, false, refl, sym, ap, ◌∙◌, subst, arith}
use Rattle.std.proofs.lemmas.List.{get_or-take, get_or_past}
use Rattle.std.proofs.Math.ListN.{get_or-append}
use Rattle.ac_forms.specs.Affine.{Affine}
use Rattle.ac_forms.specs.declared.conj.Conj.{Conj}
use Rattle.ac_forms.specs.declared.row.Row.{Row}
use Rattle.ac_cert.specs.declared.types.Step.{Step}
use Rattle.ac_cert.specs.declared.types.Step.TheVariants.{Add, Cut, DivScale, DivAdd, DivMod, DivEq, Quot, Floor, EqCut}
use Rattle.ac_cert.specs.declared.types.Tree.{Tree}
use Rattle.ac_cert.specs.declared.ends.Absurd.{Absurd}
use Rattle.ac_cert.specs.Rules.{after_step, both_sides, side_rows, class, class_row, with_row, is_partition, sum_row}
use Rattle.ac_base.proofs.Options.{map-some}
use Rattle.ac_cert_short.specs.CertificateNodes.{Nodes, uses, step_uses, rows_of, makes_column, IsNeeded, nodes_of, list_kids}
use Rattle.ac_cert_short.specs.CertificateNodes.Nodes.{absurdity, split, residue, none, child, step, gap}
use Rattle.ac_cert_short.specs.Drafts.{node_size, Stands, KidsStand}
use Rattle.ac_cert_short.specs.DraftRelations.{at, AreCounted, AreForgotten, IsDraft, Drafted, ChildDrafted, KidsDrafted}

-- the row of a step that makes no column
one-row : (s : Step) (c d : Conj) → makes_column s ≡ false → after_step s c ≡ Some d → (r : Row) × (d ≡ with_row c r)
unfolding after_step
one-row (Add ts) c d m e = let b = map-some (sum_row ts c.rows) (with_row c) d e in (b.0, b.2)
one-row (Cut i g) c d m e = let b = map-some _ (with_row c) d e in (b.0, b.2)
one-row (DivScale i k) c d m e = let b = map-some _ (with_row c) d e in (b.0, b.2)
one-row (DivAdd i k j l) c d m e = let b = map-some _ (with_row c) d e in (b.0, b.2)
one-row (DivMod i g n f) c d m e = let b = map-some _ (with_row c) d e in (b.0, b.2)
one-row (DivEq i n) c d m e = let b = map-some _ (with_row c) d e in (b.0, b.2)
one-row (Quot i) c d m e = absurd cc
one-row (Floor n f) c d m e = absurd cc
one-row (EqCut i j) c d m e = let b = map-some _ (with_row c) d e in (b.0, b.2)

-- a row that no count of before has
is-used : (old mid : List ℕ) (p D : Nodes) (k : ℕ) → Drafted old mid p D → length old ≤ k → k < length mid → uses k D ≡ at mid k
is-used old mid p D k d short l =
    let e = d.counted k l in
    let z = get_or_past old k 0 short in
    omega (arith, e, z)

pub drafted-step : (old mid new : List ℕ) (s : Step) (p D : Nodes) → Drafted old mid p D → length mid ≡ length new + rows_of s → 0 < rows_of s → AreCounted (take (length new) mid) new (λ i. step_uses i s) → length old ≤ length new → (makes_column s ≡ true) ⊎ (0 < at mid (length new)) → Drafted old new (step s p) (step s D)
drafted-step old mid new s p D d long some counted short needed = record {
  counted = λ i l.
      let a = counted i l in
      let b = get_or-take (length new) mid i 0 l in
      let e = d.counted i (omega (arith, l, long)) in
      omega (arith, a, b, e);
  kept = record {
    stands = λ c h. (h.0, h.1, d.kept.stands h.0 h.2);
    needed = (elim needed [ inl m ↦ inl m | inr u ↦ inr (rw (is-used old mid p D (length new) d short (omega (arith, long, some))) u) ], subst (λ n. IsNeeded n D) long d.kept.needed);
    size = let z = d.kept.size in omega (arith, z);
  };
}

pub drafted-gap : (old mid new : List ℕ) (s : Step) (p D : Nodes) → Drafted old mid p D → length mid ≡ length new + 1 → new ≡ take (length new) mid → length old ≤ length new → makes_column s ≡ false → at mid (length new) ≡ 0 → Drafted old new (step s p) (gap D)
drafted-gap old mid new s p D d long cut short plain idle = record {
  counted = λ i l.
      let a : at new i ≡ at (take (length new) mid) i = ap (λ xs. at xs i) cut in
      let b = get_or-take (length new) mid i 0 l in
      let e = d.counted i (omega (arith, l, long)) in
      omega (arith, a, b, e);
  kept = record {
    stands = λ c h. let r = one-row s c h.0 plain h.1 in (r.0, d.kept.stands (with_row c r.0) (subst (λ e. Stands p e) r.1 h.2));
    needed = (is-used old mid p D (length new) d short (omega (arith, long)) ∙ idle, subst (λ n. IsNeeded n D) long d.kept.needed);
    size = let z = d.kept.size in omega (arith, z);
  };
}

-- other counts of before that are the same
pub drafted-same : (old base new : List ℕ) (p D : Nodes) → ((i : ℕ) → at base i ≡ at old i) → Drafted base new p D → Drafted old new p D
drafted-same old base new p D same d = record { counted = λ i l. let e = d.counted i l in let z = same i in omega (arith, e, z); kept = d.kept }

pub drafted-end : (old new : List ℕ) (j : ℕ) → AreCounted old new (λ i. uses i (absurdity j)) → Drafted old new (absurdity j) (absurdity j)
drafted-end old new j counted = record { counted = counted; kept = record { stands = λ c h. h; needed = tt; size = omega arith } }

-- ---- children

pub child-drafted : (old mid new : List ℕ) (busy : Bool) (p D : Nodes) → Drafted (old ++ 0 ∷ []) mid p D → length mid ≡ length (old ++ 0 ∷ []) → length mid ≡ length new + 1 → new ≡ take (length new) mid → (busy ≡ true → 0 < at mid (length new)) → (busy ≡ false → at mid (length new) ≡ 0) → ChildDrafted old new p D busy
child-drafted old mid new busy p D d long e cut sure never =
    let p1 = length-append old (0 ∷ []) in
    let same : length new ≡ length old = omega (arith, e, long, p1) in
    let last : uses (length old) D ≡ at mid (length new) =
    let a = d.counted (length old) (omega (arith, e, same)) in
    let z = seam old 0 in
    let b : at mid (length old) ≡ at mid (length new) = ap (λ k. at mid k) (sym same) in
    omega (arith, a, z, b) in
    record {
      long = same;
      counted = λ i l.
          let a = d.counted i (omega (arith, l, e)) in
          let b : at new i ≡ at mid i = ap (λ xs. at xs i) cut ∙ get_or-take (length new) mid i 0 l in
          let o = get_or-append old (0 ∷ []) 0 i (omega (arith, l, same)) in
          omega (arith, a, b, o);
      kept = subst (λ k. IsDraft k p D) (long ∙ p1) d.kept;
      idle = λ h. last ∙ never h;
      used = λ h. rw last (sure h);
    }
  where
    seam : (xs : List ℕ) (y : ℕ) → at (xs ++ y ∷ []) (length xs) ≡ y
    seam [] y = refl
    seam (x ∷ xs) y = seam xs y

-- the conjunctions of both sides
sides : (f : Affine) (c a b : Conj) → both_sides f c ≡ Some (a, b) → (s : Row × Row) × (side_rows f c.columns ≡ Some s) × (a ≡ with_row c s.0) × (b ≡ with_row c s.1)
sides f c a b e =
    let m = map-some (side_rows f c.columns) (λ s. (with_row c s.0, with_row c s.1)) (a, b) e in
    (m.0, m.1, ap (λ x. x.0) m.2, ap (λ x. x.1) m.2)

pub drafted-split : (old mid new : List ℕ) (f : Affine) (p q D E : Nodes) → ChildDrafted old mid p D true → ChildDrafted mid new q E true → Drafted old new (split f p q) (split f D E)
drafted-split old mid new f p q D E d e = record {
  counted = λ i l.
      let a = d.counted i (omega (arith, l, e.long)) in
      let b = e.counted i l in
      omega (arith, a, b);
  kept =
      let k : length new ≡ length old = e.long ∙ d.long in
      let y : IsDraft (length old + 1) q E = subst (λ n. IsDraft (n + 1) q E) d.long e.kept in
      let u : 0 < uses (length old) E = subst (λ n. 0 < uses n E) d.long (e.used refl) in
      rw k (record {
        stands = λ c h. (h.0, h.1, h.2, d.kept.stands h.0 h.3, e.kept.stands h.1 h.4);
        needed = (d.used refl, u, d.kept.needed, y.needed);
        size = let x = d.kept.size in let z = e.kept.size in omega (arith, x, z);
      });
}

-- one side alone
alone : (old new : List ℕ) (t p D : Nodes) → length new ≡ length old → AreCounted old new (λ i. uses i D) → IsDraft (length old + 1) p D → uses (length old) D ≡ 0 → node_size p ≤ node_size t → ((c : Conj) → Stands t c → (r : Row) × Stands p (with_row c r)) → Drafted old new t (gap D)
alone old new t p D long counted kept idle less on = record {
  counted = counted;
  kept = rw long (record {
    stands = λ c h. let r = on c h in (r.0, kept.stands (with_row c r.0) r.1);
    needed = (idle, kept.needed);
    size = let z = kept.size in omega (arith, z, less);
  });
}

-- what a later child adds, when an earlier one is forgotten
after-forgetting : (old mid late new : List ℕ) (D E : ℕ → ℕ) → length mid ≡ length new → length late ≡ length new → AreCounted old mid D → AreCounted mid late E → AreForgotten late new D → AreCounted old new E
after-forgetting old mid late new D E m l a b f i h =
    let x = a i (omega (arith, h, m)) in
    let y = b i (omega (arith, h, l)) in
    let z = f i h in
    omega (arith, x, y, z)

pub drafted-first : (old new : List ℕ) (f : Affine) (p q D : Nodes) → ChildDrafted old new p D false → Drafted old new (split f p q) (gap D)
drafted-first old new f p q D d =
    alone old new (split f p q) p D d.long d.counted d.kept (d.idle refl) (omega arith)
    (λ c h. let s = sides f c h.0 h.1 h.2 in (s.0.0, subst (λ x. Stands p x) s.2 h.3))

pub drafted-second : (old mid late new : List ℕ) (f : Affine) (p q D E : Nodes) (busy : Bool) → ChildDrafted old mid p D busy → ChildDrafted mid late q E false → length new ≡ length late → AreForgotten late new (λ i. uses i D) → Drafted old new (split f p q) (gap E)
drafted-second old mid late new f p q D E busy d e same forgotten =
    alone old new (split f p q) q E (same ∙ e.long ∙ d.long)
    (after-forgetting old mid late new (λ i. uses i D) (λ i. uses i E) (sym (same ∙ e.long)) (sym same) d.counted e.counted forgotten)
    (subst (λ n. IsDraft (n + 1) q E) d.long e.kept)
    (subst (λ n. uses n E ≡ 0) d.long (e.idle refl))
    (omega arith)
    (λ c h. let s = sides f c h.0 h.1 h.2 in (s.0.1, subst (λ x. Stands q x) s.3 h.4))

-- ---- the children of a residue branch

pub kids-none : (old : List ℕ) → KidsDrafted old old none none
kids-none old = record { long = refl; counted = λ i l. omega arith; stands = λ m f i c h. tt; count = refl; needed = tt; size = omega arith }

pub kids-more : (old mid new : List ℕ) (ts ks p D : Nodes) → KidsDrafted old mid ts ks → ChildDrafted mid new p D true → KidsDrafted old new (child p ts) (child D ks)
kids-more old mid new ts ks p D k d = record {
  long = d.long ∙ k.long;
  counted = λ i l.
      let a = k.counted i (omega (arith, l, d.long)) in
      let b = d.counted i l in
      omega (arith, a, b);
  stands = λ m f i c h. (d.kept.stands (class m f (pos i) c) h.0, k.stands m f (i + 1) c h.1);
  count = ap suc k.count;
  needed = (subst (λ n. 0 < uses n D) k.long (d.used refl), subst (λ n. IsNeeded (n + 1) D) k.long d.kept.needed, k.needed);
  size = let x = k.size in let y = d.kept.size in omega (arith, x, y);
}

pub drafted-residue : (old new : List ℕ) (m : ℤ) (f : Affine) (ts ks : Nodes) → KidsDrafted old new ts ks → Drafted old new (residue m f ts) (residue m f ks)
drafted-residue old new m f ts ks k = record {
  counted = k.counted;
  kept = record {
    stands = λ c h. (ap (λ n. is_partition m f c.columns n) k.count ∙ h.0, k.stands m f 0 c h.1);
    needed = subst (λ n. IsNeeded n ks) (sym k.long) k.needed;
    size = let x = k.size in omega (arith, x);
  };
}

kid-stands : (xs ys : List (Tree Absurd)) (t : Tree Absurd) (m : ℤ) (f : Affine) (i : ℕ) (c : Conj) → KidsStand (list_kids (xs ++ t ∷ ys)) m f i c → (r : Row) × Stands (nodes_of t) (with_row c r)
kid-stands [] ys t m f i c h = (class_row m f (pos i), h.0)
kid-stands (x ∷ xs) ys t m f i c h = kid-stands xs ys t m f (i + 1) c h.1

kid-less : (xs ys : List (Tree Absurd)) (t : Tree Absurd) → node_size (nodes_of t) ≤ node_size (list_kids (xs ++ t ∷ ys))
kid-less [] ys t = omega arith
kid-less (x ∷ xs) ys t = let e = kid-less xs ys t in omega (arith, e)

pub drafted-kid : (old mid late new : List ℕ) (m : ℤ) (f : Affine) (xs ys : List (Tree Absurd)) (t : Tree Absurd) (ts ks D : Nodes) → KidsDrafted old mid ts ks → ChildDrafted mid late (nodes_of t) D false → length new ≡ length late → AreForgotten late new (λ i. uses i ks) → Drafted old new (residue m f (list_kids (xs ++ t ∷ ys))) (gap D)
drafted-kid old mid late new m f xs ys t ts ks D k d same forgotten =
    alone old new (residue m f (list_kids (xs ++ t ∷ ys))) (nodes_of t) D (same ∙ d.long ∙ k.long)
    (after-forgetting old mid late new (λ i. uses i ks) (λ i. uses i D) (sym (same ∙ d.long)) (sym same) k.counted d.counted forgotten)
    (subst (λ n. IsDraft (n + 1) (nodes_of t) D) k.long d.kept)
    (subst (λ n. uses n D ≡ 0) k.long (d.idle refl))
    (let e = kid-less xs ys t in omega (arith, e))
    (λ c h. kid-stands xs ys t m f 0 c h.1)
