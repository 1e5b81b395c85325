-- Marks and children placed one after the other, from the end of a list.
use Rattle.std.proofs.Common.{◌≡◌, ℕ, ◌+◌, ◌≤◌, ℤ, List, [], ◌∷◌, ◌++◌, length, length-append, take, slice_get, append_assoc, append-nil, refl, sym, ap, ◌∙◌, subst, arith}
use Rattle.std.specs.Prelude.{Box, Vec}
use Rattle.std.specs.declared.alloc.Global.{Global}
use Rattle.std.proofs.Math.Seq.{take-append_seam}
use Rattle.ac_forms.specs.Affine.{Affine}
use Rattle.ac_forms.specs.declared.conj.Conj.{Conj}
use Rattle.ac_cert.specs.declared.types.Step.{Step}
use Rattle.ac_cert.specs.declared.types.Tree.{Tree}
use Rattle.ac_cert.specs.declared.types.Next.{Next, Split, Residue}
use Rattle.ac_cert.specs.declared.ends.Absurd.{Absurd}
use Rattle.ac_cert.specs.AcceptedTrees.{Accepts, absurd_refusals}
use Rattle.ac_cert.specs.CertificateFaults.{size_of}
use Rattle.ac_cert_short.specs.declared.draft.Mark.{Mark}
use Rattle.ac_cert_short.specs.declared.draft.Mark.TheVariants.{Kept, Gap}
use Rattle.ac_cert_short.specs.declared.draft.Draft.{Draft}
use Rattle.ac_cert_short.specs.declared.draft.Behind.{Behind}
use Rattle.ac_cert_short.specs.declared.draft.Behind.TheVariants as behind
use Rattle.ac_cert_short.specs.CertificateNodes.{Nodes, along, nodes_of, nodes_behind, list_kids, rows_of, IsNeeded, uses}
use Rattle.ac_cert_short.specs.CertificateNodes.Nodes.{absurdity, split, residue, none, child, step}
use Rattle.ac_cert_short.specs.Drafts.{marked, back_along, back_kids, draft_behind, draft_nodes}
use Rattle.ac_cert_short.specs.DraftRelations.{AgreeOn, Drafted, further, place, moved, IsPlaced, KidsPlaced, MarkPlaced, MarksPlaced}
use Rattle.ac_cert_short.proofs.Agreeing.{length-further}
use Rattle.ac_cert_short.proofs.PlacedNodes.{placed-gap, placed-step, placed-end, placed-split, placed-residue, kids-placed-none, kids-placed-more, rows-moved}
use Rattle.ac_cert_short.proofs.Shapes.{marks_pushed, kids_pushed, draft_at_residue, tree_at_residue}
use Rattle.ac_cert_short.proofs.Views.{tree-stands, stands-tree, size-tree}

pub mark_gap : (ps : List ℕ) (n x : ℕ) (steps : List Step) (qs : List ℕ) → n ≤ length ps → qs ≡ ps ++ x ∷ [] → MarkPlaced ps n steps Gap qs n steps
mark_gap ps n x steps qs l e =
    let long = ap length e ∙ length-append ps (x ∷ []) in
    record {
      more = x ∷ [];
      longer = e;
      within = omega (arith, long, l);
      added = [];
      is = sym (append-nil steps);
      placed = λ K T h. placed-gap ps x n K T (subst (λ rs. IsPlaced rs n K T) e h);
    }

pub mark_step : (ps : List ℕ) (n : ℕ) (steps : List Step) (s made : Step) (qs : List ℕ) (k : ℕ) (after : List Step) → n ≤ length ps → made ≡ moved ps s → qs ≡ ps ++ further n (rows_of made) → k ≡ n + rows_of made → after ≡ steps ++ made ∷ [] → MarkPlaced ps n steps (Kept s) qs k after
mark_step ps n steps s made qs k after l is e at pushed =
    let rows : rows_of made ≡ rows_of s = ap rows_of is ∙ rows-moved ps s in
    let wide = length-further n (rows_of made) in
    let long = ap length e ∙ length-append ps (further n (rows_of made)) in
    record {
      more = further n (rows_of made);
      longer = e;
      within = omega (arith, long, wide, at, l);
      added = made ∷ [];
      is = pushed;
      placed = λ K T h.
          let x : IsPlaced (ps ++ further n (rows_of s)) k K T = subst (λ rs. IsPlaced rs k K T) (e ∙ ap (λ j. ps ++ further n j) rows) h in
          let y : IsPlaced (ps ++ further n (rows_of s)) (n + rows_of s) K T = subst (λ j. IsPlaced (ps ++ further n (rows_of s)) j K T) (at ∙ ap (λ j. n + j) rows) x in
          subst (λ m. IsPlaced ps n (step s K) (step m T)) (sym is) (placed-step ps n s K T y);
    }

along-append : (ss rest : List Step) (p : Nodes) → along (ss ++ rest) p ≡ along ss (along rest p)
along-append [] rest p = refl
along-append (s ∷ ss) rest p = ap (λ q. step s q) (along-append ss rest p)

pub marks_start : (marks : List Mark) (ps : List ℕ) (n : ℕ) (steps : List Step) → n ≤ length ps → steps ≡ [] → MarksPlaced marks marks ps n ps n steps
marks_start marks ps n steps l e = record {
  more = [];
  longer = sym (append-nil ps);
  within = l;
  placed = λ K T h. subst (λ ss. IsPlaced ps n (back_along marks K) (along ss T)) (sym e) h;
}

pub marks_next : (marks left rest : List Mark) (m : Mark) (ps : List ℕ) (n : ℕ) (qs : List ℕ) (k : ℕ) (steps : List Step) (rs : List ℕ) (j : ℕ) (after : List Step) → MarksPlaced marks left ps n qs k steps → left ≡ rest ++ m ∷ [] → MarkPlaced qs k steps m rs j after → MarksPlaced marks rest ps n rs j after
marks_next marks left rest m ps n qs k steps rs j after d e x = record {
  more = d.more ++ x.more;
  longer = x.longer ∙ ap (λ ys. ys ++ x.more) d.longer ∙ append_assoc ps d.more x.more;
  within = x.within;
  placed = λ K T h.
      let one : IsPlaced qs k (marked m (back_along rest K)) (along x.added T) = x.placed (back_along rest K) T h in
      let two : IsPlaced qs k (back_along left K) (along x.added T) = subst (λ p. IsPlaced qs k p (along x.added T)) (sym (marks_pushed rest left m K e)) one in
      subst (λ t. IsPlaced ps n (back_along marks K) t) (sym (ap (λ ss. along ss T) x.is ∙ along-append steps x.added T)) (d.placed K (along x.added T) two);
}

pub marks_all : (marks left : List Mark) (ps : List ℕ) (n : ℕ) (qs : List ℕ) (k : ℕ) (steps : List Step) → MarksPlaced marks left ps n qs k steps → left ≡ [] → MarksPlaced marks [] ps n qs k steps
marks_all marks left ps n qs k steps d e = subst (λ ms. MarksPlaced marks ms ps n qs k steps) e d

pub cut_back : (marks : List Mark) (ps : List ℕ) (n : ℕ) (qs : List ℕ) (k : ℕ) (steps : List Step) (now rest : List ℕ) → MarksPlaced marks [] ps n qs k steps → now ≡ qs → rest ≡ take (length ps) now → rest ≡ ps
cut_back marks ps n qs k steps now rest d same cut = cut ∙ ap (λ xs. take (length ps) xs) (same ∙ d.longer) ∙ take-append_seam ps d.more

-- ---- ends and branches, as the code has them

pub end_placed : (ps : List ℕ) (n : ℕ) (y : Behind) (e : Absurd) (row : ℕ) → y ≡ behind.End e → row ≡ place ps e.row → IsPlaced ps n (draft_behind y) (absurdity row)
end_placed ps n y e row is at =
    subst (λ z. IsPlaced ps n (draft_behind z) (absurdity row)) (sym is) (subst (λ j. IsPlaced ps n (absurdity e.row) (absurdity j)) (sym at) (placed-end ps n e.row))

pub split_placed : (ps : List ℕ) (n : ℕ) (x : Next Absurd) (y : Behind) (f : Affine) (l r : Box Draft Global) (left right : Box (Tree Absurd) Global) (T U : Tree Absurd) (K L : Draft) → y ≡ behind.Split f l r → x ≡ Split f left right → K ≡ l.value → L ≡ r.value → left.value ≡ T → right.value ≡ U → IsPlaced (ps ++ n ∷ []) (n + 1) (draft_nodes K) (nodes_of T) → IsPlaced (ps ++ n ∷ []) (n + 1) (draft_nodes L) (nodes_of U) → IsPlaced ps n (draft_behind y) (nodes_behind x)
split_placed ps n x y f l r left right T U K L is made kl lr lt ru a b =
    let first : IsPlaced (ps ++ n ∷ []) (n + 1) (draft_nodes l.value) (nodes_of left.value) =
    subst (λ z. IsPlaced (ps ++ n ∷ []) (n + 1) (draft_nodes l.value) (nodes_of z)) (sym lt) (subst (λ z. IsPlaced (ps ++ n ∷ []) (n + 1) (draft_nodes z) (nodes_of T)) kl a) in
    let second : IsPlaced (ps ++ n ∷ []) (n + 1) (draft_nodes r.value) (nodes_of right.value) =
    subst (λ z. IsPlaced (ps ++ n ∷ []) (n + 1) (draft_nodes r.value) (nodes_of z)) (sym ru) (subst (λ z. IsPlaced (ps ++ n ∷ []) (n + 1) (draft_nodes z) (nodes_of U)) lr b) in
    let whole = placed-split ps n f (draft_nodes l.value) (draft_nodes r.value) (nodes_of left.value) (nodes_of right.value) first second in
    subst (λ z. IsPlaced ps n (draft_behind z) (nodes_behind x)) (sym is)
    (subst (λ z. IsPlaced ps n (split f (draft_nodes l.value) (draft_nodes r.value)) (nodes_behind z)) (sym made) whole)

pub residue_placed : (ps : List ℕ) (n : ℕ) (x : Next Absurd) (y : Behind) (m k : ℤ) (f : Affine) (kids : Vec Draft Global) (made : Vec (Tree Absurd) Global) → y ≡ behind.Residue m f kids → x ≡ Residue k f made → KidsPlaced ps n (back_kids kids.items none) (list_kids made.items) → k ≡ m → IsPlaced ps n (draft_behind y) (nodes_behind x)
residue_placed ps n x y m k f kids made is done placed same =
    let whole = placed-residue ps n m f (back_kids kids.items none) (list_kids made.items) placed in
    let tree : nodes_behind x ≡ residue m f (list_kids made.items) = tree_at_residue x k f made done ∙ ap (λ j. residue j f (list_kids made.items)) same in
    subst (λ z. IsPlaced ps n z (nodes_behind x)) (sym (ap draft_behind is ∙ draft_at_residue m f kids))
    (subst (λ z. IsPlaced ps n (residue m f (back_kids kids.items none)) z) (sym tree) whole)

-- ---- children from the first to the last

abbrev pub kids_before : List (Tree Absurd) → Nodes → Nodes
kids_before [] p = p
kids_before (t ∷ ts) p = child (nodes_of t) (kids_before ts p)

before-none : (ts : List (Tree Absurd)) → kids_before ts none ≡ list_kids ts
before-none [] = refl
before-none (t ∷ ts) = ap (λ p. child (nodes_of t) p) (before-none ts)

before-pushed : (ts : List (Tree Absurd)) (t : Tree Absurd) (p : Nodes) → kids_before (ts ++ t ∷ []) p ≡ kids_before ts (child (nodes_of t) p)
before-pushed [] t p = refl
before-pushed (x ∷ ts) t p = ap (λ q. child (nodes_of x) q) (before-pushed ts t p)

pub record KidsGoing (kids left : List Draft) (ps : List ℕ) (n : ℕ) (made : List (Tree Absurd)) : Type 0 where
  pub done : List Draft
  pub is : kids ≡ left ++ done
  pub placed : (T : Nodes) → KidsPlaced ps n (back_kids left none) T → KidsPlaced ps n (back_kids kids none) (kids_before made T)

pub going_start : (kids : List Draft) (ps : List ℕ) (n : ℕ) (made : List (Tree Absurd)) → made ≡ [] → KidsGoing kids kids ps n made
going_start kids ps n made e = record { done = []; is = sym (append-nil kids); placed = λ T h. subst (λ ts. KidsPlaced ps n (back_kids kids none) (kids_before ts T)) (sym e) h }

pub going_next : (kids left rest : List Draft) (d : Draft) (ps : List ℕ) (n : ℕ) (made more : List (Tree Absurd)) (t : Tree Absurd) → KidsGoing kids left ps n made → left ≡ rest ++ d ∷ [] → IsPlaced (ps ++ n ∷ []) (n + 1) (draft_nodes d) (nodes_of t) → more ≡ made ++ t ∷ [] → KidsGoing kids rest ps n more
going_next kids left rest d ps n made more t g e x pushed = record {
  done = d ∷ g.done;
  is = g.is ∙ ap (λ xs. xs ++ g.done) e ∙ append_assoc rest (d ∷ []) g.done;
  placed = λ T h.
      let one = kids-placed-more ps n (draft_nodes d) (nodes_of t) (back_kids rest none) T x h in
      let two : KidsPlaced ps n (back_kids left none) (child (nodes_of t) T) = subst (λ p. KidsPlaced ps n p (child (nodes_of t) T)) (sym (kids_pushed rest left d none e)) one in
      subst (λ p. KidsPlaced ps n (back_kids kids none) p) (sym (ap (λ ts. kids_before ts T) pushed ∙ before-pushed made t T)) (g.placed (child (nodes_of t) T) two);
}

pub going_all : (kids left : List Draft) (ps : List ℕ) (n : ℕ) (made : List (Tree Absurd)) → KidsGoing kids left ps n made → left ≡ [] → KidsPlaced ps n (back_kids kids none) (list_kids made)
going_all kids left ps n made g e =
    subst (λ p. KidsPlaced ps n (back_kids kids none) p) (before-none made)
    (g.placed none (subst (λ ds. KidsPlaced ps n (back_kids ds none) none) (sym e) (kids-placed-none ps n)))

-- ---- the whole

pub record Trimmed (rows : ℕ) (tree made : Tree Absurd) : Type 0 where
  pub accepted : (c : Conj) → length c.rows ≡ rows → Accepts tree absurd_refusals c → Accepts made absurd_refusals c
  pub no_longer : size_of made ≤ size_of tree
  pub needed : IsNeeded rows (nodes_of made)

pub trimmed : (rows : ℕ) (tree made : Tree Absurd) (old new ps : List ℕ) (D : Nodes) → length old ≡ rows → length new ≡ length old → Drafted old new (nodes_of tree) D → length ps ≡ rows → ((i : ℕ) → place ps i ≡ i) → IsPlaced ps rows D (nodes_of made) → Trimmed rows tree made
trimmed rows tree made old new ps D long same d wide places placed =
    let need : IsNeeded (length ps) D = subst (λ n. IsNeeded n D) (same ∙ long ∙ sym wide) d.kept.needed in
    record {
      accepted = λ c l h.
          let agree : AgreeOn ps (λ i. uses i D) c c = record {
            columns = refl;
            long = l ∙ sym wide;
            short = omega (arith, l, wide);
            rows = λ i u. ap (λ j. slice_get c.rows j) (places i);
          } in
          stands-tree made c (placed.stands need c c agree l (d.kept.stands c (tree-stands tree c h)));
      no_longer =
          let a = size-tree tree in
          let b = size-tree made in
          let x = d.kept.size in
          let y = placed.size in
          omega (arith, a, b, x, y);
      needed = placed.needed need;
    }
