-- What nodes a tree and a draft have, with their lists as the code has them; and loops that take items from the end of a list.
use Rattle.std.proofs.Common.{◌≡◌, ℕ, ◌+◌, ◌<◌, ◌≤◌, ℤ, ◌⊎◌, List, [], ◌∷◌, ◌++◌, length, drop, take, get_or, append_assoc, append-nil, Option, Some, Bool, true, false, refl, sym, ap, ◌∙◌, subst, arith}
use Rattle.std.specs.Prelude.{Box, Vec, option_to_list}
use Rattle.std.specs.declared.alloc.Global.{Global}
use Rattle.std.proofs.lemmas.List.{at_drop_more, at_drop_all}
use Rattle.ac_forms.specs.Affine.{Affine}
use Rattle.ac_cert.specs.declared.types.Step.{Step}
use Rattle.ac_cert.specs.declared.types.Next.{Next, Split, Residue, Row_of-Tree, end_of-Tree, more_of-Tree, items-the_row-Tree, items_hidden-the_row-Tree-0}
use Rattle.ac_cert.specs.declared.types.Next.TheBlock.{hidden-the_row-Tree-0}
use Rattle.ac_cert.specs.declared.types.Tree.{Tree}
use Rattle.ac_cert.specs.declared.ends.Absurd.{Absurd}
use Rattle.ac_cert_short.specs.declared.draft.Mark.{Mark}
use Rattle.ac_cert_short.specs.declared.draft.Mark.TheVariants.{Kept, Gap}
use Rattle.ac_cert_short.specs.declared.draft.Draft.{Draft}
use Rattle.ac_cert_short.specs.declared.draft.Behind.{Behind, Row_of-Draft, end_of-Draft, more_of-Draft, items-the_row-Draft, items_hidden-the_row-Draft-0}
use Rattle.ac_cert_short.specs.declared.draft.Behind.TheVariants as behind
use Rattle.ac_cert_short.specs.declared.draft.Behind.TheBlock.{hidden-the_row-Draft-0}
use Rattle.ac_cert_short.specs.CertificateNodes.{Nodes, along, nodes_behind, nodes_of_kids, nodes_of, list_kids, makes_column, rows_of, rows_along, uses, step_uses}
use Rattle.ac_cert_short.specs.CertificateNodes.Nodes.{split, residue, none, child, step, gap}
use Rattle.ac_cert_short.specs.Drafts.{marked, back_along, draft_behind, draft_kids, draft_nodes, back_kids, mark_use, mark_uses, kids_uses}
use Rattle.ac_cert_short.specs.DraftRelations.{at, AreCounted, AreForgotten, Drafted, ChildDrafted, KidsDrafted}
use Rattle.ac_cert_short.proofs.DraftNodes.{drafted-step, drafted-gap, drafted-first, drafted-second, drafted-split, drafted-kid, drafted-residue, kids-none, kids-more}
use Rattle.ac_cert_short.proofs.PlacedNodes.{rows-some}

-- ---- nodes of trees

kids-listed : {w : _} (all : Row_of-Tree Absurd w) → nodes_of_kids all ≡ list_kids (items-the_row-Tree Absurd w all)
kids-listed end_of-Tree = refl
kids-listed (more_of-Tree s t rest) = ap (λ ks. child (along s (nodes_behind t)) ks) (kids-listed rest)

pub tree_at_residue : (x : Next Absurd) (m : ℤ) (f : Affine) (kids : Vec (Tree Absurd) Global) → x ≡ Residue m f kids → nodes_behind x ≡ residue m f (list_kids kids.items)
tree_at_residue x m f kids is =
    ap nodes_behind is ∙ ap (λ ks. residue m f ks) (kids-listed (hidden-the_row-Tree-0 Absurd kids) ∙ ap list_kids (items_hidden-the_row-Tree-0 Absurd kids))

pub tree_at_split : (x : Next Absurd) (f : Affine) (l r : Box (Tree Absurd) Global) → x ≡ Split f l r → nodes_behind x ≡ split f (nodes_of l.value) (nodes_of r.value)
tree_at_split x f l r is = ap nodes_behind is

-- ---- nodes of drafts

drafts-listed : {w : _} (all : Row_of-Draft w) (ks : Nodes) → draft_kids all ks ≡ back_kids (items-the_row-Draft w all) ks
drafts-listed end_of-Draft ks = refl
drafts-listed (more_of-Draft s t rest) ks = drafts-listed rest (child (back_along s.items (draft_behind t)) ks)

pub draft_at_residue : (m : ℤ) (f : Affine) (kids : Vec Draft Global) → draft_behind (behind.Residue m f kids) ≡ residue m f (back_kids kids.items none)
draft_at_residue m f kids =
    ap (λ ks. residue m f ks) (drafts-listed (hidden-the_row-Draft-0 kids) none ∙ ap (λ ds. back_kids ds none) (items_hidden-the_row-Draft-0 kids))

pub kids_used : (i : ℕ) (ds : List Draft) (ks : Nodes) → uses i (back_kids ds ks) ≡ kids_uses i ds + uses i ks
kids_used i [] ks = omega arith
kids_used i (d ∷ ds) ks = let e = kids_used i ds (child (draft_nodes d) ks) in omega (arith, e)

pub uses_at_residue : (x : Behind) (m : ℤ) (f : Affine) (kids : Vec Draft Global) → x ≡ behind.Residue m f kids → (i : ℕ) → uses i (draft_behind x) ≡ kids_uses i kids.items
uses_at_residue x m f kids is i = ap (λ y. uses i (draft_behind y)) is ∙ ap (uses i) (draft_at_residue m f kids) ∙ kids_used i kids.items none ∙ none-more (kids_uses i kids.items)
  where
    none-more : (n : ℕ) → n + 0 ≡ n
    none-more n = omega arith

pub marks_pushed : (ms ns : List Mark) (m : Mark) (p : Nodes) → ns ≡ ms ++ m ∷ [] → back_along ns p ≡ marked m (back_along ms p)
marks_pushed ms ns m p e = ap (λ xs. back_along xs p) e ∙ pushed ms p
  where
    pushed : (ms : List Mark) (p : Nodes) → back_along (ms ++ m ∷ []) p ≡ marked m (back_along ms p)
    pushed [] p = refl
    pushed (x ∷ ms) p = pushed ms (marked x p)

pub kids_pushed : (ds es : List Draft) (d : Draft) (ks : Nodes) → es ≡ ds ++ d ∷ [] → back_kids es ks ≡ child (draft_nodes d) (back_kids ds ks)
kids_pushed ds es d ks e = ap (λ xs. back_kids xs ks) e ∙ pushed ds ks
  where
    pushed : (ds : List Draft) (ks : Nodes) → back_kids (ds ++ d ∷ []) ks ≡ child (draft_nodes d) (back_kids ds ks)
    pushed [] ks = refl
    pushed (x ∷ ds) ks = pushed ds (child (draft_nodes x) ks)

-- ---- uses of lists

pub marks_used : (i : ℕ) (ms : List Mark) (p : Nodes) → uses i (back_along ms p) ≡ mark_uses i ms + uses i p
marks_used i [] p = omega arith
marks_used i (Kept s ∷ ms) p = let e = marks_used i ms (step s p) in omega (arith, e)
marks_used i (Gap ∷ ms) p = let e = marks_used i ms (gap p) in omega (arith, e)

pub marks_more : (ms : List Mark) (k : ℕ) (m : Mark) → k < length ms → m ≡ get_or ms k m → (i : ℕ) → mark_uses i (drop k ms) ≡ mark_use i m + mark_uses i (drop (k + 1) ms)
marks_more ms k m l e i = at_drop_more (λ xs. mark_uses i xs) ms k m l ∙ ap (λ (x : Mark). mark_use i x + mark_uses i (drop (k + 1) ms)) (sym e)

pub marks_end : (ms : List Mark) (k : ℕ) → length ms ≤ k → (i : ℕ) → mark_uses i (drop k ms) ≡ 0
marks_end ms k l i = at_drop_all (λ xs. mark_uses i xs) ms k l

pub drafts_more : (ds : List Draft) (k : ℕ) (d : Draft) → k < length ds → d ≡ get_or ds k d → (i : ℕ) → kids_uses i (drop k ds) ≡ uses i (draft_nodes d) + kids_uses i (drop (k + 1) ds)
drafts_more ds k d l e i = at_drop_more (λ xs. kids_uses i xs) ds k d l ∙ ap (λ (x : Draft). uses i (draft_nodes x) + kids_uses i (drop (k + 1) ds)) (sym e)

pub drafts_end : (ds : List Draft) (k : ℕ) → length ds ≤ k → (i : ℕ) → kids_uses i (drop k ds) ≡ 0
drafts_end ds k l i = at_drop_all (λ xs. kids_uses i xs) ds k l

-- ---- steps from the last to the first

pub popped : {X : Type 0} (xs ys : List X) (o : Option X) (x : X) → xs ≡ ys ++ option_to_list o → o ≡ Some x → xs ≡ ys ++ x ∷ []
popped xs ys o x e is = e ∙ ap (λ z. ys ++ option_to_list z) is

pub popped_none : {X : Type 0} (xs ys : List X) (o : Option X) → xs ≡ ys ++ option_to_list o → length xs ≡ 0 → xs ≡ []
popped_none [] ys o e l = refl
popped_none (x ∷ xs) ys o e l = absurd (omega (arith, l))

pub step_gone : (old mid new : List ℕ) (s : Step) (p D E : Nodes) → E ≡ gap D → length mid ≡ length new + rows_of s → new ≡ take (length new) mid → (makes_column s ≡ false) × (rows_of s ≡ 1) × (at mid (length new) ≡ 0) → length old + rows_of s ≤ length mid → Drafted old mid p D → Drafted old new (step s p) E
step_gone old mid new s p D E is long cut left short d =
    let one = left.1 in
    subst (λ e. Drafted old new (step s p) e) (sym is)
    (drafted-gap old mid new s p D d (omega (arith, long, one)) cut (omega (arith, short, long)) left.0 left.2)

pub step_kept : (old mid cut new : List ℕ) (s : Step) (p D E : Nodes) → E ≡ step s D → length mid ≡ length cut + rows_of s → cut ≡ take (length cut) mid → length new ≡ length cut → AreCounted cut new (λ i. step_uses i s) → (makes_column s ≡ true) ⊎ (0 < at mid (length cut)) → length old + rows_of s ≤ length mid → Drafted old mid p D → Drafted old new (step s p) E
step_kept old mid cut new s p D E is long rest same counted busy short d =
    let few : AreCounted (take (length new) mid) new (λ i. step_uses i s) =
    subst (λ xs. AreCounted xs new (λ i. step_uses i s)) (rest ∙ ap (λ n. take n mid) (sym same)) counted in
    subst (λ e. Drafted old new (step s p) e) (sym is)
    (drafted-step old mid new s p D d (omega (arith, long, same)) (rows-some s) few (omega (arith, short, long, same)) (subst (λ n. (makes_column s ≡ true) ⊎ (0 < at mid n)) (sym same) busy))

pub record StepsDone (steps left : List Step) (start now : List ℕ) (first made : Nodes) : Type 0 where
  pub done : List Step
  pub is : steps ≡ left ++ done
  pub long : length start ≡ length now + rows_along done
  pub drafted : (old : List ℕ) (p : Nodes) → length old + rows_along steps ≤ length start → Drafted old start p first → Drafted old now (along done p) made

rows-append : (xs ys : List Step) → rows_along (xs ++ ys) ≡ rows_along xs + rows_along ys
rows-append [] ys = omega arith
rows-append (x ∷ xs) ys = let e = rows-append xs ys in omega (arith, e)

pub steps_start : (steps : List Step) (start : List ℕ) (first : Nodes) → StepsDone steps steps start start first first
steps_start steps start first = record { done = []; is = sym (append-nil steps); long = omega arith; drafted = λ old p l d. d }

split-off : (steps left rest done : List Step) (s : Step) → steps ≡ left ++ done → left ≡ rest ++ s ∷ [] → steps ≡ rest ++ s ∷ done
split-off steps left rest done s is e = is ∙ ap (λ xs. xs ++ done) e ∙ append_assoc rest (s ∷ []) done

pub step_room : (steps left rest : List Step) (s : Step) (start now : List ℕ) (first made : Nodes) → StepsDone steps left start now first made → left ≡ rest ++ s ∷ [] → rows_along steps ≤ length start → rows_of s ≤ length now
step_room steps left rest s start now first made d e room =
    let a = ap rows_along (split-off steps left rest d.done s d.is e) ∙ rows-append rest (s ∷ d.done) in
    let b = d.long in
    omega (arith, a, b, room)

pub steps_next : (steps left rest : List Step) (s : Step) (start now new : List ℕ) (first made next : Nodes) → StepsDone steps left start now first made → left ≡ rest ++ s ∷ [] → rows_along steps ≤ length start → length now ≡ length new + rows_of s → ((old : List ℕ) (p : Nodes) → length old + rows_of s ≤ length now → Drafted old now p made → Drafted old new (step s p) next) → StepsDone steps rest start new first next
steps_next steps left rest s start now new first made next d e room long on =
    let is = split-off steps left rest d.done s d.is e in
    let a = ap rows_along is ∙ rows-append rest (s ∷ d.done) in
    let b = d.long in
    record {
      done = s ∷ d.done;
      is = is;
      long = omega (arith, b, long);
      drafted = λ old p l h. on old (along d.done p) (omega (arith, a, b, l)) (d.drafted old p l h);
    }

pub steps_all : (steps left : List Step) (start now : List ℕ) (first made : Nodes) → StepsDone steps left start now first made → left ≡ [] → (length start ≡ length now + rows_along steps) × ((old : List ℕ) (p : Nodes) → length old + rows_along steps ≤ length start → Drafted old start p first → Drafted old now (along steps p) made)
steps_all steps left start now first made d e =
    let is : d.done ≡ steps = ap (λ xs. xs ++ d.done) (sym e) ∙ sym d.is in
    (subst (λ xs. length start ≡ length now + rows_along xs) is d.long, λ old p l h. subst (λ xs. Drafted old now (along xs p) made) is (d.drafted old p l h))

-- ---- splits

pub first_alone : (old new : List ℕ) (f : Affine) (p q D E : Nodes) (busy : Bool) → ChildDrafted old new p D busy → busy ≡ false → E ≡ gap D → Drafted old new (split f p q) E
first_alone old new f p q D E busy c idle is =
    subst (λ e. Drafted old new (split f p q) e) (sym is) (drafted-first old new f p q D (subst (λ b. ChildDrafted old new p D b) idle c))

pub second_alone : (old mid late new : List ℕ) (f : Affine) (p q D E G : Nodes) (busy : Bool) → ChildDrafted old mid p D true → ChildDrafted mid late q E busy → busy ≡ false → length new ≡ length late → AreForgotten late new (λ i. uses i D) → G ≡ gap E → Drafted old new (split f p q) G
second_alone old mid late new f p q D E G busy c d idle same forgotten is =
    subst (λ e. Drafted old new (split f p q) e) (sym is) (drafted-second old mid late new f p q D E true c (subst (λ b. ChildDrafted mid late q E b) idle d) same forgotten)

pub both_kept : (old mid new : List ℕ) (f : Affine) (p q D E G : Nodes) (busy : Bool) → ChildDrafted old mid p D true → ChildDrafted mid new q E busy → busy ≡ true → G ≡ split f D E → Drafted old new (split f p q) G
both_kept old mid new f p q D E G busy c d sure is =
    subst (λ e. Drafted old new (split f p q) e) (sym is) (drafted-split old mid new f p q D E c (subst (λ b. ChildDrafted mid new q E b) sure d))

-- ---- children from the last to the first

pub record KidsDone (kids left : List (Tree Absurd)) (start now : List ℕ) (made : Nodes) : Type 0 where
  pub done : List (Tree Absurd)
  pub is : kids ≡ left ++ done
  pub drafted : KidsDrafted start now (list_kids done) made

pub kids_start : (kids : List (Tree Absurd)) (start : List ℕ) → KidsDone kids kids start start none
kids_start kids start = record { done = []; is = sym (append-nil kids); drafted = kids-none start }

pub kids_next : (kids left rest : List (Tree Absurd)) (t : Tree Absurd) (start now new : List ℕ) (made : List Draft) (more : List Draft) (d : Draft) (busy : Bool) → KidsDone kids left start now (back_kids made none) → left ≡ rest ++ t ∷ [] → ChildDrafted now new (nodes_of t) (draft_nodes d) busy → busy ≡ true → more ≡ made ++ d ∷ [] → KidsDone kids rest start new (back_kids more none)
kids_next kids left rest t start now new made more d busy k e c sure pushed = record {
  done = t ∷ k.done;
  is = k.is ∙ ap (λ xs. xs ++ k.done) e ∙ append_assoc rest (t ∷ []) k.done;
  drafted = subst (λ ns. KidsDrafted start new (list_kids (t ∷ k.done)) ns) (sym (kids_pushed made more d none pushed))
      (kids-more start now new (list_kids k.done) (back_kids made none) (nodes_of t) (draft_nodes d) k.drafted (subst (λ b. ChildDrafted now new (nodes_of t) (draft_nodes d) b) sure c));
}

pub kid_alone : (kids left rest : List (Tree Absurd)) (t : Tree Absurd) (start now late new : List ℕ) (m : ℤ) (f : Affine) (made others : List Draft) (D E : Nodes) (busy : Bool) → KidsDone kids left start now (back_kids made none) → left ≡ rest ++ t ∷ [] → ChildDrafted now late (nodes_of t) D busy → busy ≡ false → length new ≡ length late → others ≡ made → AreForgotten late new (λ i. kids_uses i others) → E ≡ gap D → Drafted start new (residue m f (list_kids kids)) E
kid_alone kids left rest t start now late new m f made others D E busy k e c idle same all forgotten is =
    let whole : kids ≡ rest ++ t ∷ k.done = k.is ∙ ap (λ xs. xs ++ k.done) e ∙ append_assoc rest (t ∷ []) k.done in
    let gone : AreForgotten late new (λ i. uses i (back_kids made none)) = λ i l. let a = forgotten i l in let b = kids_used i made none in let o : kids_uses i others ≡ kids_uses i made = ap (λ xs. kids_uses i xs) all in omega (arith, a, b, o) in
    subst (λ e. Drafted start new (residue m f (list_kids kids)) e) (sym is)
    (subst (λ xs. Drafted start new (residue m f (list_kids xs)) (gap D)) (sym whole)
    (drafted-kid start now late new m f rest k.done t (list_kids k.done) (back_kids made none) D k.drafted (subst (λ b. ChildDrafted now late (nodes_of t) D b) idle c) same gone))

pub kids_all : (kids left : List (Tree Absurd)) (start now : List ℕ) (m : ℤ) (f : Affine) (made E : Nodes) → KidsDone kids left start now made → left ≡ [] → E ≡ residue m f made → Drafted start now (residue m f (list_kids kids)) E
kids_all kids left start now m f made E k e is =
    let whole : k.done ≡ kids = ap (λ xs. xs ++ k.done) (sym e) ∙ sym k.is in
    subst (λ e. Drafted start now (residue m f (list_kids kids)) e) (sym is)
    (drafted-residue start now m f (list_kids kids) made (subst (λ xs. KidsDrafted start now (list_kids xs) made) whole k.drafted))

pub next_at_residue : (old new : List ℕ) (x : Next Absurd) (m n : ℤ) (f : Affine) (kids : Vec (Tree Absurd) Global) (D : Nodes) → x ≡ Residue m f kids → Drafted old new (residue n f (list_kids kids.items)) D → n ≡ m → Drafted old new (nodes_behind x) D
next_at_residue old new x m n f kids D is d same =
    subst (λ p. Drafted old new p D) (sym (tree_at_residue x m f kids is)) (subst (λ k. Drafted old new (residue k f (list_kids kids.items)) D) same d)
