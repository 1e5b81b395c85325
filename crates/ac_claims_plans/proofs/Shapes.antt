-- Certificates and plans as the code has them, with boxes and lists.
use Rattle.std.proofs.Common.{◌≡◌, ℕ, zero, suc, ◌+◌, ◌<◌, ℤ, List, [], ◌∷◌, ◌++◌, length, take, get_or, sym, ap, ◌∙◌, subst, arith}
use Rattle.std.specs.Prelude.{Box, Vec}
use Rattle.std.specs.declared.alloc.Global.{Global}
use Rattle.ac_forms.specs.Affine.{Affine}
use Rattle.ac_cert.specs.declared.ends.Absurd.{Absurd}
use Rattle.ac_cert.specs.declared.types.Next as tree
use Rattle.ac_cert.specs.declared.types.Next.TheBlock.{hidden-the_row-Tree-0}
use Rattle.ac_cert.specs.declared.types.Tree.{Tree}
use Rattle.ac_claims.specs.declared.types.Plan.{Plan}
use Rattle.ac_claims.specs.declared.types.PlanNext as plan
use Rattle.ac_claims.specs.declared.types.PlanNext.TheBlock.{hidden-the_row-Plan-0}
use Rattle.ac_claims.specs.declared.types.PlanNext.TheVariants as end
use Rattle.ac_claims_plans.specs.Embeddings.{row_on, moved_form}
use Rattle.ac_claims_plans.specs.PlanAcceptance.{IsMovedNext, AreMovedKids, IsMoved, AreMoved}
use Rattle.ac_claims_plans.specs.declared.embedding.Embedding.{Embedding}

kids-listed : (s : Embedding) {w : _} (all : tree.Row_of-Tree Absurd w) {v : _} (each : plan.Row_of-Plan v) → AreMoved s (tree.items-the_row-Tree Absurd w all) (plan.items-the_row-Plan v each) → AreMovedKids s all each
kids-listed s tree.end_of-Tree plan.end_of-Plan h = tt
kids-listed s tree.end_of-Tree (plan.more_of-Plan xs v more) h = absurd h
kids-listed s (tree.more_of-Tree ss l rest) plan.end_of-Plan h = absurd h
kids-listed s (tree.more_of-Tree ss l rest) (plan.more_of-Plan xs v more) h = (h.0.0, h.0.1, kids-listed s rest more h.1)

pub residue_moved : (s : Embedding) (x : tree.Next Absurd) (m n : ℤ) (f g : Affine) (kids : Vec (Tree Absurd) Global) (plans : Vec Plan Global) → x ≡ tree.Residue m f kids → n ≡ m → g ≡ moved_form s f → AreMoved s kids.items plans.items → IsMovedNext s x (plan.Residue n g plans)
residue_moved s x m n f g kids plans is same form each =
    let here : AreMoved s (tree.items-the_row-Tree Absurd _ (hidden-the_row-Tree-0 Absurd kids)) (plan.items-the_row-Plan _ (hidden-the_row-Plan-0 plans)) =
    subst (λ ts. AreMoved s ts (plan.items-the_row-Plan _ (hidden-the_row-Plan-0 plans))) (sym (tree.items_hidden-the_row-Tree-0 Absurd kids)) (subst (λ ps. AreMoved s kids.items ps) (sym (plan.items_hidden-the_row-Plan-0 plans)) each) in
    subst (λ z. IsMovedNext s z (plan.Residue n g plans)) (sym is) (same, form, kids-listed s (hidden-the_row-Tree-0 Absurd kids) (hidden-the_row-Plan-0 plans) here)

pub split_moved : (s : Embedding) (x : tree.Next Absurd) (f g : Affine) (l r : Box (Tree Absurd) Global) (a b : Box Plan Global) → x ≡ tree.Split f l r → g ≡ moved_form s f → IsMoved s l.value a.value → IsMoved s r.value b.value → IsMovedNext s x (plan.Split g a b)
split_moved s x f g l r a b is form low high = subst (λ z. IsMovedNext s z (plan.Split g a b)) (sym is) (form, low.0, low.1, high.0, high.1)

pub end_moved : (s : Embedding) (x : tree.Next Absurd) (e : Absurd) (i : ℕ) → x ≡ tree.End e → i ≡ row_on s e.row → IsMovedNext s x (end.Absurd i)
end_moved s x e i is at = subst (λ z. IsMovedNext s z (end.Absurd i)) (sym is) at

-- one certificate more
push-moved : (s : Embedding) (ts : List (Tree Absurd)) (t : Tree Absurd) (ps : List Plan) (p : Plan) → AreMoved s ts ps → IsMoved s t p → AreMoved s (ts ++ t ∷ []) (ps ++ p ∷ [])
push-moved s [] t [] p h m = (m, tt)
push-moved s [] t (q ∷ ps) p h m = absurd h
push-moved s (u ∷ ts) t [] p h m = absurd h
push-moved s (u ∷ ts) t (q ∷ ps) p h m = (h.0, push-moved s ts t ps p h.1 m)

take-next : {X : Type 0} (xs : List X) (i : ℕ) (x : X) → i < length xs → x ≡ get_or xs i x → take (i + 1) xs ≡ take i xs ++ x ∷ []
take-next {X = X} xs i x l e = ap (λ (n : ℕ). take n xs) (next i) ∙ by xs i l e
  where
    next : (i : ℕ) → i + 1 ≡ suc i
    next i = omega arith

    by : (xs : List X) (i : ℕ) → i < length xs → x ≡ get_or xs i x → take (suc i) xs ≡ take i xs ++ x ∷ []
    by [] i l e = absurd (omega (arith, l))
    by (y ∷ ys) zero l e = ap (λ z. z ∷ []) (sym e)
    by (y ∷ ys) (suc i) l e = ap (λ zs. y ∷ zs) (by ys i (omega (arith, l)) e)

pub kids_next : (s : Embedding) (ts : List (Tree Absurd)) (i : ℕ) (t : Tree Absurd) (ps qs : List Plan) (p : Plan) → AreMoved s (take i ts) ps → i < length ts → t ≡ get_or ts i t → IsMoved s t p → qs ≡ ps ++ p ∷ [] → AreMoved s (take (i + 1) ts) qs
kids_next s ts i t ps qs p h l e m is =
    subst (λ xs. AreMoved s xs qs) (sym (take-next ts i t l e)) (subst (λ xs. AreMoved s (take i ts ++ t ∷ []) xs) (sym is) (push-moved s (take i ts) t ps p h m))
