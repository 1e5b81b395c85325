-- Claims that are not of a pair, up to a number, and the one that is.
use Rattle.std.proofs.Common.{◌≡◌, inl, inr, ℕ, zero, suc, ◌+◌, ◌<◌, ◌≤◌, ◌&&◌, true, false, List, [], ◌∷◌, ◌++◌, length, take, get_or, Some, sym, ap, ◌∙◌, subst, arith}
use Rattle.std.specs.Prelude.{slice_get}
use Rattle.std.proofs.lemmas.List.{take_more, take_all}
use Rattle.ac_syntax.specs.declared.tree.Position.{Position}
use Rattle.ac_forms.specs.ListMembers.{IsAmong}
use Rattle.ac_forms.proofs.Joining.{both_of}
use Rattle.ac_claims.specs.ProofEnds.{same_position}
use Rattle.ac_claims.specs.declared.types.Claim.{Claim}
use Rattle.ac_graph.proofs.MoveSteps.{same_self, true_both}
use Rattle.ac_unfold.specs.KillCuts.{IsNumbered}

-- none of the claims is of these positions
abbrev pub NoneOf : List Claim → Position → Position → Type 0
NoneOf claims P Q = (c : Claim) → IsAmong c claims → P ≡ c.left → ¬ (Q ≡ c.right)

same_if : (P Q : Position) → P ≡ Q → same_position P Q ≡ true
same_if P Q e = subst (λ (z : Position). same_position P z ≡ true) e (same_self P)

pub get_is : (xs : List Claim) (i : ℕ) (x : Claim) → i < length xs → x ≡ get_or xs i x → slice_get xs i ≡ Some x
get_is [] i x l e = absurd (omega (arith, l))
get_is (y ∷ xs) zero x l e = ap Some (sym e)
get_is (y ∷ xs) (suc i) x l e = get_is xs i x (omega (arith, l)) e

pub numbered : (claims : List Claim) (P Q : Position) (i : ℕ) (c : Claim) → i < length claims → c ≡ get_or claims i c → (same_position P c.left && same_position Q c.right) ≡ true → IsNumbered claims P Q i
numbered claims P Q i c l e t =
    let b = both_of (same_position P c.left) (same_position Q c.right) t in
    record { claim = c; is = get_is claims i c l e; left_is = b.0; right_is = b.1 }

pub none_first : (claims : List Claim) (P Q : Position) → NoneOf (take 0 claims) P Q
none_first claims P Q c i = absurd i

pub none_more : (claims : List Claim) (P Q : Position) (i : ℕ) (c : Claim) → NoneOf (take i claims) P Q → i < length claims → c ≡ get_or claims i c → (same_position P c.left && same_position Q c.right) ≡ false → NoneOf (take (i + 1) claims) P Q
none_more claims P Q i c h l e t d n = by (take i claims) h (subst (IsAmong d) (take_more claims i c l ∙ ap (λ (x : Claim). take i claims ++ x ∷ []) (sym e)) n)
  where
    by : (xs : List Claim) → NoneOf xs P Q → IsAmong d (xs ++ c ∷ []) → P ≡ d.left → ¬ (Q ≡ d.right)
    by [] k (inl j) p q =
        let both : (same_position P d.left && same_position Q d.right) ≡ true = true_both (same_position P d.left) (same_position Q d.right) (same_if P d.left p) (same_if Q d.right q) in
        let z : true ≡ false = sym both ∙ ap (λ (x : Claim). same_position P x.left && same_position Q x.right) j ∙ t in absurd cc
    by [] k (inr j) p q = absurd j
    by (x ∷ xs) k (inl j) p q = k d (inl j) p q
    by (x ∷ xs) k (inr j) p q = by xs (λ y m. k y (inr m)) j p q

pub none_all : (claims : List Claim) (P Q : Position) (i : ℕ) → length claims ≤ i → NoneOf (take i claims) P Q → NoneOf claims P Q
none_all claims P Q i l h = subst (λ (xs : List Claim). NoneOf xs P Q) (take_all i claims l) h
