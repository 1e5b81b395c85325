-- What is among the items of joined lists.
use Rattle.std.proofs.Common.{◌⊎◌, inl, inr, List, [], ◌∷◌, ◌++◌}
use Rattle.ac_forms.specs.ListMembers.{IsAmong}

pub among_front : {A : Type 0} (r : A) (xs ys : List A) → IsAmong r xs → IsAmong r (xs ++ ys)
among_front r [] ys a = absurd a
among_front r (x ∷ xs) ys (inl e) = inl e
among_front r (x ∷ xs) ys (inr a) = inr (among_front r xs ys a)

pub among_back : {A : Type 0} (r : A) (xs ys : List A) → IsAmong r ys → IsAmong r (xs ++ ys)
among_back r [] ys a = a
among_back r (x ∷ xs) ys a = inr (among_back r xs ys a)

pub among_parts : {A : Type 0} (r : A) (xs ys : List A) → IsAmong r (xs ++ ys) → IsAmong r xs ⊎ IsAmong r ys
among_parts r [] ys a = inr a
among_parts r (x ∷ xs) ys (inl e) = inl (inl e)
among_parts r (x ∷ xs) ys (inr a) = elim (among_parts r xs ys a) [ inl b ↦ inl (inr b) | inr b ↦ inr b ]
