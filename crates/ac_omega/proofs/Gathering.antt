-- A list of choices that is made by adding them one at a time.
use Rattle.std.proofs.Common.{◌≡◌, List, [], ◌∷◌, ◌++◌, append_assoc, Option, Some, None, refl, ap, ◌∙◌}
use Rattle.std.specs.Prelude.{option_map}
use Rattle.ac_omega_steps.specs.declared.choose.Choice.{Choice}
use Rattle.ac_omega_certify.specs.Alternatives.{Alternatives, all_of}
use Rattle.ac_omega_certify.proofs.GatheredChoices.{gathered}

pub gathered-all : (made : List Choice) (hs : Alternatives) → gathered made hs ≡ option_map (λ rest. made ++ rest) (all_of hs)
gathered-all made [] = rw (append-nil made) refl
  where
    append-nil : (xs : List Choice) → xs ++ [] ≡ xs
    append-nil [] = refl
    append-nil (x ∷ xs) = ap (λ ys. x ∷ ys) (append-nil xs)
gathered-all made (None ∷ hs) = refl
gathered-all made (Some h ∷ hs) = gathered-all (made ++ h ∷ []) hs ∙ by made h (all_of hs)
  where
    by : (made : List Choice) (h : Choice) (o : Option (List Choice)) → option_map (λ rest. (made ++ h ∷ []) ++ rest) o ≡ option_map (λ rest. made ++ rest) (option_map (λ rest. h ∷ rest) o)
    by made h None = refl
    by made h (Some rest) = rw (append_assoc made (h ∷ []) rest) refl

-- into the empty list
pub gathered_all : (hs : Alternatives) → gathered [] hs ≡ all_of hs
gathered_all hs = gathered-all [] hs ∙ by (all_of hs)
  where
    by : (o : Option (List Choice)) → option_map (λ rest. [] ++ rest) o ≡ o
    by None = refl
    by (Some rest) = refl
