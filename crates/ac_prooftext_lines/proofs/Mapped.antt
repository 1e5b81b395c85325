-- Words that are read one after the other.
use Rattle.std.proofs.Common.{◌≡◌, ℕ, List, [], ◌∷◌, ◌++◌, map, refl, sym, ap, subst, ◌∙◌, append_assoc}
use Rattle.std.specs.List.{AllByRecursion}
use Rattle.std.proofs.lemmas.List.{append-nil, map-append}

-- the things that were read, and the words that are left
pub record IsMapped {A : Type 0} (Can : A → Type 0) (spell : A → List ℕ) (all ws : List (List ℕ)) (xs : List A) : Type 0 where
  pub words : all ≡ map spell xs ++ ws
  pub can : AllByRecursion Can xs

module _ {A : Type 0} (Can : A → Type 0) (spell : A → List ℕ) where
  pub starts : (all : List (List ℕ)) → IsMapped Can spell all all []
  starts all = record { words = refl; can = tt }

  all_append : (xs : List A) (x : A) → AllByRecursion Can xs → Can x → AllByRecursion Can (xs ++ x ∷ [])
  all_append [] x h k = (k, tt)
  all_append (y ∷ ys) x h k = (h.0, all_append ys x h.1 k)

  pub goes : (all old ws : List (List ℕ)) (w : List ℕ) (xs new : List A) (x : A) → IsMapped Can spell all old xs → old ≡ w ∷ ws → Can x → w ≡ spell x → new ≡ xs ++ x ∷ [] → IsMapped Can spell all ws new
  goes all old ws w xs new x h e can is n = record {
    words = h.words ∙ ap (λ l. map spell xs ++ l) (e ∙ ap (λ v. v ∷ ws) is) ∙ sym (append_assoc (map spell xs) (spell x ∷ []) ws) ∙ ap (λ l. l ++ ws) (sym (map-append spell xs (x ∷ [])) ∙ ap (map spell) (sym n));
    can = subst (AllByRecursion Can) (sym n) (all_append xs x h.can can);
  }

  one_of : (xs ns : List A) (w : List ℕ) (ws : List (List ℕ)) → map spell xs ++ w ∷ ws ≡ map spell ns → AllByRecursion Can ns → (a : A) × (Can a × (w ≡ spell a))
  one_of [] [] w ws e h = absurd cc
  one_of [] (n ∷ ns) w ws e h = (n, (h.0, let t : w ≡ spell n = cc in t))
  one_of (x ∷ xs) [] w ws e h = absurd cc
  one_of (x ∷ xs) (n ∷ ns) w ws e h = one_of xs ns w ws (let t : map spell xs ++ w ∷ ws ≡ map spell ns = cc in t) h.1

  pub stops : (all old ws : List (List ℕ)) (w : List ℕ) (xs : List A) → IsMapped Can spell all old xs → old ≡ w ∷ ws → ((x : A) → Can x → ¬ (w ≡ spell x)) → (ns : List A) → AllByRecursion Can ns → ¬ (all ≡ map spell ns)
  stops all old ws w xs h e none ns can s =
      let one = one_of xs ns w ws (sym (h.words ∙ ap (λ l. map spell xs ++ l) e) ∙ s) can in
      none one.0 one.1.0 one.1.1

  pub ends : (all old : List (List ℕ)) (xs : List A) → IsMapped Can spell all old xs → old ≡ [] → AllByRecursion Can xs × (all ≡ map spell xs)
  ends all old xs h e = (h.can, h.words ∙ ap (λ l. map spell xs ++ l) e ∙ append-nil (map spell xs))
