-- Where the tables of calls and of chains are 0 but at finitely many lists, so is the table of the arranged pair: its keys
-- are those of the calls, and each list as long as a key of the chains over the integers of that key.
use Rattle.std.proofs.Common.{◌≡◌, ◌⊎◌, inl, inr, ℕ, zero, suc, ◌≤◌, List, [], ◌∷◌, ◌++◌, length, map, Bool, true, false, cond, refl, sym, ap, ◌∙◌, subst, arith, ℤ, pos}
use Rattle.std.specs.Prelude.{◌&&◌, nat_le}
use Rattle.std.specs.List.{flat_map, Contains, AllByRecursion}
use Rattle.std.specs.Int.Signed.{lt_z}
use Rattle.std.proofs.lemmas.Bool.Decides.{nat_tests}
use Rattle.ac_syntax.specs.declared.tree.Symbol.{Symbol}
use Rattle.ac_assoc_law.specs.Rising.{placed, rising}
use Rattle.ac_assoc_law.specs.OperandChains.{binary}
use Rattle.ac_assoc_law.specs.ArrangedPairs.{is_listed}
use Rattle.ac_assoc_law.specs.ArrangedTables.{is_chain, arranged_table}
use Rattle.ac_assoc_law.specs.LawsOfArrangements.{ArrangedTablesAreFinite}
use Rattle.ac_assoc_law.proofs.Testing.{second_true}

abbrev Among : {X : Type 0} → X → List X → Type 0
Among x [] = ⊥
Among x (y ∷ ys) = (y ≡ x) ⊎ Among x ys

of_Contains : {X : Type 0} (xs : List X) (x : X) → Contains xs x → Among x xs
of_Contains [] x (k, l, e) = absurd (omega arith)
of_Contains (y ∷ ys) x (zero, l, e) = inl e
of_Contains (y ∷ ys) x (suc k, l, e) = inr (of_Contains ys x (k, omega arith, e))

to_Contains : {X : Type 0} (xs : List X) (x : X) → Among x xs → Contains xs x
to_Contains [] x h = absurd h
to_Contains (y ∷ ys) x (inl e) = (0, omega arith, e)
to_Contains (y ∷ ys) x (inr h) = let r : Contains ys x = to_Contains ys x h in (suc r.0, omega (arith, r.1), r.2)

among_left : {X : Type 0} (x : X) (xs ys : List X) → Among x xs → Among x (xs ++ ys)
among_left x [] ys h = absurd h
among_left x (z ∷ zs) ys (inl e) = inl e
among_left x (z ∷ zs) ys (inr h) = inr (among_left x zs ys h)

among_right : {X : Type 0} (x : X) (xs ys : List X) → Among x ys → Among x (xs ++ ys)
among_right x [] ys h = h
among_right x (z ∷ zs) ys h = inr (among_right x zs ys h)

among_map : {X Y : Type 0} (f : X → Y) (x : X) (xs : List X) → Among x xs → Among (f x) (map f xs)
among_map f x [] h = absurd h
among_map f x (z ∷ zs) (inl e) = inl (ap f e)
among_map f x (z ∷ zs) (inr h) = inr (among_map f x zs h)

among_flat_map : {X Y : Type 0} (f : X → List Y) (x : X) (y : Y) (xs : List X) → Among x xs → Among y (f x) → Among y (flat_map f xs)
among_flat_map f x y [] h g = absurd h
among_flat_map f x y (z ∷ zs) (inl e) g = among_left y (f z) (flat_map f zs) (subst (λ (w : _). Among y (f w)) (sym e) g)
among_flat_map f x y (z ∷ zs) (inr h) g = among_right y (f z) (flat_map f zs) (among_flat_map f x y zs h g)

-- the lists of n integers out of some
abbrev words : ℕ → List ℤ → List (List ℤ)
words zero letters = [] ∷ []
words (suc n) letters = flat_map (λ x. map (λ w. x ∷ w) (words n letters)) letters

among_words : (letters xs : List ℤ) → AllByRecursion (λ x. Among x letters) xs → Among xs (words (length xs) letters)
among_words letters [] h = inl refl
among_words letters (x ∷ xs) h =
    among_flat_map (λ y. map (λ w. y ∷ w) (words (length xs) letters)) x (x ∷ xs) letters h.0 (among_map (λ w. x ∷ w) xs (words (length xs) letters) (among_words letters xs h.1))

-- an integer that is placed stands there, and the others stay
stands_placed : (x : ℤ) (ys : List ℤ) → Among x (placed x ys)
stands_placed x [] = inl refl
stands_placed x (y ∷ ys) = by (lt_z y x) (stands_placed x ys)
  where
    by : (b : Bool) → Among x (placed x ys) → Among x (cond b (y ∷ placed x ys) (x ∷ y ∷ ys))
    by true h = inr h
    by false h = inl refl

stays_placed : (x z : ℤ) (ys : List ℤ) → Among z ys → Among z (placed x ys)
stays_placed x z [] h = absurd h
stays_placed x z (y ∷ ys) h = by (lt_z y x) h (λ g. stays_placed x z ys g)
  where
    by : (b : Bool) → Among z (y ∷ ys) → (Among z ys → Among z (placed x ys)) → Among z (cond b (y ∷ placed x ys) (x ∷ y ∷ ys))
    by true (inl e) f = inl e
    by true (inr g) f = inr (f g)
    by false h f = inr h

length_placed : (x : ℤ) (ys : List ℤ) → length (placed x ys) ≡ suc (length ys)
length_placed x [] = refl
length_placed x (y ∷ ys) = by (lt_z y x) (length_placed x ys)
  where
    by : (b : Bool) → length (placed x ys) ≡ suc (length ys) → length (cond b (y ∷ placed x ys) (x ∷ y ∷ ys)) ≡ suc (suc (length ys))
    by true h = ap (λ n. suc n) h
    by false h = refl

length_rising : (xs : List ℤ) → length (rising xs) ≡ length xs
length_rising [] = refl
length_rising (x ∷ xs) = length_placed x (rising xs) ∙ ap (λ n. suc n) (length_rising xs)

weaker : (P Q : ℤ → Type 0) (xs : List ℤ) → ((x : ℤ) → P x → Q x) → AllByRecursion P xs → AllByRecursion Q xs
weaker P Q [] f h = tt
weaker P Q (x ∷ xs) f h = (f x h.0, weaker P Q xs f h.1)

stand_rising : (xs : List ℤ) → AllByRecursion (λ x. Among x (rising xs)) xs
stand_rising [] = tt
stand_rising (x ∷ xs) =
    (stands_placed x (rising xs), weaker (λ z. Among z (rising xs)) (λ z. Among z (placed x (rising xs))) xs (λ z h. stays_placed x z (rising xs) h) (stand_rising xs))

abbrev arities : List ℕ
arities = 2 ∷ 3 ∷ 4 ∷ 5 ∷ 6 ∷ []

among_arities : (n : ℕ) → 2 ≤ n → n ≤ 6 → Among n arities
among_arities zero l g = absurd (omega arith)
among_arities (suc zero) l g = absurd (omega arith)
among_arities (suc (suc zero)) l g = inl refl
among_arities (suc (suc (suc zero))) l g = inr (inl refl)
among_arities (suc (suc (suc (suc zero)))) l g = inr (inr (inl refl))
among_arities (suc (suc (suc (suc (suc zero))))) l g = inr (inr (inr (inl refl)))
among_arities (suc (suc (suc (suc (suc (suc zero)))))) l g = inr (inr (inr (inr (inl refl))))
among_arities (suc (suc (suc (suc (suc (suc (suc n))))))) l g = absurd (omega arith)

in_range : (n : ℕ) → (nat_le 2 n && nat_le n 6) ≡ true → (2 ≤ n) × (n ≤ 6)
in_range n h = (grind (arith, nat_tests), grind (arith, nat_tests))

-- the keys that stand for one key of the chains
abbrev keys_of_arity : List ℕ → List ℤ → ℕ → List (Symbol × List ℤ)
keys_of_arity name zs n = map (λ xs. (record { name = name; arity = n }, xs)) (words (length zs) zs)

abbrev keys_for : Symbol × List ℤ → List (Symbol × List ℤ)
keys_for key = flat_map (keys_of_arity key.0.name key.1) arities

among_keys : (s : Symbol) (xs : List ℤ) → 2 ≤ s.arity → s.arity ≤ 6 → Among (s, xs) (keys_for (binary s.name, rising xs))
among_keys s xs l g =
    among_flat_map (keys_of_arity s.name (rising xs)) s.arity (s, xs) arities (among_arities s.arity l g)
    (among_map (λ ys. (record { name = s.name; arity = s.arity }, ys)) xs (words (length (rising xs)) (rising xs))
    (subst (λ (n : ℕ). Among xs (words n (rising xs))) (sym (length_rising xs)) (among_words (rising xs) xs (stand_rising xs))))

pub tables_finite : ArrangedTablesAreFinite
tables_finite names t i j = record { keys = i.keys ++ flat_map keys_for j.keys; elsewhere = λ s xs absent. by s xs absent (is_chain names s) refl }
  where
    by : (s : Symbol) (xs : List ℤ) → ¬ (Contains (i.keys ++ flat_map keys_for j.keys) (s, xs)) → (b : Bool) → is_chain names s ≡ b → arranged_table names t s xs ≡ pos 0
    by s xs absent true e =
        let r : (2 ≤ s.arity) × (s.arity ≤ 6) = in_range s.arity (second_true (is_listed names s) (nat_le 2 s.arity && nat_le s.arity 6) e) in
        rw e (j.elsewhere (binary s.name) (rising xs)
        (λ h. absent (to_Contains (i.keys ++ flat_map keys_for j.keys) (s, xs) (among_right (s, xs) i.keys (flat_map keys_for j.keys)
        (among_flat_map keys_for (binary s.name, rising xs) (s, xs) j.keys (of_Contains j.keys (binary s.name, rising xs) h) (among_keys s xs r.0 r.1))))))
    by s xs absent false e =
        rw e (i.elsewhere s xs (λ h. absent (to_Contains (i.keys ++ flat_map keys_for j.keys) (s, xs) (among_left (s, xs) i.keys (flat_map keys_for j.keys) (of_Contains i.keys (s, xs) h)))))
