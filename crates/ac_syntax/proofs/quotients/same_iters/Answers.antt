use Rattle.std.proofs.Common.{◌≡◌, ◌&&◌, ◌≤◌, ◌⊎◌, inl, inr, ◌∙◌, ℕ, ℤ, Bool, List, [], ◌∷◌, length, take, ◌-◌, drop, drop_of_length-le, refl, sym, ap, arith}
use Rattle.std.specs.List.{list_all}
use Rattle.std.proofs.lemmas.List.{take_all, length-drop}
use Rattle.ac_syntax.specs.Index.{is_zero}
use Rattle.ac_syntax.specs.Quotients.{same_iters}
use Rattle.ac_syntax.proofs.quotients.same_iters.Goals as goal

-- all that is behind a place
behind : (xs : List ℤ) (n : ℕ) → list_all is_zero (take (length xs - n) (drop n xs)) ≡ list_all is_zero (drop n xs)
behind xs n = ap (list_all is_zero) (take_all (length xs - n) (drop n xs) (omega (arith, length-drop n xs)))

left : (xs : List ℤ) → list_all is_zero xs ≡ same_iters xs []
left [] = refl
left (x ∷ xs) = ap (λ b. is_zero x && b) (left xs)

no_more : (xs : List ℤ) → (list_all is_zero xs && list_all is_zero []) ≡ same_iters xs []
no_more [] = refl
no_more (x ∷ xs) = and_true (list_all is_zero (x ∷ xs)) ∙ left (x ∷ xs)
  where
    and_true : (b : Bool) → (b && list_all is_zero []) ≡ b
    and_true b = elim b as (λ b. (b && list_all is_zero []) ≡ b) [ Rattle.std.specs.Prelude.true ↦ refl | Rattle.std.specs.Prelude.false ↦ refl ]

-- where a list has ended, what is left of the other has to be zeros
ended : (xs ys : List ℤ) (i n : ℕ) (a b : Bool) → (length xs ≤ n) ⊎ (length ys ≤ n) → i ≡ n → same_iters (drop i xs) (drop i ys) ≡ same_iters xs ys → a ≡ list_all is_zero (drop n xs) → b ≡ list_all is_zero (drop n ys)
    → (a && b) ≡ same_iters xs ys
ended xs ys i n a b ends e so_far f g =
    let whole : (a && b) ≡ (list_all is_zero (drop n xs) && list_all is_zero (drop n ys)) = λ j. f j && g j in
    whole ∙ by ends ∙ ap (λ k. same_iters (drop k xs) (drop k ys)) (sym e) ∙ so_far
  where
    by : (length xs ≤ n) ⊎ (length ys ≤ n) → (list_all is_zero (drop n xs) && list_all is_zero (drop n ys)) ≡ same_iters (drop n xs) (drop n ys)
    by (inl over) = rw (drop_of_length-le xs over) refl
    by (inr over) = rw (drop_of_length-le ys over) (no_more (drop n xs))

pub returns-then-are_zeros : goal.returns-then-are_zeros
returns-then-are_zeros c =
    let n = c.min-common.result in
    let ends : (length c.args.left.now ≤ n) ⊎ (length c.args.right.now ≤ n) = grind (arith, c.min-common.ensures) in
    ap (λ a. a && c.are_zeros-then-are_zeros.result) (sym c.if-are_zeros.true)
    ∙ ended c.args.left.now c.args.right.now c.loop-i.i n c.are_zeros.result c.are_zeros-then-are_zeros.result ends (omega (arith, c.loop-i-test.false, c.loop-i.auto.i-end)) c.loop-i.invariant
    (c.are_zeros.ensures ∙ behind c.args.left.now n) (c.are_zeros-then-are_zeros.ensures ∙ behind c.args.right.now n)

pub returns-else-are_zeros : goal.returns-else-are_zeros
returns-else-are_zeros c =
    let n = c.min-common.result in
    let ends : (length c.args.left.now ≤ n) ⊎ (length c.args.right.now ≤ n) = grind (arith, c.min-common.ensures) in
    let b = list_all is_zero (drop n c.args.right.now) in
    c.if-are_zeros.false ∙ ap (λ a. a && b) (sym c.if-are_zeros.false)
    ∙ ended c.args.left.now c.args.right.now c.loop-i.i n c.are_zeros.result b ends (omega (arith, c.loop-i-test.false, c.loop-i.auto.i-end)) c.loop-i.invariant
    (c.are_zeros.ensures ∙ behind c.args.left.now n) refl
