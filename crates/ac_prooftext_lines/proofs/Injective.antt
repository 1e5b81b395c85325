-- No line is that of two items.
use Rattle.std.proofs.Common.{rules, ◌≡◌, ◌<◌, ◌≤◌, ◌+◌, ◌^◌, ◌||◌, ℕ, zero, suc, Bool, true, false, true≢false, ℤ, pos, negsuc, List, [], ◌∷◌, ◌++◌, map, length, Option, None, Some, decimal, int_eq, cond, refl, sym, ap, subst, ◌∙◌, arith}
use Rattle.std.specs.Prelude.{codes}
use Rattle.std.specs.List.{AllByRecursion}
use Rattle.std.specs.Fmt.{signed_decimal}
use Rattle.ac_forms.specs.Affine.{Affine}
use Rattle.ac_forms.specs.Fits.{Fits, AllFit}
use Rattle.ac_forms.specs.NormalRows.{trim}
use Rattle.ac_forms.specs.declared.row.Row.{Row}
use Rattle.ac_forms.specs.declared.row.Row.TheVariants as row
use Rattle.ac_syntax.specs.declared.tree.Position.{Position}
use Rattle.ac_syntax.specs.declared.tree.Position.TheVariants as position
use Rattle.ac_syntax.specs.declared.tree.Order.{Order}
use Rattle.ac_syntax.specs.declared.tree.Order.TheVariants as order
use Rattle.ac_cert.specs.declared.types.Step.{Step}
use Rattle.ac_cert.specs.declared.types.Step.TheVariants as step
use Rattle.ac_omega_steps.specs.declared.choose.Choice.{Choice}
use Rattle.ac_omega_steps.specs.declared.choose.Choice.TheVariants as choice
use Rattle.ac_claims.specs.declared.item.Item.{Item}
use Rattle.ac_claims.specs.declared.item.Item.TheVariants as item
use Rattle.ac_prooftext_lines.specs.LineWords.{IsFree, words_in, line_of}
use Rattle.ac_prooftext_lines.specs.Spelling.{pair_word, dotted_word, term_words, terms_from, form_words, position_word, row_words, step_words, choice_words, order_word, level_word, item_words, spelled}
use Rattle.ac_prooftext_lines.specs.Spellable.{IsIndex, IsIndexed, AreIndices, IsSpellableForm, IsSpellablePosition, IsSpellableRow, IsSpellableStep, IsSpellableChoice, IsSpellableLevel, IsSpellable}
use Rattle.ac_prooftext_lines.proofs.Numerals.{of_64, same_number, same_integer}
use Rattle.ac_prooftext_lines.proofs.Cuts.{same_cut, number_free, no_point, no_colon, uncut}
use Rattle.ac_prooftext_lines.proofs.Naming.{tail, head, differ, same_name}
use Rattle.ac_prooftext_lines.proofs.Terms.{same_column, some_term, trim_tail, first_term, term_zero, term_other}
use Rattle.ac_prooftext_lines.proofs.Plain.{item_plain, some_words}
use Rattle.ac_prooftext_lines.proofs.ItemArms.{line_words}

number : (m n : ℕ) → IsIndex m → IsIndex n → decimal m ≡ decimal n → m ≡ n
number m n h k e = same_number m n (of_64 m h) (of_64 n k) e

pair : (p q : ℕ × ℤ) → IsIndexed p → IsIndexed q → pair_word p ≡ pair_word q → p ≡ q
pair p q h k e =
    let both = same_column p.0 q.0 p.1 q.1 h.0 k.0 e in
    λ i. (both.0 i, same_integer p.1 q.1 h.1 k.1 both.1 i)

dotted : (p q : ℕ × ℕ) → AreIndices p → AreIndices q → dotted_word p ≡ dotted_word q → p ≡ q
dotted p q h k e =
    let cut = same_cut 46 (decimal p.0) (decimal p.1) (decimal q.0) (decimal q.1) (number_free 46 p.0 no_point (of_64 p.0 h.0)) (number_free 46 q.0 no_point (of_64 q.0 k.0)) e in
    λ i. (number p.0 q.0 h.0 k.0 cut.0 i, number p.1 q.1 h.1 k.1 cut.1 i)

mapped : {A : Type 0} (Can : A → Type 0) (spell : A → List ℕ) → ((x y : A) → Can x → Can y → spell x ≡ spell y → x ≡ y)
    → (xs ys : List A) → AllByRecursion Can xs → AllByRecursion Can ys → map spell xs ≡ map spell ys → xs ≡ ys
mapped Can spell one [] [] h k e = refl
mapped Can spell one [] (y ∷ ys) h k e = absurd cc
mapped Can spell one (x ∷ xs) [] h k e = absurd cc
mapped Can spell one (x ∷ xs) (y ∷ ys) h k e = λ i. one x y h.0 k.0 (head e) i ∷ mapped Can spell one xs ys h.1 k.1 (tail e) i

no_word : {w : List ℕ} {ws : List (List ℕ)} → [] ≡ w ∷ ws → ⊥
no_word e = cc

-- a word of the coefficients from a later column on
late_term : (k : ℕ) (x : ℤ) (cs : List ℤ) (ws : List (List ℕ)) → suc k + length cs ≤ 2 ^ 64 → pair_word (k, x) ∷ ws ≡ terms_from (suc k) cs → ⊥
late_term k x cs ws room e =
    let t = first_term (suc k) cs (pair_word (k, x)) ws e in
    let below = t.below in
    let from = t.from in
    let col = same_column k t.column x t.coef (omega (arith, room)) (omega (arith, below, room)) t.word in
    omega (arith, col.0, from)

coefficients : (k : ℕ) (cs ds : List ℤ) → trim cs ≡ cs → trim ds ≡ ds → AllFit cs → AllFit ds → k + length cs ≤ 2 ^ 64 → k + length ds ≤ 2 ^ 64 → terms_from k cs ≡ terms_from k ds → cs ≡ ds
coefficients k [] [] t u f g a b e = refl
coefficients k [] (d ∷ ds) t u f g a b e = let some = some_term k d ds u in absurd (no_word (e ∙ some.2))
coefficients k (c ∷ cs) [] t u f g a b e = let some = some_term k c cs t in absurd (no_word (sym e ∙ some.2))
coefficients k (c ∷ cs) (d ∷ ds) t u f g a b e =
    by (int_eq c (pos 0)) (int_eq d (pos 0)) refl refl (λ h. coefficients (suc k) cs ds (trim_tail c cs t) (trim_tail d ds u) f.1 g.1 (omega (arith, a)) (omega (arith, b)) h)
  where
    zero : (x : ℤ) (xs : List ℤ) → int_eq x (pos 0) ≡ true → terms_from k (x ∷ xs) ≡ terms_from (suc k) xs
    zero x xs z = ap (λ l. l ++ terms_from (suc k) xs) (term_zero k x z)

    other : (x : ℤ) (xs : List ℤ) → int_eq x (pos 0) ≡ false → terms_from k (x ∷ xs) ≡ pair_word (k, x) ∷ terms_from (suc k) xs
    other x xs z = ap (λ l. l ++ terms_from (suc k) xs) (term_other k x z)

    none : (x : ℤ) → int_eq x (pos 0) ≡ true → x ≡ pos 0
    none x z = grind (arith, Rattle.std.proofs.lemmas.Int.ints)

    by : (p q : Bool) → int_eq c (pos 0) ≡ p → int_eq d (pos 0) ≡ q → (terms_from (suc k) cs ≡ terms_from (suc k) ds → cs ≡ ds) → c ∷ cs ≡ d ∷ ds
    by true true y z rest = λ i. (none c y ∙ sym (none d z)) i ∷ rest (sym (zero c cs y) ∙ (e ∙ zero d ds z)) i
    by true false y z rest = absurd (late_term k d cs (terms_from (suc k) ds) (omega (arith, a)) (sym (other d ds z) ∙ (sym e ∙ zero c cs y)))
    by false true y z rest = absurd (late_term k c ds (terms_from (suc k) cs) (omega (arith, b)) (sym (other c cs y) ∙ (e ∙ zero d ds z)))
    by false false y z rest =
        let whole : pair_word (k, c) ∷ terms_from (suc k) cs ≡ pair_word (k, d) ∷ terms_from (suc k) ds = sym (other c cs y) ∙ (e ∙ other d ds z) in
        let col = same_column k k c d (omega (arith, a)) (omega (arith, a)) (head whole) in
        λ i. same_integer c d f.0 g.0 col.1 i ∷ rest (tail whole) i

form : (f g : Affine) → IsSpellableForm f → IsSpellableForm g → form_words f ≡ form_words g → f ≡ g
form f g h k e = λ i. record {
  konst = same_integer f.konst g.konst h.0.1 k.0.1 (head e) i;
  coefs = coefficients 0 f.coefs g.coefs h.1 k.1 h.0.0 k.0.0 (let l = h.2 in omega (arith, l)) (let l = k.2 in omega (arith, l)) (tail e) i;
}

spot : (P Q : Position) → IsSpellablePosition P → IsSpellablePosition Q → position_word P ≡ position_word Q → P ≡ Q
spot (position.Output o) (position.Output p) h k e = ap position.Output (number o p h k (tail e))
spot (position.Output o) (position.Node s n) h k e = let x : 79 ≡ 83 = head e in absurd (omega (arith, x))
spot (position.Output o) (position.InitialOutput p) h k e = let x : 79 ≡ 73 = head e in absurd (omega (arith, x))
spot (position.Output o) (position.InitialNode s n) h k e = let x : 79 ≡ 73 = head e in absurd (omega (arith, x))
spot (position.Node s n) (position.Output p) h k e = let x : 83 ≡ 79 = head e in absurd (omega (arith, x))
spot (position.Node s n) (position.Node t m) h k e = ap (λ (p : ℕ × ℕ). position.Node p.0 p.1) (dotted (s, n) (t, m) h k (tail e))
spot (position.Node s n) (position.InitialOutput p) h k e = let x : 83 ≡ 73 = head e in absurd (omega (arith, x))
spot (position.Node s n) (position.InitialNode t m) h k e = let x : 83 ≡ 73 = head e in absurd (omega (arith, x))
spot (position.InitialOutput o) (position.Output p) h k e = let x : 73 ≡ 79 = head e in absurd (omega (arith, x))
spot (position.InitialOutput o) (position.Node s n) h k e = let x : 73 ≡ 83 = head e in absurd (omega (arith, x))
spot (position.InitialOutput o) (position.InitialOutput p) h k e = ap position.InitialOutput (number o p h k (tail (tail e)))
spot (position.InitialOutput o) (position.InitialNode s n) h k e = let x : 79 ≡ 83 = head (tail e) in absurd (omega (arith, x))
spot (position.InitialNode s n) (position.Output p) h k e = let x : 73 ≡ 79 = head e in absurd (omega (arith, x))
spot (position.InitialNode s n) (position.Node t m) h k e = let x : 73 ≡ 83 = head e in absurd (omega (arith, x))
spot (position.InitialNode s n) (position.InitialOutput p) h k e = let x : 83 ≡ 79 = head (tail e) in absurd (omega (arith, x))
spot (position.InitialNode s n) (position.InitialNode t m) h k e = ap (λ (p : ℕ × ℕ). position.InitialNode p.0 p.1) (dotted (s, n) (t, m) h k (tail (tail e)))

row_one : (x y : Row) → IsSpellableRow x → IsSpellableRow y → row_words x ≡ row_words y → x ≡ y
row_one (row.Ge f) (row.Ge g) h k e = ap row.Ge (form f g h k (tail e))
row_one (row.Eq f) (row.Eq g) h k e = ap row.Eq (form f g h k (tail e))
row_one (row.Div m f) (row.Div n g) h k e = λ i. row.Div (same_integer m n h.0.0 k.0.0 (head (tail e)) i) (form f g h.1 k.1 (tail (tail e)) i)
row_one x y h k e = absurd (differ _ _ _ _ refl e)

step_one : (x y : Step) → IsSpellableStep x → IsSpellableStep y → step_words x ≡ step_words y → x ≡ y
step_one (step.Add ps) (step.Add qs) h k e = ap step.Add (mapped IsIndexed pair_word pair ps qs h.1 k.1 (tail e))
step_one (step.Cut r g) (step.Cut s l) h k e = λ i. step.Cut (number r s h.0 k.0 (head (tail e)) i) (same_integer g l h.1 k.1 (head (tail (tail e))) i)
step_one (step.DivScale r g) (step.DivScale s l) h k e = λ i. step.DivScale (number r s h.0 k.0 (head (tail e)) i) (same_integer g l h.1 k.1 (head (tail (tail e))) i)
step_one (step.DivAdd r g t n) (step.DivAdd s l u m) h k e =
    λ i. step.DivAdd (number r s h.0 k.0 (head (tail e)) i) (same_integer g l h.1 k.1 (head (tail (tail e))) i) (number t u h.2 k.2 (head (tail (tail (tail e)))) i) (same_integer n m h.3 k.3 (head (tail (tail (tail (tail e))))) i)
step_one (step.DivMod r g n f) (step.DivMod s l m d) h k e =
    λ i. step.DivMod (number r s h.0 k.0 (head (tail e)) i) (same_integer g l h.1 k.1 (head (tail (tail e))) i) (same_integer n m h.2 k.2 (head (tail (tail (tail e)))) i) (form f d h.3 k.3 (tail (tail (tail (tail e)))) i)
step_one (step.DivEq r g) (step.DivEq s l) h k e = λ i. step.DivEq (number r s h.0 k.0 (head (tail e)) i) (same_integer g l h.1 k.1 (head (tail (tail e))) i)
step_one (step.Quot r) (step.Quot s) h k e = ap step.Quot (number r s h k (head (tail e)))
step_one (step.Floor m f) (step.Floor n g) h k e = λ i. step.Floor (same_integer m n h.0 k.0 (head (tail e)) i) (form f g h.1 k.1 (tail (tail e)) i)
step_one (step.EqCut r t) (step.EqCut s u) h k e = λ i. step.EqCut (number r s h.0 k.0 (head (tail e)) i) (number t u h.1 k.1 (head (tail (tail e))) i)
step_one x y h k e = absurd (differ _ _ _ _ refl e)

choice_one : (x y : Choice) → IsSpellableChoice x → IsSpellableChoice y → choice_words x ≡ choice_words y → x ≡ y
choice_one (choice.Drop z) (choice.Drop y) h k e = ap choice.Drop (number z y h k (head (tail e)))
choice_one (choice.Equal z r) (choice.Equal y s) h k e = λ i. choice.Equal (number z y h.0 k.0 (head (tail e)) i) (number r s h.1 k.1 (head (tail (tail e))) i)
choice_one (choice.Residue z m j) (choice.Residue y n l) h k e =
    λ i. choice.Residue (number z y h.0 k.0 (head (tail e)) i) (same_integer m n h.1 k.1 (head (tail (tail e))) i) (same_integer j l h.2 k.2 (head (tail (tail (tail e)))) i)
choice_one (choice.Shadow z) (choice.Shadow y) h k e = ap choice.Shadow (number z y h k (head (tail e)))
choice_one (choice.Splinter z r j) (choice.Splinter y s l) h k e =
    λ i. choice.Splinter (number z y h.0 k.0 (head (tail e)) i) (number r s h.1 k.1 (head (tail (tail e))) i) (same_integer j l h.2 k.2 (head (tail (tail (tail e)))) i)
choice_one x y h k e = absurd (differ _ _ _ _ refl e)

order_one : (o p : Order) → order_word o ≡ order_word p → o ≡ p
order_one order.Keep order.Keep e = refl
order_one order.Keep order.Swap e = let x : 107 ≡ 115 = head e in absurd (omega (arith, x))
order_one order.Swap order.Keep e = let x : 115 ≡ 107 = head e in absurd (omega (arith, x))
order_one order.Swap order.Swap e = refl

no_dash : (n : ℕ) → IsIndex n → codes "-" ≡ decimal n → ⊥
no_dash n h e = Rattle.ac_prooftext_lines.proofs.Numerals.no_minus n [] (of_64 n h) (sym e)

level_one : (l m : Option ℕ) → IsSpellableLevel l → IsSpellableLevel m → level_word l ≡ level_word m → l ≡ m
level_one None None h k e = refl
level_one None (Some m) h k e = absurd (no_dash m k e)
level_one (Some l) None h k e = absurd (no_dash l h (sym e))
level_one (Some l) (Some m) h k e = ap Some (number l m h k e)

-- names of rows, of steps and of choices
abbrev is_row : List ℕ → Bool
is_row w = same_name w (codes "ge") || (same_name w (codes "eq") || same_name w (codes "div"))

abbrev is_step : List ℕ → Bool
is_step w = same_name w (codes "add") || (same_name w (codes "cut") || (same_name w (codes "divscale") || (same_name w (codes "divadd") || (same_name w (codes "divmod") || (same_name w (codes "diveq") || (same_name w (codes "quot") || (same_name w (codes "floor") || same_name w (codes "eqcut"))))))))

abbrev is_choice : List ℕ → Bool
is_choice w = same_name w (codes "drop") || (same_name w (codes "equal") || (same_name w (codes "residue") || (same_name w (codes "shadow") || same_name w (codes "splinter"))))

abbrev first : List (List ℕ) → List ℕ
first [] = []
first (w ∷ ws) = w

apart : (test : List ℕ → Bool) (ws vs : List (List ℕ)) → test (first ws) ≡ true → test (first vs) ≡ false → ws ≡ vs → ⊥
apart test ws vs h k e = true≢false (sym h ∙ (ap (λ l. test (first l)) e ∙ k))

row_named : (r : Row) → is_row (first (row_words r)) ≡ true
row_named (row.Ge f) = refl
row_named (row.Eq f) = refl
row_named (row.Div m f) = refl

step_named : (s : Step) → (is_step (first (step_words s)) ≡ true) × (is_row (first (step_words s)) ≡ false)
step_named (step.Add ps) = (refl, refl)
step_named (step.Cut r g) = (refl, refl)
step_named (step.DivScale r g) = (refl, refl)
step_named (step.DivAdd r g s l) = (refl, refl)
step_named (step.DivMod r g n f) = (refl, refl)
step_named (step.DivEq r n) = (refl, refl)
step_named (step.Quot r) = (refl, refl)
step_named (step.Floor m f) = (refl, refl)
step_named (step.EqCut r s) = (refl, refl)

choice_named : (c : Choice) → (is_choice (first (choice_words c)) ≡ true) × ((is_row (first (choice_words c)) ≡ false) × (is_step (first (choice_words c)) ≡ false))
choice_named (choice.Drop z) = (refl, (refl, refl))
choice_named (choice.Equal z r) = (refl, (refl, refl))
choice_named (choice.Residue z m i) = (refl, (refl, refl))
choice_named (choice.Shadow z) = (refl, (refl, refl))
choice_named (choice.Splinter z r i) = (refl, (refl, refl))

-- a branch by the residue is no choice: its third word is none, or has a colon
no_branch : (m : ℤ) (f : Affine) (c : Choice) → IsSpellableForm f → IsSpellableChoice c → codes "residue" ∷ signed_decimal m ∷ form_words f ≡ choice_words c → ⊥
no_branch m f (choice.Residue z n i) h k e = no_term i k.2 (first_term 0 f.coefs (signed_decimal i) [] (sym (tail (tail (tail e)))))
  where
    free : (i : ℤ) → Fits i → IsFree 58 (signed_decimal i)
    free (pos n) f = number_free 58 n no_colon (let s : n < 2 ^ 127 = search rules in omega (arith, s))
    free (negsuc n) f = (refl, number_free 58 (suc n) no_colon (let s : n < 2 ^ 127 = search rules in omega (arith, s)))

    no_term : (i : ℤ) → Fits i → Rattle.ac_prooftext_lines.proofs.Terms.IsTerm 0 (0 + length f.coefs) f.coefs (signed_decimal i) → ⊥
    no_term i fits t = uncut 58 (signed_decimal i) (decimal t.column) (signed_decimal t.coef) (free i fits) t.word
no_branch m f c h k e = differ _ _ _ _ refl e

by_words : (x y : Item) → IsSpellable x → IsSpellable y → item_words x ≡ item_words y → x ≡ y
by_words (item.Row r) (item.Row s) h k e = ap item.Row (row_one r s h k e)
by_words (item.Row r) (item.Step s) h k e = absurd (apart is_row (row_words r) (step_words s) (row_named r) (step_named s).1 e)
by_words (item.Row r) (item.Choice c) h k e = absurd (apart is_row (row_words r) (choice_words c) (row_named r) (choice_named c).1.0 e)
by_words (item.Row r) y h k e = absurd (apart is_row (row_words r) _ (row_named r) refl e)
by_words (item.Step s) (item.Row r) h k e = absurd (apart is_row (row_words r) (step_words s) (row_named r) (step_named s).1 (sym e))
by_words (item.Step s) (item.Step t) h k e = ap item.Step (step_one s t h k e)
by_words (item.Step s) (item.Choice c) h k e = absurd (apart is_step (step_words s) (choice_words c) (step_named s).0 (choice_named c).1.1 e)
by_words (item.Step s) y h k e = absurd (apart is_step (step_words s) _ (step_named s).0 refl e)
by_words (item.Choice c) (item.Row r) h k e = absurd (apart is_row (row_words r) (choice_words c) (row_named r) (choice_named c).1.0 (sym e))
by_words (item.Choice c) (item.Step s) h k e = absurd (apart is_step (step_words s) (choice_words c) (step_named s).0 (choice_named c).1.1 (sym e))
by_words (item.Choice c) (item.Choice d) h k e = ap item.Choice (choice_one c d h k e)
by_words (item.Choice c) (item.Residue m f) h k e = absurd (no_branch m f c k.1 h (sym e))
by_words (item.Choice c) y h k e = absurd (apart is_choice (choice_words c) _ (choice_named c).0 refl e)
by_words (item.Residue m f) (item.Choice c) h k e = absurd (no_branch m f c h.1 k e)
by_words x (item.Row r) h k e = absurd (apart is_row (row_words r) _ (row_named r) refl (sym e))
by_words x (item.Step s) h k e = absurd (apart is_step (step_words s) _ (step_named s).0 refl (sym e))
by_words x (item.Choice c) h k e = absurd (apart is_choice (choice_words c) _ (choice_named c).0 refl (sym e))
by_words (item.Point ns) (item.Point ms) h k e = ap item.Point (mapped Fits signed_decimal same_integer ns ms h k (tail e))
by_words (item.Left ps) (item.Left qs) h k e = ap item.Left (mapped AreIndices dotted_word dotted ps qs h k (tail e))
by_words (item.Right ps) (item.Right qs) h k e = ap item.Right (mapped AreIndices dotted_word dotted ps qs h k (tail e))
by_words (item.Claims m) (item.Claims n) h k e = ap item.Claims (number m n h k (head (tail e)))
by_words (item.Claim P Q m) (item.Claim R S n) h k e = λ i. item.Claim (spot P R h.0 k.0 (head (tail e)) i) (spot Q S h.1 k.1 (head (tail (tail e))) i) (number m n h.2 k.2 (head (tail (tail (tail e)))) i)
by_words (item.Output o c) (item.Output p d) h k e = λ i. item.Output (number o p h.0 k.0 (head (tail e)) i) (number c d h.1 k.1 (head (tail (tail e))) i)
by_words (item.Tree c a b) (item.Tree d p q) h k e = λ i. item.Tree (number c d h.0 k.0 (head (tail e)) i) (number a p h.1 k.1 (head (tail (tail e))) i) (number b q h.2 k.2 (head (tail (tail (tail e)))) i)
by_words (item.Split f) (item.Split g) h k e = ap item.Split (form f g h k (tail e))
by_words (item.Residue m f) (item.Residue n g) h k e = λ i. item.Residue (same_integer m n h.0.0 k.0.0 (head (tail e)) i) (form f g h.1 k.1 (tail (tail e)) i)
by_words (item.Go o m) (item.Go p n) h k e = λ i. item.Go (order_one o p (head (tail e)) i) (number m n h k (head (tail (tail e))) i)
by_words (item.Absurd r) (item.Absurd s) h k e = ap item.Absurd (number r s h k (head (tail e)))
by_words (item.Hit c) (item.Hit d) h k e = ap item.Hit (number c d h k (head (tail e)))
by_words item.Number item.Number h k e = refl
by_words item.Initial item.Initial h k e = refl
by_words (item.Killed s d l m n) (item.Killed t p q u v) h k e =
    λ i. item.Killed (number s t h.0 k.0 (head (tail e)) i) (number d p h.1 k.1 (head (tail (tail e))) i) (level_one l q h.2 k.2 (head (tail (tail (tail e)))) i) (number m u h.3 k.3 (head (tail (tail (tail (tail e))))) i)
    (number n v h.4 k.4 (head (tail (tail (tail (tail (tail e)))))) i)
by_words item.End item.End h k e = refl
by_words x y h k e = absurd (differ _ _ _ _ refl e)

pub one_item : (x y : Item) → IsSpellable x → IsSpellable y → spelled x ≡ spelled y → x ≡ y
one_item x y h k e =
    by_words x y h k
    (sym (line_words (spelled x) (item_words x) (item_plain x h) (some_words x) refl) ∙ line_words (spelled x) (item_words y) (item_plain y k) (some_words y) e)
