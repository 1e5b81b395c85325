-- The rows of a question stand at their places, under the numbers of their columns.
use Rattle.std.proofs.Common.{◌≡◌, ℕ, zero, suc, ◌+◌, ◌-◌, ◌<◌, ◌≤◌, ℤ, pos, Bool, true, false, nat_lt, List, [], ◌∷◌, ◌++◌, length, get_or, Some, None, eq-eqb, refl, sym, ap, ◌∙◌, arith, append_assoc, length-append}
use Rattle.std.specs.Prelude.{option_map}
use Rattle.std.proofs.lemmas.Bool.{ne_eqb}
use borrow.Author.Tests.{ltb-true, ltb-false}
use Rattle.ac_forms.specs.Affine.{Affine, coef}
use Rattle.ac_forms.specs.Rows.{form_of, AreRowsOver, IsWellMade}
use Rattle.ac_forms.specs.declared.conj.Conj.{Conj}
use Rattle.ac_forms.specs.declared.row.Row.{Row}
use Rattle.ac_forms.specs.declared.row.Row.TheVariants.{Eq, Div, Ge}
use Rattle.ac_omega_certify.specs.ChoiceBranches.{numbers_from}
use Rattle.ac_omega_certify.proofs.Distinct.{columns-of, distinct-of}
use Rattle.ac_omega_certify.specs.Descents.{AreNames, Carries}
use Rattle.ac_forms.specs.Renaming.{with_form}
use Rattle.ac_omega_certify.specs.TreePathRows.{place_of, coef_of, Renames, Stand, Starts}
use Rattle.ac_omega_certify.specs.declared.path.TreePath.{TreePath}
use Rattle.ac_omega_certify.proofs.Branching.{at-front}

-- ---- numbers in order

pub numbers_step : (i n : ℕ) (made : List ℕ) → i < n → (made ++ i ∷ []) ++ numbers_from (i + 1) (n - (i + 1)) ≡ made ++ numbers_from i (n - i)
numbers_step i n made l =
    let k : n - i ≡ suc (n - (i + 1)) = omega arith in
    let s : i + 1 ≡ suc i = omega arith in
    append_assoc made (i ∷ []) (numbers_from (i + 1) (n - (i + 1))) ∙ rw (k, s) refl

numbers-long : (i n : ℕ) → length (numbers_from i n) ≡ n
numbers-long i zero = refl
numbers-long i (suc n) = ap (λ (k : ℕ). suc k) (numbers-long (suc i) n)

number-at : (i n k : ℕ) → k < n → get_or (numbers_from i n) k 0 ≡ i + k
number-at i zero k h = absurd (omega arith)
number-at i (suc n) zero h = omega arith
number-at i (suc n) (suc k) h = number-at (suc i) n k (omega arith) ∙ later i k
  where
    later : (i k : ℕ) → suc i + k ≡ i + suc k
    later i k = omega arith

place-here : (i n k j : ℕ) → k < n → j ≡ i + k → place_of j (numbers_from i n) ≡ Some k
place-here i zero k j h e = absurd (omega arith)
place-here i (suc n) zero j h e = rw (eq-eqb i j (omega (arith, e))) refl
place-here i (suc n) (suc k) j h e =
    rw (ne_eqb i j (λ f. omega (arith, e, f))) (ap (option_map (λ (x : ℕ). suc x)) (place-here (suc i) n k j (omega arith) (omega (arith, e))))

place-beyond : (i n j : ℕ) → i + n ≤ j → place_of j (numbers_from i n) ≡ None
place-beyond i zero j h = refl
place-beyond i (suc n) j h = rw (ne_eqb i j (λ f. omega (arith, f, h))) (ap (option_map (λ (x : ℕ). suc x)) (place-beyond (suc i) n j (omega arith)))

coef-beyond : (cs : List ℤ) (j : ℕ) → length cs ≤ j → get_or cs j (pos 0) ≡ pos 0
coef-beyond [] j h = refl
coef-beyond (c ∷ cs) zero h = absurd (omega arith)
coef-beyond (c ∷ cs) (suc j) h = coef-beyond cs j (omega arith)

-- ---- the same form under the numbers of its columns

renames-same : (n : ℕ) (f : Affine) → length f.coefs ≤ n → Renames (numbers_from 0 n) f f
renames-same n f h = record { konst = refl; coefs = λ j. by j (nat_lt j n) refl }
  where
    by : (j : ℕ) (b : Bool) → nat_lt j n ≡ b → coef j f ≡ coef_of (place_of j (numbers_from 0 n)) f
    by j true e = rw (place-here 0 n j j (ltb-true j n e) (omega arith)) refl
    by j false e =
        let l : n ≤ j = ltb-false j n e in
        rw (place-beyond 0 n j (omega arith)) (coef-beyond f.coefs j (omega (arith, h, l)))

with-own : (r : Row) → with_form r (form_of r) ≡ r
with-own (Eq f) = refl
with-own (Div m f) = refl
with-own (Ge f) = refl

stand-first : (n : ℕ) (path : Conj) (front rs more : List Row) (i : ℕ) → path.rows ≡ front ++ (rs ++ more) → length front ≡ i → AreRowsOver n rs → Stand (numbers_from 0 n) path rs (numbers_from i (length rs))
stand-first n path front [] more i e l h = tt
stand-first n path front (r ∷ rs) more i e l h =
    let far : path.rows ≡ (front ++ r ∷ []) ++ (rs ++ more) = e ∙ sym (append_assoc front (r ∷ []) (rs ++ more)) in
    let long : length (front ++ r ∷ []) ≡ suc i = omega (arith, length-append front (r ∷ []), l) in (
      record { form = form_of r; at = rw (e, with-own r) (at-front front (rs ++ more) r i l); renames = renames-same n (form_of r) h.0.0 },
      stand-first n path (front ++ r ∷ []) rs more (suc i) far long h.1,
    )

names-first : (n m : ℕ) → n ≤ m → AreNames m (numbers_from 0 n)
names-first n m h = record {
  within = columns-of m (numbers_from 0 n) (λ k l. rw (number-at 0 n k (short k l)) (omega (arith, short k l)));
  apart = distinct-of (numbers_from 0 n) (λ j k l g e. omega (arith, number-at 0 n j (short j l), number-at 0 n k (short k g), e));
}
  where
    short : (k : ℕ) → k < length (numbers_from 0 n) → k < n
    short k l = omega (arith, numbers-long 0 n, l)

pub first-carries : (t : TreePath) (question : Conj) (names places : List ℕ) (rows : List Row) → names ≡ numbers_from 0 question.columns → places ≡ numbers_from 0 (length question.rows) → rows ≡ question.rows → IsWellMade question → Starts t question
    → Carries t question names rows places
first-carries t question names places rows en ep er made s =
    let more = s.onto.more in
    let wide : question.columns ≤ t.columns = omega (arith, s.onto.columns, s.reaches.columns) in
    rw (en, ep, er) (record {
      path = s.path;
      steps = s.reaches.steps;
      stand = record {
        columns = s.reaches.columns;
        rows = s.reaches.rows;
        one = s.one;
        names = names-first question.columns t.columns wide;
        stand = stand-first question.columns s.path [] question.rows more 0 s.onto.rows refl made;
      };
    })

pub numbers-length : (n : ℕ) → length (numbers_from 0 n) ≡ n
numbers-length n = numbers-long 0 n
