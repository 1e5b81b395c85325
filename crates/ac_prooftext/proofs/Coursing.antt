-- A check that takes one more line.
use Rattle.std.proofs.Common.{◌≡◌, ◌⊎◌, inl, inr, ⊎_elim, ℕ, Bool, List, [], ◌∷◌, ◌++◌, map, Option, None, Some, refl, sym, ap, subst, ◌∙◌}
use Rattle.std.specs.Prelude.{option_map}
use Rattle.std.specs.List.{AllByRecursion}
use Rattle.ac_forms.specs.declared.row.Row.{Row}
use Rattle.ac_forms.specs.declared.row.Row.TheVariants as row
use Rattle.ac_forms.specs.Rows.{HasModulus}
use Rattle.ac_claims_paths.specs.PathSteps.{Pairing}
use Rattle.ac_claims.specs.CheckKnowledge.{IsLine}
use Rattle.ac_claims.specs.CheckState.{state_of}
use Rattle.ac_claims.specs.Steppers.{State, after, after_all, beginning}
use Rattle.ac_claims.specs.declared.item.Item.{Item}
use Rattle.ac_claims.specs.declared.item.Item.TheVariants as item
use Rattle.ac_claims.specs.declared.stepper.Stepper.{Stepper}
use Rattle.ac_prooftext_lines.specs.Spellable.{IsSpellable, IsSpellableRow}
use Rattle.ac_prooftext_lines.specs.Spelling.{spelled}
use Rattle.ac_prooftext_lines.proofs.Injective.{one_item}
use Rattle.ac_prooftext.specs.ProofTexts.{format_line, lines_in}
use Rattle.ac_prooftext.specs.LineOrder.{Place}
use Rattle.ac_prooftext.specs.LinePrefixes.{IsBroken, IsWithin, IsAfter, Took, Gave}
use Rattle.ac_prooftext.specs.StreamChecks.{behind}
use Rattle.ac_prooftext.specs.CheckProgress.{Checked, IsCourseBy, IsCourse}
use Rattle.ac_prooftext.specs.declared.lines.LineReader.{LineReader}
use Rattle.ac_prooftext.specs.declared.lines.Reading.{Reading}
use Rattle.ac_prooftext.specs.declared.lines.Reading.TheVariants.{Unopened, Within, Faulty}
use Rattle.ac_prooftext.proofs.Growing.{lines_more, all_more}

row_line : (r : Row) → IsSpellableRow r → HasModulus r
row_line (row.Ge f) can = tt
row_line (row.Eq f) can = tt
row_line (row.Div m f) can = can.0.1

-- an item that can be spelled is a line of the check
pub is_line : (x : Item) → IsSpellable x → IsLine x
is_line (item.Row r) can = row_line r can
is_line x can = tt

head : {A : Type 0} {x y : A} {xs ys : List A} → x ∷ xs ≡ y ∷ ys → x ≡ y
head e = cc

tail : {A : Type 0} {x y : A} {xs ys : List A} → x ∷ xs ≡ y ∷ ys → xs ≡ ys
tail e = cc

-- lines are those of one list of items
pub same_items : (xs ys : List Item) → AllByRecursion IsSpellable xs → AllByRecursion IsSpellable ys → map spelled xs ≡ map spelled ys → xs ≡ ys
same_items [] [] h k e = refl
same_items [] (y ∷ ys) h k e = absurd cc
same_items (x ∷ xs) [] h k e = absurd cc
same_items (x ∷ xs) (y ∷ ys) h k e = λ i. one_item x y h.0 k.0 (head e) i ∷ same_items xs ys h.1 k.1 (tail e) i

pub after_more : (g : Pairing) (outputs : List ℕ) (xs : List Item) (x : Item) (s : State) → after_all g outputs (xs ++ x ∷ []) s ≡ after g outputs x (after_all g outputs xs s)
after_more g outputs [] x s = refl
after_more g outputs (y ∷ ys) x s = after_more g outputs ys x (after g outputs y s)

-- the course tells what the reader took
pub took : (g : Pairing) (outputs : List ℕ) (ls : List (List ℕ)) (r : LineReader) (s : Stepper) → IsCourse g outputs ls r s → Took ls r
took g outputs ls r s h = by r.reading h
  where
    by : (k : Reading) → IsCourseBy g outputs ls k r.outline r.lines r.deepest (state_of s) → IsAfter ls k r.outline r.lines r.deepest
    by Unopened c = c.0
    by Within c = c.within
    by Faulty c = c

no_line : (ls : List (List ℕ)) (line : List ℕ) → ¬ (ls ++ line ∷ [] ≡ [])
no_line [] line e = absurd cc
no_line (l ∷ ls) line e = absurd cc

-- an item was given
pub with_item : (g : Pairing) (outputs : List ℕ) (ls : List (List ℕ)) (line : List ℕ) (x : Item) (r new : LineReader) (s t : Stepper) → IsCourse g outputs ls r s → Took (ls ++ line ∷ []) new
    → Gave r line new (Some x) → state_of t ≡ option_map (after g outputs x) (state_of s) → IsCourse g outputs (ls ++ line ∷ []) new t
with_item g outputs ls line x r new s t h k gave step =
    subst (λ o. IsCourseBy g outputs (ls ++ line ∷ []) o new.outline new.lines new.deepest (state_of t)) (sym gave.1) (record { within = w; state_is = state })
  where
    old : Checked g outputs ls r.outline r.lines r.deepest (state_of s)
    old = subst (λ o. IsCourseBy g outputs ls o r.outline r.lines r.deepest (state_of s)) gave.0 h

    w : IsWithin (ls ++ line ∷ []) new.outline new.lines new.deepest
    w = subst (λ o. IsAfter (ls ++ line ∷ []) o new.outline new.lines new.deepest) gave.1 k

    lines : lines_in w.shapes w.items ≡ lines_in old.within.shapes (old.within.items ++ x ∷ [])
    lines = sym w.lines_are ∙ (ap (λ l. l ++ line ∷ []) old.within.lines_are ∙ (ap (λ l. lines_in old.within.shapes old.within.items ++ l ∷ []) gave.3 ∙ lines_more old.within.shapes old.within.items x))

    items : w.items ≡ old.within.items ++ x ∷ []
    items = same_items w.items (old.within.items ++ x ∷ []) w.begin.0 (all_more old.within.items x old.within.begin.0 gave.2) (tail lines)

    state : state_of t ≡ Some (behind g outputs w.items)
    state = step ∙ (ap (option_map (after g outputs x)) old.state_is ∙ ap Some (sym (after_more g outputs old.within.items x beginning) ∙ ap (λ xs. after_all g outputs xs beginning) (sym items)))

-- none was
pub without_item : (g : Pairing) (outputs : List ℕ) (ls : List (List ℕ)) (line : List ℕ) (r new : LineReader) (s : Stepper) → IsCourse g outputs ls r s → Took (ls ++ line ∷ []) new
    → Gave r line new None → IsCourse g outputs (ls ++ line ∷ []) new s
without_item g outputs ls line r new s h k gave = ⊎_elim at_format behind_fault gave
  where
    behind_fault : new.reading ≡ Faulty → IsCourse g outputs (ls ++ line ∷ []) new s
    behind_fault e =
        let broken : IsBroken (ls ++ line ∷ []) new.lines new.deepest = subst (λ o. IsAfter (ls ++ line ∷ []) o new.outline new.lines new.deepest) e k in
        subst (λ o. IsCourseBy g outputs (ls ++ line ∷ []) o new.outline new.lines new.deepest (state_of s)) (sym e) broken

    at_format : r.reading ≡ Unopened → IsCourse g outputs (ls ++ line ∷ []) new s
    at_format e = by new.reading k
      where
        old : ((ls ≡ []) × (r.lines ≡ 0) × (r.deepest ≡ 0)) × (state_of s ≡ Some beginning)
        old = subst (λ o. IsCourseBy g outputs ls o r.outline r.lines r.deepest (state_of s)) e h

        by : (o : Reading) → IsAfter (ls ++ line ∷ []) o new.outline new.lines new.deepest → IsCourseBy g outputs (ls ++ line ∷ []) o new.outline new.lines new.deepest (state_of s)
        by Unopened a = absurd (no_line ls line a.0)
        by Within a =
            let one : format_line a.shapes ∷ map spelled a.items ≡ line ∷ [] = sym a.lines_are ∙ ap (λ l. l ++ line ∷ []) old.0.0 in
            let none : a.items ≡ [] = same_items a.items [] a.begin.0 tt (tail one) in
            record { within = a; state_is = old.1 ∙ ap (λ xs. Some (after_all g outputs xs beginning)) (sym none) }
        by Faulty a = a
