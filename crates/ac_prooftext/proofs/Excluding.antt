-- A text is not both a spelling and faulty.
use Rattle.std.proofs.Common.{rules, ◌≡◌, ℕ, Bool, true, false, List, [], ◌∷◌, ◌++◌, map, Option, None, Some, refl, sym, ap, subst, ◌∙◌, arith, append_assoc}
use Rattle.std.specs.Prelude.{option_and_then, is_some}
use Rattle.std.specs.List.{AllByRecursion}
use Rattle.std.proofs.lemmas.List.{append-nil}
use Rattle.ac_claims.specs.ProofMachine.{lines_of}
use Rattle.ac_claims.specs.declared.item.Item.{Item}
use Rattle.ac_claims.specs.declared.types.Proof.{Proof}
use Rattle.ac_prooftext_lines.specs.Spellable.{IsSpellable}
use Rattle.ac_prooftext_lines.specs.Spelling.{spelled}
use Rattle.ac_prooftext_lines.specs.LineWords.{IsFree}
use Rattle.ac_prooftext_lines.proofs.Cuts.{same_cut}
use Rattle.ac_prooftext_lines.proofs.Plain.{one_line}
use Rattle.ac_prooftext_lines.proofs.Injective.{one_item}
use Rattle.ac_prooftext.specs.LineOrder.{Place, next, next_all, start, done}
use Rattle.ac_prooftext.specs.declared.stages.Stage.TheVariants as stage
use Rattle.ac_prooftext.specs.ProofTexts.{format_line, ended, lines_text, items_text, lines_in, text_of, Begin, deepest, IsSpelling, IsTextFault, no_format, no_item, IsSpelledProof, proof_text}
use Rattle.ac_prooftext.proofs.Following.{takes_proofs}
use Rattle.ac_prooftext.proofs.Judging.{ended_by, format_free, some_byte}

-- two lines at the same place are one
pub same_line : (line other text more : List ℕ) → IsFree 10 line → IsFree 10 other → ended line ++ text ≡ ended other ++ more → (line ≡ other) × (text ≡ more)
same_line line other text more f g e = same_cut 10 line text other more f g (sym (ended_by line text) ∙ (e ∙ ended_by other more))

-- where items go on from a place to the end, no line that may come is missing
goes_on : (p q r : Place) (xs ys : List Item) (rest : List ℕ) → AllByRecursion IsSpellable xs → AllByRecursion IsSpellable ys → next_all p xs ≡ Some q → q.stage ≡ stage.Done → next_all p ys ≡ Some r
    → items_text xs ≡ items_text ys ++ rest → ¬ ((r.stage ≡ stage.Done) × (rest ≡ []))
    → ((x : Item) (s : Place) (more : List ℕ) → IsSpellable x → next r x ≡ Some s → ¬ (rest ≡ ended (spelled x) ++ more)) → ⊥
goes_on p q r [] [] rest cx cy nx end ny e cut none =
    let pq : p ≡ q = cc in
    let pr : p ≡ r = cc in
    cut (ap (λ (s : Place). s.stage) (sym pr ∙ pq) ∙ end, sym e)
goes_on p q r (x ∷ xs) [] rest cx cy nx end ny e cut none = by (next p x) refl nx
  where
    pr : p ≡ r
    pr = cc

    by : (o : Option Place) → next p x ≡ o → option_and_then (λ s. next_all s xs) o ≡ Some q → ⊥
    by None n h = absurd cc
    by (Some s) n h = none x s (items_text xs) cx.0 (sym (ap (λ (t : Place). next t x) pr) ∙ n) (sym e)
goes_on p q r [] (y ∷ ys) rest cx cy nx end ny e cut none = some_byte (spelled y) (items_text ys ++ rest) (sym (e ∙ append_assoc (ended (spelled y)) (items_text ys) rest))
goes_on p q r (x ∷ xs) (y ∷ ys) rest cx cy nx end ny e cut none =
    by (next p x) (next p y) (ap (next p) one) nx ny (λ s h k. goes_on s q r xs ys rest cx.1 cy.1 h end k lines.1 cut none)
  where
    lines : (spelled x ≡ spelled y) × (items_text xs ≡ items_text ys ++ rest)
    lines = same_line (spelled x) (spelled y) (items_text xs) (items_text ys ++ rest) (one_line x cx.0) (one_line y cy.0) (e ∙ append_assoc (ended (spelled y)) (items_text ys) rest)

    one : x ≡ y
    one = one_item x y cx.0 cy.0 lines.0

    by : (o t : Option Place) → o ≡ t → option_and_then (λ s. next_all s xs) o ≡ Some q → option_and_then (λ s. next_all s ys) t ≡ Some r
        → ((s : Place) → next_all s xs ≡ Some q → next_all s ys ≡ Some r → ⊥) → ⊥
    by None t n h k rest = absurd cc
    by (Some s) None n h k rest = absurd cc
    by (Some s) (Some u) n h k rest = rest s h (ap (λ (o : Place). next_all o ys) (let same : s ≡ u = cc in same) ∙ k)

pub same_format : (a b : Bool) → format_line a ≡ format_line b → a ≡ b
same_format false false e = refl
same_format false true e = absurd (search rules)
same_format true false e = absurd (search rules)
same_format true true e = refl

pub no_fault : (text : List ℕ) (depth line before : ℕ) → IsSpelling text depth → ¬ (IsTextFault text line before)
no_fault text depth line before h (no_format none) = none h.shapes (items_text h.items) h.text_is
no_fault text depth line before h (no_item shapes ys r rest begin is cut none) =
    let both : ended (format_line h.shapes) ++ items_text h.items ≡ ended (format_line shapes) ++ (items_text ys ++ rest) = sym h.text_is ∙ (is ∙ append_assoc (ended (format_line shapes)) (items_text ys) rest) in
    let lines = same_line (format_line h.shapes) (format_line shapes) (items_text h.items) (items_text ys ++ rest) (format_free h.shapes) (format_free shapes) both in
    let format = same_format h.shapes shapes lines.0 in
    goes_on (start h.shapes) h.place r h.items ys rest h.begin.0 begin.0 h.begin.1 h.complete (ap (λ s. next_all (start s) ys) format ∙ begin.1) lines.1 cut none

pub spelled_proof : (p : Proof) → IsSpelledProof p → IsSpelling (proof_text p) (deepest (is_some p.heads) (lines_of p))
spelled_proof p h = record {
  shapes = is_some p.heads;
  items = lines_of p;
  place = done;
  begin = (h.items, takes_proofs p h.branches h.outputs);
  complete = refl;
  text_is = refl;
  depth_is = refl;
}
