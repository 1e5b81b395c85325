-- The answer on a stream and the verdict on a proof.
use Rattle.std.proofs.Common.{◌≡◌, ◌<◌, ◌≤◌, ◌+◌, ◌⊎◌, ⊎_elim, ℕ, max, Bool, List, [], ◌∷◌, ◌++◌, map, length, Option, None, Some, Ok, Err, refl, sym, ap, subst, ◌∙◌, arith, append_assoc}
use Rattle.std.specs.Prelude.{option_and_then, is_some}
use Rattle.std.specs.List.{AllByRecursion}
use Rattle.std.proofs.lemmas.List.{append-nil}
use Rattle.ac_claims_paths.specs.PathSteps.{Pairing}
use Rattle.ac_claims.specs.ProofMachine.{lines_of}
use Rattle.ac_claims.specs.Steppers.{after_all, beginning, answer_of, verdict}
use Rattle.ac_claims.specs.declared.item.Item.{Item}
use Rattle.ac_claims.specs.declared.types.Proof.{Proof}
use Rattle.ac_claims.proofs.Driving.{lines_drive_the_proof}
use Rattle.ac_prooftext_lines.specs.Spellable.{IsSpellable}
use Rattle.ac_prooftext_lines.specs.Spelling.{spelled}
use Rattle.ac_prooftext_lines.proofs.Plain.{one_line}
use Rattle.ac_prooftext_lines.proofs.Injective.{one_item}
use Rattle.ac_prooftext.specs.LineOrder.{Place, next, next_all, start, opens}
use Rattle.ac_prooftext.specs.ProofTexts.{format_line, ended, items_text, deepest, deepest_from, IsSpelling, IsTextFault, no_format, no_item, IsSpelledProof, proof_text}
use Rattle.ac_prooftext.specs.StreamChecks.{max_depth, IsTooDeep, behind}
use Rattle.ac_prooftext.specs.CheckLaws.{WrittenProofsAreJudged}
use Rattle.ac_prooftext.specs.TextLaws.{TextsAreOfOneProof}
use Rattle.ac_prooftext.specs.declared.types.CheckFault.TheVariants.{TooLong, TooDeep, Refused, Memory}
use Rattle.ac_prooftext.proofs.Excluding.{same_line, same_format, spelled_proof, no_fault}
use Rattle.ac_prooftext.proofs.Judging.{format_free, some_byte}

-- one text is that of one list of items
pub same_text : (xs ys : List Item) → AllByRecursion IsSpellable xs → AllByRecursion IsSpellable ys → items_text xs ≡ items_text ys → xs ≡ ys
same_text [] [] h k e = refl
same_text [] (y ∷ ys) h k e = absurd (some_byte (spelled y) (items_text ys) (sym e))
same_text (x ∷ xs) [] h k e = absurd (some_byte (spelled x) (items_text xs) e)
same_text (x ∷ xs) (y ∷ ys) h k e =
    let lines = same_line (spelled x) (spelled y) (items_text xs) (items_text ys) (one_line x h.0) (one_line y k.0) e in
    λ i. one_item x y h.0 k.0 lines.0 i ∷ same_text xs ys h.1 k.1 lines.1 i

pub one_text : TextsAreOfOneProof
one_text p q h k e =
    let lines = same_line (format_line (is_some p.heads)) (format_line (is_some q.heads)) (items_text (lines_of p)) (items_text (lines_of q)) (format_free (is_some p.heads)) (format_free (is_some q.heads)) e in
    (same_format (is_some p.heads) (is_some q.heads) lines.0, same_text (lines_of p) (lines_of q) h.items k.items lines.1)

pub verdicts : (g : Pairing) (outputs text : List ℕ) (depth : ℕ) (s : IsSpelling text depth) (p : Proof) → IsSpelledProof p → text ≡ proof_text p → answer_of (behind g outputs s.items).came ≡ verdict g outputs p
verdicts g outputs text depth s p h e =
    let lines = same_line (format_line s.shapes) (format_line (is_some p.heads)) (items_text s.items) (items_text (lines_of p)) (format_free s.shapes) (format_free (is_some p.heads)) (sym s.text_is ∙ e) in
    let items : s.items ≡ lines_of p = same_text s.items (lines_of p) s.begin.0 h.items lines.1 in
    ap (λ xs. answer_of (after_all g outputs xs beginning).came) items ∙ lines_drive_the_proof g outputs p h.branches

-- lines that begin a text go no further than its fault
before_fault : (p q r : Place) (xs ys : List Item) (rest more : List ℕ) → AllByRecursion IsSpellable xs → AllByRecursion IsSpellable ys → next_all p xs ≡ Some q → next_all p ys ≡ Some r
    → items_text xs ++ rest ≡ items_text ys ++ more → ((x : Item) (s : Place) (behind : List ℕ) → IsSpellable x → next r x ≡ Some s → ¬ (more ≡ ended (spelled x) ++ behind))
    → deepest_from (Some p) xs ≤ deepest_from (Some p) ys
before_fault p q r [] ys rest more cx cy nx ny e none = omega arith
before_fault p q r (x ∷ xs) [] rest more cx cy nx ny e none = by (next p x) refl nx
  where
    pr : p ≡ r
    pr = cc

    by : (o : Option Place) → next p x ≡ o → option_and_then (λ s. next_all s xs) o ≡ Some q → deepest_from (Some p) (x ∷ xs) ≤ 0
    by None n h = absurd cc
    by (Some s) n h = absurd (none x s (items_text xs ++ rest) cx.0 (sym (ap (λ (t : Place). next t x) pr) ∙ n) (sym e ∙ append_assoc (ended (spelled x)) (items_text xs) rest))
before_fault p q r (x ∷ xs) (y ∷ ys) rest more cx cy nx ny e none =
    by (next p x) (next p y) (ap (next p) one) nx ny (λ s h k. before_fault s q r xs ys rest more cx.1 cy.1 h k lines.1 none)
  where
    lines : (spelled x ≡ spelled y) × (items_text xs ++ rest ≡ items_text ys ++ more)
    lines = same_line (spelled x) (spelled y) (items_text xs ++ rest) (items_text ys ++ more) (one_line x cx.0) (one_line y cy.0)
        (sym (append_assoc (ended (spelled x)) (items_text xs) rest) ∙ (e ∙ append_assoc (ended (spelled y)) (items_text ys) more))

    one : x ≡ y
    one = one_item x y cx.0 cy.0 lines.0

    larger : (a b c d : ℕ) → a ≡ b → c ≤ d → max a c ≤ max b d
    larger a b c d h k = omega (arith, h, k)

    by : (o t : Option Place) → o ≡ t → option_and_then (λ s. next_all s xs) o ≡ Some q → option_and_then (λ s. next_all s ys) t ≡ Some r
        → ((s : Place) → next_all s xs ≡ Some q → next_all s ys ≡ Some r → deepest_from (Some s) xs ≤ deepest_from (Some s) ys)
        → max (length p.open_counts + opens x) (deepest_from o xs) ≤ max (length p.open_counts + opens y) (deepest_from t ys)
    by None t n h k rest = absurd cc
    by (Some s) None n h k rest = absurd cc
    by (Some s) (Some u) n h k rest =
        let same : s ≡ u = cc in
        larger (length p.open_counts + opens x) (length p.open_counts + opens y) (deepest_from (Some s) xs) (deepest_from (Some u) ys) (ap (λ z. length p.open_counts + opens z) one)
        (subst (λ (v : Place). deepest_from (Some s) xs ≤ deepest_from (Some v) ys) same (rest s h (ap (λ (v : Place). next_all v ys) same ∙ k)))

-- the same of whole texts
no_deeper : (a b : Bool) (q r : Place) (xs ys : List Item) (rest more : List ℕ) → AllByRecursion IsSpellable xs → AllByRecursion IsSpellable ys → next_all (start a) xs ≡ Some q → next_all (start b) ys ≡ Some r
    → ended (format_line a) ++ (items_text xs ++ rest) ≡ ended (format_line b) ++ (items_text ys ++ more) → ((x : Item) (s : Place) (behind : List ℕ) → IsSpellable x → next r x ≡ Some s → ¬ (more ≡ ended (spelled x) ++ behind))
    → deepest a xs ≤ deepest b ys
no_deeper a b q r xs ys rest more cx cy nx ny e none =
    let lines = same_line (format_line a) (format_line b) (items_text xs ++ rest) (items_text ys ++ more) (format_free a) (format_free b) e in
    let format = same_format a b lines.0 in
    subst (λ s. deepest a xs ≤ deepest s ys) format (before_fault (start a) q r xs ys rest more cx cy nx (ap (λ s. next_all (start s) ys) format ∙ ny) lines.1 none)

front : (shapes : Bool) (xs : List Item) (rest : List ℕ) → (ended (format_line shapes) ++ items_text xs) ++ rest ≡ ended (format_line shapes) ++ (items_text xs ++ rest)
front shapes xs rest = append_assoc (ended (format_line shapes)) (items_text xs) rest

pub faults : (text : List ℕ) (line depth : ℕ) → IsTooDeep text → IsTextFault text line depth → max_depth < depth
faults text line depth h (no_format none) = absurd (none h.shapes (items_text h.items ++ h.rest) (h.text_is ∙ front h.shapes h.items h.rest))
faults text line depth h (no_item shapes ys r more begin is cut none) =
    let le = no_deeper h.shapes shapes h.place r h.items ys h.rest more h.begin.0 begin.0 h.begin.1 begin.1 (sym (h.text_is ∙ front h.shapes h.items h.rest) ∙ (is ∙ front shapes ys more)) none in
    let deep = h.deep in
    omega (arith, le, deep)

pub spellings : (text : List ℕ) (depth : ℕ) → IsTooDeep text → IsSpelling text depth → max_depth < depth
spellings text depth h s =
    let le = no_deeper h.shapes s.shapes h.place s.place h.items s.items h.rest [] h.begin.0 s.begin.0 h.begin.1 s.begin.1
    (sym (h.text_is ∙ front h.shapes h.items h.rest) ∙ (s.text_is ∙ (sym (append-nil (ended (format_line s.shapes) ++ items_text s.items)) ∙ front s.shapes s.items []))) (λ x t more can n e. some_byte (spelled x) more (sym e)) in
    let deep = h.deep in
    let is = s.depth_is in
    omega (arith, le, deep, is)

-- the text of a spelled proof is judged as the proof
pub written : WrittenProofsAreJudged
written g outputs p (Ok v) sp h = sym (verdicts g outputs (proof_text p) h.1.depth h.1.spelling p sp refl) ∙ h.1.answer_is
written g outputs p (Err TooLong) sp h = h
written g outputs p (Err TooDeep) sp h = spellings (proof_text p) (deepest (is_some p.heads) (lines_of p)) h.1 (spelled_proof p sp)
written g outputs p (Err (Refused line r)) sp h =
    ⊎_elim (λ t. absurd (no_fault (proof_text p) (deepest (is_some p.heads) (lines_of p)) t.1.first t.1.depth (spelled_proof p sp) t.1.fault)) (λ j. sym (verdicts g outputs (proof_text p) j.depth j.spelling p sp refl) ∙ j.answer_is) h.1
written g outputs p (Err (Memory e)) sp h = tt
