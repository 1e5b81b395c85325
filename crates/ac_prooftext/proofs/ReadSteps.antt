-- A text whose lines are read to a proof.
use Rattle.std.proofs.Common.{◌≡◌, ⊎_elim, ℕ, ◌+◌, ◌<◌, ◌^◌, Bool, List, [], ◌∷◌, ◌++◌, map, length, Option, None, Some, refl, sym, ap, subst, ◌∙◌, arith, append-nil}
use Rattle.std.proofs.lemmas.List.{length-map}
use Rattle.std.specs.Prelude.{is_some}
use Rattle.std.specs.List.{AllByRecursion}
use Rattle.std.specs.declared.alloc.Global.{Global}
use Rattle.ac_claims.specs.ProofMachine.{lines_of}
use Rattle.ac_claims.specs.declared.item.Item.{Item}
use Rattle.ac_claims.specs.declared.types.Proof.{Proof}
use Rattle.ac_prooftext_lines.specs.Spellable.{IsSpellable}
use Rattle.ac_prooftext_lines.specs.Spelling.{spelled}
use Rattle.ac_prooftext_lines.specs.LineWords.{IsFree}
use Rattle.ac_prooftext.specs.ProofAssembly.{Taken, AreTaken, unread, HasParts, SameProof, IsRead, IsReadingBy, IsReading, IsReadFault}
use Rattle.ac_prooftext.specs.CompleteProofs.{AreRising}
use Rattle.ac_prooftext.specs.LinePrefixes.{IsBroken, IsWithin, IsAfter, Took, Gave}
use Rattle.ac_prooftext.specs.ProofTexts.{format_line, lines_text, items_text, lines_in, text_of, capped, IsNesting, IsSpelledProof, proof_text}
use Rattle.ac_prooftext.specs.declared.lines.LineReader.{LineReader}
use Rattle.ac_prooftext.specs.declared.lines.Reading.{Reading}
use Rattle.ac_prooftext.specs.declared.lines.Reading.TheVariants.{Unopened, Within, Faulty}
use Rattle.ac_prooftext.specs.declared.proof_reader.ProofReader.{ProofReader}
use Rattle.ac_prooftext.specs.declared.stages.Stage.TheVariants as stage
use Rattle.ac_prooftext.specs.declared.types.TextFault.TheVariants.{Line}
use Rattle.ac_prooftext.proofs.Coursing.{same_items}
use Rattle.ac_prooftext.proofs.Excluding.{same_line}
use Rattle.ac_prooftext.proofs.Growing.{lines_more, all_more}
use Rattle.ac_prooftext.proofs.Judging.{format_free, incomplete}
use Rattle.ac_prooftext.proofs.Reading.{whole_read}
use Rattle.ac_prooftext.proofs.Rebuilding.{ProofRead, read_proof}
use Rattle.ac_prooftext.proofs.Sound.{lines_long}
use Rattle.ac_prooftext.proofs.Verdicts.{same_text}

tail : {A : Type 0} {x y : A} {xs ys : List A} → x ∷ xs ≡ y ∷ ys → xs ≡ ys
tail e = cc

no_line : (ls : List (List ℕ)) (line : List ℕ) → ¬ (ls ++ line ∷ [] ≡ [])
no_line [] line e = absurd cc
no_line (l ∷ ls) line e = absurd cc

taken_more : (xs : List Item) (x : Item) (b m c : ProofReader) → AreTaken xs b m → Taken x m c → AreTaken (xs ++ x ∷ []) b c
taken_more [] x b m c h t = (c, (subst (λ (z : ProofReader). Taken x z c) h t, refl))
taken_more (y ∷ ys) x b m c h t = (h.0, (h.1.0, taken_more ys x h.0 m c h.1.1 t))

pub took_by : (a : Global) (ls : List (List ℕ)) (r : LineReader) (b : ProofReader) → IsReading a ls r b → Took ls r
took_by a ls r b h = by r.reading h
  where
    by : (k : Reading) → IsReadingBy a ls k r.outline r.lines r.deepest b → IsAfter ls k r.outline r.lines r.deepest
    by Unopened c = c.0
    by Within c = c.within
    by Faulty c = c

-- an item was given
pub with_item : (a : Global) (ls : List (List ℕ)) (line : List ℕ) (x : Item) (r new : LineReader) (b c : ProofReader) → IsReading a ls r b → Took (ls ++ line ∷ []) new → Gave r line new (Some x) → Taken x b c → IsReading a (ls ++ line ∷ []) new c
with_item a ls line x r new b c h k gave taken = subst (λ o. IsReadingBy a (ls ++ line ∷ []) o new.outline new.lines new.deepest c) (sym gave.1) (record { within = w; taken = whole })
  where
    old : IsRead a ls r.outline r.lines r.deepest b
    old = subst (λ o. IsReadingBy a ls o r.outline r.lines r.deepest b) gave.0 h

    w : IsWithin (ls ++ line ∷ []) new.outline new.lines new.deepest
    w = subst (λ o. IsAfter (ls ++ line ∷ []) o new.outline new.lines new.deepest) gave.1 k

    lines : lines_in w.shapes w.items ≡ lines_in old.within.shapes (old.within.items ++ x ∷ [])
    lines = sym w.lines_are ∙ (ap (λ l. l ++ line ∷ []) old.within.lines_are ∙ (ap (λ l. lines_in old.within.shapes old.within.items ++ l ∷ []) gave.3 ∙ lines_more old.within.shapes old.within.items x))

    items : w.items ≡ old.within.items ++ x ∷ []
    items = same_items w.items (old.within.items ++ x ∷ []) w.begin.0 (all_more old.within.items x old.within.begin.0 gave.2) (tail lines)

    whole : AreTaken w.items (unread a) c
    whole = subst (λ xs. AreTaken xs (unread a) c) (sym items) (taken_more old.within.items x (unread a) b c old.taken taken)

-- none was
pub without_item : (a : Global) (ls : List (List ℕ)) (line : List ℕ) (r new : LineReader) (b : ProofReader) → IsReading a ls r b → Took (ls ++ line ∷ []) new → Gave r line new None → IsReading a (ls ++ line ∷ []) new b
without_item a ls line r new b h k gave = ⊎_elim at_format behind_fault gave
  where
    behind_fault : new.reading ≡ Faulty → IsReading a (ls ++ line ∷ []) new b
    behind_fault e =
        let broken : IsBroken (ls ++ line ∷ []) new.lines new.deepest = subst (λ o. IsAfter (ls ++ line ∷ []) o new.outline new.lines new.deepest) e k in
        subst (λ o. IsReadingBy a (ls ++ line ∷ []) o new.outline new.lines new.deepest b) (sym e) broken

    at_format : r.reading ≡ Unopened → IsReading a (ls ++ line ∷ []) new b
    at_format e = by new.reading k
      where
        old : ((ls ≡ []) × (r.lines ≡ 0) × (r.deepest ≡ 0)) × (b ≡ unread a)
        old = subst (λ o. IsReadingBy a ls o r.outline r.lines r.deepest b) e h

        by : (o : Reading) → IsAfter (ls ++ line ∷ []) o new.outline new.lines new.deepest → IsReadingBy a (ls ++ line ∷ []) o new.outline new.lines new.deepest b
        by Unopened s = absurd (no_line ls line s.0)
        by Within s =
            let one : format_line s.shapes ∷ map spelled s.items ≡ line ∷ [] = sym s.lines_are ∙ ap (λ l. l ++ line ∷ []) old.0.0 in
            let none : s.items ≡ [] = same_items s.items [] s.begin.0 tt (tail one) in
            record { within = s; taken = subst (λ xs. AreTaken xs (unread a) b) (sym none) old.1 }
        by Faulty s = s

items_few : (shapes : Bool) (xs : List Item) (text : List ℕ) → text ≡ text_of shapes xs → length text < 2 ^ 63 → length xs < 2 ^ 63
items_few shapes xs text is short =
    let long = lines_long (lines_in shapes xs) in
    let same : length (map spelled xs) ≡ length xs = length-map xs spelled in
    let sizes : length text ≡ length (text_of shapes xs) = ap length is in
    omega (arith, long, same, sizes, short)

-- a text that was read to the end
module _ (a : Global) (text rest : List ℕ) (ls : List (List ℕ)) (r : LineReader) (b : ProofReader) (q : Proof) (is : text ≡ lines_text ls ++ rest) (short : length text < 2 ^ 63) (h : IsReading a ls r b)
    (done : (r.reading ≡ Within) × (r.outline.stage ≡ stage.Done) × (rest ≡ [])) (parts : HasParts b q) where
  read : IsRead a ls r.outline r.lines r.deepest b
  read = subst (λ o. IsReadingBy a ls o r.outline r.lines r.deepest b) done.0 h

  abbrev xs : List Item
  xs = read.within.items

  text_is : text ≡ text_of read.within.shapes xs
  text_is = is ∙ (ap (λ t. lines_text ls ++ t) done.2 ∙ (append-nil (lines_text ls) ∙ ap lines_text read.within.lines_are))

  found : ProofRead a r.outline done.1 (length xs) (items_few read.within.shapes xs text text_is short) read.within.shapes xs
  found = read_proof a r.outline done.1 (length xs) (items_few read.within.shapes xs text text_is short) read.within.shapes xs (omega arith) read.within.begin.0 read.within.begin.1

  same : SameProof found.proof q
  same = whole_read a found.proof q b found.spelled (subst (λ z. AreTaken z (unread a) b) (sym found.lines_are) read.taken) parts

  lines : lines_of q ≡ xs
  lines = same.lines ∙ found.lines_are

  pub spelled_read : IsSpelledProof q × (text ≡ proof_text q)
  spelled_read = (
    record { items = subst (AllByRecursion IsSpellable) (sym lines) read.within.begin.0; branches = same.branches; outputs = subst (AreRising None) (sym same.outputs) found.rising },
    text_is ∙ (λ i. text_of (sym (ap (λ (o : Option _). is_some o) same.heads ∙ found.shapes_are) i) (sym lines i)),
  )

  pub same_read : (p : Proof) → IsSpelledProof p → text ≡ proof_text p → SameProof p q
  same_read p sp e =
      let parted = same_line (format_line read.within.shapes) (format_line (is_some p.heads)) (items_text xs) (items_text (lines_of p)) (format_free read.within.shapes) (format_free (is_some p.heads)) (sym text_is ∙ e) in
      let items : xs ≡ lines_of p = same_text xs (lines_of p) read.within.begin.0 sp.items parted.1 in
      whole_read a p q b sp.branches (subst (λ z. AreTaken z (unread a) b) items read.taken) parts

pub faulty_read : (a : Global) (text rest : List ℕ) (ls : List (List ℕ)) (r : LineReader) (b : ProofReader) (line : ℕ) → text ≡ lines_text ls ++ rest → IsReading a ls r b → AllByRecursion (IsFree 10) ls → IsFree 10 rest
    → ¬ ((r.reading ≡ Within) × (r.outline.stage ≡ stage.Done) × (rest ≡ [])) → line ≡ capped (r.lines + 1) → IsReadFault text (Line line)
faulty_read a text rest ls r b line is h each free cut_short e =
    let n : IsNesting text r.deepest (Some (capped (r.lines + 1))) = subst (λ t. IsNesting t r.deepest (Some (capped (r.lines + 1)))) (sym is) (incomplete r rest free cut_short ls (took_by a ls r b h) each) in
    (n.0, n.1, (n.2.0, e ∙ n.2.1))
