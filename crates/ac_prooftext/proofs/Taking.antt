-- A reader that takes one more line.
use Rattle.std.proofs.Common.{◌≡◌, ◌+◌, ℕ, max, Bool, List, [], ◌∷◌, ◌++◌, length, Option, None, Some, refl, sym, ap, subst, ◌∙◌, arith}
use Rattle.ac_claims.specs.declared.item.Item.{Item}
use Rattle.ac_prooftext_lines.specs.Spellable.{IsSpellable}
use Rattle.ac_prooftext_lines.specs.Spelling.{spelled}
use Rattle.ac_prooftext_lines.specs.ItemReaders.{Reads}
use Rattle.ac_prooftext_lines.proofs.Injective.{one_item}
use Rattle.ac_prooftext.specs.LineOrder.{Place, next, opens}
use Rattle.ac_prooftext.specs.ProofTexts.{format_line, capped}
use Rattle.ac_prooftext.specs.LinePrefixes.{IsBroken, IsWithin, IsAfter, Took}
use Rattle.ac_prooftext.specs.declared.lines.LineReader.{LineReader}
use Rattle.ac_prooftext.specs.declared.lines.Reading.{Reading}
use Rattle.ac_prooftext.specs.declared.lines.Reading.TheVariants.{Unopened, Within, Faulty}
use Rattle.ac_prooftext.proofs.Growing.{not_opened, grown, broken, still_broken}

pub within : (ls : List (List ℕ)) (r : LineReader) → r.reading ≡ Within → Took ls r → IsWithin ls r.outline r.lines r.deepest
within ls r e h = subst (λ k. IsAfter ls k r.outline r.lines r.deepest) e h

pub no_format : (ls : List (List ℕ)) (r : LineReader) (line : List ℕ) → r.reading ≡ Unopened → Took ls r → ((shapes : Bool) → ¬ (line ≡ format_line shapes)) → IsBroken (ls ++ line ∷ []) r.lines r.deepest
no_format ls r line e h none =
    let k : (ls ≡ []) × (r.lines ≡ 0) × (r.deepest ≡ 0) = subst (λ k. IsAfter ls k r.outline r.lines r.deepest) e h in
    subst (λ c. IsBroken (ls ++ line ∷ []) c r.deepest) (sym k.1) (subst (λ d. IsBroken (ls ++ line ∷ []) 0 d) (sym k.2) (not_opened ls line k.0 none))

pub malformed : (ls : List (List ℕ)) (r : LineReader) (line : List ℕ) (found : Option Item) → r.reading ≡ Within → Took ls r → Reads IsSpellable spelled line found → found ≡ None → IsBroken (ls ++ line ∷ []) r.lines r.deepest
malformed ls r line found e h read none =
    let nothing : Reads IsSpellable spelled line None = subst (λ f. Reads IsSpellable spelled line f) none read in
    broken ls r.outline r.lines r.deepest line (within ls r e h) (λ x q can n s. nothing x can s)

one_next : (p : Place) (x y : Item) → x ≡ y → next p y ≡ None → (q : Place) → next p x ≡ Some q → ⊥
one_next p x y e none q n = let t : None ≡ Some q = sym (ap (next p) e ∙ none) ∙ n in cc

pub misplaced : (ls : List (List ℕ)) (r : LineReader) (line : List ℕ) (x : Item) → r.reading ≡ Within → Took ls r → IsSpellable x × (line ≡ spelled x) → next r.outline x ≡ None → IsBroken (ls ++ line ∷ []) r.lines r.deepest
misplaced ls r line x e h read none =
    broken ls r.outline r.lines r.deepest line (within ls r e h) (λ y q can n s. one_next r.outline y x (one_item y x can read.0 (sym s ∙ read.1)) none q n)

pub placed : (ls : List (List ℕ)) (r : LineReader) (line : List ℕ) (x : Item) (q : Place) (count deep depth : ℕ) → r.reading ≡ Within → Took ls r → IsSpellable x × (line ≡ spelled x) → next r.outline x ≡ Some q
    → count ≡ capped (r.lines + 1) → deep ≡ capped (length r.outline.open_counts + opens x) → depth ≡ max r.deepest deep → IsAfter (ls ++ line ∷ []) r.reading q count depth
placed ls r line x q count deep depth e h read n c d m =
    subst (λ k. IsAfter (ls ++ line ∷ []) k q count depth) (sym e)
    (subst (λ k. IsWithin (ls ++ line ∷ []) q k depth) (sym c) (subst (λ k. IsWithin (ls ++ line ∷ []) q (capped (r.lines + 1)) k) (ap (max r.deepest) (sym d) ∙ sym m) (grown ls r.outline q r.lines r.deepest line x (within ls r e h) read.0 read.1 n)))

pub faulty : (ls : List (List ℕ)) (r : LineReader) (line : List ℕ) → r.reading ≡ Faulty → Took ls r → Took (ls ++ line ∷ []) r
faulty ls r line e h =
    let k : IsBroken ls r.lines r.deepest = subst (λ k. IsAfter ls k r.outline r.lines r.deepest) e h in
    subst (λ k. IsAfter (ls ++ line ∷ []) k r.outline r.lines r.deepest) (sym e) (still_broken line k)
