-- A text that is cut into its lines.
use Rattle.std.proofs.Common.{rules, ◌≡◌, ◌<◌, ◌+◌, ◌^◌, ◌⊎◌, ℕ, suc, min, max, Bool, true, false, List, [], ◌∷◌, ◌++◌, map, length, Option, None, Some, refl, sym, ap, subst, ◌∙◌, arith, append_assoc}
use Rattle.std.specs.List.{AllByRecursion, flat_map}
use Rattle.std.proofs.lemmas.List.{append-nil}
use Rattle.ac_claims.specs.declared.item.Item.{Item}
use Rattle.ac_prooftext_lines.specs.Spellable.{IsSpellable}
use Rattle.ac_prooftext_lines.specs.Spelling.{spelled}
use Rattle.ac_prooftext_lines.specs.LineWords.{IsFree}
use Rattle.ac_prooftext_lines.proofs.Cuts.{same_cut, uncut}
use Rattle.ac_prooftext_lines.proofs.Plain.{one_line}
use Rattle.ac_prooftext.specs.LineOrder.{Place, next}
use Rattle.ac_prooftext.specs.declared.stages.Stage.TheVariants as stage
use Rattle.ac_prooftext.specs.ProofTexts.{format_line, ended, lines_text, lines_in, text_of, Begin, deepest, capped, IsSpelling, IsTextFault, no_format, no_item, IsNesting}
use Rattle.ac_prooftext.specs.LinePrefixes.{IsBroken, format, item, IsWithin, IsAfter, Took}
use Rattle.ac_prooftext.specs.declared.lines.LineReader.{LineReader}
use Rattle.ac_prooftext.specs.declared.lines.Reading.{Reading}
use Rattle.ac_prooftext.specs.declared.lines.Reading.TheVariants.{Unopened, Within, Faulty}

pub ended_by : (line more : List ℕ) → ended line ++ more ≡ line ++ 10 ∷ more
ended_by line more = append_assoc line (10 ∷ []) more

pub format_free : (shapes : Bool) → IsFree 10 (format_line shapes)
format_free false = search rules
format_free true = search rules

pub lines_append : (ls ms : List (List ℕ)) → lines_text (ls ++ ms) ≡ lines_text ls ++ lines_text ms
lines_append [] ms = refl
lines_append (l ∷ ls) ms = ap (λ t. ended l ++ t) (lines_append ls ms) ∙ sym (append_assoc (ended l) (lines_text ls) (lines_text ms))

-- one more line of a text
pub line_more : (text rest line behind : List ℕ) (ls : List (List ℕ)) → text ≡ lines_text ls ++ rest → rest ≡ line ++ 10 ∷ behind → text ≡ lines_text (ls ++ line ∷ []) ++ behind
line_more text rest line behind ls e f =
    e ∙ ap (λ t. lines_text ls ++ t) (f ∙ sym (ended_by line behind)) ∙ sym (append_assoc (lines_text ls) (ended line) behind)
    ∙ ap (λ t. t ++ behind) (sym (lines_append ls (line ∷ []) ∙ ap (λ t. lines_text ls ++ t) (append-nil (ended line))))

pub free_more : (ls : List (List ℕ)) (line : List ℕ) → AllByRecursion (IsFree 10) ls → IsFree 10 line → AllByRecursion (IsFree 10) (ls ++ line ∷ [])
free_more [] line h f = (f, tt)
free_more (l ∷ ls) line h f = (h.0, free_more ls line h.1 f)

free_at : (ls : List (List ℕ)) (line : List ℕ) (more : List (List ℕ)) → AllByRecursion (IsFree 10) (ls ++ line ∷ more) → IsFree 10 line
free_at [] line more h = h.0
free_at (l ∷ ls) line more h = free_at ls line more h.1

pub some_byte : (line more : List ℕ) → ended line ++ more ≡ [] → ⊥
some_byte [] more e = absurd cc
some_byte (b ∷ bs) more e = absurd cc

-- a line that isn't this one is cut off before another could be
other_line : (line text spelling more : List ℕ) → IsFree 10 line → IsFree 10 spelling → ¬ (line ≡ spelling) → ¬ (ended line ++ text ≡ ended spelling ++ more)
other_line line text spelling more f g other e = other (same_cut 10 line text spelling more f g (sym (ended_by line text) ∙ (e ∙ ended_by spelling more))).0

no_line : (rest spelling more : List ℕ) → IsFree 10 rest → ¬ (rest ≡ ended spelling ++ more)
no_line rest spelling more f e = uncut 10 rest spelling more f (e ∙ ended_by spelling more)

capped_twice : (n : ℕ) → capped (capped (n + 1) + 1) ≡ capped (n + 2)
capped_twice n = omega arith

-- among the lines one is wrong
by_broken : (ls : List (List ℕ)) (count depth : ℕ) (rest : List ℕ) → IsBroken ls count depth → AllByRecursion (IsFree 10) ls → IsNesting (lines_text ls ++ rest) depth (Some (capped (count + 1)))
by_broken ls count depth rest (format line more none) free =
    (1, 0, (no_format (λ shapes behind e. other_line line (lines_text more ++ rest) (format_line shapes) behind free.0 (format_free shapes) (none shapes) (sym (append_assoc (ended line) (lines_text more) rest) ∙ e)), refl, refl))
by_broken ls count depth rest (item shapes xs p line more begin none) free =
    let tail = lines_text more ++ rest in
    let front = lines_in shapes xs in
    let cut : lines_text (front ++ line ∷ more) ++ rest ≡ text_of shapes xs ++ (ended line ++ tail) =
    ap (λ t. t ++ rest) (lines_append front (line ∷ more)) ∙ append_assoc (lines_text front) (ended line ++ lines_text more) rest ∙ ap (λ t. lines_text front ++ t) (append_assoc (ended line) (lines_text more) rest) in (
      length xs + 2,
      deepest shapes xs,
      (
        no_item shapes xs p (ended line ++ tail) begin cut (λ h. some_byte line tail h.1)
            (λ x q behind can n e. other_line line tail (spelled x) behind (free_at front line more free) (one_line x can) (none x q can n) e),
        capped_twice (length xs),
        refl,
      ),
    )

by_within : (ls : List (List ℕ)) (p : Place) (count depth : ℕ) (rest : List ℕ) → IsWithin ls p count depth → IsFree 10 rest → ¬ ((p.stage ≡ stage.Done) × (rest ≡ [])) → IsNesting (lines_text ls ++ rest) depth (Some (capped (count + 1)))
by_within ls p count depth rest h free cut_short = (
  length h.items + 2,
  deepest h.shapes h.items,
  (
    no_item h.shapes h.items p rest h.begin (ap (λ l. lines_text l ++ rest) h.lines_are) cut_short (λ x q behind can n e. no_line rest (spelled x) behind free e),
    ap (λ c. capped (c + 1)) h.count_is ∙ capped_twice (length h.items),
    h.depth_is,
  ),
)

by_unopened : (ls : List (List ℕ)) (count depth : ℕ) (rest : List ℕ) → (ls ≡ []) × (count ≡ 0) × (depth ≡ 0) → IsFree 10 rest → IsNesting (lines_text ls ++ rest) depth (Some (capped (count + 1)))
by_unopened ls count depth rest h free =
    (1, 0, (no_format (λ shapes behind e. no_line rest (format_line shapes) behind free (sym (ap (λ l. lines_text l ++ rest) h.0) ∙ e)), ap (λ c. capped (c + 1)) h.1, h.2))

-- an incomplete text
pub incomplete : (r : LineReader) (rest : List ℕ) → IsFree 10 rest → ¬ ((r.reading ≡ Within) × (r.outline.stage ≡ stage.Done) × (rest ≡ []))
    → (ls : List (List ℕ)) → Took ls r → AllByRecursion (IsFree 10) ls → IsNesting (lines_text ls ++ rest) r.deepest (Some (capped (r.lines + 1)))
incomplete r rest free cut_short ls h lines = by r.reading refl h
  where
    by : (k : Reading) → r.reading ≡ k → IsAfter ls k r.outline r.lines r.deepest → IsNesting (lines_text ls ++ rest) r.deepest (Some (capped (r.lines + 1)))
    by Unopened e a = by_unopened ls r.lines r.deepest rest a free
    by Within e a = by_within ls r.outline r.lines r.deepest rest a free (λ d. cut_short (e, d.0, d.1))
    by Faulty e a = by_broken ls r.lines r.deepest rest a lines

-- a complete one
pub complete : (r : LineReader) (rest : List ℕ) → (r.reading ≡ Within) × (r.outline.stage ≡ stage.Done) × (rest ≡ [])
    → (ls : List (List ℕ)) → Took ls r → IsNesting (lines_text ls ++ rest) r.deepest None
complete r rest done ls h =
    let w : IsWithin ls r.outline r.lines r.deepest = subst (λ k. IsAfter ls k r.outline r.lines r.deepest) done.0 h in (
      deepest w.shapes w.items,
      (
        record {
          shapes = w.shapes;
          items = w.items;
          place = r.outline;
          begin = w.begin;
          complete = done.1;
          text_is = ap (λ t. lines_text ls ++ t) done.2 ∙ append-nil (lines_text ls) ∙ ap lines_text w.lines_are;
          depth_is = refl;
        },
        w.depth_is,
      ),
    )
