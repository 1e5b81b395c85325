-- A stream that goes on.
use Rattle.std.proofs.Common.{◌≡◌, ◌<◌, ◌≤◌, ◌⊎◌, inl, inr, ◌++◌, ◌∷◌, [], ℕ, min, List, refl, sym, ap, subst, ◌∙◌, arith, append_assoc}
use Rattle.std.specs.List.{AllByRecursion}
use Rattle.std.proofs.lemmas.List.{append-nil}
use Rattle.ac_claims_paths.specs.ModelCalls.{pairing}
use Rattle.ac_claims_paths.specs.PathSteps.{Pairing}
use Rattle.ac_claims.specs.CheckState.{state_of, SamePair}
use Rattle.ac_claims.specs.declared.stepper.Stepper.{Stepper}
use Rattle.ac_prooftext_lines.specs.LineWords.{IsFree}
use Rattle.ac_prooftext.specs.ProofTexts.{ended, lines_text, lines_in, text_of, deepest, capped}
use Rattle.ac_prooftext.specs.LinePrefixes.{IsBroken, format, item, IsWithin}
use Rattle.ac_prooftext.specs.StreamChecks.{max_depth, IsTooDeep}
use Rattle.ac_prooftext.specs.CheckProgress.{Checked, IsCourseBy, IsCourse, IsUnderWay, GoesOn}
use Rattle.ac_prooftext.specs.declared.lines.LineReader.{LineReader}
use Rattle.ac_prooftext.specs.declared.lines.Reading.{Reading}
use Rattle.ac_prooftext.specs.declared.lines.Reading.TheVariants.{Unopened, Within, Faulty}
use Rattle.ac_prooftext.proofs.Judging.{line_more, free_more, lines_append}

pub free_joined : (xs ys : List ℕ) → IsFree 10 xs → IsFree 10 ys → IsFree 10 (xs ++ ys)
free_joined [] ys f g = g
free_joined (x ∷ xs) ys f g = (f.0, free_joined xs ys f.1 g)

-- the line under way ends
pub line_ends : (g : Pairing) (outputs text line head : List ℕ) (r new : LineReader) (s t : Stepper) → IsUnderWay g outputs text line r s → IsFree 10 head
    → ((ls : List (List ℕ)) → IsCourse g outputs ls r s → IsCourse g outputs (ls ++ (line ++ head) ∷ []) new t) → IsUnderWay g outputs (text ++ ended head) [] new t
line_ends g outputs text line head r new s t h free go = record {
  lines = h.lines ++ (line ++ head) ∷ [];
  text_is =
      ap (λ l. l ++ ended head) h.text_is ∙ append_assoc (lines_text h.lines) line (ended head)
      ∙ ap (λ l. lines_text h.lines ++ l) (sym (append_assoc line head (10 ∷ [])) ∙ sym (append-nil (ended (line ++ head))))
      ∙ sym (lines_append h.lines ((line ++ head) ∷ [])) ∙ sym (append-nil (lines_text (h.lines ++ (line ++ head) ∷ [])));
  lines_free = free_more h.lines (line ++ head) h.lines_free (free_joined line head h.line_free free);
  line_free = tt;
  course = go h.lines h.course;
}

-- and goes on
pub line_grows : (g : Pairing) (outputs text line rest new : List ℕ) (r : LineReader) (s : Stepper) → IsUnderWay g outputs text line r s → IsFree 10 rest → new ≡ line ++ rest → IsUnderWay g outputs (text ++ rest) new r s
line_grows g outputs text line rest new r s h free e = record {
  lines = h.lines;
  text_is = ap (λ l. l ++ rest) h.text_is ∙ append_assoc (lines_text h.lines) line rest ∙ ap (λ l. lines_text h.lines ++ l) (sym e);
  lines_free = h.lines_free;
  line_free = subst (IsFree 10) (sym e) (free_joined line rest h.line_free free);
  course = h.course;
}

uncapped : (n : ℕ) → max_depth < capped n → max_depth < n
uncapped n h = omega (arith, h)

broken_deep : {ls : List (List ℕ)} {count depth : ℕ} → (rest : List ℕ) → IsBroken ls count depth → max_depth < depth → IsTooDeep (lines_text ls ++ rest)
broken_deep rest (format line more none) deep = absurd (omega (arith, deep))
broken_deep rest (item shapes xs p line more begin none) deep = record {
  shapes = shapes;
  items = xs;
  place = p;
  rest = lines_text (line ∷ more) ++ rest;
  begin = begin;
  text_is = ap (λ l. l ++ rest) (lines_append (lines_in shapes xs) (line ∷ more)) ∙ append_assoc (lines_text (lines_in shapes xs)) (lines_text (line ∷ more)) rest;
  deep = uncapped (deepest shapes xs) deep;
}

-- a course that is too deep
pub course_deep : (g : Pairing) (outputs text line : List ℕ) (r : LineReader) (s : Stepper) → IsUnderWay g outputs text line r s → max_depth < r.deepest → IsTooDeep text
course_deep g outputs text line r s h deep = subst IsTooDeep (sym h.text_is) (by r.reading h.course)
  where
    by : (k : Reading) → IsCourseBy g outputs h.lines k r.outline r.lines r.deepest (state_of s) → IsTooDeep (lines_text h.lines ++ line)
    by Unopened c = let d = c.0.2 in absurd (omega (arith, deep, d))
    by Within c = record {
      shapes = c.within.shapes;
      items = c.within.items;
      place = r.outline;
      rest = line;
      begin = c.within.begin;
      text_is = ap (λ l. lines_text l ++ line) c.within.lines_are;
      deep = uncapped (deepest c.within.shapes c.within.items) (let d = c.within.depth_is in subst (λ n. max_depth < n) d deep);
    }
    by Faulty c = broken_deep line c deep

pub deeper_on : (text more : List ℕ) → IsTooDeep text → IsTooDeep (text ++ more)
deeper_on text more h = record {
  shapes = h.shapes;
  items = h.items;
  place = h.place;
  rest = h.rest ++ more;
  begin = h.begin;
  text_is = ap (λ l. l ++ more) h.text_is ∙ append_assoc (text_of h.shapes h.items) h.rest more;
  deep = h.deep;
}

-- a piece whose first part was taken
pub record IsTaken (g : Pairing) (outputs line : List ℕ) (r : LineReader) (s : Stepper) (piece rest line' : List ℕ) (r' : LineReader) (s' : Stepper) : Type 0 where
  pub front : List ℕ
  pub piece_is : piece ≡ front ++ rest
  pub goes : (text : List ℕ) → IsUnderWay g outputs text line r s → IsUnderWay g outputs (text ++ front) line' r' s'
  pub same : SamePair s s'

pub none_taken : (g : Pairing) (outputs line : List ℕ) (r : LineReader) (s : Stepper) (piece : List ℕ) → IsTaken g outputs line r s piece piece line r s
none_taken g outputs line r s piece = record {
  front = [];
  piece_is = refl;
  goes = λ text h. subst (λ t. IsUnderWay g outputs t line r s) (sym (append-nil text)) h;
  same = record { programs = refl; outputs = refl };
}

pub line_taken : (line : List ℕ) (r : LineReader) (s : Stepper) (piece rest line' : List ℕ) (r' : LineReader) (s' : Stepper) (head behind line'' : List ℕ) (r'' : LineReader) (s'' : Stepper)
    → IsTaken (pairing s.programs) s.outputs.now line r s piece rest line' r' s' → IsFree 10 head × (rest ≡ head ++ 10 ∷ behind)
    → ((ls : List (List ℕ)) → IsCourse (pairing s'.programs) s'.outputs.now ls r' s' → IsCourse (pairing s'.programs) s'.outputs.now (ls ++ (line' ++ head) ∷ []) r'' s'') → line'' ≡ [] → SamePair s' s''
    → IsTaken (pairing s.programs) s.outputs.now line r s piece behind line'' r'' s''
line_taken line r s piece rest line' r' s' head behind line'' r'' s'' h cut go empty same = record {
  front = h.front ++ ended head;
  piece_is = h.piece_is ∙ ap (λ l. h.front ++ l) (cut.1 ∙ sym (append_assoc head (10 ∷ []) behind)) ∙ sym (append_assoc h.front (ended head) behind);
  goes = λ text u.
      subst (λ l. IsUnderWay (pairing s.programs) s.outputs.now (text ++ (h.front ++ ended head)) l r'' s'') (sym empty)
      (subst (λ t. IsUnderWay (pairing s.programs) s.outputs.now t [] r'' s'') (append_assoc text h.front (ended head))
      (line_ends (pairing s.programs) s.outputs.now (text ++ h.front) line' head r' r'' s' s'' (h.goes text u) cut.0 step));
  same = record { programs = same.programs ∙ h.same.programs; outputs = same.outputs ∙ h.same.outputs };
}
  where
    step : (ls : List (List ℕ)) → IsCourse (pairing s.programs) s.outputs.now ls r' s' → IsCourse (pairing s.programs) s.outputs.now (ls ++ (line' ++ head) ∷ []) r'' s''
    step ls c =
        subst (λ p. IsCourse (pairing p) s.outputs.now (ls ++ (line' ++ head) ∷ []) r'' s'') h.same.programs
        (subst (λ o. IsCourse (pairing s'.programs) o.now (ls ++ (line' ++ head) ∷ []) r'' s'') h.same.outputs
        (go ls (subst (λ o. IsCourse (pairing s'.programs) o.now ls r' s') (sym h.same.outputs) (subst (λ p. IsCourse (pairing p) s.outputs.now ls r' s') (sym h.same.programs) c))))

pub all_taken : (g : Pairing) (outputs line : List ℕ) (r : LineReader) (s : Stepper) (piece rest line' : List ℕ) (r' : LineReader) (s' : Stepper) (line'' : List ℕ) → IsTaken g outputs line r s piece rest line' r' s' → IsFree 10 rest → line'' ≡ line' ++ rest
    → GoesOn g outputs line r s piece line'' r' s'
all_taken g outputs line r s piece rest line' r' s' line'' h free e text u =
    inr (subst (λ t. IsUnderWay g outputs t line'' r' s') (append_assoc text h.front rest ∙ ap (λ l. text ++ l) (sym h.piece_is)) (line_grows g outputs (text ++ h.front) line' rest line'' r' s' (h.goes text u) free e))

pub deep_taken : (g : Pairing) (outputs line : List ℕ) (r : LineReader) (s : Stepper) (piece rest line' : List ℕ) (r' : LineReader) (s' : Stepper) → IsTaken g outputs line r s piece rest line' r' s' → max_depth < r'.deepest
    → GoesOn g outputs line r s piece line' r' s'
deep_taken g outputs line r s piece rest line' r' s' h deep text u =
    inl (deep, subst IsTooDeep (append_assoc text h.front rest ∙ ap (λ l. text ++ l) (sym h.piece_is)) (deeper_on (text ++ h.front) rest (course_deep g outputs (text ++ h.front) line' r' s' (h.goes text u) deep)))
