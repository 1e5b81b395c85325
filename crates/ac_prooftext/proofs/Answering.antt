-- The answer on a stream.
use Rattle.std.proofs.Common.{◌≡◌, ◌<◌, ◌≤◌, ◌+◌, ◌⊎◌, inl, inr, ⊎_elim, ◌++◌, ◌∷◌, [], ℕ, min, List, length, Option, None, Some, Result, Ok, Err, Vec, refl, sym, ap, subst, ◌∙◌, arith, length-append, ◌-◌, ◌^◌}
use Rattle.std.specs.Global.{Global}
use Rattle.std.specs.List.{AllByRecursion}
use Rattle.std.proofs.lemmas.List.{append-nil}
use Rattle.ac_cert.specs.declared.types.Rule.{Rule}
use Rattle.ac_cert.specs.declared.types.Rule.TheVariants as rule
use Rattle.ac_claims_paths.specs.ModelCalls.{pairing}
use Rattle.ac_claims_paths.specs.PathSteps.{Pairing}
use Rattle.ac_claims.specs.CheckState.{state_of, SamePair}
use Rattle.ac_claims.specs.Steppers.{State, beginning, answer_of}
use Rattle.ac_claims.specs.declared.stepper.Stepper.{Stepper}
use Rattle.ac_prooftext.specs.declared.stages.Stage.TheVariants as stage
use Rattle.ac_prooftext.specs.ProofTexts.{lines_text, deepest, capped, IsSpelling, IsNesting}
use Rattle.ac_prooftext.specs.LinePrefixes.{IsWithin}
use Rattle.ac_prooftext.specs.StreamChecks.{max_bytes, max_depth, IsTooDeep, IsJudged, IsTextRefused, IsAnswer, behind}
use Rattle.ac_prooftext.specs.CheckProgress.{Checked, IsCourseBy, IsCourse, IsUnderWay, IsFed, GoesOn, HasVerdict}
use Rattle.ac_prooftext.specs.declared.checker.Checker.{Checker}
use Rattle.ac_prooftext.specs.declared.lines.LineReader.{LineReader}
use Rattle.ac_prooftext.specs.declared.lines.Reading.TheVariants.{Within}
use Rattle.ac_prooftext.specs.declared.types.CheckFault.{CheckFault}
use Rattle.ac_prooftext.specs.declared.types.CheckFault.TheVariants.{TooLong, TooDeep, Refused, Memory}
use Rattle.ac_prooftext.proofs.Coursing.{took}
use Rattle.ac_prooftext.proofs.Judging.{incomplete}
use Rattle.ac_prooftext.proofs.Streams.{course_deep, deeper_on}

more_bytes : (count : ℕ) (text piece : List ℕ) → count ≡ capped (length text) → min (count + length piece) (2 ^ 64 - 1) ≡ capped (length (text ++ piece))
more_bytes count text piece e = let l = length-append text piece in omega (arith, e, l)

over : (n count : ℕ) → count ≡ capped n → max_bytes < count → max_bytes < n
over n count e h = omega (arith, e, h)

not_over : (n count : ℕ) → count ≡ capped n → count ≤ max_bytes → n ≤ max_bytes
not_over n count e h = omega (arith, e, h)

longer : (text piece : List ℕ) → max_bytes < length text → max_bytes < length (text ++ piece)
longer text piece h = let l = length-append text piece in omega (arith, h, l)

-- a piece that is only counted
pub counted_on : (g : Pairing) (outputs text piece : List ℕ) (c d : Checker) → IsFed g outputs text c → d.bytes ≡ min (c.bytes + length piece) (2 ^ 64 - 1) → d.stepper ≡ c.stepper → d.reader ≡ c.reader
    → (max_bytes < d.bytes) ⊎ (max_depth < d.reader.deepest) → IsFed g outputs (text ++ piece) d
counted_on g outputs text piece c d h bytes stepper reader over_it = record {
  bytes = count;
  pairing_is = ap (λ (s : Stepper). pairing s.programs) stepper ∙ h.pairing_is;
  outputs_are = ap (λ (s : Stepper). s.outputs.now) stepper ∙ h.outputs_are;
  known = ⊎_elim (λ b. inl (over (length (text ++ piece)) d.bytes count b)) (λ deep. ⊎_elim (λ l. inl (longer text piece l))
      (λ k. inr (inl (deep, deeper_on text piece (⊎_elim (λ t. t.1) (λ u. course_deep g outputs text c.line.items c.reader c.stepper u (subst (λ (r : LineReader). max_depth < r.deepest) reader deep)) k)))) h.known) over_it;
}
  where
    count : d.bytes ≡ capped (length (text ++ piece))
    count = bytes ∙ more_bytes c.bytes text piece h.bytes

-- a piece that is taken
pub taken_on : (g : Pairing) (outputs text piece : List ℕ) (c d : Checker) → IsFed g outputs text c → d.bytes ≡ min (c.bytes + length piece) (2 ^ 64 - 1) → ¬ ((max_bytes < d.bytes) ⊎ (max_depth < c.reader.deepest))
    → SamePair c.stepper d.stepper → GoesOn (pairing c.stepper.programs) c.stepper.outputs.now c.line.items c.reader c.stepper piece d.line.items d.reader d.stepper → IsFed g outputs (text ++ piece) d
taken_on g outputs text piece c d h bytes under same go = record {
  bytes = count;
  pairing_is = ap pairing same.programs ∙ h.pairing_is;
  outputs_are = ap (λ o. o.now) same.outputs ∙ h.outputs_are;
  known = ⊎_elim (λ l. absurd (under (inl (let m = longer text piece l in omega (arith, count, m))))) (λ k. inr (⊎_elim (λ t. absurd (under (inr t.0))) (λ u. moved text u) k)) h.known;
}
  where
    count : d.bytes ≡ capped (length (text ++ piece))
    count = bytes ∙ more_bytes c.bytes text piece h.bytes

    moved : GoesOn g outputs c.line.items c.reader c.stepper piece d.line.items d.reader d.stepper
    moved = subst (λ p. GoesOn p outputs c.line.items c.reader c.stepper piece d.line.items d.reader d.stepper) h.pairing_is
        (subst (λ o. GoesOn (pairing c.stepper.programs) o c.line.items c.reader c.stepper piece d.line.items d.reader d.stepper) h.outputs_are go)

pub too_long : (g : Pairing) (outputs text : List ℕ) (c : Checker) → IsFed g outputs text c → max_bytes < c.bytes → max_bytes < length text
too_long g outputs text c h b = over (length text) c.bytes h.bytes b

pub within_bytes : (g : Pairing) (outputs text : List ℕ) (c : Checker) → IsFed g outputs text c → c.bytes ≤ max_bytes → length text ≤ max_bytes
within_bytes g outputs text c h b = not_over (length text) c.bytes h.bytes b

pub too_deep : (g : Pairing) (outputs text : List ℕ) (c : Checker) → IsFed g outputs text c → c.bytes ≤ max_bytes → max_depth < c.reader.deepest → (length text ≤ max_bytes) × IsTooDeep text
too_deep g outputs text c h b deep =
    let short = within_bytes g outputs text c h b in
    (short, ⊎_elim (λ l. absurd (omega (arith, short, l))) (λ k. ⊎_elim (λ t. t.1) (λ u. course_deep g outputs text c.line.items c.reader c.stepper u deep) k) h.known)

-- the lines of the stream, where it is neither too long nor too deep
under_way : (g : Pairing) (outputs text : List ℕ) (c : Checker) → IsFed g outputs text c → c.bytes ≤ max_bytes → c.reader.deepest ≤ max_depth → IsUnderWay g outputs text c.line.items c.reader c.stepper
under_way g outputs text c h b shallow =
    let short = within_bytes g outputs text c h b in
    ⊎_elim (λ l. absurd (omega (arith, short, l))) (λ k. ⊎_elim (λ t. absurd (let d = t.0 in omega (arith, d, shallow))) (λ u. u) k) h.known

refused_at : (text : List ℕ) (deep line : ℕ) → IsNesting text deep (Some line) → deep ≤ max_depth → IsTextRefused text line
refused_at text deep line n shallow = record {
  first = n.0;
  depth = n.1;
  fault = n.2.0;
  shallow = let d = n.2.2 in omega (arith, d, shallow);
  line_is = n.2.1;
}

pub text_refused : (g : Pairing) (outputs text : List ℕ) (c : Checker) (line : ℕ) → IsFed g outputs text c → c.bytes ≤ max_bytes → c.reader.deepest ≤ max_depth
    → ¬ ((c.reader.reading ≡ Within) × (c.reader.outline.stage ≡ stage.Done) × (c.line.items ≡ [])) → line ≡ capped (c.reader.lines + 1) → IsAnswer g outputs text (Err (Refused line rule.Text))
text_refused g outputs text c line h b shallow cut_short e =
    let u = under_way g outputs text c h b shallow in
    let n : IsNesting text c.reader.deepest (Some line) =
    subst (λ t. IsNesting t c.reader.deepest (Some line)) (sym u.text_is)
    (subst (λ k. IsNesting (lines_text u.lines ++ c.line.items) c.reader.deepest (Some k)) (sym e)
    (incomplete c.reader c.line.items u.line_free cut_short u.lines (took g outputs u.lines c.reader c.stepper u.course) u.lines_free)) in
    (within_bytes g outputs text c h b, inl (refl, refused_at text c.reader.deepest line n shallow))

small : (n count : ℕ) → count ≡ capped n → count ≤ max_depth → n ≤ max_depth
small n count e h = omega (arith, e, h)

pub answered : (g : Pairing) (outputs text : List ℕ) (c : Checker) (result : Result (Vec ℕ Global) CheckFault) → IsFed g outputs text c → c.bytes ≤ max_bytes → c.reader.deepest ≤ max_depth
    → (c.reader.reading ≡ Within) × (c.reader.outline.stage ≡ stage.Done) × (c.line.items ≡ []) → HasVerdict (state_of c.stepper) result → IsAnswer g outputs text result
answered g outputs text c result h b shallow done verdict = by result (subst (λ s. HasVerdict s result) course.state_is verdict)
  where
    u : IsUnderWay g outputs text c.line.items c.reader c.stepper
    u = under_way g outputs text c h b shallow

    course : Checked g outputs u.lines c.reader.outline c.reader.lines c.reader.deepest (state_of c.stepper)
    course = subst (λ k. IsCourseBy g outputs u.lines k c.reader.outline c.reader.lines c.reader.deepest (state_of c.stepper)) done.0 u.course

    w : IsWithin u.lines c.reader.outline c.reader.lines c.reader.deepest
    w = course.within

    spelling : IsSpelling text (deepest w.shapes w.items)
    spelling = record {
      shapes = w.shapes;
      items = w.items;
      place = c.reader.outline;
      begin = w.begin;
      complete = done.1;
      text_is = u.text_is ∙ (ap (λ t. lines_text u.lines ++ t) done.2 ∙ (append-nil (lines_text u.lines) ∙ ap lines_text w.lines_are));
      depth_is = refl;
    }

    judged : (answer : Result (List ℕ) (ℕ × Rule)) → answer_of (behind g outputs w.items).came ≡ answer → IsJudged g outputs text answer
    judged answer e = record { depth = deepest w.shapes w.items; spelling = spelling; shallow = small (deepest w.shapes w.items) c.reader.deepest w.depth_is shallow; answer_is = e }

    by : (r : Result (Vec ℕ Global) CheckFault) → HasVerdict (Some (behind g outputs w.items)) r → IsAnswer g outputs text r
    by (Ok v) e = (within_bytes g outputs text c h b, judged (Ok v.items) e)
    by (Err TooLong) e = absurd e
    by (Err TooDeep) e = absurd e
    by (Err (Refused line r)) e = (within_bytes g outputs text c h b, inr (judged (Err (line, r)) e))
    by (Err (Memory want)) e = tt

pub fed_nothing : (g : Pairing) (outputs : List ℕ) (c : Checker) → c.bytes ≡ 0 → pairing c.stepper.programs ≡ g → c.stepper.outputs.now ≡ outputs → c.line.items ≡ [] → IsCourse g outputs [] c.reader c.stepper → IsFed g outputs [] c
fed_nothing g outputs c b p o l course = record {
  bytes = b;
  pairing_is = p;
  outputs_are = o;
  known = inr (inr (record { lines = []; text_is = sym l; lines_free = tt; line_free = subst (Rattle.ac_prooftext_lines.specs.LineWords.IsFree 10) (sym l) tt; course = course }));
}
