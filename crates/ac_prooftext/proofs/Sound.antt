-- What the check of the lines of a spelling accepts is the same.
use Rattle.std.proofs.Common.{◌≡◌, ℕ, ◌+◌, ◌<◌, ◌≤◌, ◌^◌, List, [], ◌∷◌, ◌++◌, map, length, length-append, Bool, Option, Some, None, Result, Ok, Err, refl, sym, ap, ◌∙◌, subst, arith}
use Rattle.std.specs.List.{AllByRecursion}
use Rattle.std.proofs.lemmas.List.{length-map}
use Rattle.std.specs.Prelude.{Vec}
use Rattle.std.specs.declared.alloc.Global.{Global}
use Rattle.ac_syntax.specs.Outputs.{SameOutput}
use Rattle.ac_syntax.specs.declared.tree.Pair.{Pair}
use Rattle.ac_poly.specs.declared.types.Model.{Model}
use Rattle.ac_cert.specs.CertificateFaults.{Fault}
use Rattle.ac_cert.specs.declared.types.Rule.{Rule}
use Rattle.ac_claims.specs.ProofFaults.{proof_fault}
use Rattle.ac_claims.specs.Soundness.{ArePaired, AreModels, pairing_of}
use Rattle.ac_claims.specs.Steppers.{after_all, beginning, answer_of, verdict, verdict_by}
use Rattle.ac_claims.specs.declared.item.Item.{Item}
use Rattle.ac_claims.specs.declared.types.Proof.{Proof}
use Rattle.ac_claims.proofs.Driving.{lines_drive_the_proof}
use Rattle.ac_claims.proofs.Headline.{valid_proofs_name_same_outputs}
use Rattle.ac_prooftext.specs.LineOrder.{Place}
use Rattle.ac_prooftext.specs.StreamChecks.{IsAnswer}
use Rattle.ac_prooftext.specs.ProofTexts.{Begin, ended, format_line, lines_text, lines_in, text_of}
use Rattle.ac_prooftext_lines.specs.Spelling.{spelled}
use Rattle.ac_prooftext.specs.declared.stages.Stage.TheVariants as stage
use Rattle.ac_prooftext.specs.CheckSoundness.{NamedOutputsAreSame, AcceptedOutputsAreSame}
use Rattle.ac_prooftext.proofs.Rebuilding.{read_proof, ProofRead}

each_same : (pair : Pair) (os : List (ℕ × ℕ)) → AllByRecursion (λ (o : ℕ × ℕ). SameOutput pair o.0) os → AllByRecursion (SameOutput pair) (map (λ o. o.0) os)
each_same pair [] h = tt
each_same pair (o ∷ os) h = (h.0, each_same pair os h.1)

-- a verdict that names outputs is that on a proof without fault
named : (f : Fault) (os outputs : List ℕ) → verdict_by f os ≡ Ok outputs → (f ≡ None) × (os ≡ outputs)
named None os outputs e = (refl, let q : os ≡ outputs = cc in q)
named (Some f) os outputs e = absurd cc

-- (a place to allocate at is asked for since the proof that has the lines is a value of the program)
pub named_outputs_are_same : Global → NamedOutputsAreSame
named_outputs_are_same a pair left right shapes xs p outputs paired models begin finished small answer =
    let g = pairing_of pair left right in
    let r = read_proof a p finished (length xs) small shapes xs (omega arith) begin.0 begin.1 in
    let driven : answer_of (after_all g pair.outputs xs beginning).came ≡ verdict g pair.outputs r.proof =
    ap (λ (z : List Item). answer_of (after_all g pair.outputs z beginning).came) (sym r.lines_are) ∙ lines_drive_the_proof g pair.outputs r.proof r.spelled in
    let n = named (proof_fault g pair.outputs r.proof) (map (λ o. o.0) r.proof.outputs) outputs (sym driven ∙ answer) in
    subst (AllByRecursion (SameOutput pair)) n.1 (each_same pair r.proof.outputs (valid_proofs_name_same_outputs pair left right r.proof paired models r.moduli n.0))

-- each line has a byte at least
pub lines_long : (ls : List (List ℕ)) → length ls ≤ length (lines_text ls)
lines_long [] = omega arith
lines_long (l ∷ ls) =
    let rest = lines_long ls in
    let whole : length (ended l ++ lines_text ls) ≡ length (ended l) + length (lines_text ls) = length-append (ended l) (lines_text ls) in
    let line : length (ended l) ≡ length l + 1 = length-append l (10 ∷ []) in
    omega (arith, rest, whole, line)

items_few : (shapes : Bool) (xs : List Item) (text : List ℕ) → text ≡ text_of shapes xs → length text ≤ 67108864 → length xs < 2 ^ 63
items_few shapes xs text is short =
    let long = lines_long (lines_in shapes xs) in
    let same : length (map spelled xs) ≡ length xs = length-map xs spelled in
    let sizes : length text ≡ length (text_of shapes xs) = ap length is in
    omega (arith, long, same, sizes, short)

pub accepted_outputs_are_same : Global → AcceptedOutputsAreSame
accepted_outputs_are_same a pair left right text outputs paired models h =
    let s = h.1.spelling in
    named_outputs_are_same a pair left right s.shapes s.items s.place outputs.items paired models s.begin s.complete (items_few s.shapes s.items text s.text_is h.0) h.1.answer_is
