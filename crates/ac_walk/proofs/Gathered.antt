-- Verdicts and their proof, output by output.
use Rattle.std.proofs.Common.{◌≡◌, ℕ, ◌+◌, ℤ, List, [], ◌∷◌, ◌++◌, map, take, length, Option, Some, refl, sym, ap, subst, ◌∙◌, append_assoc, append-nil}
use Rattle.std.specs.Prelude.{slice_get}
use Rattle.std.specs.List.{AllByRecursion}
use Rattle.std.proofs.lemmas.List.{take_more}
use Rattle.std.proofs.lemmas.Option.{slice_get_within, get_or_from_slice_get}
use Rattle.std.proofs.Math.Seq.{take-length}
use Rattle.ac_forms.specs.Rows.{HaveModuli}
use Rattle.ac_syntax.specs.declared.tree.Pair.{Pair}
use Rattle.ac_base.proofs.Options.{some-is}
use Rattle.ac_claims.specs.ProofMachine.{AreSpelledTrees}
use Rattle.ac_claims.specs.declared.types.Claim.{Claim}
use Rattle.ac_claims.specs.declared.types.Heads.{Heads}
use Rattle.ac_claims.specs.declared.types.Proof.{Proof}
use Rattle.ac_flow.specs.declared.types.FlowStop.{FlowStop}
use Rattle.ac_flow.specs.declared.types.FlowStop.TheVariants as flow
use Rattle.ac_walk_state.specs.ProofParts.{IsEmpty}
use Rattle.ac_report.specs.declared.types.Cause.{Cause}
use Rattle.ac_report.specs.declared.types.Verdict.{Verdict}
use Rattle.ac_report.specs.declared.types.Verdict.TheVariants.{Equal, Different, Unknown}
use Rattle.ac_walk.specs.TriedValuations.{AreSamples, AreTried, IsLeft, IsTried, IsTriedIf, NumberShowsNone, ShowNone, ShowsNoDifference, valuations_of}
use Rattle.ac_walk.specs.UnknownCauses.{AreSearched, AreUnknown, EndsSearch, IsSearched, IsUnknownFor, cause_of}
use Rattle.ac_walk.specs.Verdicts.{OnEach, IsCause, IsDifferentAt, IsVerdict, AreVerdicts, IsMatchedIf, AreMatched, if_equal, equal_outputs, named}
use Rattle.ac_walk.specs.VerdictCollection.{IsHeld, IsSaidOf, IsProvedOf, IsSearchedOf, IsValid}
use Rattle.ac_walk.specs.declared.verdict_types.Proved.{Proved}
use Rattle.ac_walk.proofs.Lists.{all_snoc}
use Rattle.ac_walk.proofs.Trying.{all_among, holds_too}

-- ---- one output

-- where an output is left unknown by samples and derivations that show no difference, it is tried
tried_so : (budget : ℕ) (pair : Pair) (samples : List (List ℤ)) (number output : ℕ) (cause : Cause) → slice_get pair.outputs number ≡ Some output → AreSamples budget pair samples → ShowNone pair samples number cause → IsTried budget pair output cause
tried_so budget pair samples number output cause at are show = record {
  samples = λ v is. all_among (NumberShowsNone pair number) samples v (are v is) show.samples_show output at;
  listed = holds_too (NumberShowsNone pair number) (ShowsNoDifference pair output) 16 (valuations_of (length pair.left.params) cause) (λ v none. none output at) show.listed_show;
}

-- a proof that stays as it is
pub different_said : (budget : ℕ) (pair : Pair) (output : ℕ) (proof : Proof) (at element : List ℤ) → IsDifferentAt pair output at element → IsValid pair proof → IsSaidOf budget pair output proof (Different at element, proof)
different_said budget pair output proof at element d h = record { verdict = d; matched = tt; searched = tt; tried = tt; named_then = sym (append-nil (named proof)); valid = h }

pub left_said : (budget : ℕ) (pair : Pair) (samples : List (List ℤ)) (number output : ℕ) (proof : Proof) (cause : Cause) (v : Verdict) → slice_get pair.outputs number ≡ Some output → AreSamples budget pair samples → IsCause pair output cause → EndsSearch budget pair output cause → IsValid pair proof
    → IsLeft pair samples number cause v → IsSaidOf budget pair output proof (v, proof)
left_said budget pair samples number output proof cause Equal at are c e h l = absurd l
left_said budget pair samples number output proof cause (Different params element) at are c e h l = different_said budget pair output proof params element (l output at) h
left_said budget pair samples number output proof cause (Unknown why) at are c e h l = record {
  verdict = subst (IsCause pair output) (sym l.0) c;
  matched = tt;
  searched = subst (EndsSearch budget pair output) (sym l.0) e;
  tried = subst (IsTried budget pair output) (sym l.0) (tried_so budget pair samples number output cause at are l.1);
  named_then = sym (append-nil (named proof));
  valid = h;
}

-- ---- one more

more_on : (P : ℕ → Verdict → Type 0) (os : List ℕ) (o : ℕ) (vs : List Verdict) (v : Verdict) → OnEach P os vs → P o v → OnEach P (os ++ o ∷ []) (vs ++ v ∷ [])
more_on P [] o [] v h k = (k, tt)
more_on P [] o (w ∷ vs) v h k = absurd h
more_on P (p ∷ os) o [] v h k = absurd h
more_on P (p ∷ os) o (w ∷ vs) v h k = (h.0, more_on P os o vs v h.1 k)

more_equal : (pair : Pair) (os : List ℕ) (o : ℕ) (vs : List Verdict) (v : Verdict) → AreVerdicts pair os vs → equal_outputs (os ++ o ∷ []) (vs ++ v ∷ []) ≡ equal_outputs os vs ++ if_equal o v
more_equal pair [] o [] v h = append-nil (if_equal o v)
more_equal pair [] o (w ∷ vs) v h = absurd h
more_equal pair (p ∷ os) o [] v h = absurd h
more_equal pair (p ∷ os) o (w ∷ vs) v h = ap (λ z. if_equal p w ++ z) (more_equal pair os o vs v h.1) ∙ sym (append_assoc (if_equal p w) (equal_outputs os vs) (if_equal o v))

take_next : (xs : List ℕ) (n x : ℕ) → slice_get xs n ≡ Some x → take (n + 1) xs ≡ take n xs ++ x ∷ []
take_next xs n x e = take_more xs n x (slice_get_within xs n x e) ∙ ap (λ z. take n xs ++ z ∷ []) (get_or_from_slice_get xs n x x e)

-- the verdict on one more output
pub one_more : (budget : ℕ) (pair : Pair) (number array : ℕ) (before after : Proved) (said : Verdict × Proof) → slice_get pair.outputs number ≡ Some array → IsSearchedOf budget pair (take number pair.outputs) before → IsSaidOf budget pair array before.proof said
    → after.verdicts ≡ before.verdicts ++ said.0 ∷ [] → after.proof ≡ said.1 → IsSearchedOf budget pair (take (number + 1) pair.outputs) after
one_more budget pair number array before after said at p s vs proof =
    let os = take number pair.outputs in
    let next : take (number + 1) pair.outputs ≡ os ++ array ∷ [] = take_next pair.outputs number array at in
    let grown : IsSearchedOf budget pair (os ++ array ∷ []) after = record {
      verdicts = subst (AreVerdicts pair (os ++ array ∷ [])) (sym vs) (more_on (IsVerdict pair) os array before.verdicts said.0 p.verdicts s.verdict);
      matched = subst (AreMatched pair (os ++ array ∷ [])) (sym vs) (more_on (IsMatchedIf pair) os array before.verdicts said.0 p.matched s.matched);
      searched = subst (AreSearched budget pair (os ++ array ∷ [])) (sym vs) (more_on (IsSearched budget pair) os array before.verdicts said.0 p.searched s.searched);
      tried = subst (AreTried budget pair (os ++ array ∷ [])) (sym vs) (more_on (IsTriedIf budget pair) os array before.verdicts said.0 p.tried s.tried);
      equal = ap named proof ∙ s.named_then ∙ ap (λ z. z ++ if_equal array said.0) p.equal ∙ sym (more_equal pair os array before.verdicts said.0 p.verdicts) ∙ ap (equal_outputs (os ++ array ∷ [])) (sym vs);
      valid = subst (IsValid pair) (sym proof) s.valid;
    } in
    subst (λ z. IsSearchedOf budget pair z after) (sym next) grown

-- all outputs
pub all_searched : (budget : ℕ) (pair : Pair) (number : ℕ) (proved : Proved) → number ≡ length pair.outputs → IsSearchedOf budget pair (take number pair.outputs) proved → IsSearchedOf budget pair pair.outputs proved
all_searched budget pair number proved e p = subst (λ z. IsSearchedOf budget pair z proved) (ap (λ n. take n pair.outputs) e ∙ take-length pair.outputs) p

pub searched_proved : (budget : ℕ) (pair : Pair) (outputs : List ℕ) (proved : Proved) → IsSearchedOf budget pair outputs proved → IsProvedOf pair outputs proved
searched_proved budget pair outputs proved p = record { verdicts = p.verdicts; matched = p.matched; equal = p.equal; held = record { spelled = p.valid.spelled; claims = p.valid.moduli } }

-- ---- no search

-- a proof that names no output
none_named : (proof : Proof) (point : List ℤ) (heads : Option Heads) → IsEmpty point heads proof → named proof ≡ []
none_named proof point heads e = ap (map (λ (o : ℕ × ℕ). o.0)) e.outputs

pub none_searched : (budget : ℕ) (pair : Pair) (proved : Proved) (point : List ℤ) (heads : Option Heads) → proved.verdicts ≡ [] → IsEmpty point heads proved.proof → IsValid pair proved.proof → IsSearchedOf budget pair [] proved
none_searched budget pair proved point heads vs e h = record {
  verdicts = subst (AreVerdicts pair []) (sym vs) tt;
  matched = subst (AreMatched pair []) (sym vs) tt;
  searched = subst (AreSearched budget pair []) (sym vs) tt;
  tried = subst (AreTried budget pair []) (sym vs) tt;
  equal = none_named proved.proof point heads e;
  valid = h;
}

none_held : (proof : Proof) (point : List ℤ) (heads : Option Heads) → IsEmpty point heads proof → IsHeld proof
none_held proof point heads e = record {
  spelled = subst AreSpelledTrees (sym e.trees) tt;
  claims = subst (AllByRecursion (λ (c : Claim). HaveModuli c.rows)) (sym e.claims) tt;
}

-- the cause of a stop
cause_said : (pair : Pair) (output : ℕ) (stop : FlowStop) (cause : Cause) → cause_of stop ≡ Some cause → IsCause pair output cause
cause_said pair output (flow.Overflow question) cause e = subst (IsCause pair output) (some-is _ cause e) tt
cause_said pair output (flow.Spent question cost) cause e = subst (IsCause pair output) (some-is _ cause e) tt
cause_said pair output (flow.Pieces position kept) cause e = subst (IsCause pair output) (some-is _ cause e) tt
cause_said pair output (flow.Memory want) cause e = absurd cc

-- the verdicts on outputs that are left unknown for it
pub record AreLeft (pair : Pair) (samples : List (List ℤ)) (stop : FlowStop) (os : List ℕ) (vs : List Verdict) : Type 0 where
  pub verdicts : AreVerdicts pair os vs
  pub matched : AreMatched pair os vs
  pub equal : equal_outputs os vs ≡ []
  pub causes : AreUnknown (cause_of stop) vs
  pub tried : (budget : ℕ) → AreSamples budget pair samples → AreTried budget pair os vs

pub none_left : (pair : Pair) (samples : List (List ℤ)) (stop : FlowStop) → AreLeft pair samples stop [] []
none_left pair samples stop = record { verdicts = tt; matched = tt; equal = refl; causes = tt; tried = λ budget are. tt }

-- one verdict more
record IsOneLeft (pair : Pair) (samples : List (List ℤ)) (stop : FlowStop) (output : ℕ) (v : Verdict) : Type 0 where
  pub verdict : IsVerdict pair output v
  pub matched : IsMatchedIf pair output v
  pub equal : if_equal output v ≡ []
  pub cause : IsUnknownFor (cause_of stop) v
  pub tried : (budget : ℕ) → AreSamples budget pair samples → IsTriedIf budget pair output v

one_left : (pair : Pair) (samples : List (List ℤ)) (stop : FlowStop) (number output : ℕ) (cause : Cause) (v : Verdict) → slice_get pair.outputs number ≡ Some output → cause_of stop ≡ Some cause → IsLeft pair samples number cause v → IsOneLeft pair samples stop output v
one_left pair samples stop number output cause Equal at is l = absurd l
one_left pair samples stop number output cause (Different params element) at is l = record { verdict = l output at; matched = tt; equal = refl; cause = tt; tried = λ budget are. tt }
one_left pair samples stop number output cause (Unknown why) at is l = record {
  verdict = subst (IsCause pair output) (sym l.0) (cause_said pair output stop cause is);
  matched = tt;
  equal = refl;
  cause = is ∙ ap Some (sym l.0);
  tried = λ budget are. subst (IsTried budget pair output) (sym l.0) (tried_so budget pair samples number output cause at are l.1);
}

pub left_more : (pair : Pair) (samples : List (List ℤ)) (stop : FlowStop) (number output : ℕ) (cause : Cause) (vs after : List Verdict) (v : Verdict) → slice_get pair.outputs number ≡ Some output → cause_of stop ≡ Some cause → AreLeft pair samples stop (take number pair.outputs) vs
    → IsLeft pair samples number cause v → after ≡ vs ++ v ∷ [] → AreLeft pair samples stop (take (number + 1) pair.outputs) after
left_more pair samples stop number output cause vs after v at is h l e =
    let os = take number pair.outputs in
    let one = one_left pair samples stop number output cause v at is l in
    let next : take (number + 1) pair.outputs ≡ os ++ output ∷ [] = take_next pair.outputs number output at in
    let grown : AreLeft pair samples stop (os ++ output ∷ []) (vs ++ v ∷ []) = record {
      verdicts = more_on (IsVerdict pair) os output vs v h.verdicts one.verdict;
      matched = more_on (IsMatchedIf pair) os output vs v h.matched one.matched;
      equal = more_equal pair os output vs v h.verdicts ∙ ap (λ z. z ++ if_equal output v) h.equal ∙ one.equal;
      causes = all_snoc (IsUnknownFor (cause_of stop)) vs v h.causes one.cause;
      tried = λ budget are. more_on (IsTriedIf budget pair) os output vs v (h.tried budget are) (one.tried budget are);
    } in
    subst (λ (z : List ℕ). AreLeft pair samples stop z after) (sym next) (subst (AreLeft pair samples stop (os ++ output ∷ [])) (sym e) grown)

pub all_left : (pair : Pair) (samples : List (List ℤ)) (stop : FlowStop) (number : ℕ) (vs : List Verdict) → number ≡ length pair.outputs → AreLeft pair samples stop (take number pair.outputs) vs → AreLeft pair samples stop pair.outputs vs
all_left pair samples stop number vs e h = subst (λ (z : List ℕ). AreLeft pair samples stop z vs) (ap (λ n. take n pair.outputs) e ∙ take-length pair.outputs) h

pub all_unknown : (pair : Pair) (samples : List (List ℤ)) (stop : FlowStop) (proved : Proved) (point : List ℤ) (heads : Option Heads) → AreLeft pair samples stop pair.outputs proved.verdicts → IsEmpty point heads proved.proof → IsProvedOf pair pair.outputs proved
all_unknown pair samples stop proved point heads h none =
    record { verdicts = h.verdicts; matched = h.matched; equal = none_named proved.proof point heads none ∙ sym h.equal; held = none_held proved.proof point heads none }
