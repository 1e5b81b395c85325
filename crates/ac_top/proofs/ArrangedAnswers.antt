-- What the answers on outputs rest on, and what is true where each is equal.
use Rattle.std.proofs.Common.{◌≡◌, ◌≤◌, ◌<◌, ◌+◌, inl, inr, min, ℕ, zero, suc, List, [], ◌∷◌, ◌++◌, length, take, slice_index_or, Bool, true, false, if◌then◌else◌, Option, None, Some, refl, sym, ap, subst, ◌∙◌, below_more, arith}
use Rattle.std.specs.List.{Contains, list_all}
use Rattle.std.specs.Prelude.{◌⊎◌, IsSome, MatchOption, Vec}
use Rattle.std.specs.Global.{Global}
use Rattle.std.proofs.lemmas.List.{append_assoc, append-nil, length-take, take_more}
use Rattle.ac_assoc_law.specs.ArrangedPairs.{PairCanArrange}
use Rattle.ac_assoc_law.specs.ChainSameness.{SameUnderChains}
use Rattle.ac_syntax.specs.declared.tree.Array.{Array}
use Rattle.ac_syntax.specs.declared.tree.Pair.{Pair}
use Rattle.ac_claims.specs.Soundness as judge
use Rattle.ac_flow.specs.Contexts.{ContextStops}
use Rattle.ac_flow.specs.Readers.{StopsAmong, readers}
use Rattle.ac_flow.specs.declared.types.ContextStop.{ContextStop}
use Rattle.ac_flow.specs.declared.types.ContextStop.TheVariants as context_stop
use Rattle.ac_flow.specs.declared.types.FlowStop.{FlowStop}
use Rattle.ac_flow.specs.declared.types.FlowStop.TheVariants as flow_stop
use Rattle.ac_poly.proofs.Whole.{has_context}
use Rattle.ac_report.specs.ReportTexts.{cause_words}
use Rattle.ac_report.specs.declared.types.Cause.{Cause}
use Rattle.ac_report.specs.declared.types.Cause.TheVariants.{Unmatched, OverflowQuestion, OverflowHull, SpentQuestion, SpentPieces, SpentPaths, SpentOrders}
use Rattle.ac_report.specs.declared.types.Verdict.{Verdict}
use Rattle.ac_report.specs.declared.types.Verdict.TheVariants.{Equal, Different, Unknown}
use Rattle.ac_walk.specs.TriedValuations.{IsTriedIf}
use Rattle.ac_walk.specs.UnknownCauses.{HasValuation, IsAnswered, context_stopped, left_stopped, right_stopped, searched, cause_of, context_cause_of, left_model, right_model}
use Rattle.ac_walk.specs.Verdicts.{IsCause, IsMatchedIf, IsVerdict, OnEach}
use Rattle.ac_top.specs.ArrangementLines.{answer_line, answer_lines, is_equal, status_of}
use Rattle.ac_top.specs.ArrangementReports.{AreAnswers, AreSameUnderChains, ArrangedReports, without_valuation, answered, EndsAfterRuns, EndsEarly, IsAnswer, IsApart, differs, unmatched, IsApartBefore, FlowIsStopped, IsUnknown, IsUnknownBefore, IsWithoutValuation, arrangement, arrangements_of, is_early, tried_of}
use Rattle.ac_top.specs.ArrangementStages.{ContextIsStopped, IfStopsFirst, IsFinding, IsFoundEqual, IsSoFar, IsStopped}
use Rattle.ac_top.specs.ConsoleLines.{name_at}
use Rattle.ac_top.specs.FlowReports.{default_budget}
use Rattle.ac_top.specs.Reports.{Report, ProofFile}
use Rattle.ac_top.specs.declared.arrangements.Answer.{Answer}
use Rattle.ac_top.specs.declared.arrangements.Answer.TheVariants as answer
use Rattle.ac_top.specs.declared.arrangements.Early.{Early}
use Rattle.ac_top.specs.declared.findings.Finding.TheVariants as finding
use Rattle.ac_top.specs.declared.status.Status.TheVariants as status
use Rattle.ac_top.proofs.ArrangedPairs.{same_chains, same_valuation}

-- ---- verdicts

-- an output is equal only if the question of the context has an answer
valued : (pair : Pair) → IsAnswered default_budget pair (Equal ∷ []) → HasValuation default_budget (left_model pair)
valued pair (context_stopped stop h unknown) = absurd unknown.0
valued pair (left_stopped stop v h unknown) = v
valued pair (right_stopped stop v left h unknown) = v
valued pair (searched v left right h) = v

-- ---- what stands before the search

ends_with : (pair : Pair) (output : ℕ) (cause : Cause) → is_early cause ≡ true → IsCause pair output cause → IsAnswered default_budget pair (Unknown cause ∷ []) → IsUnknown pair output
ends_with pair output cause early is ends = inr (cause_words cause, record { cause = cause; early = early; said = refl; is = is; ends = ends })

-- the search ends early where the question of the context stops
context_ends : (pair : Pair) (output : ℕ) (stop : ContextStop) → ContextStops default_budget (left_model pair) stop → IsSome (context_cause_of stop) → IsUnknown pair output
context_ends pair output context_stop.EmptyContext h some = absurd cc
context_ends pair output (context_stop.Overflow question) h some = ends_with pair output (OverflowQuestion question) refl tt (context_stopped (context_stop.Overflow question) h (refl, tt))
context_ends pair output (context_stop.Spent question cost) h some = ends_with pair output (SpentQuestion question cost) refl tt (context_stopped (context_stop.Spent question cost) h (refl, tt))
context_ends pair output (context_stop.Memory want) h some = absurd cc

-- so it does where the flow of the left program stops
left_ends : (pair : Pair) (output : ℕ) (stop : FlowStop) → HasValuation default_budget (left_model pair) → StopsAmong default_budget (left_model pair) (readers (left_model pair)) stop → IsSome (cause_of stop) → IsUnknown pair output
left_ends pair output (flow_stop.Overflow question) v h some = ends_with pair output (OverflowQuestion question) refl tt (left_stopped (flow_stop.Overflow question) v h (refl, tt))
left_ends pair output (flow_stop.Spent question cost) v h some = ends_with pair output (SpentQuestion question cost) refl tt (left_stopped (flow_stop.Spent question cost) v h (refl, tt))
left_ends pair output (flow_stop.Pieces position kept) v h some = ends_with pair output (SpentPieces position kept) refl tt (left_stopped (flow_stop.Pieces position kept) v h (refl, tt))
left_ends pair output (flow_stop.Memory want) v h some = absurd cc

some_cause : (why : Option Cause) (cause : Cause) → why ≡ Some cause → IsSome why
some_cause None cause h = absurd cc
some_cause (Some other) cause h = refl

-- that an output is unknown rests on the stop of the question of the context, or on a valuation
known_at : (pair : Pair) (cause : Cause) → IsAnswered default_budget pair (Unknown cause ∷ []) → ContextIsStopped (left_model pair) ⊎ HasValuation default_budget (left_model pair)
known_at pair cause (context_stopped stop h unknown) = inl (stop, h, some_cause (context_cause_of stop) cause unknown.0)
known_at pair cause (left_stopped stop valuation h unknown) = inr valuation
known_at pair cause (right_stopped stop valuation left h unknown) = inr valuation
known_at pair cause (searched valuation left right h) = inr valuation

-- ---- what the verdict on one output says

pub one_said : (P : ℕ → Verdict → Type 0) (o : ℕ) (vs : List Verdict) → OnEach P (o ∷ []) vs → length vs ≡ 1
one_said P o [] h = absurd h
one_said P o (v ∷ []) h = refl
one_said P o (v ∷ w ∷ rest) h = absurd h.1

pub equal_found : (pair : Pair) (output : ℕ) (v : Verdict) → v ≡ Equal → judge.ArePaired pair → IsVerdict pair output v → IsMatchedIf pair output v → IsAnswered default_budget pair (v ∷ []) → IsFoundEqual pair output
equal_found pair output v is paired h m a =
    let found = valued pair (subst (λ (w : Verdict). IsAnswered default_budget pair (w ∷ [])) is a) in
    record {
      same = subst (IsVerdict pair output) is h;
      matched = subst (IsMatchedIf pair output) is m;
      params = found.point;
      valuation = record { each = found.each; context = (has_context pair.left pair.context paired.context found.point found.each).0 found.meets };
    }

pub differs_so : (pair : Pair) (output : ℕ) (v : Verdict) {at : _} {element : _} → v ≡ Different at element → IsVerdict pair output v → IsApart pair output
differs_so pair output v is h = differs _ _ (subst (IsVerdict pair output) is h)

refuted_so : (pair : Pair) (output : ℕ) (cause : Cause) → is_early cause ≡ false → IsCause pair output cause → IsApart pair output
refuted_so pair output (Unmatched refuted) e h = unmatched refuted h
refuted_so pair output (OverflowQuestion question) e h = absurd cc
refuted_so pair output (OverflowHull members) e h = absurd cc
refuted_so pair output (SpentQuestion question cost) e h = absurd cc
refuted_so pair output (SpentPieces position kept) e h = absurd cc
refuted_so pair output (SpentPaths paths) e h = absurd cc
refuted_so pair output (SpentOrders refuted) e h = absurd cc

pub unknown_apart : (pair : Pair) (output : ℕ) (v : Verdict) (cause : Cause) → v ≡ Unknown cause → is_early cause ≡ false → IsVerdict pair output v → IsApart pair output
unknown_apart pair output v cause is e h = refuted_so pair output cause e (subst (IsVerdict pair output) is h)

-- the search ends early, and no run shows a difference
pub unknown_early : (pair : Pair) (output : ℕ) (v : Verdict) (cause : Cause) (words : List ℕ) → v ≡ Unknown cause → is_early cause ≡ true → words ≡ cause_words cause → IsVerdict pair output v
    → IsAnswered default_budget pair (v ∷ []) → IsTriedIf default_budget pair output v → EndsAfterRuns pair output words
unknown_early pair output v cause words is e said h a t = record {
  early = record {
    cause = cause;
    early = e;
    said = said;
    is = subst (IsVerdict pair output) is h;
    ends = subst (λ (w : Verdict). IsAnswered default_budget pair (w ∷ [])) is a;
  };
  tried = subst (IsTriedIf default_budget pair output) is t;
}

-- ---- one arrangement after another

many : (p count : ℕ) → count ≡ min p 1025 → 1024 < count → (1024 < p) × (min p 1024 ≡ 1024)
many p count e l = (omega (arith, e, l), omega (arith, e, l))

few : (p count : ℕ) → count ≡ min p 1025 → count ≤ 1024 → (p ≤ 1024) × (min p 1024 ≡ p)
few p count e l = (omega (arith, e, l), omega (arith, e, l))

module _ (names : List (List ℕ)) (pair : Pair) (output : ℕ) where
  -- nothing is known before the first
  pub none_so_far : IsSoFar names pair output 0 None
  none_so_far = λ number h. absurd (omega (arith, h))

  pub apart_behind : (count : ℕ) → IsApartBefore names pair output count → IsApart (arrangement names pair output count) output → IsApartBefore names pair output (count + 1)
  apart_behind count h k = below_more (λ number. IsApart (arrangement names pair output number) output) count h k

  unknown_behind : (count : ℕ) → IsUnknownBefore names pair output count → IsUnknown (arrangement names pair output count) output → IsUnknownBefore names pair output (count + 1)
  unknown_behind count h k = below_more (λ number. IsUnknown (arrangement names pair output number) output) count h k

  -- nor is it equal in the next
  pub apart_stays : (early : Option Early) (count : ℕ) → IsSoFar names pair output count early → IsApart (arrangement names pair output count) output → IsSoFar names pair output (count + 1) early
  apart_stays None count h k = apart_behind count h k
  apart_stays (Some first) count h k = let l = h.0 in (omega (arith, l), h.1, h.2, unknown_behind count h.3 (inl k))

  pub first_stays : (early : Option Early) (first : Early) (count : ℕ) (words : List ℕ) → early ≡ Some first → IsSoFar names pair output count early → EndsAfterRuns (arrangement names pair output count) output words → IsSoFar names pair output (count + 1) (Some first)
  first_stays early first count words is h ends =
      let k = subst (IsSoFar names pair output count) is h in
      let l = k.0 in
      (omega (arith, l), k.1, k.2, unknown_behind count k.3 (inr (words, ends.early)))

  pub first_made : (early : Option Early) (first : Early) → early ≡ None → IsSoFar names pair output first.number early → EndsAfterRuns (arrangement names pair output first.number) output first.words.now → IsSoFar names pair output (first.number + 1) (Some first)
  first_made early first is h ends =
      let before = subst (IsSoFar names pair output first.number) is h in
      (omega arith, ends, before, unknown_behind first.number (λ number below. inl (before number below)) (inr (first.words.now, ends.early)))

  -- ---- at the end

  pub equal_so : PairCanArrange names pair → (number : ℕ) → number < tried_of names pair → IsFinding (arrangement names pair output number) output finding.Equal → IsAnswer names pair output answer.Equal
  equal_so can number below h = record {
    number = number;
    tried = below;
    matched = h.matched;
    same = same_chains names pair output number can h.same;
    params = h.params;
    valuation = same_valuation names pair output number h.params h.valuation;
  }

  -- what stands before the search stops in an arrangement in which it ends early: then it does so in each, but for the flow of the right program
  stopped_in_each : (number : ℕ) (words : List ℕ) → EndsEarly (arrangement names pair output number) output words
      → IsStopped (left_model (arrangement names pair output number)) (right_model (arrangement names pair output number))
      → IsUnknownBefore names pair output (tried_of names pair) ⊎ FlowIsStopped (right_model (arrangement names pair output number))
  stopped_in_each number words e (inl (stop, h, some)) = inl (λ other below. context_ends (arrangement names pair output other) output stop h some)
  stopped_in_each number words e (inr (inl (stop, h, some))) = by (known_at (arrangement names pair output number) e.cause e.ends)
    where
      by : ContextIsStopped (left_model (arrangement names pair output number)) ⊎ HasValuation default_budget (left_model (arrangement names pair output number))
          → IsUnknownBefore names pair output (tried_of names pair) ⊎ FlowIsStopped (right_model (arrangement names pair output number))
      by (inl (empty, k, known)) = inl (λ other below. context_ends (arrangement names pair output other) output empty k known)
      by (inr valuation) = inl (λ other below. left_ends (arrangement names pair output other) output stop valuation h some)
  stopped_in_each number words e (inr (inr h)) = inr h

  pub stopped_so : (early : Option Early) (first : Early) (number : ℕ) → number < tried_of names pair → (early ≡ None → first.number ≡ number) → IfStopsFirst (arrangement names pair output number) early true
      → IsSoFar names pair output (number + 1) (Some first) → IsAnswer names pair output (answer.Early first)
  stopped_so None first number below same stops h =
      let is : first.number ≡ number = same refl in
      let here = subst (λ (n : ℕ). IsStopped (left_model (arrangement names pair output n)) (right_model (arrangement names pair output n))) (sym is) stops in
      record { tried = subst (λ (n : ℕ). n < tried_of names pair) (sym is) below; ends = h.1; apart = h.2; unknown = stopped_in_each first.number first.words.now h.1.early here }
  stopped_so (Some old) first number below same stops h = absurd cc

  pub last_early : (early : Option Early) (first : Early) → early ≡ Some first → IsSoFar names pair output (tried_of names pair) early → IsAnswer names pair output (answer.Early first)
  last_early early first is h = let k = subst (IsSoFar names pair output (tried_of names pair)) is h in record { tried = k.0; ends = k.1; apart = k.2; unknown = inl k.3 }

  pub last_spent : (early : Option Early) (count : ℕ) → early ≡ None → count ≡ min (arrangements_of names pair) 1025 → 1024 < count → IsSoFar names pair output (tried_of names pair) early → IsAnswer names pair output answer.Spent
  last_spent early count is e l h = let n = many (arrangements_of names pair) count e l in (n.0, subst (IsApartBefore names pair output) n.1 (subst (IsSoFar names pair output (tried_of names pair)) is h))

  pub last_unmatched : (early : Option Early) (count : ℕ) → early ≡ None → count ≡ min (arrangements_of names pair) 1025 → count ≤ 1024 → IsSoFar names pair output (tried_of names pair) early → IsAnswer names pair output answer.Unmatched
  last_unmatched early count is e l h = let n = few (arrangements_of names pair) count e l in (n.0, subst (IsApartBefore names pair output) n.1 (subst (IsSoFar names pair output (tried_of names pair)) is h))

-- ---- one output after another

pub one_more_answer : (names : List (List ℕ)) (pair : Pair) (os : List ℕ) (said : List Answer) (o : ℕ) (a : Answer) → AreAnswers names pair os said → IsAnswer names pair o a → AreAnswers names pair (os ++ o ∷ []) (said ++ a ∷ [])
one_more_answer names pair [] [] o a h k = (k, tt)
one_more_answer names pair [] (b ∷ rest) o a h k = absurd h
one_more_answer names pair (p ∷ os) [] o a h k = absurd h
one_more_answer names pair (p ∷ os) (b ∷ rest) o a h k = (h.0, one_more_answer names pair os rest o a h.1 k)

pub as_many_answers : (names : List (List ℕ)) (pair : Pair) (os : List ℕ) (said : List Answer) → AreAnswers names pair os said → length os ≡ length said
as_many_answers names pair [] [] h = refl
as_many_answers names pair [] (b ∷ rest) h = absurd h
as_many_answers names pair (p ∷ os) [] h = absurd h
as_many_answers names pair (p ∷ os) (b ∷ rest) h = ap suc (as_many_answers names pair os rest h.1)

one_line : (arrays : List Array) (os : List ℕ) (said : List Answer) (o : ℕ) (a : Answer) → length os ≡ length said → answer_lines arrays (os ++ o ∷ []) (said ++ a ∷ []) ≡ answer_lines arrays os said ++ answer_line (name_at arrays o) a
one_line arrays [] [] o a e = append-nil (answer_line (name_at arrays o) a)
one_line arrays [] (b ∷ rest) o a e = absurd (omega (arith, e))
one_line arrays (p ∷ os) [] o a e = absurd (omega (arith, e))
one_line arrays (p ∷ os) (b ∷ rest) o a e =
    ap (λ l. answer_line (name_at arrays p) b ++ l) (one_line arrays os rest o a (omega (arith, e)))
    ∙ sym (append_assoc (answer_line (name_at arrays p) b) (answer_lines arrays os rest) (answer_line (name_at arrays o) a))

pub one_further_answer : (arrays : List Array) (os : List ℕ) (said : List Answer) (i : ℕ) (d : Answer) → i < length os → i < length said → length os ≡ length said
    → answer_lines arrays (take (i + 1) os) (take (i + 1) said) ≡ answer_lines arrays (take i os) (take i said) ++ answer_line (name_at arrays (slice_index_or os i 0)) (slice_index_or said i d)
one_further_answer arrays os said i d within beside same =
    let o = slice_index_or os i 0 in
    let a = slice_index_or said i d in
    let more : take (i + 1) os ≡ take i os ++ o ∷ [] = take_more os i 0 within in
    let longer : take (i + 1) said ≡ take i said ++ a ∷ [] = take_more said i d beside in
    let lengths : length (take i os) ≡ length (take i said) = length-take i os ∙ ap (min i) same ∙ sym (length-take i said) in
    (λ j. answer_lines arrays (more j) (longer j)) ∙ one_line arrays (take i os) (take i said) o a lengths

-- the pieces of a line, put together
pub line_joined : (old name words : List ℕ) → ((old ++ name) ++ words) ++ 10 ∷ [] ≡ old ++ ((name ++ words) ++ 10 ∷ [])
line_joined old name words = ap (λ l. l ++ 10 ∷ []) (append_assoc old name words) ∙ append_assoc old (name ++ words) (10 ∷ [])

pub words_joined : (old head number colon words : List ℕ) → (((old ++ head) ++ number) ++ colon) ++ words ≡ old ++ (((head ++ number) ++ colon) ++ words)
words_joined old head number colon words =
    ap (λ l. (l ++ colon) ++ words) (append_assoc old head number) ∙ ap (λ l. l ++ words) (append_assoc old (head ++ number) colon) ∙ append_assoc old ((head ++ number) ++ colon) words

-- ---- reports

all_said : (said : List Answer) → status_of said ≡ status.Done → list_all is_equal said ≡ true
all_said said h = by (list_all is_equal said) h
  where
    by : (b : Bool) → (if b then status.Done else status.Unknown) ≡ status.Done → b ≡ true
    by true k = refl
    by false k = absurd cc

all_equal : (names : List (List ℕ)) (pair : Pair) (os : List ℕ) (said : List Answer) → AreAnswers names pair os said → list_all is_equal said ≡ true → (o : ℕ) → Contains os o → SameUnderChains names pair o
all_equal names pair [] said h e o (k, within, is) = absurd (omega (arith, within))
all_equal names pair (p ∷ os) [] h e o at = absurd h
all_equal names pair (p ∷ os) (answer.Equal ∷ rest) h e o (zero, within, is) = subst (SameUnderChains names pair) is h.0.same
all_equal names pair (p ∷ os) (answer.Equal ∷ rest) h e o (suc k, within, is) = all_equal names pair os rest h.1 e o (k, omega (arith, within), is)
all_equal names pair (p ∷ os) (answer.Unmatched ∷ rest) h e o at = absurd cc
all_equal names pair (p ∷ os) (answer.Spent ∷ rest) h e o at = absurd cc
all_equal names pair (p ∷ os) (answer.Early first ∷ rest) h e o at = absurd cc

pub done_arranged : (names : List (List ℕ)) (pair : Pair) (r : Report) → ArrangedReports names pair r → r.status ≡ status.Done → AreSameUnderChains names pair
done_arranged names pair r (without_valuation h) d = absurd cc
done_arranged names pair r (answered said h) d = all_equal names pair pair.outputs said h (all_said said d)

pub arranged_none : (names : List (List ℕ)) (pair : Pair) (file : ProofFile) (r : Report) → ArrangedReports names pair r → r.proof ≡ Some file → ⊥
arranged_none names pair file r (without_valuation h) e = absurd cc
arranged_none names pair file r (answered said h) e = absurd cc

-- the answers that were found, or that no valuation meets the context
abbrev pub IsFound : List (List ℕ) → Pair → Option (Vec Answer Global) → Type 0
IsFound names pair found = MatchOption found (IsWithoutValuation pair) (λ said. AreAnswers names pair pair.outputs said.items)
