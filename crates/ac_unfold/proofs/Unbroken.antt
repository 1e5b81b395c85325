-- Where no further path is found: what that says of rows that have to stand, of the branches of a step, and of what is left of a case.
use Rattle.std.proofs.Common.{◌≡◌, ◌⊎◌, inl, inr, ℕ, zero, suc, ◌+◌, ◌-◌, ◌<◌, ◌≤◌, Bool, true, false, ℤ, pos, neg_ℤ, ◌+ℤ◌, ◌*ℤ◌, cond, List, [], ◌∷◌, ◌++◌, length, map, Some, None, refl, sym, ap, ◌∙◌, subst, arith, length-append}
use Rattle.std.proofs.lemmas.Int.{ints, by_lt_z}
use Rattle.std.specs.Prelude.{Result, Ok, Err, OnOk, slice_get}
use Rattle.std.specs.Int.{int_div_euclid}
use Rattle.std.specs.List.{range_with_len}
use Rattle.ac_base.proofs.Floor.{positive_is}
use Rattle.ac_base.proofs.Multiples.{multiple_from}
use Rattle.ac_base.proofs.Residues.{split_mod, class_of}
use Rattle.ac_forms.specs.Affine.{Affine, shifted, value_at}
use Rattle.ac_forms.specs.ListMembers.{IsAmong}
use Rattle.ac_forms.specs.Negation.{above, below, negation, HasExtension}
use Rattle.ac_forms.specs.PieceMembership.{IsInSome}
use Rattle.ac_forms.specs.Renaming.{picked, rows_renaming}
use Rattle.ac_forms.specs.Rows.{Holds, Meets, IsRowOver, IsWellMade}
use Rattle.ac_forms.specs.declared.conj.Conj.{Conj}
use Rattle.ac_forms.specs.declared.row.Row.{Row}
use Rattle.ac_forms.specs.declared.row.Row.TheVariants.{Eq, Div, Ge}
use Rattle.ac_forms.proofs.Distinct.{rows_renaming-points}
use Rattle.ac_forms.proofs.Negations.{complement, value-above, value-below}
use Rattle.ac_forms.proofs.Values.{value_at-shifted}
use Rattle.ac_omega_steps.specs.IntegerPoints.{IsPoint}
use Rattle.ac_omega_steps.proofs.Keeping.{Meets-append}
use Rattle.ac_base.proofs.Options.{some-is}
use Rattle.ac_cert.specs.Rules.{class_row}
use Rattle.ac_syntax.specs.declared.tree.Order.{Order}
use Rattle.ac_syntax.specs.declared.tree.Order.TheVariants.{Keep}
use Rattle.ac_syntax.specs.declared.tree.Site.{Site}
use Rattle.ac_claims_paths.specs.BranchPaths.{onto}
use Rattle.ac_claims_paths.specs.ModelCalls.{pairing}
use Rattle.ac_claims_paths.specs.PathColumns.{base, columns_of}
use Rattle.ac_claims_paths.specs.PathSteps.{Pairing, branches, seat_of}
use Rattle.ac_claims_paths.specs.declared.path.Branch.{Branch}
use Rattle.ac_claims_paths.specs.declared.path.Path.{Path}
use Rattle.ac_claims_paths.specs.declared.path.Side.{Side}
use Rattle.ac_claims_paths.proofs.Moving.{meets-both}
use Rattle.ac_widen.specs.declared.derivation.Entry.{Entry}
use Rattle.ac_claims.specs.ProofFaults.{domain}
use Rattle.ac_claims.specs.RemainingPlans.{count_by, start_at}
use Rattle.ac_claims.specs.declared.types.Claim.{Claim}
use Rattle.ac_claims.proofs.Plans.{position_is}
use Rattle.ac_flow.specs.declared.types.Case.{Case}
use Rattle.ac_flow.specs.declared.types.ReadFlow.{ReadFlow}
use Rattle.ac_flow.specs.declared.types.Remainder.{Remainder}
use Rattle.ac_claims_plans.specs.BranchSides.{has_few, one_row, outside_of, rest_side, side_of}
use Rattle.ac_claims_plans.specs.declared.branching.Part.{Part}
use Rattle.ac_graph.specs.PairMoves.{pairing_of}
use Rattle.ac_widen_programs.specs.PairSetting.{order_at}
use Rattle.ac_widen_programs.specs.PairPaths.{Unfolding, params_of, positions_of, seats_of}
use Rattle.ac_widen_programs.specs.PairPathSteps.{at_rest, flow_on, order_of}
use Rattle.ac_widen_programs.proofs.Calling.{orders_are_taken}
use Rattle.ac_unfold.specs.UnfoldQuestions.{AreTargets, AreTwoCalls, GoesOn}
use Rattle.ac_unfold.specs.KillCuts.{IsClaimBehind}
use Rattle.ac_unfold.specs.EndResults.{nothing_found}
use Rattle.ac_unfold.specs.PlanResults.{judge_of}
use Rattle.ac_unfold.specs.UnfoldPaths.{BrokenPathsOf}
use Rattle.ac_unfold.specs.StartResults.{HasDomains}
use Rattle.ac_unfold.specs.BrokenPathResults.{IsKindThere, IsOf}
use Rattle.ac_unfold.specs.UnbrokenStarts.{AllHold, HasNoPoint, StartStands, Stands}
use Rattle.ac_unfold.specs.UnbrokenResults.{AreEmpty, CaseStands, FindsNone, StandsAtStart, StandsBeside, StandsIn, StandsLeft}
use Rattle.ac_unfold.specs.Unfoldings.{IsUnfoldingOf}
use Rattle.ac_unfold.specs.declared.ends.Search.{Search}
use Rattle.ac_unfold.specs.declared.kinds.Next.TheVariants as next
use Rattle.ac_unfold.specs.declared.types.ProgramFlows.{ProgramFlows}
use Rattle.ac_unfold.proofs.Coming.{is_of, params_are}
use Rattle.ac_unfold.proofs.Failing.{class_fails}
use Rattle.ac_unfold.proofs.Results.{in_get}
use Rattle.ac_unfold.proofs.Stopped.{targets_by}

-- ---- nothing found

-- before and after something else
pub none_before : (search : Search) (a b c : BrokenPathsOf) → length b.paths ≤ length c.paths → FindsNone search a c → FindsNone search a b
none_before search a b c k none = let n = none.none in record { finding = none.finding; none = omega (arith, k, n) }

pub none_after : (search : Search) (a b c : BrokenPathsOf) → length a.paths ≤ length b.paths → FindsNone search a c → FindsNone search b c
none_after search a b c k none = let n = none.none in record { finding = none.finding; none = omega (arith, k, n) }

-- not where one is
pub not_one : (search : Search) (before after : BrokenPathsOf) (es : List Entry) → after.paths ≡ before.paths ++ es ∷ [] → ¬ (FindsNone search before after)
not_one search before after es e none = let n = none.none in let l = ap length e in omega (arith, n, l, length-append before.paths (es ∷ []))

pub not_more : (search : Search) (before now after : BrokenPathsOf) → length before.paths ≤ length now.paths → length now.paths < length after.paths → ¬ (FindsNone search before after)
not_more search before now after k l none = let n = none.none in omega (arith, n, k, l)

-- nor where plans are made
pub not_making : (search : Search) (before after : BrokenPathsOf) → search.making ≡ true → ¬ (FindsNone search before after)
not_making search before after on none = let z : true ≡ false = sym on ∙ none.finding in absurd cc

-- the same of the question where the paths are those of another time
pub none_same : {T E : Type 0} (res : Result T E) (search : Search) (before now after : BrokenPathsOf) (P : Type 0) → now.paths ≡ before.paths → OnOk res (FindsNone search now after → P) → OnOk res (FindsNone search before after → P)
none_same (Ok x) search before now after P e h = λ none. let l = ap length e in h (none_after search before now after (omega (arith, l)) none)
none_same (Err x) search before now after P e h = tt

-- what is shown where none is found, another way
pub none_by : {T E : Type 0} (res : Result T E) (search : Search) (before after : BrokenPathsOf) (P Q : Type 0) → (P → Q) → OnOk res (FindsNone search before after → P) → OnOk res (FindsNone search before after → Q)
none_by (Ok x) search before after P Q f h = λ none. f (h none)
none_by (Err e) search before after P Q f h = tt

-- ---- lists

last_or : {A : Type 0} (xs : List A) (x y : A) → IsAmong y (xs ++ x ∷ []) → IsAmong y xs ⊎ (y ≡ x)
last_or [] x y (inl e) = inr e
last_or [] x y (inr i) = absurd i
last_or (z ∷ xs) x y (inl e) = inl (inl e)
last_or (z ∷ xs) x y (inr i) = by (last_or xs x y i)
  where
    by : IsAmong y xs ⊎ (y ≡ x) → IsAmong y (z ∷ xs) ⊎ (y ≡ x)
    by (inl j) = inl (inr j)
    by (inr e) = inr e

in_map : {A B : Type 0} (F : A → B) (xs : List A) (y : B) → IsAmong y (map F xs) → (x : A) × IsAmong x xs × (y ≡ F x)
in_map F [] y i = absurd i
in_map F (x ∷ xs) y (inl e) = (x, inl refl, e)
in_map F (x ∷ xs) y (inr i) = let z = in_map F xs y i in (z.0, inr z.1, z.2)

get_map : {A B : Type 0} (F : A → B) (xs : List A) (n : ℕ) (y : B) → slice_get (map F xs) n ≡ Some y → (x : A) × (slice_get xs n ≡ Some x) × (y ≡ F x)
get_map F [] n y e = absurd cc
get_map F (x ∷ xs) zero y e = (x, refl, sym (some-is (F x) y e))
get_map F (x ∷ xs) (suc n) y e = get_map F xs n y e

in_range : {A : Type 0} (F : ℕ → A) (first count r : ℕ) → first ≤ r → r < first + count → IsAmong (F r) (map F (range_with_len first count))
in_range F first zero r a b = absurd (omega (arith, a, b))
in_range F first (suc count) r a b = by or (λ k. in_range F (first + 1) count r (omega (arith, k)) (omega (arith, b)))
  where
    or : (first < r) ⊎ (r ≡ first)
    or = grind (arith, a)

    by : (first < r) ⊎ (r ≡ first) → (first < r → IsAmong (F r) (map F (range_with_len (first + 1) count))) → IsAmong (F r) (map F (range_with_len first (suc count)))
    by (inl k) next = inr (next k)
    by (inr e) next = inl (ap F e)

-- ---- parts of a negation without a point

pub empty_none : (c : Conj) → AreEmpty c []
empty_none c part i = absurd i

pub empty_more : (c d : Conj) (parts more : List Part) (part : Part) → more ≡ parts ++ part ∷ [] → d ≡ side_of c part → AreEmpty c parts → HasNoPoint d → AreEmpty c more
empty_more c d parts more part m e h k x i = by (last_or parts part x (subst (IsAmong x) m i))
  where
    by : IsAmong x parts ⊎ (x ≡ part) → HasNoPoint (side_of c x)
    by (inl j) = h x j
    by (inr f) = subst HasNoPoint (e ∙ ap (side_of c) (sym f)) k

flat_point : (c : Conj) (s : Row) (place columns rows : ℕ) (p : List ℤ) → IsPoint c p → Holds s p → IsPoint (side_of c (one_row s place columns rows)) p
flat_point c s place columns rows p point h = let l = point.long in record { long = omega (arith, l); meets = meets-both c.rows (s ∷ []) p point.meets (h, tt) }

div_holds : (c : Conj) (k : ℕ) (f : Affine) (p : List ℤ) → 0 < k → IsWellMade c → IsPoint c p → IsRowOver c.columns (Div (pos k) f) → AreEmpty c (outside_of c.columns (Div (pos k) f)) → Holds (Div (pos k) f) p
div_holds c k f p some w point over h =
    let r = class_of (value_at f p) k some in
    by r.0 r.1 (split_mod (value_at f p) k some ∙ ap (λ (z : ℤ). pos k *ℤ q +ℤ z) r.2)
  where
    q : ℤ
    q = int_div_euclid (value_at f p) (pos k)

    beyond : IsInSome HasExtension (negation c.columns (Div (pos k) f)) p → AreEmpty c (rest_side c.columns (pos k) f ∷ []) → ⊥
    beyond (inl x) none =
        let l = point.long in
        let long : c.columns ≤ length p = omega (arith, l) in
        none (rest_side c.columns (pos k) f) (inl refl) (p ++ x.0) (record { long = x.1; meets = meets-both c.rows (rest_side c.columns (pos k) f).rows (p ++ x.0) (Meets-append c.rows c.columns p x.0 long w point.meets) x.2 })
    beyond (inr x) none = absurd x

    nowhere : (few : Bool) (i : ℕ) → suc i < k → Holds (class_row (pos k) f (pos (suc i))) p → AreEmpty c (cond few (map (λ r. one_row (class_row (pos k) f (pos r)) 0 0 1) (range_with_len 1 (k - 1))) (rest_side c.columns (pos k) f ∷ [])) → ⊥
    nowhere true i l class none =
        none (one_row (class_row (pos k) f (pos (suc i))) 0 0 1) (in_range (λ (r : ℕ). one_row (class_row (pos k) f (pos r)) 0 0 1) 1 (k - 1) (suc i) (omega arith) (omega (arith, l))) p
        (flat_point c (class_row (pos k) f (pos (suc i))) 0 0 1 p point class)
    nowhere false i l class none = beyond ((complement c.columns (Div (pos k) f) p over point.long).0 (class_fails (pos k) f (suc i) p (omega arith) l class)) none

    by : (i : ℕ) → i < k → value_at f p ≡ pos k *ℤ q +ℤ pos i → Holds (Div (pos k) f) p
    by zero l e = multiple_from (pos k) (value_at f p) q (omega (arith, ints, e))
    by (suc i) l e =
        let s = value_at-shifted f (neg_ℤ (pos (suc i))) p in
        let class : Holds (class_row (pos k) f (pos (suc i))) p = multiple_from (pos k) (value_at (shifted f (neg_ℤ (pos (suc i)))) p) q (omega (arith, ints, s, e)) in
        absurd (nowhere (has_few (pos k)) i l class h)

row_holds : (c : Conj) (row : Row) (p : List ℤ) → IsWellMade c → IsPoint c p → IsRowOver c.columns row → AreEmpty c (outside_of c.columns row) → Holds row p
row_holds c (Eq f) p w point over h =
    by_lt_z (value_at f p) (pos 0) (λ less. absurd (h (one_row (Ge (below f)) 0 0 1) (inr (inl refl)) p (flat_point c (Ge (below f)) 0 0 1 p point (omega (arith, ints, value-below f p, less)))))
    (λ most. by_lt_z (pos 0) (value_at f p) (λ more. absurd (h (one_row (Ge (above f)) 1 0 2) (inl refl) p (flat_point c (Ge (above f)) 1 0 2 p point (omega (arith, ints, value-above f p, more))))) (λ least. omega (arith, ints, most, least)))
row_holds c (Div m f) p w point over h =
    let s = positive_is m over.1 in
    subst (λ (z : ℤ). IsRowOver c.columns (Div z f) → AreEmpty c (outside_of c.columns (Div z f)) → Holds (Div z f) p) (sym s.2) (div_holds c s.0 f p s.1 w point) over h
row_holds c (Ge f) p w point over h =
    by_lt_z (value_at f p) (pos 0) (λ less. absurd (h (one_row (Ge (below f)) 0 0 1) (inl refl) p (flat_point c (Ge (below f)) 0 0 1 p point (omega (arith, ints, value-below f p, less))))) (λ most. most)

-- the row holds at each point
pub refuted_holds : (c : Conj) (row : Row) (parts : List Part) → IsWellMade c → IsRowOver c.columns row → parts ≡ outside_of c.columns row → AreEmpty c parts → AllHold c (row ∷ [])
refuted_holds c row parts w over e h p point = (row_holds c row p w point over (subst (AreEmpty c) e h), tt)

-- ---- rows that hold

pub hold_none : (c : Conj) → AllHold c []
hold_none c p point = tt

pub hold_empty : (c : Conj) (rows : List Row) → HasNoPoint c → AllHold c rows
hold_empty c rows h p point = absurd (h p point)

-- one row more, where the others are met before it
pub hold_more : (search : Search) (c d : Conj) (rows more : List Row) (row : Row) (before now after : BrokenPathsOf) → d ≡ c → more ≡ rows ++ row ∷ [] → length before.paths ≤ length now.paths → length now.paths ≤ length after.paths → (FindsNone search before now → AllHold c rows)
    → (FindsNone search now after → AllHold d (row ∷ [])) → FindsNone search before after → AllHold c more
hold_more search c d rows more row before now after e m a b h k none p point =
    subst (λ (rs : List Row). Meets rs p) (sym m) (meets-both rows (row ∷ []) p (h (none_before search before now after b none) p point) (subst (λ (x : Conj). AllHold x (row ∷ [])) e (k (none_after search before now after a none)) p point))

-- ---- questions that stand

pub empty_stands : (search : Search) (q : Path) → HasNoPoint q.conj → StandsIn search q
unfolding StandsIn
empty_stands search q h = λ u of. Stands.empty q h

pub claim_stands : (search : Search) (q : Path) (number : ℕ) (claim : Claim) (rows : List Row) → IsClaimBehind search q number → slice_get search.claims.now number ≡ Some claim → Some rows ≡ rows_renaming (base (judge_of search).params ++ (columns_of q.left ++ columns_of q.right)) claim.rows → AllHold q.conj rows
    → StandsIn search q
unfolding StandsIn
claim_stands search q number claim rows there get made h =
    let same : there.at.claim ≡ claim = some-is there.at.claim claim (sym there.at.is ∙ get) in
    λ u of.
    Stands.held q (record {
      gone = there.gone;
      claim = claim;
      among = in_get search.claims.now number claim get;
      left_is = position_is q.left.position there.at.claim.left there.at.left_is ∙ ap (λ (c : Claim). c.left) same;
      right_is = position_is q.right.position there.at.claim.right there.at.right_is ∙ ap (λ (c : Claim). c.right) same;
      holds = λ p point.
          subst (λ (k : ℕ). Meets claim.rows (picked (base k ++ (columns_of q.left ++ columns_of q.right)) p)) (sym (params_are search u of))
          ((rows_renaming-points (base (judge_of search).params ++ (columns_of q.left ++ columns_of q.right)) claim.rows rows p (sym made)).0 (h p point));
    })

pub match_stands : (search : Search) (q : Path) (rows : List Row) → GoesOn search.claims.now q → AreTargets (judge_of search) search.claims.now q (Some rows) → AllHold q.conj rows → StandsIn search q
unfolding StandsIn
match_stands search q rows goes targets h = λ u of. Stands.matches q (record { goes_on = goes; rows = rows; are = targets_by search u q (Some rows) of targets; hold = h })

-- ---- calls

pub calls_stand : (search : Search) (q : Path) (order : Order) (found : List Branch) → IsKindThere search q (next.Calls order) → AreTwoCalls (judge_of search) q → GoesOn search.claims.now q → Some (map (onto q) found) ≡ branches (judge_of search) order q
    → ((b : Branch) → IsAmong b found → StandsIn search (onto q b)) → StandsIn search q
unfolding IsKindThere StandsIn
calls_stand search q order found kind two goes is h = λ u of.
    let bs = map (onto q) found in
    let k = kind u of in
    let there : branches (pairing_of u.pair) order q ≡ Some bs = ap (λ (g : Pairing). branches g order q) of.programs ∙ sym is in
    let key = positions_of (seats_of q) in
    let same : order_of u q ≡ order = ap (order_at u.pair key) k.1 ∙ orders_are_taken u q order bs k.0 there in
    let taken : branches (pairing_of u.pair) (order_of u q) q ≡ Some bs = ap (λ (o : Order). branches (pairing_of u.pair) o q) same ∙ there in
    Stands.calls q bs goes k.0 (subst (λ (g : Pairing). AreTwoCalls g q) (sym of.programs) two) taken
    (λ b i.
    let x = in_map (onto q) found b i in
    subst (λ (y : Path). Stands u search.program_flows.now.left_flow.now search.program_flows.now.right_flow.now search.claims.now y) (sym x.2) (h x.0 x.1 u of))

-- ---- reads

left_question : (search : Search) (u : Unfolding) (q : Path) (b : Path) (x : Branch) (rest : Remainder) (z : StandsLeft search (onto q x) rest) → IsOf search u → b ≡ onto q x → at_rest (params_of u) b rest.conj ≡ Some z.question
left_question search u q b x rest z of e = ap (λ (k : ℕ). at_rest k b rest.conj) (params_are search u of) ∙ ap (λ (y : Path). at_rest (judge_of search).params y rest.conj) e ∙ z.is

pub reads_stand : (search : Search) (q : Path) (side : Side) (read : ReadFlow) (found : List Branch) → IsKindThere search q (next.Read side) → IsAmong read (flow_on search.program_flows.now.left_flow.now search.program_flows.now.right_flow.now side).reads → read.position ≡ (seat_of q side).position
    → GoesOn search.claims.now q → Some (map (onto q) found) ≡ branches (judge_of search) Keep q → ((n : ℕ) (b : Branch) → slice_get found n ≡ Some b → (case : Case) × (slice_get read.cases n ≡ Some case) × CaseStands search case (onto q b)) → StandsIn search q
unfolding IsKindThere StandsIn CaseStands
reads_stand search q side read found kind among position goes is h = λ u of.
    Stands.reads side q read (map (onto q) found) goes
    (record {
      reads = kind u of;
      among = among;
      position_is = position;
      are = ap (λ (g : Pairing). branches g Keep q) of.programs ∙ sym is;
      cases = λ n b e.
          let x = get_map (onto q) found n b e in
          let y = h n x.0 x.1 in
          record {
            case = y.0;
            is = y.1;
            formed = λ rest i gap.
                let z = y.2 rest i in
                let w : None ≡ Some z.question = sym gap ∙ left_question search u q b x.0 rest z of x.2 in
                absurd cc;
          };
    })
    (λ d left.
    let x = get_map (onto q) found left.number left.branch left.branch_is in
    let y = h left.number x.0 x.1 in
    let same : left.case ≡ y.0 = some-is left.case y.0 (sym left.case_is ∙ y.1) in
    let z = y.2 left.rest (subst (λ (k : Case). IsAmong left.rest k.pieces) same left.among) in
    let there : z.question ≡ d = some-is z.question d (sym (left_question search u q left.branch x.0 left.rest z of x.2) ∙ left.is) in
    subst (λ (y : Path). Stands u search.program_flows.now.left_flow.now search.program_flows.now.right_flow.now search.claims.now y) there (z.stands u of))

-- ---- what is left of a case

-- ---- starts

pub begun_empty : (search : Search) (start : Claim) (left right : ℕ) (path q : Path) → start_at (judge_of search) start left right ≡ Some path → IsWellMade path.conj → q ≡ path → HasNoPoint q.conj → StandsAtStart search start left right
begun_empty search start left right path q starts made e h = record { question = path; is = starts; made = made; stands = subst (StandsIn search) e (empty_stands search q h) }

pub begun_stands : (search : Search) (start : Claim) (left right : ℕ) (path q : Path) → start_at (judge_of search) start left right ≡ Some path → IsWellMade path.conj → q ≡ path → StandsIn search q → StandsAtStart search start left right
begun_stands search start left right path q starts made e h = record { question = path; is = starts; made = made; stands = subst (StandsIn search) e h }

-- beside the first pieces of the right position
unfoldable pub RightsStand : Search → Claim → ℕ → ℕ → BrokenPathsOf → BrokenPathsOf → Type 0
RightsStand search start left rights before after = FindsNone search before after → StandsBeside search start left rights

pub rights_none : (search : Search) (start : Claim) (left : ℕ) (before after : BrokenPathsOf) → RightsStand search start left 0 before after
unfolding RightsStand StandsBeside
rights_none search start left before after = λ none right l. absurd (omega (arith, l))

pub rights_more : (search : Search) (start : Claim) (left rights : ℕ) (before now after : BrokenPathsOf) → length before.paths ≤ length now.paths → length now.paths ≤ length after.paths → RightsStand search start left rights before now → (FindsNone search now after → StandsAtStart search start left rights)
    → RightsStand search start left (rights + 1) before after
unfolding RightsStand StandsBeside
rights_more search start left rights before now after k l h stands = λ none right m. by none right (or right m)
  where
    or : (right : ℕ) → right < rights + 1 → (right < rights) ⊎ (right ≡ rights)
    or right m = grind (arith, m)

    by : FindsNone search before after → (right : ℕ) → (right < rights) ⊎ (right ≡ rights) → StandsAtStart search start left right
    by none right (inl m) = h (none_before search before now after l none) right m
    by none right (inr e) = subst (StandsAtStart search start left) (sym e) (stands (none_after search before now after k none))

pub rights_all : (search : Search) (start : Claim) (left n rights : ℕ) (before after : BrokenPathsOf) → n ≡ rights → RightsStand search start left n before after → FindsNone search before after → StandsBeside search start left rights
unfolding RightsStand
rights_all search start left n rights before after e h none = subst (StandsBeside search start left) e (h none)

-- at the first pieces of the left one
unfoldable pub LeftsStand : Search → Claim → ℕ → ℕ → BrokenPathsOf → BrokenPathsOf → Type 0
LeftsStand search start lefts rights before after = FindsNone search before after → (left : ℕ) → left < lefts → StandsBeside search start left rights

pub lefts_none : (search : Search) (start : Claim) (rights : ℕ) (before after : BrokenPathsOf) → LeftsStand search start 0 rights before after
unfolding LeftsStand
lefts_none search start rights before after = λ none left l. absurd (omega (arith, l))

pub lefts_more : (search : Search) (start : Claim) (lefts rights : ℕ) (before now after : BrokenPathsOf) → length before.paths ≤ length now.paths → length now.paths ≤ length after.paths → LeftsStand search start lefts rights before now → (FindsNone search now after → StandsBeside search start lefts rights)
    → LeftsStand search start (lefts + 1) rights before after
unfolding LeftsStand
lefts_more search start lefts rights before now after k l h stands = λ none left m. by none left (or left m)
  where
    or : (left : ℕ) → left < lefts + 1 → (left < lefts) ⊎ (left ≡ lefts)
    or left m = grind (arith, m)

    by : FindsNone search before after → (left : ℕ) → (left < lefts) ⊎ (left ≡ lefts) → StandsBeside search start left rights
    by none left (inl m) = h (none_before search before now after l none) left m
    by none left (inr e) = subst (λ (x : ℕ). StandsBeside search start x rights) (sym e) (stands (none_after search before now after k none))

pub start_stands : (search : Search) (program_flows : ProgramFlows) (start : Claim) (claims : List Claim) (order : List (Site × Order)) (lefts rights : ℕ) (found : BrokenPathsOf) → search.program_flows.now ≡ program_flows → search.claims.now ≡ claims → search.order.now ≡ order → search.making ≡ false → HasDomains (pairing program_flows.programs) start
    → lefts ≡ count_by (domain program_flows.programs.left.now start.left) → rights ≡ count_by (domain program_flows.programs.right.now start.right) → found.paths ≡ [] → LeftsStand search start lefts rights nothing_found found
    → (u : Unfolding) → IsUnfoldingOf program_flows start order u → StartStands u program_flows.left_flow.now program_flows.right_flow.now claims
unfolding LeftsStand StandsBeside StandsIn
start_stands search program_flows start claims order lefts rights found s c o off d a b e h u is = record {
  left_pieces = d.left;
  left_is = ap (λ (g : Pairing). domain g.left u.claim.left) is.programs ∙ ap (λ (x : Claim). domain program_flows.programs.left.now x.left) is.claim ∙ d.left_is;
  right_pieces = d.right;
  right_is = ap (λ (g : Pairing). domain g.right u.claim.right) is.programs ∙ ap (λ (x : Claim). domain program_flows.programs.right.now x.right) is.claim ∙ d.right_is;
  stands = λ i k l m.
      let of = is_of search program_flows start order s o u is in
      let n = ap length e in
      let none : FindsNone search nothing_found found = record { finding = off; none = omega (arith, n) } in
      let left : i < lefts = subst (λ (x : ℕ). i < x) (sym (a ∙ ap count_by d.left_is)) l in
      let right : k < rights = subst (λ (x : ℕ). k < x) (sym (b ∙ ap count_by d.right_is)) m in
      let at = h none i left k right in
      record {
        question = at.question;
        is = ap (λ (x : Claim). start_at (pairing_of u.pair) x i k) is.claim ∙ ap (λ (g : Pairing). start_at g start i k) of.programs ∙ at.is;
        made = at.made;
        stands = subst (λ (x : ProgramFlows). Stands u x.left_flow.now x.right_flow.now claims at.question) s (subst (λ (x : List Claim). Stands u search.program_flows.now.left_flow.now search.program_flows.now.right_flow.now x at.question) c (at.stands u of));
      };
}
