-- A pair of a question that stands goes on by steps to pairs of questions that stand, and where it ends, it is fine.
use Rattle.std.proofs.Common.{◌≡◌, inl, inr, ℕ, ℤ, Bool, true, List, [], ◌∷◌, ◌++◌, Option, Some, None, refl, sym, ap, ◌∙◌, subst}
use Rattle.ac_forms.specs.ListMembers.{IsAmong}
use Rattle.ac_forms.specs.Renaming.{picked}
use Rattle.ac_forms.specs.Negation.{HasExtension}
use Rattle.ac_forms.specs.Rows.{Meets}
use Rattle.ac_forms.specs.declared.conj.Conj.{Conj}
use Rattle.ac_syntax.specs.declared.tree.Order.{Order}
use Rattle.ac_syntax.specs.declared.tree.Order.TheVariants.{Keep}
use Rattle.ac_poly.specs.declared.types.Model.{Model}
use Rattle.ac_base.proofs.Options.{some-is}
use Rattle.ac_claims.specs.declared.types.Claim.{Claim}
use Rattle.ac_flow.specs.declared.types.Case.{Case}
use Rattle.ac_flow.specs.declared.types.Flow.{Flow}
use Rattle.ac_flow.specs.declared.types.ReadFlow.{ReadFlow}
use Rattle.ac_claims_paths.specs.PathColumns.{columns_of}
use Rattle.ac_claims_paths.specs.Executions.{execution}
use Rattle.ac_claims_paths.specs.WellFormedPaths.{AllFormed, IsFormed}
use Rattle.ac_claims_paths.specs.InstanceCoordinates.{width}
use Rattle.ac_claims_paths.specs.PathSteps.{branches, branches_by, branches_of_calls, call_branches, extended, gone_to, root, seat_of}
use Rattle.ac_claims_paths.specs.PathSteps as going
use Rattle.ac_claims_paths.specs.CopyKills.{case_columns}
use Rattle.ac_claims_paths.specs.Pairs.{IsMismatch, StandsOn}
use Rattle.ac_claims_paths.specs.ModelPositions.{initial_of}
use Rattle.ac_claims_paths.specs.declared.path.Assumed.{Assumed}
use Rattle.ac_claims_paths.specs.declared.path.Path.{Path}
use Rattle.ac_claims_paths.specs.declared.path.Seat.{Seat}
use Rattle.ac_claims_paths.specs.declared.path.Side.{Side}
use Rattle.ac_claims_paths.specs.declared.path.Side.TheVariants.{Left, Right}
use Rattle.ac_claims_paths.specs.declared.places.CellForms.{CellForms}
use Rattle.ac_claims_paths.proofs.Forming.{branches_formed}
use Rattle.ac_claims_paths.proofs.InBranches.{in_get}
use Rattle.ac_claims_paths.proofs.OnPaths.{moduli_in}
use Rattle.ac_claims_paths.proofs.Stepping.{steps_are_branches}
use Rattle.ac_widen.specs.DerivationPaths.{StepsOn}
use Rattle.ac_graph.specs.PairMoves.{pairing_of}
use Rattle.ac_graph.specs.GraphMeaning.{HaveFlows, IsCompared, LeftPlaced, RightPlaced, comparison}
use Rattle.ac_widen_programs.specs.PairSetting.{IsMismatchPair, IsPlaced, IsStepPair, order_at}
use Rattle.ac_widen_programs.proofs.PositionModels.{reads_there}
use Rattle.ac_widen_programs.specs.PairPoints.{AreSeen}
use Rattle.ac_widen_programs.proofs.ReadTargets.{left_reads, right_reads}
use Rattle.ac_widen_programs.specs.PairPaths.{Unfolding, StandThere, params_of, seats_of, setting_of}
use Rattle.ac_widen_programs.specs.PairPathSteps.{AreNoReaders, ReadsOn, at_rest, flow_on, order_of}
use Rattle.ac_widen_programs.proofs.Arguments.{call_branch}
use Rattle.ac_widen_programs.proofs.Cases as cases
use Rattle.ac_widen_programs.proofs.PairPathReads.{gone_last, kind_of, known, reader_width}
use Rattle.ac_unfold_complete.specs.FinePairs.{IsFree, IsOf, OneHolds, PairOf}
use Rattle.ac_unfold.specs.UnfoldQuestions.{AreTwoCalls, GoesOn}
use Rattle.ac_unfold.specs.UnbrokenStarts.{AreItsCases, HasNoPoint, IsHeld, IsLeftOf, Matches}
use Rattle.ac_unfold_complete.proofs.Bare.{bare, bare_branches, bare_formed}
use Rattle.ac_unfold_complete.proofs.Ending.{calls_no_mismatch, no_step, reads_no_mismatch, targets_match}
use Rattle.ac_unfold_complete.proofs.Leaving.{left_there, rest_there, rests_made, some_rest}
use Rattle.ac_unfold_complete.proofs.Placing.{IsThere, comes_there, grows_there, stands_on}

-- ---- paths from a question

-- no pair before the last one has a claim, but for the first one where it is not behind a step
abbrev pub FreeOn : Bool → List Claim → PairOf → List PairOf → Type 0
FreeOn gone claims x [] = Unit {0}
FreeOn gone claims x (y ∷ path) = (gone ≡ true → IsFree claims x.0) × FreeOn true claims y path

-- a pair is fine, behind a step or not
pub record EndsAt (u : Unfolding) (gone : Bool) (claims : List Claim) (x : PairOf) : Type 0 where
  pub claimed : gone ≡ true → (c : Claim) → IsAmong c claims → IsOf c x.0 → OneHolds claims x
  pub unclaimed : (gone ≡ true → IsFree claims x.0) → ¬ (IsMismatchPair u.pair x.0 x.1)

-- so is the last pair
abbrev pub FineOn : Unfolding → Bool → List Claim → PairOf → List PairOf → Type 0
FineOn u gone claims x [] = EndsAt u gone claims x
FineOn u gone claims x (y ∷ path) = FineOn u true claims y path

-- each path of steps from a pair of the question ends fine
abbrev pub IsFineFrom : Unfolding → List Claim → Path → Type 0
IsFineFrom u claims q = (p : List ℤ) (x : PairOf) → IsThere u q p x → (path : List PairOf) → StepsOn (setting_of u) u.order x.0 x.1 path → FreeOn q.gone claims x path → FineOn u q.gone claims x path

-- ---- ends

of_claim : (u : Unfolding) (q : Path) (p : List ℤ) (x : PairOf) → IsThere u q p x → (c : Claim) → q.left.position ≡ c.left → q.right.position ≡ c.right → IsOf c x.0
of_claim u q p x t c l r = record { left_is = ap (λ (w : PairOf). w.0.0) t.is ∙ l; right_is = ap (λ (w : PairOf). w.0.1) t.is ∙ r }

free_there : (u : Unfolding) (claims : List Claim) (q : Path) (p : List ℤ) (x : PairOf) → IsThere u q p x → GoesOn claims q → q.gone ≡ true → IsFree claims x.0
free_there u claims q p x t goes gone c i o = goes gone c i (sym (ap (λ (w : PairOf). w.0.0) t.is) ∙ o.left_is) (sym (ap (λ (w : PairOf). w.0.1) t.is) ∙ o.right_is)

-- a pair that goes on is fine, unless it is a mismatch
ends_on : (u : Unfolding) (claims : List Claim) (q : Path) (p : List ℤ) (x : PairOf) → IsThere u q p x → GoesOn claims q
    → ((params : List ℤ) (c : IsCompared u.pair params) (a : LeftPlaced u.pair params) (b : RightPlaced u.pair params) → StandsOn (comparison u.pair params c) (bare q) p a b → ¬ (IsMismatch (comparison u.pair params c) a b)) → EndsAt u q.gone claims x
ends_on u claims q p x t goes none = record {
  claimed = λ gone c i o. absurd (free_there u claims q p x t goes gone c i o);
  unclaimed = λ free m. none m.there.params m.there.compared m.there.a m.there.b (stands_on u q p x t m.there.params m.there.compared m.there.a m.there.b m.there.placed) m.mismatch;
}

pub empty_fine : (u : Unfolding) (claims : List Claim) (q : Path) → HasNoPoint q.conj → IsFineFrom u claims q
empty_fine u claims q none p x t path steps free = absurd (none p t.point)

pub held_fine : (u : Unfolding) (claims : List Claim) (q : Path) → IsHeld u claims q → IsFineFrom u claims q
held_fine u claims q h p x t [] steps free =
    let of = of_claim u q p x t h.claim h.left_is h.right_is in
    record {
      claimed = λ gone c i o. (h.claim, h.among, of, subst (Meets h.claim.rows) (sym (ap (λ (w : PairOf). w.1) t.is)) (h.holds p t.point));
      unclaimed = λ f m. f h.gone h.claim h.among of;
    }
held_fine u claims q h p x t (y ∷ path) steps free = absurd (free.0 h.gone h.claim h.among (of_claim u q p x t h.claim h.left_is h.right_is))

pub matches_fine : (u : Unfolding) (claims : List Claim) (q : Path) → Matches u claims q → IsFineFrom u claims q
matches_fine u claims q h p x t [] steps free =
    ends_on u claims q p x t h.goes_on (λ params c a b st m. m.apart (targets_match u claims q p params c a b st h.goes_on (Some h.rows) h.are h.rows refl (h.hold p t.point)).matched)
matches_fine u claims q h p x t (y ∷ path) steps free =
    let s = steps.0 in
    let st = stands_on u q p x t s.params s.compared s.a s.b s.from in
    let m = targets_match u claims q p s.params s.compared s.a s.b st h.goes_on (Some h.rows) h.are h.rows refl (h.hold p t.point) in
    absurd (no_step u s.params s.compared (order_at u.pair x.0 (u.order x.0)) s.a s.a' s.b s.b' m.left m.right s.steps)

-- ---- behind a step

formed_in : (n : ℕ) (bs : List Path) → AllFormed n bs → (b : Path) → IsAmong b bs → IsFormed n b
formed_in n [] f b i = absurd i
formed_in n (c ∷ bs) f b (inl e) = subst (IsFormed n) (sym e) f.0
formed_in n (c ∷ bs) f b (inr i) = formed_in n bs f.1 b i

-- a branch to which the pair steps, with the pair that stands there
record Stepped (u : Unfolding) (q : Path) (p : List ℤ) (bs : List Path) (y : PairOf) : Type 0 where
  branch : Path
  among : IsAmong branch bs
  more : List ℤ
  params : List ℤ
  compared : IsCompared u.pair params
  before_a : LeftPlaced u.pair params
  before_b : RightPlaced u.pair params
  before : StandsOn (comparison u.pair params compared) (bare q) p before_a before_b
  a : LeftPlaced u.pair params
  b : RightPlaced u.pair params
  stands : StandsOn (comparison u.pair params compared) branch (p ++ more) a b
  formed : IsFormed (params_of u) branch
  placed : IsPlaced u.pair y.0 y.1 params a b

stepped : (u : Unfolding) (q : Path) (p : List ℤ) (x y : PairOf) (bs : List Path) → IsThere u q p x → (s : IsStepPair u.pair (u.order x.0) x.0 x.1 y.0 y.1) → branches (pairing_of u.pair) (order_at u.pair x.0 (u.order x.0)) q ≡ Some bs → Stepped u q p bs y
stepped u q p x y bs t s e =
    let order = order_at u.pair x.0 (u.order x.0) in
    let g = comparison u.pair s.params s.compared in
    let st = stands_on u q p x t s.params s.compared s.a s.b s.from in
    let own : branches (pairing_of u.pair) order (bare q) ≡ Some bs = bare_branches (pairing_of u.pair) order q ∙ e in
    let z = steps_are_branches g order (bare q) bs t.formed own p s.a s.a' s.b s.b' st s.steps in
    record {
      branch = z.0;
      among = z.1;
      more = z.2;
      params = s.params;
      compared = s.compared;
      before_a = s.a;
      before_b = s.b;
      before = st;
      a = s.a';
      b = s.b';
      stands = z.3;
      formed = formed_in (params_of u) bs (branches_formed g.pairing order (bare q) bs (moduli_in g Left) (moduli_in g Right) t.formed own) z.0 z.1;
      placed = s.to;
    }

-- from a pair that is there at a question behind a step, the rest of the path ends fine
goes_fine : (u : Unfolding) (claims : List Claim) (d : Path) → IsFineFrom u claims d → d.gone ≡ true → (p : List ℤ) (y : PairOf) → IsThere u d p y → (path : List PairOf) → StepsOn (setting_of u) u.order y.0 y.1 path → FreeOn true claims y path → FineOn u true claims y path
goes_fine u claims d fine gone p y t path steps free = subst (λ (g : Bool). FineOn u g claims y path) gone (fine p y t path steps (subst (λ (g : Bool). FreeOn g claims y path) (sym gone) free))

-- ---- two calls

-- the branches of two calls stand behind a step
calls_gone : (u : Unfolding) (q : Path) (order : Order) (bs : List Path) → AreNoReaders u q → AreTwoCalls (pairing_of u.pair) q → branches (pairing_of u.pair) order q ≡ Some bs → (b : Path) → IsAmong b bs → b.gone ≡ true
calls_gone u q order bs none t e b i =
    let g = pairing_of u.pair in
    let calls : call_branches g order q t.left t.right ≡ Some bs =
    (λ j. branches_of_calls g order q (sym t.left_is j) (sym t.right_is j)) ∙ (λ j. branches_by g order q (sym none.left j) (sym none.right j)) ∙ e in
    ap (λ (z : Path). z.gone) (call_branch g order q t.left t.right bs calls b i).argument.is

pub calls_fine : (u : Unfolding) (claims : List Claim) (q : Path) (bs : List Path) → GoesOn claims q → AreNoReaders u q → AreTwoCalls (pairing_of u.pair) q → branches (pairing_of u.pair) (order_of u q) q ≡ Some bs → ((b : Path) → IsAmong b bs → IsFineFrom u claims b) → IsFineFrom u claims q
calls_fine u claims q bs goes none calls e next p x t [] steps free = ends_on u claims q p x t goes (λ params c a b st. calls_no_mismatch u q p params c a b st calls)
calls_fine u claims q bs goes none calls e next p x t (y ∷ path) steps free =
    let at : branches (pairing_of u.pair) (order_at u.pair x.0 (u.order x.0)) q ≡ Some bs = subst (λ (w : PairOf). branches (pairing_of u.pair) (order_at u.pair w.0 (u.order w.0)) q ≡ Some bs) (sym t.is) e in
    let s = stepped u q p x y bs t steps.0 at in
    let there = comes_there u s.branch (p ++ s.more) s.params s.compared s.a s.b (bare_formed (params_of u) s.branch s.formed) s.stands y s.placed in
    goes_fine u claims s.branch (next s.branch s.among) (calls_gone u q (order_of u q) bs none calls e s.branch s.among) (p ++ s.more) y there path steps.1 free.1

-- ---- a read or an output

keeps_order : (u : Unfolding) (q : Path) (p : List ℤ) (x : PairOf) → IsThere u q p x → (side : Side) → ReadsOn u side q → (params : List ℤ) (c : IsCompared u.pair params) (a : LeftPlaced u.pair params) (b : RightPlaced u.pair params) → IsPlaced u.pair x.0 x.1 params a b → order_at u.pair x.0 (u.order x.0) ≡ Keep
keeps_order u q p x t Left r params c a b h =
    let l = (pairing_of u.pair).left in
    let st = stands_on u q p x t params c a b h in
    left_reads u.pair params (execution u.pair.left l params) c.left x.0 a h.left_is (reads_there l params (execution u.pair.left l params) c.left a q.left.position st.left.position_is r) (u.order x.0)
keeps_order u q p x t Right r params c a b h =
    let m = (pairing_of u.pair).right in
    let st = stands_on u q p x t params c a b h in
    right_reads u.pair params (execution u.pair.right m params) c.right x.0 b h.right_is (reads_there m params (execution u.pair.right m params) c.right b q.right.position st.right.position_is r.1) (u.order x.0)

-- both positions of a question there
stand_there : (u : Unfolding) (q : Path) (p params : List ℤ) (c : IsCompared u.pair params) (a : LeftPlaced u.pair params) (b : RightPlaced u.pair params) → StandsOn (comparison u.pair params c) (bare q) p a b → StandThere u p (seats_of q)
stand_there u q p params c a b st =
    let seen : AreSeen u.pair params q.left.position (picked (columns_of q.left) p) q.right.position (picked (columns_of q.right) p) =
    record { compared = c; a = a; b = b; left_is = st.left.position_is; left_at_is = st.left.at_is; right_is = st.right.position_is; right_at_is = st.right.at_is } in
    subst (λ (v : List ℤ). AreSeen u.pair v q.left.position (picked (columns_of q.left) p) q.right.position (picked (columns_of q.right) p)) (sym st.on.starts) seen

to_gone : (q : Path) (side : Side) (c : Conj) (seat : Seat) (last : Option Assumed) → (gone_to q side c seat last).gone ≡ true
to_gone q Left c seat last = refl
to_gone q Right c seat last = refl

-- the branch of a case stands behind a step
case_gone : (n : ℕ) (m : Model) (q : Path) (side : Side) (cell : CellForms) (case : Case) (b : Path) → cases.IsBranch n m q side cell case b → b.gone ≡ true
case_gone n m q side cell case b (cases.OfSource k stmt piece level rows source is pi li cr be) =
    let seat = root q.conj.columns k stmt in
    ap (λ (z : Path). z.gone) be ∙ to_gone q side (extended q.conj (width stmt) rows) seat (Some (record { side = side; reader = seat_of q side; source = Some seat }))
case_gone n m q side cell case b (cases.OfContents source be) =
    let here = seat_of q side in
    ap (λ (z : Path). z.gone) be ∙ to_gone q side q.conj (record { position = initial_of here.position; first = here.first; width = here.width }) (Some (record { side = side; reader = here; source = None }))

-- it assumes something
case_last : (n : ℕ) (m : Model) (q : Path) (side : Side) (cell : CellForms) (case : Case) (b : Path) → cases.IsBranch n m q side cell case b → (a : Assumed) × (b.last ≡ Some a)
case_last n m q side cell case b (cases.OfSource k stmt piece level rows source is pi li cr be) =
    let seat = root q.conj.columns k stmt in
    let made : Assumed = record { side = side; reader = seat_of q side; source = Some seat } in
    (made, ap (λ (z : Path). z.last) be ∙ gone_last q side (extended q.conj (width stmt) rows) seat (Some made))
case_last n m q side cell case b (cases.OfContents source be) =
    let here = seat_of q side in
    let made : Assumed = record { side = side; reader = here; source = None } in
    (made, ap (λ (z : Path). z.last) be ∙ gone_last q side q.conj (record { position = initial_of here.position; first = here.first; width = here.width }) (Some made))

either_way : {A : Type 0} (C : Type 0) (o : Option A) → (o ≡ None → C) → ((x : A) → o ≡ Some x → C) → C
either_way C None f g = f refl
either_way C (Some x) f g = g x refl

-- the rest of the path goes on at what is left of the case
reads_on : (u : Unfolding) (left right : Flow) (claims : List Claim) → HaveFlows u.pair left right → (side : Side) (q : Path) (read : ReadFlow) (bs : List Path) → AreItsCases u (flow_on left right side) side q read bs
    → ((d : Path) → IsLeftOf (params_of u) read bs d → IsFineFrom u claims d) → (p : List ℤ) (y : PairOf) → Stepped u q p bs y → (path : List PairOf) → StepsOn (setting_of u) u.order y.0 y.1 path → FreeOn true claims y path → FineOn u true claims y path
reads_on u left right claims h side q read bs are next p y s path steps free =
    let n = params_of u in
    let m = going.model_of (pairing_of u.pair) side in
    let flow = flow_on left right side in
    let number = in_get s.branch bs s.among in
    let has = are.cases number.0 s.branch number.1 in
    let k = known u left right h side q s.branch has.case
    (record { reads = are.reads; read = read; among = are.among; position_is = are.position_is; branches_of = bs; are = are.are; number = number.0; branch_is = number.1; case_is = has.is }) in
    let a = case_last n m q side k.cell has.case s.branch k.branch in
    let count = reader_width u side flow q s.branch has.case p k (stand_there u q p s.params s.compared s.before_a s.before_b s.before) in
    let is_left = left_there u left right h side q s.branch has.case k (sym count) s.params s.compared (p ++ s.more) s.a s.b s.stands a.0 a.1 in
    let r = some_rest has.case.pieces (picked (case_columns n a.0) (p ++ s.more)) is_left in
    let made = rests_made m k.reader has.case (kind_of u side flow q s.branch has.case k) r.0 r.1 in
    either_way (FineOn u true claims y path) (at_rest n s.branch r.0.conj) (λ e. absurd (has.formed r.0 r.1 e)) (λ d e.
    let z = rest_there n s.branch d r.0.conj (p ++ s.more) s.formed s.stands.on.point made
    (λ w ew. subst (λ (b : Assumed). HasExtension r.0.conj (picked (case_columns n b) (p ++ s.more))) (some-is a.0 w (sym a.1 ∙ ew)) r.2) e in
    let there = comes_there u s.branch (p ++ s.more) s.params s.compared s.a s.b (bare_formed n s.branch s.formed) s.stands y s.placed in
    let grown = grows_there u s.branch d (p ++ s.more) z.more y there (bare_formed n d z.formed) z.seats z.point in
    goes_fine u claims d (next d (record { number = number.0; branch = s.branch; branch_is = number.1; case = has.case; case_is = has.is; rest = r.0; among = r.1; is = e }))
    (z.gone ∙ case_gone n m q side k.cell has.case s.branch k.branch) ((p ++ s.more) ++ z.more) y grown path steps free)

pub reads_fine : (u : Unfolding) (left right : Flow) (claims : List Claim) → HaveFlows u.pair left right → (side : Side) (q : Path) (read : ReadFlow) (bs : List Path) → GoesOn claims q → AreItsCases u (flow_on left right side) side q read bs
    → ((d : Path) → IsLeftOf (params_of u) read bs d → IsFineFrom u claims d) → IsFineFrom u claims q
reads_fine u left right claims h side q read bs goes are next p x t [] steps free = ends_on u claims q p x t goes (λ params c a b st. reads_no_mismatch u q p params c a b st side are.reads)
reads_fine u left right claims h side q read bs goes are next p x t (y ∷ path) steps free =
    let step = steps.0 in
    let keep = keeps_order u q p x t side are.reads step.params step.compared step.a step.b step.from in
    let s = stepped u q p x y bs t step (ap (λ (o : Order). branches (pairing_of u.pair) o q) keep ∙ are.are) in
    reads_on u left right claims h side q read bs are next p y s path steps.1 free.1
