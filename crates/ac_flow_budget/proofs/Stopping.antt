-- No question stops the flow of a model of differences.
use Rattle.std.proofs.Common.{◌≡◌, ◌⊎◌, inl, inr, ℕ, zero, suc, ◌+◌, ◌<◌, ◌≤◌, ◌^◌, lit<, lit≤, List, [], ◌∷◌, ◌++◌, length, get_or, Option, Some, None, arith, sym, ◌∙◌, subst}
use Rattle.std.specs.Prelude.{slice_get}
use Rattle.std.specs.List.{AllByRecursion}
use Rattle.ac_forms.specs.Affine.{Affine}
use Rattle.ac_forms.specs.Rows.{AreRowsOver}
use Rattle.ac_forms.specs.declared.conj.Conj.{Conj}
use Rattle.ac_forms.specs.declared.row.Row.{Row}
use Rattle.ac_poly.specs.CoordinateColumns.{CanBound}
use Rattle.ac_poly.specs.Model.{CellsHaveDimensions}
use Rattle.ac_poly.specs.declared.types.Model.{Model}
use Rattle.ac_base.proofs.Options.{some-is}
use Rattle.ac_omega_certify.specs.declared.strategy.Strategy.{Strategy}
use Rattle.ac_omega_certify.specs.declared.strategy.Strategy.TheVariants.{Full as Fully, Economical}
use Rattle.ac_flow.specs.CutStops.{CutStops}
use Rattle.ac_flow.specs.CaseRemainder.{AreLeftBy, IsWalkOf, CopyStops}
use Rattle.ac_flow.specs.declared.cut.CutStop.{CutStop}
use Rattle.ac_flow.specs.declared.cut.CutStop.TheVariants as cut
use Rattle.ac_omega.specs.declared.piece.Piece.{Piece}
use Rattle.ac_claims_paths.specs.InstanceCoordinates.{width}
use Rattle.ac_claims_paths.specs.WellFormedPaths.{HasModuli}
use Rattle.ac_claims_paths.specs.PathSteps.{root}
use Rattle.ac_claims_paths.specs.CopyKills.{case_width}
use Rattle.ac_forms.specs.ListMembers.{IsAmong}
use Rattle.ac_claims_paths.specs.declared.path.Assumed.{Assumed}
use Rattle.ac_claims_paths.specs.declared.path.CopyNumbers.{CopyNumbers}
use Rattle.ac_claims_paths.specs.declared.path.Seat.{Seat}
use Rattle.ac_flow.specs.FlowCases.{Reads, case_conj}
use Rattle.ac_flow.specs.Contexts.{ContextStops}
use Rattle.ac_flow.specs.Readers.{IsLowered, IsUnbounded, StopsAt, StopsAmong, readers}
use Rattle.ac_flow.specs.FlowStops.{UnformedStops, CopyOfStops, KillsStop, IsKillPiece, AreKillPieces, CutCaseStops, CaseStops, SourceStops}
use Rattle.ac_flow.specs.Writings.{reading, over, conj_of, writings}
use Rattle.ac_flow.specs.declared.types.ContextStop.{ContextStop}
use Rattle.ac_flow.specs.declared.types.ContextStop.TheVariants as context
use Rattle.ac_flow.specs.declared.types.FlowStop.{FlowStop}
use Rattle.ac_flow.specs.declared.types.FlowStop.TheVariants as flow
use Rattle.ac_flow.proofs.Overs.{is_over}
use Rattle.ac_flow_budget.specs.Models.{HasDifferences, StopsByNoQuestion, IsAnswered}
use Rattle.ac_flow_budget.proofs.Cutting.{AreKillsNarrow, cut-narrow, lacked-narrow}
use Rattle.ac_flow_budget.proofs.Asked.{never-wide, never-spent, never-large, pieces-fit, pieces-cost, pieces-narrow}
use Rattle.ac_flow_budget.proofs.Made.{IsPlaced, Nowhere, AtRoot, IsRead, IsMade, width-few, all-made}
use Rattle.ac_flow_budget.proofs.Readers.{reader-of}
use Rattle.ac_flow_budget.proofs.Reading.{is-read}
use Rattle.ac_flow_budget.proofs.Rows.{AreNarrow, all-at, narrow-more, narrow-both, negation-fits, rows-more}
use Rattle.ac_flow_budget.proofs.Shifted.{all-bounded}

-- neither a number that is too wide nor too great a cost
abbrev IsNoQuestion : CutStop → Type 0
IsNoQuestion (cut.Overflow q) = ⊥
IsNoQuestion (cut.Spent q k) = ⊥
IsNoQuestion cut.Full = Unit {0}
IsNoQuestion (cut.Memory e) = Unit {0}

-- ---- cut cases

cut-answered : (budget : ℕ) (kills : List (List Row)) (case : Conj) (e : CutStop) → 24334 ≤ budget → AreNarrow 22 (2 ^ 34) case.rows → AreKillsNarrow kills → CutStops budget case kills e → IsNoQuestion e
cut-answered budget kills case (cut.Overflow q) enough b h (inl (k, w)) = never-wide Fully budget q (cut-narrow kills case q b h k) w.1
cut-answered budget kills case (cut.Overflow q) enough b h (inr l) = l.lacks.lacks.1 (negation-fits (2 ^ 40) l.lacks.row (lit< tt) (lacked-narrow kills case q h l).difference)
cut-answered budget kills case (cut.Spent q j) enough b h (k, s) = never-spent Fully budget j q enough (cut-narrow kills case q b h k) s.1
cut-answered budget kills case cut.Full enough b h s = tt
cut-answered budget kills case (cut.Memory e) enough b h s = tt

-- ---- copies and kill pieces

-- a copy, as a question
pub record IsCopy (first : ℕ) (copy : Conj) : Type 0 where
  pub low : first ≤ copy.columns
  pub near : copy.columns ≤ first + 6
  pub few : copy.columns ≤ 22
  pub narrow : AreNarrow copy.columns (2 ^ 34) copy.rows

pub copy-is : (m : Model) (r : Reads) (source : Option Seat) (w : CopyNumbers) (copy : Conj) → HasDifferences (2 ^ 33) m → IsRead m r → IsPlaced m r.count source → IsMade m (reading m r.position r.count source) w → conj_of m (reading m r.position r.count source) w ≡ Some copy
    → IsCopy (case_width m.params (reading m r.position r.count source)) copy
copy-is m r source w copy d h p k e =
    let a = reading m r.position r.count source in
    let i : over (case_width m.params a + width k.stmt) k.rows ≡ copy = some-is _ copy (sym k.made ∙ e) in
    let few = width-few m r source d h p in
    subst (IsCopy (case_width m.params a)) i (record { low = omega arith; near = omega (arith, k.few); few = omega (arith, k.few, few); narrow = k.narrow })

copy-answered : (budget first : ℕ) (copy : Conj) (e : CutStop) → 24334 ≤ budget → IsCopy first copy → CopyStops budget first copy e → IsNoQuestion e
copy-answered budget first copy (cut.Overflow c) enough k s = pieces-fit Fully _ budget copy k.narrow.over k.few (rows-more (2 ^ 34) (2 ^ 48) copy.rows (lit≤ tt) k.narrow.differences) s.2
copy-answered budget first copy (cut.Spent c j) enough k s = pieces-cost Fully _ budget s.2 copy enough k.narrow.over k.few (rows-more (2 ^ 34) (2 ^ 48) copy.rows (lit≤ tt) k.narrow.differences) s.3
copy-answered budget first copy cut.Full enough k s = tt
copy-answered budget first copy (cut.Memory e) enough k s = tt

left-narrow : (strategy : Strategy) (budget first : ℕ) (copy : Conj) (ps : List Piece) → IsCopy first copy → AreLeftBy strategy budget first copy ps → AllByRecursion (λ (piece : Piece). AreNarrow first (2 ^ 40) piece.rest.rows) ps
left-narrow strategy budget first copy ps k (cost, e) = pieces-narrow strategy first budget cost copy ps k.narrow.over k.low k.near k.few k.narrow.differences e

walk-narrow : (budget first : ℕ) (copy : Conj) (ps : List Piece) → IsCopy first copy → IsWalkOf budget first copy ps → AllByRecursion (λ (piece : Piece). AreNarrow first (2 ^ 40) piece.rest.rows) ps
walk-narrow budget first copy ps k (inl l) = left-narrow Economical budget first copy ps k l
walk-narrow budget first copy ps k (inr l) = left-narrow Fully budget first copy ps k l.1

-- what is known along all cases of a reader
pub record Setting (m : Model) (r : Reads) : Type 0 where
  pub moduli : HasModuli m
  pub context : AreRowsOver m.params m.context
  pub differences : HasDifferences (2 ^ 33) m
  pub read : IsRead m r

pub made-for : (budget : ℕ) (m : Model) (r : Reads) (source : Option Seat) (w : CopyNumbers) → Setting m r → IsPlaced m r.count source → IsAmong w (writings m r.position r.array source) → IsMade m (reading m r.position r.count source) w
made-for budget m r source w t p i = all-made m r source w t.moduli t.differences t.read p i

some-none : {A : Type 0} (o : Option A) (x : A) → o ≡ Some x → o ≡ None → ⊥
some-none o x e f = cc

unformed-answered : (m : Model) (a : Assumed) (w : CopyNumbers) (e : CutStop) → IsMade m a w → UnformedStops m a w e → IsNoQuestion e
unformed-answered m a w (cut.Overflow q) k s = some-none (conj_of m a w) _ k.made s.0
unformed-answered m a w (cut.Spent q j) k s = s
unformed-answered m a w cut.Full k s = tt
unformed-answered m a w (cut.Memory e) k s = tt

kills-answered : (budget : ℕ) (m : Model) (r : Reads) (source : Option Seat) (e : CutStop) → 24334 ≤ budget → Setting m r → IsPlaced m r.count source → KillsStop budget m (reading m r.position r.count source) (writings m r.position r.array source) e → IsNoQuestion e
kills-answered budget m r source e enough t p s = by s.stops
  where
    a : Assumed
    a = reading m r.position r.count source

    made : IsMade m a s.writing
    made = made-for budget m r source s.writing t p s.among

    by : UnformedStops m a s.writing e ⊎ CopyOfStops budget m a s.writing e → IsNoQuestion e
    by (inl u) = unformed-answered m a s.writing e made u
    by (inr c) = copy-answered budget (case_width m.params a) c.copy e enough (copy-is m r source s.writing c.copy t.differences t.read p made c.made) c.stops

kill-narrow : (budget : ℕ) (m : Model) (r : Reads) (source : Option Seat) (kill : List Row) → Setting m r → IsPlaced m r.count source → IsKillPiece budget m (reading m r.position r.count source) (writings m r.position r.array source) kill → AreNarrow 22 (2 ^ 40) kill
kill-narrow budget m r source kill t p k =
    let a = reading m r.position r.count source in
    let first = case_width m.params a in
    let made = made-for budget m r source k.writing t p k.among in
    let all = walk-narrow budget first k.copy k.pieces (copy-is m r source k.writing k.copy t.differences t.read p made k.made) k.walk in
    let one : AreNarrow first (2 ^ 40) k.piece.rest.rows = all-at (λ (piece : Piece). AreNarrow first (2 ^ 40) piece.rest.rows) k.pieces k.piece all k.found in
    let few = width-few m r source t.differences t.read p in
    subst (AreNarrow 22 (2 ^ 40)) (sym k.rows) (narrow-more first 22 (2 ^ 40) (2 ^ 40) k.piece.rest.rows (omega (arith, few)) (omega arith) one)

kill-at : (budget : ℕ) (m : Model) (r : Reads) (source : Option Seat) (kills : List (List Row)) (kill : List Row) (k : ℕ) → Setting m r → IsPlaced m r.count source → AreKillPieces budget m (reading m r.position r.count source) (writings m r.position r.array source) kills
    → k < length kills → get_or kills k kill ≡ kill → AreNarrow 22 (2 ^ 40) kill
kill-at budget m r source [] kill k t p a l e = absurd (omega arith)
kill-at budget m r source (x ∷ xs) kill zero t p a l e = subst (AreNarrow 22 (2 ^ 40)) e (kill-narrow budget m r source x t p a.0)
kill-at budget m r source (x ∷ xs) kill (suc k) t p a l e = kill-at budget m r source xs kill k t p a.1 (omega arith) e

pub kills-narrow : (budget : ℕ) (m : Model) (r : Reads) (source : Option Seat) (kills : List (List Row)) → Setting m r → IsPlaced m r.count source → AreKillPieces budget m (reading m r.position r.count source) (writings m r.position r.array source) kills → AreKillsNarrow kills
unfolding AreKillsNarrow
kills-narrow budget m r source kills t p a = λ kill k. kill-at budget m r source kills kill k.0 t p a k.1 k.2

-- ---- cases

pub base-narrow : (budget : ℕ) (m : Model) (r : Reads) (columns : ℕ) (rows piece : List Row) → Setting m r → AreNarrow 22 (2 ^ 34) rows → IsAmong piece r.pieces → AreNarrow 22 (2 ^ 34) (case_conj m columns rows piece).rows
base-narrow budget m r columns rows piece t n i =
    let d = t.differences in
    let few = t.read.few in
    let x : AreNarrow 22 (2 ^ 34) m.context = narrow-more m.params 22 (2 ^ 33) (2 ^ 34) m.context (omega (arith, d.params)) (lit≤ tt) (record { over = t.context; differences = d.context }) in
    let y : AreNarrow 22 (2 ^ 34) piece = narrow-more (m.params + r.count) 22 (2 ^ 34) (2 ^ 34) piece (omega (arith, d.params, few)) (omega arith) (t.read.pieces piece i) in
    narrow-both 22 (2 ^ 34) m.context (piece ++ rows) x (narrow-both 22 (2 ^ 34) piece rows y n)

cut-case-answered : (budget : ℕ) (m : Model) (r : Reads) (source : Option Seat) (columns : ℕ) (rows : List Row) (e : CutStop) → 24334 ≤ budget → Setting m r → IsPlaced m r.count source → AreNarrow 22 (2 ^ 34) rows
    → CutCaseStops budget m (reading m r.position r.count source) (writings m r.position r.array source) columns rows r.pieces e → IsNoQuestion e
cut-case-answered budget m r source columns rows e enough t p n s =
    cut-answered budget s.kills (case_conj m columns rows s.stops.piece) e enough (base-narrow budget m r columns rows s.stops.piece t n s.stops.among) (kills-narrow budget m r source s.kills t p s.found) s.stops.stops

case-by : (budget : ℕ) (m : Model) (r : Reads) (source : Option Seat) (columns : ℕ) (rows : List Row) (e : CutStop) → 24334 ≤ budget → Setting m r → IsPlaced m r.count source → AreNarrow 22 (2 ^ 34) rows
    → KillsStop budget m (reading m r.position r.count source) (writings m r.position r.array source) e ⊎ CutCaseStops budget m (reading m r.position r.count source) (writings m r.position r.array source) columns rows r.pieces e → IsNoQuestion e
case-by budget m r source columns rows e enough t p n (inl s) = kills-answered budget m r source e enough t p s
case-by budget m r source columns rows e enough t p n (inr s) = cut-case-answered budget m r source columns rows e enough t p n s

case-answered : (budget : ℕ) (m : Model) (r : Reads) (source : Option Seat) (columns : ℕ) (rows : List Row) (e : CutStop) → 24334 ≤ budget → Setting m r → IsPlaced m r.count source → AreNarrow 22 (2 ^ 34) rows → CaseStops budget m r source columns rows e → IsNoQuestion e
case-answered budget m r source columns rows (cut.Overflow q) enough t p n s = case-by budget m r source columns rows (cut.Overflow q) enough t p n s
case-answered budget m r source columns rows (cut.Spent q k) enough t p n s = case-by budget m r source columns rows (cut.Spent q k) enough t p n s
case-answered budget m r source columns rows cut.Full enough t p n s = tt
case-answered budget m r source columns rows (cut.Memory e) enough t p n s = tt

source-answered : (budget : ℕ) (m : Model) (r : Reads) (w : CopyNumbers) (e : CutStop) → 24334 ≤ budget → Setting m r → IsAmong w (writings m r.position r.array None) → SourceStops budget m r w e → IsNoQuestion e
source-answered budget m r w e enough t i (inl u) = unformed-answered m (reading m r.position r.count None) w e (made-for budget m r None w t Nowhere i) u
source-answered budget m r w e enough t i (inr (stmt, own, is, formed, s)) =
    let k = copy-is m r None w own t.differences t.read Nowhere (made-for budget m r None w t Nowhere i) formed in
    case-answered budget m r (Some (root (m.params + r.count) w.stmt stmt)) own.columns own.rows e enough t (AtRoot w.stmt stmt is) (narrow-more own.columns 22 (2 ^ 34) (2 ^ 34) own.rows k.few (omega arith) k.narrow) s

no-rows : AreNarrow 22 (2 ^ 34) []
no-rows = record { over = tt; differences = tt }

read-by : (budget : ℕ) (m : Model) (r : Reads) (e : CutStop) → 24334 ≤ budget → Setting m r → ((w : CopyNumbers) × IsAmong w (writings m r.position r.array None) × SourceStops budget m r w e) ⊎ CaseStops budget m r None (m.params + r.count) [] e → IsNoQuestion e
read-by budget m r e enough t (inl (w, i, s)) = source-answered budget m r w e enough t i s
read-by budget m r e enough t (inr s) = case-answered budget m r None (m.params + r.count) [] e enough t Nowhere no-rows s

-- ---- the flow and the context

at-answered : (budget : ℕ) (m : Model) (r : Reads) (e : FlowStop) → 24334 ≤ budget → Setting m r → StopsAt budget m r e → StopsByNoQuestion e
at-answered budget m r (flow.Overflow q) enough t s = read-by budget m r (cut.Overflow q) enough t s
at-answered budget m r (flow.Spent q k) enough t s = read-by budget m r (cut.Spent q k) enough t s
at-answered budget m r (flow.Pieces position kept) enough t s = tt
at-answered budget m r (flow.Memory e) enough t s = tt

bounded-answered : (m : Model) (extents : List Affine) (e : FlowStop) → CanBound m.params extents → IsUnbounded m extents e → StopsByNoQuestion e
bounded-answered m extents (flow.Overflow q) c s = s.0 c
bounded-answered m extents (flow.Spent q k) c s = s
bounded-answered m extents (flow.Pieces position kept) c s = tt
bounded-answered m extents (flow.Memory e) c s = tt

pub setting : (m : Model) (r : Reads) → IsLowered m → CellsHaveDimensions m → HasDifferences (2 ^ 33) m → IsAmong r (readers m) → Setting m r
setting m r l dims d i = let o = is_over m l in record { moduli = o.moduli; context = o.context; differences = d; read = is-read m r o dims d (reader-of m r i) }

pub flow-answered : (budget : ℕ) (m : Model) (e : FlowStop) → IsLowered m → CellsHaveDimensions m → HasDifferences (2 ^ 33) m → 24334 ≤ budget → StopsAmong budget m (readers m) e → StopsByNoQuestion e
flow-answered budget m e l dims d enough s = by s.why
  where
    by : ((r : Reads) × IsAmong r (readers m) × StopsAt budget m r e) ⊎ ((array : ℕ) × (extents : List Affine) × (slice_get m.extents array ≡ Some extents) × IsUnbounded m extents e) → StopsByNoQuestion e
    by (inl (r, i, t)) = at-answered budget m r e enough (setting m r l dims d i) t
    by (inr (array, extents, is, u)) = bounded-answered m extents e (all-bounded (2 ^ 33) m.params extents (lit< tt) (d.extents array extents is)) u

pub context-narrow : (m : Model) (q : Conj) → IsLowered m → HasDifferences (2 ^ 33) m → q ≡ over m.params m.context → AreNarrow 22 (2 ^ 48) q.rows
context-narrow m q l d i =
    subst (λ (c : Conj). AreNarrow 22 (2 ^ 48) c.rows) (sym i) (narrow-more m.params 22 (2 ^ 33) (2 ^ 48) m.context (omega (arith, d.params)) (lit≤ tt) (record { over = (is_over m l).context; differences = d.context }))

pub context-answered : (budget : ℕ) (m : Model) (e : ContextStop) → IsLowered m → HasDifferences (2 ^ 33) m → 24334 ≤ budget → ContextStops budget m e → IsAnswered e
context-answered budget m context.EmptyContext l d enough s = tt
context-answered budget m (context.Overflow q) l d enough (i, inl w) = never-wide Fully budget q (context-narrow m q l d i) w
context-answered budget m (context.Overflow q) l d enough (i, inr w) = never-large Fully budget q (context-narrow m q l d i) w
context-answered budget m (context.Spent q k) l d enough (i, s) = never-spent Fully budget k q enough (context-narrow m q l d i) s
context-answered budget m (context.Memory e) l d enough s = tt
