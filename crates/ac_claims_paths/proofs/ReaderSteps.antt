-- The branches of a path at a reader lead to what it reads.
use Rattle.std.proofs.Common.{◌≡◌, ℕ, ◌+◌, ◌&&◌, ◌⊎◌, ℤ, List, [], ◌∷◌, ◌++◌, map, length, Option, Some, None, refl, sym, ap, ◌∙◌, subst, append-nil}
use Rattle.std.specs.Prelude.{slice_get, option_map, option_and_then}
use Rattle.ac_syntax.specs.Algebra.{Cell}
use Rattle.ac_syntax.specs.Index.{Point}
use Rattle.ac_syntax.specs.ValueNodes.{node_of}
use Rattle.ac_syntax.specs.Source.{Writer, source}
use Rattle.ac_syntax.specs.Spot.{Spot, AtNode, AtStart, Reads, an_output, an_access, cell_at, resolved}
use Rattle.ac_syntax.specs.Trace.{Entry}
use Rattle.ac_syntax.specs.Where.{element}
use Rattle.ac_syntax.specs.declared.tree.Position.{Position}
use Rattle.ac_syntax.specs.declared.tree.Position.TheVariants.{Output, Node, InitialOutput, InitialNode}
use Rattle.ac_syntax.specs.declared.tree.Symbol.{Symbol}
use Rattle.ac_syntax.specs.declared.tree.Value.{Value}
use Rattle.ac_syntax.specs.declared.tree.Value.TheVariants.{Access}
use Rattle.ac_forms.specs.Affine.{Affine}
use Rattle.ac_forms.specs.Renaming.{picked}
use Rattle.ac_forms.specs.declared.conj.Conj.{Conj}
use Rattle.ac_poly.specs.declared.types.Model.{Model}
use Rattle.ac_poly.specs.declared.types.NodeModel.{NodeModel}
use Rattle.ac_poly.specs.declared.types.NodeModel.TheVariants.{Read}
use Rattle.ac_poly.specs.declared.types.StmtModel.{StmtModel}
use Rattle.ac_omega_steps.specs.IntegerPoints.{IsPoint}
use Rattle.ac_base.proofs.Options.{some-is}
use Rattle.ac_claims_paths.specs.PathColumns.{base, columns_of}
use Rattle.ac_claims_paths.specs.InstanceCoordinates.{width}
use Rattle.ac_claims_paths.specs.Executions.{Execution, At, Describes}
use Rattle.ac_claims_paths.specs.PathSteps.{model_of, seat_of, gone_to, read_branches, branches}
use Rattle.ac_forms.specs.ListMembers.{IsAmong}
use Rattle.ac_claims_paths.specs.Pairs.{Placed, IsAt, IsResolved, ResolvesTo, IsCallOf, StandsOn, StandsBehind}
use Rattle.ac_claims_paths.specs.ModelPositions.{cell_read, initial_of, read_of, element_forms}
use Rattle.ac_claims_paths.specs.declared.path.Assumed.{Assumed}
use Rattle.ac_claims_paths.specs.declared.path.Path.{Path}
use Rattle.ac_claims_paths.specs.declared.path.Seat.{Seat}
use Rattle.ac_claims_paths.specs.declared.path.Side.{Side}
use Rattle.ac_claims_paths.specs.declared.path.Side.TheVariants.{Left, Right}
use Rattle.ac_claims_paths.specs.declared.places.CellForms.{CellForms}
use Rattle.ac_claims_paths.proofs.OnPaths.{Compared, execution_of, describes_of, AtSeat, ReaderAt, LastAt, SeatIn, InPath, OnPath, pick_more, seat_columns}
use Rattle.ac_claims_paths.proofs.Heres.{reading, same_read}
use Rattle.ac_claims_paths.proofs.ReadSteps.{source_case, initial_among, on_left, on_right}

-- a position names one spot at its coordinates
pub at_once : (m : Model) (params : List ℤ) (x : Execution) → Describes m params x → (P : Position) (at : List ℤ) (s t : Spot) → At x P at s → At x P at t → s ≡ t
unfolding At
at_once m params x d (Output o) at s t h k = h.1 ∙ sym k.1
at_once m params x d (Node j n) at s t (w, i, v, e, is) (w', i', v', e', is') =
    let one : w ≡ w' = d.once w w' i.stands i'.stands (i.stmt ∙ sym i'.stmt) (i.coords ∙ sym i'.coords) in
    let same : v ≡ v' = some-is v v' (sym e ∙ ap (λ (z : Writer). node_of z.entry.value n) one ∙ e') in
    is ∙ (λ z. AtNode (one z) (same z)) ∙ sym is'
at_once m params x d (InitialOutput o) at s t h k = h.1 ∙ sym k.1
at_once m params x d (InitialNode j n) at s t (w, i, a, b, c, e, is) (w', i', a', b', c', e', is') =
    let one : w ≡ w' = d.once w w' i.stands i'.stands (i.stmt ∙ sym i'.stmt) (i.coords ∙ sym i'.coords) in
    let same : Access a b c ≡ Access a' b' c' = some-is (Access a b c) (Access a' b' c') (sym e ∙ ap (λ (z : Writer). node_of z.entry.value n) one ∙ e') in
    let ea : a ≡ a' = cc in
    let eb : b ≡ b' = cc in
    is ∙ (λ z. AtStart (cell_at (one z) (ea z) (eb z))) ∙ sym is'

-- what a reader reads
pub same_before : (es : List Entry) (s t : Spot) (c d : Cell) (before later : List Entry) → Reads es s c before → Reads es t d later → s ≡ t → before ≡ later
same_before es s t c d before later (an_output e) (an_output f) i = refl
same_before es s t c d before later (an_output e) (an_access w array subs place) i = absurd cc
same_before es s t c d before later (an_access w array subs place) (an_output f) i = absurd cc
same_before es s t c d before later (an_access w array subs place) (an_access w' array' subs' place') i = let j : w ≡ w' = cc in ap (λ (z : Writer). z.earlier) j

-- a call reads nothing
pub no_call_reads : (es : List Entry) (s : Spot) (c : Cell) (before : List Entry) → Reads es s c before → (w : Writer) (v : Value) (node : ℕ) (f : Symbol) (ks : List ℕ) → s ≡ AtNode w v → IsCallOf v node f ks → ⊥
no_call_reads es s c before (an_output e) w v node f ks i h = absurd cc
no_call_reads es s c before (an_access u array subs place) w v node f ks i h = let j : v ≡ Access array subs place = cc in subst (λ (z : Value). IsCallOf z node f ks) j h

-- where the model has no read, none stands
pub no_map : {A B : Type 0} (F : A → B) (o : Option A) (x : A) → o ≡ Some x → option_map F o ≡ None → ⊥
no_map F o x q e = let i : Some (F x) ≡ None = subst (λ z. option_map F z ≡ None) q e in absurd cc

pub no_read : (m : Model) (k j : ℕ) (stmt : StmtModel) (array : ℕ) (forms : List Affine) → slice_get m.stmts k ≡ Some stmt → slice_get stmt.nodes j ≡ Some (Read array forms) → cell_read m (Node k j) ≡ None → ⊥
no_read m k j stmt array forms is n e =
    let a : option_and_then read_of (slice_get stmt.nodes j) ≡ None = subst (λ (o : Option StmtModel). option_and_then read_of (option_and_then (λ (st : StmtModel). slice_get st.nodes j) o) ≡ None) is e in
    let c : Some (record { array = array; subs = forms }) ≡ None = subst (λ (o : Option NodeModel). option_and_then read_of o ≡ None) n a in
    absurd cc

pub not_reader : (m : Model) (params : List ℤ) (x : Execution) → Describes m params x → (P : Position) (at : List ℤ) (s : Spot) → cell_read m P ≡ None → At x P at s → (c : Cell) (before : List Entry) → Reads x.trace s c before → ⊥
unfolding At
not_reader m params x d (Output o) at s e h c before r =
    let f = d.elements o at h.0 in
    no_map (λ (extents : List Affine). record { array = o; subs = element_forms m.params (length extents) }) (slice_get m.extents o) f.extents f.is e
not_reader m params x d (Node k j) at s e (w, i, v, n, is) c before r = by s c before r is
  where
    by : (s : Spot) (c : Cell) (before : List Entry) → Reads x.trace s c before → s ≡ AtNode w v → ⊥
    by s c before (an_output z) q = absurd cc
    by s c before (an_access u array subs place) q =
        let mo = d.entry w i.stands in
        let same : v ≡ Access array subs place = cc in
        let sh = d.node w mo.stmt i.stands mo.is j (Access array subs place) (n ∙ ap Some same) in
        no_read m k j mo.stmt array sh.0 (ap (slice_get m.stmts) (sym i.stmt) ∙ mo.is) sh.1 e
not_reader m params x d (InitialOutput o) at s e h c before r = by s c before r h.1
  where
    by : (s : Spot) (c : Cell) (before : List Entry) → Reads x.trace s c before → s ≡ AtStart (element o at) → ⊥
    by s c before (an_output z) q = absurd cc
    by s c before (an_access u array subs place) q = absurd cc
not_reader m params x d (InitialNode k j) at s e (w, i, array, subs, place, n, is) c before r = by s c before r is
  where
    by : (s : Spot) (c : Cell) (before : List Entry) → Reads x.trace s c before → s ≡ AtStart (cell_at w array subs) → ⊥
    by s c before (an_output z) q = absurd cc
    by s c before (an_access u array' subs' place') q = absurd cc

-- the seat behind a step of a read: that of the source, or the initial one
pub SeatIs : Execution → Seat → List ℤ → Option Writer → Seat → List ℤ → Type 0
SeatIs x reader p None seat q = (seat.position ≡ initial_of reader.position) × (picked (columns_of seat) q ≡ picked (columns_of reader) p)
SeatIs x reader p (Some w) seat q = (seat.position ≡ Node w.entry.stmt 0) × (picked (columns_of seat) q ≡ x.coords w.entry)

pub record ReadBranch (g : Compared) (h : Path) (side : Side) (hs : List Path) (p : List ℤ) (c : Cell) (o : Option Writer) : Type 0 where
  pub conj : Conj
  pub seat : Seat
  pub last : Option Assumed
  pub more : List ℤ
  pub among : IsAmong (gone_to h side conj seat last) hs
  pub point : IsPoint conj (p ++ more)
  pub at : AtSeat (execution_of g side) seat (p ++ more) (resolved c o)
  pub assumed : LastAt g last (p ++ more)
  pub placed : SeatIs (execution_of g side) (seat_of h side) p o seat (p ++ more)

pub of_option : {A : Type 0} (C : Option A → Type 0) (o : Option A) → (o ≡ None → C None) → ((w : A) → o ≡ Some w → C (Some w)) → C o
of_option C None f h = f refl
of_option C (Some w) f h = h w refl

pub read_branch : (g : Compared) (h : Path) (side : Side) (cell : CellForms) (hs : List Path) (p : List ℤ) (s : Spot) (c : Cell) (before : List Entry) → InPath g h → SeatIn (seat_of h side) h.conj.columns → IsPoint h.conj p → picked (base g.pairing.params) p ≡ g.params
    → cell_read (model_of g.pairing side) (seat_of h side).position ≡ Some cell → read_branches g.pairing.params (model_of g.pairing side) h side cell ≡ Some hs → AtSeat (execution_of g side) (seat_of h side) p s → Reads (execution_of g side).trace s c before
    → ReadBranch g h side hs p c (source c before)
unfolding SeatIs
read_branch g h side cell hs p s c before i ri point starts e br here reads =
    let x = execution_of g side in
    let d = describes_of g side in
    let reader = seat_of h side in
    let at = picked (columns_of reader) p in
    let r : ReaderAt x reader p = record { spot = s; cell = c; before = before; here = here; reads = reads } in
    let rd = reading (model_of g.pairing side) g.params x d reader.position at cell s e here in
    let rc : c ≡ rd.read = same_read x.trace s rd.read rd.before c before rd.reads reads in
    let initial : Seat = record { position = initial_of reader.position; first = reader.first; width = reader.width } in
    of_option (λ o. ReadBranch g h side hs p c o) (source c before)
    (λ none. record {
      conj = h.conj;
      seat = initial;
      last = Some (record { side = side; reader = reader; source = None });
      more = [];
      among = initial_among g h side cell hs br;
      point = subst (IsPoint h.conj) (sym (append-nil p)) point;
      at = subst (λ q. At x (initial_of reader.position) (picked (columns_of reader) q) (AtStart c)) (sym (append-nil p)) (subst (λ z. At x (initial_of reader.position) at (AtStart z)) (sym rc) rd.initial);
      assumed = subst (λ q. LastAt g (Some (record { side = side; reader = reader; source = None })) q) (sym (append-nil p)) (r, none);
      placed = (refl, ap (picked (columns_of reader)) (append-nil p));
    })
    (λ w src.
    let k = source_case g h side cell hs p r w i.base_in ri i.made point starts e br src in
    record { conj = k.conj; seat = k.seat; last = k.last; more = k.more; among = k.among; point = k.point; at = k.at; assumed = k.assumed; placed = (k.position_is, k.coords_are) })

pub spot_of : (x : Execution) (a b : Placed x) (c : Cell) (o : Option Writer) → IsResolved x a c o b → b.spot ≡ resolved c o
spot_of x a b c None r = r.spot_is
spot_of x a b c (Some w) r = r.spot_is

pub seat_at : (x : Execution) (a b : Placed x) (c : Cell) (o : Option Writer) (reader seat : Seat) (p q : List ℤ) → IsResolved x a c o b → SeatIs x reader p o seat q → IsAt x a reader.position (picked (columns_of reader) p) a.spot → IsAt x b seat.position (picked (columns_of seat) q) b.spot
unfolding SeatIs
seat_at x a b c None reader seat p q r s i = record { position_is = r.position_is ∙ ap initial_of i.position_is ∙ sym s.0; at_is = r.at_is ∙ i.at_is ∙ sym s.1; spot_is = refl }
seat_at x a b c (Some w) reader seat p q r s i = record { position_is = r.position_is ∙ sym s.0; at_is = r.at_is ∙ sym s.1; spot_is = refl }

-- the side that stays
pub stays : (x : Execution) (b b' : Placed x) (seat : Seat) (p more : List ℤ) (n : ℕ) → length p ≡ n → SeatIn seat n → IsAt x b seat.position (picked (columns_of seat) p) b.spot → IsAt x b' b.position b.at b.spot → IsAt x b' seat.position (picked (columns_of seat) (p ++ more)) b'.spot
stays x b b' seat p more n l i k s = record {
  position_is = s.position_is ∙ k.position_is;
  at_is = s.at_is ∙ k.at_is ∙ sym (pick_more (columns_of seat) p more n l (seat_columns seat n i));
  spot_is = refl;
}

pub left_forward : (g : Compared) (h : Path) (cell : CellForms) (hs : List Path) → InPath g h → cell_read g.pairing.left h.left.position ≡ Some cell → read_branches g.pairing.params g.pairing.left h Left cell ≡ Some hs
    → (p : List ℤ) (a a' : Placed g.left) (b b' : Placed g.right) → StandsOn g h p a b → ResolvesTo g.left a a' → IsAt g.right b' b.position b.at b.spot → StandsBehind g hs p a' b'
left_forward g h cell hs i e br p a a' b b' st ((c, before, reads), res) same =
    let rb = read_branch g h Left cell hs p a.spot c before i i.left_in st.on.point st.on.starts e br st.on.left reads in
    let k = gone_to h Left rb.conj rb.seat rb.last in
    let q = p ++ rb.more in
    let o = source c before in
    let on = on_left g h p a.spot b.spot i st.on rb.conj rb.seat rb.last rb.more (resolved c o) rb.point rb.at rb.assumed in
    let on' : OnPath g k q a'.spot b'.spot = subst (λ s. OnPath g k q s b'.spot) (sym (spot_of g.left a a' c o res)) (subst (λ t. OnPath g k q (resolved c o) t) (sym same.spot_is) on) in (
      k,
      rb.among,
      rb.more,
      record {
        on = on';
        left = seat_at g.left a a' c o h.left rb.seat p q res rb.placed st.left;
        right = stays g.right b b' h.right p rb.more h.conj.columns st.on.point.long i.right_in st.right same;
      },
    )

pub right_forward : (g : Compared) (h : Path) (cell : CellForms) (hs : List Path) → InPath g h → cell_read g.pairing.right h.right.position ≡ Some cell → read_branches g.pairing.params g.pairing.right h Right cell ≡ Some hs
    → (p : List ℤ) (a a' : Placed g.left) (b b' : Placed g.right) → StandsOn g h p a b → ResolvesTo g.right b b' → IsAt g.left a' a.position a.at a.spot → StandsBehind g hs p a' b'
right_forward g h cell hs i e br p a a' b b' st ((c, before, reads), res) same =
    let rb = read_branch g h Right cell hs p b.spot c before i i.right_in st.on.point st.on.starts e br st.on.right reads in
    let k = gone_to h Right rb.conj rb.seat rb.last in
    let q = p ++ rb.more in
    let o = source c before in
    let on = on_right g h p a.spot b.spot i st.on rb.conj rb.seat rb.last rb.more (resolved c o) rb.point rb.at rb.assumed in
    let on' : OnPath g k q a'.spot b'.spot = subst (λ t. OnPath g k q a'.spot t) (sym (spot_of g.right b b' c o res)) (subst (λ s. OnPath g k q s (resolved c o)) (sym same.spot_is) on) in (
      k,
      rb.among,
      rb.more,
      record {
        on = on';
        left = stays g.left a a' h.left p rb.more h.conj.columns st.on.point.long i.left_in st.left same;
        right = seat_at g.right b b' c o h.right rb.seat p q res rb.placed st.right;
      },
    )
