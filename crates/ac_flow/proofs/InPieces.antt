-- The rows of a case hold in exactly one piece of a reader that stands at its coordinates.
use Rattle.std.proofs.Common.{◌≡◌, inl, inr, ℕ, zero, suc, ◌+◌, ℤ, List, [], ◌∷◌, ◌++◌, length, Some, None, refl, sym, ap, ◌∙◌, subst, arith, append_assoc, append-nil, length-append}
use Rattle.std.specs.Prelude.{slice_get}
use Rattle.ac_forms.specs.Rows.{Meets, AreRowsOver}
use Rattle.ac_forms.specs.declared.row.Row.{Row}
use Rattle.ac_syntax.specs.Algebra.{Cell}
use Rattle.ac_syntax.specs.Trace.{Entry}
use Rattle.ac_poly.specs.Model.{model_of, PiecesAreApart}
use Rattle.ac_forms.specs.PieceMembership.{IsInOneAtMost}
use Rattle.ac_poly.specs.declared.types.Model.{Model}
use Rattle.ac_poly.proofs.PiecesApart.{pieces_are_apart}
use Rattle.ac_omega_steps.proofs.Keeping.{Meets-append}
use Rattle.ac_claims_paths.specs.Executions.{Execution, execution}
use Rattle.ac_forms.specs.ListMembers.{IsAmong}
use Rattle.ac_claims_paths.specs.Pairs.{Placed}
use Rattle.ac_claims_paths.proofs.Moving.{meets-parts, meets-both}
use Rattle.ac_flow.specs.FlowCases.{Reads, CanRead, ArePiecesOver}
use Rattle.ac_flow.specs.Readers.{readers, IsFlowOf, AreFlows, IsOver}
use Rattle.ac_flow.specs.Writings.{reading, writing, conj_of}
use Rattle.ac_flow.specs.declared.types.Case.{Case}
use Rattle.ac_flow.specs.declared.types.ReadFlow.{ReadFlow}
use Rattle.ac_flow.proofs.CopyParts.{somewhere_at}
use Rattle.ac_flow.proofs.Exact.{ReadHere}
use Rattle.ac_flow.proofs.Linking.{IsReader, OfNode, OfOutput, is_reader}
use Rattle.ac_flow.proofs.Overs.{is_over, can_read, can_read_elements}
use Rattle.ac_flow.specs.SourceSteps.{MeetsInPiece, StartsInPiece, IsInOnePiece, CasesAreInPieces, FlowsAreOfReaders}
use Rattle.ac_flow.proofs.Stepping.{Reading, readings, found}
use Rattle.ac_forms.proofs.InPieces.{some-at, none-or}
use Rattle.ac_flow.proofs.FlowSources.{reader_can}

-- ---- one piece

pieces_apart : (m : Model) → PiecesAreApart m → (r : Reads) → IsReader m r → (p : List ℤ) → IsInOneAtMost Meets r.pieces p
pieces_apart m apart r (OfNode s k stmt array subs is e) p = apart s stmt p is
pieces_apart m apart r (OfOutput o extents is) p = ((λ h. tt), tt)

one_number : (qs : List (List Row)) (p : List ℤ) (k l : ℕ) (q r : List Row) → IsInOneAtMost Meets qs p → slice_get qs k ≡ Some q → slice_get qs l ≡ Some r → Meets q p → Meets r p → k ≡ l
one_number [] p k l q r a e f h g = absurd cc
one_number (x ∷ qs) p zero zero q r a e f h g = refl
one_number (x ∷ qs) p zero (suc l) q r a e f h g = let i : x ≡ q = cc in absurd (none-or Meets qs p (a.0 (subst (λ (z : List Row). Meets z p) (sym i) h)) (some-at Meets qs l r p f g))
one_number (x ∷ qs) p (suc k) zero q r a e f h g = let i : x ≡ r = cc in absurd (none-or Meets qs p (a.0 (subst (λ (z : List Row). Meets z p) (sym i) g)) (some-at Meets qs k q p e h))
one_number (x ∷ qs) p (suc k) (suc l) q r a e f h g = ap suc (one_number qs p k l q r a.1 e f h g)

-- ---- its rows, with the coordinates of a source behind

piece_over : (n : ℕ) (qs : List (List Row)) (k : ℕ) (q : List Row) → ArePiecesOver n qs → slice_get qs k ≡ Some q → AreRowsOver n q
piece_over n [] k q w e = absurd cc
piece_over n (r ∷ qs) zero q w e = let i : r ≡ q = cc in subst (AreRowsOver n) i w.0
piece_over n (r ∷ qs) (suc k) q w e = piece_over n qs k q w.1 e

-- a piece of the reader whose rows hold, with those of the context
record Holds (m : Model) (params : List ℤ) (r : Reads) (at : List ℤ) (ys : List ℤ) : Type 0 where
  number : ℕ
  piece : List Row
  is : slice_get r.pieces number ≡ Some piece
  context : Meets m.context (params ++ (at ++ ys))
  meets : Meets piece (params ++ (at ++ ys))

holds : (m : Model) (params : List ℤ) (x : Execution) (r : Reads) (at : List ℤ) (cell : Cell) (before : List Entry) → ReadHere m params x r at cell before → CanRead m r → (ys : List ℤ) → Holds m params r at ys
holds m params x r at cell before t can ys =
    let s = somewhere_at r.pieces (params ++ at) t.piece in
    let l : length params ≡ m.params = sym t.describes.count in
    let lq : length (params ++ at) ≡ m.params + r.count = length-append params at ∙ (λ i. l i + sym t.count i) in
    let back : (params ++ at) ++ ys ≡ params ++ (at ++ ys) = append_assoc params at ys in
    record {
      number = s.0;
      piece = s.1;
      is = s.2;
      context = Meets-append m.context m.params params (at ++ ys) (omega (arith, l)) can.context t.context;
      meets = subst (Meets s.1) back (Meets-append s.1 (m.params + r.count) (params ++ at) ys (omega (arith, lq)) (piece_over (m.params + r.count) r.pieces s.0 s.1 can.pieces s.2) s.3);
    }

-- ---- for a case

in_one_piece : (m : Model) (params : List ℤ) (x : Execution) (r : Reads) (a : Placed x) → a.position ≡ r.position → PiecesAreApart m → IsReader m r → CanRead m r → (cell : Cell) (before : List Entry) → ReadHere m params x r a.at cell before → (case : Case) → IsInOnePiece m params x a r case
in_one_piece m params x r a e apart is can cell before t case = record {
  some = λ u ys h.
      let q = holds m params x r a.at cell before t can ys in
      let c = h.meets in
      let p = params ++ (a.at ++ ys) in (
        q.number,
        record {
          piece = q.piece;
          is = q.is;
          own = c.own;
          formed = (λ i. conj_of m (reading m (sym e i) (t.count i) None) (writing u case.piece case.level None)) ∙ c.formed;
          meets = meets-both m.context (q.piece ++ c.own.rows) p q.context (meets-both q.piece c.own.rows p q.meets c.meets);
        },
      );
  back = λ u stmt ys number source s wide h.
      let p = params ++ (a.at ++ ys) in
      record {
        source = source;
        stmt = stmt;
        is = s;
        wide = wide;
        meets = record {
          own = h.own;
          formed = (λ i. conj_of m (reading m (e i) (sym t.count i) None) (writing u case.piece case.level None)) ∙ h.formed;
          meets = (meets-parts h.piece h.own.rows p (meets-parts m.context (h.piece ++ h.own.rows) p h.meets).1).1;
        };
      };
  one = λ u ys number other h k.
      let p = params ++ (a.at ++ ys) in
      one_number r.pieces p number other h.piece k.piece (pieces_apart m apart r is p) h.is k.is (in_piece u number p h) (in_piece u other p k);
  start =
      let q = holds m params x r a.at cell before t can [] in
      let none : params ++ (a.at ++ []) ≡ params ++ a.at = ap (λ (y : List ℤ). params ++ y) (append-nil a.at) in
      (q.number, record { piece = q.piece; is = q.is; meets = subst (Meets (m.context ++ (q.piece ++ []))) none (meets-both m.context (q.piece ++ []) (params ++ (a.at ++ [])) q.context (meets-both q.piece [] (params ++ (a.at ++ [])) q.meets tt)) });
  one_start = λ number other h k.
      let p = params ++ a.at in
      one_number r.pieces p number other h.piece k.piece (pieces_apart m apart r is p) h.is k.is (start_in number p h) (start_in other p k);
}
  where
    in_piece : (u number : ℕ) (p : List ℤ) (h : MeetsInPiece m r case u number p) → Meets h.piece p
    in_piece u number p h = (meets-parts h.piece h.own.rows p (meets-parts m.context (h.piece ++ h.own.rows) p h.meets).1).0

    start_in : (number : ℕ) (p : List ℤ) (h : StartsInPiece m r number p) → Meets h.piece p
    start_in number p h = (meets-parts h.piece [] p (meets-parts m.context (h.piece ++ []) p h.meets).1).0

pub cases_are_in_pieces : CasesAreInPieces
unfolding Reading
cases_are_in_pieces p context params r flow a h case =
    let m = model_of p context in
    let over = is_over m (record { program = p; context = context; ready = h.ready; fit = h.fit; is = refl }) in
    let is = is_reader m r h.among in
    let f = found p context params r flow a h in
    in_one_piece m params (execution p m params) r a h.position_is (pieces_are_apart p context) is (reader_can m over r is) f.cell f.before (readings p context params r flow a h f.cell f.before f.reads) case

-- ---- flows and readers

reader_of : (m : Model) (rs : List Reads) (flows : List ReadFlow) → AreFlows m rs flows → (flow : ReadFlow) → IsAmong flow flows → (r : Reads) × IsAmong r rs × IsFlowOf m r flow
reader_of m [] [] h flow i = absurd i
reader_of m [] (g ∷ flows) h flow i = absurd h
reader_of m (r ∷ rs) [] h flow i = absurd h
reader_of m (r ∷ rs) (g ∷ flows) h flow (inl e) = (r, inl refl, subst (IsFlowOf m r) (sym e) h.0)
reader_of m (r ∷ rs) (g ∷ flows) h flow (inr i) = let z = reader_of m rs flows h.1 flow i in (z.0, inr z.1, z.2)

flow_of : (m : Model) (rs : List Reads) (flows : List ReadFlow) → AreFlows m rs flows → (r : Reads) → IsAmong r rs → (flow : ReadFlow) × IsAmong flow flows × IsFlowOf m r flow
flow_of m [] flows h r i = absurd i
flow_of m (q ∷ rs) [] h r i = absurd h
flow_of m (q ∷ rs) (g ∷ flows) h r (inl e) = (g, inl refl, subst (λ (y : Reads). IsFlowOf m y g) (sym e) h.0)
flow_of m (q ∷ rs) (g ∷ flows) h r (inr i) = let z = flow_of m rs flows h.1 r i in (z.0, inr z.1, z.2)

pub flows_of_readers : FlowsAreOfReaders
flows_of_readers m flows h = record { reader = λ flow i. reader_of m (readers m) flows h flow i; flow = λ r i. flow_of m (readers m) flows h r i }
