-- What the loop over the pieces of a reader keeps.
use Rattle.std.proofs.Common.{◌≡◌, ℕ, zero, suc, ◌+◌, ◌-◌, ◌<◌, ◌≤◌, List, [], ◌∷◌, ◌++◌, map, take, drop, length, get_or, refl, sym, ap, ◌∙◌, subst, arith, append_assoc, append-nil, length-append}
use Rattle.std.proofs.lemmas.List.{take_more, take_all, length-take-le, length-map, take-append-drop}
use Rattle.ac_forms.specs.Rows.{AreRowsOver, IsWellMade}
use Rattle.ac_forms.specs.declared.conj.Conj.{Conj}
use Rattle.ac_forms.specs.declared.row.Row.{Row}
use Rattle.ac_omega.specs.declared.piece.Piece.{Piece}
use Rattle.ac_poly.specs.declared.types.Model.{Model}
use Rattle.ac_flow.specs.CutStops.{AreCutCases, CutStops, IfFull}
use Rattle.ac_flow.specs.Cuts.{AllHavePoints, NoneMeet}
use Rattle.ac_sets.specs.Unions.{ArePieces}
use Rattle.ac_flow.specs.CaseRemainder.{AllKillsOf, IsCut}
use Rattle.ac_flow.specs.declared.cut.CutStop.{CutStop}
use Rattle.ac_flow.specs.declared.cut.CutStop.TheVariants.{Overflow, Spent, Full, Memory}
use Rattle.ac_claims_paths.proofs.Moving.{made-both}
use Rattle.ac_flow.specs.FlowCases.{AreParts, ArePiecesOver, case_conj, remainder, conj_of_remainder}
use Rattle.ac_flow.specs.CaseOverflow.{AreGroups}
use Rattle.ac_flow.specs.FlowStops.{PieceStops}
use Rattle.ac_flow.specs.CaseStops.{plain, IfFilled, IsStopOf}
use Rattle.ac_flow.specs.declared.stop.CaseStop.{CaseStop}
use Rattle.ac_flow.specs.declared.stop.CaseStop.TheVariants as case
use Rattle.ac_flow.specs.declared.types.Remainder.{Remainder}
use Rattle.ac_flow.proofs.KillSteps.{in_at}
use Rattle.ac_flow.proofs.Asked.{have-append}

pub case_made : (m : Model) (columns : ℕ) (rows piece : List Row) (c : Conj) → AreRowsOver columns m.context → AreRowsOver columns piece → AreRowsOver columns rows → c ≡ case_conj m columns rows piece → IsWellMade c
case_made m columns rows piece c a b d e = subst (λ (x : Conj). IsWellMade x) (sym e) (made-both columns m.context (piece ++ rows) a (made-both columns piece rows b d))

pub case_cut : (m : Model) (columns : ℕ) (rows piece : List Row) (c : Conj) (kills : List (List Piece)) (kept : List Conj) → c ≡ case_conj m columns rows piece → IsCut c kills kept → IsCut (case_conj m columns rows piece) kills kept
case_cut m columns rows piece c kills kept e h = subst (λ (x : Conj). IsCut x kills kept) e h

pub case_stops : (budget : ℕ) (m : Model) (columns : ℕ) (rows piece : List Row) (c : Conj) (ks : List (List Row)) (e : CutStop) → c ≡ case_conj m columns rows piece → CutStops budget c ks e → CutStops budget (case_conj m columns rows piece) ks e
case_stops budget m columns rows piece c ks e i h = subst (λ (x : Conj). CutStops budget x ks e) i h

pub ruleset one_steps = (case_made, case_cut, case_stops)

-- ---- the groups of the pieces of a reader

groups_none : (m : Model) (columns : ℕ) (rows : List Row) (ks qs : List (List Row)) → AreGroups m columns rows ks qs []
groups_none m columns rows ks [] = refl
groups_none m columns rows ks (q ∷ qs) = ([], [], refl, tt, tt, (λ p l. tt), groups_none m columns rows ks qs)

pub no_groups : (m : Model) (columns : ℕ) (rows : List Row) (ks qs : List (List Row)) (kept : List Conj) → kept ≡ [] → AreGroups m columns rows ks qs kept
no_groups m columns rows ks qs kept e = subst (AreGroups m columns rows ks qs) (sym e) (groups_none m columns rows ks qs)

groups_snoc : (m : Model) (columns : ℕ) (rows : List Row) (ks qs : List (List Row)) (q : List Row) (kept group : List Conj) → AreGroups m columns rows ks qs kept → AreCutCases (case_conj m columns rows q) ks group → ArePieces columns group → NoneMeet columns group → AreGroups m columns rows ks (qs ++ q ∷ []) (kept ++ group)
groups_snoc m columns rows ks [] q kept group e a w n = (group, [], ap (λ (x : List Conj). x ++ group) e ∙ sym (append-nil group), a, w, n, refl)
groups_snoc m columns rows ks (p ∷ qs) q kept group (first, rest, e, b, v, o, h) a w n =
    (first, rest ++ group, ap (λ (x : List Conj). x ++ group) e ∙ append_assoc first rest group, b, v, o, groups_snoc m columns rows ks qs q rest group h a w n)

-- none in the pieces behind
groups_behind : (m : Model) (columns : ℕ) (rows : List Row) (ks qs ps : List (List Row)) (kept : List Conj) → AreGroups m columns rows ks qs kept → AreGroups m columns rows ks (qs ++ ps) kept
groups_behind m columns rows ks [] ps kept e = no_groups m columns rows ks ps kept e
groups_behind m columns rows ks (q ∷ qs) ps kept (first, rest, e, b, v, o, h) = (first, rest, e, b, v, o, groups_behind m columns rows ks qs ps rest h)

taken : (pieces : List (List Row)) (d : ℕ) (q : List Row) → d < length pieces → q ≡ get_or pieces d q → take (d + 1) pieces ≡ take d pieces ++ q ∷ []
taken pieces d q l e = rw e (take_more pieces d q l)

conjs_as : (d : ℕ) (group : List Conj) → map conj_of_remainder (map (remainder d) group) ≡ group
conjs_as d [] = refl
conjs_as d (c ∷ group) = ap (λ (cs : List Conj). c ∷ cs) (conjs_as d group)

conjs_behind : (d : ℕ) (out : List Remainder) (group : List Conj) → map conj_of_remainder (out ++ map (remainder d) group) ≡ map conj_of_remainder out ++ group
conjs_behind d [] group = conjs_as d group
conjs_behind d (x ∷ out) group = ap (λ (cs : List Conj). x.conj ∷ cs) (conjs_behind d out group)

-- ---- what is kept so far

pub record PartsSoFar (m : Model) (columns : ℕ) (rows : List Row) (kills : List (List Piece)) (room : ℕ) (pieces : List (List Row)) (d : ℕ) (out : List Remainder) : Type 0 where
  pub value : AreParts m columns rows kills 0 (take d pieces) out
  pub groups : (ks : List (List Row)) → AllKillsOf ks kills → AreGroups m columns rows ks (take d pieces) (map conj_of_remainder out)
  pub within : length out ≤ room

pub parts_start : (m : Model) (columns : ℕ) (rows : List Row) (kills : List (List Piece)) (room : ℕ) (pieces : List (List Row)) (out : List Remainder) → out ≡ [] → PartsSoFar m columns rows kills room pieces 0 out
parts_start m columns rows kills room pieces out e = record { value = e; groups = λ ks a. ap (map conj_of_remainder) e; within = subst (λ (x : List Remainder). length x ≤ room) (sym e) (omega arith) }

parts_snoc : (m : Model) (columns : ℕ) (rows : List Row) (kills : List (List Piece)) (d : ℕ) (qs : List (List Row)) (q : List Row) (rs : List Remainder) (group : List Conj) → AreParts m columns rows kills d qs rs → IsCut (case_conj m columns rows q) kills group
    → AreParts m columns rows kills d (qs ++ q ∷ []) (rs ++ map (remainder (d + length qs)) group)
parts_snoc m columns rows kills d [] q rs group e c =
    let z : d ≡ d + 0 = omega arith in
    (group, [], ap (λ (x : List Remainder). x ++ map (remainder (d + 0)) group) e ∙ ap (λ j. map (remainder j) group) (sym z) ∙ sym (append-nil (map (remainder d) group)), c, refl)
parts_snoc m columns rows kills d (p ∷ qs) q rs group (first, rest, e, i, h) c =
    let z : suc d + length qs ≡ d + suc (length qs) = omega arith in (
      first,
      rest ++ map (remainder (d + suc (length qs))) group,
      ap (λ (x : List Remainder). x ++ map (remainder (d + suc (length qs))) group) e ∙ append_assoc (map (remainder d) first) rest (map (remainder (d + suc (length qs))) group),
      i,
      subst (λ j. AreParts m columns rows kills (suc d) (qs ++ q ∷ []) (rest ++ map (remainder j) group)) z (parts_snoc m columns rows kills (suc d) qs q rest group h c),
    )

-- one group more
groups_next : (m : Model) (columns : ℕ) (rows : List Row) (kills : List (List Piece)) (room : ℕ) (pieces ks : List (List Row)) (d : ℕ) (q given : List Row) (out : List Remainder) (group : List Conj) → PartsSoFar m columns rows kills room pieces d out → AllKillsOf ks kills → d < length pieces → q ≡ get_or pieces d q
    → given ≡ q → AreCutCases (case_conj m columns rows given) ks group → ArePieces columns group → NoneMeet columns group → AreGroups m columns rows ks (take (d + 1) pieces) (map conj_of_remainder out ++ group)
groups_next m columns rows kills room pieces ks d q given out group h a l e g c w n =
    subst (λ (x : List (List Row)). AreGroups m columns rows ks x (map conj_of_remainder out ++ group)) (sym (taken pieces d q l e))
    (groups_snoc m columns rows ks (take d pieces) q (map conj_of_remainder out) group (h.groups ks a) (subst (λ (x : List Row). AreCutCases (case_conj m columns rows x) ks group) g c) w n)

within_next : (room d : ℕ) (out new : List Remainder) (group : List Conj) → length out ≤ room → length group ≤ room - length out → new ≡ out ++ map (remainder d) group → length new ≤ room
within_next room d out new group l m e = omega (arith, l, m, ap (λ (x : List Remainder). length x) e, length-append out (map (remainder d) group), length-map group (remainder d))

pub parts_next : (m : Model) (columns : ℕ) (rows : List Row) (kills : List (List Piece)) (room : ℕ) (pieces : List (List Row)) (d left : ℕ) (q given : List Row) (out new : List Remainder) (group : List Conj) → PartsSoFar m columns rows kills room pieces d out → d < length pieces → q ≡ get_or pieces d q → given ≡ q
    → IsCut (case_conj m columns rows given) kills group → left ≡ room - length out → length group ≤ left → new ≡ out ++ map (remainder d) group
    → PartsSoFar m columns rows kills room pieces (d + 1) new
parts_next m columns rows kills room pieces d left q given out new group h l e g c w fits n = record {
  within = within_next room d out new group h.within (subst (λ k. length group ≤ k) w fits) n;
  groups = λ ks a. subst (AreGroups m columns rows ks (take (d + 1) pieces)) (sym (ap (map conj_of_remainder) n ∙ conjs_behind d out group))
      (groups_next m columns rows kills room pieces ks d q given out group h a l e g (c.asked ks a) c.made c.apart);
  value = subst (AreParts m columns rows kills 0 (take (d + 1) pieces)) (sym n)
      (subst (λ j. AreParts m columns rows kills 0 (take (d + 1) pieces) (out ++ map (remainder j) group)) (let z : 0 + length (take d pieces) ≡ d = omega (arith, length-take-le d pieces (omega (arith, l))) in z)
      (subst (λ (x : List (List Row)). AreParts m columns rows kills 0 x (out ++ map (remainder (0 + length (take d pieces))) group)) (sym (rw e (take_more pieces d q l)))
      (parts_snoc m columns rows kills 0 (take d pieces) q out group h.value (subst (λ (x : List Row). IsCut (case_conj m columns rows x) kills group) g c))));
}

pub parts_end : (m : Model) (columns : ℕ) (rows : List Row) (kills : List (List Piece)) (room : ℕ) (pieces : List (List Row)) (d : ℕ) (out : List Remainder) → PartsSoFar m columns rows kills room pieces d out → length pieces ≤ d → AreParts m columns rows kills 0 pieces out
parts_end m columns rows kills room pieces d out h l = subst (λ (x : List (List Row)). AreParts m columns rows kills 0 x out) (take_all d pieces l) h.value

pub groups_end : (m : Model) (columns : ℕ) (rows : List Row) (kills : List (List Piece)) (room : ℕ) (pieces ks : List (List Row)) (d : ℕ) (out : List Remainder) → PartsSoFar m columns rows kills room pieces d out → length pieces ≤ d → AllKillsOf ks kills → AreGroups m columns rows ks pieces (map conj_of_remainder out)
groups_end m columns rows kills room pieces ks d out h l a = subst (λ (x : List (List Row)). AreGroups m columns rows ks x (map conj_of_remainder out)) (take_all d pieces l) (h.groups ks a)

pub piece_over : (columns : ℕ) (pieces : List (List Row)) (d : ℕ) (q given : List Row) → ArePiecesOver columns pieces → d < length pieces → q ≡ get_or pieces d q → given ≡ q → AreRowsOver columns given
piece_over columns [] d q given w l e g = absurd (omega (arith, l))
piece_over columns (p ∷ ps) zero q given w l e g = rw (g, e) w.0
piece_over columns (p ∷ ps) (suc d) q given w l e g = piece_over columns ps d q given w.1 (omega (arith, l)) e g

pub piece_stops : (budget : ℕ) (m : Model) (columns : ℕ) (rows : List Row) (pieces ks : List (List Row)) (d : ℕ) (q given : List Row) (e : CutStop) → d < length pieces → q ≡ get_or pieces d q → given ≡ q → CutStops budget (case_conj m columns rows given) ks e
    → PieceStops budget m columns rows pieces ks e
piece_stops budget m columns rows pieces ks d q given e l f g s = record { piece = q; among = in_at pieces d q l f; stops = subst (λ (x : List Row). CutStops budget (case_conj m columns rows x) ks e) g s }

pub piece_memory : (budget : ℕ) (m : Model) (columns : ℕ) (rows : List Row) (pieces ks : List (List Row)) (d : ℕ) (q : List Row) (e : _) → d < length pieces → q ≡ get_or pieces d q → PieceStops budget m columns rows pieces ks (Memory e)
piece_memory budget m columns rows pieces ks d q e l f = record { piece = q; among = in_at pieces d q l f; stops = tt }

-- ---- what is kept has points

conjs_of : (d : ℕ) (group : List Conj) (rest : List Remainder) → map conj_of_remainder (map (remainder d) group ++ rest) ≡ group ++ map conj_of_remainder rest
conjs_of d [] rest = refl
conjs_of d (c ∷ group) rest = ap (λ (cs : List Conj). c ∷ cs) (conjs_of d group rest)

pub parts_have : (m : Model) (columns : ℕ) (rows : List Row) (kills : List (List Piece)) (d : ℕ) (qs : List (List Row)) (rs : List Remainder) → AreParts m columns rows kills d qs rs → AllHavePoints (map conj_of_remainder rs)
parts_have m columns rows kills d [] rs e = subst (λ (x : List Remainder). AllHavePoints (map conj_of_remainder x)) (sym e) tt
parts_have m columns rows kills d (q ∷ qs) rs (group, rest, e, c, h) =
    subst (λ (x : List Remainder). AllHavePoints (map conj_of_remainder x)) (sym e) (subst AllHavePoints (sym (conjs_of d group rest)) (have-append group (map conj_of_remainder rest) c.each (parts_have m columns rows kills (suc d) qs rest h)))

filled_have : (m : Model) (columns : ℕ) (rows : List Row) (kills : List (List Piece)) (room : ℕ) (pieces : List (List Row)) (d : ℕ) (out : List Remainder) (group kept : List Conj) → PartsSoFar m columns rows kills room pieces d out → AllHavePoints group → kept ≡ map conj_of_remainder out ++ group → AllHavePoints kept
filled_have m columns rows kills room pieces d out group kept h a e = subst AllHavePoints (sym e) (have-append (map conj_of_remainder out) group (parts_have m columns rows kills 0 (take d pieces) out h.value) a)

filled_count : (room : ℕ) (out : List Remainder) (group kept : List Conj) → length out ≤ room → length group ≡ (room - length out) + 1 → kept ≡ map conj_of_remainder out ++ group → length kept ≡ room + 1
filled_count room out group kept w l e = omega (arith, w, l, ap (λ (x : List Conj). length x) e, length-append (map conj_of_remainder out) group, length-map out conj_of_remainder)

pub filled_full : (m : Model) (columns : ℕ) (rows : List Row) (kills : List (List Piece)) (room : ℕ) (pieces : List (List Row)) (d left : ℕ) (out : List Remainder) (group : List Conj) (stop : CutStop) (e : CaseStop) → PartsSoFar m columns rows kills room pieces d out → AllHavePoints group → left ≡ room - length out
    → IfFull stop ((length group ≡ left + 1) × NoneMeet columns group × ArePieces columns group) → IsStopOf stop e → IfFilled e (λ kept. kept ≡ map conj_of_remainder out ++ group) → IfFilled e (λ kept. (length kept ≡ room + 1) × AllHavePoints kept)
filled_full m columns rows kills room pieces d left out group stop (case.Overflow c) h a w l s f = tt
filled_full m columns rows kills room pieces d left out group stop (case.Spent c k) h a w l s f = tt
filled_full m columns rows kills room pieces d left out group stop (case.Full kept) h a w l s f =
    let r : (length group ≡ left + 1) × NoneMeet columns group × ArePieces columns group = subst (λ (x : CutStop). IfFull x ((length group ≡ left + 1) × NoneMeet columns group × ArePieces columns group)) s l in
    (filled_count room out group kept h.within (r.0 ∙ ap (λ n. n + 1) w) f, filled_have m columns rows kills room pieces d out group kept h a f)
filled_full m columns rows kills room pieces d left out group stop (case.Memory e) h a w l s f = tt

-- the groups before, that of the stop, and none in the pieces behind
pub filled_groups : (m : Model) (columns : ℕ) (rows : List Row) (kills : List (List Piece)) (room : ℕ) (pieces ks : List (List Row)) (d left : ℕ) (q given : List Row) (out : List Remainder) (group : List Conj) (stop : CutStop) (e : CaseStop) → PartsSoFar m columns rows kills room pieces d out → AllKillsOf ks kills
    → d < length pieces → q ≡ get_or pieces d q → given ≡ q → IfFull stop ((length group ≡ left + 1) × NoneMeet columns group × ArePieces columns group) → IfFull stop (AreCutCases (case_conj m columns rows given) ks group) → IsStopOf stop e → IfFilled e (λ kept. kept ≡ map conj_of_remainder out ++ group)
    → IfFilled e (AreGroups m columns rows ks pieces)
filled_groups m columns rows kills room pieces ks d left q given out group stop (case.Overflow c) h a l i g n b s f = tt
filled_groups m columns rows kills room pieces ks d left q given out group stop (case.Spent c k) h a l i g n b s f = tt
filled_groups m columns rows kills room pieces ks d left q given out group stop (case.Full kept) h a l i g n b s f =
    let r : (length group ≡ left + 1) × NoneMeet columns group × ArePieces columns group = subst (λ (x : CutStop). IfFull x ((length group ≡ left + 1) × NoneMeet columns group × ArePieces columns group)) s n in
    let c : AreCutCases (case_conj m columns rows given) ks group = subst (λ (x : CutStop). IfFull x (AreCutCases (case_conj m columns rows given) ks group)) s b in
    subst (AreGroups m columns rows ks pieces) (sym f)
    (subst (λ (x : List (List Row)). AreGroups m columns rows ks x (map conj_of_remainder out ++ group)) (take-append-drop (d + 1) pieces)
    (groups_behind m columns rows ks (take (d + 1) pieces) (drop (d + 1) pieces) (map conj_of_remainder out ++ group) (groups_next m columns rows kills room pieces ks d q given out group h a l i g c r.2 r.1)))
filled_groups m columns rows kills room pieces ks d left q given out group stop (case.Memory e) h a l i g n b s f = tt

pub stopped_at : (budget : ℕ) (m : Model) (columns : ℕ) (rows : List Row) (pieces ks : List (List Row)) (d : ℕ) (q given : List Row) (stop : CutStop) (e : CaseStop) → d < length pieces → q ≡ get_or pieces d q → given ≡ q → CutStops budget (case_conj m columns rows given) ks stop → IsStopOf stop e
    → PieceStops budget m columns rows pieces ks (plain e)
stopped_at budget m columns rows pieces ks d q given stop (case.Overflow c) l f g h s = piece_stops budget m columns rows pieces ks d q given (Overflow c) l f g (subst (CutStops budget (case_conj m columns rows given) ks) s h)
stopped_at budget m columns rows pieces ks d q given stop (case.Spent c k) l f g h s = piece_stops budget m columns rows pieces ks d q given (Spent c k) l f g (subst (CutStops budget (case_conj m columns rows given) ks) s h)
stopped_at budget m columns rows pieces ks d q given stop (case.Full kept) l f g h s = piece_stops budget m columns rows pieces ks d q given Full l f g (subst (CutStops budget (case_conj m columns rows given) ks) s h)
stopped_at budget m columns rows pieces ks d q given stop (case.Memory e) l f g h s = piece_stops budget m columns rows pieces ks d q given (Memory e) l f g tt

pub ruleset parts_steps = (parts_start, parts_end)
