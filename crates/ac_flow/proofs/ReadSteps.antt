-- What the loop over the writings before a reader keeps.
use Rattle.std.proofs.Common.{◌≡◌, ◌⊎◌, inl, inr, ℕ, ◌+◌, ◌-◌, ◌<◌, ◌≤◌, List, [], ◌∷◌, ◌++◌, take, drop, length, get_or, None, refl, sym, ap, ◌∙◌, subst, arith, append_assoc, append-nil, length-append}
use Rattle.std.specs.List.{flat_map}
use Rattle.std.proofs.lemmas.Grind.{flat_map-append}
use Rattle.std.proofs.lemmas.List.{take_more, drop_more, take_all, length-map, take-append-drop}
use Rattle.std.proofs.lemmas.List.Concat.{flat_map-cons}
use Rattle.ac_forms.specs.declared.conj.Conj.{Conj}
use Rattle.ac_poly.specs.declared.types.Model.{Model}
use Rattle.ac_flow.specs.Cuts.{AllHavePoints}
use Rattle.ac_flow.specs.declared.cut.CutStop.{CutStop}
use Rattle.ac_flow.specs.declared.cut.CutStop.TheVariants as cut
use Rattle.ac_forms.specs.ListMembers.{IsAmong}
use Rattle.ac_claims_paths.specs.declared.path.CopyNumbers.{CopyNumbers}
use Rattle.ac_flow.specs.FlowCases.{Reads, IsSourceCase, IsInitialCase, AreCases, conj_of_remainder, conjs_of}
use Rattle.ac_flow.proofs.SourceCases.{AreSourceCases}
use Rattle.ac_flow.specs.CaseOverflow.{AreCutCasesOf, AreOfWriting, AreOfCases, AreTooMany}
use Rattle.ac_flow.specs.FlowStops.{UnlessMemory, SourceStops, CaseStops, ReadStops}
use Rattle.ac_flow.specs.CaseStops.{plain, IfFilled}
use Rattle.ac_flow.specs.Writings.{writings}
use Rattle.ac_flow.specs.declared.stop.CaseStop.{CaseStop}
use Rattle.ac_flow.specs.declared.stop.CaseStop.TheVariants as case
use Rattle.ac_flow.specs.declared.types.Case.{Case}
use Rattle.ac_flow.proofs.CaseSteps.{filled_map}
use Rattle.ac_flow.proofs.CutSteps.{parts_have, no_groups}
use Rattle.ac_flow.proofs.Asked.{have-append}
use Rattle.ac_flow.proofs.KillSteps.{in_get_or}

-- ---- the cases of the first writings

pub AreOfFirst : ℕ → Model → Reads → List CopyNumbers → List Conj → Type 0
AreOfFirst budget m r [] kept = kept ≡ []
AreOfFirst budget m r (w ∷ ws) kept = (own : List Conj) × (rest : List Conj) × (kept ≡ own ++ rest) × AreOfWriting budget m r w own × AreOfFirst budget m r ws rest

first_snoc : (budget : ℕ) (m : Model) (r : Reads) (ws : List CopyNumbers) (w : CopyNumbers) (kept group : List Conj) → AreOfFirst budget m r ws kept → AreOfWriting budget m r w group → AreOfFirst budget m r (ws ++ w ∷ []) (kept ++ group)
unfolding AreOfFirst
first_snoc budget m r [] w kept group e g = (group, [], ap (λ (x : List Conj). x ++ group) e ∙ sym (append-nil group), g, refl)
first_snoc budget m r (v ∷ ws) w kept group (own, rest, e, h, k) g = (own, rest ++ group, ap (λ (x : List Conj). x ++ group) e ∙ append_assoc own rest group, h, first_snoc budget m r ws w rest group k g)

first_then : (budget : ℕ) (m : Model) (r : Reads) (ws vs : List CopyNumbers) (kept more : List Conj) → AreOfFirst budget m r ws kept → AreOfCases budget m r vs more → AreOfCases budget m r (ws ++ vs) (kept ++ more)
unfolding AreOfFirst
first_then budget m r [] vs kept more e g = subst (λ (x : List Conj). AreOfCases budget m r vs (x ++ more)) (sym e) g
first_then budget m r (w ∷ ws) vs kept more (own, rest, e, h, k) g = (own, rest ++ more, ap (λ (x : List Conj). x ++ more) e ∙ append_assoc own rest more, h, first_then budget m r ws vs rest more k g)

-- nothing of the cases behind
cases_none : (budget : ℕ) (m : Model) (r : Reads) (ws : List CopyNumbers) → AreOfCases budget m r ws []
cases_none budget m r [] = record { kills = []; found = tt; groups = no_groups m (m.params + r.count) [] [] r.pieces [] refl }
cases_none budget m r (w ∷ ws) = ([], [], refl, inl refl, cases_none budget m r ws)

-- ---- what the loop keeps

pub record SoFar (budget : ℕ) (m : Model) (r : Reads) (ws : List CopyNumbers) (i : ℕ) (cases : List Case) (room : ℕ) : Type 0 where
  pub cases_are : AreSourceCases m r (take i ws) cases
  pub enough : room + length (flat_map conjs_of cases) ≡ 4096
  pub kept : AreOfFirst budget m r (take i ws) (flat_map conjs_of cases)

pub start : (budget : ℕ) (m : Model) (r : Reads) (ws : List CopyNumbers) (cases : List Case) → cases ≡ [] → SoFar budget m r ws 0 cases 4096
unfolding AreOfFirst
start budget m r ws cases e = record {
  cases_are = subst (AreSourceCases m r []) (sym e) tt;
  enough = ap (λ (z : List Case). 4096 + length (flat_map conjs_of z)) e;
  kept = ap (flat_map conjs_of) e;
}

source_snoc : (m : Model) (r : Reads) (ws : List CopyNumbers) (w : CopyNumbers) (cs : List Case) (c : Case) → AreSourceCases m r ws cs → IsSourceCase m r w c → AreSourceCases m r (ws ++ w ∷ []) (cs ++ c ∷ [])
source_snoc m r [] w [] c h f = (f, tt)
source_snoc m r [] w (x ∷ cs) c h f = absurd h
source_snoc m r (v ∷ ws) w [] c h f = absurd h
source_snoc m r (v ∷ ws) w (x ∷ cs) c h f = (h.0, source_snoc m r ws w cs c h.1 f)

conjs_snoc : (cs : List Case) (c : Case) → flat_map conjs_of (cs ++ c ∷ []) ≡ flat_map conjs_of cs ++ conjs_of c
conjs_snoc cs c = flat_map-append conjs_of cs (c ∷ []) ∙ ap (λ z. flat_map conjs_of cs ++ z) (flat_map-cons conjs_of c [] ∙ append-nil (conjs_of c))

all_conjs : (cs : List Case) (c : Case) → length (flat_map conjs_of (cs ++ c ∷ [])) ≡ length (flat_map conjs_of cs) + length c.pieces
all_conjs cs c = ap (λ (z : List Conj). length z) (conjs_snoc cs c) ∙ length-append (flat_map conjs_of cs) (conjs_of c) ∙ ap (λ n. length (flat_map conjs_of cs) + n) (length-map c.pieces conj_of_remainder)

pub next : (budget : ℕ) (m : Model) (r : Reads) (ws : List CopyNumbers) (i : ℕ) (d : CopyNumbers) (cases new : List Case) (case : Case) (room left : ℕ) → SoFar budget m r ws i cases room → i < length ws → IsSourceCase m r (get_or ws i d) case → AreOfWriting budget m r (get_or ws i d) (conjs_of case)
    → length case.pieces ≤ room → left ≡ room - length case.pieces → new ≡ cases ++ case ∷ [] → SoFar budget m r ws (i + 1) new left
next budget m r ws i d cases new case room left h l f o w e n = record {
  cases_are = subst (AreSourceCases m r (take (i + 1) ws)) (sym n) (subst (λ (vs : List CopyNumbers). AreSourceCases m r vs (cases ++ case ∷ [])) (sym (take_more ws i d l)) (source_snoc m r (take i ws) (get_or ws i d) cases case h.cases_are f));
  enough = let a = h.enough in let b = all_conjs cases case in let c = ap (λ (z : List Case). length (flat_map conjs_of z)) n in omega (arith, a, b, c, e, w);
  kept = subst (AreOfFirst budget m r (take (i + 1) ws)) (sym (ap (flat_map conjs_of) n ∙ conjs_snoc cases case))
      (subst (λ (vs : List CopyNumbers). AreOfFirst budget m r vs (flat_map conjs_of cases ++ conjs_of case)) (sym (take_more ws i d l)) (first_snoc budget m r (take i ws) (get_or ws i d) (flat_map conjs_of cases) (conjs_of case) h.kept o));
}

done_snoc : (m : Model) (r : Reads) (ws : List CopyNumbers) (cs : List Case) (c : Case) → AreSourceCases m r ws cs → IsInitialCase m r c → AreCases m r ws (cs ++ c ∷ [])
done_snoc m r [] [] c h f = f
done_snoc m r [] (x ∷ cs) c h f = absurd h
done_snoc m r (w ∷ ws) [] c h f = absurd h
done_snoc m r (w ∷ ws) (x ∷ cs) c h f = (h.0, done_snoc m r ws cs c h.1 f)

pub done : (budget : ℕ) (m : Model) (r : Reads) (ws us : List CopyNumbers) (i : ℕ) (cases new : List Case) (case : Case) (room : ℕ) → SoFar budget m r ws i cases room → length ws ≤ i → ws ≡ us → IsInitialCase m r case → new ≡ cases ++ case ∷ [] → AreCases m r us new
done budget m r ws us i cases new case room h l e f n = subst (λ (vs : List CopyNumbers). AreCases m r vs new) e (subst (AreCases m r ws) (sym n) (done_snoc m r ws cases case (subst (λ (vs : List CopyNumbers). AreSourceCases m r vs cases) (take_all i ws l) h.cases_are) f))

pub done_within : (budget : ℕ) (m : Model) (r : Reads) (ws : List CopyNumbers) (i : ℕ) (cases new : List Case) (case : Case) (room : ℕ) → SoFar budget m r ws i cases room → length case.pieces ≤ room → new ≡ cases ++ case ∷ [] → length (flat_map conjs_of new) ≤ 4096
done_within budget m r ws i cases new case room h w n = let a = h.enough in let b = all_conjs cases case in let c = ap (λ (z : List Case). length (flat_map conjs_of z)) n in omega (arith, a, b, c, w)

-- ---- stops

cases_have : (m : Model) (r : Reads) (ws : List CopyNumbers) (cs : List Case) → AreSourceCases m r ws cs → AllHavePoints (flat_map conjs_of cs)
cases_have m r [] [] h = tt
cases_have m r [] (c ∷ cs) h = absurd h
cases_have m r (w ∷ ws) [] h = absurd h
cases_have m r (w ∷ ws) (c ∷ cs) h =
    let k = h.0.case_of in
    subst AllHavePoints (sym (flat_map-cons conjs_of c cs)) (have-append (conjs_of c) (flat_map conjs_of cs) (parts_have m h.0.own.columns h.0.own.rows k.found 0 r.pieces c.pieces k.parts) (cases_have m r ws cs h.1))

-- what is kept of the cases before, and then of the one under way
too_many : (budget : ℕ) (m : Model) (r : Reads) (ws us : List CopyNumbers) (i : ℕ) (cases : List Case) (room : ℕ) (group kept : List Conj) → SoFar budget m r ws i cases room → ws ≡ writings m r.position r.array None → take i ws ++ us ≡ ws → length group ≡ room + 1 → AllHavePoints group → AreOfCases budget m r us group
    → kept ≡ flat_map conjs_of cases ++ group → AreTooMany budget m r kept
too_many budget m r ws us i cases room group kept h w is n a o e = record {
  count = let x = h.enough in let y = length-append (flat_map conjs_of cases) group in let z = ap (λ (x : List Conj). length x) e in omega (arith, n, x, y, z);
  points = subst AllHavePoints (sym e) (have-append (flat_map conjs_of cases) group (cases_have m r (take i ws) cases h.cases_are) a);
  cases = subst (AreOfCases budget m r (writings m r.position r.array None)) (sym e)
      (subst (λ (vs : List CopyNumbers). AreOfCases budget m r vs (flat_map conjs_of cases ++ group)) (is ∙ w) (first_then budget m r (take i ws) us (flat_map conjs_of cases) group h.kept o));
}

full_after : (budget : ℕ) (m : Model) (r : Reads) (ws us : List CopyNumbers) (i : ℕ) (cases : List Case) (room : ℕ) (stop e : CaseStop) → SoFar budget m r ws i cases room → ws ≡ writings m r.position r.array None → take i ws ++ us ≡ ws
    → IfFilled stop (λ group. (length group ≡ room + 1) × AllHavePoints group × AreOfCases budget m r us group) → UnlessMemory (plain e) (plain e ≡ plain stop) → IfFilled e (λ kept. IfFilled stop (λ group. kept ≡ flat_map conjs_of cases ++ group)) → IfFilled e (AreTooMany budget m r)
full_after budget m r ws us i cases room stop (case.Overflow q) h w is f s k = tt
full_after budget m r ws us i cases room stop (case.Spent q c) h w is f s k = tt
full_after budget m r ws us i cases room (case.Overflow q) (case.Full kept) h w is f s k = absurd cc
full_after budget m r ws us i cases room (case.Spent q c) (case.Full kept) h w is f s k = absurd cc
full_after budget m r ws us i cases room (case.Full group) (case.Full kept) h w is f s k = too_many budget m r ws us i cases room group kept h w is f.0 f.1 f.2 k
full_after budget m r ws us i cases room (case.Memory x) (case.Full kept) h w is f s k = absurd cc
full_after budget m r ws us i cases room stop (case.Memory x) h w is f s k = tt

-- the case of a writing is full: of those behind nothing is kept
pub source_full : (budget : ℕ) (m : Model) (r : Reads) (ws : List CopyNumbers) (i : ℕ) (d : CopyNumbers) (cases : List Case) (room : ℕ) (stop e : CaseStop) → SoFar budget m r ws i cases room → i < length ws → ws ≡ writings m r.position r.array None
    → IfFilled stop (λ group. (length group ≡ room + 1) × AllHavePoints group × AreOfWriting budget m r (get_or ws i d) group) → UnlessMemory (plain e) (plain e ≡ plain stop) → IfFilled e (λ kept. IfFilled stop (λ group. kept ≡ flat_map conjs_of cases ++ group)) → IfFilled e (AreTooMany budget m r)
source_full budget m r ws i d cases room stop e h l w f s k =
    full_after budget m r ws (get_or ws i d ∷ drop (i + 1) ws) i cases room stop e h w
    (ap (λ (vs : List CopyNumbers). take i ws ++ vs) (sym (drop_more ws i d l)) ∙ take-append-drop i ws)
    (filled_map stop _ _ (λ group x. (x.0, x.1, (group, [], sym (append-nil group), x.2, cases_none budget m r (drop (i + 1) ws)))) f) s k

-- the case of the initial contents is
pub initial_full : (budget : ℕ) (m : Model) (r : Reads) (ws : List CopyNumbers) (i : ℕ) (cases : List Case) (room : ℕ) (stop e : CaseStop) → SoFar budget m r ws i cases room → length ws ≤ i → ws ≡ writings m r.position r.array None
    → IfFilled stop (λ group. (length group ≡ room + 1) × AllHavePoints group × AreCutCasesOf budget m r None (m.params + r.count) [] group) → UnlessMemory (plain e) (plain e ≡ plain stop) → IfFilled e (λ kept. IfFilled stop (λ group. kept ≡ flat_map conjs_of cases ++ group)) → IfFilled e (AreTooMany budget m r)
initial_full budget m r ws i cases room stop e h l w f s k = full_after budget m r ws [] i cases room stop e h w (append-nil (take i ws) ∙ take_all i ws l) f s k

-- a fact of a stop holds of one that is the same, unless memory wants
carried : (e s : CutStop) (P : CutStop → Type 0) → UnlessMemory s (P s) → UnlessMemory e (e ≡ s) → UnlessMemory e (P e)
carried (cut.Overflow q) s P h f = subst (λ (x : CutStop). UnlessMemory x (P x)) (sym f) h
carried (cut.Spent q k) s P h f = subst (λ (x : CutStop). UnlessMemory x (P x)) (sym f) h
carried cut.Full s P h f = subst (λ (x : CutStop). UnlessMemory x (P x)) (sym f) h
carried (cut.Memory x) s P h f = tt

unless_map : (e : CutStop) (P Q : Type 0) → (P → Q) → UnlessMemory e P → UnlessMemory e Q
unless_map (cut.Overflow q) P Q f h = f h
unless_map (cut.Spent q k) P Q f h = f h
unless_map cut.Full P Q f h = f h
unless_map (cut.Memory x) P Q f h = tt

pub source_stop_behind : (budget : ℕ) (m : Model) (r : Reads) (ws : List CopyNumbers) (i : ℕ) (d : CopyNumbers) (stop e : CaseStop) → i < length ws → ws ≡ writings m r.position r.array None → UnlessMemory (plain stop) (SourceStops budget m r (get_or ws i d) (plain stop))
    → UnlessMemory (plain e) (plain e ≡ plain stop) → ReadStops budget m r (plain e)
source_stop_behind budget m r ws i d stop e l w h s =
    let k = carried (plain e) (plain stop) (SourceStops budget m r (get_or ws i d)) h s in
    unless_map (plain e) (SourceStops budget m r (get_or ws i d) (plain e)) (((v : CopyNumbers) × IsAmong v (writings m r.position r.array None) × SourceStops budget m r v (plain e)) ⊎ CaseStops budget m r None (m.params + r.count) [] (plain e))
    (λ x. inl (get_or ws i d, subst (IsAmong (get_or ws i d)) w (in_get_or ws i d l), x)) k

own_carried : (e s : CutStop) (P : CutStop → Type 0) → P s → UnlessMemory e (e ≡ s) → UnlessMemory e (P e)
own_carried (cut.Overflow q) s P h f = subst P (sym f) h
own_carried (cut.Spent q k) s P h f = subst P (sym f) h
own_carried cut.Full s P h f = subst P (sym f) h
own_carried (cut.Memory x) s P h f = tt

pub initial_stop_behind : (budget : ℕ) (m : Model) (r : Reads) (stop e : CaseStop) → CaseStops budget m r None (m.params + r.count) [] (plain stop) → UnlessMemory (plain e) (plain e ≡ plain stop) → ReadStops budget m r (plain e)
initial_stop_behind budget m r stop e h s =
    unless_map (plain e) (CaseStops budget m r None (m.params + r.count) [] (plain e)) (((v : CopyNumbers) × IsAmong v (writings m r.position r.array None) × SourceStops budget m r v (plain e)) ⊎ CaseStops budget m r None (m.params + r.count) [] (plain e))
    (λ x. inr x) (own_carried (plain e) (plain stop) (CaseStops budget m r None (m.params + r.count) []) h s)
