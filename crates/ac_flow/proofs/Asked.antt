-- The questions of cutting are those of a case.
use Rattle.std.proofs.Common.{◌≡◌, ◌⊎◌, inl, inr, ℕ, zero, suc, ◌<◌, List, [], ◌∷◌, ◌++◌, length, map, get_or, Bool, false, cond, refl, sym, ap, ◌∙◌, subst, arith}
use Rattle.std.specs.List.{Contains}
use Rattle.std.specs.Prelude.{Result, Ok, Err, IfErr}
use Rattle.ac_forms.specs.Negation.{negation}
use Rattle.ac_forms.specs.declared.conj.Conj.{Conj}
use Rattle.ac_forms.specs.declared.row.Row.{Row}
use Rattle.ac_forms.specs.Standing.{is_among}
use Rattle.ac_flow.specs.CutStops.{IsCutCase, Itself, Outside, AreCutCases, IsCutQuestion, IsTooWide, CostsTooMuch, StopsOn, RowStops, OutsideStops, OneStops, CutStops, IfFull}
use Rattle.ac_flow.specs.Cuts.{inside, extended, row_parts, parts_outside, HasPoint, Sieved, AreKept, ArePartlyKept, Cuts, CutsAll, AreCut, IsPartlyCut, ArePartlyCut, AllHavePoints}
use Rattle.ac_flow.specs.declared.cut.CutStop.{CutStop}
use Rattle.ac_flow.specs.declared.cut.CutStop.TheVariants.{Overflow, Spent, Full, Memory}

-- ---- stops

-- a question of a case
pub on_question : (budget : ℕ) (case : Conj) (kills : List (List Row)) (q : Conj) (e : CutStop) → IsCutQuestion case kills q → StopsOn budget q e → CutStops budget case kills e
on_question budget case kills q (Overflow c) k s = inl (subst (λ (x : Conj). IsCutQuestion case kills x) (sym s.0) k, subst (IsTooWide budget) (sym s.0) s.1)
on_question budget case kills q (Spent c m) k s = (subst (λ (x : Conj). IsCutQuestion case kills x) (sym s.0) k, subst (CostsTooMuch budget m) (sym s.0) s.1)
on_question budget case kills q Full k s = tt
on_question budget case kills q (Memory e) k s = tt

pub on_case : (budget : ℕ) (case : Conj) (kills : List (List Row)) (e : CutStop) → StopsOn budget case e → CutStops budget case kills e
on_case budget case kills e s = on_question budget case kills case e (inl Itself) s

contains-map : (f : Conj → Conj) (ds : List Conj) (d e : Conj) → Contains ds d → e ≡ f d → Contains (map f ds) e
contains-map f [] d e (k, l, i) s = absurd (omega (arith, l))
contains-map f (x ∷ ds) d e (zero, l, i) s = (0, omega arith, ap f i ∙ sym s)
contains-map f (x ∷ ds) d e (suc k, l, i) s = let r = contains-map f ds d e (k, (omega (arith, l)), i) s in (suc r.0, (let lt = r.1 in omega (arith, lt)), r.2)

pub contains_at : (xs ys : List Conj) (i : ℕ) (d : Conj) → i < length xs → d ≡ get_or xs i d → xs ≡ ys → Contains ys d
contains_at xs ys i d m e is = subst (λ (zs : List Conj). Contains zs d) is (i, m, sym e)

-- a part in which a row fails
row-part : (c part d : Conj) (r : Row) → Contains (negation c.columns r) d → part ≡ extended c d → is_among r c.rows ≡ false → Contains (row_parts c r) part
row-part c part d r k e new = subst (λ (b : Bool). Contains (cond b [] (map (extended c) (negation c.columns r))) part) (sym new) (contains-map (extended c) (negation c.columns r) d part k e)

pub part_stops : (budget : ℕ) (c part d : Conj) (r : Row) (e : CutStop) → Contains (negation c.columns r) d → part ≡ extended c d → is_among r c.rows ≡ false → StopsOn budget part e → RowStops budget c r e
part_stops budget c part d r (Overflow q) k i new s = inl (subst (λ (x : Conj). Contains (row_parts c r) x) (sym s.0) (row-part c part d r k i new), subst (IsTooWide budget) (sym s.0) s.1)
part_stops budget c part d r (Spent q j) k i new s = (subst (λ (x : Conj). Contains (row_parts c r) x) (sym s.0) (row-part c part d r k i new), subst (CostsTooMuch budget j) (sym s.0) s.1)
part_stops budget c part d r Full k i new s = tt
part_stops budget c part d r (Memory e) k i new s = tt

-- where a cut case meets a kill piece
outside-stops : (budget : ℕ) (case : Conj) (kills : List (List Row)) (c : Conj) (kill : List Row) (e : CutStop) → IsCutCase case kills c → Contains kills kill → HasPoint (inside c kill) → OutsideStops budget c kill e → CutStops budget case kills e
outside-stops budget case kills c kill (Overflow q) k f has (inl s) = inl (inl (Outside c q kill k f has s.0), s.1)
outside-stops budget case kills c kill (Overflow q) k f has (inr l) = inr (record { cut_case = c; cut = k; kill = kill; among = f; meets = has; lacks = l })
outside-stops budget case kills c kill (Spent q j) k f has s = (inl (Outside c q kill k f has s.0), s.1)
outside-stops budget case kills c kill Full k f has s = tt
outside-stops budget case kills c kill (Memory e) k f has s = tt

pub one-stops : (budget : ℕ) (case : Conj) (kills : List (List Row)) (c : Conj) (kill : List Row) (e : CutStop) → IsCutCase case kills c → HasPoint c → Contains kills kill → OneStops budget c kill e → CutStops budget case kills e
one-stops budget case kills c kill e k p f (inl s) = on_question budget case kills (inside c kill) e (inr (record { cut_case = c; cut = k; point = p; kill = kill; among = f; is = refl })) s
one-stops budget case kills c kill e k p f (inr (has, s)) = outside-stops budget case kills c kill e k f has s

pub if_err : {A : Type 0} (r : Result A CutStop) (P Q : CutStop → Type 0) → ((e : CutStop) → P e → Q e) → IfErr r P → IfErr r Q
if_err (Ok x) P Q f h = tt
if_err (Err e) P Q f h = f e h

-- ---- what is kept has points

sieved-have : (parts kept : List Conj) → Sieved parts kept → AllHavePoints kept
sieved-have [] kept s = subst AllHavePoints (sym s) tt
sieved-have (c ∷ cs) kept (inl (empty, s)) = sieved-have cs kept s
sieved-have (c ∷ cs) kept (inr (rest, e, has, s)) = subst AllHavePoints (sym e) (has, sieved-have cs rest s)

pub have-append : (cs ds : List Conj) → AllHavePoints cs → AllHavePoints ds → AllHavePoints (cs ++ ds)
have-append [] ds a b = b
have-append (c ∷ cs) ds a b = (a.0, have-append cs ds a.1 b)

pub kept_have : (parts old new : List Conj) → AreKept parts old new → AllHavePoints old → AllHavePoints new
kept_have parts old new k a = subst AllHavePoints (sym k.is) (have-append old k.more a (sieved-have parts k.more k.sieved))

-- ---- what is kept are cut cases

pub case-at : (case : Conj) (kills : List (List Row)) (cs : List Conj) (i : ℕ) (c : Conj) → AreCutCases case kills cs → i < length cs → c ≡ get_or cs i c → IsCutCase case kills c
case-at case kills [] i c w m e = absurd (omega (arith, m))
case-at case kills (d ∷ cs) zero c w m e = rw e w.0
case-at case kills (d ∷ cs) (suc i) c w m e = case-at case kills cs i c w.1 (omega (arith, m)) e

cases-append : (case : Conj) (kills : List (List Row)) (cs ds : List Conj) → AreCutCases case kills cs → AreCutCases case kills ds → AreCutCases case kills (cs ++ ds)
cases-append case kills [] ds a b = b
cases-append case kills (c ∷ cs) ds a b = (a.0, cases-append case kills cs ds a.1 b)

-- parts outside a kill piece
parts-cases : (case : Conj) (kills : List (List Row)) (c : Conj) (kill : List Row) (ds : List Conj) → IsCutCase case kills c → Contains kills kill → HasPoint (inside c kill) → ((d : Conj) → Contains ds d → Contains (parts_outside c kill) d) → AreCutCases case kills ds
parts-cases case kills c kill [] k f has h = tt
parts-cases case kills c kill (d ∷ ds) k f has h =
    (Outside c d kill k f has (h d (0, omega arith, refl)), parts-cases case kills c kill ds k f has (λ x y. h x (suc y.0, (let lt = y.1 in omega (arith, lt)), y.2)))

outside-cases : (case : Conj) (kills : List (List Row)) (c : Conj) (kill : List Row) → IsCutCase case kills c → Contains kills kill → HasPoint (inside c kill) → AreCutCases case kills (parts_outside c kill)
outside-cases case kills c kill k f has = parts-cases case kills c kill (parts_outside c kill) k f has (λ d x. x)

sieved-cases : (case : Conj) (kills : List (List Row)) (parts kept : List Conj) → AreCutCases case kills parts → Sieved parts kept → AreCutCases case kills kept
sieved-cases case kills [] kept a s = subst (AreCutCases case kills) (sym s) tt
sieved-cases case kills (c ∷ cs) kept a (inl (empty, s)) = sieved-cases case kills cs kept a.1 s
sieved-cases case kills (c ∷ cs) kept a (inr (rest, e, has, s)) = subst (AreCutCases case kills) (sym e) (a.0, sieved-cases case kills cs rest a.1 s)

cut-cases : (case : Conj) (kills : List (List Row)) (c : Conj) (kill : List Row) (kept : List Conj) → IsCutCase case kills c → Contains kills kill → Cuts c kill kept → AreCutCases case kills kept
cut-cases case kills c kill kept k f (inl (empty, e)) = subst (AreCutCases case kills) (sym e) (k, tt)
cut-cases case kills c kill kept k f (inr (has, s)) = sieved-cases case kills (parts_outside c kill) kept (outside-cases case kills c kill k f has) s

pub cuts-cases : (case : Conj) (kills : List (List Row)) (pieces : List Conj) (kill : List Row) (kept : List Conj) → AreCutCases case kills pieces → Contains kills kill → CutsAll pieces kill kept → AreCutCases case kills kept
cuts-cases case kills [] kill kept a f e = subst (AreCutCases case kills) (sym e) tt
cuts-cases case kills (c ∷ cs) kill kept a f (first, rest, e, x, s) =
    subst (AreCutCases case kills) (sym e) (cases-append case kills first rest (cut-cases case kills c kill first a.0 f x) (cuts-cases case kills cs kill rest a.1 f s))

pub full_map : (e : CutStop) (P Q : Type 0) → (P → Q) → IfFull e P → IfFull e Q
full_map (Overflow c) P Q f h = tt
full_map (Spent c k) P Q f h = tt
full_map Full P Q f h = f h
full_map (Memory e) P Q f h = tt

pub if_both : {A : Type 0} (r : Result A CutStop) (P Q R : Type 0) → (P → Q → R) → IfErr r (λ e. IfFull e P) → IfErr r (λ e. IfFull e Q) → IfErr r (λ e. IfFull e R)
if_both (Ok x) P Q R f a b = tt
if_both (Err (Overflow c)) P Q R f a b = tt
if_both (Err (Spent c k)) P Q R f a b = tt
if_both (Err Full) P Q R f a b = f a b
if_both (Err (Memory e)) P Q R f a b = tt

cases-front : (case : Conj) (kills : List (List Row)) (cs : List Conj) (c : Conj) (ds : List Conj) → AreCutCases case kills (cs ++ c ∷ ds) → AreCutCases case kills cs × IsCutCase case kills c
cases-front case kills [] c ds a = (tt, a.0)
cases-front case kills (b ∷ bs) c ds a = let r = cases-front case kills bs c ds a.1 in ((a.0, r.0), r.1)

cases-first : (case : Conj) (kills : List (List Row)) (cs ds : List Conj) → AreCutCases case kills (cs ++ ds) → AreCutCases case kills cs
cases-first case kills [] ds a = tt
cases-first case kills (c ∷ cs) ds a = (a.0, cases-first case kills cs ds a.1)

pub partly-cases : (case : Conj) (kills : List (List Row)) (pieces : List Conj) (kill : List Row) (old new : List Conj) → old ≡ [] → AreCutCases case kills pieces → Contains kills kill → ArePartlyCut pieces kill old new → AreCutCases case kills new
partly-cases case kills pieces kill old new none a f k = by k.last
  where
    split : AreCutCases case kills k.before × IsCutCase case kills k.at
    split = cases-front case kills k.before k.at k.behind (subst (AreCutCases case kills) (sym k.split) a)

    mid : AreCutCases case kills k.mid
    mid = subst (AreCutCases case kills) (sym (k.all.is ∙ ap (λ (xs : List Conj). xs ++ k.all.more) none)) (cuts-cases case kills k.before kill k.all.more split.0 f k.all.cut)

    by : IsPartlyCut k.at kill k.mid new → AreCutCases case kills new
    by (inl c) = subst (AreCutCases case kills) (sym c.is) (cases-append case kills k.mid c.more mid (cut-cases case kills k.at kill c.more split.1 f c.cut))
    by (inr (has, c)) =
        let done = cases-first case kills c.done c.rest (subst (AreCutCases case kills) (sym c.split) (outside-cases case kills k.at kill split.1 f has)) in
        subst (AreCutCases case kills) (sym c.kept.is) (cases-append case kills k.mid c.kept.more mid (sieved-cases case kills c.done c.kept.more done c.kept.sieved))
