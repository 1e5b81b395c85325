-- What the loops over cases keep.
use Rattle.std.proofs.Common.{◌≡◌, ℕ, ◌+◌, ◌<◌, ◌≤◌, List, [], ◌∷◌, ◌++◌, map, drop, length, get_or, true, false, Option, Some, None, refl, sym, ap, ◌∙◌, append_assoc, append-nil, subst}
use Rattle.std.specs.Prelude.{Ok, option_map}
use Rattle.std.specs.List.{flat_map}
use Rattle.std.proofs.lemmas.List.{drop_all}
use Rattle.std.proofs.lemmas.List.Concat.{flat_map-cons}
use Rattle.ac_omega_steps.proofs.Parts.{drop-at}
use Rattle.ac_forms.specs.declared.row.Row.{Row}
use Rattle.ac_claims_paths.specs.ListExtension.{Adds}
use Rattle.ac_claims_paths.specs.PathColumns.{all_of}
use Rattle.ac_forms.specs.declared.conj.Conj.{Conj}
use Rattle.ac_poly.specs.declared.types.StmtModel.{StmtModel}
use Rattle.ac_claims_paths.specs.PathSteps.{seat_of, gone_to, root, extended, case_rows, case_path}
use Rattle.ac_claims_paths.specs.ModelPositions.{CellForms}
use Rattle.ac_claims_paths.specs.declared.path.Seat.{Seat}
use Rattle.ac_claims_paths.specs.declared.path.Side.{Side}
use Rattle.ac_claims_paths.specs.declared.path.Path.{Path}

-- both lists, where both are there
abbrev both_of : Option (List Path) → Option (List Path) → Option (List Path)
both_of None b = None
both_of (Some x) b = option_map (λ y. x ++ y) b

nil_both : (o : Option (List Path)) → o ≡ option_map (λ y. [] ++ y) o
nil_both None = refl
nil_both (Some y) = refl

cons_both : (x : Path) (o p : Option (List Path)) → option_map (λ z. x ∷ z) (both_of o p) ≡ both_of (option_map (λ z. x ∷ z) o) p
cons_both x None p = refl
cons_both x (Some a) None = refl
cons_both x (Some a) (Some b) = refl

all_append : (xs ys : List (Option Path)) → all_of (xs ++ ys) ≡ both_of (all_of xs) (all_of ys)
all_append [] ys = nil_both (all_of ys)
all_append (None ∷ xs) ys = refl
all_append (Some x ∷ xs) ys = ap (option_map (λ z. x ∷ z)) (all_append xs ys) ∙ cons_both x (all_of xs) (all_of ys)

both_again : (done more : List Path) (o : Option (List Path)) → option_map (λ rest. done ++ rest) (both_of (Some more) o) ≡ option_map (λ rest. (done ++ more) ++ rest) o
both_again done more None = refl
both_again done more (Some z) = ap Some (sym (append_assoc done more z))

-- what was added so far, and what is left to make
pub record Adding (os : List (Option Path)) (old out : List Path) (back : List (Option Path)) : Type 0 where
  pub done : List Path
  pub left : all_of os ≡ option_map (λ rest. done ++ rest) (all_of back)
  pub grown : out ≡ old ++ done

pub start : (os : List (Option Path)) (old : List Path) → Adding os old old os
start os old = record { done = []; left = nil_both (all_of os); grown = sym (append-nil old) }

pub part : (os : List (Option Path)) (old out new : List Path) (front back : List (Option Path)) → Adding os old out (front ++ back) → Adds front out new (Ok true) → Adding os old new back
part os old out new front back h a = record {
  done = h.done ++ a.0;
  left = h.left ∙ ap (option_map (λ rest. h.done ++ rest)) (all_append front back ∙ ap (λ o. both_of o (all_of back)) a.1) ∙ both_again h.done a.0 (all_of back);
  grown = a.2 ∙ ap (λ z. z ++ a.0) h.grown ∙ append_assoc old h.done a.0;
}

pub part_none : (os : List (Option Path)) (old out new : List Path) (front back : List (Option Path)) → Adding os old out (front ++ back) → Adds front out new (Ok false) → all_of os ≡ None
part_none os old out new front back h a = h.left ∙ ap (option_map (λ rest. h.done ++ rest)) (all_append front back ∙ ap (λ o. both_of o (all_of back)) a)

pub end : (os : List (Option Path)) (old out : List Path) → Adding os old out [] → Adds os old out (Ok true)
end os old out h = (h.done ++ [], h.left, h.grown ∙ ap (λ z. old ++ z) (sym (append-nil h.done)))

-- the levels of a piece
pub record AtLevel (F : List Row → Option Path) (levels : List (List Row)) (old out : List Path) (i : ℕ) : Type 0 where
  pub adding : Adding (map F levels) old out (map F (drop i levels))

pub level_start : (F : List Row → Option Path) (levels : List (List Row)) (old : List Path) → AtLevel F levels old old 0
level_start F levels old = record { adding = start (map F levels) old }

level_front : (F : List Row → Option Path) (levels : List (List Row)) (i : ℕ) (level : List Row) → i < length levels → level ≡ get_or levels i level → map F (drop i levels) ≡ (F level ∷ []) ++ map F (drop (i + 1) levels)
level_front F levels i level l e = ap (map F) (drop-at levels i level l e)

pub level_next : (F : List Row → Option Path) (levels : List (List Row)) (old out new : List Path) (i : ℕ) (level : List Row) (p : Path) → AtLevel F levels old out i → i < length levels → level ≡ get_or levels i level → Some p ≡ F level → new ≡ out ++ p ∷ []
    → AtLevel F levels old new (i + 1)
level_next F levels old out new i level p h l e m n = record {
  adding = part (map F levels) old out new (F level ∷ []) (map F (drop (i + 1) levels)) (subst (Adding (map F levels) old out) (level_front F levels i level l e) h.adding)
      (p ∷ [], ap (λ o. all_of (o ∷ [])) (sym m), n);
}

pub level_none : (F : List Row → Option Path) (levels : List (List Row)) (old out : List Path) (i : ℕ) (level : List Row) → AtLevel F levels old out i → i < length levels → level ≡ get_or levels i level → None ≡ F level → Adds (map F levels) old out (Ok false)
level_none F levels old out i level h l e m =
    part_none (map F levels) old out out (F level ∷ []) (map F (drop (i + 1) levels)) (subst (Adding (map F levels) old out) (level_front F levels i level l e) h.adding) (ap (λ o. all_of (o ∷ [])) (sym m))

pub level_end : (F : List Row → Option Path) (levels : List (List Row)) (old out : List Path) (i : ℕ) → AtLevel F levels old out i → length levels ≤ i → Adds (map F levels) old out (Ok true)
level_end F levels old out i h l = end (map F levels) old out (subst (Adding (map F levels) old out) (ap (map F) (drop_all i levels l)) h.adding)

-- the pieces of an assignment
pub record AtPiece (G : List Row → List (Option Path)) (pieces : List (List Row)) (old out : List Path) (i : ℕ) : Type 0 where
  pub adding : Adding (flat_map G pieces) old out (flat_map G (drop i pieces))

pub piece_start : (G : List Row → List (Option Path)) (pieces : List (List Row)) (old : List Path) → AtPiece G pieces old old 0
piece_start G pieces old = record { adding = start (flat_map G pieces) old }

piece_front : (G : List Row → List (Option Path)) (pieces : List (List Row)) (i : ℕ) (piece : List Row) → i < length pieces → piece ≡ get_or pieces i piece → flat_map G (drop i pieces) ≡ G piece ++ flat_map G (drop (i + 1) pieces)
piece_front G pieces i piece l e = ap (flat_map G) (drop-at pieces i piece l e) ∙ flat_map-cons G piece (drop (i + 1) pieces)

pub piece_next : (G : List Row → List (Option Path)) (pieces : List (List Row)) (old out new : List Path) (i : ℕ) (piece : List Row) → AtPiece G pieces old out i → i < length pieces → piece ≡ get_or pieces i piece → Adds (G piece) out new (Ok true) → AtPiece G pieces old new (i + 1)
piece_next G pieces old out new i piece h l e a = record {
  adding = part (flat_map G pieces) old out new (G piece) (flat_map G (drop (i + 1) pieces)) (subst (Adding (flat_map G pieces) old out) (piece_front G pieces i piece l e) h.adding) a;
}

pub piece_none : (G : List Row → List (Option Path)) (pieces : List (List Row)) (old out new : List Path) (i : ℕ) (piece : List Row) → AtPiece G pieces old out i → i < length pieces → piece ≡ get_or pieces i piece → Adds (G piece) out new (Ok false) → Adds (flat_map G pieces) old new (Ok false)
piece_none G pieces old out new i piece h l e a =
    part_none (flat_map G pieces) old out new (G piece) (flat_map G (drop (i + 1) pieces)) (subst (Adding (flat_map G pieces) old out) (piece_front G pieces i piece l e) h.adding) a

pub piece_end : (G : List Row → List (Option Path)) (pieces : List (List Row)) (old out : List Path) (i : ℕ) → AtPiece G pieces old out i → length pieces ≤ i → Adds (flat_map G pieces) old out (Ok true)
piece_end G pieces old out i h l = end (flat_map G pieces) old out (subst (Adding (flat_map G pieces) old out) (ap (flat_map G) (drop_all i pieces l)) h.adding)

pub ruleset level_steps = (level_start, level_next, level_none, level_end)

pub ruleset piece_steps = (piece_start, piece_next, piece_none, piece_end)

-- the path of a case from its parts
abbrev case_by : ℕ → Path → Side → CellForms → StmtModel → List Row → List Row → Seat → Seat → Option Path
case_by params h side cell stmt piece level source reader =
    option_map (λ rows. gone_to h side (extended h.conj source.width rows) source (Some (record { side = side; reader = reader; source = Some source }))) (case_rows params reader cell source stmt piece level)

pub case_made : (params : ℕ) (h : Path) (side : Side) (cell : CellForms) (u : ℕ) (stmt : StmtModel) (piece level : List Row) (source reader : Seat) (rows : List Row) (conj : Conj) (new : Path)
    → source ≡ root h.conj.columns u stmt → reader ≡ seat_of h side → Some rows ≡ case_rows params reader cell source stmt piece level → conj ≡ extended h.conj source.width rows
    → new ≡ gone_to h side conj source (Some (record { side = side; reader = reader; source = Some source })) → Some new ≡ case_path params h side cell u stmt piece level
case_made params h side cell u stmt piece level source reader rows conj new s r m c n =
    ap Some (n ∙ ap (λ d. gone_to h side d source (Some (record { side = side; reader = reader; source = Some source }))) c)
    ∙ ap (option_map (λ rows. gone_to h side (extended h.conj source.width rows) source (Some (record { side = side; reader = reader; source = Some source })))) m
    ∙ (λ i. case_by params h side cell stmt piece level (s i) (r i))
