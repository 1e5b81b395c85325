-- The start of a claim at a piece of each of its positions leads to itself.
use Rattle.std.proofs.Common.{◌≡◌, ℕ, ◌+◌, ◌≤◌, ℤ, List, [], ◌∷◌, ◌++◌, length, take, drop, false, Some, None, refl, sym, ap, ◌∙◌, subst, arith, length-append}
use Rattle.std.specs.List.{range_with_len}
use Rattle.ac_forms.specs.Renaming.{picked, rows_renaming}
use Rattle.ac_forms.specs.Rows.{Meets, AreRowsOver}
use Rattle.ac_forms.specs.declared.row.Row.{Row}
use Rattle.ac_poly.proofs.Columns.{has_columns}
use Rattle.ac_base.proofs.Options.{bind-some, map-some}
use Rattle.ac_claims.specs.Domains.{of_width, piece_by}
use Rattle.ac_claims.specs.ProofFaults.{domain, left_seat, piece_rows, right_seat, start_columns}
use Rattle.ac_claims.specs.RemainingPlans.{start_beside, start_of}
use Rattle.ac_claims.specs.Soundness.{ArePaired}
use Rattle.ac_claims.specs.declared.domains.Piece.{Piece}
use Rattle.ac_claims.specs.declared.types.Claim.{Claim}
use Rattle.ac_claims_paths.specs.PathColumns.{base, columns_of}
use Rattle.ac_claims_paths.specs.PathSteps.{Pairing}
use Rattle.ac_claims_paths.specs.declared.path.Path.{Path}
use Rattle.ac_claims_paths.proofs.Moving.{appended-parts, meets-parts, pick-append, rows-value}
use Rattle.ac_graph.specs.PairMoves.{pairing_of}
use Rattle.ac_widen_programs.specs.PairSetting.{PairAt}
use Rattle.ac_widen_programs.proofs.Mismatching.{pair_at}
use Rattle.ac_widen_programs.proofs.Placing.{seen_there}
use Rattle.ac_widen_programs.specs.PairPaths.{Unfolding, ComesTo, Leads, params_of, seats_of}
use Rattle.ac_widen_programs.specs.PairPathSteps.{StartsLead}
use Rattle.ac_widen_programs.proofs.Calling.{own_models}
use Rattle.ac_widen_programs.proofs.Picks.{meets_front, range_append, front_and_rest, first_numbers, base_numbers, base_many, how_many, pick_pair}
use Rattle.ac_widen_programs.proofs.Pieces.{here_of_piece}

-- the path of two pieces
abbrev start_path : Pairing → Claim → Piece → Piece → List Row → Path
start_path g c l r rows = record {
  conj = record { columns = start_columns g (of_width l.width) (of_width r.width); rows = c.rows ++ (g.left.context ++ rows) };
  left = left_seat g c (of_width l.width);
  right = right_seat g c (of_width l.width) (of_width r.width);
  gone = false;
  last = None;
}

-- its columns are those of the parameters and of both positions, in order
all_columns : (n l r : ℕ) → base n ++ (range_with_len n l ++ range_with_len (n + l) r) ≡ range_with_len 0 (n + (l + r))
all_columns n l r =
    let z : 0 + n ≡ n = omega arith in
    sym (range_append 0 n (l + r) ∙ ap (λ (k : ℕ). range_with_len 0 n ++ range_with_len k (l + r)) z ∙ ap (λ (ks : List ℕ). range_with_len 0 n ++ ks) (range_append n l r))

-- at a point of the columns with further numbers behind
at_start : (u : Unfolding) (left right : ℕ) (l r : Piece) (rows : List Row) → ArePaired u.pair → piece_by left (domain (pairing_of u.pair).left u.claim.left) ≡ Some l → piece_by right (domain (pairing_of u.pair).right u.claim.right) ≡ Some r
    → piece_rows (pairing_of u.pair) u.claim (of_width l.width) (of_width r.width) l.rows r.rows ≡ Some rows → AreRowsOver (params_of u + (l.width + r.width)) u.claim.rows
    → (front more : List ℤ) → length front ≡ params_of u + (l.width + r.width) → Meets (u.claim.rows ++ ((pairing_of u.pair).left.context ++ rows)) (front ++ more)
    → ComesTo u (seats_of (start_path (pairing_of u.pair) u.claim l r rows) ∷ []) (start_path (pairing_of u.pair) u.claim l r rows) (front ++ more)
at_start u left right l r rows paired dl dr e over front more long meets =
    let pair = u.pair in
    let g = pairing_of pair in
    let n = params_of u in
    let p = front ++ more in
    let s = left_seat g u.claim (of_width l.width) in
    let t = right_seat g u.claim (of_width l.width) (of_width r.width) in
    let v = picked (base n) p in
    let x = picked (columns_of s) p in
    let y = picked (columns_of t) p in
    let m = meets-parts u.claim.rows (g.left.context ++ rows) p meets in
    let k = meets-parts g.left.context rows p m.1 in
    let point : picked (base n ++ (columns_of s ++ columns_of t)) p ≡ front = ap (λ (ks : List ℕ). picked ks p) (all_columns n l.width r.width) ∙ first_numbers (n + (l.width + r.width)) front more long in
    let claimed = meets_front u.claim.rows (n + (l.width + r.width)) front more (omega (arith, long)) over m.0 in
    let lp : n ≤ length p = omega (arith, length-append front more, long) in
    let all : v ++ drop n p ≡ p = ap (λ (z : List ℤ). z ++ drop n p) (base_numbers n p lp) ∙ (front_and_rest n p lp).0 in
    let lv = base_many n p in
    let is = has_columns pair.left pair.context paired.left paired.context in
    let context = meets_front g.left.context n v (drop n p) (omega (arith, lv)) is.context (subst (Meets g.left.context) (sym all) k.0) in
    let parts = appended-parts (rows_renaming (base n ++ columns_of s) l.rows) (rows_renaming (base n ++ columns_of t) r.rows) rows e in
    let both = meets-parts parts.0 parts.1 p (subst (λ (rs : List Row). Meets rs p) parts.4 k.1) in
    let ml = subst (Meets l.rows) (pick-append (base n) (columns_of s) p) ((rows-value (base n ++ columns_of s) l.rows parts.0 p parts.2).0 both.0) in
    let mr = subst (Meets r.rows) (pick-append (base n) (columns_of t) p) ((rows-value (base n ++ columns_of t) r.rows parts.1 p parts.3).0 both.1) in
    let hl = here_of_piece g.left v u.claim.left left l x dl (how_many s p) ml in
    let hr = here_of_piece g.right v u.claim.right right r y dr (how_many t p) mr in
    let seen = seen_there pair g.left g.right paired (own_models pair) v lv context u.claim.left x u.claim.right y hl hr in
    record {
      first = (s, t);
      rest = [];
      pair_path_is = refl;
      last_is = refl;
      start = record {
        left_is = refl;
        right_is = refl;
        there = subst (PairAt pair (u.claim.left, u.claim.right)) (sym (pick_pair n s t p)) (pair_at pair v u.claim.left x u.claim.right y seen);
        meets = subst (Meets u.claim.rows) (sym point) claimed;
      };
      steps = tt;
      here = seen;
    }

pub starts_lead : StartsLead
starts_lead u left right q paired e over =
    let g = pairing_of u.pair in
    let a = bind-some (piece_by left (domain g.left u.claim.left)) (λ (l : Piece). start_beside g u.claim l (piece_by right (domain g.right u.claim.right))) q e in
    let b = bind-some (piece_by right (domain g.right u.claim.right)) (start_of g u.claim a.0) q a.2 in
    let c = map-some (piece_rows g u.claim (of_width a.0.width) (of_width b.0.width) a.0.rows b.0.rows) (start_path g u.claim a.0 b.0) q b.2 in
    let n = params_of u + (a.0.width + b.0.width) in
    let wide = subst (λ (z : Path). AreRowsOver z.conj.columns u.claim.rows) c.2 over in
    subst (λ (z : Path). Leads u (seats_of z ∷ []) z) (sym c.2)
    (λ p long meets.
    let f = front_and_rest n p long in
    let z = start_path g u.claim a.0 b.0 c.0 in
    subst (λ (y : List ℤ). ComesTo u (seats_of z ∷ []) z y) f.0 (at_start u left right a.0 b.0 c.0 paired a.1 b.1 c.1 wide (take n p) (drop n p) f.1 (subst (Meets z.conj.rows) (sym f.0) meets)))
