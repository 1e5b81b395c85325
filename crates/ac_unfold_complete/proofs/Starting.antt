-- Each pair of a claim lies in a start.
use Rattle.std.proofs.Common.{◌≡◌, ◌<◌, ℕ, ℤ, List, [], ◌++◌, length, false, Option, Some, None, refl, sym, ap, ◌∙◌, subst, arith}
use Rattle.std.specs.Prelude.{option_and_then, option_map, slice_get}
use Rattle.std.proofs.lemmas.Option.{slice_get_within}
use Rattle.ac_forms.specs.Rows.{HaveModuli, IsWellMade, Meets}
use Rattle.ac_forms.specs.declared.row.Row.{Row}
use Rattle.ac_syntax.specs.declared.tree.Position.{Position}
use Rattle.ac_poly.specs.declared.types.Model.{Model}
use Rattle.ac_poly.proofs.Columns.{has_columns}
use Rattle.ac_poly.proofs.Whole.{has_context}
use Rattle.ac_omega_steps.proofs.Keeping.{Meets-append}
use Rattle.ac_base.proofs.Options.{map-some}
use Rattle.ac_claims.specs.Domains.{of_width, piece_by}
use Rattle.ac_claims.specs.ProofFaults.{Domain, domain, left_seat, piece_rows, right_seat, start_columns}
use Rattle.ac_claims.specs.RemainingPlans.{start_at, start_beside, start_of}
use Rattle.ac_claims.specs.Soundness.{ArePaired}
use Rattle.ac_claims.specs.declared.domains.Piece.{Piece}
use Rattle.ac_claims.specs.declared.types.Claim.{Claim}
use Rattle.ac_claims.proofs.Claimed.{Setting}
use Rattle.ac_flow.specs.declared.types.Flow.{Flow}
use Rattle.ac_claims.proofs.Trees.{domain_point, pieces_meet, start_point}
use Rattle.ac_claims_paths.specs.Executions.{At, Describes, Execution, execution}
use Rattle.ac_claims_paths.specs.WellFormedPaths.{IsFormed}
use Rattle.ac_claims_paths.specs.Pairs.{Placed, StandsOn}
use Rattle.ac_claims_paths.specs.declared.path.Path.{Path}
use Rattle.ac_claims_paths.proofs.InBranches.{in_get}
use Rattle.ac_claims_paths.proofs.Moving.{meets-both}
use Rattle.ac_graph.specs.PairMoves.{pairing_of}
use Rattle.ac_graph.specs.GraphMeaning.{IsCompared, LeftPlaced, RightPlaced, comparison}
use Rattle.ac_widen_programs.specs.PairSetting.{IsPlaced}
use Rattle.ac_widen_programs.specs.PairPaths.{Unfolding, IsOfClaim, params_of}
use Rattle.ac_unfold.specs.UnbrokenStarts.{StartStands, Stands}
use Rattle.ac_unfold_complete.specs.FinePairs.{PairOf}
use Rattle.ac_unfold_complete.proofs.Placing.{IsThere, comes_there}

no_claims : (i : ℕ) (c : Claim) → slice_get [] i ≡ Some c → HaveModuli c.rows
no_claims i c e = absurd cc

-- both programs at a valuation, with no claims
abbrev setting_at : (u : Unfolding) → ArePaired u.pair → (params : List ℤ) → IsCompared u.pair params → Setting
setting_at u paired params c = record {
  on = comparison u.pair params c;
  claims = [];
  context = (has_context u.pair.left u.pair.context paired.context params c.valuation.each).1 c.valuation.context;
  context_made = (has_columns u.pair.left u.pair.context paired.left paired.context).context;
  moduli = no_claims;
}

-- the question of two pieces
abbrev start_path : Unfolding → ℕ → ℕ → List Row → Path
start_path u l r rows = record {
  conj = record { columns = start_columns (pairing_of u.pair) (of_width l) (of_width r); rows = u.claim.rows ++ ((pairing_of u.pair).left.context ++ rows) };
  left = left_seat (pairing_of u.pair) u.claim (of_width l);
  right = right_seat (pairing_of u.pair) u.claim (of_width l) (of_width r);
  gone = false;
  last = None;
}

-- a placed position, by its name
here_at : (x : Execution) (a : Placed x) (P : Position) → a.position ≡ P → At x P a.at a.spot
here_at x a P e = subst (λ (R : Position). At x R a.at a.spot) e a.here

-- the piece of a domain at coordinates
record PieceAt (m : Model) (P : Position) (params at : List ℤ) (a : Domain) : Type 0 where
  number : ℕ
  within : number < length a.pieces
  rows : List Row
  is : piece_by number (domain m P) ≡ Some (record { width = a.width; rows = rows })
  long : length at ≡ a.width
  meets : Meets rows (params ++ at)

piece_at : (m : Model) (params : List ℤ) (x : Execution) → Describes m params x → (a : Placed x) (P : Position) → a.position ≡ P → (l : Domain) → domain m P ≡ Some l → PieceAt m P params a.at l
piece_at m params x c a P p l e =
    let d = domain_point m params x c P a.at a.spot l e (here_at x a P p) in
    let k = in_get d.piece l.pieces d.among in
    record {
      number = k.0;
      within = slice_get_within l.pieces k.0 d.piece k.1;
      rows = d.piece;
      is = ap (piece_by k.0) e ∙ ap (λ (o : Option (List Row)). option_map (λ (rows : List Row). record { width = l.width; rows = rows }) o) k.1;
      long = d.long;
      meets = d.meets;
    }

-- the pair lies in one of the starts
pub record InStart (u : Unfolding) (x : PairOf) : Type 0 where
  pub left_number : ℕ
  pub right_number : ℕ
  pub question : Path
  pub starts : start_at (pairing_of u.pair) u.claim left_number right_number ≡ Some question
  pub first : question.gone ≡ false
  pub there : IsThere u question x.1 x

-- it stands on that of two pieces in which its positions lie
start_stands : (u : Unfolding) → ArePaired u.pair → (params : List ℤ) (c : IsCompared u.pair params) (a : LeftPlaced u.pair params) (b : RightPlaced u.pair params) → a.position ≡ u.claim.left → b.position ≡ u.claim.right → (l r : ℕ) (left right rows : List Row) → length a.at ≡ l → length b.at ≡ r
    → Meets left (params ++ a.at) → Meets right (params ++ b.at) → Meets u.claim.rows (params ++ (a.at ++ b.at)) → piece_rows (pairing_of u.pair) u.claim (of_width l) (of_width r) left right ≡ Some rows → StandsOn (comparison u.pair params c) (start_path u l r rows) (params ++ (a.at ++ b.at)) a b
start_stands u paired params c a b pa pb l r left right rows la lb ml mr claimed e =
    let g = pairing_of u.pair in
    let s = setting_at u paired params c in
    let p = params ++ (a.at ++ b.at) in
    let sp = start_point s u.claim (of_width l) (of_width r) a.at b.at la lb in
    let pieces = pieces_meet s u.claim (of_width l) (of_width r) left right rows a.at b.at e sp ml mr in
    let lp : length params ≡ params_of u = c.valuation.each in
    let context = Meets-append g.left.context (params_of u) params (a.at ++ b.at) (omega (arith, lp)) s.context_made s.context in
    let x = here_at (execution u.pair.left g.left params) a u.claim.left pa in
    let y = here_at (execution u.pair.right g.right params) b u.claim.right pb in
    record {
      on = record {
        point = record { long = sp.long; meets = meets-both u.claim.rows (g.left.context ++ rows) p claimed (meets-both g.left.context rows p context pieces) };
        starts = sp.starts;
        left = subst (λ (z : List ℤ). At (execution u.pair.left g.left params) u.claim.left z a.spot) (sym sp.left) x;
        right = subst (λ (z : List ℤ). At (execution u.pair.right g.right params) u.claim.right z b.spot) (sym sp.right) y;
        last = tt;
      };
      left = record { position_is = pa; at_is = sym sp.left; spot_is = refl };
      right = record { position_is = pb; at_is = sym sp.right; spot_is = refl };
    }

start_formed : (u : Unfolding) (l r : ℕ) (rows : List Row) → IsWellMade (start_path u l r rows).conj → IsFormed (params_of u) (start_path u l r rows)
start_formed u l r rows made = record { made = made; base_in = omega arith; left_in = omega arith; right_in = omega arith; last_in = tt }

-- the start at the pieces in which both positions of a pair lie
start_there : (u : Unfolding) → ArePaired u.pair → (params : List ℤ) (c : IsCompared u.pair params) (a : LeftPlaced u.pair params) (b : RightPlaced u.pair params) (key : Position × Position) (p : List ℤ) → IsPlaced u.pair key p params a b → a.position ≡ u.claim.left → b.position ≡ u.claim.right → Meets u.claim.rows p → (l r : Domain)
    → (x : PieceAt (pairing_of u.pair).left u.claim.left params a.at l) (y : PieceAt (pairing_of u.pair).right u.claim.right params b.at r) (q : Path) → start_at (pairing_of u.pair) u.claim x.number y.number ≡ Some q → IsWellMade q.conj → InStart u (key, p)
start_there u paired params c a b key p h pa pb claimed l r x y q e made =
    let g = pairing_of u.pair in
    let left : Piece = record { width = l.width; rows = x.rows } in
    let right : Piece = record { width = r.width; rows = y.rows } in
    let is : start_at g u.claim x.number y.number ≡ start_of g u.claim left right =
    ap (λ (o : Option Piece). option_and_then (λ (z : Piece). start_beside g u.claim z (piece_by y.number (domain g.right u.claim.right))) o) x.is ∙ ap (start_beside g u.claim left) y.is in
    let f = map-some (piece_rows g u.claim (of_width l.width) (of_width r.width) x.rows y.rows) (start_path u l.width r.width) q (sym is ∙ e) in
    let point = params ++ (a.at ++ b.at) in
    let formed = start_formed u l.width r.width f.0 (subst (λ (z : Path). IsWellMade z.conj) f.2 made) in
    let stands = start_stands u paired params c a b pa pb l.width r.width x.rows y.rows f.0 x.long y.long x.meets y.meets (subst (Meets u.claim.rows) h.point_is claimed) f.1 in
    let there = comes_there u (start_path u l.width r.width f.0) point params c a b formed stands (key, p) h in
    let at_p = subst (λ (z : List ℤ). IsThere u (start_path u l.width r.width f.0) z (key, p)) {x = point} {y = p} (sym h.point_is) there in
    record { left_number = x.number; right_number = y.number; question = q; starts = e; first = ap (λ (z : Path). z.gone) f.2; there = subst (λ (z : Path). IsThere u z p (key, p)) {x = start_path u l.width r.width f.0} {y = q} (sym f.2) at_p }

pub in_start : (u : Unfolding) (left right : Flow) (claims : List Claim) → ArePaired u.pair → StartStands u left right claims → (key : Position × Position) (p : List ℤ) → IsOfClaim u key p → (s : InStart u (key, p)) × Stands u left right claims s.question
unfolding start_there
in_start u left right claims paired start key p h =
    let g = pairing_of u.pair in
    let t = h.there in
    let pa = t.placed.left_is ∙ h.left_is in
    let pb = t.placed.right_is ∙ h.right_is in
    let x = piece_at g.left t.params (execution u.pair.left g.left t.params) t.compared.left t.a u.claim.left pa start.left_pieces start.left_is in
    let y = piece_at g.right t.params (execution u.pair.right g.right t.params) t.compared.right t.b u.claim.right pb start.right_pieces start.right_is in
    let at = start.stands x.number y.number x.within y.within in
    (start_there u paired t.params t.compared t.a t.b key p t.placed pa pb h.meets start.left_pieces start.right_pieces x y at.question at.is at.made, at.stands)
