-- Claims of one pair, and claims that are made.
use Rattle.std.proofs.Common.{◌≡◌, ℕ, zero, suc, ◌+◌, ◌<◌, ◌≤◌, ◌&&◌, ℤ, true, List, [], ◌∷◌, ◌++◌, length, take, get_or, Option, Some, None, inl, inr, sym, ap, ◌∙◌, subst, arith}
use Rattle.std.specs.Prelude.{option_map}
use Rattle.std.proofs.lemmas.List.{take_more, take_all}
use Rattle.ac_forms.specs.ListMembers.{IsAmong}
use Rattle.ac_forms.specs.Rows.{Meets, AreRowsOver}
use Rattle.ac_forms.specs.Standing.{is_among}
use Rattle.ac_forms.specs.declared.row.Row.{Row}
use Rattle.ac_forms.proofs.Joining.{both_of}
use Rattle.ac_forms.proofs.Standings.{among-holds}
use Rattle.ac_claims_paths.specs.PathSteps.{Pairing}
use Rattle.ac_claims_paths.specs.ModelPositions.{CallAt}
use Rattle.ac_claims.specs.CheckKnowledge.{IsClaimMade}
use Rattle.ac_claims.specs.Domains.{of_width, size_of}
use Rattle.ac_claims.specs.ProofEnds.{same_position}
use Rattle.ac_claims.specs.ProofFaults.{Domain, domain, start_columns}
use Rattle.ac_claims.specs.declared.domains.Size.{Size}
use Rattle.ac_claims.specs.declared.types.Claim.{Claim}
use Rattle.ac_claims.proofs.Plans.{position_is}
use Rattle.ac_unfold_plans.specs.PlanStops.{claim_positions}
use Rattle.ac_unfold_table.specs.TableCoverage.{HasClaim, IsCovered}

-- ---- lists

pub read_among : {A : Type 0} (xs : List A) (i : ℕ) (x : A) → i < length xs → x ≡ get_or xs i x → IsAmong x xs
read_among [] i x l e = absurd (omega (arith, l))
read_among (y ∷ xs) zero x l e = inl e
read_among (y ∷ xs) (suc i) x l e = inr (read_among xs i x (omega (arith, l)) e)

pub one_more : {A : Type 0} (xs : List A) (i : ℕ) (x : A) → i < length xs → x ≡ get_or xs i x → take (i + 1) xs ≡ take i xs ++ x ∷ []
one_more xs i x l e = take_more xs i x l ∙ ap (λ y. take i xs ++ y ∷ []) (sym e)

-- ---- pairs

pub same_key : (c d : Claim) → (same_position c.left d.left && same_position c.right d.right) ≡ true → claim_positions c ≡ claim_positions d
same_key c d e =
    let b = both_of (same_position c.left d.left) (same_position c.right d.right) e in
    let l = position_is c.left d.left b.0 in
    let r = position_is c.right d.right b.1 in
    λ i. (l i, r i)

pub covers_by : (known : List Claim) (c r : Claim) → IsAmong c known → (same_position c.left r.left && same_position c.right r.right) ≡ true → ((p : List ℤ) → Meets r.rows p → Meets c.rows p) → IsCovered known r
covers_by known c r i e h = (c, i, record { pair = same_key c r e; meets = h })

pub claim_by : (claims : List Claim) (r d : Claim) → IsAmong d claims → (same_position r.left d.left && same_position r.right d.right) ≡ true → HasClaim claims (claim_positions r)
claim_by claims r d i e = (d, i, sym (same_key r d e))

-- ---- rows

meets_last : (rows : List Row) (r : Row) (p : List ℤ) → Meets rows p → Meets (r ∷ []) p → Meets (rows ++ r ∷ []) p
meets_last [] r p h k = k
meets_last (x ∷ rows) r p h k = (h.0, meets_last rows r p h.1 k)

pub rows_more : (rows among : List Row) (i : ℕ) (r : Row) → ((p : List ℤ) → Meets among p → Meets (take i rows) p) → i < length rows → r ≡ get_or rows i r → is_among r among ≡ true → (p : List ℤ) → Meets among p → Meets (take (i + 1) rows) p
rows_more rows among i r h l e t p m = subst (λ (xs : List Row). Meets xs p) (sym (one_more rows i r l e)) (meets_last (take i rows) r p (h p m) (among-holds r among p t m, tt))

pub rows_all : (rows among : List Row) (i : ℕ) → ((p : List ℤ) → Meets among p → Meets (take i rows) p) → length rows ≤ i → (p : List ℤ) → Meets among p → Meets rows p
rows_all rows among i h l p m = subst (λ (xs : List Row). Meets xs p) (take_all i rows l) (h p m)

-- ---- claims that are made

none_size : (o : Option Domain) (a : Domain) → None ≡ option_map size_of o → ¬ (o ≡ Some a)
none_size None a e f = absurd cc
none_size (Some b) a e f = absurd cc

pub no_left : (g : Pairing) (c : Claim) → None ≡ option_map size_of (domain g.left c.left) → ¬ (IsClaimMade g c)
no_left g c e made = none_size (domain g.left c.left) made.left e made.left_is

pub no_right : (g : Pairing) (c : Claim) → None ≡ option_map size_of (domain g.right c.right) → ¬ (IsClaimMade g c)
no_right g c e made = none_size (domain g.right c.right) made.right e made.right_is

size_width : (o : Option Domain) (a : Domain) (s : Size) → Some s ≡ option_map size_of o → o ≡ Some a → s.width ≡ a.width
size_width None a s e f = absurd cc
size_width (Some b) a s e f =
    let x : s ≡ size_of b = cc in
    let y : b ≡ a = cc in
    ap (λ (z : Size). z.width) x ∙ ap (λ (z : Domain). z.width) y

pub no_rows : (g : Pairing) (c : Claim) (s t : Size) (columns : ℕ) → Some s ≡ option_map size_of (domain g.left c.left) → Some t ≡ option_map size_of (domain g.right c.right) → columns ≡ start_columns g (of_width s.width) (of_width t.width) → ¬ (AreRowsOver columns c.rows) → ¬ (IsClaimMade g c)
no_rows g c s t columns e f n h made =
    let x = size_width (domain g.left c.left) made.left s e made.left_is in
    let y = size_width (domain g.right c.right) made.right t f made.right_is in
    let same : start_columns g made.left made.right ≡ columns = (let k : g.params + (made.left.width + made.right.width) ≡ g.params + (s.width + t.width) = omega (arith, x, y) in k) ∙ sym n in
    h (subst (λ (k : ℕ). AreRowsOver k c.rows) same made.rows)

-- ---- calls

pub no_call : (o : Option CallAt) (a : CallAt) → o ≡ None → ¬ (o ≡ Some a)
no_call o a e f = (let x : None ≡ Some a = sym e ∙ f in absurd cc)
