-- What lines come to.
use Rattle.std.proofs.Common.{◌≡◌, ℕ, ◌+◌, ◌<◌, ◌≤◌, List, [], ◌∷◌, ◌++◌, length, Bool, true, false, Option, Some, None, refl, sym, ap, ◌∙◌, subst}
use Rattle.std.specs.Prelude.{nat_le, option_map}
use Rattle.std.specs.List.{AllByRecursion}
use Rattle.ac_forms.specs.Rows.{HasModulus, IsRowOver, form_of}
use Rattle.ac_forms.specs.declared.row.Row.{Row}
use Rattle.ac_syntax.specs.declared.tree.Position.{Position}
use Rattle.ac_cert.specs.declared.types.Rule.{Rule}
use Rattle.ac_cert.specs.declared.types.Rule.TheVariants as rule
use Rattle.ac_base.proofs.Options.{bind-some, map-some, some-is}
use Rattle.ac_forms.proofs.Passes.{moduli_of}
use Rattle.std.proofs.lemmas.Bool.{leb-true}
use Rattle.std.proofs.lemmas.Option.{slice_get_past}
use Rattle.ac_claims_paths.specs.PathSteps.{Pairing}
use Rattle.ac_claims_paths.proofs.Moving.{made-both}
use Rattle.ac_claims.specs.CheckKnowledge.{known_of, columns_by, IsClaimMade, last_of, ColumnsAre, IsFrontMade}
use Rattle.ac_claims.specs.Domains.{size_of, of_width}
use Rattle.ac_claims.specs.Machine.{Due}
use Rattle.ac_claims.specs.ProofFaults.{Domain, domain, start_columns, DuePlan, due_from}
use Rattle.ac_claims.specs.ProofMachine.{Known, No, Yes, yes_if, with_claims, with_output, with_last, open_claim, closed}
use Rattle.ac_claims.specs.RemainingPlans.{remaining_by, Settled}
use Rattle.ac_claims.specs.Dues.{RowsHaveModuli}
use Rattle.ac_claims.specs.declared.upcoming.Upcoming.{Upcoming}
use Rattle.ac_claims.specs.declared.domains.Size.{Size}
use Rattle.ac_claims.specs.declared.front.Front.{Front}
use Rattle.ac_claims.specs.declared.types.Claim.{Claim}
use Rattle.ac_claims.proofs.ProofFolding.{with_rows}
use Rattle.ac_claims.proofs.UpcomingSteps.{remaining_start, next_plan}

pub both_columns : (g : Pairing) (o o' : Option Domain) (a b : Size) (n : ℕ) → Some a ≡ option_map size_of o → Some b ≡ option_map size_of o' → n ≡ start_columns g (of_width a.width) (of_width b.width) → Some n ≡ columns_by g o o'
both_columns g None o' a b n e f h = absurd cc
both_columns g (Some x) None a b n e f h = absurd cc
both_columns g (Some x) (Some y) a b n e f h =
    let s : a ≡ size_of x = cc in
    let t : b ≡ size_of y = cc in
    ap Some (h ∙ (λ i. g.params + ((s i).width + (t i).width)))

pub no_left_columns : (g : Pairing) (o o' : Option Domain) → None ≡ option_map size_of o → None ≡ columns_by g o o'
no_left_columns g None o' e = refl
no_left_columns g (Some x) o' e = absurd cc

pub no_right_columns : (g : Pairing) (o o' : Option Domain) → None ≡ option_map size_of o' → None ≡ columns_by g o o'
no_right_columns g None o' e = refl
no_right_columns g (Some x) None e = refl
no_right_columns g (Some x) (Some y) e = absurd cc

pub ruleset column_steps = (both_columns, no_left_columns, no_right_columns)

-- a claim is refused, or opened
pub claim_refused : (g : Pairing) (o o' : Option Domain) (P Q : Position) (k : ℕ) (s : Known) → None ≡ columns_by g o o' → open_claim g o o' P Q k s ≡ No k rule.Claim
claim_refused g None o' P Q k s e = refl
claim_refused g (Some a) None P Q k s e = refl
claim_refused g (Some a) (Some b) P Q k s e = absurd cc

-- the front with a further claim
abbrev further : Front → Position → Position → ℕ → Front
further f P Q n = record { claims = f.claims ++ record { left = P; right = Q; rows = [] } ∷ []; columns = n; named = f.named; next = record { claim = 0; left_piece = 0; right_piece = 0 } }

known_first : (g : Pairing) (cs : List Claim) (n : ℕ) (named : List ℕ) (due : List Due) → Yes (record { claims = cs; columns = n; named = named; plans = due_from g 0 cs; due = due }) ≡ Yes (known_of g (record { claims = cs; columns = n; named = named; next = record { claim = 0; left_piece = 0; right_piece = 0 } }) due)
known_first g cs n named due = ap (λ z. Yes (record { claims = cs; columns = n; named = named; plans = z; due = due })) (sym (remaining_start g cs 0))

pub claim_opened : (g : Pairing) (o o' : Option Domain) (P Q : Position) (k n : ℕ) (f f' : Front) (due : List Due) → Some n ≡ columns_by g o o' → f' ≡ further f P Q n → open_claim g o o' P Q k (known_of g f due) ≡ Yes (known_of g f' due)
claim_opened g None o' P Q k n f f' due e h = absurd cc
claim_opened g (Some a) None P Q k n f f' due e h = absurd cc
claim_opened g (Some a) (Some b) P Q k n f f' due e h =
    let s : n ≡ start_columns g a b = cc in
    known_first g (f.claims ++ record { left = P; right = Q; rows = [] } ∷ []) (start_columns g a b) f.named due
    ∙ ap (λ m. Yes (known_of g (further f P Q m) due)) (sym s)
    ∙ ap (λ (z : Front). Yes (known_of g z due)) (sym h)

last_snoc : (cs : List Claim) (c : Claim) → last_of (cs ++ c ∷ []) ≡ Some c
last_snoc [] c = refl
last_snoc (d ∷ []) c = refl
last_snoc (d ∷ e ∷ cs) c = last_snoc (e ∷ cs) c

all_snoc : (P : Claim → Type 0) (cs : List Claim) (c : Claim) → AllByRecursion P cs → P c → AllByRecursion P (cs ++ c ∷ [])
all_snoc P [] c h p = (p, tt)
all_snoc P (d ∷ cs) c h p = (h.0, all_snoc P cs c h.1 p)

pub made_opened : (g : Pairing) (P Q : Position) (n : ℕ) (f f' : Front) → Some n ≡ columns_by g (domain g.left P) (domain g.right Q) → f' ≡ further f P Q n → IsFrontMade g f → IsFrontMade g f'
made_opened g P Q n f f' e h m =
    let b = bind-some (domain g.left P) (λ (a : Domain). option_map (λ (b : Domain). start_columns g a b) (domain g.right Q)) n (sym e) in
    let d = map-some (domain g.right Q) (λ (b' : Domain). start_columns g b.0 b') n b.2 in
    let c : Claim = record { left = P; right = Q; rows = [] } in
    let made : IsClaimMade g c = record { left = b.0; right = d.0; left_is = b.1; right_is = d.1; rows = tt } in
    subst (IsFrontMade g) (sym h) (record { claims = all_snoc (IsClaimMade g) f.claims c m.claims made; columns = subst (ColumnsAre g n) (sym (last_snoc f.claims c)) (sym e) })

pub made_same : (g : Pairing) (f f' : Front) → f' ≡ f → IsFrontMade g f → IsFrontMade g f'
made_same g f f' h m = subst (IsFrontMade g) (sym h) m

pub ruleset claim_steps = (claim_refused, claim_opened, made_opened, made_same)

pub yes_not : (b : Bool) (k : ℕ) (r : Rule) (s : Known) → b ≡ false → yes_if b k r s ≡ No k r
yes_not b k r s e = ap (λ z. yes_if z k r s) e

-- a further row
pub row_added : (g : Pairing) (f f' : Front) (r : Row) (k : ℕ) (due : List Due) → nat_le (length (form_of r).coefs) f.columns ≡ true → f' ≡ record { claims = with_last f.claims r; columns = f.columns; named = f.named; next = record { claim = 0; left_piece = 0; right_piece = 0 } }
    → yes_if (nat_le (length (form_of r).coefs) f.columns) k rule.Claim (with_claims g (known_of g f due) (with_last f.claims r) f.columns) ≡ Yes (known_of g f' due)
row_added g f f' r k due le h =
    ap (λ b. yes_if b k rule.Claim (with_claims g (known_of g f due) (with_last f.claims r) f.columns)) le
    ∙ known_first g (with_last f.claims r) f.columns f.named due
    ∙ ap (λ (z : Front). Yes (known_of g z due)) (sym h)

last_cons : (c d : Claim) (cs : List Claim) (r : Row) → last_of (c ∷ with_last (d ∷ cs) r) ≡ last_of (with_last (d ∷ cs) r)
last_cons c d [] r = refl
last_cons c d (e ∷ cs) r = refl

rows_made : (g : Pairing) (n : ℕ) (r : Row) (cs : List Claim) → AllByRecursion (IsClaimMade g) cs → ColumnsAre g n (last_of cs) → IsRowOver n r → AllByRecursion (IsClaimMade g) (with_last cs r) × ColumnsAre g n (last_of (with_last cs r))
rows_made g n r [] h q o = (tt, tt)
rows_made g n r (c ∷ []) h q o =
    let m = h.0 in
    let cols : start_columns g m.left m.right ≡ n = some-is (start_columns g m.left m.right) n ((λ i. columns_by g (sym m.left_is i) (sym m.right_is i)) ∙ q) in
    let over : IsRowOver (start_columns g m.left m.right) r = subst (λ k. IsRowOver k r) (sym cols) o in
    let made : IsClaimMade g (with_rows c (c.rows ++ r ∷ [])) = record { left = m.left; right = m.right; left_is = m.left_is; right_is = m.right_is; rows = made-both (start_columns g m.left m.right) c.rows (r ∷ []) m.rows (over, tt) } in
    ((made, tt), q)
rows_made g n r (c ∷ d ∷ cs) h q o =
    let t = rows_made g n r (d ∷ cs) h.1 q o in
    ((h.0, t.0), subst (ColumnsAre g n) (sym (last_cons c d cs r)) t.1)

pub made_added : (g : Pairing) (f f' : Front) (r : Row) → nat_le (length (form_of r).coefs) f.columns ≡ true → HasModulus r → f' ≡ record { claims = with_last f.claims r; columns = f.columns; named = f.named; next = record { claim = 0; left_piece = 0; right_piece = 0 } } → IsFrontMade g f → IsFrontMade g f'
made_added g f f' r le mo h m = let t = rows_made g f.columns r f.claims m.claims m.columns (leb-true (length (form_of r).coefs) f.columns le, mo) in subst (IsFrontMade g) (sym h) (record { claims = t.0; columns = t.1 })

pub made_none : (g : Pairing) (f : Front) → f.claims ≡ [] → IsFrontMade g f
made_none g f h = record { claims = subst (AllByRecursion (IsClaimMade g)) (sym h) tt; columns = subst (λ (z : List Claim). ColumnsAre g f.columns (last_of z)) (sym h) tt }

pub ruleset row_steps = (row_added, yes_not, made_same, made_added, made_none)

-- each modulus of the claims is at least 1
made_moduli : (g : Pairing) (cs : List Claim) → AllByRecursion (IsClaimMade g) cs → RowsHaveModuli cs
made_moduli g [] h = tt
made_moduli g (c ∷ cs) h = (moduli_of (start_columns g h.0.left h.0.right) c.rows h.0.rows, made_moduli g cs h.1)

pub front_moduli : (g : Pairing) (f : Front) → IsFrontMade g f → RowsHaveModuli f.claims
front_moduli g f m = made_moduli g f.claims m.claims

-- an output is refused, or named
pub output_named : (g : Pairing) (b : Bool) (k o : ℕ) (f f' : Front) (due : List Due) → b ≡ true → f' ≡ record { claims = f.claims; columns = f.columns; named = f.named ++ o ∷ []; next = f.next } → yes_if b k rule.Output (with_output (known_of g f due) o) ≡ Yes (known_of g f' due)
output_named g b k o f f' due e h = ap (λ z. yes_if z k rule.Output (with_output (known_of g f due) o)) e ∙ ap (λ (z : Front). Yes (known_of g z due)) (sym h)

pub made_named : (g : Pairing) (f f' : Front) (o : ℕ) → f' ≡ record { claims = f.claims; columns = f.columns; named = f.named ++ o ∷ []; next = f.next } → IsFrontMade g f → IsFrontMade g f'
made_named g f f' o h m = subst (IsFrontMade g) (sym h) (record { claims = m.claims; columns = m.columns })

pub ruleset output_steps = (output_named, yes_not, made_named, made_same, front_moduli)

-- behind the last plan
pub end_there : (g : Pairing) (cs : List Claim) (plans : List DuePlan) (u : Upcoming) (k : ℕ) (s : Known) → Settled g cs plans u → u.claim < length cs → closed plans k s ≡ No k rule.End
end_there g cs plans u k s t lt = let n = next_plan g cs u lt t.there in ap (λ z. closed z k s) (sym t.same ∙ n.same)

pub end_past : (g : Pairing) (cs : List Claim) (plans : List DuePlan) (u : Upcoming) (k : ℕ) (s : Known) → Settled g cs plans u → length cs ≤ u.claim → closed plans k s ≡ Yes s
end_past g cs plans u k s t le = ap (λ z. closed z k s) (sym t.same ∙ ap (remaining_by g cs u) (slice_get_past cs u.claim le))

pub ruleset end_steps = (end_there, end_past)
