-- A text to which the lines of a proof are added.
use Rattle.std.proofs.Common.{◌≡◌, ℕ, ◌+◌, ◌<◌, ◌≤◌, List, [], ◌∷◌, ◌++◌, drop, length, get_or, refl, sym, ap, ◌∙◌, append_assoc, append-nil}
use Rattle.std.specs.Prelude.{Vec, is_some}
use Rattle.std.specs.List.{flat_map}
use Rattle.std.specs.declared.alloc.Global.{Global}
use Rattle.std.proofs.lemmas.List.{drop_all}
use Rattle.ac_omega_steps.proofs.Parts.{drop-at}
use Rattle.ac_claims.specs.CheckFeed.{of_claim, of_output, of_tree, of_heads}
use Rattle.ac_claims.specs.ProofMachine.{lines_of}
use Rattle.ac_claims.specs.declared.item.Item.{Item}
use Rattle.ac_claims.specs.declared.item.Item.TheVariants as item
use Rattle.ac_claims.specs.declared.types.Claim.{Claim}
use Rattle.ac_claims.specs.declared.types.ClaimTree.{ClaimTree}
use Rattle.ac_claims.specs.declared.types.Proof.{Proof}
use Rattle.ac_claims.proofs.FeedSteps.{proof_flat}
use Rattle.ac_prooftext_lines.specs.Spelling.{spelled}
use Rattle.ac_prooftext.specs.ProofTexts.{ended, format_line, items_text, proof_text}
use Rattle.ac_prooftext.specs.Writing.{Adds}
use Rattle.ac_prooftext.proofs.LineProgress.{Leads}

-- the lines of items behind those of others
text_append : (xs ys : List Item) → items_text (xs ++ ys) ≡ items_text xs ++ items_text ys
text_append [] ys = refl
text_append (x ∷ xs) ys = ap (λ z. ended (spelled x) ++ z) (text_append xs ys) ∙ sym (append_assoc (ended (spelled x)) (items_text xs) (items_text ys))

-- a line and its LF were added
pub line_added : (x : Item) (old mid new : Vec ℕ Global) → mid.items ≡ old.items ++ spelled x → new.items ≡ mid.items ++ 10 ∷ [] → Adds (x ∷ []) old new
line_added x old mid new e f = f ∙ ap (λ z. z ++ 10 ∷ []) e ∙ append_assoc old.items (spelled x) (10 ∷ []) ∙ ap (λ z. old.items ++ z) (sym (append-nil (ended (spelled x))))

pub ruleset line_steps = (line_added)

pub adds_then : (old mid new : Vec ℕ Global) (xs ys : List Item) → Adds xs old mid → Adds ys mid new → Adds (xs ++ ys) old new
adds_then old mid new xs ys f h = h ∙ ap (λ z. z ++ items_text ys) f ∙ append_assoc old.items (items_text xs) (items_text ys) ∙ ap (λ z. old.items ++ z) (sym (text_append xs ys))

pub adds_none : (text : Vec ℕ Global) → Adds [] text text
adds_none text = sym (append-nil text.items)

pub ruleset then_steps = (adds_then, adds_none)

-- a loop over the parts of a list
pub lead_start : (text : Vec ℕ Global) (xs : List Item) → Leads text xs text xs
lead_start text xs = refl

pub part_added : {A : Type 0} (part : A → List Item) (old mid new : Vec ℕ Global) (all : List Item) (xs : List A) (i : ℕ) (x : A) (ys : List Item) → Leads old all mid (flat_map part (drop i xs)) → i < length xs → x ≡ get_or xs i x → ys ≡ part x → Adds ys mid new
    → Leads old all new (flat_map part (drop (i + 1) xs))
part_added part old mid new all xs i x ys h l e y f =
    let more = flat_map part (drop (i + 1) xs) in
    ap (λ z. z ++ items_text more) f
    ∙ append_assoc mid.items (items_text ys) (items_text more)
    ∙ ap (λ z. mid.items ++ z) (sym (text_append ys more))
    ∙ ap (λ z. mid.items ++ items_text z) (sym (ap (flat_map part) (drop-at xs i x l e) ∙ ap (λ z. z ++ more) (sym y)))
    ∙ h

pub parts_added : {A : Type 0} (part : A → List Item) (old new : Vec ℕ Global) (all : List Item) (xs : List A) (i : ℕ) → Leads old all new (flat_map part (drop i xs)) → length xs ≤ i → Adds all old new
parts_added part old new all xs i h l = sym (append-nil new.items) ∙ ap (λ z. new.items ++ items_text (flat_map part z)) (sym (drop_all i xs l)) ∙ h

pub ruleset loop_steps = (lead_start, part_added, parts_added)

pub adds_as : (xs ys : List Item) (old new : Vec ℕ Global) → ys ≡ xs → Adds xs old new → Adds ys old new
adds_as xs ys old new e f = f ∙ ap (λ z. old.items ++ items_text z) (sym e)

pub proof_added : (p : Proof) (cs : List Claim) (os : List (ℕ × ℕ)) (ts : List ClaimTree) (old a b c new : Vec ℕ Global) → cs ≡ p.claims → os ≡ p.outputs → ts ≡ p.trees.items → Adds (item.Point p.point ∷ of_heads p.heads) old a → Adds (item.Claims (length cs) ∷ flat_map of_claim cs) a b
    → Adds (flat_map of_output os) b c → Adds (flat_map of_tree ts ++ item.End ∷ []) c new → Adds (lines_of p) old new
proof_added p cs os ts old a b c new ec eo et f1 f2 f3 f4 =
    let heads = item.Point p.point ∷ of_heads p.heads in
    let claims = item.Claims (length cs) ∷ flat_map of_claim cs in
    let outputs = flat_map of_output os in
    let trees = flat_map of_tree ts ++ item.End ∷ [] in
    adds_as (((heads ++ claims) ++ outputs) ++ trees) (lines_of p) old new
    (proof_flat p ∙ sym (λ i. ((heads ++ (item.Claims (length (ec i)) ∷ flat_map of_claim (ec i))) ++ flat_map of_output (eo i)) ++ (flat_map of_tree (et i) ++ item.End ∷ [])))
    (adds_then old c new ((heads ++ claims) ++ outputs) trees (adds_then old b c (heads ++ claims) outputs (adds_then old a b heads claims f1 f2) f3) f4)

-- the whole text
pub whole_text : (p : Proof) (mid new : Vec ℕ Global) → mid.items ≡ ended (format_line (is_some p.heads)) → Adds (lines_of p) mid new → new.items ≡ proof_text p
whole_text p mid new e f = f ∙ ap (λ z. z ++ items_text (lines_of p)) e
