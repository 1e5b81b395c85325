-- The branches of a step, one by one.
use Rattle.std.proofs.Common.{◌≡◌, ◌≢◌, ◌<◌, List, [], ◌∷◌, ◌++◌, map, reverse, length, refl, sym, ap, ◌∙◌, arith}
use Rattle.std.specs.Prelude.{Result, Ok, Err, IfOk}
use Rattle.std.specs.declared.alloc.AllocError.{AllocError}
use Rattle.std.proofs.lemmas.List.{reverse-append, reverse-reverse, length-map, length-reverse}
use Rattle.ac_claims_paths.specs.BranchPaths.{onto}
use Rattle.ac_claims_paths.specs.declared.path.Branch.{Branch}
use Rattle.ac_claims_paths.specs.declared.path.Path.{Path}
use Rattle.ac_claims.specs.StackEntries.{branches_of, dues}
use Rattle.ac_claims.specs.Machine.{Due, PlanAt}
use Rattle.ac_claims.specs.declared.entry.Entry.{Entry}

pub not_nil : (bs left : List Branch) → (bs ≡ [] → ⊥) → left ≡ reverse bs → left ≢ []
not_nil bs left n l e = n (sym (reverse-reverse bs) ∙ ap reverse (sym l ∙ e))

-- branches that are put onto what is due
pub back_again : (h : Path) (bs left : List Branch) → left ≡ reverse bs → map PlanAt (map (onto h) bs) ≡ branches_of h left
back_again h bs left e = ap (λ z. map PlanAt (map (onto h) z)) (sym (reverse-reverse bs) ∙ ap reverse (sym e))

-- the first of them, and those behind it
pub branches_split : (h : Path) (left rest : List Branch) (x : Branch) → left ≡ rest ++ x ∷ [] → branches_of h left ≡ PlanAt (onto h x) ∷ branches_of h rest
branches_split h left rest x e = ap (λ z. map PlanAt (map (onto h) z)) (ap reverse e ∙ reverse-append rest (x ∷ []))

pub first_result : (h : Path) (left rest : List Branch) (x : Branch) (es old : List Entry) (r : Result Path AllocError) → left ≡ rest ++ x ∷ [] → IfOk r (λ p. PlanAt p ∷ dues p.conj.rows es ≡ PlanAt (onto h x) ∷ branches_of h rest ++ dues h.conj.rows old)
    → IfOk r (λ p. PlanAt p ∷ dues p.conj.rows es ≡ branches_of h left ++ dues h.conj.rows old)
first_result h left rest x es old (Ok p) e d = d ∙ sym (ap (λ z. z ++ dues h.conj.rows old) (branches_split h left rest x e))
first_result h left rest x es old (Err a) e d = tt

pub none_behind : (h : Path) (left : List Branch) (due : List Due) → left ≡ [] → due ≡ branches_of h left ++ due
none_behind h left due e = ap (λ z. branches_of h z ++ due) (sym e)

pub cons_of : {A : Type 0} (xs : List A) → 0 < length xs → (d : A) × (ds : List A) × (xs ≡ d ∷ ds)
cons_of [] l = absurd (omega (arith, l))
cons_of (x ∷ xs) l = (x, xs, refl)

length_some : (bs : List Branch) → bs ≢ [] → 0 < length bs
length_some [] n = absurd (n refl)
length_some (b ∷ bs) n = omega arith

pub some_branch : (h : Path) (left : List Branch) → left ≢ [] → (d : Due) × (ds : List Due) × (branches_of h left ≡ d ∷ ds)
some_branch h left n =
    let e : length (branches_of h left) ≡ length left = length-map (map (onto h) (reverse left)) PlanAt ∙ length-map (reverse left) (onto h) ∙ length-reverse left in
    let l = length_some left n in
    cons_of (branches_of h left) (omega (arith, e, l))
