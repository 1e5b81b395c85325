-- A branch with one more child, and a plan that is complete with a line.
use Rattle.std.proofs.Common.{◌≡◌, inl, inr, ℕ, zero, suc, ◌+◌, ◌-◌, ◌<◌, ◌≤◌, ℤ, pos, negsuc, List, [], ◌∷◌, ◌++◌, map, reverse, length, Option, Some, None, refl, sym, ap, ◌∙◌, subst, arith, append-nil, length-append}
use Rattle.std.specs.Prelude.{Vec, Box, unsigned_abs}
use Rattle.std.proofs.lemmas.List.{reverse-append}
use Rattle.std.specs.List.{flat_map, AllByRecursion}
use Rattle.std.specs.declared.alloc.Global.{Global}
use Rattle.ac_forms.specs.Affine.{Affine}
use Rattle.ac_syntax.specs.declared.tree.Order.{Order}
use Rattle.ac_cert.specs.declared.types.Step.{Step}
use Rattle.ac_claims.specs.Machine.{next_items, IsSpelled, AreSpelled}
use Rattle.ac_claims.specs.PlanFaults.{count_of}
use Rattle.ac_claims.specs.ProofMachine.{items_of}
use Rattle.ac_claims.specs.declared.item.Item.{Item}
use Rattle.ac_claims.specs.declared.item.Item.TheVariants as item
use Rattle.ac_claims.specs.declared.types.Kill.{Kill}
use Rattle.ac_claims.specs.declared.types.Plan.{Plan}
use Rattle.ac_claims.specs.declared.types.PlanNext.{PlanNext, Split, Residue, Go, items_hidden-the_row-Plan-0}
use Rattle.ac_claims.specs.declared.types.PlanNext.TheBlock.{hidden-the_row-Plan-0}
use Rattle.ac_claims.specs.declared.types.PlanNext.TheVariants.{Killed}
use Rattle.ac_claims.proofs.FeedSteps.{at_split, at_residue, at_go, at_kill}
use Rattle.ac_prooftext.specs.ProofAssembly.{IsSpelledPlan, Fills, IsNext, Opened, opened_by, opened_of, inner, IsJoined, Closes, Ends, EndsWith, Branches, Copied}
use Rattle.ac_prooftext.specs.declared.forks.Fork.{Fork}
use Rattle.ac_prooftext.specs.declared.forks.Fork.TheVariants as fork
use Rattle.ac_prooftext.specs.declared.forks.Joined.TheVariants as joined
use Rattle.ac_prooftext.specs.declared.forks.OpenBranch.{OpenBranch}
use Rattle.ac_prooftext.specs.declared.plan_reader.PlanReader.{PlanReader}
use Rattle.ac_prooftext.proofs.Rebuilding.{spelled_row, row_length}

kids_counted : (v : Vec Plan Global) → count_of (hidden-the_row-Plan-0 v) ≡ length v.items
kids_counted v = row_length (hidden-the_row-Plan-0 v) ∙ ap (λ (z : List Plan). length z) (items_hidden-the_row-Plan-0 v)

kids_spelled : (v : Vec Plan Global) → AllByRecursion IsSpelledPlan v.items → AreSpelled (hidden-the_row-Plan-0 v)
kids_spelled v h = spelled_row (hidden-the_row-Plan-0 v) (subst (AllByRecursion IsSpelledPlan) (sym (items_hidden-the_row-Plan-0 v)) h)

pub split_is : (f : Affine) (a b : Box Plan Global) (first second : Plan) → a.value ≡ first → b.value ≡ second → IsNext (item.Split f) (first ∷ second ∷ []) (Split f a b)
split_is f a b first second ea eb = record {
  items = at_split (Split f a b) f a b refl ∙ (λ i. item.Split f ∷ (items_of (ea i) ++ items_of (eb i))) ∙ ap (λ z. item.Split f ∷ (items_of first ++ z)) (sym (append-nil (items_of second)));
  spelled = λ h k. (subst IsSpelledPlan (sym ea) h.0, subst IsSpelledPlan (sym eb) h.1.0);
}

pub residue_is : (m : ℤ) (f : Affine) (v : Vec Plan Global) (ts : List Plan) → v.items ≡ ts → IsNext (item.Residue m f) ts (Residue m f v)
residue_is m f v ts e = record {
  items = at_residue (Residue m f v) m f v refl ∙ ap (λ z. item.Residue m f ∷ flat_map items_of z) e;
  spelled = λ h k. (k ∙ ap (λ (n : ℕ). pos n) (sym (kids_counted v ∙ ap (λ (z : List Plan). length z) e)), kids_spelled v (subst (AllByRecursion IsSpelledPlan) (sym e) h));
}

pub go_is : (o : Order) (v : Vec Plan Global) (ts : List Plan) → v.items ≡ ts → IsNext (item.Go o (length ts)) ts (Go o v)
go_is o v ts e = record {
  items = at_go (Go o v) o v refl ∙ ap (λ (z : List Plan). item.Go o (length z) ∷ flat_map items_of z) e;
  spelled = λ h k. kids_spelled v (subst (AllByRecursion IsSpelledPlan) (sym e) h);
}

pub residue_open : (ss : List Step) (m : ℤ) (f : Affine) (n n' : ℕ) (ts ts' : List Plan) (t : Plan) → 1 < n → n' ≡ n - 1 → ts' ≡ ts ++ t ∷ [] → IsJoined (opened_by ss (fork.Residue m f n ts)) t (joined.Open (record { steps = ss; fork = fork.Residue m f n' ts' }))
residue_open ss m f n n' ts ts' t l e d some = (l, λ i. record { steps = ss; line = item.Residue m f; left = e i; children = d i })

pub residue_whole : (ss : List Step) (m : ℤ) (f : Affine) (n : ℕ) (ts ts' : List Plan) (t : Plan) (next : PlanNext) → n ≤ 1 → ts' ≡ ts ++ t ∷ [] → IsNext (item.Residue m f) ts' next → IsJoined (opened_by ss (fork.Residue m f n ts)) t (joined.Whole (record { steps = ss; next = next }))
residue_whole ss m f n ts ts' t next l d h some = (l, (refl, subst (λ z. IsNext (item.Residue m f) z next) d h))

pub go_open : (ss : List Step) (o : Order) (n n' : ℕ) (ts ts' : List Plan) (t : Plan) → 1 < n → n' ≡ n - 1 → ts' ≡ ts ++ t ∷ [] → IsJoined (opened_by ss (fork.Go o n ts)) t (joined.Open (record { steps = ss; fork = fork.Go o n' ts' }))
go_open ss o n n' ts ts' t l e d some =
    let all : length ts' ≡ length ts + 1 = ap (λ (z : List Plan). length z) d ∙ length-append ts (t ∷ []) in
    let count : n' + length ts' ≡ n + length ts = omega (arith, l, e, all) in
    (l, λ i. record { steps = ss; line = item.Go o (count i); left = e i; children = d i })

pub go_whole : (ss : List Step) (o : Order) (n : ℕ) (ts ts' : List Plan) (t : Plan) (next : PlanNext) → n ≤ 1 → ts' ≡ ts ++ t ∷ [] → IsNext (item.Go o (length ts')) ts' next → IsJoined (opened_by ss (fork.Go o n ts)) t (joined.Whole (record { steps = ss; next = next }))
go_whole ss o n ts ts' t next l d h some =
    let all : length ts' ≡ length ts + 1 = ap (λ (z : List Plan). length z) d ∙ length-append ts (t ∷ []) in
    let count : length ts' ≡ n + length ts = omega (arith, l, some, all) in
    (l, (refl, subst (λ z. IsNext (item.Go o (n + length ts)) z next) d (subst (λ z. IsNext (item.Go o z) ts' next) count h)))

pub split_open : (ss : List Step) (f : Affine) (t : Plan) → IsJoined (opened_by ss (fork.First f)) t (joined.Open (record { steps = ss; fork = fork.Second f t }))
split_open ss f t some = (omega arith, refl)

pub split_whole : (ss : List Step) (f : Affine) (first t : Plan) (next : PlanNext) → IsNext (item.Split f) (first ∷ t ∷ []) next → IsJoined (opened_by ss (fork.Second f first)) t (joined.Whole (record { steps = ss; next = next }))
split_whole ss f first t next h some = (omega arith, (refl, h))

pub ruleset join_steps = (split_is, residue_is, go_is, split_open, split_whole, residue_open, residue_whole, go_open, go_whole)

-- the innermost branch is the last one
reversed : {A : Type 0} (xs : List A) (x : A) → reverse (xs ++ x ∷ []) ≡ x ∷ reverse xs
reversed xs x = reverse-append xs (x ∷ [])

pub inner_more : (bs : List OpenBranch) (b : OpenBranch) → inner (bs ++ b ∷ []) ≡ opened_of b ∷ inner bs
inner_more bs b = ap (map opened_of) (reversed bs b)

-- the branch stays open with the plan
pub stays_open : (old rest new : List OpenBranch) (b c : OpenBranch) (t : Plan) → old ≡ rest ++ b ∷ [] → IsJoined (opened_of b) t (joined.Open c) → new ≡ rest ++ c ∷ [] → Closes (inner old) t (inner new) None
stays_open old rest new b c t eo h en =
    subst (λ z. Closes z t (inner new) None) (sym (ap inner eo ∙ inner_more rest b))
    (λ some. inl ((h some).0, refl, ap inner en ∙ inner_more rest c ∙ ap (λ z. z ∷ inner rest) (h some).1))

-- it is complete with the plan, which goes on around it
pub goes_around : (old rest : List OpenBranch) (b : OpenBranch) (t w : Plan) → old ≡ rest ++ b ∷ [] → IsJoined (opened_of b) t (joined.Whole w) → (new : List Opened) (o : Option Plan) → Closes (inner rest) w new o → Closes (inner old) t new o
goes_around old rest b t w eo h new o k = subst (λ z. Closes z t new o) (sym (ap inner eo ∙ inner_more rest b)) (λ some. inr ((h some).0, (w, ((h some).1, k))))

-- no branch is left
pub none_left : (old new : List OpenBranch) (t : Plan) → old ≡ [] → new ≡ [] → Closes (inner old) t (inner new) (Some t)
none_left old new t eo en = subst (λ z. Closes (inner z) t (inner new) (Some t)) (sym eo) (ap inner en, refl)

-- a branch was opened
pub branch_pushed : (old new : List OpenBranch) (ss : List Step) (k : Fork) → new ≡ old ++ record { steps = ss; fork = k } ∷ [] → inner new ≡ opened_by ss k ∷ inner old
branch_pushed old new ss k e = ap inner e ∙ inner_more old (record { steps = ss; fork = k })

-- a branch without children, and one with some
ends_without : (x : Item) (next : PlanNext) (old new : PlanReader) (o : Option Plan) → Fills x 0 → IsNext x [] next → Ends (record { steps = old.steps; next = next }) old new o → EndsWith (x ∷ []) old new o
ends_without x next old new o fills h ends = record { next = next; items = h.items; spelled = h.spelled tt fills; ends = ends }

none_abs : (m : ℤ) → unsigned_abs m ≡ 0 → m ≡ pos 0
none_abs (pos n) e = ap (λ (k : ℕ). pos k) e
none_abs (negsuc n) e = absurd (let z : suc n ≡ 0 = e in omega (arith, z))

pub residue_ends : (m : ℤ) (f : Affine) (next : PlanNext) (old new : PlanReader) (o : Option Plan) → unsigned_abs m ≡ 0 → IsNext (item.Residue m f) [] next → Ends (record { steps = old.steps; next = next }) old new o → Branches (item.Residue m f) (unsigned_abs m) old new o
residue_ends m f next old new o e h ends = subst (λ n. Branches (item.Residue m f) n old new o) (sym e) (ends_without (item.Residue m f) next old new o (none_abs m e) h ends)

pub go_ends : (order : Order) (n : ℕ) (next : PlanNext) (old new : PlanReader) (o : Option Plan) → n ≡ 0 → IsNext (item.Go order 0) [] next → Ends (record { steps = old.steps; next = next }) old new o → Branches (item.Go order n) n old new o
go_ends order n next old new o e h ends = subst (λ k. Branches (item.Go order k) k old new o) (sym e) (ends_without (item.Go order 0) next old new o tt h ends)

pub some_open : (x : Item) (n : ℕ) (old new : PlanReader) → ¬ (n ≡ 0) → inner new.branches ≡ record { steps = old.steps; line = x; left = n; children = [] } ∷ inner old.branches → new.steps ≡ [] → Branches x n old new None
some_open x zero old new some e f = absurd (some refl)
some_open x (suc n) old new some e f = (refl, e, f)

pub go_opens : (order : Order) (n : ℕ) (old new : PlanReader) → ¬ (n ≡ 0) → inner new.branches ≡ opened_by old.steps (fork.Go order n []) ∷ inner old.branches → new.steps ≡ [] → Branches (item.Go order n) n old new None
go_opens order n old new some e f =
    let same : n + 0 ≡ n = omega arith in
    some_open (item.Go order n) n old new some (e ∙ ap (λ z. record { steps = old.steps; line = item.Go order z; left = n; children = [] } ∷ inner old.branches) same) f

-- a copy without choices to come, and one with some
pub kill_ends : (k : Kill) (n : ℕ) (old new : PlanReader) (o : Option Plan) → n ≡ 0 → Ends (record { steps = old.steps; next = Killed k }) old new o → Copied k n old new o
kill_ends k n old new o e ends = subst (λ z. Copied k z old new o) (sym e) (record { next = Killed k; items = at_kill (Killed k) k refl; spelled = tt; ends = ends })

pub kill_waits : (k : Kill) (n : ℕ) (old new : PlanReader) → ¬ (n ≡ 0) → new.branches ≡ old.branches → new.steps ≡ old.steps → new.kill ≡ Some (k, n) → Copied k n old new None
kill_waits k zero old new some e f h = absurd (some refl)
kill_waits k (suc n) old new some e f h = (refl, e, f, h)

pub same_copied : (k : Kill) (n : ℕ) (old mid new : PlanReader) (o : Option Plan) → mid.branches ≡ old.branches → mid.steps ≡ old.steps → Copied k n mid new o → Copied k n old new o
same_copied k zero old mid new o e f h = record { next = h.next; items = h.items; spelled = h.spelled; ends = (subst (λ z. Closes (inner z) (record { steps = old.steps; next = h.next }) (inner new.branches) o) e (subst (λ z. Closes (inner mid.branches) (record { steps = z; next = h.next }) (inner new.branches) o) f h.ends.0), h.ends.1) }
same_copied k (suc n) old mid new o e f h = (h.0, h.1 ∙ e, h.2 ∙ f, h.3)

-- an end that is a line of its own
pub end_taken : (x : Item) (next : PlanNext) (old new : PlanReader) (o : Option Plan) → next_items next [] ≡ x ∷ [] → IsSpelled next → Ends (record { steps = old.steps; next = next }) old new o → EndsWith (x ∷ []) old new o
end_taken x next old new o e h ends = record { next = next; items = e; spelled = h; ends = ends }

pub ruleset read_steps = (branch_pushed, residue_ends, go_ends, some_open, go_opens, kill_ends, kill_waits, end_taken)
