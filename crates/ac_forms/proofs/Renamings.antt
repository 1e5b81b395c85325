-- The values of forms and rows among other columns.
use Rattle.std.proofs.Common.{◌≡◌, ◌↔◌, ℕ, zero, suc, ◌+◌, ◌-◌, ◌<◌, ◌≤◌, ℤ, pos, ◌+ℤ◌, ◌*ℤ◌, ◌≤ℤ◌, List, [], ◌∷◌, ◌++◌, map, length, replicate, get_or, set, drop, refl, sym, ap, ◌∙◌, subst, arith, ◌⊎◌, inl, inr, append_assoc, append-nil, Result, Ok, Err}
use Rattle.std.specs.Prelude.{IfOk}
use Rattle.std.proofs.lemmas.Int.{ints}
use Rattle.std.proofs.lemmas.List.{drop_more, drop_all}
use Rattle.ac_base.specs.Dot.{dot}
use Rattle.ac_base.specs.Multiple.{IsMultiple}
use Rattle.ac_base.proofs.Dot.{dot-nil}
use Rattle.ac_base.proofs.Products.{add-mul_ℤ}
use Rattle.ac_forms.specs.Affine.{Affine, value_at}
use Rattle.ac_forms.specs.Fits.{Fits}
use Rattle.ac_forms.specs.Rows.{form_of, Holds, Meets, HasModulus, HaveModuli, IsRowOver, AreRowsOver}
use Rattle.ac_forms.specs.Renaming.{add_at, renamed_coefs, renamed, renamed_row, picked, AreColumns, SumsFit, CanRename, CanRenameAll}
use Rattle.ac_forms.specs.FormStops.{MadeIff}
use Rattle.ac_forms.specs.declared.stop.FormStop.{FormStop}
use Rattle.ac_forms.specs.declared.row.Row.{Row}
use Rattle.ac_forms.specs.declared.row.Row.TheVariants.{Eq, Div, Ge}

-- ---- values

dot-add_at : (k : ℕ) (c : ℤ) (xs p : List ℤ) → dot (add_at k c xs) p ≡ c *ℤ get_or p k (pos 0) +ℤ dot xs p
dot-add_at zero c [] [] = omega (arith, ints)
dot-add_at zero c [] (z ∷ p) = omega (arith, ints)
dot-add_at zero c (x ∷ xs) [] = omega (arith, ints)
dot-add_at zero c (x ∷ xs) (z ∷ p) = rw (add-mul_ℤ x c z) (omega (arith, ints))
dot-add_at (suc k) c [] [] = omega (arith, ints)
dot-add_at (suc k) c [] (z ∷ p) = let e = dot-add_at k c [] p in omega (arith, ints, e)
dot-add_at (suc k) c (x ∷ xs) [] = omega (arith, ints)
dot-add_at (suc k) c (x ∷ xs) (z ∷ p) = let e = dot-add_at k c xs p in omega (arith, ints, e)

pub dot-renamed : (ks : List ℕ) (cs p : List ℤ) → dot (renamed_coefs ks cs) p ≡ dot cs (picked ks p)
dot-renamed [] cs p = sym (dot-nil cs)
dot-renamed (k ∷ ks) [] p = refl
dot-renamed (k ∷ ks) (c ∷ cs) p = dot-add_at k c (renamed_coefs ks cs) p ∙ ap (λ z. c *ℤ get_or p k (pos 0) +ℤ z) (dot-renamed ks cs p)

pub value-renamed : (ks : List ℕ) (f : Affine) (p : List ℤ) → value_at (renamed ks f) p ≡ value_at f (picked ks p)
value-renamed ks f p = ap (λ z. z +ℤ f.konst) (dot-renamed ks f.coefs p)

pub holds-renamed : (ks : List ℕ) (r : Row) (p : List ℤ) → Holds (renamed_row ks r) p ↔ Holds r (picked ks p)
holds-renamed ks (Eq f) p = let v = value-renamed ks f p in ((λ h. sym v ∙ h), (λ h. v ∙ h))
holds-renamed ks (Div m f) p = let v = value-renamed ks f p in ((λ h. subst (λ (x : ℤ). IsMultiple m x) v h), (λ h. subst (λ (x : ℤ). IsMultiple m x) (sym v) h))
holds-renamed ks (Ge f) p = let v = value-renamed ks f p in ((λ h. subst (λ (x : ℤ). pos 0 ≤ℤ x) v h), (λ h. subst (λ (x : ℤ). pos 0 ≤ℤ x) (sym v) h))

pub meets-renamed : (ks : List ℕ) (rs : List Row) (p : List ℤ) → Meets (map (renamed_row ks) rs) p ↔ Meets rs (picked ks p)
meets-renamed ks [] p = ((λ h. h), (λ h. h))
meets-renamed ks (r ∷ rs) p =
    let h = holds-renamed ks r p in
    let t = meets-renamed ks rs p in
    ((λ m. (h.0 m.0, t.0 m.1)), (λ m. (h.1 m.0, t.1 m.1)))

-- ---- columns

add_at-within : (k : ℕ) (c : ℤ) (xs : List ℤ) (n : ℕ) → k < n → length xs ≤ n → length (add_at k c xs) ≤ n
add_at-within zero c [] n l w = omega arith
add_at-within zero c (x ∷ xs) n l w = w
add_at-within (suc k) c [] zero l w = absurd (omega arith)
add_at-within (suc k) c [] (suc n) l w = let r = add_at-within k c [] n (omega arith) (omega arith) in omega (arith, r)
add_at-within (suc k) c (x ∷ xs) zero l w = absurd (omega arith)
add_at-within (suc k) c (x ∷ xs) (suc n) l w = let r = add_at-within k c xs n (omega arith) (omega arith) in omega (arith, r)

renamed-within : (ks : List ℕ) (cs : List ℤ) (n : ℕ) → AreColumns n ks → length (renamed_coefs ks cs) ≤ n
renamed-within [] cs n h = omega arith
renamed-within (k ∷ ks) [] n h = omega arith
renamed-within (k ∷ ks) (c ∷ cs) n h = add_at-within k c (renamed_coefs ks cs) n h.0 (renamed-within ks cs n h.1)

pub form-within : (ks : List ℕ) (f : Affine) (n : ℕ) → AreColumns n ks → length (renamed ks f).coefs ≤ n
form-within ks f n h = renamed-within ks f.coefs n h

pub row-over : (ks : List ℕ) (r : Row) (n : ℕ) → AreColumns n ks → HasModulus r → IsRowOver n (renamed_row ks r)
row-over ks (Eq f) n h m = (form-within ks f n h, tt)
row-over ks (Div d f) n h m = (form-within ks f n h, m)
row-over ks (Ge f) n h m = (form-within ks f n h, tt)

pub rows-over : (ks : List ℕ) (rs : List Row) (n : ℕ) → AreColumns n ks → HaveModuli rs → AreRowsOver n (map (renamed_row ks) rs)
rows-over ks [] n h m = tt
rows-over ks (r ∷ rs) n h m = (row-over ks r n h m.0, rows-over ks rs n h m.1)

-- ---- one number more

none-there : (xs : List ℤ) (k : ℕ) → length xs ≤ k → get_or xs k (pos 0) ≡ pos 0
none-there [] k l = refl
none-there (x ∷ xs) zero l = absurd (omega arith)
none-there (x ∷ xs) (suc k) l = none-there xs k (omega arith)

add-inside : (k : ℕ) (c : ℤ) (xs : List ℤ) → k < length xs → set xs k (get_or xs k (pos 0) +ℤ c) ≡ add_at k c xs
add-inside k c [] l = absurd (omega arith)
add-inside zero c (x ∷ xs) l = refl
add-inside (suc k) c (x ∷ xs) l = ap (λ (ys : List ℤ). x ∷ ys) (add-inside k c xs (omega arith))

zeros-then : (n : ℕ) (c : ℤ) → replicate n (pos 0) ++ c ∷ [] ≡ add_at n c []
zeros-then zero c = refl
zeros-then (suc n) c = ap (λ (ys : List ℤ). pos 0 ∷ ys) (zeros-then n c)

add-beyond : (k : ℕ) (c : ℤ) (xs : List ℤ) → length xs ≤ k → (xs ++ replicate (k - length xs) (pos 0)) ++ c ∷ [] ≡ add_at k c xs
add-beyond k c [] l = rw (less_none k) (zeros-then k c)
  where
    less_none : (k : ℕ) → k - 0 ≡ k
    less_none k = omega arith
add-beyond zero c (x ∷ xs) l = absurd (omega arith)
add-beyond (suc k) c (x ∷ xs) l = rw (less_one k (length xs)) (ap (λ (ys : List ℤ). x ∷ ys) (add-beyond k c xs (omega arith)))
  where
    less_one : (k n : ℕ) → suc k - suc n ≡ k - n
    less_one k n = omega arith

-- ---- the loop, from the last column on

pub record RenamedFrom (ks : List ℕ) (cs : List ℤ) (done : List ℤ) (i : ℕ) : Type 0 where
  pub value : done ≡ renamed_coefs (drop i ks) (drop i cs)
  pub fits : SumsFit (drop i ks) (drop i cs)

no_coefs : (ks : List ℕ) → (renamed_coefs ks [] ≡ []) × SumsFit ks []
no_coefs [] = (refl, tt)
no_coefs (k ∷ ks) = (refl, tt)

pub from-end : (ks : List ℕ) (cs : List ℤ) (i : ℕ) → (length ks ≤ i) ⊎ (length cs ≤ i) → RenamedFrom ks cs [] i
from-end ks cs i (inl l) = record { value = rw (drop_all i ks l) refl; fits = rw (drop_all i ks l) tt }
from-end ks cs i (inr l) =
    let n = no_coefs (drop i ks) in
    record { value = rw (drop_all i cs l) (sym n.0); fits = rw (drop_all i cs l) n.1 }

pub from-more : (ks : List ℕ) (cs done new : List ℤ) (i k : ℕ) (c : ℤ) → RenamedFrom ks cs done (i + 1) → i < length ks → i < length cs → k ≡ get_or ks i k → c ≡ get_or cs i (pos 0)
    → Fits (get_or done k (pos 0) +ℤ c) → new ≡ add_at k c done → RenamedFrom ks cs new i
from-more ks cs done new i k c h l m ek ec f e =
    let dk : drop i ks ≡ k ∷ drop (i + 1) ks = rw ek (drop_more ks i k l) in
    let dc : drop i cs ≡ c ∷ drop (i + 1) cs = rw ec (drop_more cs i (pos 0) m) in
    record {
      value = rw (dk, dc) (e ∙ ap (add_at k c) h.value);
      fits = rw (dk, dc) (h.fits, rw h.value at f);
    }

sums-drop : (i : ℕ) (ks : List ℕ) (cs : List ℤ) → SumsFit ks cs → SumsFit (drop i ks) (drop i cs)
sums-drop zero ks cs h = h
sums-drop (suc i) [] cs h = tt
sums-drop (suc i) (k ∷ ks) [] h = (no_coefs (drop i ks)).1
sums-drop (suc i) (k ∷ ks) (c ∷ cs) h = sums-drop i ks cs h.0

pub from-fits : (ks : List ℕ) (cs done : List ℤ) (i : ℕ) → RenamedFrom ks cs done (i + 1) → i < length ks → i < length cs → SumsFit ks cs → Fits (get_or done (get_or ks i 0) (pos 0) +ℤ get_or cs i (pos 0))
from-fits ks cs done i h l m all =
    let s = rw (drop_more ks i 0 l, drop_more cs i (pos 0) m) at (sums-drop i ks cs all) in
    rw h.value s.1

pub from-all : (ks : List ℕ) (cs done : List ℤ) (i : ℕ) → RenamedFrom ks cs done i → i ≡ 0 → SumsFit ks cs × (done ≡ renamed_coefs ks cs)
from-all ks cs done i h z = let g = rw z at h in (g.fits, g.value)

-- what a place behind the list asks
pub zero-fits : (xs : List ℤ) (k : ℕ) (c : ℤ) → length xs ≤ k → Fits c → Fits (get_or xs k (pos 0) +ℤ c)
zero-fits xs k c l f = rw (none-there xs k l) (let e : pos 0 +ℤ c ≡ c = omega (arith, ints) in rw e f)

pub inside-is : (xs new : List ℤ) (k : ℕ) (c s : ℤ) → k < length xs → s ≡ get_or xs k (pos 0) +ℤ c → new ≡ set xs k s → new ≡ add_at k c xs
inside-is xs new k c s l e i = i ∙ ap (λ (z : ℤ). set xs k z) e ∙ add-inside k c xs l

pub behind-is : (xs zs new : List ℤ) (k n : ℕ) (c : ℤ) → length xs ≤ k → n ≡ k - length xs → zs ≡ replicate n (pos 0) → new ≡ (xs ++ zs) ++ c ∷ [] → new ≡ add_at k c xs
behind-is xs zs new k n c l en ez i = i ∙ rw (ez, en) (add-beyond k c xs l)

pub ruleset add_steps = (zero-fits, inside-is, behind-is)

-- ---- the loop over rows

pub record EachRenamed (ks : List ℕ) (rs : List Row) (done : List Row) (i : ℕ) : Type 0 where
  pub room : i ≤ length rs
  pub onward : CanRenameAll ks rs → CanRenameAll ks (drop i rs)
  pub back : CanRenameAll ks (drop i rs) → CanRenameAll ks rs
  pub value : map (renamed_row ks) rs ≡ done ++ map (renamed_row ks) (drop i rs)

pub each_start : (ks : List ℕ) (rs : List Row) → EachRenamed ks rs [] 0
each_start ks rs = record { room = omega arith; onward = λ h. h; back = λ h. h; value = refl }

pub each_more : (ks : List ℕ) (rs done new : List Row) (i : ℕ) (r s : Row) → EachRenamed ks rs done i → i < length rs → r ≡ get_or rs i r → CanRename ks (form_of r) × (s ≡ renamed_row ks r) → new ≡ done ++ s ∷ []
    → EachRenamed ks rs new (i + 1)
each_more ks rs done new i r s h l er made e =
    let d : drop i rs ≡ r ∷ drop (i + 1) rs = rw er (drop_more rs i r l) in
    record {
      room = omega arith;
      onward = λ all. (rw d at (h.onward all)).1;
      back = λ rest. h.back (rw d (made.0, rest));
      value = (rw d at h.value) ∙ sym (ap (λ (xs : List Row). xs ++ map (renamed_row ks) (drop (i + 1) rs)) e ∙ append_assoc done (s ∷ []) (map (renamed_row ks) (drop (i + 1) rs)) ∙ ap (λ (x : Row). done ++ x ∷ map (renamed_row ks) (drop (i + 1) rs)) made.1);
    }

pub each_fits : (ks : List ℕ) (rs done : List Row) (i : ℕ) (r : Row) → EachRenamed ks rs done i → i < length rs → r ≡ get_or rs i r → CanRenameAll ks rs → CanRename ks (form_of r)
each_fits ks rs done i r h l er all =
    let d : drop i rs ≡ r ∷ drop (i + 1) rs = rw er (drop_more rs i r l) in
    (rw d at (h.onward all)).0

pub each_end : (ks : List ℕ) (rs done : List Row) (i : ℕ) → EachRenamed ks rs done i → length rs ≤ i → CanRenameAll ks rs × (done ≡ map (renamed_row ks) rs)
each_end ks rs done i h l =
    let v = rw (drop_all i rs l) at h.value in
    (h.back (rw (drop_all i rs l) tt), sym (v ∙ append-nil done))

pub ruleset each_steps = (each_start, each_more, each_fits, each_end)

-- ---- what a result tells

pub form-value : (res : Result Affine FormStop) (ks : List ℕ) (f : Affine) → MadeIff res (CanRename ks f) (renamed ks f) → IfOk res (λ g. (p : List ℤ) → value_at g p ≡ value_at f (picked ks p))
form-value (Ok g) ks f m = λ p. ap (λ (x : Affine). value_at x p) m.1 ∙ value-renamed ks f p
form-value (Err e) ks f m = tt

pub form-over : (res : Result Affine FormStop) (ks : List ℕ) (f : Affine) → MadeIff res (CanRename ks f) (renamed ks f) → IfOk res (λ g. (n : ℕ) → AreColumns n ks → length g.coefs ≤ n)
form-over (Ok g) ks f m = λ n h. subst (λ (x : Affine). length x.coefs ≤ n) (sym m.1) (form-within ks f n h)
form-over (Err e) ks f m = tt

pub row-points : (res : Result Row FormStop) (ks : List ℕ) (r : Row) → MadeIff res (CanRename ks (form_of r)) (renamed_row ks r) → IfOk res (λ s. (p : List ℤ) → Holds s p ↔ Holds r (picked ks p))
row-points (Ok s) ks r m = λ p. rw m.1 (holds-renamed ks r p)
row-points (Err e) ks r m = tt

pub row-made : (res : Result Row FormStop) (ks : List ℕ) (r : Row) → MadeIff res (CanRename ks (form_of r)) (renamed_row ks r) → IfOk res (λ s. (n : ℕ) → AreColumns n ks → HasModulus r → IsRowOver n s)
row-made (Ok s) ks r m = λ n h k. rw m.1 (row-over ks r n h k)
row-made (Err e) ks r m = tt

pub rows-points : (res : Result (List Row) FormStop) (ks : List ℕ) (rs : List Row) → MadeIff res (CanRenameAll ks rs) (map (renamed_row ks) rs) → IfOk res (λ ss. (p : List ℤ) → Meets ss p ↔ Meets rs (picked ks p))
rows-points (Ok ss) ks rs m = λ p. rw m.1 (meets-renamed ks rs p)
rows-points (Err e) ks rs m = tt

pub rows-made : (res : Result (List Row) FormStop) (ks : List ℕ) (rs : List Row) → MadeIff res (CanRenameAll ks rs) (map (renamed_row ks) rs) → IfOk res (λ ss. (n : ℕ) → AreColumns n ks → HaveModuli rs → AreRowsOver n ss)
rows-made (Ok ss) ks rs m = λ n h k. rw m.1 (rows-over ks rs n h k)
rows-made (Err e) ks rs m = tt

pub ruleset sum_steps = (from-end, from-more, from-fits, from-all)
