-- No word of an item has a blank.
use Rattle.std.proofs.Common.{rules, ◌≡◌, ◌<◌, ◌≤◌, ◌+◌, ◌^◌, ◌==◌, ◌&&◌, ℕ, zero, suc, Bool, true, false, nat_lt, slice_index_or, ℤ, pos, negsuc, List, [], ◌∷◌, ◌++◌, map, length, Option, None, Some, decimal, int_eq, cond, refl, sym, ap, subst, ◌∙◌, arith}
use Rattle.std.specs.Prelude.{codes}
use Rattle.std.specs.List.{AllByRecursion}
use Rattle.std.specs.Fmt.{signed_decimal}
use Rattle.std.specs.Int.{IsInRange}
use Rattle.std.proofs.lemmas.Fmt.{decimal_is_IsNumeral_wide}
use Rattle.std.proofs.lemmas.Str.Parse.{digit_at}
use Rattle.ac_forms.specs.Affine.{Affine}
use Rattle.ac_forms.specs.Fits.{Fits, AllFit}
use Rattle.ac_forms.specs.declared.row.Row.{Row}
use Rattle.ac_forms.specs.declared.row.Row.TheVariants as row
use Rattle.ac_syntax.specs.declared.tree.Position.{Position}
use Rattle.ac_syntax.specs.declared.tree.Position.TheVariants as position
use Rattle.ac_syntax.specs.declared.tree.Order.{Order}
use Rattle.ac_syntax.specs.declared.tree.Order.TheVariants as order
use Rattle.ac_cert.specs.declared.types.Step.{Step}
use Rattle.ac_cert.specs.declared.types.Step.TheVariants as step
use Rattle.ac_omega_steps.specs.declared.choose.Choice.{Choice}
use Rattle.ac_omega_steps.specs.declared.choose.Choice.TheVariants as choice
use Rattle.ac_claims.specs.declared.item.Item.{Item}
use Rattle.ac_claims.specs.declared.item.Item.TheVariants as item
use Rattle.ac_prooftext_lines.specs.LineWords.{IsFree, line_of, further}
use Rattle.ac_prooftext_lines.specs.Spelling.{pair_word, dotted_word, term_words, terms_from, form_words, position_word, row_words, step_words, choice_words, order_word, level_word, item_words, spelled}
use Rattle.ac_prooftext_lines.specs.Spellable.{IsIndex, IsIndexed, AreIndices, IsSpellableForm, IsSpellablePosition, IsSpellableRow, IsSpellableStep, IsSpellableChoice, IsSpellableLevel, IsSpellable}
use Rattle.ac_prooftext_lines.proofs.Numerals.{of_64, short}

-- bytes above the blank
abbrev IsInk : List ℕ → Type 0
IsInk = AllByRecursion (λ b. 32 < b)

abbrev ArePlain : List (List ℕ) → Type 0
ArePlain = AllByRecursion IsInk

abbrev is_ink : List ℕ → Bool
is_ink [] = true
is_ink (b ∷ bs) = nat_lt 32 b && is_ink bs

named : (w : List ℕ) → is_ink w ≡ true → IsInk w
named [] h = tt
named (b ∷ bs) h = (first b (parts (nat_lt 32 b) h).0, named bs (parts (nat_lt 32 b) h).1)
  where
    parts : (t : Bool) → (t && is_ink bs) ≡ true → (t ≡ true) × (is_ink bs ≡ true)
    parts true k = (refl, k)
    parts false k = absurd cc

    first : (b : ℕ) → nat_lt 32 b ≡ true → 32 < b
    first b k = grind arith

joined : (xs ys : List ℕ) → IsInk xs → IsInk ys → IsInk (xs ++ ys)
joined [] ys f g = g
joined (x ∷ xs) ys f g = (f.0, joined xs ys f.1 g)

all_joined : (xs ys : List (List ℕ)) → ArePlain xs → ArePlain ys → ArePlain (xs ++ ys)
all_joined [] ys f g = g
all_joined (x ∷ xs) ys f g = (f.0, all_joined xs ys f.1 g)

digits : (ds : List ℕ) → ((k : ℕ) → k < length ds → IsInRange 48 57 (slice_index_or ds k 0)) → IsInk ds
digits [] h = tt
digits (d ∷ ds) h = (let k : IsInRange 48 57 d = h 0 (omega arith) in omega (arith, k.0), digits ds (λ k b. h (suc k) (omega (arith, b))))

wide : (n : ℕ) → n < 2 ^ 128 → IsInk (decimal n)
wide n h = let k = (decimal_is_IsNumeral_wide n (short n h)).0 in digits (decimal n) (λ i b. digit_at (decimal n) i k.1 b)

number : (n : ℕ) → IsIndex n → IsInk (decimal n)
number n h = wide n (of_64 n h)

integer : (z : ℤ) → Fits z → IsInk (signed_decimal z)
integer (pos n) f = wide n (let h : n < 2 ^ 127 = search rules in omega (arith, h))
integer (negsuc n) f = (omega arith, wide (suc n) (let h : n < 2 ^ 127 = search rules in omega (arith, h)))

pair : (p : ℕ × ℤ) → IsIndexed p → IsInk (pair_word p)
pair p h = joined (decimal p.0) (codes ":" ++ signed_decimal p.1) (number p.0 h.0) (omega arith, integer p.1 h.1)

dotted : (p : ℕ × ℕ) → AreIndices p → IsInk (dotted_word p)
dotted p h = joined (decimal p.0) (codes "." ++ decimal p.1) (number p.0 h.0) (omega arith, number p.1 h.1)

term : (k : ℕ) (a : ℤ) → IsIndex k → Fits a → ArePlain (term_words k a)
term k a h f = by (int_eq a (pos 0))
  where
    by : (b : Bool) → ArePlain (cond b [] (pair_word (k, a) ∷ []))
    by true = tt
    by false = (pair (k, a) (h, f), tt)

terms : (k : ℕ) (cs : List ℤ) → AllFit cs → k + length cs ≤ 2 ^ 64 → ArePlain (terms_from k cs)
terms k [] f h = tt
terms k (c ∷ cs) f h = all_joined (term_words k c) (terms_from (suc k) cs) (term k c (omega (arith, h)) f.0) (terms (suc k) cs f.1 (omega (arith, h)))

form : (f : Affine) → IsSpellableForm f → ArePlain (form_words f)
form f can = (integer f.konst can.0.1, terms 0 f.coefs can.0.0 (let l = can.2 in omega (arith, l)))

spot : (P : Position) → IsSpellablePosition P → IsInk (position_word P)
spot (position.Output o) can = (omega arith, number o can)
spot (position.Node s k) can = (omega arith, dotted (s, k) can)
spot (position.InitialOutput o) can = (omega arith, (omega arith, number o can))
spot (position.InitialNode s k) can = (omega arith, (omega arith, dotted (s, k) can))

row_plain : (r : Row) → IsSpellableRow r → ArePlain (row_words r)
row_plain (row.Ge f) can = (named (codes "ge") refl, form f can)
row_plain (row.Eq f) can = (named (codes "eq") refl, form f can)
row_plain (row.Div m f) can = (named (codes "div") refl, (integer m can.0.0, form f can.1))

pairs : (ps : List (ℕ × ℤ)) → AllByRecursion IsIndexed ps → ArePlain (map pair_word ps)
pairs [] can = tt
pairs (p ∷ ps) can = (pair p can.0, pairs ps can.1)

shapes : (ps : List (ℕ × ℕ)) → AllByRecursion AreIndices ps → ArePlain (map dotted_word ps)
shapes [] can = tt
shapes (p ∷ ps) can = (dotted p can.0, shapes ps can.1)

integers : (ns : List ℤ) → AllByRecursion Fits ns → ArePlain (map signed_decimal ns)
integers [] can = tt
integers (n ∷ ns) can = (integer n can.0, integers ns can.1)

step_plain : (s : Step) → IsSpellableStep s → ArePlain (step_words s)
step_plain (step.Add ps) can = (named (codes "add") refl, pairs ps can.1)
step_plain (step.Cut r g) can = (named (codes "cut") refl, (number r can.0, (integer g can.1, tt)))
step_plain (step.DivScale r k) can = (named (codes "divscale") refl, (number r can.0, (integer k can.1, tt)))
step_plain (step.DivAdd r k s l) can = (named (codes "divadd") refl, (number r can.0, (integer k can.1, (number s can.2, (integer l can.3, tt)))))
step_plain (step.DivMod r g n f) can = (named (codes "divmod") refl, (number r can.0, (integer g can.1, (integer n can.2, form f can.3))))
step_plain (step.DivEq r n) can = (named (codes "diveq") refl, (number r can.0, (integer n can.1, tt)))
step_plain (step.Quot r) can = (named (codes "quot") refl, (number r can, tt))
step_plain (step.Floor m f) can = (named (codes "floor") refl, (integer m can.0, form f can.1))
step_plain (step.EqCut r s) can = (named (codes "eqcut") refl, (number r can.0, (number s can.1, tt)))

choice_plain : (x : Choice) → IsSpellableChoice x → ArePlain (choice_words x)
choice_plain (choice.Drop z) can = (named (codes "drop") refl, (number z can, tt))
choice_plain (choice.Equal z r) can = (named (codes "equal") refl, (number z can.0, (number r can.1, tt)))
choice_plain (choice.Residue z m i) can = (named (codes "residue") refl, (number z can.0, (integer m can.1, (integer i can.2, tt))))
choice_plain (choice.Shadow z) can = (named (codes "shadow") refl, (number z can, tt))
choice_plain (choice.Splinter z r i) can = (named (codes "splinter") refl, (number z can.0, (number r can.1, (integer i can.2, tt))))

order_plain : (o : Order) → IsInk (order_word o)
order_plain order.Keep = named (codes "keep") refl
order_plain order.Swap = named (codes "swap") refl

level_plain : (l : Option ℕ) → IsSpellableLevel l → IsInk (level_word l)
level_plain None can = named (codes "-") refl
level_plain (Some l) can = number l can

item_ink : (x : Item) → IsSpellable x → ArePlain (item_words x)
item_ink (item.Point ns) can = (named (codes "point") refl, integers ns can)
item_ink (item.Left ps) can = (named (codes "left") refl, shapes ps can)
item_ink (item.Right ps) can = (named (codes "right") refl, shapes ps can)
item_ink (item.Claims n) can = (named (codes "claims") refl, (number n can, tt))
item_ink (item.Claim P Q n) can = (named (codes "claim") refl, (spot P can.0, (spot Q can.1, (number n can.2, tt))))
item_ink (item.Row r) can = row_plain r can
item_ink (item.Output o c) can = (named (codes "output") refl, (number o can.0, (number c can.1, tt)))
item_ink (item.Tree c a b) can = (named (codes "tree") refl, (number c can.0, (number a can.1, (number b can.2, tt))))
item_ink (item.Step s) can = step_plain s can
item_ink (item.Split f) can = (named (codes "split") refl, form f can)
item_ink (item.Residue m f) can = (named (codes "residue") refl, (integer m can.0.0, form f can.1))
item_ink (item.Go o n) can = (named (codes "go") refl, (order_plain o, (number n can, tt)))
item_ink (item.Absurd r) can = (named (codes "absurd") refl, (number r can, tt))
item_ink (item.Hit c) can = (named (codes "hit") refl, (number c can, tt))
item_ink item.Number can = (named (codes "number") refl, tt)
item_ink item.Initial can = (named (codes "initial") refl, tt)
item_ink (item.Killed s d l m n) can = (named (codes "killed") refl, (number s can.0, (number d can.1, (level_plain l can.2, (number m can.3, (number n can.4, tt))))))
item_ink (item.Choice x) can = choice_plain x can
item_ink item.End can = (named (codes "end") refl, tt)

row_some : (r : Row) → ¬ (row_words r ≡ [])
row_some (row.Ge f) e = absurd cc
row_some (row.Eq f) e = absurd cc
row_some (row.Div m f) e = absurd cc

step_some : (s : Step) → ¬ (step_words s ≡ [])
step_some (step.Add ps) e = absurd cc
step_some (step.Cut r g) e = absurd cc
step_some (step.DivScale r k) e = absurd cc
step_some (step.DivAdd r k s l) e = absurd cc
step_some (step.DivMod r g n f) e = absurd cc
step_some (step.DivEq r n) e = absurd cc
step_some (step.Quot r) e = absurd cc
step_some (step.Floor m f) e = absurd cc
step_some (step.EqCut r s) e = absurd cc

choice_some : (x : Choice) → ¬ (choice_words x ≡ [])
choice_some (choice.Drop z) e = absurd cc
choice_some (choice.Equal z r) e = absurd cc
choice_some (choice.Residue z m i) e = absurd cc
choice_some (choice.Shadow z) e = absurd cc
choice_some (choice.Splinter z r i) e = absurd cc

-- each item has a first word
pub some_words : (x : Item) → ¬ (item_words x ≡ [])
some_words (item.Row r) e = row_some r e
some_words (item.Step s) e = step_some s e
some_words (item.Choice x) e = choice_some x e
some_words x e = some_first e
  where
    some_first : {w : List ℕ} {ws : List (List ℕ)} → w ∷ ws ≡ [] → ⊥
    some_first k = absurd cc

free : (mark : ℕ) (w : List ℕ) → mark ≤ 32 → IsInk w → IsFree mark w
free mark [] low h = tt
free mark (b ∷ bs) low h = (differs b mark (let k = h.0 in omega (arith, low, k)), free mark bs low h.1)
  where
    differs : (b mark : ℕ) → mark < b → (b == mark) ≡ false
    differs b mark k = grind arith

all_free : (mark : ℕ) (ws : List (List ℕ)) → mark ≤ 32 → ArePlain ws → AllByRecursion (IsFree mark) ws
all_free mark [] low h = tt
all_free mark (w ∷ ws) low h = (free mark w low h.0, all_free mark ws low h.1)

pub item_plain : (x : Item) → IsSpellable x → AllByRecursion (IsFree 32) (item_words x)
item_plain x can = all_free 32 (item_words x) (omega arith) (item_ink x can)

free_joined : (mark : ℕ) (xs ys : List ℕ) → IsFree mark xs → IsFree mark ys → IsFree mark (xs ++ ys)
free_joined mark [] ys f g = g
free_joined mark (x ∷ xs) ys f g = (f.0, free_joined mark xs ys f.1 g)

free_line : (ws : List (List ℕ)) → AllByRecursion (IsFree 10) ws → IsFree 10 (line_of ws)
free_line [] h = tt
free_line (w ∷ ws) h = free_joined 10 w (further ws) h.0 (behind ws h.1)
  where
    behind : (ws : List (List ℕ)) → AllByRecursion (IsFree 10) ws → IsFree 10 (further ws)
    behind [] h = tt
    behind (v ∷ vs) h = (refl, free_joined 10 v (further vs) h.0 (behind vs h.1))

-- nor is there a line feed in a line
pub one_line : (x : Item) → IsSpellable x → IsFree 10 (spelled x)
one_line x can = free_line (item_words x) (all_free 10 (item_words x) (omega arith) (item_ink x can))
