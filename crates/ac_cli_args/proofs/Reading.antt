-- A list of entries that is read up to some part.
use Rattle.std.proofs.Common.{◌≡◌, ◌≤◌, ◌+◌, ◌++◌, ◌==◌, ◌||◌, ℕ, suc, Bool, true, false, true≢false, List, [], ◌∷◌, length, refl, sym, ap, subst, ◌∙◌, arith, length-append}
use Rattle.std.specs.List.{list_any, slice_split, onto_first}
use Rattle.std.proofs.lemmas.List.Splits.{slice_split-cons_yes, slice_split-cons_no}
use Rattle.std.proofs.lemmas.List.{append_assoc}
use Rattle.ac_cli_args.specs.ValuationEntries.{Given, IsCut, IsEntry, AreEntries, parts_of}
use Rattle.ac_cli_args.specs.DecimalNumbers.{IsInteger}
use Rattle.ac_cli_args.proofs.Numerals.{integer_once}

-- the parts before the rest are entries, and each turn took a byte
pub record IsReadTo (word rest : List ℕ) (turn : ℕ) (given : List Given) : Type 0 where
  pub seen : List (List ℕ)
  pub parts : slice_split (λ c. c == 44) word ≡ seen ++ slice_split (λ c. c == 44) rest
  pub entries : AreEntries seen given
  pub room : length rest + turn ≤ length word

or_false : (a b : Bool) → (a || b) ≡ false → (a ≡ false) × (b ≡ false)
or_false true b h = absurd cc
or_false false b h = (refl, h)

-- the first part ends at the first mark
pub split_cut : (before after : List ℕ) → list_any (λ c. c == 44) before ≡ false → slice_split (λ c. c == 44) (before ++ 44 ∷ after) ≡ before ∷ slice_split (λ c. c == 44) after
split_cut [] after h = slice_split-cons_yes (λ c. c == 44) 44 after refl
split_cut (x ∷ xs) after h =
    let k = or_false (x == 44) (list_any (λ c. c == 44) xs) h in
    slice_split-cons_no (λ c. c == 44) x (xs ++ 44 ∷ after) k.0 ∙ ap (onto_first x) (split_cut xs after k.1)

pub split_whole : (text : List ℕ) → list_any (λ c. c == 44) text ≡ false → slice_split (λ c. c == 44) text ≡ text ∷ []
split_whole [] h = refl
split_whole (x ∷ xs) h =
    let k = or_false (x == 44) (list_any (λ c. c == 44) xs) h in
    slice_split-cons_no (λ c. c == 44) x xs k.0 ∙ ap (onto_first x) (split_whole xs k.1)

-- where a part is no entry, the list is none
pub none_in : (seen : List (List ℕ)) (part : List ℕ) (more : List (List ℕ)) (gs : List Given) → ((g : Given) → ¬ (IsEntry part g)) → ¬ (AreEntries (seen ++ part ∷ more) gs)
none_in [] part more [] nope h = h
none_in [] part more (g ∷ gs) nope h = nope g h.0
none_in (s ∷ ss) part more [] nope h = h
none_in (s ∷ ss) part more (g ∷ gs) nope h = none_in ss part more gs nope h.1

-- one more entry
pub one_more : (seen : List (List ℕ)) (part : List ℕ) (gs : List Given) (g : Given) → AreEntries seen gs → IsEntry part g → AreEntries (seen ++ part ∷ []) (gs ++ g ∷ [])
one_more [] part [] g h k = (k, tt)
one_more [] part (x ∷ xs) g h k = absurd h
one_more (s ∷ ss) part [] g h k = absurd h
one_more (s ∷ ss) part (x ∷ xs) g h k = (h.0, one_more ss part xs g h.1 k)

module _ (word rest : List ℕ) (turn : ℕ) (given : List Given) (r : IsReadTo word rest turn given) where
  pub cut_parts : (part behind : List ℕ) → IsCut 44 rest part behind → slice_split (λ c. c == 44) word ≡ r.seen ++ part ∷ slice_split (λ c. c == 44) behind
  cut_parts part behind k = r.parts ∙ ap (λ xs. r.seen ++ xs) (ap (slice_split (λ c. c == 44)) k.joined ∙ split_cut part behind k.first)

  pub last_parts : list_any (λ c. c == 44) rest ≡ false → slice_split (λ c. c == 44) word ≡ r.seen ++ rest ∷ []
  last_parts h = r.parts ∙ ap (λ xs. r.seen ++ xs) (split_whole rest h)

  pub stops : (part behind : List ℕ) → IsCut 44 rest part behind → ((g : Given) → ¬ (IsEntry part g)) → (gs : List Given) → ¬ (AreEntries (slice_split (λ c. c == 44) word) gs)
  stops part behind k nope gs h = none_in r.seen part (slice_split (λ c. c == 44) behind) gs nope (subst (λ xs. AreEntries xs gs) (cut_parts part behind k) h)

  pub stops_last : list_any (λ c. c == 44) rest ≡ false → ((g : Given) → ¬ (IsEntry rest g)) → (gs : List Given) → ¬ (AreEntries (slice_split (λ c. c == 44) word) gs)
  stops_last k nope gs h = none_in r.seen rest [] gs nope (subst (λ xs. AreEntries xs gs) (last_parts k) h)

  pub ends : list_any (λ c. c == 44) rest ≡ false → (g : Given) → IsEntry rest g → AreEntries (slice_split (λ c. c == 44) word) (given ++ g ∷ [])
  ends k g is = subst (λ xs. AreEntries xs (given ++ g ∷ [])) (sym (last_parts k)) (one_more r.seen rest given g r.entries is)

  pub goes_on : (part behind : List ℕ) → IsCut 44 rest part behind → (g : Given) → IsEntry part g → IsReadTo word behind (turn + 1) (given ++ g ∷ [])
  goes_on part behind k g is = record {
    seen = r.seen ++ part ∷ [];
    parts = cut_parts part behind k ∙ sym (append_assoc r.seen (part ∷ []) (slice_split (λ c. c == 44) behind));
    entries = one_more r.seen part given g r.entries is;
    room = let l : length rest ≡ length part + suc (length behind) = ap length k.joined ∙ length-append part (44 ∷ behind) in omega (arith, l, r.room);
  }

-- nothing is left after as many turns as bytes
pub ended : (word rest : List ℕ) (turn : ℕ) (given : List Given) → IsReadTo word rest turn given → length word ≤ turn → list_any (λ c. c == 44) rest ≡ false
ended word [] turn given r h = refl
ended word (x ∷ xs) turn given r h = absurd (let room = r.room in omega (arith, room, h))

-- a text is cut at one place
pub cut_once : (byte : ℕ) (x x' y y' : List ℕ) → x ++ byte ∷ y ≡ x' ++ byte ∷ y' → list_any (λ c. c == byte) x ≡ false → list_any (λ c. c == byte) x' ≡ false → y ≡ y'
cut_once byte [] [] y y' e h k = cc
cut_once byte [] (c ∷ cs) y y' e h k = let b : byte ≡ c = cc in absurd (differs byte (or_false (c == byte) (list_any (λ d. d == byte) cs) k).0 b)
  where
    differs : {c : ℕ} (b : ℕ) → (c == b) ≡ false → b ≡ c → ⊥
    differs {c = c} b f e = grind arith
cut_once byte (c ∷ cs) [] y y' e h k = let b : byte ≡ c = cc in absurd (differs byte (or_false (c == byte) (list_any (λ d. d == byte) cs) h).0 b)
  where
    differs : {c : ℕ} (b : ℕ) → (c == b) ≡ false → b ≡ c → ⊥
    differs {c = c} b f e = grind arith
cut_once byte (c ∷ cs) (d ∷ ds) y y' e h k =
    cut_once byte cs ds y y' (let t : cs ++ byte ∷ y ≡ ds ++ byte ∷ y' = cc in t) (or_false (c == byte) (list_any (λ d. d == byte) cs) h).1 (or_false (d == byte) (list_any (λ d. d == byte) ds) k).1

pub no_entry : (part name digits : List ℕ) → IsCut 61 part name digits → ((v : _) → ¬ (IsInteger digits v)) → (g : Given) → ¬ (IsEntry part g)
no_entry part name digits cut nope g h =
    let same : digits ≡ h.digits = cut_once 61 name g.name digits h.digits (sym cut.joined ∙ h.spelled) cut.first h.plain in
    nope g.value (subst (λ d. IsInteger d g.value) (sym same) h.integer)

pub parts_whole : (word : List ℕ) → (length word == 0) ≡ false → parts_of word ≡ slice_split (λ c. c == 44) word
parts_whole [] h = absurd (true≢false h)
parts_whole (x ∷ xs) h = refl

name_once : (byte : ℕ) (x x' y y' : List ℕ) → x ++ byte ∷ y ≡ x' ++ byte ∷ y' → list_any (λ c. c == byte) x ≡ false → list_any (λ c. c == byte) x' ≡ false → x ≡ x'
name_once byte [] [] y y' e h k = refl
name_once byte [] (c ∷ cs) y y' e h k = let b : byte ≡ c = cc in absurd (differs byte (or_false (c == byte) (list_any (λ d. d == byte) cs) k).0 b)
  where
    differs : {c : ℕ} (b : ℕ) → (c == b) ≡ false → b ≡ c → ⊥
    differs {c = c} b f e = grind arith
name_once byte (c ∷ cs) [] y y' e h k = let b : byte ≡ c = cc in absurd (differs byte (or_false (c == byte) (list_any (λ d. d == byte) cs) h).0 b)
  where
    differs : {c : ℕ} (b : ℕ) → (c == b) ≡ false → b ≡ c → ⊥
    differs {c = c} b f e = grind arith
name_once byte (c ∷ cs) (d ∷ ds) y y' e h k =
    (λ i. (let t : c ≡ d = cc in t) i ∷ name_once byte cs ds y y' (let t : cs ++ byte ∷ y ≡ ds ++ byte ∷ y' = cc in t) (or_false (c == byte) (list_any (λ d. d == byte) cs) h).1 (or_false (d == byte) (list_any (λ d. d == byte) ds) k).1 i)

-- a part is one entry
entry_once : (part : List ℕ) (g h : Given) → IsEntry part g → IsEntry part h → g ≡ h
entry_once part g h a b =
    let same : g.name ++ 61 ∷ a.digits ≡ h.name ++ 61 ∷ b.digits = sym a.spelled ∙ b.spelled in
    let digits : a.digits ≡ b.digits = cut_once 61 g.name h.name a.digits b.digits same a.plain b.plain in
    λ i. record {
      name = name_once 61 g.name h.name a.digits b.digits same a.plain b.plain i;
      value = integer_once b.digits g.value h.value (subst (λ d. IsInteger d g.value) digits a.integer) b.integer i;
    }

-- and parts are one list of entries
pub entries_once : (parts : List (List ℕ)) (gs hs : List Given) → AreEntries parts gs → AreEntries parts hs → gs ≡ hs
entries_once [] [] [] a b = refl
entries_once [] (g ∷ gs) hs a b = absurd a
entries_once [] [] (h ∷ hs) a b = absurd b
entries_once (p ∷ ps) [] hs a b = absurd a
entries_once (p ∷ ps) (g ∷ gs) [] a b = absurd b
entries_once (p ∷ ps) (g ∷ gs) (h ∷ hs) a b = λ i. entry_once p g h a.0 b.0 i ∷ entries_once ps gs hs a.1 b.1 i
