-- Reads, one after the other, and files that are read in parts.
use Rattle.std.proofs.Common.{◌≡◌, ◌≤◌, ◌<◌, ℕ, zero, suc, ◌+◌, ◌-◌, List, [], ◌∷◌, ◌++◌, length, take, drop, min, length-append, length-drop, Option, Some, None, option_map, IfSome, IsSomeAnd, refl, sym, ap, subst, ◌∙◌, arith}
use Rattle.std.specs.FinMap.{get}
use Rattle.std.proofs.lemmas.List.{append_assoc, append-nil, take_all, length-take}
use Rattle.std.proofs.Math.Seq.{take-add}
use Rattle.ac_port.specs.Contents.{Contents, part_of}
use Rattle.ac_port.specs.Transcripts.{Read, handed_out, part_read}
use Rattle.ac_syntax.specs.declared.tree.Pair.{Pair}
use Rattle.ac_prooftext.specs.declared.checker.Checker.{Checker}
use Rattle.ac_top.specs.ProgramAnswers.{SourceReports, refused, paired, CheckReports, proof_unread, tested}
use Rattle.ac_top.specs.ProveReports.{ProveReports}
use Rattle.ac_top.specs.Reads.{AreReads, HandOut, next_part, at_end, at_limit, IsStream, stream_limit}
use Rattle.ac_top.specs.Reports.{Report}
use Rattle.ac_top.specs.InstanceReports.{InstanceReports}
use Rattle.ac_top.specs.RunStages.{TaskReports, IsFed}
use Rattle.ac_top.specs.declared.runs.Task.{Task}
use Rattle.ac_top.specs.declared.runs.Task.TheVariants.{Prove, Check, Instance}

pub no_reads : (before : List Read) → AreReads before before []
no_reads before = sym (append-nil before)

-- reads, and further reads behind them
pub reads_on : (before between after reads more : List Read) → AreReads before between reads → AreReads between after more → AreReads before after (reads ++ more)
reads_on before between after reads more h k = k ∙ ap (λ (rs : List Read). rs ++ more) h ∙ append_assoc before reads more

-- what is reported of a pair, where the further reads are told otherwise
pub task_on : (task : Task) (files : Option Contents) (more also : List Read → Type 0) → ((rs : List Read) → more rs → also rs) → (a b x y : List ℕ) (pair : Pair) (r : Report)
    → TaskReports task files more a b x y pair r → TaskReports task files also a b x y pair r
task_on (Prove budget proof) files more also on a b x y pair r h = (on [] h.0, h.1)
task_on (Check proof) files more also on a b x y pair _ (proof_unread parts bytes room out h) = proof_unread parts bytes room out (on _ h)
task_on (Check proof) files more also on a b x y pair r (tested parts stream _ h is k) = tested parts stream r (on parts h) is k
task_on (Instance at limit) files more also on a b x y pair r h = (on [] h.0, h.1)

pub task_prove : (task : Task) {budget : _} {proof : _} (files : Option Contents) (more : List Read → Type 0) (a b x y : List ℕ) (pair : Pair) (r : Report) → task ≡ Prove budget proof → more [] → ProveReports pair budget (option_map (λ w. w.now) proof) r
    → TaskReports task files more a b x y pair r
task_prove task files more a b x y pair r is none h = subst (λ t. TaskReports t files more a b x y pair r) (sym is) (none, h)

pub task_check : (task : Task) {proof : _} (files : Option Contents) (more : List Read → Type 0) (a b x y : List ℕ) (pair : Pair) (r : Report) → task ≡ Check proof → CheckReports files more proof.now pair r → TaskReports task files more a b x y pair r
task_check task files more a b x y pair r is h = subst (λ t. TaskReports t files more a b x y pair r) (sym is) h

pub task_instance : (task : Task) {at : _} {limit : _} (files : Option Contents) (more : List Read → Type 0) (a b x y : List ℕ) (pair : Pair) (r : Report) → task ≡ Instance at limit → more [] → InstanceReports a b x y pair (option_map (λ w. w.now) at) limit r
    → TaskReports task files more a b x y pair r
task_instance task files more a b x y pair r is none h = subst (λ t. TaskReports t files more a b x y pair r) (sym is) (none, h)

pub sources_on : (a b x y : List ℕ) (more also : List Read → Type 0) (Of Also : Pair → Report → Type 0) → (more [] → also []) → ((pair : Pair) (r : Report) → Of pair r → Also pair r) → (r : Report)
    → SourceReports a b x y more Of r → SourceReports a b x y also Also r
sources_on a b x y more also Of Also none on _ (refused text h why) = refused text (none h) why
sources_on a b x y more also Of Also none on r (paired pair _ are lowered h) = paired pair r are lowered (on pair r h)

-- bytes are the front of those that a file holds; of a file that is not there no byte was read
abbrev pub FrontOf : Option (List ℕ) → List ℕ → Type 0
FrontOf None bytes = bytes ≡ []
FrontOf (Some held) bytes = bytes ≡ take (length bytes) held

abbrev pub IsFront : Option Contents → List ℕ → List ℕ → Type 0
IsFront files name bytes = IfSome files (λ contents. FrontOf (get contents name) bytes)

pub front_begins : (files : Option Contents) (name : List ℕ) → IsFront files name []
front_begins None name = tt
front_begins (Some contents) name = by (get contents name)
  where
    by : (o : Option (List ℕ)) → FrontOf o []
    by None = refl
    by (Some held) = refl

take_front : (m : ℕ) (xs : List ℕ) → take m xs ≡ take (length (take m xs)) xs
take_front zero xs = refl
take_front (suc m) [] = refl
take_front (suc m) (x ∷ xs) = ap (λ l. x ∷ l) (take_front m xs)

front_grows : (o : Option (List ℕ)) (before piece now : List ℕ) (room : ℕ) → FrontOf o before → IsSomeAnd o (λ bytes. piece ≡ part_of bytes (length before) room) → now ≡ before ++ piece → FrontOf o now
front_grows None before piece now room h told fed = absurd told
front_grows (Some held) before piece now room h told fed =
    let whole : now ≡ take (length before + room) held = fed ∙ (λ i. h i ++ told i) ∙ sym (take-add (length before) room held) in
    whole ∙ take_front (length before + room) held ∙ ap (λ l. take (length l) held) (sym whole)

pub front_on : (files : Option Contents) (reads : List Read → Type 0) (name : List ℕ) (from room : ℕ) (old new : Checker) (text : List ℕ) (count : ℕ) → from ≡ length text → IsFront files name text → (k : IsFed files reads name from room old new count)
    → IsFront files name (text ++ k.piece)
front_on None reads name from room old new text count at h k = tt
front_on (Some contents) reads name from room old new text count at h k =
    front_grows (get contents name) text k.piece (text ++ k.piece) room h (subst (λ n. IsSomeAnd (get contents name) (λ bytes. k.piece ≡ part_of bytes n room)) at k.told) refl

pub longer : (files : Option Contents) (reads : List Read → Type 0) (name : List ℕ) (from room : ℕ) (old new : Checker) (text : List ℕ) (count : ℕ) → (k : IsFed files reads name from room old new count) → length (text ++ k.piece) ≡ length text + count
longer files reads name from room old new text count k = length-append text k.piece ∙ ap (λ n. length text + n) k.counted

none_left : (xs : List ℕ) → length xs ≡ 0 → xs ≡ []
none_left [] h = refl
none_left (x ∷ xs) h = absurd (omega (arith, h))

whole_file : (o : Option (List ℕ)) (before piece now : List ℕ) (room : ℕ) → 0 < room → length before ≤ stream_limit → length piece ≡ 0 → FrontOf o before → IsSomeAnd o (λ bytes. piece ≡ part_of bytes (length before) room) → now ≡ before ++ piece
    → IsSomeAnd o (λ bytes. now ≡ take stream_limit bytes)
whole_file None before piece now room some short empty h told fed = absurd told
whole_file (Some held) before piece now room some short empty h told fed =
    let n = length before in
    let nothing : min room (length (drop n held)) ≡ 0 = sym (length-take room (drop n held)) ∙ ap length (sym told) ∙ empty in
    let dropped : length (drop n held) ≡ length held - n = length-drop n held in
    let all : length held ≤ n = few room (length (drop n held)) (length held) n some nothing dropped in
    let same : now ≡ held = fed ∙ ap (λ l. before ++ l) (none_left piece empty) ∙ append-nil before ∙ h ∙ take_all n held all in
    same ∙ sym (take_all stream_limit held (omega (arith, all, short)))
  where
    few : (r d l n : ℕ) → 0 < r → min r d ≡ 0 → d ≡ l - n → l ≤ n
    few r d l n some nothing is = grind (arith)

stream_told : (files : Option Contents) (reads : List Read → Type 0) (name : List ℕ) (from room : ℕ) (old new : Checker) (text : List ℕ) → from ≡ length text → 0 < room → from ≤ stream_limit → IsFront files name text → (k : IsFed files reads name from room old new 0)
    → IfSome files (λ contents. IsSomeAnd (get contents name) (λ bytes. text ++ k.piece ≡ take stream_limit bytes))
stream_told None reads name from room old new text at some short h k = tt
stream_told (Some contents) reads name from room old new text at some short h k =
    whole_file (get contents name) text k.piece (text ++ k.piece) room some (subst (λ n. n ≤ stream_limit) at short) k.counted h (subst (λ n. IsSomeAnd (get contents name) (λ bytes. k.piece ≡ part_of bytes n room)) at k.told) refl

-- a part that was read next
pub part_out : (name : List ℕ) (parts : List Read) (text : List ℕ) (from room : ℕ) (piece : List ℕ) → from ≡ length text → HandOut name parts text → HandOut name (parts ++ part_read name from room (handed_out piece) ∷ []) (text ++ piece)
part_out name parts text from room piece at h = subst (λ (n : ℕ). HandOut name (parts ++ part_read name n room (handed_out piece) ∷ []) (text ++ piece)) (sym at) (next_part parts text room piece h)

-- an empty part ends the stream
pub stream_ends : (files : Option Contents) (reads : List Read → Type 0) (name : List ℕ) (from room : ℕ) (old new : Checker) (text : List ℕ) (parts : List Read) → from ≡ length text → 0 < room → from ≤ stream_limit → IsFront files name text → HandOut name parts text
    → (k : IsFed files reads name from room old new 0) → IsStream files name (parts ++ part_read name from room (handed_out k.piece) ∷ []) (text ++ k.piece)
stream_ends files reads name from room old new text parts at some short h out k =
    let none : k.piece ≡ [] = none_left k.piece k.counted in
    let same : text ++ k.piece ≡ text = ap (λ (l : List ℕ). text ++ l) none ∙ append-nil text in
    let place : from ≡ length (text ++ k.piece) = at ∙ ap length (sym same) in
    let last : part_read name from room (handed_out k.piece) ≡ part_read name (length (text ++ k.piece)) room (handed_out []) = (λ i. part_read name (place i) room (handed_out (none i))) in
    record {
      out = part_out name parts text from room k.piece at out;
      ended = at_end parts room some (ap (λ (r : Read). parts ++ r ∷ []) last);
      told = stream_told files reads name from room old new text at some short h k;
    }

pub limit-is : stream_limit ≡ 67108865
unfolding stream_limit
limit-is = refl

no_limit : 0 ≡ stream_limit → ⊥
no_limit e = let is = limit-is in omega (arith, e, is)

longest : (o : Option (List ℕ)) (bytes : List ℕ) → length bytes ≡ stream_limit → FrontOf o bytes → IsSomeAnd o (λ held. bytes ≡ take stream_limit held)
longest None bytes long h = let l : length bytes ≡ 0 = ap length h in absurd (no_limit (sym l ∙ long))
longest (Some held) bytes long h = h ∙ ap (λ n. take n held) long

long_told : (files : Option Contents) (name bytes : List ℕ) → length bytes ≡ stream_limit → IsFront files name bytes → IfSome files (λ contents. IsSomeAnd (get contents name) (λ held. bytes ≡ take stream_limit held))
long_told None name bytes long h = tt
long_told (Some contents) name bytes long h = longest (get contents name) bytes long h

pub stream_is_long : (files : Option Contents) (name bytes : List ℕ) (parts : List Read) → length bytes ≡ stream_limit → IsFront files name bytes → HandOut name parts bytes → IsStream files name parts bytes
stream_is_long files name bytes parts long h out = record { out = out; ended = at_limit long; told = long_told files name bytes long h }
