-- What a run read, as the transcripts of its files before and after it tell.
use Rattle.std.specs.Prelude.{◌≡◌, ◌<◌, ℕ, List, [], ◌∷◌, ◌++◌, length, IfSome, IsSomeAnd, Option, take}
use Rattle.std.specs.FinMap.{get}
use Rattle.ac_port.specs.Contents.{Contents}
use Rattle.ac_port.specs.Transcripts.{Handed, Read, handed_out, whole_read, part_read}

-- between two moments these reads were made, in order, and no others
abbrev pub AreReads : (before after : List Read) → List Read → Type 0
AreReads before after reads = after ≡ before ++ reads

-- a source file is asked for whole, if it has at most 65,536 bytes
abbrev pub source_read : List ℕ → Handed → Read
source_read name handed = whole_read name 65536 handed

-- one more byte than a proof may have
unfoldable pub stream_limit : ℕ
stream_limit = 67108865

-- reads of parts of a file handed out these bytes: each part begins where the one before it ended
pub data HandOut (name : List ℕ) : List Read → List ℕ → Type 0 where
  no_part : HandOut name [] []
  next_part : (parts : List Read) (bytes : List ℕ) (room : ℕ) (piece : List ℕ) → HandOut name parts bytes → HandOut name (parts ++ part_read name (length bytes) room (handed_out piece) ∷ []) (bytes ++ piece)

-- the parts end where there is room for more and nothing is handed out, or at one more byte than a proof may have
pub data HaveEnded (name : List ℕ) (parts : List Read) (bytes : List ℕ) : Type 0 where
  at_end : (before : List Read) (room : ℕ) → 0 < room → parts ≡ before ++ part_read name (length bytes) room (handed_out []) ∷ [] → HaveEnded name parts bytes
  at_limit : length bytes ≡ stream_limit → HaveEnded name parts bytes

-- the bytes of a proof file that are tested: what its parts handed out, to their end; and where contents are told, all that it holds, or one more byte
-- than a proof may have
pub record IsStream (files : Option Contents) (name : List ℕ) (parts : List Read) (stream : List ℕ) : Type 0 where
  pub out : HandOut name parts stream
  pub ended : HaveEnded name parts stream
  pub told : IfSome files (λ contents. IsSomeAnd (get contents name) (λ bytes. stream ≡ take stream_limit bytes))
