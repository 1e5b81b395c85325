-- What the stages of a run hand on.
use Rattle.std.specs.Prelude.{◌≡◌, ◌≤◌, ◌++◌, ℕ, ℤ, List, [], ◌∷◌, map, nat_eq, length, Bool, true, false, IsSomeAnd, Option, Some, None, IfSome, Result, Ok, Err, Vec, option_map}
use Rattle.std.specs.Global.{Global}
use Rattle.std.specs.declared.alloc.AllocError.{AllocError}
use Rattle.std.specs.FinMap.{get}
use Rattle.std.specs.List.{list_any}
use Rattle.ac_port.specs.Contents.{Contents, IsTooBig, part_of}
use Rattle.ac_port.specs.Transcripts.{Read, handed_out, read_failed, was_too_big, part_read}
use Rattle.ac_claims.specs.Soundness.{AreModels}
use Rattle.ac_claims_paths.specs.PathSteps.{Pairing}
use Rattle.ac_prooftext.specs.CheckProgress.{IsFed as Took}
use Rattle.ac_prooftext.specs.declared.checker.Checker.{Checker}
use Rattle.ac_poly.specs.Model.{model_of, HasContext}
use Rattle.ac_poly.specs.declared.types.Model.{Model}
use Rattle.ac_syntax.specs.declared.tree.Cond.{Cond}
use Rattle.ac_syntax.specs.declared.tree.Program.{Program}
use Rattle.ac_syntax.specs.Outputs.{extents_at}
use Rattle.ac_syntax.specs.Index.{point, index_value}
use Rattle.ac_syntax.specs.ReadyPrograms.{ReadyProgram}
use Rattle.ac_syntax.specs.Small.{IsSmallProgram, IsSmallPair}
use Rattle.ac_syntax.specs.declared.tree.Pair.{Pair}
use Rattle.ac_parse_rules.specs.DeclaredNumbers.{ListsItsParameters}
use Rattle.ac_parse.specs.ProgramPairs.{IsPairOf}
use Rattle.ac_parse.specs.Program.{IsProgramOf}
use Rattle.ac_top.specs.ProgramAnswers.{AreLowered, AreNoPair, ArePaired, AreRefused, AreUnpaired, HasComplaint, Holds, IsLowered, IsNotLowered, CheckReports}
use Rattle.ac_top.specs.Reads.{HandOut, IsStream, source_read}
use Rattle.ac_top.specs.declared.lowering.Lowered.{Lowered}
use Rattle.ac_top.specs.declared.lowering.Lowered.TheVariants.{Models}
use Rattle.ac_top.specs.declared.lowering.Lowered.TheVariants as lowered
use Rattle.ac_top.specs.declared.lowering.OneLowered.{OneLowered}
use Rattle.ac_top.specs.declared.lowering.OneLowered.TheVariants as one
use Rattle.ac_top.specs.ProveReports.{ProveReports}
use Rattle.ac_top.specs.Reports.{Report, ProofFile}
use Rattle.ac_top.specs.InstanceReports.{InstanceReports, IsReadyPair}
use Rattle.ac_top.specs.ConsoleLines.{Complaint}
use Rattle.ac_top.specs.declared.refusals.Complaint.{Complaint as Said}
use Rattle.ac_top.specs.declared.report.ProofFile.{ProofFile as File}
use Rattle.ac_top.specs.declared.report.Report.{Report as Written}
use Rattle.ac_top.specs.declared.report.Source.{Source}
use Rattle.ac_top.specs.declared.report.Source.TheVariants.{Bytes, Unread, TooLong}
use Rattle.ac_top.specs.declared.runs.Task.{Task}
use Rattle.ac_top.specs.declared.runs.Task.TheVariants.{Prove, Check, Instance}
use Rattle.ac_top.specs.declared.sources.Paired.{Paired}
use Rattle.ac_top.specs.declared.sources.Paired.TheVariants.{Together, Refused}
use Rattle.ac_top.specs.declared.sources.Parsed.{Parsed}
use Rattle.ac_top.specs.declared.sources.Parsed.TheVariants as parsed

-- the name and the bytes of a file
abbrev pub file_of : File → ProofFile
file_of file = record { name = file.name.items; bytes = file.bytes.items }

-- the status and the bytes of a report, and its file
abbrev pub written : Written → Report
written r = record { status = r.status; text = r.text.items; proof = option_map file_of r.proof }

-- what the read of a source file gave; `reads` says that these were the reads
abbrev pub IsSource : Option Contents → (reads : List Read → Type 0) → List ℕ → Source → Type 0
IsSource files reads name (Bytes bytes) = Holds files name bytes.items × reads (source_read name (handed_out bytes.items) ∷ [])
IsSource files reads name Unread = reads (source_read name read_failed ∷ [])
IsSource files reads name TooLong = reads (source_read name was_too_big ∷ []) × IfSome files (λ contents. IsTooBig contents name 65536)

-- what is known of a program that was read
pub record IsRead (program : Program) : Type 0 where
  pub ready : ReadyProgram program
  pub small : IsSmallProgram program
  pub parameters : ListsItsParameters program

-- what the code says of a fault; nothing of want of memory
abbrev pub said_by : Said → Complaint
said_by said = record { words = said.words.now; at = said.place.at }

abbrev pub told : Result Said AllocError → Option Complaint
told (Ok said) = Some (said_by said)
told (Err error) = None

-- the program of a text, or what is wrong with it
abbrev pub IsParsed : List ℕ → Parsed → Type 0
IsParsed bytes (parsed.Program program) = IsProgramOf bytes program × IsRead program
IsParsed bytes (parsed.Refused said) = HasComplaint bytes (said_by said)

-- the pair of two programs, or why they are none
abbrev pub IsPairing : Program → Program → Paired → Type 0
IsPairing left right (Together pair) = IsPairOf left right pair
IsPairing left right (Refused text) = AreNoPair left right text.items

-- the extents of each output have the same values in both programs
abbrev pub HaveOneExtent : Pair → Type 0
HaveOneExtent pair = (o : ℕ) → list_any (nat_eq o) pair.outputs ≡ true → (params : List ℤ) → map (index_value (point params [])) (extents_at pair.right.arrays o) ≡ map (index_value (point params [])) (extents_at pair.left.arrays o)

-- what is known of the pair of two programs that were read; its context is that of both
pub record IsReadPair (pair : Pair) : Type 0 where
  pub context : pair.context.parts ≡ pair.left.context.parts ++ pair.right.context.parts
  pub ready : IsReadyPair pair
  pub extents : HaveOneExtent pair
  pub small : IsSmallPair pair

-- the pair of two texts, or why they give none
abbrev pub IsPairingOf : List ℕ → List ℕ → List ℕ → List ℕ → Paired → Type 0
IsPairingOf a b first second (Together pair) = ArePaired first second pair × IsReadPair pair
IsPairingOf a b first second (Refused text) = AreUnpaired a b first second text.items

-- a program is lowered under a context, to this model, whose context has its meaning, or what is wrong with it
abbrev pub IsLowering : Program → Cond → OneLowered → Type 0
IsLowering program context (one.Model model) = IsLowered program × (model ≡ model_of program context) × HasContext context model
IsLowering program context (one.Refused said) = IsNotLowered program (said_by said)

-- what one read of a part gave; `reads` says that these were the reads
abbrev pub IsPiece : Option Contents → (reads : List Read → Type 0) → (name : List ℕ) (from room : ℕ) → Option (Vec ℕ Global) → Type 0
IsPiece files reads name from room None = reads (part_read name from room read_failed ∷ [])
IsPiece files reads name from room (Some piece) =
    reads (part_read name from room (handed_out piece.items) ∷ []) × (length piece.items ≤ room) × IfSome files (λ contents. IsSomeAnd (get contents name) (λ bytes. piece.items ≡ part_of bytes from room))

-- a part of a named file was read and fed to a checker: all that there is from a place on, as far as there is room
pub record IsFed (files : Option Contents) (reads : List Read → Type 0) (name : List ℕ) (from room : ℕ) (before now : Checker) (count : ℕ) : Type 0 where
  pub piece : List ℕ
  pub is_read : reads (part_read name from room (handed_out piece) ∷ [])
  pub fed : (g : Pairing) (outputs text : List ℕ) → Took g outputs text before → Took g outputs (text ++ piece) now
  pub counted : length piece ≡ count
  pub within : count ≤ room
  pub told : IfSome files (λ contents. IsSomeAnd (get contents name) (λ bytes. piece ≡ part_of bytes from room))

-- the same, where the part was fed, by how many bytes it has
abbrev pub IsPartRead : Option Contents → (reads : List Read → Type 0) → (name : List ℕ) (from room : ℕ) (before now : Checker) → Option ℕ → Type 0
IsPartRead files reads name from room before now None = reads (part_read name from room read_failed ∷ [])
IsPartRead files reads name from room before now (Some count) = IsFed files reads name from room before now count

-- a named file was read in parts, and its stream was fed to a checker; or a read failed
abbrev pub IsFeeding : Option Contents → (reads : List Read → Type 0) → (name : List ℕ) → Pairing → List ℕ → Checker → Bool → Type 0
IsFeeding files reads name g outputs checker true = (parts : List Read) × (stream : List ℕ) × reads parts × IsStream files name parts stream × Took g outputs stream checker
IsFeeding files reads name g outputs checker false = (parts : List Read) × (bytes : List ℕ) × (room : ℕ) × HandOut name parts bytes × reads (parts ++ part_read name (length bytes) room read_failed ∷ [])

-- both programs of the pair of two texts are lowered, to these models, or the line that says which is not
abbrev pub IsLoweringOf : (a b first second : List ℕ) → Pair → Lowered → Type 0
IsLoweringOf a b first second pair (Models left right) = AreLowered pair × AreModels pair left right
IsLoweringOf a b first second pair (lowered.Refused text) = AreRefused a b first second text.items

-- what a task reports of a pair of the texts of two files; `more` says that these were the further reads
abbrev pub TaskReports : Task → Option Contents → (more : List Read → Type 0) → (a b first second : List ℕ) → Pair → Report → Type 0
TaskReports (Prove budget proof) files more a b first second = λ pair r. more [] × ProveReports pair budget (option_map (λ w. w.now) proof) r
TaskReports (Check proof) files more a b first second = λ pair r. CheckReports files more proof.now pair r
TaskReports (Instance at limit) files more a b first second = λ pair r. more [] × InstanceReports a b first second pair (option_map (λ w. w.now) at) limit r

-- a limit is at most the greatest
abbrev pub IsWithin : Task → Type 0
IsWithin (Prove budget proof) = Unit {0}
IsWithin (Check proof) = Unit {0}
IsWithin (Instance at limit) = limit ≤ 1000000

-- the models of both programs of a pair under its context
abbrev pub models_of : Pair → List Model
models_of pair = model_of pair.left pair.context ∷ model_of pair.right pair.context ∷ []
