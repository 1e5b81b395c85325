-- What the program answers: from its words and the files that they name to a status and a text.
use Rattle.std.specs.Prelude.{◌≡◌, ◌≤◌, ℕ, ℤ, List, [], ◌∷◌, ◌++◌, length, take, Option, Some, None, IfSome, option_map, Ok, Err, Vec}
use Rattle.std.specs.Global.{Global}
use Rattle.std.specs.FinMap.{get, insert}
use Rattle.std.specs.List.{Contains, AllByRecursion}
use Rattle.ac_port.specs.Contents.{Contents, IsTooBig, IsSameBut}
use Rattle.ac_port.specs.Transcripts.{Read, handed_out, read_failed, was_too_big, part_read}
use Rattle.ac_cert.specs.declared.types.Rule.{Rule}
use Rattle.ac_claims.specs.Soundness.{AreModels, pairing_of}
use Rattle.ac_poly.specs.declared.types.Model.{Model}
use Rattle.ac_prooftext.specs.StreamChecks.{IsAnswer}
use Rattle.ac_prooftext.specs.declared.types.CheckFault.TheVariants.{TooLong, TooDeep, Refused}
use Rattle.ac_poly.specs.LoweringFaults.{AreLowerable, IsFirstAll}
use Rattle.ac_poly_quotients.specs.QuotientScopes.{outermost}
use Rattle.ac_poly.specs.declared.types.LowerFault.{LowerFault}
use Rattle.ac_syntax.specs.Outputs.{SameOutput}
use Rattle.ac_syntax.specs.declared.tree.Program.{Program}
use Rattle.ac_syntax.specs.declared.tree.Pair.{Pair}
use Rattle.ac_parse.specs.ParseAnswers.{HasSourceFault}
use Rattle.ac_parse.specs.Program.{IsProgramOf}
use Rattle.ac_parse.specs.ProgramPairs.{IsPairOf, HasPairFault}
use Rattle.ac_parse.specs.declared.faults.PairFault.TheVariants.{Signature, NoOutput}
use Rattle.ac_parse.specs.declared.faults.SourceFault.{SourceFault}
use Rattle.ac_assoc.specs.ArrangementFaults.{fault_of}
use Rattle.ac_assoc.specs.declared.types.AssocFault.{AssocFault}
use Rattle.ac_cli_args.specs.Commands.{Asked, prove, check_of, instance_of, flow_of, gen_of, legal_of, aprove_of, IsCommand, HasForm}
use Rattle.ac_flow.specs.declared.types.Flow.{Flow}
use Rattle.ac_top.specs.FlowReports.{FlowReports, IsFlowOf, lowered}
use Rattle.ac_gen.specs.GeneratedPair.{IsGeneratedPair}
use Rattle.ac_top.specs.GenReports.{GenReports}
use Rattle.ac_forms.specs.Affine.{Affine}
use Rattle.ac_legal_law.specs.BrokenOrders.{BreaksAt}
use Rattle.ac_legal_law.specs.Schedules.{ScheduleKeepsOrder}
use Rattle.ac_legal_text.specs.OrderTexts.{Spells}
use Rattle.ac_top.specs.OrderReports.{OrderTextReports, ReordersToTheSame}
use Rattle.ac_top.specs.Reads.{IsStream, HandOut, source_read}
use Rattle.ac_top.specs.Reports.{Report, report, ProofFile}
use Rattle.ac_top.specs.InstanceReports.{InstanceReports, IsTheSameAt}
use Rattle.ac_top.specs.ProveReports.{ProveReports, ShowsEqual, HasDifference}
use Rattle.ac_top.specs.ArrangementLines.{fault_line}
use Rattle.ac_top.specs.ArrangementReports.{ArrangedReports, AreSameUnderChains}
use Rattle.ac_top.specs.ConsoleLines.{Complaint, complaint, lower_complaint, order_too_long_line, usage_line, read_fault_line, refusal_line, too_long_line, write_fault_line, signature_line, no_output_line, accepted_lines, rejected_line, rejected_too_long_line}
use Rattle.ac_top.specs.declared.status.Status.{Status}
use Rattle.ac_top.specs.declared.status.Status.TheVariants as status

-- what is reported of the bytes of a proof of a pair; each output that it names is the same where it is accepted
pub data ProofReports (pair : Pair) (stream : List ℕ) : Report → Type 0 where
  accepted : (left right : Model) (outputs : Vec ℕ Global) → AreModels pair left right → IsAnswer (pairing_of pair left right) pair.outputs stream (Ok outputs) → AllByRecursion (SameOutput pair) outputs.items
      → ProofReports pair stream (report status.Done (accepted_lines pair.left.arrays outputs.items))
  too_long : (left right : Model) → AreModels pair left right → IsAnswer (pairing_of pair left right) pair.outputs stream (Err TooLong) → ProofReports pair stream (report status.Different rejected_too_long_line)
  too_deep : (left right : Model) → AreModels pair left right → IsAnswer (pairing_of pair left right) pair.outputs stream (Err TooDeep) → ProofReports pair stream (report status.Different rejected_too_long_line)
  not_valid : (left right : Model) (number : ℕ) (rule : Rule) → AreModels pair left right → IsAnswer (pairing_of pair left right) pair.outputs stream (Err (Refused number rule))
      → ProofReports pair stream (report status.Different (rejected_line number rule))

-- what `check` reports of a pair and a named proof file; `reads` says that these were the reads of it, in order
pub data CheckReports (files : Option Contents) (reads : List Read → Type 0) (p : List ℕ) (pair : Pair) : Report → Type 0 where
  proof_unread : (parts : List Read) (bytes : List ℕ) (room : ℕ) → HandOut p parts bytes → reads (parts ++ part_read p (length bytes) room read_failed ∷ []) → CheckReports files reads p pair (report status.ReadFault (read_fault_line p))
  tested : (parts : List Read) (stream : List ℕ) (r : Report) → reads parts → IsStream files p parts stream → ProofReports pair stream r → CheckReports files reads p pair r

-- a text has a fault, of which this is said
pub record HasComplaint (bytes : List ℕ) (said : Complaint) : Type 0 where
  pub fault : SourceFault
  pub has : HasSourceFault bytes fault
  pub is_said : complaint fault ≡ Some said

-- two programs are no pair: the line that says why
pub data AreNoPair (left right : Program) : List ℕ → Type 0 where
  signatures_differ : (number : ℕ) → HasPairFault left right (Signature number) → AreNoPair left right (signature_line number)
  nothing_compared : HasPairFault left right NoOutput → AreNoPair left right no_output_line

-- two texts have programs, and these are a pair
pub record ArePaired (first second : List ℕ) (pair : Pair) : Type 0 where
  pub left : Program
  pub right : Program
  pub is_left : IsProgramOf first left
  pub is_right : IsProgramOf second right
  pub is_pair : IsPairOf left right pair

-- a program is lowered: each assignment has at most 16 pieces, and its numbers stay in 128 bits
abbrev pub IsLowered : Program → Type 0
IsLowered program = AreLowerable program.body 0 (outermost (length program.params)) (Unit {0})

-- a program is not lowered: of the first assignment that has more pieces or a larger number this is said
pub record IsNotLowered (program : Program) (said : Complaint) : Type 0 where
  pub fault : LowerFault
  pub is_first : IsFirstAll program.body 0 (outermost (length program.params)) (Unit {0}) fault
  pub is_said : lower_complaint fault ≡ Some said

-- both programs of a pair are lowered
pub record AreLowered (pair : Pair) : Type 0 where
  pub left : IsLowered pair.left
  pub right : IsLowered pair.right

-- two texts are no pair: the line of the first that has no program, or of their programs
pub data AreUnpaired (a b first second : List ℕ) : List ℕ → Type 0 where
  first_refused : (said : Complaint) → HasComplaint first said → AreUnpaired a b first second (refusal_line a first said)
  second_refused : (left : Program) (said : Complaint) → IsProgramOf first left → HasComplaint second said → AreUnpaired a b first second (refusal_line b second said)
  no_pair : (left right : Program) (text : List ℕ) → IsProgramOf first left → IsProgramOf second right → AreNoPair left right text → AreUnpaired a b first second text

-- two texts are refused: they are no pair, or the line of the first whose program is not lowered
pub data AreRefused (a b first second : List ℕ) : List ℕ → Type 0 where
  unpaired : (text : List ℕ) → AreUnpaired a b first second text → AreRefused a b first second text
  first_not_lowered : (pair : Pair) (said : Complaint) → ArePaired first second pair → IsNotLowered pair.left said → AreRefused a b first second (refusal_line a first said)
  second_not_lowered : (pair : Pair) (said : Complaint) → ArePaired first second pair → IsLowered pair.left → IsNotLowered pair.right said
      → AreRefused a b first second (refusal_line b second said)

-- of the bytes of two files: why they are refused, with no further read, or what is reported of their pair, whose programs are lowered; `more` says
-- that these were the further reads
pub data SourceReports (a b first second : List ℕ) (more : List Read → Type 0) (OfPair : Pair → Report → Type 0) : Report → Type 0 where
  refused : (text : List ℕ) → more [] → AreRefused a b first second text → SourceReports a b first second more OfPair (report status.Refused text)
  paired : (pair : Pair) (r : Report) → ArePaired first second pair → AreLowered pair → OfPair pair r → SourceReports a b first second more OfPair r

-- the named file holds these bytes, where contents are told, and they are at most 65,536
pub record Holds (files : Option Contents) (name bytes : List ℕ) : Type 0 where
  pub told : IfSome files (λ contents. get contents name ≡ Some bytes)
  pub short : length bytes ≤ 65536

-- what `aprove` reports of the bytes of two files: that they are no pair; the first fault of a chain of the pair; without one, that a program is
-- not lowered; or what is reported of the pair, whose programs are lowered
pub data ChainReports (a b first second : List ℕ) (names : List (List ℕ)) : Report → Type 0 where
  texts_unpaired : (text : List ℕ) → AreUnpaired a b first second text → ChainReports a b first second names (report status.Refused text)
  chain_fault : (pair : Pair) (fault : AssocFault) (text : List ℕ) → ArePaired first second pair → fault_of names pair ≡ Some fault → fault_line a b first second fault ≡ Some text
      → ChainReports a b first second names (report status.Refused text)
  pair_not_lowered : (pair : Pair) (text : List ℕ) → ArePaired first second pair → fault_of names pair ≡ None → AreRefused a b first second text → ChainReports a b first second names (report status.Refused text)
  pair_lowered : (pair : Pair) (r : Report) → ArePaired first second pair → fault_of names pair ≡ None → AreLowered pair → ArrangedReports names pair r → ChainReports a b first second names r

-- of two named files: why one has no bytes to read, or what is reported of the bytes that the reads of both handed out; `reads` says that these were
-- the reads of this run, in order, and `OfTexts` takes the same of the reads behind the first two
pub data FileReports (files : Option Contents) (reads : List Read → Type 0) (a b : List ℕ) (OfTexts : List ℕ → List ℕ → (List Read → Type 0) → Report → Type 0) : Report → Type 0 where
  first_unread : reads (source_read a read_failed ∷ []) → FileReports files reads a b OfTexts (report status.ReadFault (read_fault_line a))
  first_too_long : reads (source_read a was_too_big ∷ []) → IfSome files (λ contents. IsTooBig contents a 65536) → FileReports files reads a b OfTexts (report status.Refused (too_long_line a))
  second_unread : (first : List ℕ) → reads (source_read a (handed_out first) ∷ source_read b read_failed ∷ []) → Holds files a first → FileReports files reads a b OfTexts (report status.ReadFault (read_fault_line b))
  second_too_long : (first : List ℕ) → reads (source_read a (handed_out first) ∷ source_read b was_too_big ∷ []) → Holds files a first → IfSome files (λ contents. IsTooBig contents b 65536) → FileReports files reads a b OfTexts (report status.Refused (too_long_line b))
  sources : (first second : List ℕ) (r : Report) → Holds files a first → Holds files b second → OfTexts first second (λ more. reads (source_read a (handed_out first) ∷ source_read b (handed_out second) ∷ more)) r → FileReports files reads a b OfTexts r

-- the same, where a pair is reported on as soon as its programs are lowered
abbrev pub PairReports : Option Contents → (List Read → Type 0) → (a b : List ℕ) → (List ℕ → List ℕ → (List Read → Type 0) → Pair → Report → Type 0) → Report → Type 0
PairReports files reads a b OfPair = FileReports files reads a b (λ first second more. SourceReports a b first second more (OfPair first second more))

-- what `flow` reports of the text of a named file: why it is refused, or what is reported of its program, which is lowered
pub data TextReports (a bytes : List ℕ) : Report → Type 0 where
  text_refused : (said : Complaint) → HasComplaint bytes said → TextReports a bytes (report status.Refused (refusal_line a bytes said))
  text_not_lowered : (program : Program) (said : Complaint) → IsProgramOf bytes program → IsNotLowered program said → TextReports a bytes (report status.Refused (refusal_line a bytes said))
  text_lowered : (program : Program) (r : Report) → IsProgramOf bytes program → IsLowered program → FlowReports program r → TextReports a bytes r

-- of a named file: why it has no bytes to read, or what is reported of the text that the read of it handed out, the only one of this run
pub data OneFileReports (files : Option Contents) (reads : List Read → Type 0) (a : List ℕ) : Report → Type 0 where
  file_unread : reads (source_read a read_failed ∷ []) → OneFileReports files reads a (report status.ReadFault (read_fault_line a))
  file_too_long : reads (source_read a was_too_big ∷ []) → IfSome files (λ contents. IsTooBig contents a 65536) → OneFileReports files reads a (report status.Refused (too_long_line a))
  text_of_file : (bytes : List ℕ) (r : Report) → reads (source_read a (handed_out bytes) ∷ []) → Holds files a bytes → TextReports a bytes r → OneFileReports files reads a r

-- what `legal` reports of the text of a named file and the text of a schedule: why the first is refused, or what is reported of its program, which
-- is lowered, and of the second
pub data OrderOfTextReports (a bytes spelled : List ℕ) : Report → Type 0 where
  program_refused : (said : Complaint) → HasComplaint bytes said → OrderOfTextReports a bytes spelled (report status.Refused (refusal_line a bytes said))
  program_not_lowered : (program : Program) (said : Complaint) → IsProgramOf bytes program → IsNotLowered program said → OrderOfTextReports a bytes spelled (report status.Refused (refusal_line a bytes said))
  program_lowered : (program : Program) (r : Report) → IsProgramOf bytes program → IsLowered program → OrderTextReports program spelled r → OrderOfTextReports a bytes spelled r

-- of two named files: why one has no bytes to read, or what is reported of the text of the first and the schedule of the second, as the reads of both,
-- the only ones of this run, handed them out
pub data LegalReports (files : Option Contents) (reads : List Read → Type 0) (a s : List ℕ) : Report → Type 0 where
  program_unread : reads (source_read a read_failed ∷ []) → LegalReports files reads a s (report status.ReadFault (read_fault_line a))
  program_too_long : reads (source_read a was_too_big ∷ []) → IfSome files (λ contents. IsTooBig contents a 65536) → LegalReports files reads a s (report status.Refused (too_long_line a))
  order_unread : (bytes : List ℕ) → reads (source_read a (handed_out bytes) ∷ source_read s read_failed ∷ []) → Holds files a bytes → LegalReports files reads a s (report status.ReadFault (read_fault_line s))
  order_too_long : (bytes : List ℕ) → reads (source_read a (handed_out bytes) ∷ source_read s was_too_big ∷ []) → Holds files a bytes → IfSome files (λ contents. IsTooBig contents s 65536) → LegalReports files reads a s (report status.Refused order_too_long_line)
  both_read : (bytes spelled : List ℕ) (r : Report) → reads (source_read a (handed_out bytes) ∷ source_read s (handed_out spelled) ∷ []) → Holds files a bytes → Holds files s spelled → OrderOfTextReports a bytes spelled r → LegalReports files reads a s r

-- what is reported of a command; `reads` says that these were the reads of this run, in order
abbrev pub CommandReports : Option Contents → (List Read → Type 0) → Asked → Report → Type 0
CommandReports files reads (prove a b budget proof) r = PairReports files reads a b (λ first second more pair s. more [] × ProveReports pair budget proof s) r
CommandReports files reads (check_of a b p) r = PairReports files reads a b (λ first second more pair s. CheckReports files more p pair s) r
CommandReports files reads (instance_of a b at limit) r = PairReports files reads a b (λ first second more pair s. more [] × InstanceReports a b first second pair at limit s) r
CommandReports files reads (flow_of a) r = OneFileReports files reads a r
CommandReports files reads (gen_of seed stages) r = reads [] × GenReports seed stages r
CommandReports files reads (legal_of a s) r = LegalReports files reads a s r
CommandReports files reads (aprove_of a b names) r = FileReports files reads a b (λ first second more s. more [] × ChainReports a b first second names s) r

-- what is reported of the words
pub data Reports (words : List (List ℕ)) (files : Option Contents) (reads : List Read → Type 0) : Report → Type 0 where
  no_form : reads [] → ¬ (HasForm words) → Reports words files reads (report status.Usage usage_line)
  of_command : (asked : Asked) (r : Report) → IsCommand words asked → CommandReports files reads asked r → Reports words files reads r

-- what becomes of a report: its text is put whole, or a put failed in this run, or memory ran out and nothing is put
pub data Puts (r : Report) (failed : Type 0) (before now : Option (List ℕ)) : Status → Type 0 where
  whole : now ≡ option_map (λ sent. sent ++ r.text) before → Puts r failed before now r.status
  part : (count : ℕ) → failed → now ≡ option_map (λ sent. sent ++ take count r.text) before → Puts r failed before now status.WriteFault
  nothing : now ≡ before → Puts r failed before now status.Memory

-- the told contents with a file that was written
abbrev pub with_file : ProofFile → Option Contents → Option Contents
with_file file = option_map (λ contents. insert contents file.name file.bytes)

-- what becomes of a report, by what the files hold before and after it, and what is put: where it has a file for a proof that is written first, and the
-- text is put only then; `spoilt` says that a write failed in this run, and `failed` that a put did
pub data Delivers (r : Report) (spoilt failed : Type 0) (files after : Option Contents) (before now : Option (List ℕ)) : Status → Type 0 where
  only_put : (s : Status) → r.proof ≡ None → after ≡ files → Puts r failed before now s → Delivers r spoilt failed files after before now s
  proof_first : (file : ProofFile) (s : Status) → r.proof ≡ Some file → after ≡ with_file file files → Puts r failed before now s → Delivers r spoilt failed files after before now s
  proof_fails : (file : ProofFile) (s : Status) → r.proof ≡ Some file → spoilt → IsSameBut file.name files after → Puts (report status.WriteFault (write_fault_line file.name)) failed before now s
      → Delivers r spoilt failed files after before now s
  proof_wants : (file : ProofFile) → r.proof ≡ Some file → after ≡ files → now ≡ before → Delivers r spoilt failed files after before now status.Memory

-- how a run ends: with the report of its words, or for want of memory, with nothing written and nothing put
pub data Ends (words : List (List ℕ)) (files after : Option Contents) (reads : List Read → Type 0) (spoilt failed : Type 0) (before now : Option (List ℕ)) : Status → Type 0 where
  reported : (r : Report) (s : Status) → Reports words files reads r → Delivers r spoilt failed files after before now s → Ends words files after reads spoilt failed before now s
  no_memory : after ≡ files → now ≡ before → Ends words files after reads spoilt failed before now status.Memory

-- the first reads of this run, of both files, handed out texts, these have programs, and the programs are a pair of which this holds
pub record HoldAPair (files : Option Contents) (reads : List Read → Type 0) (a b : List ℕ) (Is : List Read → Pair → Type 0) : Type 0 where
  pub first : List ℕ
  pub second : List ℕ
  pub more : List Read
  pub are_read : reads (source_read a (handed_out first) ∷ source_read b (handed_out second) ∷ more)
  pub holds_first : Holds files a first
  pub holds_second : Holds files b second
  pub pair : Pair
  pub are : ArePaired first second pair
  pub is : Is more pair

-- each output of the pair is the same
abbrev pub IsTheSame : Pair → Type 0
IsTheSame pair = (output : ℕ) → Contains pair.outputs output → SameOutput pair output

-- the bytes that the parts of a proof file handed out are those of a proof of the pair that is accepted, and each output that it names is the same
pub record AreAccepted (files : Option Contents) (p : List ℕ) (parts : List Read) (pair : Pair) : Type 0 where
  pub stream : List ℕ
  pub is_stream : IsStream files p parts stream
  pub left : Model
  pub right : Model
  pub are_models : AreModels pair left right
  pub outputs : Vec ℕ Global
  pub is_checked : IsAnswer (pairing_of pair left right) pair.outputs stream (Ok outputs)
  pub same : AllByRecursion (SameOutput pair) outputs.items

-- the first read of this run, of the file, handed out the text of a program of which this holds
pub record HoldsAProgram (files : Option Contents) (reads : List Read → Type 0) (a : List ℕ) (Is : List Read → Program → Type 0) : Type 0 where
  pub bytes : List ℕ
  pub more : List Read
  pub is_read : reads (source_read a (handed_out bytes) ∷ more)
  pub holds : Holds files a bytes
  pub program : Program
  pub is_program : IsProgramOf bytes program
  pub is : Is more program

-- the read of the file handed out the text of a schedule of the program that keeps the order of what conflicts, so that it reorders the program to the same
pub record HoldsAKeptOrder (files : Option Contents) (s : List ℕ) (more : List Read) (program : Program) : Type 0 where
  pub spelled : List ℕ
  pub is_read : more ≡ source_read s (handed_out spelled) ∷ []
  pub holds : Holds files s spelled
  pub times : List (List Affine)
  pub spells : Spells (lowered program) spelled times
  pub keeps : ScheduleKeepsOrder times program program.context
  pub reorders : ReordersToTheSame times program

-- the read of the file handed out the text of a schedule of the program; at a valuation its order is broken between two instances
pub record HoldsABrokenOrder (files : Option Contents) (s : List ℕ) (more : List Read) (program : Program) : Type 0 where
  pub spelled : List ℕ
  pub is_read : more ≡ source_read s (handed_out spelled) ∷ []
  pub holds : Holds files s spelled
  pub times : List (List Affine)
  pub spells : Spells (lowered program) spelled times
  pub at : List ℤ
  pub first : ℕ
  pub counters : List ℤ
  pub second : ℕ
  pub others : List ℤ
  pub breaks : BreaksAt program program.context times at first counters second others

-- for `prove` each output is the same, for `check` each that the proof names, and for `instance` each is the same at the valuation; for
-- `flow` each read has its sources; for `gen` the output of the pair of the seed is the same; for `legal` the order is kept, so that the program is
-- reordered to the same; and for `aprove` each output is the same under chains
abbrev pub AreTheSame : Option Contents → (List Read → Type 0) → Asked → Type 0
AreTheSame files reads (prove a b budget proof) = HoldAPair files reads a b (λ more. IsTheSame)
AreTheSame files reads (check_of a b p) = HoldAPair files reads a b (AreAccepted files p)
AreTheSame files reads (instance_of a b at limit) = HoldAPair files reads a b (λ more pair. IsTheSameAt pair at)
AreTheSame files reads (flow_of a) = HoldsAProgram files reads a (λ more program. (flow : Flow) × IsFlowOf program flow)
AreTheSame files reads (gen_of seed stages) = (pair : Pair) × IsGeneratedPair seed stages pair × IsTheSame pair
AreTheSame files reads (legal_of a s) = HoldsAProgram files reads a (HoldsAKeptOrder files s)
AreTheSame files reads (aprove_of a b names) = HoldAPair files reads a b (λ more. AreSameUnderChains names)

-- where all is done, a command was asked, and what it compares is the same, or what it tells is so
abbrev pub DoneMeansTheSame : List (List ℕ) → Option Contents → (List Read → Type 0) → Status → Type 0
DoneMeansTheSame words files reads s = s ≡ status.Done → (asked : Asked) × IsCommand words asked × AreTheSame files reads asked

-- for `prove` and `gen` the terms of both programs do not agree in some element of an output, at some valuation of the context; for `legal` the order
-- is broken between two instances
abbrev pub AreDifferent : Option Contents → (List Read → Type 0) → Asked → Type 0
AreDifferent files reads (prove a b budget proof) = HoldAPair files reads a b (λ more. HasDifference)
AreDifferent files reads (check_of a b p) = Unit {0}
AreDifferent files reads (instance_of a b at limit) = Unit {0}
AreDifferent files reads (flow_of a) = Unit {0}
AreDifferent files reads (gen_of seed stages) = (pair : Pair) × IsGeneratedPair seed stages pair × HasDifference pair
AreDifferent files reads (legal_of a s) = HoldsAProgram files reads a (HoldsABrokenOrder files s)
AreDifferent files reads (aprove_of a b names) = Unit {0}

-- where something is different, what the command that was asked compares is
abbrev pub DifferentMeansDifferent : List (List ℕ) → Option Contents → (List Read → Type 0) → Status → Type 0
DifferentMeansDifferent words files reads s = s ≡ status.Different → (asked : Asked) → IsCommand words asked → AreDifferent files reads asked

-- the words ask for a proof in this file, and these bytes show which outputs of the pair are equal
pub record AsksFor (words : List (List ℕ)) (files : Option Contents) (reads : List Read → Type 0) (file : ProofFile) : Type 0 where
  pub a : List ℕ
  pub b : List ℕ
  pub budget : ℕ
  pub is : IsCommand words (prove a b budget (Some file.name))
  pub shows : HoldAPair files reads a b (λ more pair. ShowsEqual pair file.bytes)

-- what the files hold after a run: what they held before; but where the words ask for a proof and some output is equal its file holds such a proof, or
-- anything where a write failed in this run
pub data KeepsFiles (words : List (List ℕ)) (spoilt : Type 0) (files after : Option Contents) (reads : List Read → Type 0) : Type 0 where
  kept : after ≡ files → KeepsFiles words spoilt files after reads
  proof_written : (file : ProofFile) → AsksFor words files reads file → after ≡ with_file file files → KeepsFiles words spoilt files after reads
  proof_spoilt : (file : ProofFile) → AsksFor words files reads file → spoilt → IsSameBut file.name files after → KeepsFiles words spoilt files after reads

-- the words ask for a file with a proof
abbrev pub AskForAProof : List (List ℕ) → Type 0
AskForAProof words = (a b : List ℕ) × (budget : ℕ) × (p : List ℕ) × IsCommand words (prove a b budget (Some p))
