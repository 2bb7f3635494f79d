-- The parts of a plan, as the code makes it.
use Rattle.std.specs.Prelude.{◌≡◌, ◌<◌, ◌≤◌, ⊤, ℕ, ◌+◌, Bool, false, List, length, map, get_or, sum_by, None, Some, IfSome, Result, Ok, Err}
use Rattle.std.specs.List.{All}
use Rattle.mkv_io.specs.LiveFiles.{LiveFiles}
use Rattle.mkv_schema.specs.declared.ids.TheConstants.{INFO, TRACKS, CHAPTERS, TAGS}
use Rattle.output_model.specs.declared.TheConstants.{MAX_LANES}
use Rattle.output_model.specs.Attached.{attached_file}
use Rattle.output_model.specs.declared.attachment.Attachment.{Attachment}
use Rattle.output_model.specs.Sound.{IsRecord}
use Rattle.output_records.specs.Inputs.{IsAttached}
use Rattle.output_model.specs.Front.{front_with}
use Rattle.merge_model.specs.FileLinks.{octets_in, given_in, IsOpenLink, IsToldLink, IsSmallLink}
use Rattle.merge_model.specs.declared.link.Link.{Link}
use Rattle.merge_model.specs.declared.link.Link.TheVariants.{Track, Entries}
use Rattle.lanes.specs.Walks.{files_length}
use Rattle.splitter.specs.Words.{size_of}
use Rattle.remux_plan.specs.Parts.{drivers_of}
use Rattle.remux_plan.specs.Plan.{links_of, rules_of}
use Rattle.remux_plan.specs.declared.plan.MergePlan.{MergePlan}
use Rattle.remux_plan.specs.declared.plan.PlannedLane.{PlannedLane}
use Rattle.requests.specs.declared.merge.MergeWords.{MergeWords}
use Rattle.merge_inputs.specs.Input.{IsInput, read_in}
use Rattle.merge_inputs.specs.declared.input.Input.{Input}
use Rattle.merge_plan.specs.declared.refusal.PlanEnd.{PlanEnd}
use Rattle.merge_plan.specs.declared.refusal.PlanEnd.TheVariants.{Refused, Memory}
use Rattle.merge_plan.specs.declared.outputs.OutputRecords.{OutputRecords}
use Rattle.merge_plan.specs.Records.{chapters_of, tags_of, tracks_of_output}
use Rattle.merge_plan.specs.Identifiers.{Have64Bits, identifiers_of}
use Rattle.merge_plan.specs.Front.{attachments_of, attached_length, front_of}
use Rattle.merge_plan.specs.Plan.{Source, drives_given, inputs_taken, lanes_taken, limits_of, rules_given, split_given}
use Rattle.merge_plan.specs.Refusal.{plan_refusal}

-- the source of the opened input `i`: its content among the live files `f`, and its data before the blocks. Contracts of the plan use it. Used by
-- `EndsAt`, `end_behind` and others.
abbrev pub source_in : LiveFiles → Input → Source
source_in f i = (octets_in f i.file.n, read_in i)

-- The content of the file of the input `i`, live in `f`, is visible to the proof. Contracts of the plan depend on it. Used by `EndsAt`, `IsBehind`
-- and others.
abbrev pub IsToldInput : LiveFiles → Input → Type 0
IsToldInput f i = f.content i.file.n ≡ Some (octets_in f i.file.n)

-- ---- the records of an output

-- The records `r` are the output's for `inputs`. `order` gives the order of the output tracks. If the contents of files are visible to the proof, its
-- attached files have their data. The data have the lengths that the inputs give. Used by the contract of `output_of`.
pub record AreRecordsOf (order : List (ℕ × ℕ)) (inputs : List Input) (r : OutputRecords) : Type 0 where
  pub tracks : r.tracks ≡ tracks_of_output order (map read_in inputs)
  pub attachments : (f : LiveFiles) → All (IsToldInput f) inputs → map (attached_file f) r.attachments ≡ attachments_of (map (source_in f) inputs)
  pub octets : sum_by (λ (a : Attachment). a.len) r.attachments ≡ attached_length (map read_in inputs)
  pub chapters : r.chapters ≡ chapters_of (map read_in inputs)
  pub tags : r.tags ≡ tags_of order (map read_in inputs)

-- The data of the attached file `a` are in the file of one of `inputs`. A condition for `merge` to copy them.
pub record StandsInInput (inputs : List Input) (a : Attachment) : Type 0 where
  pub number : ℕ
  pub input : Input
  pub inside : number < length inputs
  pub is : input ≡ get_or inputs number input
  pub same : a.file ≡ input.file
  pub within : a.at + a.len ≤ input.len

-- The records `r` of the output for `inputs` can be written and read again, and its identifiers have 64 bits. `order` gives the order of the output
-- tracks. Used by the contract of `output_of`.
pub record AreSound (order : List (ℕ × ℕ)) (inputs : List Input) (r : OutputRecords) : Type 0 where
  pub tracks : IsRecord TRACKS r.tracks
  pub attachments : All IsAttached r.attachments
  pub files : All (StandsInInput inputs) r.attachments
  pub chapters : IfSome r.chapters (IsRecord CHAPTERS)
  pub tags : IfSome r.tags (IsRecord TAGS)
  pub numbers : Have64Bits (identifiers_of order (map read_in inputs))

-- The result of planning the records of the output: the records for `inputs`, which `words` doesn't refuse, or the refusal. Memory may run out. Used
-- by the contract of `records_for`.
abbrev pub GivesRecords : MergeWords → List Input → Result OutputRecords PlanEnd → Type 0
GivesRecords words inputs (Ok r) = (plan_refusal words (map read_in inputs) ≡ None) × AreRecordsOf words.order inputs r
GivesRecords words inputs (Err (Refused why)) = plan_refusal words (map read_in inputs) ≡ Some why
GivesRecords words inputs (Err Memory) = ⊤

-- ---- the plan

-- The plan `p` is the one for the options `words` and the inputs `inputs`. It has the output's name, the rule for cuts, the limits of Clusters, and
-- the segment identifiers. It has the records before and after the Clusters, with the attached files, and its Info gets a Duration exactly with
-- `--duration`. It has the output tracks, each with its links, the numbers of their inputs, and its rules for cue points and cuts. It is the result
-- of `plan_of`.
pub record IsPlanOf (words : MergeWords) (inputs : List Input) (p : MergePlan) : Type 0 where
  pub output : p.output ≡ words.output
  pub split : p.split ≡ split_given words (map read_in inputs)
  pub size : p.size ≡ size_of words.split
  pub uuids : p.uuids ≡ words.uuids
  pub link : p.link ≡ words.link
  pub limits : p.limits ≡ limits_of words
  pub front : (f : LiveFiles) → All (IsToldInput f) inputs → front_with f p.front ≡ front_of words (map (source_in f) inputs)
  pub duration : p.front.duration ≡ words.duration
  pub octets : sum_by (λ (a : Attachment). a.len) p.front.attachments ≡ attached_length (map read_in inputs)
  pub chapters : p.chapters ≡ chapters_of (map read_in inputs)
  pub tags : p.tags ≡ tags_of words.order (map read_in inputs)
  pub lanes : (f : LiveFiles) → map (map (given_in f)) (links_of p.lanes) ≡ lanes_taken words (map (source_in f) inputs)
  pub numbers : map (λ (l : PlannedLane). l.inputs) p.lanes ≡ inputs_taken words.order (map read_in inputs)
  pub rules : rules_of p.lanes ≡ rules_given words.order (map read_in inputs)
  pub drives : drivers_of p.lanes ≡ drives_given words.order (map read_in inputs)

-- The result of planning the merge `words`: the plan for `inputs`, which aren't refused, or the refusal. Memory may run out. Used by the contract of
-- `plan_of`.
abbrev pub Plans : MergeWords → List Input → Result MergePlan PlanEnd → Type 0
Plans words inputs (Ok p) = (plan_refusal words (map read_in inputs) ≡ None) × IsPlanOf words inputs p
Plans words inputs (Err (Refused why)) = plan_refusal words (map read_in inputs) ≡ Some why
Plans words inputs (Err Memory) = ⊤

-- ---- facts of every plan

-- `P` holds for each link of each output track of the plan `p`. Used by `CanBeWritten`.
abbrev pub AllLinks : (Link → Type 0) → MergePlan → Type 0
AllLinks P p = All (All P) (links_of p.lanes)

-- The link doesn't read a live file for whose number `test` is true, such as a file that is written. Used by `CanBeWritten`.
abbrev pub IsSparedLink : (ℕ → Bool) → Link → Type 0
IsSparedLink test (Track t) = test t.file.n ≡ false
IsSparedLink test (Entries e) = ⊤

-- The output track `l` has at most one link for each of `inputs`, and a number of an input for each link. Used by `CanBeWritten`.
pub record IsLinked (inputs : List Input) (l : PlannedLane) : Type 0 where
  pub few : length l.spec.links ≤ length inputs
  pub numbered : length l.inputs ≡ length l.spec.links

-- The plan `p` for `inputs` can be carried out. It has at most 64 output tracks, each with at most one link for each input. Each link reads the file
-- of an input and is within its limits. The records of the output can be read again, and the data of attached files are in the inputs. Its
-- identifiers have 64 bits; `order` gives the order of its tracks. Used by the contract of `plan_of`.
pub record CanBeWritten (order : List (ℕ × ℕ)) (inputs : List Input) (p : MergePlan) : Type 0 where
  pub few : length p.lanes ≤ MAX_LANES
  pub linked : All (IsLinked inputs) p.lanes
  pub once : (f : LiveFiles) → All (λ (l : PlannedLane). files_length f l.spec.links ≤ sum_by (λ (i : Input). f.size i.file.n) inputs) p.lanes
  pub small : AllLinks IsSmallLink p
  pub is_open : (f : LiveFiles) → All (IsInput f) inputs → AllLinks (IsOpenLink f) p
  pub told : (f : LiveFiles) → All (IsToldInput f) inputs → AllLinks (IsToldLink f) p
  pub apart : (test : ℕ → Bool) → All (λ (i : Input). test i.file.n ≡ false) inputs → AllLinks (IsSparedLink test) p
  pub info : IsRecord INFO p.front.info
  pub tracks : IsRecord TRACKS p.front.tracks
  pub attachments : All IsAttached p.front.attachments
  pub files : All (StandsInInput inputs) p.front.attachments
  pub chapters : IfSome p.chapters (IsRecord CHAPTERS)
  pub tags : IfSome p.tags (IsRecord TAGS)
  pub numbers : Have64Bits (identifiers_of order (map read_in inputs))
