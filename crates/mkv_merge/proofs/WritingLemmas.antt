-- A prepared merge can be written, and its plan is made from its sources.
use Rattle.std.proofs.Common.{◌≡◌, ◌≢◌, ℕ, ◌+◌, ◌*◌, ◌<◌, ◌≤◌, Bool, true, false, ◌||◌, List, [], ◌∷◌, length, map, get_or, Option, Some, None, Result, Ok, Err, IfOk, IfSome, refl, sym, ◌∙◌, ap, ap₂, subst, arith}
use Rattle.std.specs.List.{All, enumerate_from, sum_by, zip}
use Rattle.std.proofs.Math.ListN.{get_or-map}
use Rattle.std.proofs.lemmas.List.{length-append, length-map}
use Rattle.std.proofs.lemmas.List.Elements.{All-map}
use Rattle.std.proofs.lemmas.List.FromFn.{length-enumerate_from}
use Rattle.std.proofs.lemmas.List.Sums.{sum_by-le}
use Rattle.mkv_io.specs.declared.outside.FileId.{FileId}
use Rattle.mkv_io.specs.LiveFiles.{LiveFiles}
use Rattle.mkv_io.specs.Sources.{IsLive, live_files}
use Rattle.mkv_io.specs.declared.files.Files as writing
use Rattle.mkv_io.specs.declared.reads.Reads.{Ghosts}
use Rattle.mkv_schema.specs.declared.ids.TheConstants.{CHAPTERS, TAGS}
use Rattle.tree_format.specs.Node.{Node, id_of}
use Rattle.output_model.specs.Attached.{attached_file, data_of}
use Rattle.output_model.specs.declared.attachment.Attachment.{Attachment}
use Rattle.output_records.specs.Inputs.{IsAttached}
use Rattle.output_model.specs.Sound.{IsRecord}
use Rattle.output_model.specs.Document.{Front}
use Rattle.output_model.specs.OutputBlock.{OutputBlock}
use Rattle.output_model.specs.declared.heads.ClusterLimits.{ClusterLimits}
use Rattle.merge_model.specs.Lanes.{lane_blocks}
use Rattle.merge_model.specs.Links.{Given, going_on}
use Rattle.merge_model.specs.Merged.{merged}
use Rattle.merge_model.specs.FileLinks.{given_in, IsOpenLink, IsSmallLink, IsToldLink}
use Rattle.merge_model.specs.declared.link.Link.{Link}
use Rattle.lanes.specs.Walks as walks
use Rattle.merge_model.specs.FileLinks.{lanes_over}
use Rattle.cues_seekhead.specs.OpenOutput.{CanAttach}
use Rattle.remux_plan.specs.Plan as planned
use Rattle.remux_plan.specs.Plan.{links_of}
use Rattle.remux_plan.specs.declared.TheConstants.{MAX_INPUTS, MAX_SCALE}
use Rattle.remux_plan.specs.declared.plan.MergePlan.{MergePlan}
use Rattle.remux_plan.specs.declared.plan.PlannedLane.{PlannedLane}
use Rattle.remuxer.specs.Plan.{IsPlan, IsToldPlan, data_length, inputs_length}
use Rattle.requests.specs.declared.merge.MergeWords.{MergeWords}
use Rattle.input_files.specs.Inputs.{AreInputs}
use Rattle.merge_inputs.specs.Input.{InputRead, IsInput, read_in}
use Rattle.merge_inputs.specs.declared.input.Input.{Input}
use Rattle.merge_inputs.specs.declared.taken.TakenTrack.{TakenTrack}
use Rattle.merge_plan.specs.Plan.{Source, inputs_given, inputs_taken, lanes_given, lanes_ordered, lanes_taken, numbers_of}
use Rattle.merge_plan.specs.Planned.{CanBeWritten, StandsInInput, IsSparedLink, IsPlanOf, IsToldInput, source_in}
use Rattle.merge_plan.specs.Front.{attached_length, attachments_of, reads_of}
use Rattle.merge_plan.specs.Identifiers.{Have64Bits, identifiers_of}
use Rattle.merge_plan.specs.Records.{chapters_of, is_appended, tags_of}
use Rattle.merge_plan.proofs.AttachedLemmas.{attached-bare, taken-bare}
use Rattle.merge_plan.proofs.ChainLemmas.{lanes-few, numbers-below}
use Rattle.merge_plan.proofs.FileLemmas.{reads-in}
use Rattle.merge_plan.proofs.OrderedLemmas.{lanes-ordered-count, ordered-all}
use Rattle.mkv_lines.specs.declared.status.Status.{Status}
use Rattle.mkv_lines.specs.declared.status.CommandEnd.{CommandEnd}
use Rattle.mkv_merge.specs.Bound.{files_size}
use Rattle.mkv_merge.specs.Merge.{blocks_of}
use Rattle.mkv_merge.specs.Attached.{attached_reads}
use Rattle.mkv_merge.specs.Opened.{opened_names}
use Rattle.mkv_merge.specs.Prepared.{AreOwnAndAttached, AreTold, IsPrepared, reads_in}
use Rattle.mkv_merge.specs.Records.{AreShort, EndsReadable, HaveRecords, IsFilled}
use Rattle.mkv_merge.specs.declared.preparing.Prepared.{Prepared}
use Rattle.mkv_merge.specs.declared.refusal.Refusal.{Refusal}
use Rattle.mkv_merge.proofs.PreparingLemmas.{each-told, inputs-size, sources-told, told-contents}
use Rattle.mkv_merge.proofs.SummaryLemmas.{AreLanesFor}
use Rattle.std.specs.Prelude.{is_some}
use Rattle.splitter.specs.declared.spec.SplitSpec.{SplitSpec}
use Rattle.splitter.specs.Words.{size_of, spec_of}
use Rattle.requests.specs.Sound.{IsSoundSplit}
use Rattle.requests.specs.declared.split.SplitWords.{SplitWords}
use Rattle.requests.specs.declared.split.SplitWords.TheVariants as split_words
use Rattle.remux_plan.specs.Parts.{is_timed, may_be_written, name_of}
use Rattle.remux_plan.specs.Parts.{is_split as planned_split}
use Rattle.remuxer.specs.Output.{IsUnwrittenLink}
use Rattle.remuxer.specs.Places.{IsLimit}
use Rattle.remuxer.proofs.OutputsLemmas.{named-so}
use Rattle.merge_plan.proofs.RecordLemmas.{read-record}
use Rattle.merge_plan.specs.Plan.{starts_in}
use Rattle.merge_model.specs.declared.link.Link.TheVariants.{Track, Entries}
use Rattle.mkv_outputs.specs.Sinks.{holders_of}
use Rattle.mkv_merge.specs.Read.{IsApartMerge, first_written, is_split}
use Rattle.mkv_merge.proofs.NamesLemmas.{unwritten-held}

-- ---- conditions on the plan

-- A fact about each image of a list holds for each item.
All-unmap : {A B : Type 0} (P : B → Type 0) (f : A → B) (xs : List A) → All P (map f xs) → All (λ (x : A). P (f x)) xs
All-unmap P f xs all = λ k d below. subst P (get_or-map f xs k d) (all k (f d) (omega (arith, length-map xs f)))

-- There is an input for each file on the command line, at least.
pub many-inputs : (words : MergeWords) (inputs : List Input) → AreOwnAndAttached words inputs → length words.files ≤ length inputs
many-inputs words inputs both =
    let attached : List InputRead = attached_reads words.webm words.attached both.sizes in
    omega (arith, both.many, sym (length-map inputs read_in), ap length both.are, length-append {A = InputRead} both.own attached)

-- The numbers of the inputs of each output track are small and few: attached files are in none.
begun-small : (reads : List InputRead) → length reads ≤ MAX_INPUTS → All (All (λ (i : ℕ). i < MAX_INPUTS)) (inputs_given 0 reads)
begun-small reads few =
    numbers-below (λ (each : ℕ × InputRead). is_appended each.1) numbers_of (λ each. All-map (λ m. m ≡ each.0) (λ (t : TakenTrack). each.0) each.1.taken (λ k d below. refl)) 0 MAX_INPUTS reads (omega arith)

numbers-small : (order : List (ℕ × ℕ)) (reads : List InputRead) → length reads ≤ MAX_INPUTS → All (All (λ (i : ℕ). i < MAX_INPUTS)) (inputs_taken order reads)
numbers-small order reads few = ordered-all (All (λ (i : ℕ). i < MAX_INPUTS)) order reads (inputs_given 0 reads) (begun-small reads few)

begun-few : (reads : List InputRead) → All (λ (lane : List ℕ). length lane ≤ length reads) (inputs_given 0 reads)
begun-few reads =
    subst (λ (n : ℕ). All (λ (lane : List ℕ). length lane ≤ n) (inputs_given 0 reads)) (length-enumerate_from 0 reads)
    (lanes-few (λ (each : ℕ × InputRead). is_appended each.1) numbers_of (enumerate_from 0 reads))

numbers-few : (order : List (ℕ × ℕ)) (reads : List InputRead) → All (λ (lane : List ℕ). length lane ≤ length reads) (inputs_taken order reads)
numbers-few order reads = ordered-all (λ (lane : List ℕ). length lane ≤ length reads) order reads (inputs_given 0 reads) (begun-few reads)

numbers-own : (words : MergeWords) (inputs : List Input) (both : AreOwnAndAttached words inputs) → inputs_taken words.order (reads_in inputs) ≡ inputs_taken words.order both.own
numbers-own words inputs both =
    ap (inputs_taken words.order) both.are ∙ taken-bare words.order both.own (attached_reads words.webm words.attached both.sizes) (attached-bare words.webm (zip words.attached both.sizes))

-- A record has its ID, if it is present.
pub record-id : (own : ℕ) (n : Option Node) → IfSome n (IsRecord own) → IfSome n (λ (m : Node). id_of m ≡ own)
record-id own None is = tt
record-id own (Some m) is = is.id

-- An attached file is in the live file of an input, which wasn't opened under the name of the first output.
file-good : {S : Type 0} (r : Ghosts S) (f : writing.Ghosts S) (files : S) (split : Bool) (output : List ℕ) (inputs : List Input) (a : Attachment) → All (IsInput (live_files r files)) inputs → All (λ (i : Input). may_be_written split output (f.holder files i.file.n) ≡ false) inputs
    → IsAttached a → StandsInInput inputs a → CanAttach r f files (name_of split output 1) a
file-good r f files split output inputs a good others entry is =
    let now = live_files r files in
    let input : IsInput now is.input = subst (IsInput now) (sym is.is) (good is.number is.input is.inside) in
    let other : may_be_written split output (f.holder files is.input.file.n) ≡ false = subst (λ (i : Input). may_be_written split output (f.holder files i.file.n) ≡ false) (sym is.is) (others is.number is.input is.inside) in
    let within : a.at + a.len ≤ now.size is.input.file.n = subst (λ (n : ℕ). a.at + a.len ≤ n) input.len is.within in
    let first : may_be_written split output (name_of split output 1) ≡ true = named-so split output 1 (omega arith) in
    record {
      id = entry.is.id;
      master = entry.is.master;
      live = subst (λ (file : FileId). IsLive r files file) (sym is.same) input.live;
      inside = subst (λ (file : FileId). a.at + a.len ≤ now.size file.n) (sym is.same) within;
      apart = subst (λ (file : FileId). f.holder files file.n ≢ name_of split output 1) (sym is.same) (λ same. let may : may_be_written split output (f.holder files is.input.file.n) ≡ true = ap (may_be_written split output) same ∙ first in absurd (cc (may, other)));
    }

-- No file of a link was opened under a name that may be written.
unwritten : (holder : ℕ → List ℕ) (split : Bool) (output : List ℕ) (link : Link) → IsSparedLink (λ file. may_be_written split output (holder file)) link → IsUnwrittenLink holder split output link
unwritten holder split output (Track t) is = is
unwritten holder split output (Entries e) is = tt

-- A plan is split if and only if the command line splits.
split-as : (words : Option SplitWords) (starts : List ℕ) → (is_timed (spec_of words starts) || is_some (size_of words)) ≡ is_some words
split-as None starts = refl
split-as (Some (split_words.Duration by)) starts = refl
split-as (Some (split_words.Times at)) starts = refl
split-as (Some (split_words.Parts spans)) starts = refl
split-as (Some split_words.AllChapters) starts = refl
split-as (Some (split_words.Chapters numbers)) starts = refl
split-as (Some (split_words.Size limit)) starts = refl

pub plan-split : (words : MergeWords) (inputs : List Input) (p : MergePlan) → IsPlanOf words inputs p → planned_split p ≡ is_split words
plan-split words inputs p plan =
    ap₂ (λ (spec : SplitSpec) (size : Option ℕ). is_timed spec || is_some size) plan.split plan.size ∙ split-as words.split (starts_in (chapters_of (map read_in inputs)))

-- A load at which parts end has 64 bits, and then no part ends at a time.
limit-of : (words : Option SplitWords) (starts : List ℕ) → IfSome words IsSoundSplit → IfSome (size_of words) (IsLimit (spec_of words starts))
limit-of None starts sound = tt
limit-of (Some (split_words.Duration by)) starts sound = tt
limit-of (Some (split_words.Times at)) starts sound = tt
limit-of (Some (split_words.Parts spans)) starts sound = tt
limit-of (Some split_words.AllChapters) starts sound = tt
limit-of (Some (split_words.Chapters numbers)) starts sound = tt
limit-of (Some (split_words.Size limit)) starts sound = record { fits = omega (arith, sound.most); whole = refl }

-- No input was opened under such a name.
inputs-unwritten : (holder : ℕ → List ℕ) (words : MergeWords) (ids : List FileId) (p : Prepared) → holders_of holder ids ≡ opened_names words → first_written words ≡ None → map (λ (i : Input). i.file) p.inputs ≡ ids → IsPlanOf words p.inputs p.plan
    → All (λ (i : Input). may_be_written (planned_split p.plan) p.plan.output (holder i.file.n) ≡ false) p.inputs
inputs-unwritten holder words ids p under apart of plan =
    let P : Bool → List ℕ → FileId → Type 0 = λ split output file. may_be_written split output (holder file.n) ≡ false in
    let held : All (P (is_split words) words.output) ids = unwritten-held holder ids words under apart in
    let split : All (P (planned_split p.plan) words.output) ids = subst (λ (s : Bool). All (P s words.output) ids) (sym (plan-split words p.inputs p.plan plan)) held in
    let named : All (P (planned_split p.plan) p.plan.output) ids = subst (λ (output : List ℕ). All (P (planned_split p.plan) output) ids) (sym plan.output) split in
    All-unmap (P (planned_split p.plan) p.plan.output) (λ (i : Input). i.file) p.inputs (subst (All (P (planned_split p.plan) p.plan.output)) (sym of) named)

-- A prepared merge can be written.
pub plan-good : {S : Type 0} (r : Ghosts S) (f : writing.Ghosts S) (files : S) (words : MergeWords) (ids : List FileId) (p : Prepared) → IsApartMerge words → AreInputs r f (opened_names words) files ids → IsPrepared (live_files r files) words ids p → IsPlan r f files p.plan
plan-good {S = S} r f files words ids p is opened prepared =
    let sound = is.sound in
    let plan = prepared.plan in
    let written = prepared.written in
    let lanes : List PlannedLane = p.plan.lanes in
    let split : Bool = planned_split p.plan in
    let own : List InputRead = prepared.both.own in
    let numbers : map (λ (l : PlannedLane). l.inputs) lanes ≡ inputs_taken words.order own = plan.numbers ∙ numbers-own words p.inputs prepared.both in
    let few : All (λ (l : PlannedLane). length l.inputs ≤ length own) lanes =
    All-unmap (λ (numbers : List ℕ). length numbers ≤ length own) (λ (l : PlannedLane). l.inputs) lanes (subst (All (λ (lane : List ℕ). length lane ≤ length own)) (sym numbers) (numbers-few words.order own)) in
    let test : ℕ → Bool = λ file. may_be_written split p.plan.output (f.holder files file) in
    let others : All (λ (i : Input). test i.file.n ≡ false) p.inputs = inputs-unwritten (f.holder files) words ids p opened.under is.apart prepared.inputs.of plan in
    record {
      scale = subst (λ (l : ClusterLimits). 1 ≤ l.scale) (sym plan.limits) (omega (arith, sound.scale.least));
      scale_most = subst (λ (l : ClusterLimits). l.scale ≤ MAX_SCALE) (sym plan.limits) (omega (arith, sound.scale.most));
      few = written.few;
      lanes = λ k d below. record {
        few = omega (arith, (written.linked k d below).numbered, few k d below, prepared.both.many, sound.files.most);
        small = All-unmap (All IsSmallLink) (λ (l : PlannedLane). l.spec.links) lanes written.small k d below;
        live = All-unmap (All (IsOpenLink (live_files r files))) (λ (l : PlannedLane). l.spec.links) lanes (written.is_open (live_files r files) prepared.inputs.good) k d below;
        apart = λ j e inside. unwritten (f.holder files) split p.plan.output (get_or (get_or lanes k d).spec.links j e)
            (All-unmap (All (IsSparedLink test)) (λ (l : PlannedLane). l.spec.links) lanes (written.apart test others) k d below j e inside);
        numbered = (written.linked k d below).numbered;
        inputs = All-unmap (All (λ (i : ℕ). i < MAX_INPUTS)) (λ (l : PlannedLane). l.inputs) lanes (subst (All (All (λ (i : ℕ). i < MAX_INPUTS))) (sym numbers) (numbers-small words.order own (omega (arith, prepared.both.many, sound.files.most)))) k d below;
      };
      records = record {
        info = written.info.id;
        info_master = written.info.master;
        tracks = record { id = written.tracks.id; sound = written.tracks.sound };
        attached = λ k d below. file-good r f files split p.plan.output p.inputs (get_or p.plan.front.attachments k d) prepared.inputs.good others (written.attachments k d below) (written.files k d below);
        chapters = read-record CHAPTERS p.plan.chapters written.chapters;
        tags = record-id TAGS p.plan.tags written.tags;
      };
      limit =
          subst (λ (o : Option ℕ). IfSome o (IsLimit p.plan.split)) (sym plan.size)
          (subst (λ (spec : SplitSpec). IfSome (size_of words.split) (IsLimit spec)) (sym plan.split) (limit-of words.split (starts_in (chapters_of (map read_in p.inputs))) sound.split));
    }

-- ---- visible files

-- The files of the links are visible to the proof.
pub plan-told : (f : LiveFiles) (words : MergeWords) (ids : List FileId) (contents : List (List ℕ)) (p : Prepared) → IsPrepared f words ids p → AreTold f ids contents → IsToldPlan f p.plan
plan-told f words ids contents p prepared told =
    All-unmap (All (IsToldLink f)) (λ (l : PlannedLane). l.spec.links) p.plan.lanes
    (prepared.written.told f (each-told f p.inputs contents (told-contents f ids contents p.inputs prepared.inputs.of told)))

-- ---- the plan and its sources

-- The plan `p` is made from the command line and from `sources`, whose files are visible to the proof.
pub record IsMergeOf (f : LiveFiles) (words : MergeWords) (inputs : List Input) (p : MergePlan) (sources : List Source) : Type 0 where
  pub plan : IsPlanOf words inputs p
  pub split : planned_split p ≡ is_split words
  pub from : map (source_in f) inputs ≡ sources
  pub told : All (IsToldInput f) inputs

pub merge-is : (f : LiveFiles) (words : MergeWords) (ids : List FileId) (contents : List (List ℕ)) (p : Prepared) → IsPrepared f words ids p → AreTold f ids contents → IsMergeOf f words p.inputs p.plan (zip contents (reads_in p.inputs))
merge-is f words ids contents p prepared told = record {
  plan = prepared.plan;
  split = plan-split words p.inputs p.plan prepared.plan;
  from = sources-told f p.inputs contents (told-contents f ids contents p.inputs prepared.inputs.of told);
  told = each-told f p.inputs contents (told-contents f ids contents p.inputs prepared.inputs.of told);
}

-- The results of reading the sources.
pub reads-are : (f : LiveFiles) (words : MergeWords) (inputs : List Input) (p : MergePlan) (sources : List Source) → IsMergeOf f words inputs p sources → reads_of sources ≡ reads_in inputs
reads-are f words inputs p sources is = ap reads_of (sym is.from) ∙ reads-in f inputs

pub lanes-for : (f : LiveFiles) (words : MergeWords) (inputs : List Input) (p : MergePlan) (sources : List Source) → IsMergeOf f words inputs p sources → AreLanesFor f words sources p.lanes
lanes-for f words inputs p sources is = record {
  numbers = is.plan.numbers ∙ ap (inputs_taken words.order) (sym (reads-are f words inputs p sources is));
  given = is.plan.lanes f ∙ ap (lanes_taken words) is.from;
}

lanes-over : (f : LiveFiles) (scale : ℕ) (specs : List (List Link)) → lanes_over f scale specs ≡ map (lane_blocks scale) (map (map (given_in f)) specs)
lanes-over f scale [] = refl
lanes-over f scale (links ∷ specs) = ap (λ (rest : List (List OutputBlock)). lane_blocks scale (map (given_in f) links) ∷ rest) (lanes-over f scale specs)

pub blocks-are : (f : LiveFiles) (words : MergeWords) (inputs : List Input) (p : MergePlan) (sources : List Source) → IsMergeOf f words inputs p sources → planned.blocks_of f p ≡ blocks_of words sources
blocks-are f words inputs p sources is =
    ap (λ (l : ClusterLimits). merged (lanes_over f l.scale (links_of p.lanes))) is.plan.limits
    ∙ ap merged (lanes-over f words.scale (links_of p.lanes) ∙ ap (map (lane_blocks words.scale)) (lanes-for f words inputs p sources is).given)

-- ---- records of the sources

-- Each attached file has its data.
files-filled : (f : LiveFiles) (list : List Attachment) → All IsAttached list → All IsFilled (map (attached_file f) list)
files-filled f list each =
    All-map IsFilled (attached_file f) list
    (λ k d below. record { entry = (get_or list k d).entry; octets = data_of f (get_or list k d); is = refl; attachment = each k d below })

-- The records can be written and read again.
pub records-are : (f : LiveFiles) (words : MergeWords) (inputs : List Input) (p : MergePlan) (sources : List Source) → IsMergeOf f words inputs p sources → CanBeWritten words.order inputs p → HaveRecords words sources
records-are f words inputs p sources is written =
    let reads = reads-are f words inputs p sources is in
    record {
      attachments =
          subst (All IsFilled) (ap (λ (front : Front). front.attachments) (is.plan.front f is.told) ∙ ap attachments_of is.from)
          (files-filled f p.front.attachments written.attachments);
      chapters = subst (λ (o : Option Node). IfSome o (IsRecord CHAPTERS)) (is.plan.chapters ∙ ap chapters_of (sym reads)) written.chapters;
      tags = subst (λ (o : Option Node). IfSome o (IsRecord TAGS)) (is.plan.tags ∙ ap (tags_of words.order) (sym reads)) written.tags;
      numbers = subst (λ (list : List InputRead). Have64Bits (identifiers_of words.order list)) (sym reads) written.numbers;
    }

-- The outputs can be read again if sources were found.
pub readable-found : (words : MergeWords) (found : Result (List Source) Refusal) (sources : List Source) (r : Result Status CommandEnd) → found ≡ Ok sources → HaveRecords words sources → IfOk r (λ (s : Status). AreShort words sources) → EndsReadable words found r
readable-found words found sources r is have short = subst (λ (o : Result (List Source) Refusal). EndsReadable words o r) (sym is) (of r short)
  where
    of : (r : Result Status CommandEnd) → IfOk r (λ (s : Status). AreShort words sources) → EndsReadable words (Ok sources) r
    of (Ok s) short = record { records = have; short = short }
    of (Err why) short = tt

-- A refused merge has no outputs to read.
pub readable-none : (words : MergeWords) (found : Result (List Source) Refusal) (why : Refusal) (r : Result Status CommandEnd) → found ≡ Err why → EndsReadable words found r
readable-none words found why r is = subst (λ (o : Result (List Source) Refusal). EndsReadable words o r) (sym is) (of r)
  where
    of : (r : Result Status CommandEnd) → EndsReadable words (Err why) r
    of (Ok s) = tt
    of (Err stop) = tt

-- ---- bytes read

-- An output track reads the file of each input at most once.
pub lengths-within : (f : LiveFiles) (words : MergeWords) (ids : List FileId) (p : Prepared) → IsPrepared f words ids p → inputs_length f p.plan ≤ length p.plan.lanes * files_size f ids
lengths-within f words ids p prepared =
    let size : sum_by (λ (i : Input). f.size i.file.n) p.inputs ≡ files_size f ids = inputs-size f p.inputs ∙ ap (files_size f) prepared.inputs.of in
    sum_by-le (λ (l : PlannedLane). walks.files_length f l.spec.links) (files_size f ids) p.plan.lanes
    (subst (λ (n : ℕ). All (λ (l : PlannedLane). walks.files_length f l.spec.links ≤ n) p.plan.lanes) size (prepared.written.once f))

-- The bytes that a merge of this plan may read.
pub plan-reads : (f : LiveFiles) (words : MergeWords) (ids : List FileId) (p : Prepared) (old new : ℕ) → IsPrepared f words ids p → new ≤ old + 2 * inputs_length f p.plan + data_length p.plan → new ≤ old + (2 * (length p.plan.lanes * files_size f ids) + data_length p.plan)
plan-reads f words ids p old new prepared paid =
    within (inputs_length f p.plan) (length p.plan.lanes * files_size f ids) (data_length p.plan) (lengths-within f words ids p prepared) paid
  where
    within : (read most data_read : ℕ) → read ≤ most → new ≤ old + 2 * read + data_read → new ≤ old + (2 * most + data_read)
    within read most data_read fits paid = omega arith

-- The plan's attached files belong to the sources.
pub data-counted : (f : LiveFiles) (words : MergeWords) (inputs : List Input) (p : MergePlan) (sources : List Source) → IsMergeOf f words inputs p sources → data_length p ≡ attached_length (reads_of sources)
data-counted f words inputs p sources is = is.plan.octets ∙ ap attached_length (sym (reads-are f words inputs p sources is))

-- The plan's output tracks belong to the sources.
pub lanes-count : (f : LiveFiles) (words : MergeWords) (inputs : List Input) (p : MergePlan) (sources : List Source) → IsMergeOf f words inputs p sources → length p.lanes ≡ length (lanes_given sources)
lanes-count f words inputs p sources is =
    sym (length-map p.lanes (λ (l : PlannedLane). l.spec.links))
    ∙ sym (length-map (links_of p.lanes) (map (given_in f)))
    ∙ ap (λ (given : List (List Given)). length given) (lanes-for f words inputs p sources is).given
    ∙ length-map (lanes_ordered words.order sources) (map (going_on words.append_damaged))
    ∙ lanes-ordered-count words.order sources
