-- The output tracks are made of the selected tracks, and nothing refuses them.
use Rattle.std.proofs.Common.{◌≡◌, List, Option, map, refl, sym, ap, subst, ◌∙◌, arith, rules}
use Rattle.mkv_schema.specs.declared.ids.TheConstants.{CHAPTERS}
use Rattle.tree_format.specs.Node.{Node}
use Rattle.splitter.specs.Words.{spec_of}
use Rattle.output_model.specs.Document.{lasting_if}
use Rattle.output_records.specs.Info.{output_info}
use Rattle.merge_inputs.specs.Input.{read_in}
use Rattle.merge_inputs.specs.declared.taken.TakenTrack.{TakenTrack}
use denote.Ref.{Bor}
use Rattle.merge_plan.specs.Lent.{lent}
use Rattle.merge_plan.specs.Plan.{is_video, starts_in}
use Rattle.merge_plan.specs.Records.{info_of, tracks_of_output, tracks_ordered}
use Rattle.merge_plan.specs.TakenTracks.{AreOutputLanes}
use Rattle.merge_plan.proofs.FileLemmas.{reads-in}
use Rattle.merge_plan.proofs.RecordLemmas.{read-record}
use Rattle.merge_plan.proofs.PlanLemmas.{lanes-length, lanes-drives, lanes-given, lanes-numbers, lanes-rules, lanes-linked, lanes-once, links-small, links-open, links-told, links-spared, plan-few}
use Rattle.merge_plan.proofs.plan.plan_of.Goals as goal

pub split_of-requires : goal.split_of-requires
split_of-requires c = read-record CHAPTERS c.in_ok-tracks.field-0.chapters c.in_ok-tracks.ensures.sound.chapters

pub returns-clause-exact : goal.returns-clause-exact
returns-clause-exact c =
    let inputs = c.args.inputs.now in
    let lanes = c.in_ok-output_lanes.field-0 in
    let words = c.args.words.now in
    let are : AreOutputLanes words.append_damaged words.order inputs lanes = subst (λ order. AreOutputLanes words.append_damaged order inputs lanes) c.as_slice-order.ensures c.in_ok-output_lanes.ensures.lanes in
    let records = c.in_ok-tracks.ensures.exact.1 in
    let info : c.in_ok-info.info ≡ info_of words (map read_in inputs) = c.in_ok-info.ensures.exact ∙ ap (output_info words.scale) c.title_of.ensures in
    let videos : c.as_slice-2.result.now ≡ map is_video (tracks_ordered words.order (map read_in inputs)) = c.as_slice-2.ensures ∙ c.in_ok-videos.ensures ∙ ap (λ (refs : List (Bor TakenTrack)). map is_video (lent refs)) c.as_slice.ensures.value
    ∙ ap (λ (ts : List TakenTrack). map is_video ts) (c.in_ok-taken.ensures ∙ ap (λ order. tracks_ordered order (map read_in inputs)) c.as_slice-order.ensures) in
    let output : c.in_ok-clone.field-0 ≡ words.output = search (rules, c.in_ok-clone.ensures.cases) in (
      c.in_ok-tracks.ensures.exact.0,
      record {
        output = output;
        split = c.in_ok-split.ensures ∙ ap (λ (n : Option Node). spec_of words.split (starts_in n)) records.chapters;
        size = c.split_size.ensures;
        uuids = c.in_ok-uuids.ensures;
        link = refl;
        limits = refl;
        front = λ f told.
            let reads = sym (reads-in f inputs) in
            λ i. record { webm = words.webm; lasting = lasting_if words.duration; info = (info ∙ ap (info_of words) reads) i; tracks = (records.tracks ∙ ap (tracks_of_output words.order) reads) i; attachments = records.attachments f told i };
        duration = refl;
        octets = records.octets;
        chapters = records.chapters;
        tags = records.tags;
        lanes = lanes-given words.append_damaged words.order inputs lanes are;
        numbers = lanes-numbers words.append_damaged words.order inputs lanes are;
        rules = lanes-rules words.append_damaged words.order inputs lanes are;
        drives = lanes-drives words.append_damaged words.order inputs lanes are c.as_slice-2.result.now c.in_ok-output_lanes.ensures.drives videos;
      },
    )

pub returns-clause-written : goal.returns-clause-written
returns-clause-written c =
    let inputs = c.args.inputs.now in
    let lanes = c.in_ok-output_lanes.field-0 in
    let words = c.args.words.now in
    let are : AreOutputLanes words.append_damaged words.order inputs lanes = subst (λ order. AreOutputLanes words.append_damaged order inputs lanes) c.as_slice-order.ensures c.in_ok-output_lanes.ensures.lanes in
    let long = lanes-length words.append_damaged words.order inputs lanes are in
    let few = plan-few c.args.words.now (map read_in inputs) c.in_ok-tracks.ensures.exact.0 in
    let records = c.in_ok-tracks.ensures.sound in
    record {
      few = omega arith;
      linked = lanes-linked words.append_damaged words.order inputs lanes are;
      once = lanes-once words.append_damaged words.order inputs lanes are;
      small = links-small words.append_damaged words.order inputs lanes are c.requires.tracks c.requires.places;
      is_open = links-open words.append_damaged words.order inputs lanes are c.requires.tracks;
      told = links-told words.append_damaged words.order inputs lanes are c.requires.tracks;
      apart = links-spared words.append_damaged words.order inputs lanes are c.requires.tracks;
      info = c.in_ok-info.ensures.sound;
      tracks = records.tracks;
      attachments = records.attachments;
      files = records.files;
      chapters = records.chapters;
      tags = records.tags;
      numbers = records.numbers;
    }
