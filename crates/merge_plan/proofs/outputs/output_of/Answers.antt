-- Each track can be taken, and the records are the inputs'.
use Rattle.std.proofs.Common.{◌≡◌, ◌<◌, ◌^◌, List, [], ℕ, length, map, sym, ap, ap₂, subst, ◌∙◌, arith}
use Rattle.std.specs.List.{All, sum_by}
use Rattle.std.proofs.lemmas.List.Elements.{All-from_get_or}
use Rattle.output_model.specs.Attached.{attached_file}
use Rattle.output_model.specs.declared.attachment.Attachment.{Attachment}
use Rattle.output_records.specs.Attachments.{merged_attachments}
use Rattle.output_records.specs.Chapters.{merged_chapters}
use Rattle.output_records.specs.Inputs.{IsInput}
use Rattle.output_records.specs.Tags.{HaveShortNumbers, merged_tags, numbers_of}
use Rattle.output_records.specs.Tracks.{output_tracks}
use Rattle.merge_inputs.specs.Input.{InputRead, read_in}
use Rattle.merge_inputs.specs.Taken.{IsTaken}
use Rattle.merge_plan.specs.Planned.{StandsInInput}
use Rattle.merge_plan.specs.Records.{LaneUids, entries_of, keys_from, lane_uids, lanes_with, records_of, tracks_ordered, tracks_taken, uids_of}
use Rattle.merge_plan.proofs.FileLemmas.{attached-all, chapters-anywhere, files-are, numbers-same, octets-all, records_at, tags-anywhere}
use Rattle.merge_plan.proofs.OrderLemmas.{in_order-all}
use Rattle.merge_plan.proofs.RecordLemmas.{each-taken, keys-count, length-uids, ordered-count, taken-read}
use Rattle.merge_plan.proofs.outputs.output_of.Goals as goal

pub entries_of-requires-clause-taken : goal.entries_of-requires-clause-taken
entries_of-requires-clause-taken c =
    let reads : List InputRead = map read_in c.args.inputs.now in
    let taken : All IsTaken (tracks_taken reads) = subst (All IsTaken) (taken-read c.args.inputs.now) (each-taken c.args.inputs.now c.requires.tracks) in
    subst (All IsTaken) (sym c.requires.taken) (in_order-all IsTaken c.args.order.now (keys_from 0 reads) (tracks_taken reads) taken)

pub entries_of-requires-clause-uids : goal.entries_of-requires-clause-uids
entries_of-requires-clause-uids c = c.as_slice-numbers.ensures ∙ c.in_ok-uids.ensures

pub records_of-requires-clause-numbers : goal.records_of-requires-clause-numbers
records_of-requires-clause-numbers c =
    let reads : List InputRead = map read_in c.args.inputs.now in
    ap length (c.as_slice-numbers.ensures ∙ c.in_ok-uids.ensures ∙ ap uids_of c.requires.taken) ∙ length-uids (tracks_ordered c.args.order.now reads) ∙ ordered-count c.args.order.now reads
    ∙ sym (ap length (c.as_slice.ensures.value ∙ c.in_ok-keys.ensures) ∙ keys-count 0 reads)

pub merge_records-requires : goal.merge_records-requires
merge_records-requires c = subst (All IsInput) (sym c.as_slice-2.ensures) c.in_ok-kept.ensures.read

pub returns-clause-exact : goal.returns-clause-exact
returns-clause-exact c =
    let inputs = c.args.inputs.now in
    let order = c.args.order.now in
    let reads : List InputRead = map read_in inputs in
    let numbers : List ℕ = uids_of (tracks_ordered order reads) in
    let lanes : LaneUids = lane_uids order reads in
    let uids : c.in_ok-uids.uids ≡ numbers = c.in_ok-uids.ensures ∙ ap uids_of c.requires.taken in
    let keys : c.as_slice.result.now ≡ keys_from 0 reads = c.as_slice.ensures.value ∙ c.in_ok-keys.ensures in
    let kept : c.as_slice-2.result.now ≡ records_at lanes 0 0 inputs = c.as_slice-2.ensures ∙ c.in_ok-kept.ensures.exact ∙ ap₂ (λ ks n. records_at (lanes_with order ks n) 0 0 inputs) keys (c.as_slice-numbers.ensures ∙ uids) in
    let made = c.in_ok-attachments.ensures in
    record {
      tracks = c.in_ok-tracks.ensures.exact ∙ ap output_tracks c.in_ok-entries_of.ensures.exact ∙ ap (λ ts. output_tracks (entries_of ts)) c.requires.taken;
      attachments = λ f told. ap (map (attached_file f)) (made.attachments ∙ ap merged_attachments kept) ∙ attached-all f lanes 0 0 inputs told c.requires.records;
      octets = ap (sum_by (λ (a : Attachment). a.len)) (made.attachments ∙ ap merged_attachments kept) ∙ octets-all lanes 0 0 inputs;
      chapters = made.chapters ∙ ap merged_chapters kept ∙ chapters-anywhere lanes (lane_uids [] reads) 0 0 inputs;
      tags = made.tags ∙ ap merged_tags kept ∙ tags-anywhere lanes 0 0 inputs;
    }

pub returns-clause-sound : goal.returns-clause-sound
returns-clause-sound c =
    let inputs = c.args.inputs.now in
    let order = c.args.order.now in
    let reads : List InputRead = map read_in inputs in
    let numbers : List ℕ = uids_of (tracks_ordered order reads) in
    let lanes : LaneUids = lane_uids order reads in
    let uids : c.as_slice-numbers.result.now ≡ numbers = c.as_slice-numbers.ensures ∙ c.in_ok-uids.ensures ∙ ap uids_of c.requires.taken in
    let keys : c.as_slice.result.now ≡ keys_from 0 reads = c.as_slice.ensures.value ∙ c.in_ok-keys.ensures in
    let kept : c.as_slice-2.result.now ≡ records_at lanes 0 0 inputs = c.as_slice-2.ensures ∙ c.in_ok-kept.ensures.exact ∙ ap₂ (λ ks n. records_at (lanes_with order ks n) 0 0 inputs) keys uids in
    let made = c.in_ok-attachments.ensures in
    let short : HaveShortNumbers (numbers_of (records_of order reads)) = subst HaveShortNumbers (ap numbers_of kept ∙ numbers-same lanes 0 0 inputs) made.numbers in
    let tracks : All (λ n. n < 2 ^ 64) c.as_slice-numbers.result.now = All-from_get_or (λ n. n < 2 ^ 64) c.as_slice-numbers.result.now 0 (λ i within. grind arith) in
    record {
      tracks = c.in_ok-tracks.ensures.sound;
      attachments = made.attached;
      files = subst (λ (l : List Attachment). All (StandsInInput inputs) l) (sym (made.attachments ∙ ap merged_attachments kept)) (files-are lanes 0 0 inputs c.requires.records);
      chapters = made.chaptered;
      tags = made.tagged;
      numbers = record { tracks = subst (All (λ n. n < 2 ^ 64)) uids tracks; editions = short.editions; chapters = short.chapters; files = short.attachments };
    }
