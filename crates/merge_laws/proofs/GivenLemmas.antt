-- The blocks that a source gives to its output tracks can be placed.
use Rattle.std.proofs.Common.{◌<◌, ◌≤◌, ℕ, ◌+◌, ◌^◌, ◌==◌, List, [], ◌∷◌, length, filter, get_or, Option, Some, None, IfSome, nat_abs, refl, sym, ap, subst, arith}
use Rattle.std.specs.Prelude.{ℤ, pos}
use Rattle.std.proofs.lemmas.Int.{ints}
use Rattle.std.specs.List.{All}
use Rattle.std.proofs.lemmas.List.Elements.{All-cons, All-filter, All-head, All-map, All-nil, All-tail, All-weaker}
use Rattle.ebml_numbers.specs.Number.{AreOctets}
use Rattle.mkv_schema.specs.Outline.{first_damage}
use Rattle.track_records.specs.Usable.{causes_of, prefix_for}
use Rattle.track_records.proofs.UsableLemmas.{prefix-short}
use Rattle.track_records.specs.declared.track.Track.{Track}
use Rattle.block_format.specs.Block.{Block}
use Rattle.block_format.specs.Elements.{with_limits}
use Rattle.block_format.specs.Events.{blocks_of, events_of}
use Rattle.mkv_io.specs.declared.entry.Entry.{Entry}
use Rattle.text_formats.specs.Reading.{IsEntryWithin}
use Rattle.input_files.specs.declared.limits.TheConstants.{MAX_SRT_LEN}
use Rattle.block_format.specs.declared.limits.TheConstants.{TOO_LARGE_TIME}
use Rattle.ext_times.specs.Listing.{Listing, Each, Runs}
use Rattle.ext_times.specs.Times.{clamped, time_along, time_at, time_in}
use Rattle.merge_model.specs.Links.{Given, entry_block}
use Rattle.merge_model.specs.Timed.{retimed, timed}
use Rattle.merge_model.specs.declared.limits.TheConstants.{MAX_SHIFT}
use Rattle.output_laws.specs.Read.{IsPlacing, IsReadBlock}
use Rattle.output_laws.proofs.KindLemmas.{all-read}
use Rattle.merge_inputs.specs.Input.{BlocksRead, Clusters, Entries}
use Rattle.merge_inputs.specs.Taken.{IsTaken, value_for}
use Rattle.merge_inputs.specs.declared.taken.TakenTrack.{TakenTrack}
use Rattle.merge_plan.specs.Plan.{Source, given_from, given_of, append_offset, placing_for}
use Rattle.merge_laws.specs.Sources.{HasEntriesWithin, IsReadSource, IsReadTrack}
use Rattle.merge_laws.proofs.TextLemmas.{entry-read}

-- The blocks are as a reader finds them; their placing and the default duration of a frame are within their limits.
pub record CanBePlaced (g : Given) : Type 0 where
  pub blocks : All IsReadBlock g.blocks
  pub placing : IsPlacing g.placing
  pub default : IfSome g.placing.default_duration (λ (d : ℕ). d < 2 ^ 48)

taken-placing : (shift : ℕ) (t : TakenTrack) → shift ≤ MAX_SHIFT → IsTaken t → IsPlacing (placing_for shift t)
taken-placing shift t fits is =
    let few = prefix-short t.track (first_damage (causes_of t.track)) (prefix_for t.track) refl is.usable refl in
    record { delay = is.near; shift = fits; prefix = few }

-- A timestamp from a file is small enough for a block, for any file.
clamped-small : (t : ℤ) → nat_abs (clamped t) < TOO_LARGE_TIME
clamped-small t = grind (arith, ints)

time_at-small : (l : Listing) (k : ℕ) → nat_abs (time_at l k) < TOO_LARGE_TIME
unfolding time_at
time_at-small (Each ts) k = clamped-small (time_in ts k)
time_at-small (Runs rs) k = clamped-small (pos (time_along 0 rs k))

-- A block with another timestamp is still as a reader finds it.
at-time : (time : ℤ) (b : Block) → nat_abs time < TOO_LARGE_TIME → IsReadBlock b → IsReadBlock (record b { time = time })
at-time time b small is = record {
  small = let own = is.small in record { time = small; duration = own.duration; references = own.references; few = own.few; frames = own.frames; kept = own.kept };
  kind = record { simple = λ no. let own = is.kind.simple no in record { duration = own.duration; references = own.references; kept = own.kept }; group = λ yes. let own = is.kind.group yes in record { key = own.key; discardable = own.discardable; kept = own.kept } };
}

retimed-read : (l : Listing) (k : ℕ) (bs : List Block) → All IsReadBlock bs → All IsReadBlock (retimed l k bs)
retimed-read l k [] all = All-nil IsReadBlock
retimed-read l k (b ∷ bs) all =
    All-cons IsReadBlock (record b { time = time_at l k }) (retimed l (k + length b.frames) bs)
    (at-time (time_at l k) b (time_at-small l k) (All-head IsReadBlock b bs all)) (retimed-read l (k + length b.frames) bs (All-tail IsReadBlock b bs all))

timed-read : (times : Option Listing) (k : ℕ) (bs : List Block) → All IsReadBlock bs → All IsReadBlock (timed times k bs)
timed-read None k bs all = all
timed-read (Some l) k bs all = retimed-read l k bs all

link-placed : (times : List (ℕ × Listing)) (shift : ℕ) (blocks : BlocksRead) (bytes : List ℕ) (t : TakenTrack) → shift ≤ MAX_SHIFT → AreOctets bytes → HasEntriesWithin blocks → IsReadTrack t → CanBePlaced (given_from times shift blocks bytes t)
link-placed times shift (Clusters segment scale) bytes t fits octets within track = record {
  blocks = timed-read (value_for t.id times) 0 (filter (λ (b : Block). b.track == t.track.number) (blocks_of (events_of (with_limits scale) bytes segment)))
      (All-filter (λ (b : Block). b.track == t.track.number) IsReadBlock (blocks_of (events_of (with_limits scale) bytes segment)) (all-read scale bytes segment octets));
  placing = taken-placing shift t fits track.taken;
  default = subst (λ (o : Option ℕ). IfSome o (λ (d : ℕ). d < 2 ^ 48)) (sym (ap (λ (each : Track). each.default_duration) track.taken.said)) track.taken.track.duration;
}
link-placed times shift (Entries entries) bytes t fits octets within track = record {
  blocks = All-map IsReadBlock entry_block entries (All-weaker (IsEntryWithin MAX_SRT_LEN) (λ (e : Entry). IsReadBlock (entry_block e)) entry-read entries within);
  placing = record { delay = track.taken.near; shift = fits; prefix = omega arith };
  default = tt;
}

-- All blocks of a source can be placed.
pub given-placed : (s : Source) → IsReadSource s → All CanBePlaced (given_of s)
given-placed s is =
    All-map CanBePlaced (given_from s.1.times (append_offset s.1) s.1.blocks s.0) s.1.taken
    (λ k t inside. link-placed s.1.times (append_offset s.1) s.1.blocks s.0 (get_or s.1.taken k t) is.place is.octets is.entries (is.tracks k t inside))
