-- Computed new indexes of small files, so that a wrong definition fails the check; the writes were worked out by hand.
use Rattle.std.proofs.Common.{◌≡◌, ℕ, List, [], ◌∷◌, ◌++◌, map, slice_set, take, Result, Ok, Err, refl}
use Rattle.std.specs.Int.Count.{count_leading_zeros}
use Rattle.std.specs.Str.{chars, is_utf8}
use lib.Utf8.{encode}
use Rattle.ebml_numbers.specs.Number.{id_at, is_id, least_size_width, size_at, uint_width}
use Rattle.mkv_io.specs.declared.damage.Kind.TheVariants.{Truncated}
use Rattle.mkv_schema.specs.Table.{table}
use Rattle.mkv_schema.specs.Schema.{entry_of}
use Rattle.mkv_schema.specs.Element.{damage, element_in}
use Rattle.mkv_schema.specs.Elements.{elements, elements_within}
use Rattle.mkv_schema.specs.Outline.{ebml_header, outline_of, segment_of}
use Rattle.tree_format.specs.Reading.{grove, grove_within}
use Rattle.file_format.specs.Info.{file_scale}
use Rattle.lacing.specs.Reading.{lace_in, size_in, sizes_in}
use Rattle.block_format.specs.Content.{content_in}
use Rattle.block_format.specs.Elements.{block_group, simple_block}
use Rattle.block_format.specs.Events.{events_of}
use Rattle.sidecar_edit.specs.Writes.{applied}
use Rattle.sidecar_edit.specs.declared.place.Place.{Place}
use Rattle.mkv_io.specs.Results.{and_then}
use Rattle.edit_changes.specs.Plan.{place}
use Rattle.edit_changes.specs.declared.refusal.Refusal.{Refusal}
use Rattle.edit_changes.specs.declared.refusal.Refusal.TheVariants.{Damaged, NoRoom}
use Rattle.edit_changes.specs.declared.refusal.Room.TheVariants.{SeekHead, Twin}
use Rattle.reindex.specs.Plan.{index_of}
use Rattle.reindex.proofs.StandardFacts.{cues, merged_body, merged_head, video}

-- the places of the writes of a new index, or its refusal
abbrev places : List ℕ → Result (List Place) Refusal
places bytes = and_then (index_of bytes) (λ x. Ok (map place x.writes))

-- the file with its new index
abbrev reindexed : List ℕ → Result (List ℕ) Refusal
reindexed bytes = and_then (index_of bytes) (λ x. Ok (applied bytes x.writes))

abbrev at : ℕ → ℕ → Place
at from len = record { at = from; len = len }

-- a file that a merge wrote, and the same without its Cues
abbrev merged : List ℕ
merged = merged_head 0x6A ++ merged_body ++ cues

abbrev unindexed : List ℕ
unindexed = merged_head 0x54 ++ merged_body

-- A file that a merge wrote is rewritten as it was; without its Cues it becomes that file.
pub record AreIndexed : Type 0 where
  pub places_again : places merged ≡ Ok (at 52 77 ∷ at 392 22 ∷ [])
  pub same : reindexed merged ≡ Ok merged
  pub places_anew : places unindexed ≡ Ok (at 44 8 ∷ at 52 77 ∷ at 392 22 ∷ [])
  pub whole : reindexed unindexed ≡ Ok merged

pub are_indexed : AreIndexed
unfolding is_utf8 chars encode file_scale outline_of ebml_header segment_of elements elements_within element_in id_at size_at is_id least_size_width uint_width entry_of table count_leading_zeros grove grove_within content_in lace_in sizes_in size_in simple_block block_group events_of
are_indexed = record { places_again = refl; same = refl; places_anew = refl; whole = refl }

-- The refusals of an index, each before the next: damage, a second Cues, and no SeekHead.
pub record AreRefused : Type 0 where
  pub damaged : index_of (take 66 video) ≡ Err (Damaged (damage Truncated 0xA3 60))
  pub twin : index_of (merged_head 0x80 ++ merged_body ++ cues ++ cues) ≡ Err (NoRoom Twin 1 2)
  pub no_seek_head : index_of video ≡ Err (NoRoom SeekHead 47 0)
  pub nothing_moves : index_of (slice_set video 37 2) ≡ Err (NoRoom SeekHead 26 0)

pub are_refused : AreRefused
unfolding is_utf8 chars encode file_scale outline_of ebml_header segment_of elements elements_within element_in id_at size_at is_id least_size_width uint_width entry_of table count_leading_zeros grove grove_within content_in lace_in sizes_in size_in simple_block block_group events_of
are_refused = record { damaged = refl; twin = refl; no_seek_head = refl; nothing_moves = refl }
