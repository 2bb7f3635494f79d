-- The Tracks of the merged file, and of its parts.
use Rattle.std.proofs.Common.{◌≡◌, ℕ, true, List, [], ◌++◌, length, refl, arith, codes}
use Rattle.std.proofs.lemmas.List.Elements.{All-from_recursion}
use Rattle.ebml_numbers.specs.Number.{is_id, least_size_width, uint_width}
use Rattle.mkv_schema.specs.declared.ids.TheConstants.{CODEC_ID, TRACKS, TRACK_ENTRY}
use Rattle.mkv_schema.specs.Schema.{entry_of}
use Rattle.mkv_schema.specs.Table.{table}
use Rattle.tree_format.specs.Node.{Node}
use Rattle.tree_format.specs.NormalForm.{content}
use Rattle.ebml_tree.proofs.LeafLemmas.{text-stands}
use Rattle.file_format.specs.Entry.{entries_of, type_of}
use Rattle.output_model.specs.Sound.{AreTracks, IsRecord}
use Rattle.output_records.specs.Tracks.{output_tracks}
use Rattle.input_files.proofs.TrackLemmas.{codec-in}
use Rattle.merge_inputs.specs.declared.taken.TakenTrack.{TakenTrack}
use Rattle.merge_plan.specs.Records.{entries_of as entries_given}
use Rattle.mkv_generate.specs.declared.blocks.MediaKind.TheVariants.{Pictures, Sounds}
use Rattle.merge_laws.specs.Merge.{HasNoEncodings}
use Rattle.merge_laws.specs.Sources.{is_taken_type}
use Rattle.generate_laws.proofs.DocumentLemmas.{HasLanes, taken_at}
use Rattle.generate_laws.proofs.FileLemmas.{picture-text, sound-text, tracks_of}

-- ---- the merged file

-- the tracks that are merged, if both Tracks Elements are read at the places `a` and `b`
abbrev pub both_taken : List ℕ → List ℕ → ℕ → ℕ → List TakenTrack
both_taken pictures sounds a b = taken_at pictures a (tracks_of Pictures) ++ (taken_at sounds b (tracks_of Sounds) ++ [])

-- the Tracks of the merged file
abbrev pub both_tracks : List ℕ → List ℕ → ℕ → ℕ → Node
both_tracks pictures sounds a b = output_tracks (entries_given (both_taken pictures sounds a b))

-- the Tracks of each part, if the merged file's are read at the place `c`
abbrev pub parts_tracks : List ℕ → List ℕ → List ℕ → ℕ → ℕ → ℕ → Node
parts_tracks both pictures sounds a b c = output_tracks (entries_given (taken_at both c (both_tracks pictures sounds a b) ++ []))

-- A merge can select a track with this entry.
abbrev IsTakenEntry : Node → Type 0
IsTakenEntry entry = is_taken_type (type_of entry) ≡ true

module _ (pictures sounds : List ℕ) (a b : ℕ) where
  abbrev tracks : Node
  tracks = both_tracks pictures sounds a b

  long : length (content tracks) ≡ 40
  unfolding uint_width least_size_width
  long = refl

  tracks-record : IsRecord TRACKS tracks
  unfolding uint_width entry_of table is_id
  tracks-record = record {
    id = refl;
    master = refl;
    sound = (
      (refl, (record { id_stands = refl; no_master = refl; value = refl }, (record { id_stands = refl; no_master = refl; value = refl }, (record { id_stands = refl; no_master = refl; value = refl }, (text-stands TRACK_ENTRY CODEC_ID (codes "V_TEST") codec-in picture-text, tt))))),
      ((refl, (record { id_stands = refl; no_master = refl; value = refl }, (record { id_stands = refl; no_master = refl; value = refl }, (record { id_stands = refl; no_master = refl; value = refl }, (text-stands TRACK_ENTRY CODEC_ID (codes "A_TEST") codec-in sound-text, tt))))), tt),
    );
    limits = record { long = omega (arith, long); deep = omega arith };
  }

  tracks-are : AreTracks tracks
  unfolding uint_width entry_of table is_id
  tracks-are = record { is = tracks-record; read = refl; numbers = (refl, (refl, tt)); few = omega arith }

  pub both-lanes : HasLanes 2 tracks
  unfolding uint_width entry_of table is_id
  both-lanes = record {
    are = tracks-are;
    many = refl;
    short = omega (arith, long);
    few = omega arith;
    plain = All-from_recursion HasNoEncodings (entries_of tracks) (refl, (refl, tt));
    types = All-from_recursion IsTakenEntry (entries_of tracks) (refl, (refl, tt));
    usable = λ name place. refl;
  }

-- ---- its parts

module _ (both pictures sounds : List ℕ) (a b c : ℕ) where
  abbrev part : Node
  part = parts_tracks both pictures sounds a b c

  part-long : length (content part) ≡ 40
  unfolding uint_width least_size_width entry_of table
  part-long = refl

  part-record : IsRecord TRACKS part
  unfolding uint_width entry_of table is_id
  part-record = record {
    id = refl;
    master = refl;
    sound = (
      (refl, (record { id_stands = refl; no_master = refl; value = refl }, (record { id_stands = refl; no_master = refl; value = refl }, (record { id_stands = refl; no_master = refl; value = refl }, (text-stands TRACK_ENTRY CODEC_ID (codes "V_TEST") codec-in picture-text, tt))))),
      ((refl, (record { id_stands = refl; no_master = refl; value = refl }, (record { id_stands = refl; no_master = refl; value = refl }, (record { id_stands = refl; no_master = refl; value = refl }, (text-stands TRACK_ENTRY CODEC_ID (codes "A_TEST") codec-in sound-text, tt))))), tt),
    );
    limits = record { long = omega (arith, part-long); deep = omega arith };
  }

  part-are : AreTracks part
  unfolding uint_width entry_of table is_id
  part-are = record { is = part-record; read = refl; numbers = (refl, (refl, tt)); few = omega arith }

  pub parts-lanes : HasLanes 2 part
  unfolding uint_width entry_of table is_id
  parts-lanes = record {
    are = part-are;
    many = refl;
    short = omega (arith, part-long);
    few = omega arith;
    plain = All-from_recursion HasNoEncodings (entries_of part) (refl, (refl, tt));
    types = All-from_recursion IsTakenEntry (entries_of part) (refl, (refl, tt));
    usable = λ name place. refl;
  }
