-- The values in a text's entry, which is valid.
use Rattle.std.proofs.Common.{◌≡◌, [], ◌∷◌, codes, Ok, None, refl, lit<}
use Rattle.ebml_numbers.specs.Number.{uint_width}
use Rattle.mkv_schema.specs.Schema.{entry_of}
use Rattle.mkv_schema.specs.Table.{table}
use Rattle.mkv_schema.specs.declared.ids.TheConstants.{TRACKS}
use Rattle.mkv_schema.specs.Outline.{first_damage}
use Rattle.tree_format.specs.Node.{master, nodes_of}
use Rattle.file_format.specs.Entry.{number_of, uid_of, type_of, codec_of, language_of, default_duration_of}
use Rattle.file_format.specs.Encoding.{prefix_of, usable_causes}
use Rattle.file_format.specs.Tracks.{IsTrack}
use Rattle.track_records.specs.Track.{track_of, tracks_of}
use Rattle.input_files.specs.Track.{text_entry}

-- The entry has these values.
pub record SaysOfText : Type 0 where
  pub number : number_of text_entry ≡ 1
  pub uid : uid_of text_entry ≡ 0
  pub type : type_of text_entry ≡ 17
  pub codec : codec_of text_entry ≡ codes "S_TEXT/UTF8"
  pub language : language_of text_entry ≡ codes "und"
  pub duration : default_duration_of text_entry ≡ None
  pub prefix : prefix_of text_entry ≡ []

pub says : SaysOfText
unfolding uint_width entry_of table
says = record { number = refl; uid = refl; type = refl; codec = refl; language = refl; duration = refl; prefix = refl }

pub is_usable : first_damage (usable_causes text_entry) ≡ None
unfolding uint_width entry_of table
is_usable = refl

pub is_track : IsTrack text_entry
unfolding uint_width entry_of table
is_track = record { number = lit< tt; type = refl; codec = refl; duration = tt }

-- A Tracks with only this entry is read as its track.
pub is_read : tracks_of (master TRACKS 0 (nodes_of (text_entry ∷ []))) ≡ Ok (track_of text_entry ∷ [])
unfolding uint_width entry_of table
is_read = refl
