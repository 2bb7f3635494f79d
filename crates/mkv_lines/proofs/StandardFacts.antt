-- Computed texts of messages, so that a wrong definition fails the check. They have the name of each kind of damage, and messages that no test
-- file gives.
use Rattle.std.proofs.Common.{◌≡◌, codes, refl}
use Rattle.std.specs.Fmt.{digits}
use Rattle.ebml_numbers.specs.declared.number.Size.TheVariants.{Unknown}
use Rattle.mkv_io.specs.declared.damage.Damage.{Damage}
use Rattle.mkv_io.specs.declared.damage.Kind.{Kind}
use Rattle.mkv_io.specs.declared.damage.Kind.TheVariants as kind
use Rattle.mkv_io.specs.Kind.{kind_name}
use Rattle.mkv_schema.specs.Schema.{entry_of}
use Rattle.mkv_schema.specs.Table.{table}
use Rattle.mkv_lines.specs.Line.{text_of}
use Rattle.mkv_lines.specs.Shown.{damage_text}
use Rattle.mkv_lines.specs.declared.line.Line.TheVariants.{Level1, FilesFault}

abbrev damage : Kind → Damage
damage kind = record { kind = kind; id = 0xA3; offset = 61 }

pub record AreNamed : Type 0 where
  pub not_ebml : damage_text (damage kind.NotEbml) ≡ codes "NotEbml, element A3, offset 61"
  pub bad_id : damage_text (damage kind.BadId) ≡ codes "BadId, element A3, offset 61"
  pub bad_size : damage_text (damage kind.BadSize) ≡ codes "BadSize, element A3, offset 61"
  pub too_long : damage_text (damage kind.TooLong) ≡ codes "TooLong, element A3, offset 61"
  pub truncated : damage_text (damage kind.Truncated) ≡ codes "Truncated, element A3, offset 61"
  pub doc_type : damage_text (damage kind.DocType) ≡ codes "DocType, element A3, offset 61"
  pub read_version : damage_text (damage kind.ReadVersion) ≡ codes "ReadVersion, element A3, offset 61"
  pub max_lengths : damage_text (damage kind.MaxLengths) ≡ codes "MaxLengths, element A3, offset 61"
  pub no_segment : damage_text (damage kind.NoSegment) ≡ codes "NoSegment, element A3, offset 61"
  pub no_tracks : damage_text (damage kind.NoTracks) ≡ codes "NoTracks, element A3, offset 61"
  pub bad_value : damage_text (damage kind.BadValue) ≡ codes "BadValue, element A3, offset 61"
  pub missing_child : damage_text (damage kind.MissingChild) ≡ codes "MissingChild, element A3, offset 61"
  pub repeated_track : damage_text (damage kind.RepeatedTrack) ≡ codes "RepeatedTrack, element A3, offset 61"
  pub encoding : damage_text (damage kind.Encoding) ≡ codes "Encoding, element A3, offset 61"
  pub track_scale : damage_text (damage kind.TrackScale) ≡ codes "TrackScale, element A3, offset 61"
  pub header_too_large : damage_text (damage kind.HeaderTooLarge) ≡ codes "HeaderTooLarge, element A3, offset 61"
  pub short_block : damage_text (damage kind.ShortBlock) ≡ codes "ShortBlock, element A3, offset 61"
  pub bad_lacing : damage_text (damage kind.BadLacing) ≡ codes "BadLacing, element A3, offset 61"
  pub block_too_large : damage_text (damage kind.BlockTooLarge) ≡ codes "BlockTooLarge, element A3, offset 61"
  pub time_too_large : damage_text (damage kind.TimeTooLarge) ≡ codes "TimeTooLarge, element A3, offset 61"
  pub no_timestamp : damage_text (damage kind.NoTimestamp) ≡ codes "NoTimestamp, element A3, offset 61"
  pub too_many : damage_text (damage kind.TooMany) ≡ codes "TooMany, element A3, offset 61"
  pub unknown_size : damage_text (damage kind.UnknownSize) ≡ codes "UnknownSize, element A3, offset 61"
  pub bad_frame : damage_text (damage kind.BadFrame) ≡ codes "BadFrame, element A3, offset 61"

pub named : AreNamed
unfolding kind_name digits
named = record { not_ebml = refl; bad_id = refl; bad_size = refl; too_long = refl; truncated = refl; doc_type = refl; read_version = refl; max_lengths = refl; no_segment = refl; no_tracks = refl; bad_value = refl; missing_child = refl; repeated_track = refl; encoding = refl; track_scale = refl; header_too_large = refl; short_block = refl; bad_lacing = refl; block_too_large = refl; time_too_large = refl; no_timestamp = refl; too_many = refl; unknown_size = refl; bad_frame = refl }

-- an Element that isn't allowed in the Segment, of unknown size
pub stray : text_of (Level1 (record { id = 0xE7; offset = 40; body = 42; size = Unknown })) ≡ codes "  0xE7 at 40 size unknown"
unfolding entry_of table digits
stray = refl

pub fault : text_of FilesFault ≡ codes "fault: files"
fault = refl
