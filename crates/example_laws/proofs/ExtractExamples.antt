-- Examples of extractions, computed: a wrong definition doesn't check.
use Rattle.std.proofs.Common.{refl}
use Rattle.std.specs.Fmt.{digits}
use Rattle.mkv_schema.specs.Table.{table}
use Rattle.mkv_schema.specs.Schema.{entry_of}
use Rattle.text_formats.specs.ChapterWriting.{put_pair}
use Rattle.text_formats.specs.Pieces.{stamp}
use Rattle.elementary.specs.Aac.{aac_of, adts_header}
use Rattle.elementary.specs.Avc.{avc_of}
use Rattle.elementary.specs.Hevc.{array_at, arrays_at, hevc_of}
use Rattle.elementary.specs.Pgs.{header_at, segment_at, segment_header, segments_of}
use Rattle.elementary.specs.Units.{unit_at, units_at, units_of}
use Rattle.example_laws.specs.Extractions.{AreCoded, AreTimes, AreWritten}

pub times : AreTimes
unfolding digits
times = record {
  zero = refl;
  part = refl;
  short_part = refl;
  negative = refl;
  least = refl;
  blocks = refl;
  frames = refl;
  none = refl;
  raw = refl;
  prefixed = refl;
}

pub coded : AreCoded
unfolding avc_of hevc_of arrays_at array_at aac_of adts_header
    unit_at units_at units_of segment_at segments_of segment_header header_at
coded = record {
  annex_b = refl;
  unit = refl;
  long_unit = refl;
  empty_unit = refl;
  left_out = refl;
  named = refl;
  adts = refl;
  frame = refl;
  arrays = refl;
  pgs = refl;
  segment = refl;
  cut = refl;
  flac = refl;
  joined = refl;
  no_avc = refl;
  no_hevc = refl;
  no_flac = refl;
  no_aac = refl;
  subrip = refl;
  other = refl;
  longer = refl;
}

pub written : AreWritten
unfolding digits put_pair stamp entry_of table
written = record {
  cue = refl;
  scaled = refl;
  missing = refl;
  others = refl;
  chapter = refl;
  bare = refl;
  no_edition = refl;
  no_chapters = refl;
}
