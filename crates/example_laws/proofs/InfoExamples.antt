-- Examples of `info` and `merge -J`, computed: a wrong definition doesn't check.
use Rattle.std.proofs.Common.{refl}
use Rattle.std.specs.Fmt.{digits}
use Rattle.std.specs.Int.Count.{count_leading_zeros}
use Rattle.std.specs.Str.{is_utf8, chars}
use lib.Utf8.{encode}
use Rattle.json.specs.Print.{escape_byte}
use Rattle.ebml_numbers.specs.Number.{id_at, size_at, uint_width, least_size_width}
use Rattle.mkv_io.specs.Kind.{kind_name}
use Rattle.mkv_schema.specs.Table.{table}
use Rattle.mkv_schema.specs.Schema.{entry_of}
use Rattle.mkv_schema.specs.Element.{element_in}
use Rattle.mkv_schema.specs.Elements.{elements, elements_within}
use Rattle.mkv_schema.specs.Outline.{ebml_header, segment_of, outline_of}
use Rattle.tree_format.specs.Reading.{grove, grove_within}
use Rattle.file_format.specs.TrackType.{type_name}
use Rattle.mkv_info.specs.Identification.{identification}
use Rattle.example_laws.specs.Identifications.{AreIdentified, AreListed}

pub listed : AreListed
unfolding ebml_header segment_of outline_of elements elements_within kind_name type_name digits is_utf8 chars encode
    grove grove_within element_in id_at size_at entry_of table count_leading_zeros uint_width least_size_width
listed = record {
  empty = refl;
  padded = refl;
  whole = refl;
  endless = refl;
  damaged = refl;
  nothing = refl;
  other_type = refl;
  number_zero = refl;
}

pub identified : AreIdentified
unfolding identification escape_byte ebml_header segment_of outline_of elements elements_within type_name digits is_utf8
    chars encode grove grove_within element_in id_at size_at entry_of table
    count_leading_zeros uint_width least_size_width
identified = record {
  whole = refl;
  title = refl;
  no_title = refl;
  defaults = refl;
  said = refl;
  pixels = refl;
  no_height = refl;
  chapters = refl;
  no_chapters = refl;
  global_tags = refl;
  track_tags = refl;
}
