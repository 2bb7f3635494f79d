-- The names of the kinds of damage, as messages print them. They are this project's.
use Rattle.std.specs.Prelude.{ℕ, List, codes}
use Rattle.mkv_io.specs.declared.damage.Kind.{Kind}
use Rattle.mkv_io.specs.declared.damage.Kind.TheVariants.{NotEbml, BadId, BadSize, TooLong, Truncated, DocType, ReadVersion, MaxLengths, NoSegment, NoTracks, BadValue, MissingChild, RepeatedTrack, Encoding, TrackScale, HeaderTooLarge, ShortBlock, BadLacing, BlockTooLarge, TimeTooLarge, NoTimestamp, TooMany, UnknownSize, BadFrame}

-- the name of a kind of damage, as messages print it. The contract of `Kind::name` promises it, and messages of damage contain it.
unfoldable pub kind_name : Kind → List ℕ
kind_name NotEbml = codes "NotEbml"
kind_name BadId = codes "BadId"
kind_name BadSize = codes "BadSize"
kind_name TooLong = codes "TooLong"
kind_name Truncated = codes "Truncated"
kind_name DocType = codes "DocType"
kind_name ReadVersion = codes "ReadVersion"
kind_name MaxLengths = codes "MaxLengths"
kind_name NoSegment = codes "NoSegment"
kind_name NoTracks = codes "NoTracks"
kind_name BadValue = codes "BadValue"
kind_name MissingChild = codes "MissingChild"
kind_name RepeatedTrack = codes "RepeatedTrack"
kind_name Encoding = codes "Encoding"
kind_name TrackScale = codes "TrackScale"
kind_name HeaderTooLarge = codes "HeaderTooLarge"
kind_name ShortBlock = codes "ShortBlock"
kind_name BadLacing = codes "BadLacing"
kind_name BlockTooLarge = codes "BlockTooLarge"
kind_name TimeTooLarge = codes "TimeTooLarge"
kind_name NoTimestamp = codes "NoTimestamp"
kind_name TooMany = codes "TooMany"
kind_name UnknownSize = codes "UnknownSize"
kind_name BadFrame = codes "BadFrame"
