-- Examples of plans, computed: a wrong definition doesn't check.
use Rattle.std.proofs.Common.{refl}
use Rattle.std.specs.Int.Count.{count_leading_zeros}
use Rattle.ebml_numbers.specs.Number.{uint_width, least_size_width}
use Rattle.merge_plan.specs.Webm.{is_webm_codec}
use Rattle.example_laws.specs.Plans.{AreLanes, ArePlaced, AreRecords}

pub lanes : AreLanes
lanes = record {
  uids = refl;
  same_uids = refl;
  appended_uids = refl;
  rules = refl;
  all = refl;
  never = refl;
  drives = refl;
  all_drive = refl;
  inputs = refl;
  no_inputs = refl;
  ordered_uids = refl;
  ordered_inputs = refl;
  ordered_drives = refl;
}

pub places : ArePlaced
places = record { end = refl; earlier = refl; dropped = refl; empty = refl; chain = refl; anew = refl }

pub records : AreRecords
unfolding is_webm_codec count_leading_zeros uint_width least_size_width
records = record {
  said = refl;
  second = refl;
  taken_away = refl;
  tracks = refl;
  other_type = refl;
  more_tracks = refl;
  alike = refl;
  kept_by_one = refl;
  kept_by_both = refl;
  no_lane = refl;
  not_webm = refl;
  webm = refl;
  stored_webm = refl;
}
