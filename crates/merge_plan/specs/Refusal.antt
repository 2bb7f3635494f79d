-- The refusal of a merge whose inputs were read. The reasons, their order and the limits are this project's.
use Rattle.std.specs.Prelude.{ℕ, ◌==◌, nat_lt, Bool, true, false, not, ◌&&◌, if◌then◌else◌, List, length, find, Option, Some, None, option_map}
use Rattle.std.specs.Option.{option_or}
use Rattle.output_model.specs.declared.TheConstants.{MAX_LANES}
use Rattle.output_records.specs.Limits.{first_too_large}
use Rattle.requests.specs.declared.merge.MergeWords.{MergeWords}
use Rattle.merge_inputs.specs.Input.{InputRead}
use Rattle.merge_inputs.specs.declared.taken.TakenTrack.{TakenTrack}
use Rattle.merge_plan.specs.declared.refusal.PlanRefusal.{PlanRefusal}
use Rattle.merge_plan.specs.declared.refusal.PlanRefusal.TheVariants.{NoLane, TooManyLanes, NotWebm, HeaderTooLarge}
use Rattle.merge_plan.specs.Records.{chapters_of, tags_of, tracks_of_output, tracks_ordered, tracks_taken}
use Rattle.merge_plan.specs.Webm.{is_webm_codec}

-- Some `x`, if the first argument is true; otherwise None. `no_lane` and `too_many_lanes` use it.
abbrev pub where_so : {A : Type 0} → Bool → A → Option A
where_so true x = Some x
where_so false x = None

-- the refusal if no track is selected, or None; `taken` has the tracks that begin output tracks. A part of `lanes_refusal`.
abbrev pub no_lane : List TakenTrack → Option PlanRefusal
no_lane taken = where_so (length taken == 0) NoLane

-- the refusal if more tracks begin output tracks than an output may have, which is 64, or None; `taken` has the tracks. A part of `lanes_refusal`.
abbrev pub too_many_lanes : List TakenTrack → Option PlanRefusal
too_many_lanes taken = where_so (nat_lt MAX_LANES (length taken)) TooManyLanes

-- WebM allows the selected track `t`: it allows its codec, and the frames aren't taken as they are stored, since WebM has no ContentEncodings.
-- `other_codec` uses it.
abbrev pub is_webm_track : TakenTrack → Bool
is_webm_track t = not t.track.stored && is_webm_codec t.track.codec

-- the CodecID of the first of the tracks `taken` that WebM doesn't allow, if there is one. `not_webm` uses it.
abbrev pub other_codec : List TakenTrack → Option (List ℕ)
other_codec taken = option_map (λ (t : TakenTrack). t.track.codec) (find (λ (t : TakenTrack). not (is_webm_track t)) taken)

-- the refusal of a WebM output because of the first of the tracks `taken` that WebM doesn't allow, or None; `webm` is true if the output is WebM. A part
-- of `lanes_refusal`.
abbrev pub not_webm : Bool → List TakenTrack → Option PlanRefusal
not_webm webm taken = if webm then option_map NotWebm (other_codec taken) else None

-- the refusal because of the number of the tracks `taken` that begin output tracks, or None: none, or too many. A part of `lanes_refusal`.
abbrev pub count_refusal : List TakenTrack → Option PlanRefusal
count_refusal taken = option_or (no_lane taken) (too_many_lanes taken)

-- the refusal because of the tracks `taken` that begin output tracks, or None: none, too many, or a track that WebM doesn't allow. `sorted` has them in
-- the order of the output, and `webm` is true if the output is WebM. A part of `plan_refusal`.
abbrev pub lanes_refusal : Bool → List TakenTrack → List TakenTrack → Option PlanRefusal
lanes_refusal webm taken sorted = option_or (count_refusal taken) (not_webm webm sorted)

-- the refusal of a merge of the inputs `reads` if the Tracks, Chapters or Tags of the output would be too large to be read again, or None; the first
-- of them is named. `order` gives the order of the output tracks. A part of `plan_refusal`.
abbrev pub records_refusal : List (ℕ × ℕ) → List InputRead → Option PlanRefusal
records_refusal order reads = option_map HeaderTooLarge (first_too_large (tracks_of_output order reads) (chapters_of reads) (tags_of order reads))

-- the refusal of the merge `words` of the inputs `reads`, in the order of the checks, or None. `Plans`, in the contract of `plan_of`, uses it.
abbrev pub plan_refusal : MergeWords → List InputRead → Option PlanRefusal
plan_refusal words reads = option_or (lanes_refusal words.webm (tracks_taken reads) (tracks_ordered words.order reads)) (records_refusal words.order reads)
