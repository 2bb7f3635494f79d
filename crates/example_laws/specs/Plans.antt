-- Examples of what small merges plan.
use Rattle.std.specs.Prelude.{◌≡◌, ℕ, ℤ, pos, negsuc, false, true, List, [], ◌∷◌, ◌++◌, map, codes}
use Rattle.std.specs.Prelude.{Option, None, Some}
use Rattle.tree_format.specs.Node.{Node, leaf, master, nodes_of}
use Rattle.tree_format.specs.NormalForm.{content}
use Rattle.mkv_io.specs.declared.entry.Entry.{Entry}
use Rattle.requests.specs.declared.track.CueWord.{CueWord}
use Rattle.requests.specs.declared.track.CueWord.TheVariants as cue_word
use Rattle.output_model.specs.declared.rule.CueRule.TheVariants.{Never, Key, All}
use Rattle.requests.specs.Plain.{plain_words}
use Rattle.requests.specs.declared.merge.MergeWords.{MergeWords}
use Rattle.merge_inputs.specs.Input.{Entries, InputRead}
use Rattle.merge_inputs.specs.declared.taken.TakenTrack.{TakenTrack}
use Rattle.merge_plan.specs.declared.refusal.PlanRefusal.{PlanRefusal}
use Rattle.merge_plan.specs.declared.refusal.PlanRefusal.TheVariants.{NoLane, NotWebm}
use Rattle.merge_plan.specs.Appending.{append_refusal, differs_at}
use Rattle.merge_plan.specs.Places.{end_of, in_place}
use Rattle.merge_plan.specs.Plan.{Source, drives_given, inputs_given, inputs_taken, rule_of, rules_given}
use Rattle.merge_plan.specs.Records.{info_of, title_of, tracks_of_output, tracks_ordered, tracks_taken, uids_of}
use Rattle.merge_plan.specs.Refusal.{lanes_refusal}

-- ---- command lines, tracks and inputs

-- a command line without inputs, which gives the title `title`, if any, and no other option, for the examples of `merge`
abbrev pub words : Option (List ℕ) → MergeWords
words title = record (plain_words (codes "out.mkv") None []) { title = title }

-- a TrackEntry with the TrackUID `uid`, the TrackType `type`, the CodecID `codec`, the TrackNumber 3, and an empty ContentEncodings, for the examples
-- of `merge`
abbrev pub entry : ℕ → ℕ → List ℕ → Node
entry uid type codec = master 0xAE 0 (nodes_of (
    leaf 0xD7 0 (3 ∷ []) ∷ leaf 0x73C5 0 (uid ∷ []) ∷ leaf 0x83 0 (type ∷ []) ∷
    leaf 0x6D80 0 [] ∷ leaf 0x86 0 codec ∷ []))

-- a selected track with the TrackUID `uid`, the TrackType `type` and the CodecID `codec`, for the examples of `merge`. It has the delay `later` in
-- nanoseconds, and the value `word` of `--cues`, if any.
abbrev pub taken : ℕ → ℕ → List ℕ → ℤ → Option CueWord → TakenTrack
taken uid type codec later word = record {
  id = 0;
  track = record {
    number = 3;
    uid = uid;
    kind = type;
    codec = codec;
    language = codes "eng";
    default_duration = None;
    offset = 0;
    entry = entry uid type codec;
    stored = false;
  };
  name = None;
  language = None;
  language_tag = None;
  flag_default = None;
  flag_forced = None;
  flags = record { enabled = None; hearing_impaired = None; visual_impaired = None; text_descriptions = None; original = None; commentary = None };
  delay = later;
  cues = word;
}

-- a selected video track with the TrackUID `uid`, without options, for the examples of `merge`
abbrev pub video : ℕ → TakenTrack
video uid = taken uid 1 (codes "V_VP8") (pos 0) None

-- a selected audio track with the TrackUID `uid`, without options, for the examples of `merge`
abbrev pub audio : ℕ → TakenTrack
audio uid = taken uid 2 (codes "A_OPUS") (pos 0) None

-- a selected subtitle track with the TrackUID `uid`, without options, for the examples of `merge`
abbrev pub subtitles : ℕ → TakenTrack
subtitles uid = taken uid 17 (codes "S_TEXT/UTF8") (pos 0) None

-- the selected track `t` with its frames taken as they are stored, for the examples of `merge`
abbrev pub stored : TakenTrack → TakenTrack
stored t = record t { track = record t.track { stored = true } }

-- an input with the SubRip entries `entries`, the title `title`, and the selected tracks `tracks`, for the examples of `merge`. `begin` is its append
-- offset in nanoseconds, or None if it isn't appended.
abbrev pub input : List Entry → List ℕ → Option ℕ → List TakenTrack → InputRead
input entries title begin tracks = record {
  blocks = Entries entries;
  title = title;
  held = 0;
  count = 1;
  taken = tracks;
  attachments = [];
  chapters = None;
  tags = None;
  keep = record { tracks = true; global = true };
  shift = begin;
  times = [];
}

-- an input with the selected tracks `tracks` that isn't appended, for the examples of `merge`
abbrev pub first : List TakenTrack → InputRead
first tracks = input [] [] None tracks

-- an input with the selected tracks `tracks` that is appended, for the examples of `merge`
abbrev pub behind : List TakenTrack → InputRead
behind tracks = input [] [] (Some 0) tracks

-- an input with the title `title` and no track, for the examples of `merge`
abbrev pub titled : List ℕ → InputRead
titled title = input [] title None []

-- ---- output tracks

-- two inputs: one with a video, an audio and a subtitle track, and one with a subtitle track whose TrackUID is 0, for the examples of `merge`
abbrev pub film : List InputRead
film = first (video 11 ∷ audio 12 ∷ subtitles 14 ∷ []) ∷ first (subtitles 0 ∷ []) ∷ []

-- Examples of the output tracks that small merges plan: their TrackUIDs, cue rules, driving tracks and inputs. Used by the contract of
-- `lanes_are_planned_so`.
pub record AreLanes : Type 0 where
  -- A TrackUID that is present stays; a missing or repeated one becomes the smallest free one.
  pub uids : uids_of (tracks_taken film) ≡ 11 ∷ 12 ∷ 14 ∷ 1 ∷ []
  pub same_uids : uids_of (tracks_taken (first (audio 5 ∷ []) ∷ first (audio 5 ∷ []) ∷ [])) ≡ 5 ∷ 1 ∷ []
  -- Tracks of an appended input begin no output track.
  pub appended_uids : uids_of (tracks_taken (first (audio 5 ∷ []) ∷ behind (audio 5 ∷ []) ∷ [])) ≡ 5 ∷ []
  -- By default keyframes of video and subtitle tracks get cue points, and audio tracks get none.
  pub rules : rules_given [] film ≡ Key ∷ Never ∷ Key ∷ Key ∷ []
  pub all : rule_of (taken 5 2 (codes "A_OPUS") (pos 0) (Some cue_word.All)) ≡ All
  pub never : rule_of (taken 5 1 (codes "V_VP8") (pos 0) (Some cue_word.Never)) ≡ Never
  -- The first video track drives; without video every output track does.
  pub drives : drives_given [] (first (audio 1 ∷ video 2 ∷ video 3 ∷ []) ∷ []) ≡ false ∷ true ∷ false ∷ []
  pub all_drive : drives_given [] (first (audio 1 ∷ subtitles 2 ∷ []) ∷ []) ≡ true ∷ true ∷ []
  -- Appended inputs continue the output tracks of the previous input, place by place.
  pub inputs :
      inputs_given 0 (first (audio 1 ∷ video 2 ∷ []) ∷ behind (audio 1 ∷ video 2 ∷ []) ∷ first (audio 1 ∷ []) ∷ [])
      ≡ (0 ∷ 1 ∷ []) ∷ (0 ∷ 1 ∷ []) ∷ (2 ∷ []) ∷ []
  pub no_inputs : inputs_given 0 [] ≡ []
  -- A track that an order names comes first, and keeps the inputs that continue it. The first video track in this order drives.
  pub ordered_uids : uids_of (tracks_ordered ((1, 0) ∷ []) film) ≡ 1 ∷ 11 ∷ 12 ∷ 14 ∷ []
  pub ordered_inputs :
      inputs_taken ((2, 0) ∷ []) (first (audio 1 ∷ []) ∷ behind (audio 1 ∷ []) ∷ first (audio 1 ∷ []) ∷ [])
      ≡ (2 ∷ []) ∷ (0 ∷ 1 ∷ []) ∷ []
  pub ordered_drives : drives_given ((1, 0) ∷ []) (first (audio 1 ∷ video 2 ∷ []) ∷ first (video 3 ∷ []) ∷ []) ≡ true ∷ false ∷ false ∷ []

-- ---- append offsets

-- a SubRip entry from 1 second to 2.5 seconds, for the examples of `merge`
abbrev pub example_text : Entry
example_text = record { start = 1000000000; duration = 1500000000; text = codes "Hi" }

-- an input with only the entry `example_text`, with the delay `later` and the append offset `begin`, both in nanoseconds, for the examples of
-- `merge`; `begin` is None if it isn't appended
abbrev pub text : ℤ → Option ℕ → Source
text later begin = ([], input (example_text ∷ []) [] begin (taken 0 17 (codes "S_TEXT/UTF8") later None ∷ []))

-- the append offsets in nanoseconds that `merge` gives the inputs `sources` of an example, or None for an input that isn't appended
abbrev pub begins : List Source → List (Option ℕ)
begins sources = map (λ (s : Source). s.1.shift) (in_place sources)

-- Examples of the ends of small inputs and of the append offsets that `merge` gives them, in nanoseconds.
pub record ArePlaced : Type 0 where
  -- The end is the end of the last block, with its delay.
  pub end : end_of (text (pos 0) None) ≡ 2500000000
  pub earlier : end_of (text (negsuc 999999999) None) ≡ 1500000000
  -- A block that is dropped has no end; without a block an input ends at 0.
  pub dropped : end_of (text (negsuc 1000000000) None) ≡ 0
  pub empty : end_of ([], first []) ≡ 0
  -- Each appended input begins at the end of the previous one; another input begins at 0.
  pub chain : begins (text (pos 0) None ∷ text (pos 0) (Some 0) ∷ text (pos 0) (Some 0) ∷ [])
      ≡ None ∷ Some 2500000000 ∷ Some 5000000000 ∷ []
  pub anew : begins (text (pos 0) None ∷ text (pos 0) None ∷ text (pos 0) (Some 0) ∷ [])
      ≡ None ∷ None ∷ Some 2500000000 ∷ []

-- ---- records

-- the bytes of MuxingApp and WritingApp in a written Info, for the examples of `merge`
abbrev pub applications : List ℕ
applications = (0x4D ∷ 0x80 ∷ 0x8A ∷ codes "mkvsuite 1") ++ (0x57 ∷ 0x41 ∷ 0x8A ∷ codes "mkvsuite 1")

-- the bytes of a written TrackEntry of audio with the TrackNumber `number` and the TrackUID `uid`, for the examples of `merge`
abbrev pub written : ℕ → ℕ → List ℕ
written number uid =
    0xAE ∷ 0x92 ∷ 0xD7 ∷ 0x81 ∷ number ∷ 0x73 ∷ 0xC5 ∷ 0x81 ∷ uid ∷
    0x83 ∷ 0x81 ∷ 2 ∷ 0x86 ∷ 0x86 ∷ codes "A_OPUS"

-- the refusal of a WebM output of the tracks `tracks`, in their order, or None, for the examples of `merge`
abbrev pub webm_refusal : List TakenTrack → Option PlanRefusal
webm_refusal tracks = lanes_refusal true tracks tracks

-- Examples of the Info and Tracks that small merges plan, and of merges that are refused. Used by `records_are_planned_so`.
pub record AreRecords : Type 0 where
  -- The title is the command line's, or else the first title of an input that isn't empty.
  pub said : title_of (words (Some (codes "a"))) (titled (codes "b") ∷ []) ≡ codes "a"
  pub second : title_of (words None) (titled [] ∷ titled (codes "b") ∷ titled (codes "c") ∷ []) ≡ codes "b"
  -- An empty title on the command line removes an input's title, and isn't written.
  pub taken_away : content (info_of (words (Some [])) (titled (codes "b") ∷ []))
      ≡ (0x2A ∷ 0xD7 ∷ 0xB1 ∷ 0x83 ∷ 0x0F ∷ 0x42 ∷ 0x40 ∷ []) ++ applications
  -- Entries get the number of their output track and their identifier in place, and lose ContentEncodings.
  pub tracks : content (tracks_of_output [] (first (audio 5 ∷ []) ∷ first (audio 5 ∷ []) ∷ [])) ≡ written 1 5 ++ written 2 1
  -- An appended input must have equally many tracks of the same kinds.
  pub other_type : append_refusal (first (audio 5 ∷ []) ∷ behind (video 7 ∷ []) ∷ []) ≡ Some (differs_at 1 0x83)
  pub more_tracks : append_refusal (first (audio 5 ∷ []) ∷ behind (audio 5 ∷ audio 6 ∷ []) ∷ [])
      ≡ Some (differs_at 1 0xAE)
  pub alike : append_refusal (first (audio 5 ∷ []) ∷ behind (audio 7 ∷ []) ∷ []) ≡ None
  -- If its frames are taken as they are stored, it must keep the same ContentEncodings.
  pub kept_by_one : append_refusal (first (stored (audio 5) ∷ []) ∷ behind (audio 7 ∷ []) ∷ []) ≡ Some (differs_at 1 0x6D80)
  pub kept_by_both : append_refusal (first (stored (audio 5) ∷ []) ∷ behind (stored (audio 7) ∷ []) ∷ []) ≡ None
  -- A merge needs an output track, and WebM allows only certain codecs.
  pub no_lane : webm_refusal [] ≡ Some NoLane
  pub not_webm : webm_refusal (audio 5 ∷ taken 6 2 (codes "A_AC3") (pos 0) None ∷ [])
      ≡ Some (NotWebm (codes "A_AC3"))
  pub webm : webm_refusal (audio 5 ∷ []) ≡ None
  pub stored_webm : webm_refusal (stored (audio 5) ∷ []) ≡ Some (NotWebm (codes "A_OPUS"))
