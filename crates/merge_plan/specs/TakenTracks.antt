-- The sources of an output track's blocks, and of the attached files of an output. The rule is this project's.
use Rattle.std.specs.Prelude.{◌≡◌, ◌≤◌, ⊤, ℕ, ◌+◌, Bool, false, List, [], ◌∷◌, ◌++◌, length, map, slice_get, IfSome, Option}
use Rattle.std.specs.List.{All, AllZip, enumerate_from, range_with_len}
use Rattle.std.specs.Option.{option_to_list}
use Rattle.mkv_schema.specs.declared.ids.TheConstants.{CHAPTERS, TAGS}
use Rattle.ebml_tree.specs.Building.{IsRead}
use Rattle.track_records.specs.Usable.{prefix_for}
use Rattle.meta_records.specs.Walk.{IsAttachedIn}
use Rattle.element_reader.specs.Outline.{FileOutline}
use Rattle.mkv_io.specs.declared.entry.Entry.{Entry}
use Rattle.text_formats.specs.Reading.{AreWithin}
use Rattle.input_files.specs.declared.limits.TheConstants.{MAX_SRT_LEN}
use Rattle.output_model.specs.declared.TheConstants.{MAX_PREFIX_LEN}
use Rattle.merge_model.specs.FileLinks.{listing_of}
use Rattle.merge_model.specs.declared.limits.TheConstants.{MAX_SHIFT}
use Rattle.output_model.specs.declared.rule.CueRule.{CueRule}
use Rattle.output_model.specs.declared.rule.CueRule.TheVariants.{Never}
use Rattle.merge_model.specs.declared.link.Link.{Link}
use Rattle.merge_model.specs.declared.link.Link.TheVariants.{Track, Entries}
use Rattle.merge_model.specs.declared.link.TextLink.{TextLink}
use Rattle.merge_model.specs.declared.link.TrackLink.{TrackLink}
use Rattle.splitter.specs.Split.{is_driver}
use Rattle.remux_plan.specs.Parts.{drivers_of}
use Rattle.remux_plan.specs.declared.plan.PlannedLane.{PlannedLane}
use Rattle.merge_inputs.specs.Taken.{IsTaken, value_for}
use Rattle.merge_inputs.specs.declared.input.Blocks.{Blocks}
use Rattle.merge_inputs.specs.declared.input.Blocks.TheVariants as held_by
use Rattle.merge_inputs.specs.declared.input.Input.{Input}
use Rattle.merge_inputs.specs.declared.taken.TakenTrack.{TakenTrack}
use Rattle.merge_inputs.specs.Input.{read_in}
use Rattle.merge_plan.specs.Chains.{at_place, lanes_by}
use Rattle.merge_plan.specs.Plan.{append_offset, rule_of}
use Rattle.merge_plan.specs.Records.{is_appended, ordered}
use Rattle.ext_times.specs.Listing.{Listing}

-- a selected track, its opened input, and the input's number, counted from 0. A list of spots is what an output track consists of. Used by `spot`,
-- `spots_in` and others.
pub record Spot : Type 0 where
  pub number : ℕ
  pub input : Input
  pub track : TakenTrack

-- the selected track `t` of the input `i`, which has the number `number`, counted from 0. `spots_in` uses it.
abbrev pub spot : ℕ → Input → TakenTrack → Spot
spot number i t = record { number = number; input = i; track = t }

-- the selected tracks of an opened input, which is given with its number, counted from 0. `spots_from` uses them.
abbrev pub spots_in : ℕ × Input → List Spot
spots_in each = map (spot each.0 each.1) each.1.taken

-- The opened input `i` is appended to the previous one, and so continues its output tracks. `appended` and `spots_from` use it.
abbrev pub goes_on : Input → Bool
goes_on i = is_appended (read_in i)

-- for each output track the selected tracks that it consists of; the first of `inputs` has the number `number`, counted from 0. `AreLanesOf` uses
-- them.
abbrev pub spots_from : ℕ → List Input → List (List Spot)
spots_from number inputs = lanes_by (λ (each : ℕ × Input). goes_on each.1) spots_in (enumerate_from number inputs)

-- the selected track at index `place`, counted from 0, of an input that is given with its number, if it has one. The contract of `go_on` uses it.
abbrev pub spots_at : ℕ → ℕ × Input → List Spot
spots_at place each = option_to_list (slice_get (spots_in each) place)

-- the selected tracks at index `place`, counted from 0, of the inputs `others`, which are appended to one and have numbers from `number`. They
-- continue its output track. The contract of `lane_of` uses them.
abbrev pub spots_behind : ℕ → ℕ → List Input → List Spot
spots_behind place number others = at_place place (map spots_in (enumerate_from number others))

-- the timestamps of the frames of the selected track `t` of the input `i`, if a timestamp file lists them. The contract of `times_of` uses them.
abbrev pub times_listed : Input → TakenTrack → Option Listing
times_listed i t = value_for t.id (read_in i).times

-- `link` reads the selected track `t` of the input `i`, whose file has the outline `read` and `nanoseconds` nanoseconds in a tick. At most
-- MAX_PREFIX_LEN bytes are put before each frame. If `b`, the links after it are read even if damage ends its reading. Used by the
-- contract of `track_of`.
pub record IsLinkOf (b : Bool) (i : Input) (read : FileOutline) (nanoseconds : ℕ) (t : TakenTrack) (link : TrackLink) : Type 0 where
  pub file : link.file ≡ i.file
  pub outline : link.outline.value ≡ read
  pub number : link.number ≡ t.track.number
  pub scale : link.scale ≡ nanoseconds
  pub default_duration : link.default_duration ≡ t.track.default_duration
  pub delay : link.delay ≡ t.delay
  pub shift : link.shift ≡ append_offset (read_in i)
  pub prefix : link.prefix ≡ prefix_for t.track
  pub times : listing_of link ≡ times_listed i t
  pub on : link.goes_on ≡ b
  pub short : length link.prefix ≤ MAX_PREFIX_LEN

-- `link` reads the selected track `t` of the input `i`, which is a text with the entries `read`. Used by the contract of `text_of`.
pub record IsTextOf (i : Input) (read : List Entry) (t : TakenTrack) (link : TextLink) : Type 0 where
  pub entries : link.entries ≡ read
  pub delay : link.delay ≡ t.delay
  pub shift : link.shift ≡ append_offset (read_in i)

-- The link reads the selected track `t` of the input `i`, a file with Clusters or a text, as the third argument gives it. If `b`, the links after it
-- are read even if damage ends its reading. Used by `IsLink`.
abbrev pub IsLinkBy : Bool → Input → Blocks → TakenTrack → Link → Type 0
IsLinkBy b i (held_by.Clusters outline scale) t (Track link) = IsLinkOf b i outline.value scale t link
IsLinkBy b i (held_by.Clusters outline scale) t (Entries text) = ⊥
IsLinkBy b i (held_by.Entries entries) t (Track link) = ⊥
IsLinkBy b i (held_by.Entries entries) t (Entries text) = IsTextOf i entries t text

-- `link` reads the selected track `t` of the input `i`. If `b`, the links after it are read even if damage ends its reading. Used by the contract of
-- `link_of`.
abbrev pub IsLink : Bool → Input → TakenTrack → Link → Type 0
IsLink b i t link = IsLinkBy b i i.blocks t link

-- `link` reads the selected track `s`. If `b`, the links after it are read even if damage ends its reading. Used by `IsLaneOf`.
abbrev pub IsLinkAt : Bool → Spot → Link → Type 0
IsLinkAt b s link = IsLink b s.input s.track link

-- `links` read the selected tracks of the input `i`, one each. Used by the contract of `links_of`.
abbrev pub AreLinksOf : Input → List Link → Type 0
AreLinksOf i links = AllZip (IsLink false i) i.taken links

-- the rule for cue points of an output track that consists of the given selected tracks: the rule of the first. Used by `IsLaneOf`.
abbrev pub rule_at : List Spot → CueRule
rule_at [] = Never
rule_at (s ∷ spots) = rule_of s.track

-- The output track `new` is `old`, continued with the selected tracks `spots`. If `b`, damage in them doesn't end it. Used by the contract of
-- `go_on`.
pub record GoesOn (b : Bool) (spots : List Spot) (old new : PlannedLane) : Type 0 where
  pub more : List Link
  pub links : new.spec.links ≡ old.spec.links ++ more
  pub are : AllZip (IsLinkAt b) spots more
  pub inputs : new.inputs ≡ old.inputs ++ map (λ (s : Spot). s.number) spots
  pub rule : new.cues ≡ old.cues

-- The output track `l` consists of the selected tracks `spots`, in sequence. If `b`, damage in them doesn't end it. Used by the contract of
-- `lane_of`.
pub record IsLaneOf (b : Bool) (spots : List Spot) (l : PlannedLane) : Type 0 where
  pub links : AllZip (IsLinkAt b) spots l.spec.links
  pub inputs : l.inputs ≡ map (λ (s : Spot). s.number) spots
  pub rule : l.cues ≡ rule_at spots

-- The planned output tracks `lanes` consist of the selected tracks of `inputs`, in the order of the tracks that begin them. If `b`, damage doesn't end
-- them. Used by the contract of `lanes_of`.
abbrev pub AreLanesOf : Bool → List Input → List PlannedLane → Type 0
AreLanesOf b inputs lanes = AllZip (IsLaneOf b) (spots_from 0 inputs) lanes

-- for each output track of a merge of `inputs` the selected tracks that it consists of, in the order of the output, which `order` gives.
-- `AreOutputLanes` uses them.
abbrev pub spots_ordered : List (ℕ × ℕ) → List Input → List (List Spot)
spots_ordered order inputs = ordered order (map read_in inputs) (spots_from 0 inputs)

-- The planned output tracks `lanes` consist of the selected tracks of `inputs`, in the order of the output, which `order` gives. If `b`, damage doesn't
-- end them. Used by the contract of `output_lanes`.
abbrev pub AreOutputLanes : Bool → List (ℕ × ℕ) → List Input → List PlannedLane → Type 0
AreOutputLanes b order inputs lanes = AllZip (IsLaneOf b) (spots_ordered order inputs) lanes

-- the output tracks in a list, each with the statement whether its keyframes allow a cut. `videos` has for each output track whether it is a video
-- track; the first of the list is number `k` among them, counted from 0. The contract of `driven` uses them.
abbrev pub driven_from : List Bool → ℕ → List PlannedLane → List PlannedLane
driven_from videos k [] = []
driven_from videos k (lane ∷ lanes) = record lane { drives = is_driver videos k } ∷ driven_from videos (k + 1) lanes

-- Each of the output tracks `lanes` states whether its keyframes allow a cut; `videos` has for each whether it is a video track. Used by the contract
-- of `output_lanes`.
abbrev pub AreDriven : List Bool → List PlannedLane → Type 0
AreDriven videos lanes = drivers_of lanes ≡ map (is_driver videos) (range_with_len 0 (length lanes))

-- If the blocks of an input are a text's, its entries are within the limits of a text file. Used by `HasTaken`.
abbrev pub IsShortText : Blocks → Type 0
IsShortText (held_by.Clusters outline scale) = ⊤
IsShortText (held_by.Entries entries) = AreWithin MAX_SRT_LEN entries

-- The selected tracks of the input `i` can be copied, and a text is within its limits. The plan of a merge requires it of each input. Used by
-- `output_of`, `records_for` and others.
pub record HasTaken (i : Input) : Type 0 where
  pub taken : All IsTaken i.taken
  pub text : IsShortText i.blocks

-- The append offset of the input `i` is within the limit of a link. The plan of a merge requires it of each input. Used by `end_of`, `shift_behind`
-- and others.
abbrev pub HasPlace : Input → Type 0
HasPlace i = append_offset (read_in i) ≤ MAX_SHIFT

-- The data of the attached files of the input `i` are in its file, and its Chapters and Tags were read. The plan of a merge requires it of each
-- input. Used by `output_of`, `records_for` and others.
pub record HasRecords (i : Input) : Type 0 where
  pub attachments : All (IsAttachedIn i.file i.len) i.attachments
  pub chapters : IfSome i.chapters (IsRead CHAPTERS)
  pub tags : IfSome i.tags (IsRead TAGS)
