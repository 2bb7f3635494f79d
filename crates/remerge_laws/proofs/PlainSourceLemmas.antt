-- The sources of a merge are plain.
use Rattle.std.proofs.Common.{◌≡◌, ℕ, Bool, true, false, not, ◌&&◌, ◌||◌, ◌==◌, if◌then◌else◌, List, [], ◌∷◌, All, Option, Some, None, Ok, refl, ap, subst}
use Rattle.std.specs.List.{list_all, list_any}
use Rattle.std.proofs.lemmas.List.Elements.{All-nil, All-weaker}
use Rattle.std.proofs.lemmas.Option.{IfSome_then}
use Rattle.tree_format.specs.Text.{HasNoZero}
use Rattle.word_values.specs.Values.{text}
use Rattle.requests.specs.declared.track.CueWord.{CueWord}
use Rattle.requests.specs.declared.merge.FileWords.{FileWords}
use Rattle.requests.specs.declared.merge.MergeWords.{MergeWords}
use Rattle.mkv_args.specs.declared.command.Command.TheVariants.{Merge}
use Rattle.mkv_args.proofs.SoundLemmas.{command-sound}
use Rattle.mkv_args.proofs.TextLemmas.{asked-texts}
use Rattle.word_laws.specs.Laws.{TitlesAreTexts}
use Rattle.merge_inputs.specs.Input.{InputRead, input_of}
use Rattle.merge_inputs.specs.Taken.{value_for}
use Rattle.merge_plan.specs.Front.{reads_of}
use Rattle.merge_plan.specs.Plan.{Source}
use Rattle.merge_plan.specs.Records.{tracks_taken}
use Rattle.mkv_merge.specs.Merge.{sources_of}
use Rattle.merge_laws.specs.Laws.{SourcesAreRead}
use Rattle.merge_laws.specs.Sources.{IsReadSource}
use Rattle.merge_laws.proofs.DocumentLemmas.{title-is, tracks-are}
use Rattle.merge_laws.proofs.HeldLemmas.{sources-held}
use Rattle.merge_laws.proofs.SourceLemmas.{input-taken, taken-all}
use Rattle.remerge_laws.specs.PlainSources.{SourcesArePlain}
use Rattle.track_records.specs.Usable.{as_stored}
use Rattle.merge_inputs.specs.declared.taken.TakenTrack.{TakenTrack}
use Rattle.remerge_laws.specs.Repeat.{IsDefault}
use Rattle.remerge_laws.proofs.RepeatTrackLemmas.{HasUsualCues}

-- ---- the title

none-zero : (octets : List ℕ) → list_any (λ b. b == 0) octets ≡ false → HasNoZero octets
none-zero [] none = refl
none-zero (o ∷ os) none = of (o == 0) none (none-zero os)
  where
    of : (zero : Bool) → (zero || list_any (λ b. b == 0) os) ≡ false → (list_any (λ b. b == 0) os ≡ false → HasNoZero os) → (not zero && list_all (λ octet. not (octet == 0)) os) ≡ true
    of true none rest = absurd (cc)
    of false none rest = rest none

title-whole : (title : List ℕ) → text title ≡ Some title → HasNoZero title
unfolding text
title-whole title is = of (list_any (λ b. b == 0) title) refl is
  where
    of : (zero : Bool) → list_any (λ b. b == 0) title ≡ zero → (if zero then None else Some title) ≡ Some title → HasNoZero title
    of true some is = absurd (cc)
    of false none is = none-zero title none

-- ---- cue points and frames

-- The selected track `t` has default cue points, and its frames aren't taken as they are stored.
abbrev IsUsual : TakenTrack → Type 0
IsUsual t = HasUsualCues t × (t.track.stored ≡ false)

-- The words `f` of an input ask for no cue points, and take no track as it is stored.
abbrev HasUsualWords : FileWords → Type 0
HasUsualWords f = (f.cues ≡ []) × (f.keep_encodings ≡ false)

-- The selected tracks of an input have default cue points, and their frames aren't taken as they are stored. The number of its tracks doesn't count.
abbrev HaveUsualCues : ℕ → List TakenTrack → Type 0
HaveUsualCues count taken = All IsUsual taken

input-usual : (words : FileWords) (webm : Bool) (held : ℕ) (bytes : List ℕ) (read : InputRead) → HasUsualWords words → input_of words webm held bytes ≡ Ok read → All IsUsual read.taken
input-usual words webm held bytes read none is =
    let found = input-taken words webm held bytes read is in
    subst (All IsUsual) found.1.0
    (taken-all IsUsual words 0 found.0 (λ k t took. (ap (λ (pairs : List (ℕ × CueWord)). value_for k pairs) none.0, ap (λ (keep : Bool). keep && (as_stored t).stored) none.1)))

cues-usual : (world : List ℕ → Option (List ℕ)) (words : MergeWords) (sources : List Source) → IsDefault words → sources_of world words ≡ Ok sources → All IsUsual (tracks_taken (reads_of sources))
cues-usual world words sources usual is =
    tracks-are IsUsual sources
    (sources-held HaveUsualCues (All-nil IsUsual) HasUsualWords input-usual world words sources (λ k d below. (usual.cues k d below, usual.undone k d below)) is)

-- ---- together

pub sources-plain : TitlesAreTexts → SourcesAreRead → SourcesArePlain
sources-plain titles read world line words sources holds utf8 asked usual is =
    let are = read world words sources holds (command-sound line (Merge words) asked) (asked-texts line words utf8 asked) is in
    record {
      cues = All-weaker IsUsual HasUsualCues (λ t each. each.0) (tracks_taken (reads_of sources)) (cues-usual world words sources usual is);
      undone = All-weaker IsUsual (λ (t : TakenTrack). t.track.stored ≡ false) (λ t each. each.1) (tracks_taken (reads_of sources)) (cues-usual world words sources usual is);
      title = title-is HasNoZero refl words sources (IfSome_then words.title (titles line words asked) title-whole)
          (All-weaker IsReadSource (λ (s : Source). HasNoZero s.1.title) (λ s each. each.whole) sources are.each);
    }
