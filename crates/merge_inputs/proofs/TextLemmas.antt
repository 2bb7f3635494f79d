-- A text that is read.
use Rattle.std.proofs.Common.{◌≡◌, ℕ, min, Bool, true, false, ◌&&◌, if◌then◌else◌, List, [], ◌∷◌, ◌++◌, length, take, None, refl, sym, ◌∙◌, ap, arith, nat_eq}
use Rattle.std.specs.Cmp.Lexicographic.{pointwise}
use Rattle.std.specs.List.{All}
use Rattle.std.proofs.Math.Seq.{take-append_seam}
use Rattle.std.proofs.lemmas.List.{append-nil, length-take, take_min}
use Rattle.std.proofs.lemmas.List.Elements.{All-cons, All-nil, All-same, All-weaker}
use Rattle.mkv_io.specs.Contents.{octets_from}
use Rattle.mkv_schema.specs.Outline.{first_damage}
use Rattle.mkv_schema.proofs.ElementLemmas.{take-take_min}
use Rattle.tree_format.specs.Node.{HasRoom}
use Rattle.track_records.specs.Entry.{IsWholeEntry}
use Rattle.file_format.specs.Encoding.{usable_causes}
use Rattle.file_format.specs.Tracks.{IsTrack}
use Rattle.track_records.specs.Sound.{IsEntry}
use Rattle.track_records.specs.Track.{track_of}
use Rattle.track_records.specs.Usable.{as_stored, causes_of}
use Rattle.track_records.specs.declared.track.Track.{Track}
use Rattle.meta_records.specs.Records.{AreRead}
use Rattle.input_files.specs.Names.{begins_ebml}
use Rattle.input_files.specs.Track.{text_entry}
use Rattle.input_files.proofs.TextFacts.{is_usable}
use Rattle.requests.specs.declared.merge.FileWords.{FileWords}
use Rattle.merge_inputs.specs.Select.{is_taken}
use Rattle.merge_inputs.specs.Taken.{first_unusable, taken_from, taken_track, track_for}

-- The first four bytes decide whether a file begins with an EBML header.
pub first-four : (bytes into rest : List ℕ) (m known : ℕ) → known ≡ min (length bytes) 4 → m ≡ known → into ≡ octets_from bytes 0 m → begins_ebml (take known (into ++ rest)) ≡ begins_ebml bytes
first-four bytes into rest m known few same is =
    let whole : into ≡ take known bytes = is ∙ ap (λ n. take n bytes) same in
    let long : length into ≡ known = ap length whole ∙ length-take known bytes ∙ omega arith in
    let front : take known (into ++ rest) ≡ into = ap (λ n. take n (into ++ rest)) (sym long) ∙ take-append_seam into rest in
    let fewer : min 4 known ≡ min 4 (length bytes) = omega arith in
    let four : take 4 (take known bytes) ≡ take 4 bytes = take-take_min 4 known bytes ∙ ap (λ n. take n bytes) fewer ∙ take_min 4 bytes in
    ap begins_ebml (front ∙ whole) ∙ ap (pointwise nat_eq (0x1A ∷ 0x45 ∷ 0xDF ∷ 0xA3 ∷ [])) four

-- The track of a text agrees with its entry, which is valid.
pub text-read : (tracks : List Track) → tracks ≡ track_of text_entry ∷ [] → All (λ (t : Track). IsWholeEntry t.entry) tracks → All (λ (t : Track). IsTrack t.entry) tracks → AreRead tracks
text-read tracks is whole each = record {
  said = All-same (λ (t : Track). t ≡ track_of t.entry) tracks (track_of text_entry ∷ []) is (All-cons (λ (t : Track). t ≡ track_of t.entry) (track_of text_entry) [] refl (All-nil (λ (t : Track). t ≡ track_of t.entry)));
  sound = All-weaker (λ (t : Track). IsWholeEntry t.entry) (λ (t : Track). IsEntry t.entry) (λ t w. record { id = w.id; sound = w.sound }) tracks whole;
  each = each;
  room = All-weaker (λ (t : Track). IsWholeEntry t.entry) (λ (t : Track). HasRoom t.entry) (λ t w. w.room) tracks whole;
}

-- The frames of a text can be used, whatever the options are.
pub text-usable : (words : FileWords) → first_unusable (taken_from words 0 (track_of text_entry ∷ [])) ≡ None
text-usable words = one (is_taken words 0 (track_of text_entry).kind)
  where
    own : (keep : Bool) → causes_of (record (track_of text_entry) { stored = keep && (as_stored (track_of text_entry)).stored }) ≡ usable_causes text_entry
    own true = refl
    own false = refl

    one : (b : Bool) → first_unusable ((if b then taken_track words 0 (track_of text_entry) ∷ [] else []) ++ []) ≡ None
    one true = ap first_damage (append-nil (causes_of (track_for words (track_of text_entry))) ∙ own words.keep_encodings) ∙ is_usable
    one false = refl
