-- An identification has only whole numbers.
use Rattle.std.proofs.Common.{◌≡◌, ℕ, ◌+◌, ◌==◌, Bool, true, false, ◌||◌, if◌then◌else◌, List, [], ◌∷◌, ◌++◌, Option, Some, None, refl, ap₂}
use Rattle.std.specs.Option.{option_map}
use Rattle.serde_json.specs.Data.{Data, Members, string}
use Rattle.serde_json.specs.View.{items_of}
use Rattle.serde_json.specs.Written.{has_float, items_have_float, members_have_float}
use Rattle.mkv_schema.specs.declared.ids.TheConstants.{LANGUAGE_BCP47, NAME}
use Rattle.tree_format.specs.Node.{Node}
use Rattle.tree_format.specs.Values.{text_in}
use Rattle.track_records.specs.declared.track.Track as tracks
use Rattle.meta_records.specs.Records.{FileRecords}
use Rattle.mkv_info.specs.declared.tags.Scope.TheVariants.{Global, Track}
use Rattle.mkv_info.specs.Json.{array_of, numbered, whole, with_first}
use Rattle.mkv_info.specs.Texts.{text_or_empty, unless_empty}
use Rattle.mkv_info.specs.Attachments.{attachment_value}
use Rattle.mkv_info.specs.Chapters.{chapter_count, entries_value}
use Rattle.mkv_info.specs.Tags.{counted_tags, tag_count, track_tags}
use Rattle.mkv_info.specs.ToldTracks.{dimensions_of, track_value}
use Rattle.mkv_info.specs.Identification.{container_value, identification, title_of}

neither : (a b : Bool) → a ≡ false → b ≡ false → a || b ≡ false
neither a b first second = ap₂ (λ x y. x || y) first second

-- A member that may be left out has no float, if the members after it have none.
left_out : {A : Type 0} (f : A → Data) → ((x : A) → has_float (f x) ≡ false) → (key : List ℕ) (value : Option A) (ms : Members) → members_have_float ms ≡ false → members_have_float (with_first key (option_map f value) ms) ≡ false
left_out f none key None ms others = others
left_out f none key (Some x) ms others = neither _ _ (none x) others

items_append : (a b : List Data) → items_have_float (items_of a) ≡ false → items_have_float (items_of b) ≡ false → items_have_float (items_of (a ++ b)) ≡ false
items_append [] b none others = others
items_append (d ∷ ds) b none others = step (has_float d) (items_have_float (items_of ds)) none (λ rest. items_append ds b rest others)
  where
    step : (x y : Bool) → x || y ≡ false → (y ≡ false → items_have_float (items_of (ds ++ b)) ≡ false) → x || items_have_float (items_of (ds ++ b)) ≡ false
    step true y is rest = absurd (cc)
    step false y is rest = rest is

each_shown : {A : Type 0} (shown : ℕ → A → List Data) → ((k : ℕ) (x : A) → items_have_float (items_of (shown k x)) ≡ false) → (k : ℕ) (xs : List A) → has_float (array_of (numbered shown k xs)) ≡ false
each_shown shown none k [] = refl
each_shown shown none k (x ∷ xs) = items_append (shown k x) (numbered shown (k + 1) xs) (none k x) (each_shown shown none (k + 1) xs)

choice : (none : Bool) (d : Data) → has_float d ≡ false → items_have_float (items_of (if none then [] else d ∷ [])) ≡ false
choice true d is = refl
choice false d is = neither _ _ is refl

entries_none : (n : ℕ) → has_float (entries_value n) ≡ false
entries_none n = choice (n == 0) _ refl

track_none : (k : ℕ) (t : tracks.Track) → has_float (track_value k t) ≡ false
track_none k t =
    neither _ _
    (left_out whole (λ n. refl) _ t.default_duration _
    (left_out (λ s. string s) (λ s. refl) _ (text_in LANGUAGE_BCP47 t.entry) _
    (left_out (λ s. string s) (λ s. refl) _ (dimensions_of t.entry) _
    (left_out (λ s. string s) (λ s. refl) _ (unless_empty (text_or_empty NAME t.entry)) _ refl))))
    refl

tags_none : (tags : Option Node) (k : ℕ) (t : tracks.Track) → items_have_float (items_of (track_tags tags k t)) ≡ false
tags_none tags k t = choice (tag_count (Track t.uid) tags == 0) (counted_tags (tag_count (Track t.uid) tags) k) refl

container_none : (info : Option Node) → has_float (container_value info) ≡ false
container_none info = neither _ _ (left_out (λ s. string s) (λ s. refl) _ (title_of info) _ refl) refl

-- The identification has no float, so its text is exactly known.
pub no-float : (name : List ℕ) (file : FileRecords) → has_float (identification name file) ≡ false
unfolding identification
no-float name file =
    neither _ _ (each_shown (λ k a. attachment_value k a ∷ []) (λ k a. refl) 1 file.attachments)
    (neither _ _ (entries_none (chapter_count file.chapters))
    (neither _ _ (container_none file.info)
    (neither _ _ (entries_none (tag_count Global file.tags))
    (neither _ _ (each_shown (track_tags file.tags) (tags_none file.tags) 0 file.tracks)
    (neither _ _ (each_shown (λ k t. track_value k t ∷ []) (λ k t. neither _ _ (track_none k t) refl) 0 file.tracks) refl)))))
