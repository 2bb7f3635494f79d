-- The inputs of a merge whose command line names one more timestamp file.
use Rattle.std.proofs.Common.{◌≡◌, ℕ, zero, suc, ◌+◌, Bool, if◌then◌else◌, List, [], ◌∷◌, ◌++◌, map, Some, Result, Ok, Err, refl, sym, ap, ap₂, subst, ◌∙◌, unwrap_or}
use Rattle.std.specs.List.{slice_get, zip}
use Rattle.mkv_io.specs.Faults.{counted}
use Rattle.mkv_io.specs.declared.damage.Damage.{Damage}
use Rattle.mkv_schema.specs.Outline.{Outlined, outline_of}
use Rattle.meta_records.specs.Records.{FileRecords, file_records}
use Rattle.track_records.specs.declared.track.Track.{Track}
use Rattle.requests.specs.declared.merge.FileWords.{FileWords}
use Rattle.input_files.specs.Inputs.{file_names}
use Rattle.input_files.specs.Names.{is_srt}
use Rattle.input_files.specs.TextFile.{srt_text}
use Rattle.input_files.specs.Track.{text_entry}
use Rattle.input_files.specs.declared.refusal.TextRefusal.{TextRefusal}
use Rattle.track_records.specs.Track.{track_of}
use Rattle.merge_inputs.specs.Input.{InputRead, found_then, input_of, input_with, refusal_of, text_then, text_with, input_or_refusal}
use Rattle.merge_inputs.specs.Taken.{taken_from, taken_one}
use Rattle.merge_inputs.specs.declared.input.InputRefusal.{InputRefusal}
use Rattle.merge_inputs.specs.declared.taken.TakenTrack.{TakenTrack}
use Rattle.mkv_io.specs.declared.entry.Entry.{Entry}
use Rattle.merge_plan.specs.Plan.{Source}
use Rattle.mkv_merge.specs.Read.{inputs_from, numbered}
use Rattle.mkv_io.specs.Results.{and_then}
use Rattle.mkv_merge.specs.declared.refusal.Refusal.{Refusal}
use Rattle.times_laws.specs.GivenBack.{World, set_input, untold}
use Rattle.times_laws.proofs.BothLemmas.{Both, both-same, both-then, both-weaker}
use Rattle.times_laws.proofs.AlikeLemmas.{At}

-- ---- result of reading an input

module _ (file : FileWords) where
  taken-untold : (k : ℕ) (tracks : List Track) → taken_from (untold file) k tracks ≡ taken_from file k tracks
  taken-untold k [] = refl
  taken-untold k (t ∷ ts) = ap (λ (rest : List TakenTrack). taken_one file k t ++ rest) (taken-untold (k + 1) ts)

  -- It doesn't depend on the named timestamp files, nor on their tracks.
  input-untold : (webm : Bool) (held : ℕ) (bytes : List ℕ) → input_of (untold file) webm held bytes ≡ input_of file webm held bytes
  input-untold webm held bytes =
      ap₂ (λ (text other : Result InputRead InputRefusal). if is_srt file.name bytes then text else other) (text (srt_text bytes)) (described (outline_of held bytes))
    where
      text : (entries : Result (List Entry) TextRefusal) → text_then entries (text_with (untold file)) ≡ text_then entries (text_with file)
      text (Ok entries) = ap (λ (taken : List TakenTrack). Ok (record (text_with file entries) { taken = taken })) (taken-untold 0 (track_of text_entry ∷ []))
      text (Err why) = refl

      records : (o : Outlined) (found : Result FileRecords Damage)
          → found_then found (λ (r : FileRecords). input_or_refusal (refusal_of (taken_from (untold file) 0 r.tracks)) (input_with (untold file) webm o r))
          ≡ found_then found (λ (r : FileRecords). input_or_refusal (refusal_of (taken_from file 0 r.tracks)) (input_with file webm o r))
      records o (Ok r) = ap (λ (taken : List TakenTrack). input_or_refusal (refusal_of taken) (record (input_with file webm o r) { taken = taken })) (taken-untold 0 r.tracks)
      records o (Err d) = refl

      described : (found : Result Outlined Damage)
          → found_then found (λ (o : Outlined). found_then (file_records bytes o.segment) (λ (r : FileRecords). input_or_refusal (refusal_of (taken_from (untold file) 0 r.tracks)) (input_with (untold file) webm o r)))
          ≡ found_then found (λ (o : Outlined). found_then (file_records bytes o.segment) (λ (r : FileRecords). input_or_refusal (refusal_of (taken_from file 0 r.tracks)) (input_with file webm o r)))
      described (Ok o) = records o (file_records bytes o.segment)
      described (Err d) = refl

input-same : (new old : FileWords) (webm : Bool) (held : ℕ) (bytes : List ℕ) → untold new ≡ untold old → input_of new webm held bytes ≡ input_of old webm held bytes
input-same new old webm held bytes same = sym (input-untold new webm held bytes) ∙ ap (λ (file : FileWords). input_of file webm held bytes) same ∙ input-untold old webm held bytes

-- ---- names

pub names-same : (k : ℕ) (new own : FileWords) (files : List FileWords) → new.name ≡ own.name → slice_get files k ≡ Some own → file_names (set_input k new files) ≡ file_names files
names-same k new own [] name found = refl
names-same zero new own (f ∷ fs) name found = let same : own ≡ f = cc in ap (λ (first : List ℕ). first ∷ file_names fs) (name ∙ ap (λ (file : FileWords). file.name) same)
names-same (suc k) new own (f ∷ fs) name found = ap (λ (rest : List (List ℕ)). f.name ∷ rest) (names-same k new own fs name found)

-- ---- the contents of inputs

-- the contents of the names `names`
abbrev pub held_by : World → List (List ℕ) → List (List ℕ)
held_by world names = map (λ (name : List ℕ). unwrap_or (world name) []) names

-- The inputs that are read are the same, and one of them has the property of every input that is read from its file.
module _ (world : World) (webm : Bool) (timed own : FileWords) (alike : untold timed ≡ untold own) (Good : Source → Type 0)
    (good : (held : ℕ) (i : InputRead) → input_of own webm held (unwrap_or (world own.name) []) ≡ Ok i → Good (unwrap_or (world own.name) [], i)) where
  -- the content of that file
  abbrev bytes : List ℕ
  bytes = unwrap_or (world own.name) []

  -- the result for an input that was read, and for the inputs after it
  abbrev from_one : ℕ → ℕ → List (FileWords × List ℕ) → InputRead → Result (List InputRead) Refusal
  from_one n held files read = and_then (inputs_from webm (suc n) (counted held read.held) files) (λ (reads : List InputRead). Ok (read ∷ reads))

  from-same : (P : List InputRead → List InputRead → Type 0) (n held : ℕ) (files others : List (FileWords × List ℕ)) (new old : InputRead) → new ≡ old
      → Both (λ (a b : List InputRead). P (old ∷ a) (old ∷ b)) (inputs_from webm (suc n) (counted held old.held) files) (inputs_from webm (suc n) (counted held old.held) others)
      → Both P (from_one n held files new) (from_one n held others old)
  from-same P n held files others new old same both =
      subst (λ (i : InputRead). Both P (from_one n held files i) (from_one n held others old)) (sym same)
      (both-then (λ (a b : List InputRead). P (old ∷ a) (old ∷ b)) P (inputs_from webm (suc n) (counted held old.held) files) (inputs_from webm (suc n) (counted held old.held) others)
      (λ (reads : List InputRead). Ok (old ∷ reads)) (λ (reads : List InputRead). Ok (old ∷ reads)) both (λ a b is. is))

  abbrev IsGood : InputRead → InputRead → Type 0
  IsGood new old = (new ≡ old) × Good (bytes, old)

  numbered-good : (n held : ℕ) → Both IsGood (numbered n (input_of timed webm held bytes)) (numbered n (input_of own webm held bytes))
  numbered-good n held =
      subst (λ (r : Result InputRead InputRefusal). Both IsGood (numbered n r) (numbered n (input_of own webm held bytes))) (sym (input-same timed own webm held bytes alike))
      (by_read (input_of own webm held bytes) refl)
    where
      by_read : (r : Result InputRead InputRefusal) → input_of own webm held bytes ≡ r → Both IsGood (numbered n r) (numbered n r)
      by_read (Ok i) is = (refl, good held i is)
      by_read (Err why) is = refl

  numbered-same : (n : ℕ) (r : Result InputRead InputRefusal) → Both (λ (new old : InputRead). new ≡ old) (numbered n r) (numbered n r)
  numbered-same n (Ok i) = refl
  numbered-same n (Err why) = refl

  abbrev pub AreRead : ℕ → List (List ℕ) → List InputRead → List InputRead → Type 0
  AreRead k contents new old = (new ≡ old) × At k Good (zip contents old)

  -- The results are the same if the first input has the option.
  first-same : (n held : ℕ) (files : List (FileWords × List ℕ)) (contents : List (List ℕ))
      → Both (AreRead 0 (bytes ∷ contents)) (and_then (numbered n (input_of timed webm held bytes)) (from_one n held files)) (and_then (numbered n (input_of own webm held bytes)) (from_one n held files))
  first-same n held files contents =
      both-then IsGood (AreRead 0 (bytes ∷ contents)) (numbered n (input_of timed webm held bytes)) (numbered n (input_of own webm held bytes)) (from_one n held files) (from_one n held files) (numbered-good n held)
      (λ new old is. from-same (AreRead 0 (bytes ∷ contents)) n held files files new old is.0
      (both-same (λ (a b : List InputRead). AreRead 0 (bytes ∷ contents) (old ∷ a) (old ∷ b)) (inputs_from webm (suc n) (counted held old.held) files) (λ x made. (refl, is.1))))

  pub inputs-same : (k n held : ℕ) (files : List FileWords) → slice_get files k ≡ Some own
      → Both (AreRead k (held_by world (file_names files))) (inputs_from webm n held (zip (set_input k timed files) (held_by world (file_names files)))) (inputs_from webm n held (zip files (held_by world (file_names files))))
  inputs-same k n held [] found = absurd (cc)
  inputs-same zero n held (f ∷ fs) found =
      let same : own ≡ f = cc in
      subst (λ (each : FileWords). Both (AreRead 0 (held_by world (file_names (each ∷ fs)))) (inputs_from webm n held (zip (timed ∷ fs) (held_by world (file_names (each ∷ fs))))) (inputs_from webm n held (zip (each ∷ fs) (held_by world (file_names (each ∷ fs)))))) same
      (first-same n held (zip fs (held_by world (file_names fs))) (held_by world (file_names fs)))
  inputs-same (suc k) n held (f ∷ fs) found =
      let content : List ℕ = unwrap_or (world f.name) [] in
      let contents : List (List ℕ) = held_by world (file_names fs) in
      both-then (λ (new old : InputRead). new ≡ old) (AreRead (suc k) (content ∷ contents)) (numbered n (input_of f webm held content)) (numbered n (input_of f webm held content))
      (from_one n held (zip (set_input k timed fs) contents)) (from_one n held (zip fs contents)) (numbered-same n (input_of f webm held content))
      (λ new old same. from-same (AreRead (suc k) (content ∷ contents)) n held (zip (set_input k timed fs) contents) (zip fs contents) new old same
      (both-weaker (AreRead k contents) (λ (a b : List InputRead). AreRead (suc k) (content ∷ contents) (old ∷ a) (old ∷ b))
      (inputs_from webm (suc n) (counted held old.held) (zip (set_input k timed fs) contents)) (inputs_from webm (suc n) (counted held old.held) (zip fs contents))
      (λ a b is. (ap (λ (reads : List InputRead). old ∷ reads) is.0, is.1)) (inputs-same k (suc n) (counted held old.held) fs found)))
