-- The start and end of an output.
use Rattle.std.proofs.Common.{◌≡◌, ◌<◌, ℕ, zero, suc, List, [], ◌∷◌, ◌++◌, length, map, All, get_or, true, false, Result, ◌⊎◌, inl, inr, refl, sym, ap, ◌∙◌, arith}
use Rattle.mkv_io.specs.declared.outside.FileId.{FileId}
use Rattle.mkv_io.specs.Contents.{with_appended}
use Rattle.mkv_io.specs.Asked.{AsksFor}
use Rattle.mkv_io.specs.LiveFiles.{LiveFiles}
use Rattle.mkv_io.specs.Names.{Names, with_change, with_content}
use Rattle.mkv_io.specs.Seen.{IsNewFile, ReadsNothing, SameLive, StaysAtClosing, StaysAtMaking}
use Rattle.mkv_io.specs.Sources.{live_files, file_size}
use Rattle.mkv_io.specs.Told.{IfVisible}
use Rattle.mkv_io.specs.Writing.{KeepsOthers}
use Rattle.mkv_io.specs.declared.asked.Asked.TheVariants.{Made}
use Rattle.mkv_io.specs.declared.reads.Reads.{Ghosts}
use Rattle.mkv_io.specs.declared.files.Files as writing
use Rattle.mkv_io.proofs.AskedLemmas.{asks-made}
use Rattle.mkv_outputs.specs.Sinks.{EndsOnly}
use Rattle.mkv_outputs.specs.Starts.{ArePrefixes}
use Rattle.mkv_outputs.specs.Written.{PassesSome}
use Rattle.tree_format.specs.Node.{id_of, IsMaster}
use Rattle.mkv_schema.specs.declared.ids.TheConstants.{ATTACHED_FILE}
use Rattle.output_model.specs.Document.{opened_with}
use Rattle.output_model.specs.declared.attachment.Attachment.{Attachment}
use Rattle.output_model.specs.Attached.{octets_told, attached_file, with_data}
use Rattle.output_model.specs.declared.front.Front.{Front}
use Rattle.cues_seekhead.specs.declared.front.Opening.{Opening}
use Rattle.cues_seekhead.specs.Attached.{HaveData}
use Rattle.cues_seekhead.specs.Front.{IsOpening}
use Rattle.output_model.specs.Front.{front_with}
use Rattle.cues_seekhead.proofs.FrontLemmas.{opening-octets, opening-seeks, opening-long}
use Rattle.cues_seekhead.specs.Made.{MakesFile}
use Rattle.cues_seekhead.specs.OpenOutput.{OpenOutput, CanAttach, Knows}
use Rattle.cues_seekhead.proofs.AppendingLemmas.{length-octets_told}
use Rattle.cues_seekhead.proofs.AttachingLemmas.{attached_octets}
use Rattle.cues_seekhead.proofs.DraftLemmas.{appended-to}

-- ---- a file is created, or not

pub KeepsOthers-unmade : {S T E : Type 0} (r : Ghosts S) (f : writing.Ghosts S) (name : List ℕ) (old new : S) (result : Result T E) → ((file : ℕ) → (live_files r old).live file ≡ true → file < f.given old)
    → SameLive r old new → StaysAtMaking r f.holder f.given old new name → AsksFor (Made name) (f.asked old) (f.asked new) result → KeepsOthers r f (name ∷ []) old new
KeepsOthers-unmade r f name old new result numbered alive stays asks = record {
  live = alive;
  given = stays.given;
  holders = stays.holders;
  others = λ file is. record {
    alive = alive file;
    size = λ live. (stays.others file (numbered file live, λ same. is.0 (sym same))).size live;
    content = λ live. (stays.others file (numbered file live, λ same. is.0 (sym same))).content live;
  };
  asks = asks-made [] name (f.asked old) (f.asked new) result asks;
}

pub MakesFile-created : {S T E : Type 0} (r : Ghosts S) (f : writing.Ghosts S) (name : List ℕ) (file : FileId) (old new : S) (result : Result T E) → ((other : ℕ) → (live_files r old).live other ≡ true → other < f.given old)
    → IsNewFile r f.holder f.given old new name file → StaysAtMaking r f.holder f.given old new name → AsksFor (Made name) (f.asked old) (f.asked new) result → MakesFile r f name file old new
MakesFile-created r f name file old new result numbered is_new stays asks = record {
  newer = is_new.number.0;
  live = is_new.live;
  holder = is_new.holder;
  besides = is_new.alone;
  given = stays.given;
  holders = stays.holders;
  others = λ other is. stays.others other (numbered other is.0, λ same. is.1.0 (sym same));
  asks = asks-made [] name (f.asked old) (f.asked new) result asks;
}

-- A file is closed.
pub EndsOnly-one : {S : Type 0} (r : Ghosts S) (f : writing.Ghosts S) (old new : S) (file : FileId) → (live_files r new).live file.n ≡ false → StaysAtClosing r f.names f.holder f.given f.writing_faults f.asked old new file → ReadsNothing r old new
    → EndsOnly r f old new (file ∷ [])
EndsOnly-one r f old new file ended stays unread = record {
  ended = at;
  others = λ other none. stays.others other (λ same. none 0 file (omega arith) (sym same));
  names = stays.names;
  given = stays.given;
  holders = stays.holders;
  asked = stays.asks;
  writing = stays.writing;
  reading = unread.reading;
  octets = unread.octets;
}
  where
    at : (k : ℕ) (d : FileId) → k < 1 → (live_files r new).live (get_or (file ∷ []) k d).n ≡ false
    at zero d below = ended
    at (suc k) d below = absurd (omega arith)

-- ---- files that can be attached

pub CanAttach-created : {S : Type 0} (r : Ghosts S) (f : writing.Ghosts S) (name : List ℕ) (file : FileId) (old new : S) (it : Attachment) → ((other : ℕ) → (live_files r old).live other ≡ true → other < f.given old) → MakesFile r f name file old new → CanAttach r f old name it → CanAttach r f new (f.holder new file.n) it
CanAttach-created r f name file old new it numbered made can =
    let same = made.others it.file.n (can.live, (λ same. can.apart (sym same), tt)) in
    record {
      id = can.id;
      master = can.master;
      live = same.alive ∙ can.live;
      inside = omega (arith, can.inside, same.size can.live);
      apart = λ equal. can.apart (sym (made.holders it.file.n can.live) ∙ equal ∙ made.holder);
    }

attached-created : {S : Type 0} (r : Ghosts S) (f : writing.Ghosts S) (name : List ℕ) (file : FileId) (old new : S) (it : Attachment) → MakesFile r f name file old new → CanAttach r f old name it → attached_file (live_files r new) it ≡ attached_file (live_files r old) it
attached-created r f name file old new it made can =
    ap (λ content. with_data (octets_told content it.at it.len) it.entry) ((made.others it.file.n (can.live, (λ same. can.apart (sym same), tt))).content can.live)

pub attached-all-created : {S : Type 0} (r : Ghosts S) (f : writing.Ghosts S) (name : List ℕ) (file : FileId) (old new : S) (attachments : List Attachment) → MakesFile r f name file old new → All (CanAttach r f old name) attachments
    → map (attached_file (live_files r new)) attachments ≡ map (attached_file (live_files r old)) attachments
attached-all-created r f name file old new [] made can = refl
attached-all-created r f name file old new (it ∷ them) made can =
    ap (λ n. n ∷ map (attached_file (live_files r new)) them) (attached-created r f name file old new it made (can 0 it (omega arith)))
    ∙ ap (λ ns. attached_file (live_files r old) it ∷ ns) (attached-all-created r f name file old new them made (λ k d below. can (suc k) d (omega arith)))

-- The data of each attachment have its length.
pub can-data : {S : Type 0} (r : Ghosts S) (f : writing.Ghosts S) (name : List ℕ) (a : S) (attachments : List Attachment) → ((file : ℕ) → IfVisible ((live_files r a).content file) (λ bytes. length bytes ≡ (live_files r a).size file)) → All (CanAttach r f a name) attachments → HaveData (live_files r a) attachments
can-data r f name a attachments told can = λ k d below.
    let it = get_or attachments k d in
    length-octets_told ((live_files r a).content it.file.n) it.at it.len (file_size r a it.file) (told it.file.n) (can k d below).inside

-- ---- a begun output

-- The bytes of a begun output are the elements before the Clusters.
pub begun-octets : (files : LiveFiles) (front : Front) (o : Opening) → IsOpening front o → All (λ (a : Attachment). IsMaster a.entry) front.attachments → All (λ (a : Attachment). id_of a.entry ≡ ATTACHED_FILE) front.attachments → HaveData files front.attachments
    → o.octets ++ attached_octets files front.attachments ≡ opened_with (front_with files front) []
begun-octets files front o opening masters own have = ap (λ w. w ++ attached_octets files front.attachments) opening.octets ∙ opening-octets files front masters own have

-- The open output agrees with its file.
pub begun-known : (files : LiveFiles) (front : Front) (o : Opening) (out : OpenOutput) → IsOpening front o → All (λ (a : Attachment). IsMaster a.entry) front.attachments → All (λ (a : Attachment). id_of a.entry ≡ ATTACHED_FILE) front.attachments → HaveData files front.attachments
    → out.webm ≡ front.webm → out.len ≡ o.len → out.place ≡ o.place → out.seeks ≡ o.seeks.items → Knows (front_with files front) [] out
begun-known files front o out opening masters own have webm len place seeks = record {
  webm = webm;
  len = omega (arith, len, opening.len, opening-long files front masters own have);
  place = place ∙ opening.place;
  seeks = seeks ∙ opening.seeks ∙ opening-seeks files front;
}

-- A prefix of the begun output is also one.
pub begun-part : (before made now : Names) (holder name octets : List ℕ) → made ≡ with_content before name [] → holder ≡ name → PassesSome made now holder octets → ArePrefixes before now (record { name = name; content = octets } ∷ [])
begun-part before made now holder name octets is same some = record {
  stand = record { name = name; content = some.passed.written } ∷ [];
  begun = (record { name = refl; content = record { rest = some.left; whole = some.passed.whole } }, tt);
  names = appended-to before made now name [] some.passed.written is (some.passed.added ∙ ap (λ h. with_change made h (with_appended some.passed.written)) same);
}

-- An empty output, or an unchanged name, is also a begun output.
pub begun-none : (before now : Names) (name octets : List ℕ) → (now ≡ before) ⊎ (now ≡ with_content before name []) → ArePrefixes before now (record { name = name; content = octets } ∷ [])
begun-none before now name octets (inl same) = record { stand = []; begun = tt; names = same }
begun-none before now name octets (inr made) = record {
  stand = record { name = name; content = [] } ∷ [];
  begun = (record { name = refl; content = record { rest = octets; whole = refl } }, tt);
  names = made;
}
