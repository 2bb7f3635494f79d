-- Bytes that are appended by calls in sequence.
use Rattle.std.proofs.Common.{◌≡◌, ◌≢◌, ◌≤◌, ◌<◌, ℕ, ◌+◌, List, [], ◌∷◌, ◌++◌, length, map, take, drop, replicate, sum_by, get_or, Result, Ok, Err, IsErrOf, Option, Some, None, true, false, is_some, refl, sym, ap, subst, append_assoc, append-nil, ◌∙◌, arith}
use Rattle.std.proofs.lemmas.List.{take-append-drop, drop-drop, drop-take, take-take, replicate-append-replicate, length-replicate, length-take-le, length-drop, length-append, take_more, map-append}
use Rattle.std.proofs.lemmas.List.Concat.{flat_map-append}
use Rattle.std.proofs.lemmas.List.Sums.{sum_by_push}
use Rattle.mkv_io.specs.declared.outside.FileId.{FileId}
use Rattle.mkv_io.specs.declared.outside.MakeFault.{MakeFault}
use Rattle.mkv_io.specs.declared.outside.MakeFault.TheVariants as make_fault
use Rattle.mkv_io.specs.Contents.{octets_from, with_appended}
use Rattle.mkv_io.specs.Faults.{HasCause, HasIncreased, is_make_failure}
use Rattle.mkv_io.specs.LiveFiles.{LiveFiles, AppendsPart}
use Rattle.mkv_io.specs.Names.{Names, with_change}
use Rattle.mkv_io.specs.Sources.{OnlyReads, live_files}
use Rattle.mkv_io.specs.Told.{IfVisible}
use Rattle.mkv_io.specs.Writing.{KeepsOthers}
use Rattle.mkv_io.specs.declared.reads.Reads.{Ghosts}
use Rattle.mkv_io.specs.declared.files.Files as writing
use Rattle.mkv_io.proofs.NamesLemmas.{with_change-more, with_change-none}
use Rattle.mkv_io.proofs.WritingLemmas.{KeepsOthers-none, KeepsOthers-then, KeepsOthers-read}
use Rattle.mkv_io.specs.Ends.{HasRemuxCause, is_remux_read_fault, is_remux_write_fault}
use Rattle.mkv_io.specs.RemuxEnd.{end_of_make}
use Rattle.mkv_io.specs.declared.remux_end.RemuxEnd.{RemuxEnd}
use Rattle.mkv_io.specs.declared.remux_end.RemuxEnd.TheVariants as remux_end
use Rattle.mkv_outputs.specs.Written.{PassesSome}
use Rattle.mkv_outputs.proofs.FilesLemmas.{OnOk-map}
use Rattle.output_model.specs.Element.{joined, octets_of}
use Rattle.output_model.specs.Document.{tree_element}
use Rattle.output_model.specs.declared.attachment.Attachment.{Attachment}
use Rattle.output_model.specs.Attached.{octets_told, attached_file, with_data}
use Rattle.cues_seekhead.specs.Appending.{IsAppended, AppendsOnly}
use Rattle.cues_seekhead.specs.OpenOutput.{CanAttach}

-- ---- content of a name

-- A prefix is also a prefix of more bytes.
pub PassesSome-more : (old new : Names) (name first more : List ℕ) → PassesSome old new name first → PassesSome old new name (first ++ more)
PassesSome-more old new name first more some = record {
  left = some.left ++ more;
  passed = record {
    written = some.passed.written;
    whole = ap (λ octets. octets ++ more) some.passed.whole ∙ append_assoc some.passed.written some.left more;
    added = some.passed.added;
  };
}

-- Nothing was appended.
pub PassesSome-none : (old new : Names) (name octets : List ℕ) → new ≡ old → PassesSome old new name octets
PassesSome-none old new name octets same = record { left = octets; passed = record { written = []; whole = refl; added = same ∙ sym (with_change-none old name) } }

-- A failed append wrote a prefix.
pub PassesSome-refused : {T : Type 0} (fault : MakeFault) (old new : LiveFiles) (names now : Names) (file : ℕ) (holder octets : List ℕ) → (IsErrOf {T = T} (Err fault) make_fault.Failed → AppendsPart old new names now file holder octets) → (IsErrOf {T = T} (Err fault) make_fault.Memory → now ≡ names) → PassesSome names now holder octets
PassesSome-refused make_fault.Failed old new names now file holder octets failed memory =
    let part = failed refl in
    record { left = drop part.kept octets; passed = record { written = take part.kept octets; whole = sym (take-append-drop part.kept octets); added = part.added.names } }
PassesSome-refused make_fault.Memory old new names now file holder octets failed memory = PassesSome-none names now holder octets (memory refl)

-- Two appends make one.
IsAppended-then : {T E : Type 0} (result : Result T E) (a b c : Names) (name between first next : List ℕ) → between ≡ name → b ≡ with_change a name (with_appended first) → IsAppended b c between next result → IsAppended a c name (first ++ next) result
IsAppended-then (Ok done) a b c name between first next same before behind =
    behind ∙ ap (λ n. with_change b n (with_appended next)) same ∙ ap (λ names. with_change names name (with_appended next)) before ∙ with_change-more a name first next
IsAppended-then (Err fault) a b c name between first next same before behind = record {
  left = behind.left;
  passed = record {
    written = first ++ behind.passed.written;
    whole = ap (λ w. first ++ w) behind.passed.whole ∙ sym (append_assoc first behind.passed.written behind.left);
    added = behind.passed.added ∙ ap (λ n. with_change b n (with_appended behind.passed.written)) same ∙ ap (λ names. with_change names name (with_appended behind.passed.written)) before
        ∙ with_change-more a name first behind.passed.written;
  };
}

-- ---- causes

cause-after : {S T : Type 0} (r : Ghosts S) (f : writing.Ghosts S) (a b c : S) (result : Result T RemuxEnd) → r.reading_faults b ≡ r.reading_faults a → f.writing_faults b ≡ f.writing_faults a → HasRemuxCause r f b c result → HasRemuxCause r f a c result
cause-after r f a b c result reading written cause = record {
  reading = let P : ℕ → Type 0 = λ n. HasCause is_remux_read_fault n (r.reading_faults c) result in subst P reading cause.reading;
  writing = let P : ℕ → Type 0 = λ n. HasCause is_remux_write_fault n (f.writing_faults c) result in subst P written cause.writing;
}

pub cause-make : {S T : Type 0} (U : Type 0) (r : Ghosts S) (f : writing.Ghosts S) (old new : S) (fault : MakeFault) → r.reading_faults new ≡ r.reading_faults old → HasCause {T = U} is_make_failure (f.writing_faults old) (f.writing_faults new) (Err fault) → HasRemuxCause {T = T} r f old new (Err (end_of_make fault))
cause-make U r f old new make_fault.Failed reading written = record { reading = reading; writing = written }
cause-make U r f old new make_fault.Memory reading written = record { reading = reading; writing = written }

-- ---- calls in sequence

-- no call failed
abbrev pub no_refusal : Result ℕ RemuxEnd
no_refusal = Ok 0

pub AppendsOnly-then : {S T U : Type 0} (r : Ghosts S) (f : writing.Ghosts S) (file : FileId) (a b c : S) (first next : List ℕ) (m n : ℕ) (done : U) (result : Result T RemuxEnd) → (live_files r a).live file.n ≡ true
    → AppendsOnly r f file first m a b (Ok done) → AppendsOnly r f file next n b c result → AppendsOnly r f file (first ++ next) (m + n) a c result
AppendsOnly-then r f file a b c first next m n done result live before behind =
    let holder = before.kept.holders file.n live in
    record {
      appended = IsAppended-then result (f.names a) (f.names b) (f.names c) (f.holder a file.n) (f.holder b file.n) first next holder before.appended behind.appended;
      size = OnOk-map result (λ size. omega (arith, size, before.size, length-append first next)) behind.size;
      kept = KeepsOthers-then r f (f.holder a file.n ∷ []) a b c before.kept (let P : List ℕ → Type 0 = λ name. KeepsOthers r f (name ∷ []) b c in subst P holder behind.kept);
      cause = cause-after r f a b c result before.cause.reading before.cause.writing behind.cause;
      reads = omega (arith, before.reads, behind.reads);
    }

-- Nothing is appended.
pub AppendsOnly-none : {S T : Type 0} (r : Ghosts S) (f : writing.Ghosts S) (file : FileId) (a : S) (done : T) → AppendsOnly r f file [] 0 a a (Ok done)
AppendsOnly-none r f file a done = record {
  appended = sym (with_change-none (f.names a) (f.holder a file.n));
  size = omega arith;
  kept = KeepsOthers-none r f (f.holder a file.n ∷ []) a;
  cause = record { reading = refl; writing = refl };
  reads = omega arith;
}

-- Memory runs out before anything is written.
pub AppendsOnly-memory : {S T : Type 0} (r : Ghosts S) (f : writing.Ghosts S) (file : FileId) (octets : List ℕ) (most : ℕ) (a : S) → AppendsOnly {T = T} r f file octets most a a (Err remux_end.Memory)
AppendsOnly-memory r f file octets most a = record {
  appended = PassesSome-none (f.names a) (f.names a) (f.holder a file.n) octets refl;
  size = tt;
  kept = KeepsOthers-none r f (f.holder a file.n ∷ []) a;
  cause = record { reading = refl; writing = refl };
  reads = omega arith;
}

-- A call that fails could have appended more.
pub AppendsOnly-more : {S T U : Type 0} (r : Ghosts S) (f : writing.Ghosts S) (file : FileId) (first more whole : List ℕ) (m n : ℕ) (a b : S) (end : RemuxEnd) → first ++ more ≡ whole → m ≤ n → AppendsOnly {T = T} r f file first m a b (Err end) → AppendsOnly {T = U} r f file whole n a b (Err end)
AppendsOnly-more r f file first more whole m n a b end same within refused = record {
  appended = let P : List ℕ → Type 0 = λ octets. PassesSome (f.names a) (f.names b) (f.holder a file.n) octets in subst P same (PassesSome-more (f.names a) (f.names b) (f.holder a file.n) first more refused.appended);
  size = tt;
  kept = refused.kept;
  cause = record { reading = refused.cause.reading; writing = refused.cause.writing };
  reads = omega (arith, refused.reads, within);
}

-- Equal bytes may be exchanged.
pub AppendsOnly-same : {S T : Type 0} (r : Ghosts S) (f : writing.Ghosts S) (file : FileId) (octets others : List ℕ) (m n : ℕ) (a b : S) (result : Result T RemuxEnd) → octets ≡ others → m ≡ n → AppendsOnly r f file octets m a b result → AppendsOnly r f file others n a b result
AppendsOnly-same r f file octets others m n a b result same most appends =
    let P : List ℕ → Type 0 = λ w. AppendsOnly r f file w m a b result in
    let Q : ℕ → Type 0 = λ k. AppendsOnly r f file others k a b result in
    subst Q most (subst P same appends)

-- ---- bytes of another file

-- Two ranges in sequence make one range.
pub octets_told-more : (content : Option (List ℕ)) (at m n : ℕ) → octets_told content at m ++ octets_told content (at + m) n ≡ octets_told content at (m + n)
octets_told-more None at m n = replicate-append-replicate m n (let z : ℕ = 0 in z)
octets_told-more (Some bytes) at m n =
    let tail = drop at bytes in
    ap (λ w. take m tail ++ take n w) (sym (drop-drop m at bytes))
    ∙ ap (λ w. take m tail ++ w) (sym (drop-take m n tail))
    ∙ ap (λ w. w ++ drop m (take (m + n) tail)) (sym (take-take m (m + n) tail (omega arith)))
    ∙ take-append-drop m (take (m + n) tail)

-- The range has the requested length.
pub length-octets_told : (content : Option (List ℕ)) (at n size : ℕ) → IfVisible content (λ bytes. length bytes ≡ size) → at + n ≤ size → length (octets_told content at n) ≡ n
length-octets_told None at n size told inside = length-replicate n (let z : ℕ = 0 in z)
length-octets_told (Some bytes) at n size told inside =
    let whole = told bytes refl in
    length-take-le n (drop at bytes) (omega (arith, whole, length-drop at bytes))

-- If names are visible to the proof, so is the content of a live file.
pub names-untold : (names : Names) (content : Option (List ℕ)) (holder : List ℕ) → IfVisible names (λ world. content ≡ world holder) → IfVisible names (λ world. is_some (world holder) ≡ true) → content ≡ None → names ≡ None
names-untold None content holder named there none = refl
names-untold (Some world) content holder named there none =
    let some : is_some content ≡ true = ap is_some (named world refl) ∙ there world refl in
    let never : false ≡ true = sym (ap is_some none) ∙ some in
    absurd (cc)

-- The bytes that were read are the content's.
IsAppended-told : {T E : Type 0} (result : Result T E) (content : Option (List ℕ)) (old new : Names) (name octets : List ℕ) (at n : ℕ) → IfVisible content (λ bytes. octets ≡ octets_from bytes at n) → (content ≡ None → old ≡ None)
    → IsAppended old new name octets result → IsAppended old new name (octets_told content at n) result
IsAppended-told (Ok done) (Some bytes) old new name octets at n told untold added = added ∙ ap (λ w. with_change old name (with_appended w)) (told bytes refl)
IsAppended-told (Ok done) None old new name octets at n told untold added =
    added ∙ ap (λ (names : Names). with_change names name (with_appended octets)) (untold refl) ∙ sym (ap (λ (names : Names). with_change names name (with_appended (replicate n 0))) (untold refl))
IsAppended-told (Err fault) (Some bytes) old new name octets at n told untold some = let P : List ℕ → Type 0 = PassesSome old new name in subst P (told bytes refl) some
IsAppended-told (Err fault) None old new name octets at n told untold some = PassesSome-none old new name (replicate n 0)
    (some.passed.added ∙ ap (λ (names : Names). with_change names name (with_appended some.passed.written)) (untold refl) ∙ sym (untold refl))

-- Bytes are read from another file, and then appended.
pub AppendsOnly-read : {S T : Type 0} (r : Ghosts S) (f : writing.Ghosts S) (file : FileId) (content : Option (List ℕ)) (octets : List ℕ) (at n : ℕ) (a b c : S) (result : Result T RemuxEnd)
    → OnlyReads r a b → r.reading_faults b ≡ r.reading_faults a → r.octets_read b ≤ r.octets_read a + n → f.names b ≡ f.names a → ((k : ℕ) → f.holder b k ≡ f.holder a k) → f.given b ≡ f.given a → f.writing_faults b ≡ f.writing_faults a → f.asked b ≡ f.asked a
    → IfVisible content (λ bytes. octets ≡ octets_from bytes at n) → (content ≡ None → f.names a ≡ None) → length octets ≡ length (octets_told content at n)
    → AppendsOnly r f file octets 0 b c result → AppendsOnly r f file (octets_told content at n) n a c result
AppendsOnly-read r f file content octets at n a b c result reads faults most names holders given written asked told untold same appends =
    let holder = holders file.n in
    record {
      appended =
          let P : Names → Type 0 = λ old. IsAppended old (f.names c) (f.holder b file.n) octets result in
          let Q : List ℕ → Type 0 = λ name. IsAppended (f.names a) (f.names c) name octets result in
          IsAppended-told result content (f.names a) (f.names c) (f.holder a file.n) octets at n told untold (subst Q holder (subst P names appends.appended));
      size = OnOk-map result (λ size. omega (arith, size, same, ap (λ standing. (r.files standing).size file.n) reads.standing)) appends.size;
      kept = KeepsOthers-then r f (f.holder a file.n ∷ []) a b c (KeepsOthers-read r f (f.holder a file.n ∷ []) a b reads given holders asked)
          (let P : List ℕ → Type 0 = λ name. KeepsOthers r f (name ∷ []) b c in subst P holder appends.kept);
      cause = cause-after r f a b c result faults written appends.cause;
      reads = omega (arith, appends.reads, most);
    }

-- The read failed.
pub AppendsOnly-unread : {S T : Type 0} (r : Ghosts S) (f : writing.Ghosts S) (file : FileId) (octets : List ℕ) (n : ℕ) (a b : S)
    → OnlyReads r a b → HasIncreased (r.reading_faults a) (r.reading_faults b) → r.octets_read b ≤ r.octets_read a + n → f.names b ≡ f.names a → ((k : ℕ) → f.holder b k ≡ f.holder a k) → f.given b ≡ f.given a → f.writing_faults b ≡ f.writing_faults a → f.asked b ≡ f.asked a
    → AppendsOnly {T = T} r f file octets n a b (Err remux_end.ReadFault)
AppendsOnly-unread r f file octets n a b reads rose most names holders given written asked = record {
  appended = PassesSome-none (f.names a) (f.names b) (f.holder a file.n) octets names;
  size = tt;
  kept = KeepsOthers-read r f (f.holder a file.n ∷ []) a b reads given holders asked;
  cause = record { reading = rose; writing = written };
  reads = most;
}

-- ---- attached files

-- Files of other names are unchanged.
pub KeepsOthers-content : {S : Type 0} (r : Ghosts S) (f : writing.Ghosts S) (name : List ℕ) (a b : S) (file : ℕ) → KeepsOthers r f (name ∷ []) a b → (live_files r a).live file ≡ true → f.holder a file ≢ name → (live_files r b).content file ≡ (live_files r a).content file
KeepsOthers-content r f name a b file kept live apart = (kept.others file (λ same. apart (sym same), tt)).content live

pub CanAttach-kept : {S : Type 0} (r : Ghosts S) (f : writing.Ghosts S) (name : List ℕ) (a b : S) (it : Attachment) → KeepsOthers r f (name ∷ []) a b → CanAttach r f a name it → CanAttach r f b name it
CanAttach-kept r f name a b it kept can = record {
  id = can.id;
  master = can.master;
  live = kept.live it.file.n ∙ can.live;
  inside = omega (arith, can.inside, (kept.others it.file.n (λ same. can.apart (sym same), tt)).size can.live);
  apart = λ same. can.apart (sym (kept.holders it.file.n can.live) ∙ same);
}

pub attached_file-kept : {S : Type 0} (r : Ghosts S) (f : writing.Ghosts S) (name : List ℕ) (a b : S) (it : Attachment) → KeepsOthers r f (name ∷ []) a b → CanAttach r f a name it → attached_file (live_files r b) it ≡ attached_file (live_files r a) it
attached_file-kept r f name a b it kept can = ap (λ content. with_data (octets_told content it.at it.len) it.entry) (KeepsOthers-content r f name a b it.file.n kept can.live can.apart)

-- One more AttachedFile is appended to the previous ones.
pub attached-push : (files : LiveFiles) (attachments : List Attachment) (i : ℕ) (it : Attachment) → i < length attachments → it ≡ get_or attachments i it
    → joined (map tree_element (map (attached_file files) (take i attachments))) ++ octets_of (tree_element (attached_file files it)) ≡ joined (map tree_element (map (attached_file files) (take (i + 1) attachments)))
attached-push files attachments i it inside is =
    let front = take i attachments in
    let more : take (i + 1) attachments ≡ front ++ it ∷ [] = take_more attachments i it inside ∙ ap (λ (last : Attachment). front ++ last ∷ []) (sym is) in
    ap (λ w. joined (map tree_element (map (attached_file files) front)) ++ w) (sym (append-nil (octets_of (tree_element (attached_file files it)))))
    ∙ sym (flat_map-append octets_of (map tree_element (map (attached_file files) front)) (tree_element (attached_file files it) ∷ []))
    ∙ ap joined (sym (map-append tree_element (map (attached_file files) front) (attached_file files it ∷ [])))
    ∙ ap (λ ns. joined (map tree_element ns)) (sym (map-append (attached_file files) front (it ∷ [])))
    ∙ ap (λ (them : List Attachment). joined (map tree_element (map (attached_file files) them))) (sym more)

pub data-push : (attachments : List Attachment) (i : ℕ) (it : Attachment) → i < length attachments → it ≡ get_or attachments i it → sum_by (λ (a : Attachment). a.len) (take i attachments) + it.len ≡ sum_by (λ (a : Attachment). a.len) (take (i + 1) attachments)
data-push attachments i it inside is =
    let more : take (i + 1) attachments ≡ take i attachments ++ it ∷ [] = take_more attachments i it inside ∙ ap (λ (last : Attachment). take i attachments ++ last ∷ []) (sym is) in
    sym (ap (sum_by (λ (a : Attachment). a.len)) more ∙ sum_by_push (λ (a : Attachment). a.len) (take i attachments) it)
