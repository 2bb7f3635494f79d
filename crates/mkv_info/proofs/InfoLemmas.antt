-- A file and its journal.
use Rattle.std.proofs.Common.{◌≡◌, ◌≢◌, ℕ, Bool, true, false, List, [], ◌∷◌, Option, Some, None, Result, refl}
use Rattle.mkv_io.specs.Asked.{AsksFor, AsksOnly, IsNotAmong}
use Rattle.mkv_io.specs.declared.asked.Asked.{Asked}
use Rattle.mkv_io.specs.declared.asked.Asked.TheVariants.{Opened}
use Rattle.mkv_io.proofs.AskedLemmas.{asks-both, asks-more, asks-none, asks-one}
use Rattle.sidecar_edit.specs.Name.{sidecar_of, with_sidecar}
use Rattle.mkv_lines.specs.Seen.{Seen}
use Rattle.mkv_lines.specs.Verdict.{Reaches, SaysVerdict, nothing, unless_pending}
use Rattle.mkv_lines.specs.declared.status.Status.{Status}
use Rattle.mkv_lines.specs.declared.status.CommandEnd.{CommandEnd}
use Rattle.mkv_lines.proofs.VerdictLemmas.{Reaches-lines}
use Rattle.mkv_info.specs.Info.{content_verdict, name_verdict}
use Rattle.mkv_info.specs.Read.{read_of}
use Rattle.mkv_info.specs.declared.info.Form.{Form}
use Rattle.mkv_info.specs.declared.info.Form.TheVariants.{Lines, Json}
use Rattle.mkv_info.proofs.IdentifiedLemmas.{identified-nothing}
use Rattle.mkv_info.proofs.ListedLemmas.{listed-nothing}

-- Nothing is written.
told-nothing : (form : Form) (name bytes : List ℕ) → (content_verdict form name bytes).outputs ≡ nothing
told-nothing Lines name bytes = listed-nothing name bytes
told-nothing Json name bytes = identified-nothing name (read_of bytes)

settled-nothing : (form : Form) (name bytes : List ℕ) (pending : Bool) → (unless_pending name pending (content_verdict form name bytes)).outputs ≡ nothing
settled-nothing form name bytes true = refl
settled-nothing form name bytes false = told-nothing form name bytes

-- The lines printed for a content are the result for its name.
pub reaches-settled : (old new : Seen) (r : Result Status CommandEnd) (form : Form) (name : List ℕ) (pending : Bool) (content : Option (List ℕ)) → content ≢ None → ((bytes : List ℕ) → content ≡ Some bytes → SaysVerdict old.lines new.lines r (unless_pending name pending (content_verdict form name bytes))) → new.names ≡ old.names → Reaches old new r (name_verdict form name pending content)
reaches-settled old new r form name pending None there says names = absurd (there refl)
reaches-settled old new r form name pending (Some bytes) there says names =
    Reaches-lines old new r (unless_pending name pending (content_verdict form name bytes)) (says bytes refl) (settled-nothing form name bytes pending) names

-- ---- the names that are opened

-- A file is opened, its journal is read, and the file is closed.
pub asks-told : {T E : Type 0} (name : List ℕ) (a b c d : List Asked) (result : Result T E) → AsksFor (Opened name) a b result → AsksOnly (sidecar_of name ∷ []) [] b c → d ≡ c → AsksOnly (with_sidecar name) [] a d
asks-told name a b c d result opens looks closed =
    asks-both (IsNotAmong (with_sidecar name) []) a b d
    (asks-one (IsNotAmong (with_sidecar name) []) (Opened name) a b result (λ others. others.0 refl) opens)
    (asks-both (IsNotAmong (with_sidecar name) []) b c d
    (asks-more (sidecar_of name ∷ []) [] (with_sidecar name) [] b c (λ other others. others.1) (λ other others. others) looks)
    (asks-none (IsNotAmong (with_sidecar name) []) c d closed))
