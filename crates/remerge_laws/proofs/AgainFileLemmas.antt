-- The attached files of an output are merged again as they were.
use Rattle.std.proofs.Common.{◌≡◌, ◌<◌, ℕ, ◌+◌, ◌^◌, true, false, List, [], ◌∷◌, length, map, flat_map, All, refl, sym, ap, ap₂, subst, ◌∙◌, append-nil, length-append}
use Rattle.std.specs.List.{AllZip}
use Rattle.std.proofs.lemmas.List.{length-map}
use Rattle.std.proofs.lemmas.List.Elements.{All-nil, All-cons, All-head, All-tail}
use Rattle.mkv_schema.specs.declared.ids.TheConstants.{ATTACHED_FILE, FILE_DATA, FILE_UID}
use Rattle.mkv_io.specs.Contents.{octets_from}
use Rattle.tree_format.specs.Node.{Node, leaf, master, nodes_of, list_of, id_of, children, IsMaster}
use Rattle.tree_format.specs.NormalForm.{is_filler, octets}
use Rattle.tree_format.specs.Changes.{part, with_child}
use Rattle.tree_format.specs.Children.{set_in, uint_leaf}
use Rattle.tree_format.specs.Values.{uint_in}
use Rattle.tree_format.proofs.NodeLemmas.{list-nodes}
use Rattle.tree_format.proofs.PartLemmas.{part-other, part-set}
use Rattle.output_model.specs.Attached.{with_data}
use Rattle.record_changes.specs.Identifiers.{AreSettled, renumbered}
use Rattle.record_changes.proofs.GivenLemmas.{numbers-settle}
use Rattle.meta_records.specs.Attached.{AttachedFile}
use Rattle.merge_inputs.specs.Input.{InputRead}
use Rattle.merge_plan.specs.Front.{attached, attached_from, attachments_of, file_uids, files_in, reads_of}
use Rattle.merge_plan.specs.Plan.{Source}
use Rattle.mkv_merge.specs.Records.{IsFilled}
use Rattle.remerge_laws.specs.AgainFiles.{AttachedFilesStay, HaveFiles}
use Rattle.remerge_laws.specs.Alike.{AreAlike}
use Rattle.remerge_laws.specs.Files.{IsFileOf}
use Rattle.remerge_laws.specs.OwnFiles.{IsNumbered, written_files}
use Rattle.remerge_laws.proofs.OwnFileLemmas.{own-files, uid-is, uids-same}

-- ---- an AttachedFile

data-id : (bytes : List ℕ) (n : Node) → id_of (with_data bytes n) ≡ id_of n
data-id bytes (leaf id at body) = refl
data-id bytes (master id at kids) = refl

set-id : (c n : Node) → id_of (set_in c n) ≡ id_of n
set-id c (leaf id at body) = refl
set-id c (master id at kids) = refl

data-master : (bytes : List ℕ) (n : Node) → IsMaster n → IsMaster (with_data bytes n)
data-master bytes (leaf id at body) is = is
data-master bytes (master id at kids) is = refl

filled-master : (n : Node) → IsFilled n → IsMaster n
filled-master n is = subst IsMaster (sym is.is) (data-master is.octets is.entry is.attachment.is.master)

filled-id : (n : Node) → IsFilled n → id_of n ≡ ATTACHED_FILE
filled-id n is = ap id_of is.is ∙ data-id is.octets is.entry ∙ is.attachment.is.id

-- Its FileUID is its only one.
one-uid : (uid : ℕ) (bytes : List ℕ) (entry : Node) → IsMaster (with_data bytes (set_in (uint_leaf FILE_UID uid) entry))
    → part FILE_UID (children (with_data bytes (set_in (uint_leaf FILE_UID uid) entry))) ≡ uint_leaf FILE_UID uid ∷ []
one-uid uid bytes (leaf id at body) is = let never : true ≡ false = is in absurd (cc)
one-uid uid bytes (master id at kids) is =
    let c : Node = uint_leaf FILE_UID uid in
    ap (part FILE_UID) (list-nodes (with_child (leaf FILE_DATA 0 bytes) (list_of (nodes_of (with_child c (list_of kids))))))
    ∙ part-other FILE_UID (leaf FILE_DATA 0 bytes) (list_of (nodes_of (with_child c (list_of kids)))) refl
    ∙ ap (part FILE_UID) (list-nodes (with_child c (list_of kids))) ∙ part-set c (list_of kids)

is-numbered : (uid : ℕ) (f : AttachedFile × List ℕ) → uid < 2 ^ 64 → IsFilled (attached uid f) → IsNumbered (attached uid f)
is-numbered uid f small is =
    let whole = filled-master (attached uid f) is in record { master = whole; uid = uid; small = small; one = one-uid uid f.1 f.0.entry whole }

-- ---- all attached files

abbrev Small : ℕ → Type 0
Small n = n < 2 ^ 64

all-numbered : (uids : List ℕ) (fs : List (AttachedFile × List ℕ)) → All Small uids → All IsFilled (attached_from uids fs) → All IsNumbered (attached_from uids fs)
all-numbered [] fs small are = All-nil IsNumbered
all-numbered (uid ∷ uids) [] small are = All-nil IsNumbered
all-numbered (uid ∷ uids) (f ∷ fs) small are =
    All-cons IsNumbered (attached uid f) (attached_from uids fs)
    (is-numbered uid f (All-head Small uid uids small) (All-head IsFilled (attached uid f) (attached_from uids fs) are))
    (all-numbered uids fs (All-tail Small uid uids small) (All-tail IsFilled (attached uid f) (attached_from uids fs) are))

all-uids : (uids : List ℕ) (fs : List (AttachedFile × List ℕ)) → length uids ≡ length fs → All Small uids → All IsFilled (attached_from uids fs)
    → map (uint_in FILE_UID) (attached_from uids fs) ≡ uids
unfolding is-numbered
all-uids [] fs long small are = refl
all-uids (uid ∷ uids) [] long small are = absurd (cc)
all-uids (uid ∷ uids) (f ∷ fs) long small are =
    ap₂ (λ (u : ℕ) us. u ∷ us)
    (uid-is (attached uid f) (is-numbered uid f (All-head Small uid uids small) (All-head IsFilled (attached uid f) (attached_from uids fs) are)))
    (all-uids uids fs (cc) (All-tail Small uid uids small) (All-tail IsFilled (attached uid f) (attached_from uids fs) are))

length-files : (sources : List Source) → length (flat_map files_in sources) ≡ length (flat_map (λ (i : InputRead). i.attachments) (reads_of sources))
length-files [] = refl
length-files (s ∷ sources) =
    length-append (files_in s) (flat_map files_in sources)
    ∙ ap₂ (λ (m n : ℕ). m + n) (length-map s.1.attachments (λ (a : AttachedFile). (a, octets_from s.0 a.at a.len))) (length-files sources)
    ∙ sym (length-append s.1.attachments (flat_map (λ (i : InputRead). i.attachments) (reads_of sources)))

module _ (sources : List Source) (have : HaveFiles sources) where
  abbrev given_uids : List ℕ
  given_uids = file_uids (reads_of sources)

  long : length given_uids ≡ length (flat_map files_in sources)
  long =
      let given : List AttachedFile = flat_map (λ (i : InputRead). i.attachments) (reads_of sources) in
      numbers-settle.each (map (λ (a : AttachedFile). a.uid) given) ∙ length-map given (λ (a : AttachedFile). a.uid) ∙ sym (length-files sources)

  files-numbered : All IsNumbered (attachments_of sources)
  files-numbered = all-numbered given_uids (flat_map files_in sources) have.small have.filled

  files-uids : map (uint_in FILE_UID) (attachments_of sources) ≡ given_uids
  files-uids = all-uids given_uids (flat_map files_in sources) long have.small have.filled

  files-settled : AreSettled (map (uint_in FILE_UID) (attachments_of sources))
  files-settled = subst AreSettled (sym files-uids) (numbers-settle.settled (map (λ (a : AttachedFile). a.uid) (flat_map (λ (i : InputRead). i.attachments) (reads_of sources))))

-- ---- merged again

-- The written files of one source.
written-alone : (bytes : List ℕ) (uids : List ℕ) (files : List AttachedFile)
    → attached_from uids (map (λ (a : AttachedFile). (a, octets_from bytes a.at a.len)) files) ≡ written_files bytes uids files
written-alone bytes [] files = refl
written-alone bytes (uid ∷ uids) [] = refl
written-alone bytes (uid ∷ uids) (a ∷ files) =
    ap (λ (ns : List Node). with_data (octets_from bytes a.at a.len) (set_in (uint_leaf FILE_UID uid) a.entry) ∷ ns) (written-alone bytes uids files)

alone : (s : Source) → attachments_of (s ∷ []) ≡ written_files s.0 (renumbered (map (λ (a : AttachedFile). a.uid) s.1.attachments)) s.1.attachments
alone s =
    ap₂ (λ (files : List AttachedFile) (fs : List (AttachedFile × List ℕ)). attached_from (renumbered (map (λ (a : AttachedFile). a.uid) files)) fs)
    (append-nil s.1.attachments) (append-nil (files_in s))
    ∙ written-alone s.0 (renumbered (map (λ (a : AttachedFile). a.uid) s.1.attachments)) s.1.attachments

-- AttachedFiles whose bytes are all equal.
all-alike : (bytes : List ℕ) (uids : List ℕ) (files : List AttachedFile) (ns : List Node) → All IsFilled ns → AllZip (IsFileOf bytes) ns files
    → map octets (written_files bytes uids files) ≡ map octets ns → AllZip AreAlike ns (written_files bytes uids files)
all-alike bytes [] files [] filled are same = tt
all-alike bytes [] files (n ∷ ns) filled are same = absurd (cc)
all-alike bytes (uid ∷ uids) [] [] filled are same = tt
all-alike bytes (uid ∷ uids) [] (n ∷ ns) filled are same = absurd are
all-alike bytes (uid ∷ uids) (a ∷ files) [] filled are same = absurd are
all-alike bytes (uid ∷ uids) (a ∷ files) (n ∷ ns) filled are same =
    let m : Node = with_data (octets_from bytes a.at a.len) (set_in (uint_leaf FILE_UID uid) a.entry) in
    let own : id_of n ≡ ATTACHED_FILE = filled-id n (All-head IsFilled n ns filled) in
    let other : id_of m ≡ ATTACHED_FILE = data-id (octets_from bytes a.at a.len) (set_in (uint_leaf FILE_UID uid) a.entry) ∙ set-id (uint_leaf FILE_UID uid) a.entry ∙ are.0.id in
    let first : octets m ≡ octets n = cc in
    let rest : map octets (written_files bytes uids files) ≡ map octets ns = cc in (
      record { id = own ∙ sym other; some = ap is_filler own; same = sym first },
      all-alike bytes uids files ns (All-tail IsFilled n ns filled) are.1 rest,
    )

pub files-stay : AttachedFilesStay
files-stay = record {
  numbered = files-numbered;
  uids = files-uids;
  settled = files-settled;
  read = λ sources again have are. uids-same again.0 (attachments_of sources) again.1.attachments are ∙ files-uids sources have;
  alike = λ sources again have are.
      let files : List AttachedFile = again.1.attachments in
      let same = own-files again.0 (attachments_of sources) files are (files-numbered sources have) (files-settled sources have) in
      subst (AllZip AreAlike (attachments_of sources)) (sym (alone again))
      (all-alike again.0 (renumbered (map (λ (a : AttachedFile). a.uid) files)) files (attachments_of sources) have.filled are same);
}
