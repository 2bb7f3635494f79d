-- Documents that are written alike: RFC 8794, section 8 (EBML Document), and RFC 9559, section 5.1 (Segment Element).
use Rattle.std.specs.Prelude.{◌≡◌, ⊤, false, Option, None, Some}
use Rattle.std.specs.List.{AllZip}
use Rattle.tree_format.specs.Node.{Node, id_of}
use Rattle.tree_format.specs.NormalForm.{is_filler, octets}
use Rattle.output_model.specs.Document.{Document, layout}

-- The masters or leaves `m` and `n` have the same ID, and the same bytes when written. They are written at all, unlike a Void. Used to compare the
-- records of a merge with the ones of the second merge. Used by `AttachedFilesStay`, `MayBeAlike` and others.
pub record AreAlike (m n : Node) : Type 0 where
  pub id : id_of m ≡ id_of n
  pub some : is_filler (id_of m) ≡ false
  pub same : octets m ≡ octets n

-- Both records are absent, or both exist and are written alike. Used for Chapters and Tags, which an output may lack. Used by `TagsAreAlikeAgain`,
-- `ChaptersAreAlikeAgain` and others.
abbrev pub MayBeAlike : Option Node → Option Node → Type 0
MayBeAlike None None = ⊤
MayBeAlike None (Some n) = ⊥
MayBeAlike (Some m) None = ⊥
MayBeAlike (Some m) (Some n) = AreAlike m n

-- The documents `d` and `e` of one DocType have no Duration, records with the same bytes, and the same Clusters and cue points. A condition of
-- `AlikeDocumentsAreOne`.
pub record AreAlikeDocuments (d e : Document) : Type 0 where
  pub webm : d.front.webm ≡ e.front.webm
  pub lasting : d.front.lasting ≡ None
  pub lasting_too : e.front.lasting ≡ None
  pub info : AreAlike d.front.info e.front.info
  pub tracks : AreAlike d.front.tracks e.front.tracks
  pub attachments : AllZip AreAlike d.front.attachments e.front.attachments
  pub clusters : d.clusters ≡ e.clusters
  pub cues : d.cues ≡ e.cues
  pub chapters : MayBeAlike d.chapters e.chapters
  pub tags : MayBeAlike d.tags e.tags

-- Documents `d` and `e` whose records are written alike, with the same Clusters and cue points, have the same bytes. The law
-- `alike_documents_are_one` states it.
abbrev pub AlikeDocumentsAreOne : Type 0
AlikeDocumentsAreOne = (d e : Document) → AreAlikeDocuments d e → layout d ≡ layout e
