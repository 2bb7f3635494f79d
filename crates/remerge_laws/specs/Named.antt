-- The Elements of an output that the Targets of its Tags name: RFC 9559, section 5.1.8.1.1 (Targets Element). Their numbers are this project's.
use Rattle.std.specs.Prelude.{ℕ, ◌==◌, if◌then◌else◌, List, [], All, Contains}
use Rattle.mkv_schema.specs.declared.ids.TheConstants.{TAG_TRACK_UID, TAG_EDITION_UID, TAG_CHAPTER_UID, TAG_ATTACHMENT_UID}
use Rattle.tree_format.specs.Node.{Node, id_of}
use Rattle.tree_format.specs.Standing.{placed}
use Rattle.tree_format.specs.Values.{integer_of}
use Rattle.record_laws.specs.Tags.{targets_of}
use Rattle.output_records.specs.Tags.{joined_tags, numbers_of, tags_from}
use Rattle.merge_inputs.specs.Input.{InputRead}
use Rattle.merge_plan.specs.Identifiers.{Have64Bits, Identifiers, identifiers_of}
use Rattle.merge_plan.specs.Records.{records_of}
use Rattle.remerge_laws.specs.Joined.{IsWrittenTag}

-- the identifiers in `ids`, an output's, of the kind that a child of Targets with the ID `id` names: tracks, editions, chapters or attached files. It
-- is empty for another ID. `NamesOneOf` uses it.
abbrev pub named_by : Identifiers → ℕ → List ℕ
named_by ids id =
    if id == TAG_TRACK_UID then ids.tracks else
    (if id == TAG_EDITION_UID then ids.editions else
    (if id == TAG_CHAPTER_UID then ids.chapters else
    (if id == TAG_ATTACHMENT_UID then ids.files else [])))

-- `target`, a child of a Targets, names one of the identifiers `ids` of an output. Used by the law on the Targets of joined Tags.
abbrev pub NamesOneOf : Identifiers → Node → Type 0
NamesOneOf ids target = Contains (named_by ids (id_of target)) (integer_of target)

-- the Tags that a merge of the inputs `reads` writes, in one Tags Element; `order` gives the order of the output's tracks. Used by the law on the
-- Targets of joined Tags.
abbrev pub tags_joined : List (ℕ × ℕ) → List InputRead → Node
tags_joined order reads = joined_tags (numbers_of (records_of order reads)) (records_of order reads)

-- Each Tag that a merge of the inputs `reads` writes was written from an input's Tag. Its Targets name tracks, editions, chapters and attached files
-- that the output has, also after it is read at the offset `place`. `order` gives the order of the output's tracks, and its identifiers must have 64
-- bits. The law `joined_tags_name_the_output` states it.
pub record JoinedTagsNameTheOutput : Type 0 where
  pub written : (order : List (ℕ × ℕ)) (reads : List InputRead) → Have64Bits (identifiers_of order reads)
      → All IsWrittenTag (tags_from (numbers_of (records_of order reads)) (records_of order reads))
  pub named : (order : List (ℕ × ℕ)) (reads : List InputRead) (place : ℕ) → Have64Bits (identifiers_of order reads)
      → All (NamesOneOf (identifiers_of order reads)) (targets_of (placed place (tags_joined order reads)))
