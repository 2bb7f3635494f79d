-- The Tags of an output that is merged by itself: RFC 9559, section 5.1.8 (Tags Element). This is this project's promise.
use Rattle.std.specs.Prelude.{◌≡◌, ℕ, List, [], ◌∷◌, map, None}
use Rattle.record_changes.specs.Atoms.{chapter_uids, edition_uids}
use Rattle.record_laws.specs.Tags.{keep_all}
use Rattle.output_records.specs.Inputs.{uids_in}
use Rattle.meta_records.specs.Attached.{AttachedFile}
use Rattle.merge_inputs.specs.Input.{InputRead}
use Rattle.merge_inputs.specs.declared.taken.TakenTrack.{TakenTrack}
use Rattle.merge_plan.specs.Identifiers.{Have64Bits, identifiers_of}
use Rattle.merge_plan.specs.Records.{tags_of}
use Rattle.remerge_laws.specs.Alike.{MayBeAlike}
use Rattle.remerge_laws.specs.Placed.{MayStandAs}

-- The input `again` has the tracks, editions, chapters and attached files with the identifiers that a merge of the inputs `reads` gave. `order` gives
-- the order of the output's tracks. The input isn't appended and keeps all Tags. A condition of the law on Tags that are merged again.
pub record HasIdentifiersOf (order : List (ℕ × ℕ)) (reads : List InputRead) (again : InputRead) : Type 0 where
  pub tracks : map (λ (t : TakenTrack). t.track.uid) again.taken ≡ (identifiers_of order reads).tracks
  pub editions : uids_in edition_uids again.chapters ≡ (identifiers_of order reads).editions
  pub chapters : uids_in chapter_uids again.chapters ≡ (identifiers_of order reads).chapters
  pub files : map (λ (a : AttachedFile). a.uid) again.attachments ≡ (identifiers_of order reads).files
  pub alone : again.shift ≡ None
  pub keep : again.keep ≡ keep_all

-- An input `again` that has the Tags and identifiers that a merge of the inputs `reads` wrote has these Tags again after it is merged by itself.
-- `order` gives the order of the first output's tracks. The identifiers must have 64 bits. A step of the law that an output, merged by itself, is
-- written as it was. The law `tags_are_alike_again` states it.
abbrev pub TagsAreAlikeAgain : Type 0
TagsAreAlikeAgain =
    (order : List (ℕ × ℕ)) (reads : List InputRead) (again : InputRead) → Have64Bits (identifiers_of order reads)
    → HasIdentifiersOf order reads again → MayStandAs (tags_of order reads) again.tags → MayBeAlike (tags_of order reads) (tags_of [] (again ∷ []))
