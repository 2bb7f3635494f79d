-- Written documents are read back.
use Rattle.std.specs.Prelude.{◌≡◌, ℕ, List, [], ◌++◌, length, Option, None, Some}
use Rattle.output_model.specs.Duration.{duration_element}
use Rattle.output_model.specs.Element.{joined, octets_of}
use Rattle.output_model.specs.SeekHead.{area_elements, open_area}
use Rattle.output_model.specs.Document.{Document, ending_at, elements_behind_area, seeks_of, file_with, segment_size, unknown_size, layout, opened}
use Rattle.output_model.specs.Sound.{IsSoundDocument}
use Rattle.output_laws.specs.Reading.{IsReadAs}

-- The content of a document that can be written, `layout d`, is read as that document. The law `layouts_are_read` states it.
abbrev pub LayoutsAreRead : Type 0
LayoutsAreRead = (d : Document) → IsSoundDocument d → IsReadAs d (layout d)

-- the bytes of the document `d` after the area for its SeekHead. For the law `opened_is_overwritten`.
abbrev pub behind_area : Document → List ℕ
behind_area d = joined (elements_behind_area d)

-- the document `d` while its end isn't known, so with a Void in the place of its Duration. `merge` writes it so first. For the law
-- `opened_is_overwritten`.
abbrev pub unfinished : Document → Document
unfinished d = record d { front = ending_at 0 d.front }

-- the bytes of the Duration Element for an output with the end `end`, in ticks, or none without a Duration. At the end 0 they are a Void of the same
-- length. For the law `opened_is_overwritten`.
abbrev pub duration_octets : Option ℕ → List ℕ
duration_octets None = []
duration_octets (Some end) = octets_of (duration_element end)

-- After the area for its SeekHead, the bytes of the document `d` change only in the Duration, once its end is known. The Duration keeps its length.
-- `before` and `after` are the bytes around it. A part of the law `opened_is_overwritten`.
pub record DifferInDuration (d : Document) : Type 0 where
  pub before : List ℕ
  pub after : List ℕ
  pub layout_is : behind_area d ≡ before ++ (duration_octets d.front.lasting ++ after)
  pub opened_is : behind_area (unfinished d) ≡ before ++ (duration_octets (unfinished d).front.lasting ++ after)
  pub len : length (duration_octets d.front.lasting) ≡ length (duration_octets (unfinished d).front.lasting)

-- Before the last writes of `merge`, the content of the document `d` differs only in three parts, which keep their lengths. They are the Segment's
-- size, the area for its SeekHead, and its Duration, if it has one. The law `opened_is_overwritten` states it.
pub record DifferInThree (d : Document) : Type 0 where
  pub layout_is : layout d ≡ file_with d.front.webm (segment_size (length (behind_area d))) (area_elements (seeks_of d)) (behind_area d)
  pub opened_is : opened d ≡ file_with d.front.webm unknown_size open_area (behind_area (unfinished d))
  pub size : length (segment_size (length (behind_area d))) ≡ length unknown_size
  pub area : length (joined (area_elements (seeks_of d))) ≡ length (joined open_area)
  pub duration : DifferInDuration d

-- An output `d` that can be written differs, before the last writes of `merge`, from the finished one only in three parts. They are the Segment's
-- size, the area for its SeekHead, and its Duration. The law `opened_is_overwritten` states it.
abbrev pub OpenedIsOverwritten : Type 0
OpenedIsOverwritten = (d : Document) → IsSoundDocument d → DifferInThree d
