-- An outline and the file that it was read from.
use Rattle.std.proofs.Common.{◌≡◌, ℕ, List, [], length, Ok, refl, sym, subst}
use Rattle.mkv_schema.specs.Outline.{Outlined, described, ebml_header, limits_from, outline_of, outlined, segment_end, segment_of, segment_run}
use Rattle.mkv_schema.proofs.OutlineLemmas.{and_then-ok, unless-ok}
use Rattle.element_reader.specs.Collected.{last_element, others_of}
use Rattle.element_reader.specs.Outline.{FileOutline, outline_in, shown}
use Rattle.element_reader.proofs.OutlineLemmas.{Outlines-shown}
use Rattle.edit_laws.proofs.LimitLemmas.{AreWithinLimits, kept-within}

pub record IsOpened (bytes : List ℕ) (o : FileOutline) : Type 0 where
  pub ebml : ebml_header bytes ≡ Ok o.ebml
  pub segment : segment_of bytes o.ebml ≡ Ok o.segment
  pub total : o.total ≡ length bytes
  pub others : o.others ≡ others_of (segment_run bytes o.segment).list
  pub last : o.last ≡ last_element (segment_run bytes o.segment).list
  pub damage : o.damage ≡ (segment_run bytes o.segment).damage
  pub held : o.held ≡ described (segment_run bytes o.segment).list
  pub within : AreWithinLimits (segment_run bytes o.segment).list
  pub end : o.end ≡ segment_end bytes o.segment (segment_run bytes o.segment)

outlined-is : (bytes : List ℕ) (o : Outlined) → outline_of 0 bytes ≡ Ok o → IsOpened bytes (shown bytes o)
unfolding outline_of
outlined-is bytes o is =
    let ebml = and_then-ok (ebml_header bytes) _ o is in
    let segment = and_then-ok (segment_of bytes ebml.0) _ o ebml.1.1 in
    let good = unless-ok (limits_from 0 [] (segment_run bytes segment.0).list) (outlined bytes ebml.0 segment.0 (segment_run bytes segment.0)) o segment.1.1 in
    let P : Outlined → Type 0 = λ x. IsOpened bytes (shown bytes x) in
    subst P good.1 (record {
      ebml = ebml.1.0;
      segment = segment.1.0;
      total = refl;
      others = refl;
      last = refl;
      damage = refl;
      held = refl;
      within = kept-within (segment_run bytes segment.0).list good.0;
      end = refl;
    })

-- An outline that was read is the file's.
pub opened : (bytes : List ℕ) (o : FileOutline) → outline_in 0 bytes ≡ Ok o → IsOpened bytes o
opened bytes o is =
    let of = Outlines-shown 0 bytes o is in
    let P : FileOutline → Type 0 = IsOpened bytes in
    subst P (sym of.shows) (outlined-is bytes of.outlined of.is)
