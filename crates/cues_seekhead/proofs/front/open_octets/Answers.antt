-- Info, Tracks and the header of Attachments follow in sequence.
use Rattle.std.proofs.Common.{◌≡◌, [], ◌∷◌, ◌++◌, ◌+◌, length, sym, ap, ◌∙◌, arith, subst, List, ℕ, Option, IfSome, ◌≤◌}
use Rattle.std.proofs.lemmas.List.{length-append}
use Rattle.std.specs.Option.{option_map}
use Rattle.output_model.specs.Element.{joined, octets_of}
use Rattle.output_model.specs.declared.places.Seek.{Seek}
use Rattle.output_model.specs.SeekHead.{open_area}
use Rattle.output_model.specs.Document.{before_duration, file_with, info_element, lasting_if, tree_element, unknown_size}
use Rattle.cues_seekhead.specs.Attached.{attachments_header}
use Rattle.cues_seekhead.specs.Front.{place_of, records_of}
use Rattle.cues_seekhead.specs.Places.{AreIds}
use Rattle.cues_seekhead.proofs.DurationLemmas.{place-inside}
use Rattle.cues_seekhead.proofs.FrontLemmas.{front-added, front-ids, front-few, info-added}
use Rattle.cues_seekhead.proofs.front.open_octets.Goals as goal

pub returns : goal.returns
returns c =
    let f = c.args.front.now in
    let lasting = lasting_if f.duration in
    let tracks = joined (tree_element f.tracks ∷ []) in
    let info = info-added f.info lasting c.new-rest.result c.put_info.new.out c.new-seeks.result.items c.add_seek.new.seeks.items c.requires.info c.new-rest.ensures c.new-seeks.ensures.items
    c.in_ok-add_seek.ensures c.in_ok-place.ensures.octets in
    let octets = rw c.as_slice.ensures at c.in_ok-attached.ensures.octets in
    let places = rw c.as_slice.ensures at c.in_ok-attached.ensures.places in
    let len = rw c.as_slice.ensures at c.in_ok-attached.ensures.len in
    let both = front-added f c.put_info.new.out c.add_tree.new.out c.add_attachments.new.out c.add_seek.new.seeks.items c.add_tree.new.seeks.items c.add_attachments.new.seeks.items
    info c.in_ok-add_tree.ensures octets places in
    let place : c.in_ok-place.place ≡ place_of f.info lasting =
    c.in_ok-place.ensures.place ∙ ap (λ (w : List ℕ). option_map (λ end. 256 + length (w ++ before_duration f.info)) lasting) c.new-rest.ensures in
    record {
      opening = record {
        octets = c.in_ok-octets.ensures ∙ ap (file_with f.webm unknown_size open_area) both.0;
        seeks = both.1;
        len = omega (arith, c.len.ensures.exact, ap length both.0, len);
        place = place;
      };
      ids = let P : List Seek → Type 0 = AreIds in subst P (sym both.1) (front-ids f c.requires.info c.requires.tracks);
      few = omega (arith, ap length both.1, front-few f);
      area = omega arith;
      place = let P : Option ℕ → Type 0 = λ o. IfSome o (λ at. at + 11 ≤ 256 + c.len.result + c.in_ok-attached.attached) in
          subst P (sym place) (place-inside f.info f.duration (256 + c.len.result + c.in_ok-attached.attached) (length tracks + length (attachments_header f.attachments) + c.in_ok-attached.attached)
          (omega (arith, c.len.ensures.exact, ap length both.0, length-append (joined (records_of f)) (attachments_header f.attachments), length-append (octets_of (info_element f.info lasting)) tracks)));
    }
