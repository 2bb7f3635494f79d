-- The last block of a merge, at its place.
use Rattle.std.proofs.Common.{◌≡◌, ℕ, ◌+◌, Bool, false, ◌&&◌, get_or, List, Option, Some, None, refl, sym, ◌∙◌, ap, ap₂}
use Rattle.std.specs.Prelude.{if◌then◌else◌, is_some}
use Rattle.std.specs.List.{slice_get}
use Rattle.std.specs.Option.{option_map}
use Rattle.std.proofs.lemmas.Option.{unwrap_or-slice_get}
use Rattle.output_model.specs.declared.heads.OutHead.{OutHead}
use Rattle.output_model.specs.OutputBlock.{OutputBlock, lent_block}
use Rattle.cluster_writer.specs.Lengths.{octets_taken}
use Rattle.lanes.specs.Lane.{LaneSeen, lent}
use Rattle.time_merge.specs.Merge.{MergeSeen, StepsTo}
use Rattle.time_merge.specs.declared.queue.Queue.{Queue}
use Rattle.splitter.specs.declared.cuts.Place.{Place}
use Rattle.splitter.specs.Steps.{CutsSeen, counted, is_cut, place_of, start_of, stepped}
use Rattle.std.specs.Option.{unwrap_or}
use Rattle.remuxer.specs.Places.{octets_counted}
use Rattle.remuxer.specs.declared.placed.Ahead.{Ahead}

-- The output track `lane`, counted from 0, drives.
abbrev pub drives_at : List Bool → ℕ → Bool
drives_at drives lane = unwrap_or (slice_get drives lane) false

-- The block of the output track `l` gets its place after the previous ones.
pub record PlacesOne (drives : List Bool) (l : LaneSeen) (old new : CutsSeen) (a : Ahead) : Type 0 where
  pub place : a.place ≡ place_of old ((lent l).head.key && drives_at drives a.lane) (lent l).head.tick
  pub steps : new ≡ stepped old ((lent l).head.key && drives_at drives a.lane) (lent l).head.tick (octets_taken (lent_block (lent l)))

same-some : (l m : LaneSeen) → Some l ≡ Some m → l ≡ m
same-some l m is = cc

-- Bytes that don't count don't change the load.
counted-same : (size : Option ℕ) (before len : ℕ) → counted size (before + (if is_some size then len else 0)) ≡ counted size (before + len)
counted-same None before len = refl
counted-same (Some limit) before len = refl

stepped-counted : (c : CutsSeen) (may : Bool) (tick : ℕ) (b : OutputBlock) → stepped c may tick (octets_counted c b) ≡ stepped c may tick (octets_taken b)
stepped-counted c may tick b =
    ap (λ (load : ℕ). record c { start = Some (if is_cut c may tick then tick else start_of c); load = load })
    (counted-same c.size (if is_cut c may tick then 0 else c.load) (octets_taken b))

pub places-one : (drives : List Bool) (old new : MergeSeen) (k : ℕ) (l : LaneSeen) (head : OutHead) (len : ℕ) (place : Place) (cuts after : CutsSeen) → (steps : StepsTo old new k)
    → option_map (λ (q : Queue). q.lane) (slice_get new.queues k) ≡ Some l → head ≡ (lent l).head
    → len ≡ octets_counted cuts (lent_block (lent l)) → place ≡ place_of cuts (head.key && get_or drives k false) head.tick → after ≡ stepped cuts (head.key && get_or drives k false) head.tick len
    → PlacesOne drives steps.queue.lane cuts after (record { lane = k; place = place })
places-one drives old new k l head len place cuts after steps lane its takes placed on =
    let same : l ≡ steps.queue.lane = same-some l steps.queue.lane (sym lane ∙ ap (option_map (λ (q : Queue). q.lane)) steps.here) in
    let says : head ≡ (lent steps.queue.lane).head = its ∙ ap (λ (x : LaneSeen). (lent x).head) same in
    let driving : get_or drives k false ≡ drives_at drives k = sym (unwrap_or-slice_get drives k false) in
    record {
      place = placed ∙ ap₂ (λ (h : OutHead) (d : Bool). place_of cuts (h.key && d) h.tick) says driving;
      steps =
          on ∙ ap₂ (λ (h : OutHead) (d : Bool). stepped cuts (h.key && d) h.tick len) says driving
          ∙ (ap (λ (n : ℕ). stepped cuts ((lent steps.queue.lane).head.key && drives_at drives k) (lent steps.queue.lane).head.tick n) (takes ∙ ap (λ (x : LaneSeen). octets_counted cuts (lent_block (lent x))) same)
          ∙ stepped-counted cuts ((lent steps.queue.lane).head.key && drives_at drives k) (lent steps.queue.lane).head.tick (lent_block (lent steps.queue.lane)));
    }
