-- Each entry is valid in the Tracks, and is appended.
use Rattle.std.proofs.Common.{◌≡◌, [], ◌∷◌, ◌++◌, refl, sym, ap, subst, ◌∙◌, arith, append-nil, append_assoc}
use Rattle.std.specs.Prelude.{All}
use Rattle.std.proofs.lemmas.List.{nil_from_length}
use Rattle.mkv_schema.specs.declared.ids.TheConstants.{TRACKS}
use Rattle.track_records.specs.Entry.{IsWholeEntry}
use Rattle.ebml_tree.proofs.BuildLemmas.{built-master, built-push, put-is}
use Rattle.output_records.specs.Tracks.{output_tracks}
use Rattle.output_records.proofs.OutputLemmas.{tracks-master, entry-stands, first-whole, rest-whole, built-record}
use Rattle.output_records.proofs.tracks.tracks_of.Goals as goal

pub empty-requires : goal.empty-requires
empty-requires c = tracks-master

pub loop-entry-init : goal.loop-entry-init
loop-entry-init c =
    let same : c.into_iter-entry-iterator.result.rest.items ≡ c.args.entries = c.into_iter-entry-iterator.ensures.into_iter_gives.0 ∙ c.into_vec-entry-items.ensures in
    record { built = c.in_ok-tracks.ensures 31; all = refl; whole = subst (All IsWholeEntry) (sym same) c.requires }

pub push-requires-clause-master : goal.push-requires-clause-master
push-requires-clause-master c = built-master TRACKS 0 31 _ c.loop-entry.tracks c.loop-entry.invariant.built

pub push-requires-clause-room : goal.push-requires-clause-room
push-requires-clause-room c = (first-whole _ _ _ c.in-Some.ensures.steps.0 c.loop-entry.invariant.whole).room

pub loop-entry-preserved : goal.loop-entry-preserved
loop-entry-preserved c =
    let next = c.in-Some.ensures.steps.0 in
    let entry = first-whole _ _ _ next c.loop-entry.invariant.whole in
    let room = entry.room in
    record {
      built = built-push TRACKS 0 31 c.loop-entry.yielded c.loop-entry.tracks c.in-Some.entry c.push.new.self c.loop-entry.invariant.built (put-is _ _ _ _ c.in_ok-push.ensures.ok c.in_ok-push.ensures.full) (entry-stands c.in-Some.entry entry) (omega arith);
      all = append_assoc c.loop-entry.yielded (c.in-Some.entry ∷ []) c.next.new.self.rest.items ∙ ap (λ l. c.loop-entry.yielded ++ l) (sym next) ∙ c.loop-entry.invariant.all;
      whole = rest-whole _ _ _ next c.loop-entry.invariant.whole;
    }

pub returns-clause-exact : goal.returns-clause-exact
returns-clause-exact c =
    let none : c.loop-entry.entry-iterator.rest.items ≡ [] = nil_from_length c.loop-entry.entry-iterator.rest.items (omega (arith, c.loop-entry.entry-iterator.rest.ok, c.in-None.ensures.steps.0)) in
    let all : c.loop-entry.yielded ≡ c.args.entries =
    sym (append-nil c.loop-entry.yielded) ∙ ap (λ l. c.loop-entry.yielded ++ l) (sym none) ∙ c.loop-entry.invariant.all ∙ c.into_iter-entry-iterator.ensures.into_iter_gives.0 ∙ c.into_vec-entry-items.ensures in
    c.loop-entry.invariant.built.is ∙ ap output_tracks all

pub returns-clause-sound : goal.returns-clause-sound
returns-clause-sound c = built-record TRACKS 31 _ c.loop-entry.tracks c.loop-entry.invariant.built (omega arith)
