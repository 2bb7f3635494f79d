use Rattle.std.proofs.Common.{arith, ◌≡◌, ◌++◌, ◌∷◌, append_assoc, ◌-◌, ◌+◌, ◌<◌, List, [], None, Some, length, ◌≤◌, All, subst}
use Rattle.std.proofs.lemmas.Grind.{common_steps}
use Rattle.std.proofs.lemmas.List.Elements.{All-push}
use Rattle.mkv_io.specs.declared.entry.Entry.{Entry}
use Rattle.text_formats.specs.Lines.{lines_of}
use Rattle.text_formats.specs.Times.{latest}
use Rattle.text_formats.specs.Srt.{entries}
use Rattle.text_formats.specs.Reading.{entries_at}
use Rattle.text_formats.proofs.LengthLemmas.{texts_short}
use Rattle.text_formats.proofs.SrtLemmas.{left_less, room_within}
use Rattle.text_formats.proofs.reading.read_entries.Goals as goal

no_more : (es : List Entry) → es ++ [] ≡ es
no_more es = grind (arith, common_steps)

pub returns-clause-ok : goal.returns-clause-ok
returns-clause-ok c =
    let none : c.loop-next.next ≡ None = c.in_default.is in
    let same = rw none at c.loop-next.invariant.same in
    cc (same, no_more c.loop-next.list.items)

pub returns-clause-good : goal.returns-clause-good
returns-clause-good c =
    let none : c.loop-next.next ≡ None = c.in_default.is in
    rw none at c.loop-next.invariant.bad

pub returns-clause-within : goal.returns-clause-within
returns-clause-within c =
    let none : c.loop-next.next ≡ None = c.in_default.is in
    let same = rw none at c.loop-next.invariant.same in
    let few = rw none at c.loop-next.invariant.few in
    let is : entries (lines_of c.args.bytes.now) ≡ c.loop-next.list.items = cc (same, no_more c.loop-next.list.items) in
    let short = subst (All (λ (e : Entry). length e.text ≤ length c.args.bytes.now)) is (texts_short c.args.bytes.now) in
    (omega arith, λ k d below. (c.loop-next.invariant.ends k d below, short k d below))

pub loop-next-preserved : goal.loop-next-preserved
loop-next-preserved c =
    let h = c.in-Some.head in
    let is : c.loop-next.next ≡ Some h = c.in-Some.is in
    let few = rw is at c.loop-next.invariant.few in
    let room = rw is at c.loop-next.invariant.room in
    let within = c.in_ok-text.ensures.within in
    let less = left_less h.number h.rest.now c.in_ok-text.after within in
    let longer : length c.push.new.self.items ≡ length c.loop-next.list.items + 1 = grind (arith, common_steps) in
    let right = room.1 in let late = room.2 in
    let same = rw is at c.loop-next.invariant.same in
    let bad = rw is at c.loop-next.invariant.bad in
    let e : Entry = record { start = h.times.start; duration = h.times.end - h.times.start; text = c.in_ok-text.text } in
    let joined = append_assoc c.loop-next.list.items (e ∷ []) (entries_at c.in_ok-text.after) in
    record {
      same = cc (same, c.in_ok-push.ensures.items, c.in_ok-text.ensures.text, c.in_ok-text.ensures.ok.0, joined);
      bad = cc (bad, c.in_ok-text.ensures.ok.1);
      room = room_within h.number h.rest.now c.in_ok-text.after room.0 within;
      few = omega arith;
      ends = rw c.in_ok-push.ensures.items (All-push (λ (e : Entry). e.start + e.duration < latest) c.loop-next.list.items _ c.loop-next.invariant.ends (omega arith));
    }
