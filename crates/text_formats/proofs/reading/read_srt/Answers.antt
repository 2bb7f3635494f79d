use Rattle.std.proofs.Common.{arith, ◌≡◌, ℕ, List, [], Err, length, rules, refl}
use Rattle.std.proofs.lemmas.List.Sorted.{answers_always, IsNonDecreasingBy-from_sort_by_key, All-permutation}
use Rattle.mkv_io.specs.declared.entry.Entry.{Entry}
use Rattle.text_formats.specs.Lines.{lines_of}
use Rattle.text_formats.specs.Srt.{srt, first_bad}
use Rattle.mkv_io.specs.Sorted.{sorted_by}
use Rattle.text_formats.specs.declared.end.TextEnd.{TextEnd}
use Rattle.text_formats.specs.declared.end.TextEnd.TheVariants as text_end
use Rattle.text_formats.specs.Ends.{Blames, Reads}
use Rattle.text_formats.specs.Reading.{IsEntryWithin}
use Rattle.text_formats.proofs.SortLemmas.{stable_sorted}
use Rattle.text_formats.proofs.reading.read_srt.Goals as goal

abbrev start_of : Entry → ℕ
start_of e = e.start

refused : (e : TextEnd) (content : List ℕ) → Blames e (first_bad (lines_of content)) → Reads (Err e) (srt content)
unfolding srt
refused (text_end.Bad n) content h = rw h refl
refused text_end.Memory content h = tt

pub returns-in-Err-clause-exact : goal.returns-in-Err-clause-exact
returns-in-Err-clause-exact c = refused c.in-Err.end c.args.bytes.now c.in-Err.ensures.err

pub returns-in-Ok-sort_by_key-clause-exact : goal.returns-in-Ok-sort_by_key-clause-exact
unfolding srt
returns-in-Ok-sort_by_key-clause-exact c =
    let items = c.in-Ok.list.items in
    let rises = IsNonDecreasingBy-from_sort_by_key start_of c.sort_by_key.new.self.items c.in-Ok-sort_by_key.ensures.sorted (λ a r q k. search rules) in
    let stable = c.sort_by_key.ensures.stable start_of (answers_always _ _ _ (λ f a r g h. search rules)) in
    let sorted : c.sort_by_key.new.self.items ≡ sorted_by start_of items =
    stable_sorted start_of (λ j. (record { start = j; duration = 0; text = [] }, refl)) items c.sort_by_key.new.self.items stable rises in
    rw (c.in-Ok.ensures.good, c.in-Ok.ensures.ok) (cc (sorted, c.from_vec.ensures))

pub returns-in-Ok-sort_by_key-clause-within : goal.returns-in-Ok-sort_by_key-clause-within
returns-in-Ok-sort_by_key-clause-within c =
    let within = c.in-Ok.ensures.within in
    let moved = c.in-Ok-sort_by_key.ensures.permutation in
    let same = c.in-Ok-sort_by_key.ensures.len in
    let few = within.0 in
    rw c.from_vec.ensures (omega arith, All-permutation (IsEntryWithin (length c.args.bytes.now)) c.in-Ok.list.items c.sort_by_key.new.self.items moved within.1)
