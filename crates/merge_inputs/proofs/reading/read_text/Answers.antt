-- A text was read.
use Rattle.std.proofs.Common.{sym, ◌∙◌, ap, subst}
use Rattle.std.specs.List.{All}
use Rattle.std.proofs.lemmas.List.Elements.{All-nil}
use Rattle.meta_records.specs.Walk.{IsAttachedIn}
use Rattle.merge_inputs.specs.Taken.{first_unusable, taken_from}
use Rattle.merge_inputs.proofs.TakenLemmas.{AreTaken-read}
use Rattle.merge_inputs.proofs.TextLemmas.{text-read, text-usable}
use Rattle.merge_inputs.proofs.reading.read_text.Goals as goal

pub taken_of-requires : goal.taken_of-requires
taken_of-requires g c = (text-read c.in_ok-tracks.tracks c.in_ok-tracks.ensures.exact c.in_ok-tracks.ensures.whole c.in_ok-tracks.ensures.tracks).sound

pub returns-clause-input : goal.returns-clause-input
returns-clause-input g c =
    record {
      live = ap (λ s. (g.R.Reads.files s).live c.args.file.n) c.in_ok-entries.ensures.only.standing ∙ c.requires.live;
      len = c.size.ensures.exact;
      blocks = c.in_ok-entries.ensures.within;
      taken = AreTaken-read c.args.words.now c.in_ok-tracks.tracks _ c.in_ok-taken_of.ensures (text-read c.in_ok-tracks.tracks c.in_ok-tracks.ensures.exact c.in_ok-tracks.ensures.whole c.in_ok-tracks.ensures.tracks) c.requires.delays
          (ap first_unusable (c.in_ok-taken_of.ensures ∙ ap (taken_from c.args.words.now 0) c.in_ok-tracks.ensures.exact) ∙ text-usable c.args.words.now);
      attachments = subst (All (IsAttachedIn c.args.file c.size.result)) (sym c.new-2.ensures) (All-nil (IsAttachedIn c.args.file c.size.result));
      chapters = tt;
      tags = tt;
    }
