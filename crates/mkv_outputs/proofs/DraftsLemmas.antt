-- Laws on outputs that are written one at a time, for a caller that stops in the middle.
use Rattle.std.proofs.Common.{◌≡◌, List, [], ◌∷◌, ◌++◌, inl, inr, refl, sym, ◌∙◌, ap}
use Rattle.mkv_io.specs.Names.{Names, with_content}
use Rattle.mkv_outputs.specs.Drafts.{AreDrafted, Draft, IsDrafted, AreWrittenInOrder, outputs_of}
use Rattle.mkv_outputs.specs.Outputs.{Output, with_outputs}
use Rattle.mkv_outputs.proofs.OutputsLemmas.{with_outputs-added}

-- Some first drafts are finished.
pub AreDrafted-whole : (done rest : List Draft) → AreDrafted (outputs_of done) (done ++ rest)
AreDrafted-whole [] rest = tt
AreDrafted-whole (d ∷ []) rest = inl refl
AreDrafted-whole (d ∷ (next ∷ done)) rest = (refl, AreDrafted-whole (next ∷ done) rest)

-- Some first drafts are finished, and the next one is unfinished.
pub AreDrafted-next : (done rest : List Draft) (d : Draft) (o : Output) → IsDrafted o d → AreDrafted (outputs_of done ++ o ∷ []) (done ++ d ∷ rest)
AreDrafted-next [] rest d o is = inr is
AreDrafted-next (first ∷ []) rest d o is = (refl, inr is)
AreDrafted-next (first ∷ (next ∷ done)) rest d o is = (refl, AreDrafted-next (next ∷ done) rest d o is)

-- No draft has been written.
pub AreWrittenInOrder-none : (names : Names) (all : List Draft) → AreWrittenInOrder names names all
AreWrittenInOrder-none names all = record { stand = []; drafted = tt; names = refl }

-- Some first drafts have been written and are finished.
pub AreWrittenInOrder-whole : (old new : Names) (done rest : List Draft) → new ≡ with_outputs old (outputs_of done) → AreWrittenInOrder old new (done ++ rest)
AreWrittenInOrder-whole old new done rest names = record { stand = outputs_of done; drafted = AreDrafted-whole done rest; names = names }

-- Some first drafts have been written and are finished, and a part of the next one has been written.
pub AreWrittenInOrder-next : (old mid new : Names) (done rest : List Draft) (d : Draft) (o : Output) → mid ≡ with_outputs old (outputs_of done) → new ≡ with_content mid o.name o.content → IsDrafted o d → AreWrittenInOrder old new (done ++ d ∷ rest)
AreWrittenInOrder-next old mid new done rest d o before names is = record {
  stand = outputs_of done ++ o ∷ [];
  drafted = AreDrafted-next done rest d o is;
  names = names ∙ ap (λ (n : Names). with_content n o.name o.content) before ∙ sym (with_outputs-added old (outputs_of done) o);
}
