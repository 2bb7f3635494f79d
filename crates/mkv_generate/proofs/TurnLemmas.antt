-- Outputs that are written in sequence: the files at each moment.
use Rattle.std.proofs.Common.{◌≡◌, ◌≢◌, ℕ, List, [], ◌∷◌, ◌++◌, map, Option, Some, Result, Ok, Err, inl, refl, sym, ◌∙◌, ap, subst}
use Rattle.std.proofs.lemmas.List.{map-append}
use Rattle.std.proofs.lemmas.List.Elements.{All-append, All-cons, All-nil}
use Rattle.mkv_io.specs.Names.{Names, changed_at, with_content}
use Rattle.mkv_io.proofs.NamesLemmas.{changed_at-other, changed_at-same}
use Rattle.mkv_outputs.specs.Drafts.{AreDrafted, Draft, AreWrittenInOrder, output_of, outputs_of}
use Rattle.mkv_outputs.specs.Outputs.{Output, with_outputs}
use Rattle.cues_seekhead.specs.Draft.{draft_of}
use Rattle.remux_plan.specs.Parts.{PlannedOutput}
use Rattle.mkv_io.specs.declared.remux_end.RemuxEnd.{RemuxEnd}
use Rattle.remuxer.specs.Output.{IsShort, Writes, WritesAll, WritesLayout, WritesOutputs, drafts_of, laid_out}
use Rattle.remuxer.proofs.OutputsLemmas.{told-with, world_with}
use Rattle.mkv_generate.specs.declared.blocks.MediaKind.TheVariants.{Pictures, Sounds}
use Rattle.mkv_generate.specs.declared.names.Names as own
use Rattle.mkv_generate.specs.Files.{file_of}
use Rattle.mkv_generate.specs.Generate.{made_file, two_files}

-- ---- drafts

-- The first of some drafts are the first of more drafts.
AreDrafted-more : (os : List Output) (ds more : List Draft) → AreDrafted os ds → AreDrafted os (ds ++ more)
AreDrafted-more [] ds more are = tt
AreDrafted-more (o ∷ []) [] more are = absurd are
AreDrafted-more (o ∷ []) (d ∷ ds) more are = are
AreDrafted-more (o ∷ (next ∷ os)) [] more are = absurd are
AreDrafted-more (o ∷ (next ∷ os)) (d ∷ ds) more are = (are.0, AreDrafted-more (next ∷ os) ds more are.1)

pub in_turn-more : (old new : Names) (ds more : List Draft) → AreWrittenInOrder old new ds → AreWrittenInOrder old new (ds ++ more)
in_turn-more old new ds more stands = record { stand = stands.stand; drafted = AreDrafted-more stands.stand ds more stands.drafted; names = stands.names }

-- Complete drafts may come before.
AreDrafted-behind : (done more : List Draft) (os : List Output) → AreDrafted os more → AreDrafted (outputs_of done ++ os) (done ++ more)
AreDrafted-behind [] more os are = are
AreDrafted-behind (d ∷ done) more os are = step (outputs_of done ++ os) (AreDrafted-behind done more os are)
  where
    step : (rest : List Output) → AreDrafted rest (done ++ more) → AreDrafted (output_of d ∷ rest) (d ∷ (done ++ more))
    step [] none = inl refl
    step (next ∷ rest) all = (refl, all)

with_outputs-append : (names : Names) (xs ys : List Output) → with_outputs names (xs ++ ys) ≡ with_outputs (with_outputs names xs) ys
with_outputs-append names [] ys = refl
with_outputs-append names (x ∷ xs) ys = with_outputs-append (with_content names x.name x.content) xs ys

-- ---- outputs

-- The drafts of two lists of outputs in sequence.
pub drafts-append : (xs ys : List PlannedOutput) → drafts_of (xs ++ ys) ≡ drafts_of xs ++ drafts_of ys
drafts-append xs ys = map-append (λ (o : PlannedOutput). draft_of o.name o.document) xs ys

-- Outputs are complete, and later ones are written in order.
pub stopped-behind : (old mid new : Names) (done more : List PlannedOutput) → WritesAll old mid done → AreWrittenInOrder mid new (drafts_of more) → AreWrittenInOrder old new (drafts_of (done ++ more))
stopped-behind old mid new done more writes stands =
    let before : mid ≡ with_outputs old (outputs_of (drafts_of done)) = writes.names ∙ sym (ap (with_outputs old) writes.become) in
    subst (AreWrittenInOrder old new) (sym (drafts-append done more)) (record {
      stand = outputs_of (drafts_of done) ++ stands.stand;
      drafted = AreDrafted-behind (drafts_of done) (drafts_of more) stands.stand stands.drafted;
      names = stands.names ∙ ap (λ (names : Names). with_outputs names stands.stand) before ∙ sym (with_outputs-append old (outputs_of (drafts_of done)) stands.stand);
    })

-- Later outputs are complete, too.
pub written-behind : (old mid new : Names) (done more : List PlannedOutput) → WritesAll old mid done → WritesAll mid new more → WritesAll old new (done ++ more)
written-behind old mid new done more first next = record {
  names =
      next.names ∙ ap (λ (names : Names). with_outputs names (map laid_out more)) first.names
      ∙ sym (ap (with_outputs old) (map-append laid_out done more) ∙ with_outputs-append old (map laid_out done) (map laid_out more));
  become =
      ap outputs_of (drafts-append done more) ∙ map-append output_of (drafts_of done) (drafts_of more)
      ∙ ap (λ (os : List Output). os ++ outputs_of (drafts_of more)) first.become ∙ ap (λ (os : List Output). map laid_out done ++ os) next.become
      ∙ sym (map-append laid_out done more);
  short = λ world told.
      let then = first.names ∙ ap (λ (names : Names). with_outputs names (map laid_out done)) told ∙ told-with world (map laid_out done) in
      All-append (λ (each : PlannedOutput). IsShort each.document) done more (first.short world told) (next.short (world_with world (map laid_out done)) then);
}

-- ---- contents of the names afterwards

-- The last output with a name counts.
pub last-told : (world : List ℕ → Option (List ℕ)) (done : List Output) (o : Output) → world_with world (done ++ o ∷ []) o.name ≡ Some o.content
last-told world [] o = changed_at-same world o.name (λ _. Some o.content)
last-told world (d ∷ done) o = last-told (changed_at d.name (λ _. Some d.content) world) done o

-- A later output with another name doesn't.
pub first-told : (world : List ℕ → Option (List ℕ)) (a b : Output) → a.name ≢ b.name → world_with world (a ∷ (b ∷ [])) a.name ≡ Some a.content
first-told world a b apart =
    changed_at-other (changed_at a.name (λ _. Some a.content) world) b.name a.name (λ _. Some b.content) apart
    ∙ changed_at-same world a.name (λ _. Some a.content)

-- ---- the two files

-- One output.
pub one-written : (old new : Names) (o : PlannedOutput) → WritesLayout old new o.name o.document → WritesAll old new (o ∷ [])
one-written old new o writes = record {
  names = writes.names;
  become = ap (λ (each : Output). each ∷ []) writes.becomes;
  short = λ world told. All-cons (λ (each : PlannedOutput). IsShort each.document) o [] (writes.short world told) (All-nil (λ (each : PlannedOutput). IsShort each.document));
}

-- The first file couldn't be written.
pub one-stopped : (old new : Names) (n : ℕ) (names : own.Names) → AreWrittenInOrder old new (draft_of names.pictures (file_of Pictures n) ∷ []) → AreWrittenInOrder old new (drafts_of (two_files n names))
one-stopped old new n names stands = in_turn-more old new (draft_of names.pictures (file_of Pictures n) ∷ []) (draft_of names.sounds (file_of Sounds n) ∷ []) stands

-- The first file was written.
pub two-written : {T : Type 0} (old mid new : Names) (n : ℕ) (names : own.Names) (result : Result T RemuxEnd) → WritesLayout old mid names.pictures (file_of Pictures n) → Writes mid new names.sounds (file_of Sounds n) result
    → WritesOutputs old new (two_files n names) result
two-written old mid new n names (Ok done) first next =
    written-behind old mid new (made_file Pictures n names.pictures ∷ []) (made_file Sounds n names.sounds ∷ []) (one-written old mid (made_file Pictures n names.pictures) first) (one-written mid new (made_file Sounds n names.sounds) next)
two-written old mid new n names (Err end) first next =
    stopped-behind old mid new (made_file Pictures n names.pictures ∷ []) (made_file Sounds n names.sounds ∷ []) (one-written old mid (made_file Pictures n names.pictures) first) next
