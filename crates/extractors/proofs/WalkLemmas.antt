-- A walk over the blocks of a file that is open while outputs are written.
use Rattle.std.proofs.Common.{◌≡◌, ℕ, ◌+◌, ◌*◌, ◌≤◌, List, [], ◌∷◌, ◌++◌, length, Bool, true, false, Result, Ok, Err, IsErr, refl, sym, ◌∙◌, ap, subst, append_assoc, append-nil, arith}
use Rattle.std.proofs.Math.ListN.{replicate}
use Rattle.mkv_io.specs.declared.damage.Damage.{Damage}
use Rattle.mkv_io.specs.Names.{AreOthers, Names}
use Rattle.mkv_io.specs.Sources.{live_files}
use Rattle.mkv_io.specs.Writing.{KeepsOthers}
use Rattle.mkv_io.specs.declared.reads.Reads.{Ghosts}
use Rattle.mkv_io.specs.declared.files.Files as writing
use Rattle.mkv_io.proofs.WritingLemmas.{KeepsOthers-none, KeepsOthers-then, UsesOnly-standing}
use Rattle.block_format.specs.Block.{Block}
use Rattle.block_format.specs.Events.{Event, block, blocks_of, damages_of}
use Rattle.cluster_reader.specs.Reading.{damage_event}
use Rattle.cluster_reader.specs.ToldDamages.{ToldDamages, told_damages, with_damage}
use Rattle.cluster_reader.proofs.ToldDamagesLemmas.{with_damage-told}
use Rattle.mkv_outputs.specs.Outputs.{Output}
use Rattle.mkv_outputs.specs.Sinks.{AreOpen, HaveBeenGiven, WritesOutputs, holders_of, ids_of, names_under}
use Rattle.mkv_outputs.specs.Starts.{AreBegun, ArePrefixes}
use Rattle.mkv_outputs.specs.declared.sink.Sink.{Sink}
use Rattle.mkv_outputs.proofs.FilesLemmas.{AreOpen-kept}
use Rattle.mkv_outputs.proofs.GivenLemmas.{HaveBeenGiven-part, holders_of-kept}
use Rattle.mkv_outputs.proofs.StartsLemmas.{ArePrefixes-then}
use Rattle.extractors.specs.BadFrames.{TellsMore, bad_frames, bad_in, told_of}
use Rattle.extractors.specs.Content.{outputs_of}
use Rattle.extractors.specs.declared.extracted.Extracted.{Extracted}
use Rattle.extractors.specs.declared.track_output.TrackOutput.{TrackOutput}
use Rattle.extractors.proofs.BadFramesLemmas.{told_of-is}
use Rattle.extractors.proofs.CodecLemmas.{bad_frames-more}
use Rattle.extractors.proofs.ContentLemmas.{outputs_of-begun}
use Rattle.extractors.specs.Walks.{HaveBlocks, ReadsFew, WritesAndReads, numbers_after}

-- ---- the events of a file

-- The first events of `all` were read, and `left` remains; `passed` has the blocks, and `damages` the damage.
pub record MetUpTo (all left : List Event) (passed : List Block) (damages : ToldDamages) : Type 0 where
  pub blocks : blocks_of all ≡ passed ++ blocks_of left
  pub met : List Damage
  pub kept : damages ≡ told_damages met
  pub split : damages_of all ≡ met ++ damages_of left

pub MetUpTo-begins : (all : List Event) (damages : ToldDamages) → damages ≡ told_damages [] → MetUpTo all all [] damages
MetUpTo-begins all damages none = record { blocks = refl; met = []; kept = none; split = refl }

pub MetUpTo-block : (all left later : List Event) (passed : List Block) (damages : ToldDamages) (b : Block) → MetUpTo all left passed damages → left ≡ block b ∷ later → MetUpTo all later (passed ++ b ∷ []) damages
MetUpTo-block all left later passed damages b met is = record {
  blocks = met.blocks ∙ ap (λ (es : List Event). passed ++ blocks_of es) is ∙ sym (append_assoc passed (b ∷ []) (blocks_of later));
  met = met.met;
  kept = met.kept;
  split = met.split ∙ ap (λ (es : List Event). met.met ++ damages_of es) is;
}

pub MetUpTo-damage : (all left later : List Event) (passed : List Block) (before damages : ToldDamages) (last : Bool) (d : Damage) → MetUpTo all left passed before → left ≡ damage_event last d ∷ later → damages ≡ with_damage before d → MetUpTo all later passed damages
MetUpTo-damage all left later passed before damages last d met is adds = record {
  blocks = met.blocks ∙ ap (λ (es : List Event). passed ++ blocks_of es) is ∙ ap (λ (bs : List Block). passed ++ bs) (no_block last);
  met = met.met ++ d ∷ [];
  kept = adds ∙ ap (λ (told : ToldDamages). with_damage told d) met.kept ∙ with_damage-told met.met d;
  split = met.split ∙ ap (λ (ds : List Damage). met.met ++ ds) (ap damages_of is ∙ one_damage last) ∙ sym (append_assoc met.met (d ∷ []) (damages_of later));
}
  where
    no_block : (last : Bool) → blocks_of (damage_event last d ∷ later) ≡ blocks_of later
    no_block true = refl
    no_block false = refl

    one_damage : (last : Bool) → damages_of (damage_event last d ∷ later) ≡ d ∷ damages_of later
    one_damage true = refl
    one_damage false = refl

-- At the end all events were read.
pub MetUpTo-blocks : (all left : List Event) (passed : List Block) (damages : ToldDamages) → MetUpTo all left passed damages → left ≡ [] → passed ≡ blocks_of all
MetUpTo-blocks all left passed damages met none = sym (met.blocks ∙ ap (λ (es : List Event). passed ++ blocks_of es) none ∙ append-nil passed)

pub MetUpTo-damages : (all left : List Event) (passed : List Block) (damages : ToldDamages) → MetUpTo all left passed damages → left ≡ [] → damages ≡ told_damages (damages_of all)
MetUpTo-damages all left passed damages met none =
    met.kept ∙ ap told_damages (sym (met.split ∙ ap (λ (es : List Event). met.met ++ damages_of es) none ∙ append-nil met.met))

-- The outputs of the events that were read are first parts of the outputs of all.
pub MetUpTo-begun : (list : List TrackOutput) (all left : List Event) (passed : List Block) (damages : ToldDamages) → MetUpTo all left passed damages → AreBegun (outputs_of list passed) (outputs_of list (blocks_of all))
MetUpTo-begun list all left passed damages met =
    subst (λ (bs : List Block). AreBegun (outputs_of list passed) (outputs_of list bs)) (sym met.blocks)
    (outputs_of-begun list passed (blocks_of left))

-- ---- the content of the outputs

-- The outputs have the same content if names and holders are the same.
pub HaveBeenGiven-moved : (since old new : Names) (holder later : ℕ → List ℕ) (sinks : List Sink) (given : List Output) → HaveBeenGiven since old holder sinks given → new ≡ old → ((file : ℕ) → later file ≡ holder file) → HaveBeenGiven since new later sinks given
HaveBeenGiven-moved since old new holder later sinks given has names holders =
    subst (λ (n : Names). HaveBeenGiven since n later sinks given) (sym names)
    (subst (λ (h : ℕ → List ℕ). HaveBeenGiven since old h sinks given) (sym (λ i file. holders file i)) has)

-- Outputs that had no block have `passed`, and `numbers` are the numbers of their next frames.
abbrev pub Given : {S : Type 0} → writing.Ghosts S → List TrackOutput → S → S → List Sink → List Sink → List ℕ → List Block → Type 0
Given f list old new sinks later numbers passed = (since : Names) → HaveBeenGiven since (f.names old) (f.holder old) sinks (outputs_of list []) → HaveBlocks f since list new later numbers passed

-- ---- the events that were read, written and reported

-- The events that were read are in the outputs, and their damage and bad frames are reported; `left` remains.
pub record MetSoFar {S : Type 0} (f : writing.Ghosts S) (list : List TrackOutput) (old new : S) (sinks later : List Sink) (numbers : List ℕ) (all left : List Event) (damages bad : ToldDamages) : Type 0 where
  pub passed : List Block
  pub has : Given f list old new sinks later numbers passed
  pub met : MetUpTo all left passed damages
  pub told : bad ≡ told_damages (bad_frames list passed)

pub MetSoFar-begins : {S : Type 0} (f : writing.Ghosts S) (list : List TrackOutput) (files : S) (sinks : List Sink) (numbers : List ℕ) (all : List Event) (damages bad : ToldDamages) → numbers ≡ replicate (length list) 1 → damages ≡ told_damages [] → bad ≡ told_damages [] → MetSoFar f list files files sinks sinks numbers all all damages bad
MetSoFar-begins f list files sinks numbers all damages bad ones none good =
    record { passed = []; has = λ since has. record { given = has; next = ones ∙ each list }; met = MetUpTo-begins all damages none; told = good }
  where
    each : (os : List TrackOutput) → replicate (length os) 1 ≡ numbers_after os []
    each [] = refl
    each (o ∷ os) = ap (λ (rest : List ℕ). 1 ∷ rest) (each os)

-- The cursor advanced.
pub MetSoFar-read : {S : Type 0} (f : writing.Ghosts S) (list : List TrackOutput) (a b c : S) (sinks now : List Sink) (numbers : List ℕ) (all left : List Event) (damages bad : ToldDamages) → MetSoFar f list a b sinks now numbers all left damages bad → f.names c ≡ f.names b → ((file : ℕ) → f.holder c file ≡ f.holder b file) → MetSoFar f list a c sinks now numbers all left damages bad
MetSoFar-read f list a b c sinks now numbers all left damages bad so names holders = record {
  passed = so.passed;
  has = λ since has.
      let had = so.has since has in
      record { given = HaveBeenGiven-moved since (f.names b) (f.names c) (f.holder b) (f.holder c) now (outputs_of list so.passed) had.given names holders; next = had.next };
  met = so.met;
  told = so.told;
}

-- The cursor returned a block, which was added to the outputs.
pub MetSoFar-block : {S : Type 0} (f : writing.Ghosts S) (list : List TrackOutput) (a b c : S) (sinks now later : List Sink) (numbers next : List ℕ) (all left behind : List Event) (damages bad more : ToldDamages) (given : Block) → MetSoFar f list a b sinks now numbers all left damages bad → left ≡ block given ∷ behind → ((since : Names) (blocks : List Block) → HaveBlocks f since list b now numbers blocks → HaveBlocks f since list c later next (blocks ++ given ∷ [])) → TellsMore bad more (bad_in list given) → MetSoFar f list a c sinks later next all behind damages more
MetSoFar-block f list a b c sinks now later numbers next all left behind damages bad more given so is gives tells = record {
  passed = so.passed ++ given ∷ [];
  has = λ since has. gives since so.passed (so.has since has);
  met = MetUpTo-block all left behind so.passed damages given so.met is;
  told = tells (bad_frames list so.passed) so.told ∙ ap told_damages (sym (bad_frames-more list so.passed given));
}

-- The cursor returned damage.
pub MetSoFar-damage : {S : Type 0} (f : writing.Ghosts S) (list : List TrackOutput) (a b : S) (sinks now : List Sink) (numbers : List ℕ) (all left behind : List Event) (damages bad more : ToldDamages) (last : Bool) (d : Damage) → MetSoFar f list a b sinks now numbers all left damages bad → left ≡ damage_event last d ∷ behind → more ≡ with_damage damages d → MetSoFar f list a b sinks now numbers all behind more bad
MetSoFar-damage f list a b sinks now numbers all left behind damages bad more last d so is adds =
    record { passed = so.passed; has = so.has; met = MetUpTo-damage all left behind so.passed damages more last d so.met is adds; told = so.told }

-- The content up to here is a first part of the whole.
pub MetSoFar-begun : {S : Type 0} (f : writing.Ghosts S) (list : List TrackOutput) (a b : S) (sinks now : List Sink) (numbers : List ℕ) (all left : List Event) (damages bad : ToldDamages) → MetSoFar f list a b sinks now numbers all left damages bad → (since : Names) → HaveBeenGiven since (f.names a) (f.holder a) sinks (outputs_of list []) → ArePrefixes since (f.names b) (outputs_of list (blocks_of all))
MetSoFar-begun f list a b sinks now numbers all left damages bad so = λ since has.
    ArePrefixes-then since (f.names b) (outputs_of list so.passed) (outputs_of list (blocks_of all))
    (HaveBeenGiven-part since (f.names b) (f.holder b) now (outputs_of list so.passed) (so.has since has).given)
    (MetUpTo-begun list all left so.passed damages so.met)

-- After a block that failed, it still is.
pub MetSoFar-part : {S : Type 0} (f : writing.Ghosts S) (list : List TrackOutput) (a b c : S) (sinks now : List Sink) (numbers : List ℕ) (all left behind : List Event) (damages bad : ToldDamages) (given : Block) → MetSoFar f list a b sinks now numbers all left damages bad → left ≡ block given ∷ behind → ((since : Names) (blocks : List Block) → HaveBlocks f since list b now numbers blocks → ArePrefixes since (f.names c) (outputs_of list (blocks ++ given ∷ []))) → (since : Names) → HaveBeenGiven since (f.names a) (f.holder a) sinks (outputs_of list []) → ArePrefixes since (f.names c) (outputs_of list (blocks_of all))
MetSoFar-part f list a b c sinks now numbers all left behind damages bad given so is part = λ since has.
    ArePrefixes-then since (f.names c) (outputs_of list (so.passed ++ given ∷ [])) (outputs_of list (blocks_of all)) (part since so.passed (so.has since has))
    (MetUpTo-begun list all behind (so.passed ++ given ∷ []) damages (MetUpTo-block all left behind so.passed damages given so.met is))

-- At the end all blocks are in the outputs.
pub MetSoFar-ends : {S : Type 0} (f : writing.Ghosts S) (list : List TrackOutput) (a b : S) (sinks now : List Sink) (numbers : List ℕ) (all left : List Event) (damages bad : ToldDamages) → MetSoFar f list a b sinks now numbers all left damages bad → left ≡ [] → (since : Names) → HaveBeenGiven since (f.names a) (f.holder a) sinks (outputs_of list []) → HaveBeenGiven since (f.names b) (f.holder b) now (outputs_of list (blocks_of all))
MetSoFar-ends f list a b sinks now numbers all left damages bad so none = λ since has.
    subst (λ (bs : List Block). HaveBeenGiven since (f.names b) (f.holder b) now (outputs_of list bs)) (MetUpTo-blocks all left so.passed damages so.met none) (so.has since has).given

-- At the end everything is reported.
pub MetSoFar-told : {S : Type 0} (f : writing.Ghosts S) (list : List TrackOutput) (a b : S) (sinks now : List Sink) (numbers : List ℕ) (all left : List Event) (told : Extracted) → MetSoFar f list a b sinks now numbers all left told.damages told.bad_frames → left ≡ [] → told ≡ told_of list all
MetSoFar-told f list a b sinks now numbers all left told so none =
    told_of-is list all told (MetUpTo-damages all left so.passed told.damages so.met none)
    (so.told ∙ ap (λ (blocks : List Block). told_damages (bad_frames list blocks)) (MetUpTo-blocks all left so.passed told.damages so.met none))

-- ---- the files

-- Nothing is done yet.
pub WritesAndReads-none : {S : Type 0} (r : Ghosts S) (f : writing.Ghosts S) (files : S) (sinks : List Sink) → AreOpen r files sinks → WritesAndReads r f files files sinks sinks
WritesAndReads-none r f files sinks outputs = record { same = refl; outputs = outputs; kept = KeepsOthers-none r f (names_under f files sinks) files }

-- A file was read.
pub WritesAndReads-read : {S : Type 0} (r : Ghosts S) (f : writing.Ghosts S) (a b c : S) (sinks now : List Sink) → WritesAndReads r f a b sinks now → r.standing c ≡ r.standing b → f.given c ≡ f.given b → ((file : ℕ) → f.holder c file ≡ f.holder b file) → f.asked c ≡ f.asked b → WritesAndReads r f a c sinks now
WritesAndReads-read r f a b c sinks now walks same given holders asked = record {
  same = walks.same;
  outputs = AreOpen-kept r b c now now walks.outputs refl (λ file. ap (λ standing. (r.files standing).live file) same);
  kept = KeepsOthers-then r f (names_under f a sinks) a b c walks.kept (UsesOnly-standing r f [] (names_under f a sinks) b c same given (λ file live. holders file) asked);
}

-- The outputs keep their names.
names_kept : {S : Type 0} (r : Ghosts S) (f : writing.Ghosts S) (a b : S) (sinks now : List Sink) → AreOpen r a sinks → WritesAndReads r f a b sinks now → names_under f b now ≡ names_under f a sinks
names_kept r f a b sinks now open_before walks =
    ap (holders_of (f.holder b)) walks.same ∙ holders_of-kept (live_files r a).live (f.holder a) (f.holder b) (ids_of sinks) open_before.live walks.kept.holders

-- A file that isn't an output doesn't become one.
pub input-other : {S : Type 0} (r : Ghosts S) (f : writing.Ghosts S) (a b : S) (sinks now : List Sink) (file : ℕ) → AreOpen r a sinks → WritesAndReads r f a b sinks now → (live_files r a).live file ≡ true → AreOthers (f.holder a file) (names_under f a sinks) → AreOthers (f.holder b file) (names_under f b now)
input-other r f a b sinks now file open_before walks live others =
    let P : List (List ℕ) → Type 0 = λ names. AreOthers (f.holder b file) names in
    subst P (sym (names_kept r f a b sinks now open_before walks))
    (let Q : List ℕ → Type 0 = λ name. AreOthers name (names_under f a sinks) in subst Q (sym (walks.kept.holders file live)) others)

-- Outputs were written.
pub WritesAndReads-write : {S : Type 0} (r : Ghosts S) (f : writing.Ghosts S) (a b c : S) (sinks now later : List Sink) → AreOpen r a sinks → WritesAndReads r f a b sinks now → WritesOutputs r f b c now later → WritesAndReads r f a c sinks later
WritesAndReads-write r f a b c sinks now later open_before walks wrote = record {
  same = wrote.same ∙ walks.same;
  outputs = wrote.outputs;
  kept = KeepsOthers-then r f (names_under f a sinks) a b c walks.kept
      (subst (λ (names : List (List ℕ)). KeepsOthers r f names b c) (names_kept r f a b sinks now open_before walks) wrote.only.kept);
}

-- ---- the bytes that are read

-- The file's length bounds all that was read, and twice its length bounds a call that failed.
pub ReadsFew-all : {T E : Type 0} (size before now : ℕ) (result : Result T E) → now ≤ before + size → ReadsFew size before now result
ReadsFew-all size before now (Ok done) few = few
ReadsFew-all size before now (Err end) few = omega (arith, few)

pub ReadsFew-err : {T E : Type 0} (size before now : ℕ) (result : Result T E) → IsErr result → now ≤ before + 2 * size → ReadsFew size before now result
ReadsFew-err size before now (Ok done) is few = absurd (cc)
ReadsFew-err size before now (Err end) is few = few
