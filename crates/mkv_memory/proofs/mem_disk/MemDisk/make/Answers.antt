use Rattle.std.proofs.Common.{◌≡◌, ◌∙◌, ap, subst, sym}
use Rattle.mkv_disk.specs.Pair.{Pair, file_of, on}
use Rattle.mkv_memory.specs.Changes.{changed_by, pair_of}
use Rattle.mkv_memory.specs.Logged.{Logged}
use Rattle.mkv_memory.specs.LogIn.{change_of}
use Rattle.mkv_memory.specs.Sound.{IsSound}
use Rattle.mkv_memory.proofs.DiskLemmas.{pair-changed}
use Rattle.mkv_memory.proofs.SoundLemmas.{can-within, sound-media, sound-sidecar}
use Rattle.mkv_memory.proofs.mem_disk.MemDisk.make.Goals as goal

pub make-requires-clause-inside : goal.make-requires-clause-inside
make-requires-clause-inside c =
    can-within (change_of c.args.done c.args.bytes.now) (file_of c.args.file.n (pair_of c.args.self.now.files.history)).reads c.requires.inside
    (sym (c.is_too_long.ensures c.args.bytes.now c.requires.count) ∙ c.if-is_too_long.false)

-- A change that can be made leaves both files valid.
pub invariant_of-self-2 : goal.invariant_of-self-2
invariant_of-self-2 c =
    let h = c.args.self.now.files.history in let change = change_of c.args.done c.args.bytes.now in
    let can = can-within change (file_of c.args.file.n (pair_of h)).reads c.requires.inside (sym (c.is_too_long.ensures c.args.bytes.now c.requires.count) ∙ c.if-is_too_long.false) in
    let pair : pair_of c.make.new.self.history ≡ on c.args.file.n (changed_by change) (pair_of h) = ap (λ (l : Logged). pair_of l.history) c.make.ensures ∙ pair-changed h c.args.file.n change in
    record {
      media_sound = subst (λ (p : Pair). IsSound p.media) (sym pair) (sound-media c.args.file.n change (pair_of h) c.args.self.now.media_sound can);
      sidecar_sound = subst (λ (p : Pair). IsSound p.sidecar) (sym pair) (sound-sidecar c.args.file.n change (pair_of h) c.args.self.now.sidecar_sound can);
    }
