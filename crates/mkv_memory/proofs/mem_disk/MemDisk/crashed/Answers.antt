use Rattle.std.proofs.Common.{◌≤◌, ◌∙◌, ap, length, subst, sym}
use Rattle.mkv_disk.specs.Image.{IsImage}
use Rattle.mkv_memory.specs.Changes.{pair_of}
use Rattle.mkv_memory.specs.SeenDisk.{SeenDisk, pair_in}
use Rattle.mkv_io.specs.declared.outside.TheConstants.{LONGEST_FILE}
use Rattle.mkv_memory.proofs.DiskLemmas.{if_ok}
use Rattle.mkv_memory.proofs.SoundLemmas.{picked, picked-short}
use Rattle.mkv_memory.proofs.mem_disk.MemDisk.crashed.Goals as goal

pub new-requires-clause-media : goal.new-requires-clause-media
new-requires-clause-media c =
    let f = (pair_of c.args.self.now.files.history).media in
    let is = c.deref.ensures.value ∙ c.in_ok-media.ensures f c.in_ok-pending.ensures in
    subst (λ octets. length octets ≤ LONGEST_FILE) (sym is) (picked-short c.left_by-media.result.0 f c.args.self.now.media_sound)

pub new-requires-clause-sidecar : goal.new-requires-clause-sidecar
new-requires-clause-sidecar c =
    let f = (pair_of c.args.self.now.files.history).sidecar in
    let is = c.deref-2.ensures.value ∙ c.in_ok-sidecar.ensures f c.in_ok-pending-2.ensures in
    subst (λ octets. length octets ≤ LONGEST_FILE) (sym is) (picked-short c.left_by-media.result.1 f c.args.self.now.sidecar_sound)

-- The new disk has the chosen images.
pub returns-clause-image : goal.returns-clause-image
returns-clause-image c =
    let media = (pair_of c.args.self.now.files.history).media in let sidecar = (pair_of c.args.self.now.files.history).sidecar in
    let m = c.deref.ensures.value ∙ c.in_ok-media.ensures media c.in_ok-pending.ensures in
    let s = c.deref-2.ensures.value ∙ c.in_ok-sidecar.ensures sidecar c.in_ok-pending-2.ensures in
    if_ok _ _ c.new.result (λ disk is. record {
      media = subst (IsImage media) (sym (ap (λ (d : SeenDisk). (pair_in d).media.reads) is ∙ m)) (picked c.left_by-media.result.0 media c.args.self.now.media_sound);
      sidecar = subst (IsImage sidecar) (sym (ap (λ (d : SeenDisk). (pair_in d).sidecar.reads) is ∙ s)) (picked c.left_by-media.result.1 sidecar c.args.self.now.sidecar_sound);
    }) c.new.ensures.exact
