-- Readings among other files, and at the end.
use Rattle.std.proofs.Common.{◌≡◌, ◌≤◌, ℕ, List, [], Option, sym, ◌∙◌, subst}
use Rattle.mkv_io.specs.LiveFiles.{LiveFiles, IsSameFile}
use Rattle.mkv_io.specs.Told.{IfVisible}
use Rattle.elements.specs.Window.{Holds, HasNotPassed}
use Rattle.block_format.specs.Elements.{with_limits}
use Rattle.cluster_reader.specs.Reading.{Reading, CanRead, IsAtEnd, left_of}
use Rattle.cluster_reader.proofs.LeftLemmas.{left-end}

-- At the end nothing is left.
pub left_of-end : (bytes : List ℕ) (c : Reading) → IsAtEnd c.place → left_of bytes c ≡ []
left_of-end bytes c end = left-end (with_limits c.scale) bytes c.place end.outside end.past

-- A reading depends only on its own file.
pub CanRead-kept : (old new : LiveFiles) (c : Reading) → IsSameFile old new c.file.n → CanRead old c → CanRead new c
CanRead-kept old new c same can =
    let size = sym (same.size can.live) in
    record {
      live = same.alive ∙ can.live;
      inside = subst (λ (n : ℕ). c.place.end ≤ n) size can.inside;
      holds = subst (λ (o : Option (List ℕ)). IfVisible o (λ bytes. Holds bytes c.ahead)) (sym (same.content can.live)) can.holds;
      before = subst (λ (n : ℕ). HasNotPassed c.ahead c.place.at n) size can.before;
    }
