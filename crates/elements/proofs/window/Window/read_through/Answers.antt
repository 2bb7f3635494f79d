use Rattle.std.proofs.Common.{◌≡◌, ◌+◌, ◌-◌, ◌≤◌, List, ℕ, length, take, drop, sym, subst, arith}
use borrow.Rule.Slice.PartMut.{put_mid}
use Rattle.mkv_io.specs.Contents.{octets_from}
use Rattle.elements.specs.Window.{ReadAhead, Holds}
use Rattle.elements.proofs.HeldLemmas.{front-read, kept-less, read-room, read-whole, rest-read}
use Rattle.elements.proofs.window.Window.read_through.Given.{Over}
use Rattle.elements.proofs.window.Window.read_through.Goals.{After-set}
use Rattle.elements.proofs.window.Window.read_through.Goals as goal

-- The held bytes of the body end before the end of the read.
within : (g : Over) (c : After-set g) → c.copy_held-kept.result ≤ c.min-end.result
within g c =
    let less = kept-less c.args.self.now c.args.at c.args.len c.copy_held-kept.result c.requires.less c.copy_held-kept.ensures.held in
    omega (arith, less, c.min-end.ensures, c.copy_held-kept.ensures.within)

-- The buffer has room up to that end.
inside : (g : Over) (c : After-set g) → c.min-end.result ≤ length c.copy_held-kept.new.into
inside g c = omega (arith, c.min-end.ensures, c.requires.room, c.copy_held-kept.ensures.room)

-- The body doesn't pass that end.
whole : (g : Over) (c : After-set g) → c.args.len ≤ c.min-end.result
whole g c = omega (arith, c.min-end.ensures, c.requires.range, c.size-total.ensures.exact)

-- the bytes of the buffer after the read
abbrev filled : (g : Over) (c : After-set g) → List ℕ
filled g c = put_mid c.copy_held-kept.result (c.min-end.result - c.copy_held-kept.result) c.copy_held-kept.new.into c.read_at.new.into

-- The held bytes, then the bytes that were read, are the file's.
read : (g : Over) (c : After-set g) (bytes : List ℕ) → Holds bytes c.args.self.now
    → c.read_at.new.into ≡ octets_from bytes (c.args.at + c.copy_held-kept.result) (length (take (c.min-end.result - c.copy_held-kept.result) (drop c.copy_held-kept.result c.copy_held-kept.new.into)))
    → take c.min-end.result (filled g c) ≡ octets_from bytes c.args.at c.min-end.result
read g c bytes holds told =
    read-whole bytes c.copy_held-kept.new.into c.read_at.new.into c.args.self.now c.size-total.result c.args.at c.copy_held-kept.result c.min-end.result holds
    c.copy_held-kept.ensures.count c.copy_held-kept.ensures.copies (within g c) (inside g c) c.read_at.auto.into told

pub returns-clause-ok : goal.returns-clause-ok
returns-clause-ok g c = λ bytes told.
    front-read bytes (filled g c) c.args.at c.args.len c.min-end.result (whole g c) (read g c bytes (c.requires.holds bytes told) (c.in_ok-read_at.ensures.ok bytes told))

-- The bytes after the body are held.
pub returns-clause-holds : goal.returns-clause-holds
returns-clause-holds g c = λ bytes told.
    let room = read-room c.copy_held-kept.new.into c.read_at.new.into c.copy_held-kept.result c.min-end.result (within g c) (inside g c) c.read_at.auto.into in
    let all = read g c bytes (c.requires.holds bytes told) (c.in_ok-read_at.ensures.ok bytes told) in
    subst (λ (w : ReadAhead). Holds bytes w) (sym c.set.ensures) (rest-read bytes (filled g c) c.args.at c.args.len c.min-end.result (whole g c) room all)
