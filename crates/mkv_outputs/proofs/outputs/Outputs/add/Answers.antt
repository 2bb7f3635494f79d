use Rattle.mkv_io.specs.declared.outside.FileId.{FileId}
use Rattle.std.proofs.Common.{ℕ, length, ◌<◌, ◌≡◌, ◌++◌, ◌∷◌, [], List, ap, arith, inl, refl, sym, subst, ◌∙◌}
use Rattle.mkv_io.proofs.AskedLemmas.{asks-made}
use Rattle.mkv_outputs.specs.Outputs.{empty}
use Rattle.mkv_outputs.specs.Sinks.{HaveBeenGiven, MakesOnly, ids_of}
use Rattle.mkv_outputs.specs.declared.sink.Sink.{Sink}
use Rattle.mkv_outputs.proofs.FilesLemmas.{AreLive-added, AreLive-below, AreNewer-added, AreRising-added, IsNoneOf-added}
use Rattle.mkv_outputs.proofs.GivenLemmas.{Gives-refused, HaveBeenGiven-added}
use Rattle.mkv_outputs.proofs.outputs.Outputs.add.Goals as goal

-- Without memory the file isn't touched.
pub returns-in_err-waiting-clause-gives : goal.returns-in_err-waiting-clause-gives
returns-in_err-waiting-clause-gives g c = Gives-refused g.F.Files _ _ c.from_residual.result _ _ c.args.name.now c.from_residual.ensures.0 (inl refl)

pub returns-in_err-reserve-clause-gives : goal.returns-in_err-reserve-clause-gives
returns-in_err-reserve-clause-gives g c = Gives-refused g.F.Files _ _ c.from_residual-in_err-reserve.result _ _ c.args.name.now c.from_residual-in_err-reserve.ensures.0 (inl refl)

-- A `create` that fails leaves the file as it was, or empty.
pub returns-in_err-file-clause-gives : goal.returns-in_err-file-clause-gives
returns-in_err-file-clause-gives g c = Gives-refused g.F.Files _ _ c.from_residual-in_err-file.result _ _ c.args.name.now c.from_residual-in_err-file.ensures.0 c.in_err-file.ensures.refused.names

-- The new output follows the others, and has no bytes yet.
pub returns-clause-gives : goal.returns-clause-gives
returns-clause-gives g c = λ since given has.
    let added : c.push_reserved.new.self.items ≡ c.args.self.now ++ record { file = c.in_ok-file.file; waiting = c.in_ok-waiting.waiting } ∷ [] =
    c.push_reserved.ensures.items ∙ ap (λ (ss : List Sink). ss ++ record { file = c.in_ok-file.file; waiting = c.in_ok-waiting.waiting } ∷ []) (c.reserve.ensures.items ∙ c.self.view_is) in
    subst (λ (ss : List Sink). HaveBeenGiven since (g.F.Files.names c.create.new.self) (g.F.Files.holder c.create.new.self) ss (given ++ empty c.args.name.now ∷ [])) (sym added)
    (HaveBeenGiven-added since _ _ (g.F.Reads.files (g.F.Reads.standing c.args.files.now)).live _ _ c.args.self.now (record { file = c.in_ok-file.file; waiting = c.in_ok-waiting.waiting }) given c.args.name.now has
    c.in_ok-file.ensures.made.names c.in_ok-waiting.ensures c.in_ok-file.ensures.made.is_new.holder c.requires.outputs.live c.create.ensures.stays.holders c.requires.apart)

-- Its number is new, so the files of the others are live as before.
pub returns-clause-only : goal.returns-clause-only
returns-clause-only g c =
    let added : c.push_reserved.new.self.items ≡ c.args.self.now ++ record { file = c.in_ok-file.file; waiting = c.in_ok-waiting.waiting } ∷ [] =
    c.push_reserved.ensures.items ∙ ap (λ (ss : List Sink). ss ++ record { file = c.in_ok-file.file; waiting = c.in_ok-waiting.waiting } ∷ []) (c.reserve.ensures.items ∙ c.self.view_is) in
    let numbered = λ (k : ℕ) (d : FileId) (below : k < length (ids_of c.args.self.now)). g.met.F.Files.numbered c.args.files.now _ (c.requires.outputs.live k d below) in
    subst (λ (ss : List Sink). MakesOnly g.F.Reads g.F.Files c.args.name.now c.args.files.now c.create.new.self c.args.self.now ss) (sym added) (record {
      outputs = record {
        live = AreLive-added (g.F.Reads.files (g.F.Reads.standing c.create.new.self)).live c.args.self.now (record { file = c.in_ok-file.file; waiting = c.in_ok-waiting.waiting })
            (AreLive-below (g.F.Reads.files (g.F.Reads.standing c.args.files.now)).live (g.F.Reads.files (g.F.Reads.standing c.create.new.self)).live (g.F.Files.given c.args.files.now) (ids_of c.args.self.now)
            c.requires.outputs.live (λ file live. g.met.F.Files.numbered c.args.files.now file live) c.create.ensures.stays.alive)
            c.in_ok-file.ensures.made.is_new.live;
        rising = AreRising-added (g.F.Files.given c.args.files.now) c.args.self.now (record { file = c.in_ok-file.file; waiting = c.in_ok-waiting.waiting }) c.requires.outputs.rising numbered c.in_ok-file.ensures.made.is_new.number.0;
      };
      newer = λ least below newer. AreNewer-added least c.args.self.now (record { file = c.in_ok-file.file; waiting = c.in_ok-waiting.waiting }) newer (omega (arith, below, c.in_ok-file.ensures.made.is_new.number.0));
      among = λ file none. (IsNoneOf-added c.args.self.now (record { file = c.in_ok-file.file; waiting = c.in_ok-waiting.waiting }) file none).0;
      besides = λ file none. c.in_ok-file.ensures.made.is_new.alone file (IsNoneOf-added c.args.self.now (record { file = c.in_ok-file.file; waiting = c.in_ok-waiting.waiting }) file none).1;
      given = c.create.ensures.stays.given;
      alive = c.create.ensures.stays.alive;
      holders = c.create.ensures.stays.holders;
      others = c.create.ensures.stays.others;
      asks = asks-made [] c.args.name.now (g.F.Files.asked c.args.files.now) (g.F.Files.asked c.create.new.self) c.create.result c.create.ensures.asks;
      reading = c.create.ensures.unread.reading;
      octets = c.create.ensures.unread.octets;
    })
