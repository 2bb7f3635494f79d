-- The Chapters of an output stay.
use Rattle.std.proofs.Common.{◌≡◌, ℕ, List, refl, sym, ap, ap₂, ◌∙◌, subst}
use Rattle.mkv_schema.specs.declared.ids.TheConstants.{CHAPTERS}
use Rattle.tree_format.specs.Node.{IsMaster, Node, leaf, master, nodes_of, id_of, children}
use Rattle.tree_format.specs.NormalForm.{octets}
use Rattle.tree_format.specs.Standing.{placed}
use Rattle.record_changes.specs.Atoms.{chapter_uids, edition_uids}
use Rattle.record_changes.specs.ChapterIdentifiers.{with_identifiers}
use Rattle.record_changes.specs.Identifiers.{renumbered}
use Rattle.record_laws.specs.Chapters.{ChaptersStay, chapter_numbers, edition_numbers, settled}
use Rattle.remerge_laws.specs.OwnChapters.{OwnChaptersStay}
use Rattle.remerge_laws.proofs.PlacedLemmas.{id-placed}
use Rattle.remerge_laws.proofs.StandLemmas.{children-decide}

-- With identifiers they are still a master with their ID.
settled-id : (chapters : Node) → id_of (settled chapters) ≡ id_of chapters
settled-id (leaf id at body) = refl
settled-id (master id at kids) = refl

settled-master : (chapters : Node) → IsMaster chapters → IsMaster (settled chapters)
settled-master (leaf id at body) is = is
settled-master (master id at kids) is = refl

placed-master : (n : Node) (p : ℕ) → IsMaster n → IsMaster (placed p n)
placed-master (leaf id at body) p is = is
placed-master (master id at kids) p is = refl

-- New Chapters with the same children.
made-anew : (read : Node) → IsMaster read → id_of read ≡ CHAPTERS → octets (settled (master CHAPTERS 0 (nodes_of (children read)))) ≡ octets (settled read)
made-anew read is own =
    let anew : Node = master CHAPTERS 0 (nodes_of (children read)) in
    ap₂ (λ (editions uids : List ℕ). octets (with_identifiers (renumbered editions) (renumbered uids) anew)) (children-decide.editions read) (children-decide.chapters read)
    ∙ children-decide.same (edition_numbers read) (chapter_numbers read) read is own

pub own-chapters : ChaptersStay → OwnChaptersStay
own-chapters stay = record {
  editions = λ chapters read are stands. ap edition_uids stands.1 ∙ stay.editions chapters stands.0 are;
  chapters = λ chapters read are stands. ap chapter_uids stands.1 ∙ stay.chapters chapters stands.0 are;
  same = λ chapters read are own stands.
      made-anew read
      (subst IsMaster (sym stands.1) (placed-master (settled chapters) stands.0 (settled-master chapters are.master)))
      (ap id_of stands.1 ∙ id-placed (settled chapters) stands.0 ∙ settled-id chapters ∙ own)
      ∙ ap (λ (n : Node). octets (settled n)) stands.1 ∙ stay.same chapters stands.0 are;
}
