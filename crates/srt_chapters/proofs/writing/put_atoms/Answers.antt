use Rattle.std.proofs.Common.{◌≡◌, ◌==◌, ◌∷◌, [], append_assoc, length-append, true, sym, ◌∙◌, refl, take, arith}
use Rattle.mkv_schema.specs.declared.ids.TheConstants.{CHAPTER_ATOM}
use Rattle.tree_format.specs.Node.{id_of}
use Rattle.text_formats.specs.ChapterWriting.{put_pair}
use Rattle.srt_chapters.specs.Extracted.{atoms_in, put_atoms, start_of, name_of}
use Rattle.srt_chapters.proofs.ExtractedLemmas.{child_sound, atoms_more, atom_more}
use Rattle.srt_chapters.proofs.writing.put_atoms.Goals as goal

pub start_of-requires : goal.start_of-requires
start_of-requires c =
    child_sound c.args.edition.now _ c.children-children.result.now c.loop-child.child-index c.requires.sound c.children-children.ensures.exact c.loop-child-test.true c.child-item.is
    (sym c.id.ensures ∙ c.if-id-ne-CHAPTER_ATOM.false)

pub loop-child-preserved : goal.loop-child-preserved
loop-child-preserved c =
    let ns = c.children-children.result.now in let i = c.loop-child.child-index in let n = c.child-item.result in
    let atom : id_of n ≡ CHAPTER_ATOM = sym c.id.ensures ∙ c.if-id-ne-CHAPTER_ATOM.false in
    let own : (id_of n == CHAPTER_ATOM) ≡ true = rw atom refl in
    let more = atom_more ns i n c.loop-child-test.true (sym c.child-item.is) own in
    let joined = atoms_more 1 (atoms_in (take i ns)) n in
    let pushed = length-append (atoms_in (take i ns)) (n ∷ []) in
    let number = c.loop-child.invariant.number in
    let grown = append_assoc c.args.out.now (put_atoms 1 (atoms_in (take i ns))) (put_pair c.loop-child.number (start_of n) (name_of n)) in
    let counted = rw (← number) at joined in
    record {
      number = rw more (omega arith);
      few = omega arith;
      out = rw (more, counted) (cc (c.in_default.ensures.ok, c.loop-child.invariant.out, c.start_of.ensures, c.name_of.ensures, grown));
    }
