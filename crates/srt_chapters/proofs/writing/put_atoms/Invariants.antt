-- The atoms among the children that were passed have been written.
use Rattle.std.proofs.Common.{◌≡◌, ◌+◌, ◌≤◌, ◌++◌, take, length}
use Rattle.srt_chapters.specs.Extracted.{put_atoms, atoms_in}
use Rattle.srt_chapters.proofs.writing.put_atoms.Given as goal

abbrev pub invariant-loop-child : goal.invariant-loop-child
invariant-loop-child l = record {
  number : l.number ≡ 1 + length (atoms_in (take l.child-index l.children));
  few : l.number ≤ l.child-index + 1;
  out : l.out ≡ l.fn.out ++ put_atoms 1 (atoms_in (take l.child-index l.children));
}
