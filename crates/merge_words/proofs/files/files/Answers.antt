use Rattle.std.proofs.Common.{arith, sym, ◌≡◌, ◌∙◌, true, false, [], drop, append-nil}
use Rattle.std.proofs.lemmas.List.{drop_all}
use Rattle.merge_words.specs.declared.options.Subject.TheVariants as subject
use Rattle.merge_words.specs.Items.{is_file}
use Rattle.merge_words.specs.Files.{file}
use Rattle.merge_words.proofs.FilesLemmas.{made_join, made_take, parted_files}
use Rattle.merge_words.proofs.files.files.Goals as goal
use Rattle.merge_words.proofs.files.files.Goals.{then-is+in_ok-file+in_ok-push, else-is}

-- An item joins the group, or a file takes it.
pub loop-k-preserved : goal.loop-k-preserved
loop-k-preserved c =
    let l = c.loop-k in let items = c.args.items.now in let i = c.index-items-k.result in
    elim c.if-is.branch [
      | then-is+in_ok-file+in_ok-push w ↦
          let named : is_file i ≡ true = sym c.is.ensures ∙ w.if-is.true in
          record {
            within = omega arith;
            left = rw (w.files-is, w.start-is, w.in_ok-push.ensures.ok, w.in_ok-file.ensures) (made_take subject.File file l.files items l.start l.k i c.loop-k-test.true c.index-items-k.is named ∙ l.invariant.left);
          }
      | else-is w ↦
          let other : is_file i ≡ false = sym c.is.ensures ∙ w.if-is.false in
          record {
            within = omega arith;
            left = rw (w.files-is, w.start-is) (made_join subject.File file l.files items l.start l.k i l.invariant.within c.loop-k-test.true c.index-items-k.is other ∙ l.invariant.left);
          }
    ]

-- After the last item nothing is left.
pub returns : goal.returns
returns c =
    let l = c.loop-k in let items = c.args.items.now in
    let none : drop l.k items ≡ [] = drop_all l.k items (omega arith) in
    sym (append-nil l.files) ∙ ((rw none at l.invariant.left) ∙ sym (parted_files items))
