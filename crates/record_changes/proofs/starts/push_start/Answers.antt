-- An atom has one start, and another child has none.
use Rattle.std.proofs.Common.{◌≡◌, ◌∷◌, [], ℕ, ◌++◌, List, map, Result, Ok, Err, OnOk, sym, ap, ◌∙◌, append-nil}
use Rattle.std.specs.declared.alloc.AllocError.{AllocError}
use Rattle.record_changes.specs.Cut.{start_of}
use Rattle.record_changes.specs.Starts.{own_starts}
use Rattle.record_changes.proofs.AtomLemmas.{atom-own, atom-other}
use Rattle.record_changes.proofs.starts.push_start.Goals as goal

pub returns-then-id-ne-CHAPTER_ATOM : goal.returns-then-id-ne-CHAPTER_ATOM
returns-then-id-ne-CHAPTER_ATOM c =
    let none = atom-other c.args.child.now (λ own. c.if-id-ne-CHAPTER_ATOM.true (c.id.ensures ∙ own)) in
    sym (ap (λ l. c.args.starts.now ++ map start_of l) none ∙ append-nil c.args.starts.now)

pub start_of-requires : goal.start_of-requires
start_of-requires c = c.requires (sym c.id.ensures ∙ c.if-id-ne-CHAPTER_ATOM.false)

-- Equal lists may be exchanged.
same-list : (r : Result (Unit {0}) AllocError) (new a b : List ℕ) → a ≡ b → OnOk r (new ≡ a) → OnOk r (new ≡ b)
same-list (Ok u) new a b same is = is ∙ same
same-list (Err e) new a b same is = tt

pub returns : goal.returns
returns c =
    let child = c.args.child.now in
    let starts : List ℕ = c.args.starts.now in
    let own = atom-own child (sym c.id.ensures ∙ c.if-id-ne-CHAPTER_ATOM.false) in
    same-list c.push.result _ (starts ++ c.start_of.result ∷ []) (starts ++ own_starts child)
    (ap (λ u. starts ++ u ∷ []) c.start_of.ensures ∙ ap (λ l. starts ++ map start_of l) (sym own)) c.push.ensures.ok
