-- Without some of its children an entry is still whole.
use Rattle.std.proofs.Common.{◌≡◌, Bool, true, false, cond, List, ℕ, Option, is_some, None, Some, refl, sym, ap, subst, ◌∙◌}
use Rattle.mkv_schema.specs.declared.ids.TheConstants.{CONTENT_ENCODINGS, LANGUAGE_BCP47}
use Rattle.tree_format.specs.Node.{Node}
use Rattle.tree_format.specs.Children.{removed_each, removed_in}
use Rattle.track_records.specs.Entry.{IsWholeEntry, ids_removed}
use Rattle.track_records.proofs.StandLemmas.{whole-removed}
use Rattle.track_records.proofs.written_entry.bare.Goals as goal
use Rattle.track_records.proofs.written_entry.bare.Goals.{then-is_some, else-is_some, then-not-track, else-not-track}

-- Both steps together remove what the definition says.
both : (stored : Bool) (language : Option (List ℕ)) (entry : Node) → cond (is_some language) (removed_in LANGUAGE_BCP47 (cond stored entry (removed_in CONTENT_ENCODINGS entry))) (cond stored entry (removed_in CONTENT_ENCODINGS entry)) ≡ removed_each (ids_removed stored language) entry
both true None entry = refl
both true (Some l) entry = refl
both false None entry = refl
both false (Some l) entry = refl

-- The first step removes ContentEncodings unless the frames are taken as they are stored.
first : (c : goal.Joined-is_some) → c.if-not-track.bare ≡ cond c.args.track.now.stored c.args.track.now.entry (removed_in CONTENT_ENCODINGS c.args.track.now.entry)
first c =
    elim c.if-not-track.branch [
      | then-not-track w ↦ w.bare-is ∙ w.remove.ensures.exact ∙ ap (removed_in CONTENT_ENCODINGS) c.in_ok-bare.ensures ∙ sym (ap (λ s. cond s c.args.track.now.entry (removed_in CONTENT_ENCODINGS c.args.track.now.entry)) w.if-not-track.true)
      | else-not-track w ↦ w.bare-is ∙ c.in_ok-bare.ensures ∙ sym (ap (λ s. cond s c.args.track.now.entry (removed_in CONTENT_ENCODINGS c.args.track.now.entry)) w.if-not-track.false)
    ]

kept : (c : goal.Joined-is_some) → IsWholeEntry c.if-not-track.bare
kept c =
    let copy = subst IsWholeEntry (sym c.in_ok-bare.ensures) c.requires in
    elim c.if-not-track.branch [
      | then-not-track w ↦ subst IsWholeEntry (sym w.bare-is) (whole-removed _ _ copy _ w.remove.ensures.exact w.remove.ensures.master w.remove.ensures.sound)
      | else-not-track w ↦ subst IsWholeEntry (sym w.bare-is) copy
    ]

-- The second step removes LanguageBCP47 if a language is set.
second : (c : goal.Joined-is_some) → c.if-is_some.bare ≡ cond (is_some c.args.language.now) (removed_in LANGUAGE_BCP47 c.if-not-track.bare) c.if-not-track.bare
second c =
    elim c.if-is_some.branch [
      | then-is_some w ↦ w.bare-is ∙ w.remove-then-is_some.ensures.exact ∙ sym (ap (λ s. cond s (removed_in LANGUAGE_BCP47 c.if-not-track.bare) c.if-not-track.bare) (sym c.is_some.ensures ∙ w.if-is_some.true))
      | else-is_some w ↦ w.bare-is ∙ sym (ap (λ s. cond s (removed_in LANGUAGE_BCP47 c.if-not-track.bare) c.if-not-track.bare) (sym c.is_some.ensures ∙ w.if-is_some.false))
    ]

pub returns-clause-exact : goal.returns-clause-exact
returns-clause-exact c =
    second c ∙ ap (λ e. cond (is_some c.args.language.now) (removed_in LANGUAGE_BCP47 e) e) (first c) ∙ both c.args.track.now.stored c.args.language.now c.args.track.now.entry

pub returns-clause-whole : goal.returns-clause-whole
returns-clause-whole c =
    elim c.if-is_some.branch [
      | then-is_some w ↦ subst IsWholeEntry (sym w.bare-is) (whole-removed _ _ (kept c) _ w.remove-then-is_some.ensures.exact w.remove-then-is_some.ensures.master w.remove-then-is_some.ensures.sound)
      | else-is_some w ↦ subst IsWholeEntry (sym w.bare-is) (kept c)
    ]
