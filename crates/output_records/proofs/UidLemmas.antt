-- The output's numbers for identifiers.
use Rattle.std.proofs.Common.{◌≡◌, ℕ, ◌==◌, if◌then◌else◌, length, Result, Ok, Err, IfOk, Bool, true, false, cond, List, [], ◌∷◌, reverse, drop, nat_eq, Option, Some, None, refl, sym, ap, ◌∙◌, arith}
use Rattle.std.specs.Map.{lookup, update_all}
use Rattle.std.proofs.lemmas.Bool.Decides.{nat_tests}
use Rattle.std.proofs.lemmas.List.{reverse-append}
use Rattle.std.proofs.lemmas.List.{length-map}
use Rattle.std.proofs.lemmas.Map.{update_all_push}
use Rattle.std.proofs.Math.Path.{fun_ext}
use Rattle.indexmap.specs.IndexMap.{get}
use Rattle.record_changes.specs.Identifiers.{renumbered}
use Rattle.record_changes.proofs.GivenLemmas.{length-from}
use Rattle.mkv_schema.specs.declared.ids.TheConstants.{TAG_TRACK_UID, TAG_EDITION_UID, TAG_CHAPTER_UID, TAG_ATTACHMENT_UID}
use Rattle.output_model.specs.declared.attachment.Attachment.{Attachment}
use Rattle.record_changes.specs.declared.uid_map.UidMap.{UidMap}
use Rattle.record_changes.specs.Numbers.{numbers_in}
use Rattle.output_records.specs.declared.inputs.InputRecords.{InputRecords}
use Rattle.output_records.specs.declared.uids.Uids.{Uids}
use Rattle.output_records.specs.Attachments.{file_uids}
use Rattle.output_records.specs.Tags.{number_of, numbers_for, uids_of, all_uids, behind, IsMapFor}

eq-sym : (a b : ℕ) → nat_eq a b ≡ nat_eq b a
eq-sym a b = of (nat_eq a b) (nat_eq b a) refl refl
  where
    of : (p q : Bool) → nat_eq a b ≡ p → nat_eq b a ≡ q → p ≡ q
    of true true l r = refl
    of true false l r = absurd (grind (arith, nat_tests))
    of false true l r = absurd (grind (arith, nat_tests))
    of false false l r = refl

-- If pairs are inserted from the last to the first, the first one counts.
pub latest : (ps : List (ℕ × ℕ)) (uid : ℕ) → update_all nat_eq (λ q. None) (reverse ps) uid ≡ lookup (nat_eq uid) ps
latest [] uid = refl
latest (p ∷ ps) uid =
    ap (λ l. update_all nat_eq (λ q. None) l uid) (reverse-append (p ∷ []) ps)
    ∙ sym (update_all_push nat_eq (λ q. None) (λ q. lookup (nat_eq q) ps) (reverse ps) p uid (sym (latest ps uid)))
    ∙ ap (λ b. cond b (Some p.1) (lookup (nat_eq uid) ps)) (eq-sym p.0 uid)

pub latest-in : {M E : Type 0} (look : M → ℕ → Option ℕ) (r : Result M E) (ps qs : List (ℕ × ℕ)) → ps ≡ qs → IfOk r (λ m. (uid : ℕ) → look m uid ≡ update_all nat_eq (λ q. None) (reverse ps) uid)
    → IfOk r (λ m. (uid : ℕ) → look m uid ≡ lookup (nat_eq uid) qs)
latest-in look (Ok m) ps qs same is = λ uid. is uid ∙ latest ps uid ∙ ap (lookup (nat_eq uid)) same
latest-in look (Err e) ps qs same is = tt

-- ---- identifiers of an input

choose : ℕ → Option ℕ → Option ℕ → Option ℕ → Option ℕ → Option ℕ
choose id t e c a = if id == TAG_TRACK_UID then t else (if id == TAG_EDITION_UID then e else (if id == TAG_CHAPTER_UID then c else (if id == TAG_ATTACHMENT_UID then a else None)))

module _ (i : InputRecords) (numbers : Uids) (map : UidMap) (t : (uid : ℕ) → get nat_eq map.tracks uid ≡ number_of i.track_uids i.output_uids uid) (e : (uid : ℕ) → get nat_eq map.editions uid ≡ number_of (uids_of i).editions numbers.editions uid)
    (c : (uid : ℕ) → get nat_eq map.chapters uid ≡ number_of (uids_of i).chapters numbers.chapters uid) (a : (uid : ℕ) → get nat_eq map.attachments uid ≡ number_of (uids_of i).attachments numbers.attachments uid) where
  each : (id uid : ℕ) → numbers_in map id uid ≡ numbers_for i numbers id uid
  unfolding choose
  each id uid =
      ap (λ v. choose id v (get nat_eq map.editions uid) (get nat_eq map.chapters uid) (get nat_eq map.attachments uid)) (t uid)
      ∙ ap (λ v. choose id (number_of i.track_uids i.output_uids uid) v (get nat_eq map.chapters uid) (get nat_eq map.attachments uid)) (e uid)
      ∙ ap (λ v. choose id (number_of i.track_uids i.output_uids uid) (number_of (uids_of i).editions numbers.editions uid) v (get nat_eq map.attachments uid)) (c uid)
      ∙ ap (choose id (number_of i.track_uids i.output_uids uid) (number_of (uids_of i).editions numbers.editions uid) (number_of (uids_of i).chapters numbers.chapters uid)) (a uid)

  pub map-for : IsMapFor i numbers map
  map-for = fun_ext (λ id. fun_ext (λ uid. each id uid))

-- The numbers after an input are the rest.
pub behind-is : (u v : Uids) (e c a e' c' a' : List ℕ) (k l m : ℕ) → u ≡ v → k ≡ length u.editions → l ≡ length u.chapters → m ≡ length u.attachments → e' ≡ drop k e → c' ≡ drop l c → a' ≡ drop m a
    → all_uids e' c' a' ≡ behind v (all_uids e c a)
behind-is u v e c a e' c' a' k l m same ek cl am ee cc' aa =
    ap (λ x. all_uids x c' a') (ee ∙ ap (λ n. drop n e) ek) ∙ ap (λ x. all_uids (drop (length u.editions) e) x a') (cc' ∙ ap (λ n. drop n c) cl)
    ∙ ap (all_uids (drop (length u.editions) e) (drop (length u.chapters) c)) (aa ∙ ap (λ n. drop n a) am) ∙ ap (λ w. behind w (all_uids e c a)) same

-- ---- equal lengths

pub length-renumbered : (ids : List ℕ) → length (renumbered ids) ≡ length ids
length-renumbered ids = length-from ids [] ids

pub length-file_uids : (files : List Attachment) → length (file_uids files) ≡ length files
length-file_uids files = length-map files (λ (a : Attachment). a.uid)
