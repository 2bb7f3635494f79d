-- A change of one name's content: its effects on the live files, and on what always holds.
use Rattle.std.proofs.lemmas.Grind.{common_steps}
use Rattle.mkv_io.specs.Contents.{overwritten, with_appended, with_overwritten}
use Rattle.std.proofs.Common.{Result, Ok, Err, OnOk, OnErr, length-append, ◌≡◌, ◌≢◌, ℕ, zero, suc, ◌+◌, ◌<◌, ◌≤◌, List, [], ◌∷◌, ◌++◌, length, take, drop, Option, Some, None, Bool, true, false, is_some, unwrap_or, option_and_then, if◌then◌else◌, refl, sym, ◌∙◌, ap, subst, arith}
use Rattle.std.specs.Str.{bytes_eq}
use Rattle.std.proofs.lemmas.Slice.Eq.{bytes_eq-Decides}
use Rattle.std.proofs.lemmas.List.{get_or_append_left, take-append-drop, drop-drop}
use Rattle.std.proofs.Math.Seq.{get_or-append_seam}
use Rattle.mkv_io.specs.Names.{changed_at}
use Rattle.mkv_io.specs.LiveFiles.{IsSameFile, ChangesFile, KeepsFiles, OverwritesWithin}
use Rattle.mkv_memory.specs.Stored.{Stored, World, HasShortContents, AreThere, is_there, files_of, holder_of, content_of_file, name_of_file, content-live, with_changed_file}
use Rattle.mkv_io.proofs.NamesLemmas.{changed_at-nothing, changed_at-other, changed_at-same}
use Rattle.mkv_io.specs.declared.outside.TheConstants.{LONGEST_FILE}

-- ---- a store, by its parts

pub Stored-both : {world now : World} {opened names : List (Option (List ℕ))} → now ≡ world → names ≡ opened → ◌≡◌ {A = Stored} (record { world = now; opened = names }) (record { world = world; opened = opened })
Stored-both same_contents same_names i = record { world = same_contents i; opened = same_names i }

-- The same names are open.
pub Stored-world : {world now : World} (opened : List (Option (List ℕ))) → now ≡ world → ◌≡◌ {A = Stored} (record { world = now; opened = opened }) (record { world = world; opened = opened })
Stored-world opened same i = record { world = same i; opened = opened }

-- A change of the name of a live file is a change of this file.
pub Stored-changed : (stored : Stored) (file : ℕ) {name : List ℕ} {now : World} (change : Option (List ℕ) → Option (List ℕ)) → name_of_file stored.opened file ≡ Some name → now ≡ changed_at name change stored.world → ◌≡◌ {A = Stored} (record { world = now; opened = stored.opened }) (with_changed_file stored file change)
Stored-changed stored file change holder changed =
    Stored-world stored.opened (changed ∙ ap (λ name. changed_at (unwrap_or name []) change stored.world) (sym holder))

-- ---- properties that always hold

-- Contents stay short if the changed one is short.
pub HasShortContents-changed : (world : World) (name : List ℕ) (change : Option (List ℕ) → Option (List ℕ)) → HasShortContents world → length (unwrap_or (change (world name)) []) ≤ LONGEST_FILE → HasShortContents (changed_at name change world)
HasShortContents-changed world name change short fits other = step (bytes_eq name other) (bytes_eq-Decides name other).0
  where
    step : (same : Bool) → (same ≡ true → name ≡ other) → length (unwrap_or (if same then change (world other) else world other) []) ≤ LONGEST_FILE
    step true is = let P : List ℕ → Type 0 = λ each. length (unwrap_or (change (world each)) []) ≤ LONGEST_FILE in subst P (is refl) fits
    step false is = short other

-- Live files keep a content if the change leaves one.
pub AreThere-changed : (world : World) (name : List ℕ) (change : Option (List ℕ) → Option (List ℕ)) (opened : List (Option (List ℕ))) → (is_some (world name) ≡ true → is_some (change (world name)) ≡ true) → AreThere world opened → AreThere (changed_at name change world) opened
AreThere-changed world name change opened stays there file = step (name_of_file opened file) (there file)
  where
    at : (other : List ℕ) (same : Bool) → (same ≡ true → name ≡ other) → is_some (world other) ≡ true → is_some (if same then change (world other) else world other) ≡ true
    at other true is here =
        let P : List ℕ → Type 0 = λ each. is_some (world each) ≡ true → is_some (change (world each)) ≡ true in
        subst P (is refl) stays here
    at other false is here = here

    step : (holder : Option (List ℕ)) → is_there world holder ≡ true → is_there (changed_at name change world) holder ≡ true
    step None here = refl
    step (Some other) here = at other (bytes_eq name other) (bytes_eq-Decides name other).0 here

-- One more file is live under a name with a content.
pub AreThere-pushed : (world : World) (opened : List (Option (List ℕ))) (name : List ℕ) → is_some (world name) ≡ true → AreThere world opened → AreThere world (opened ++ Some name ∷ [])
AreThere-pushed world [] name here there zero = here
AreThere-pushed world [] name here there (suc file) = refl
AreThere-pushed world (holder ∷ rest) name here there zero = there zero
AreThere-pushed world (holder ∷ rest) name here there (suc file) = AreThere-pushed world rest name here (λ other. there (suc other)) file

-- ---- the live files

-- Files with other names are as before.
pub IsSameFile-changed : (old new : Stored) (name : List ℕ) (change : Option (List ℕ) → Option (List ℕ)) (file : ℕ) → name_of_file new.opened file ≡ name_of_file old.opened file → new.world ≡ changed_at name change old.world → holder_of old file ≢ name → IsSameFile (files_of old) (files_of new) file
IsSameFile-changed old new name change file same changed differs = record {
  alive = ap is_some same;
  size = λ _. ap (λ content. length (unwrap_or content [])) content;
  content = λ _. content;
}
  where
    step : (holder : Option (List ℕ)) → unwrap_or holder [] ≢ name → option_and_then (changed_at name change old.world) holder ≡ option_and_then old.world holder
    step None other = refl
    step (Some holder) other = changed_at-other old.world name holder change other

    content : content_of_file new file ≡ content_of_file old file
    content =
        ap (λ (world : World). option_and_then world (name_of_file new.opened file)) changed
        ∙ ap (option_and_then (changed_at name change old.world)) same
        ∙ step (name_of_file old.opened file) differs

-- The file with the changed name is changed.
pub ChangesFile-changed : (old new : Stored) (name : List ℕ) (change : Option (List ℕ) → Option (List ℕ)) (file size : ℕ) → name_of_file old.opened file ≡ Some name → new.opened ≡ old.opened → new.world ≡ changed_at name change old.world → length (unwrap_or (change (old.world name)) []) ≡ size → ChangesFile (files_of old) (files_of new) (Some old.world) (Some new.world) file (holder_of old file) size change
ChangesFile-changed old new name change file size holder same changed fits = record {
  size = ap (λ content. length (unwrap_or content [])) (now ∙ changed_at-same old.world name change) ∙ fits;
  content = now ∙ changed_at-same old.world name change ∙ sym (ap change before);
  names = ap Some changed ∙ ap (λ name. Some (changed_at (unwrap_or name []) change old.world)) (sym holder);
}
  where
    before : content_of_file old file ≡ old.world name
    before = ap (option_and_then old.world) holder

    now : content_of_file new file ≡ changed_at name change old.world name
    now =
        ap (λ opened. option_and_then new.world (name_of_file opened file)) same
        ∙ ap (option_and_then new.world) holder
        ∙ ap (λ (world : World). world name) changed

-- A live file, and the content of its name, is changed; files with other names stay.
pub record ChangesStored (old new : Stored) (file new_size : ℕ) (change : Option (List ℕ) → Option (List ℕ)) : Type 0 where
  pub opened : new.opened ≡ old.opened
  pub changed : ChangesFile (files_of old) (files_of new) (Some old.world) (Some new.world) file (holder_of old file) new_size change
  pub others : KeepsFiles (files_of old) (files_of new) (λ other. holder_of old other ≢ holder_of old file)

-- Both hold for a live file whose name's content is changed.
pub ChangesStored-changed : (old new : Stored) (name : List ℕ) (change : Option (List ℕ) → Option (List ℕ)) (file size : ℕ) → name_of_file old.opened file ≡ Some name → new.opened ≡ old.opened → new.world ≡ changed_at name change old.world → length (unwrap_or (change (old.world name)) []) ≡ size → ChangesStored old new file size change
ChangesStored-changed old new name change file size holder same changed fits = record {
  opened = same;
  changed = ChangesFile-changed old new name change file size holder same changed fits;
  others = λ other differs.
      IsSameFile-changed old new name change other (ap (λ opened. name_of_file opened other) same) changed
      (λ is. differs (is ∙ sym (ap (λ name. unwrap_or name []) holder)));
}

-- ---- both properties through a change

-- Contents are short, and live files have one.
pub record IsSound (world : World) (opened : List (Option (List ℕ))) : Type 0 where
  pub short : HasShortContents world
  pub there : AreThere world opened

-- A change keeps both if the changed content is short, and exists if it did before.
pub IsSound-changed : (world now : World) (name : List ℕ) (change : Option (List ℕ) → Option (List ℕ)) (opened : List (Option (List ℕ))) → now ≡ changed_at name change world → IsSound world opened → length (unwrap_or (change (world name)) []) ≤ LONGEST_FILE → (is_some (world name) ≡ true → is_some (change (world name)) ≡ true) → IsSound now opened
IsSound-changed world now name change opened changed sound fits stays =
    let P : World → Type 0 = λ each. IsSound each opened in
    subst P (sym changed) (record {
      short = HasShortContents-changed world name change sound.short fits;
      there = AreThere-changed world name change opened stays sound.there;
    })

-- A call that changes one content, or leaves all, keeps the contents valid.
pub IsSound-either : {T E : Type 0} (result : Result T E) (world now : World) (name : List ℕ) (change : Option (List ℕ) → Option (List ℕ)) (opened : List (Option (List ℕ))) → OnOk result (now ≡ changed_at name change world) → OnErr result (now ≡ world) → IsSound world opened → length (unwrap_or (change (world name)) []) ≤ LONGEST_FILE → (is_some (world name) ≡ true → is_some (change (world name)) ≡ true) → IsSound now opened
IsSound-either (Ok value) world now name change opened changed same sound fits stays = IsSound-changed world now name change opened changed sound fits stays
IsSound-either (Err fault) world now name change opened changed same sound fits stays =
    let P : World → Type 0 = λ each. IsSound each opened in
    subst P (sym same) sound

-- ---- one content after an append or an overwrite

-- A content grows by the appended bytes.
pub length-with_appended : (more : List ℕ) (content : Option (List ℕ)) → is_some content ≡ true → length (unwrap_or (with_appended more content) []) ≡ length (unwrap_or content []) + length more
length-with_appended more None there = cc
length-with_appended more (Some bytes) there = length-append bytes more

pub is_some-with_appended : (more : List ℕ) (content : Option (List ℕ)) → is_some content ≡ true → is_some (with_appended more content) ≡ true
is_some-with_appended more None there = there
is_some-with_appended more (Some bytes) there = refl

-- A content that is overwritten keeps its length.
pub length-with_overwritten : (at : ℕ) (now : List ℕ) (content : Option (List ℕ)) → at + length now ≤ length (unwrap_or content []) → length (unwrap_or (with_overwritten at now content) []) ≡ length (unwrap_or content [])
length-with_overwritten at now None within = refl
length-with_overwritten at now (Some bytes) within = grind (arith, common_steps)

pub is_some-with_overwritten : (at : ℕ) (now : List ℕ) (content : Option (List ℕ)) → is_some content ≡ true → is_some (with_overwritten at now content) ≡ true
is_some-with_overwritten at now None there = there
is_some-with_overwritten at now (Some bytes) there = refl

-- ---- append and overwrite of a live file

-- A live file's name has a content, whose length is the file's.
pub IsThere-live : (old : Stored) (file : ℕ) (name : List ℕ) → name_of_file old.opened file ≡ Some name → IsSound old.world old.opened → (is_some (old.world name) ≡ true) × (length (unwrap_or (old.world name) []) ≡ (files_of old).size file)
IsThere-live old file name holder sound = (
  ap (is_there old.world) (sym holder) ∙ sound.there file,
  ap (λ name. length (unwrap_or (option_and_then old.world name) [])) (sym holder),
)

-- An append within the limit keeps both properties, with memory or without.
pub IsSound-appended : {T E : Type 0} (result : Result T E) (old : Stored) (now : World) (file : ℕ) (name more : List ℕ) → name_of_file old.opened file ≡ Some name → OnOk result (now ≡ changed_at name (with_appended more) old.world) → OnErr result (now ≡ old.world) → IsSound old.world old.opened → (files_of old).size file + length more ≤ LONGEST_FILE → IsSound now old.opened
IsSound-appended result old now file name more holder changed same sound room =
    let here = IsThere-live old file name holder sound in
    let grown = length-with_appended more (old.world name) here.0 in
    let size = here.1 in
    IsSound-either result old.world now name (with_appended more) old.opened changed same sound (omega arith) (is_some-with_appended more (old.world name))

-- It changes the file by the appended bytes.
pub ChangesStored-appended : (old new : Stored) (file : ℕ) (name more : List ℕ) → name_of_file old.opened file ≡ Some name → new.opened ≡ old.opened → new.world ≡ changed_at name (with_appended more) old.world → IsSound old.world old.opened → ChangesStored old new file ((files_of old).size file + length more) (with_appended more)
ChangesStored-appended old new file name more holder same changed sound =
    let here = IsThere-live old file name holder sound in
    ChangesStored-changed old new name (with_appended more) file _ holder same changed
    (length-with_appended more (old.world name) here.0 ∙ ap (λ n. n + length more) here.1)

-- An overwrite keeps both properties.
pub IsSound-overwritten : (old : Stored) (world : World) (file : ℕ) (name : List ℕ) (at : ℕ) (now : List ℕ) → name_of_file old.opened file ≡ Some name → world ≡ changed_at name (with_overwritten at now) old.world → IsSound old.world old.opened → at + length now ≤ (files_of old).size file → IsSound world old.opened
IsSound-overwritten old world file name at now holder changed sound within =
    let here = IsThere-live old file name holder sound in
    let size = here.1 in
    let kept = length-with_overwritten at now (old.world name) (omega arith) in
    let short = sound.short name in
    IsSound-changed old.world world name (with_overwritten at now) old.opened changed sound (omega arith) (is_some-with_overwritten at now (old.world name))

-- It changes the file by the written bytes.
pub ChangesStored-overwritten : (old new : Stored) (file : ℕ) (name : List ℕ) (at : ℕ) (now : List ℕ) → name_of_file old.opened file ≡ Some name → new.opened ≡ old.opened → new.world ≡ changed_at name (with_overwritten at now) old.world → IsSound old.world old.opened → at + length now ≤ (files_of old).size file → ChangesStored old new file ((files_of old).size file) (with_overwritten at now)
ChangesStored-overwritten old new file name at now holder same changed sound within =
    let here = IsThere-live old file name holder sound in
    let size = here.1 in
    ChangesStored-changed old new name (with_overwritten at now) file _ holder same changed
    (length-with_overwritten at now (old.world name) (omega arith) ∙ size)

-- ---- making a file

-- After a name gets an empty content, and a file is opened under it, both properties hold.
pub IsSound-created : (world now : World) (name : List ℕ) (opened : List (Option (List ℕ))) → now ≡ changed_at name (λ _. Some []) world → IsSound world opened → IsSound now (opened ++ Some name ∷ [])
IsSound-created world now name opened changed sound =
    let kept = IsSound-changed world now name (λ _. Some []) opened changed sound (omega arith) (λ _. refl) in
    let here : now name ≡ Some [] = ap (λ (each : World). each name) changed ∙ changed_at-same world name (λ _. Some []) in
    record {
      short = kept.short;
      there = AreThere-pushed now opened name (ap is_some here) kept.there;
    }

-- The file that is opened last has the content of its name.
pub content_of_file-pushed : (stored : Stored) (opened : List (Option (List ℕ))) (name : List ℕ) → stored.opened ≡ opened ++ Some name ∷ [] → content_of_file stored (length opened) ≡ stored.world name
content_of_file-pushed stored opened name pushed =
    ap (λ names. option_and_then stored.world (name_of_file names (length opened))) pushed
    ∙ ap (option_and_then stored.world) (get_or-append_seam opened (Some name) [] None)

-- The file that is made is empty.
pub size-created : (stored : Stored) (world : World) (opened : List (Option (List ℕ))) (name : List ℕ) → stored.world ≡ changed_at name (λ _. Some []) world → stored.opened ≡ opened ++ Some name ∷ [] → (files_of stored).size (length opened) ≡ 0
size-created stored world opened name changed pushed =
    ap (λ content. length (unwrap_or content []))
    (content_of_file-pushed stored opened name pushed ∙ ap (λ (each : World). each name) changed
    ∙ changed_at-same world name (λ _. Some []))

-- Files with other names are as before.
pub IsSameFile-created : (old new : Stored) (name : List ℕ) (file : ℕ) → new.world ≡ changed_at name (λ _. Some []) old.world → new.opened ≡ old.opened ++ Some name ∷ [] → file < length old.opened → holder_of old file ≢ name → IsSameFile (files_of old) (files_of new) file
IsSameFile-created old new name file changed pushed below differs =
    IsSameFile-changed old new name (λ _. Some []) file
    (ap (λ opened. name_of_file opened file) pushed ∙ get_or_append_left old.opened (Some name ∷ []) None file below)
    changed differs

-- ---- overwrite of nothing

-- Bytes that are written over themselves change nothing.
pub overwritten-same : (bytes : List ℕ) (at n : ℕ) → at + n ≤ length bytes → overwritten bytes at (take n (drop at bytes)) ≡ bytes
overwritten-same bytes at n within =
    let count : length (take n (drop at bytes)) ≡ n = grind (arith, common_steps) in
    ap (λ k. take at bytes ++ (take n (drop at bytes) ++ drop (at + k) bytes)) count
    ∙ ap (λ rest. take at bytes ++ (take n (drop at bytes) ++ rest)) (sym (drop-drop n at bytes))
    ∙ ap (λ rest. take at bytes ++ rest) (take-append-drop n (drop at bytes))
    ∙ take-append-drop at bytes

-- So an unchanged file is one with some bytes written over a range.
pub OverwritesWithin-nothing : (stored : Stored) (file at n : ℕ) → (files_of stored).live file ≡ true → at + n ≤ (files_of stored).size file → OverwritesWithin (files_of stored) (files_of stored) (Some stored.world) (Some stored.world) file (holder_of stored file) at n
OverwritesWithin-nothing stored file at n live within = record {
  now = now;
  count = grind (arith, common_steps);
  changed = record {
    size = refl;
    content = sym (same (content_of_file stored file) within);
    names = ap Some (sym (changed_at-nothing stored.world (holder_of stored file) (with_overwritten at now) there));
  };
}
  where
    now : List ℕ
    now = take n (drop at (unwrap_or (content_of_file stored file) []))

    same : (content : Option (List ℕ)) → at + n ≤ length (unwrap_or content []) → with_overwritten at (take n (drop at (unwrap_or content []))) content ≡ content
    same None fits = refl
    same (Some bytes) fits = ap Some (overwritten-same bytes at n fits)

    is_content : content_of_file stored file ≡ stored.world (holder_of stored file)
    is_content = content-live stored.world (name_of_file stored.opened file) live

    there : with_overwritten at now (stored.world (holder_of stored file)) ≡ stored.world (holder_of stored file)
    there = ap (with_overwritten at now) (sym is_content) ∙ same (content_of_file stored file) within ∙ is_content

-- The same contents and files have the same properties.
pub IsSound-same : (world now : World) (opened names : List (Option (List ℕ))) → now ≡ world → names ≡ opened → IsSound world opened → IsSound now names
IsSound-same world now opened names same_contents same_names sound =
    let P : World → Type 0 = λ each. IsSound each names in
    let Q : List (Option (List ℕ)) → Type 0 = λ each. IsSound world each in
    subst P (sym same_contents) (subst Q (sym same_names) sound)

-- A file that is opened under a name has the content of the name.
pub content_of_file-told : (old new : Stored) (world : World) (name : List ℕ) (file : ℕ) → new ≡ record { world = old.world; opened = old.opened ++ Some name ∷ [] } → file ≡ length old.opened → Some old.world ≡ Some world → content_of_file new file ≡ world name
content_of_file-told old new world name file opened number told =
    let is : old.world ≡ world = cc in
    let pushed : Stored = record { world = old.world; opened = old.opened ++ Some name ∷ [] } in
    ap (λ (stored : Stored). content_of_file stored file) opened ∙ ap (content_of_file pushed) number
    ∙ content_of_file-pushed pushed old.opened name refl
    ∙ ap (λ (each : World). each name) is
