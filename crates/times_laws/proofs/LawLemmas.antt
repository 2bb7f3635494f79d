-- Timestamps that are given back to their track change nothing.
use Rattle.std.proofs.Common.{◌≡◌, ℕ, ◌+◌, List, [], Option, Some, IfSome, Ok, sym, ap, subst, ◌∙◌, arith, unwrap_or, filter, length, map}
use Rattle.std.proofs.lemmas.List.{length-map}
use Rattle.ebml_numbers.specs.Number.{AreOctets}
use Rattle.input_files.specs.TimesFile.{times_files, times_named}
use Rattle.input_files.specs.declared.times_file.TimesFile.{TimesFile}
use Rattle.requests.specs.declared.merge.FileWords.{FileWords}
use Rattle.requests.specs.declared.merge.MergeWords.{MergeWords}
use Rattle.merge_inputs.specs.Input.{InputRead, input_of}
use Rattle.mkv_merge.specs.Merge.{sources_of}
use Rattle.times_laws.specs.GivenBack.{TimesGivenBackChangeNothing, is_too_long, with_input}
use Rattle.times_laws.proofs.ExtractLemmas.{extracted}
use Rattle.times_laws.proofs.GivenLemmas.{GivesTheSame, gives-back}
use Rattle.times_laws.proofs.FilesLemmas.{AreMore, IsNamedMore, count_long, lists-more, missing-more, named-more, refusal-more, times-more}
use Rattle.times_laws.proofs.SourcesLemmas.{sources-both}
use Rattle.times_laws.proofs.VerdictLemmas.{verdict-same}

-- The same files are too long, so their numbers are equal.
counted : (new old : List TimesFile) → map (λ (f : TimesFile). f.named) (filter (λ (f : TimesFile). is_too_long f.given) new) ≡ map (λ (f : TimesFile). f.named) (filter (λ (f : TimesFile). is_too_long f.given) old) → count_long new ≡ count_long old
counted new old same =
    sym (length-map (filter (λ (f : TimesFile). is_too_long f.given) new) (λ (f : TimesFile). f.named)) ∙ ap length same ∙ length-map (filter (λ (f : TimesFile). is_too_long f.given) old) (λ (f : TimesFile). f.named)

pub nothing-changes : TimesGivenBackChangeNothing
nothing-changes before world words n new taken allowed =
    let own : FileWords = taken.input in
    let option = taken.option in
    let more : MergeWords = with_input n.input new words in
    let read = extracted before own.name n.id taken.content taken.written in
    let bytes : List ℕ = read.0 in
    let there : world own.name ≡ Some bytes = taken.unchanged ∙ read.1.0 in
    let back = gives-back bytes taken.content n.id (subst (λ (o : Option (List ℕ)). IfSome o AreOctets) there taken.octets) read.1.1 in
    let content : unwrap_or (world own.name) [] ≡ bytes = ap (λ (o : Option (List ℕ)). unwrap_or o []) there in
    let none : 0 + n.input ≡ n.input = omega arith in
    let named : IsNamedMore n (times_named more.files) (times_named words.files) =
    subst (λ (input : ℕ). IsNamedMore (record { input = input; id = n.id; name = n.name }) (times_named more.files) (times_named words.files)) none
    (named-more 0 n.input n.id n.name new own words.files option taken.number) in
    let long : count_long (times_files world more.files) ≡ count_long (times_files world words.files) = counted (times_files world more.files) (times_files world words.files) allowed.length in
    let files : AreMore n back.times (times_files world more.files) (times_files world words.files) =
    times-more world n (times_named more.files) (times_named words.files) taken.content back.times named taken.holds back.read long in
    let gives = λ (held : ℕ) (i : InputRead) (is : input_of own words.webm held (unwrap_or (world own.name) []) ≡ Ok i).
    subst (λ (c : List ℕ). GivesTheSame n.id back.times c i) (sym content) (back.same own words.webm held i (ap (input_of own words.webm held) (sym content) ∙ is)) in
    verdict-same words n new own option.named (ap (λ (file : FileWords). file.name) option.alike) taken.number (sources_of world more) (sources_of world words)
    (sources-both world words n back.times new own option.alike taken.number gives allowed.name
    (refusal-more n back.times (times_files world more.files) (times_files world words.files) files)
    (missing-more n back.times (times_files world more.files) (times_files world words.files) files)
    (lists-more n back.times (times_files world more.files) (times_files world words.files) files))
