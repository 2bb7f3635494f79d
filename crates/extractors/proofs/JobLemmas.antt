-- The outputs of targets.
use Rattle.std.proofs.Common.{◌≡◌, ℕ, zero, suc, ◌+◌, ◌<◌, ◌^◌, Bool, true, false, if◌then◌else◌, List, [], ◌∷◌, ◌++◌, length, take, drop, get_or, map, Option, Some, None, IfSome, slice_get, unwrap_or, Result, Ok, Err, IfOk, refl, sym, ◌∙◌, ap, subst, arith, append-nil}
use Rattle.std.specs.List.{All, find}
use Rattle.std.specs.Option.{option_map, option_map_or, option_or}
use Rattle.std.proofs.Math.Seq.{drop-cons, take-suc}
use Rattle.std.proofs.lemmas.Grind.{flat_map-append}
use Rattle.mkv_io.specs.Names.{AreApart, AreOthers}
use Rattle.mkv_io.specs.Results.{unless}
use Rattle.requests.specs.declared.job.Job.{Job}
use Rattle.requests.specs.declared.job.Job.TheVariants as jobs
use Rattle.requests.specs.declared.job.Target.{Target}
use Rattle.tree_format.specs.Node.{Node}
use Rattle.file_format.specs.Entry.{default_duration_of}
use Rattle.file_format.specs.Refusal.{too_long}
use Rattle.file_format.specs.Tracks.{IsTrack}
use Rattle.track_records.specs.declared.track.Track.{Track}
use Rattle.meta_records.specs.Records.{AreRead}
use Rattle.extractors.specs.Content.{names_in}
use Rattle.extractors.specs.Job.{first_unfit, is_unfit, job_outputs, names_for, names_unfit, output_with, names_of, output_for, outputs_for, outputs_or_refusal, outputs_taken, form_of, refusal, refusal_of, refusal_taken, targets_of, track_output}
use Rattle.extractors.specs.Codec.{coding_of}
use Rattle.extractors.proofs.CodecLemmas.{coding_of-can}
use Rattle.extractors.specs.declared.frame_form.Coding.{Coding}
use Rattle.extractors.specs.declared.frame_form.Refusal.{Refusal}
use Rattle.extractors.specs.declared.frame_form.UnsupportedTrack.{UnsupportedTrack}
use Rattle.extractors.specs.declared.frame_form.UnsupportedTrack.TheVariants.{NoExtractor, BadConfig}
use Rattle.requests.specs.declared.job.Form.{Form}
use Rattle.extractors.specs.declared.track_output.TrackOutput.{TrackOutput}
use Rattle.extractors.specs.Source.{AreUsableOf, IsUsable, entry_in}
use Rattle.extractors.specs.Walks.{IsReady}

-- ---- one target after another

-- The entry of a track has the track's index.
pub entry-at : (tracks : List Track) (k : ℕ) → slice_get (map entry_in tracks) k ≡ option_map entry_in (slice_get tracks k)
entry-at [] k = refl
entry-at (t ∷ ts) zero = refl
entry-at (t ∷ ts) (suc k) = entry-at ts k

-- The outputs of the rest are the outputs of the next target and of the others.
outputs_for-next : (kind : Form) (targets : List Target) (entries : List Node) (k : ℕ) (t : Target) → k < length targets → t ≡ get_or targets k t → outputs_for kind (take (k + 1) targets) entries ≡ outputs_for kind (take k targets) entries ++ output_for kind t (slice_get entries t.id)
outputs_for-next kind targets entries k t below is =
    ap (λ (n : ℕ). outputs_for kind (take n targets) entries) (one_more k)
    ∙ ap (λ (ts : List Target). outputs_for kind ts entries) (take-suc targets k t below ∙ ap (λ (each : Target). take k targets ++ each ∷ []) (sym is))
    ∙ flat_map-append (λ (each : Target). output_for kind each (slice_get entries each.id)) (take k targets) (t ∷ [])
    ∙ ap (λ (os : List TrackOutput). outputs_for kind (take k targets) entries ++ os) (append-nil (output_for kind t (slice_get entries t.id)))
  where
    one_more : (n : ℕ) → n + 1 ≡ suc n
    one_more n = omega arith

-- The target's track exists.
pub outputs_for-found : (kind : Form) (targets : List Target) (tracks : List Track) (k : ℕ) (t : Target) (track : Track) → k < length targets → t ≡ get_or targets k t → slice_get tracks t.id ≡ Some track → outputs_for kind (take (k + 1) targets) (map entry_in tracks) ≡ outputs_for kind (take k targets) (map entry_in tracks) ++ track_output t.name track.entry (coding_of kind track.entry)
outputs_for-found kind targets tracks k t track below is found =
    outputs_for-next kind targets (map entry_in tracks) k t below is
    ∙ ap (λ (entry : Option Node). outputs_for kind (take k targets) (map entry_in tracks) ++ output_for kind t entry) (entry-at tracks t.id ∙ ap (option_map entry_in) found)

-- The target's track doesn't exist.
pub outputs_for-none : (kind : Form) (targets : List Target) (tracks : List Track) (k : ℕ) (t : Target) → k < length targets → t ≡ get_or targets k t → slice_get tracks t.id ≡ None → outputs_for kind (take (k + 1) targets) (map entry_in tracks) ≡ outputs_for kind (take k targets) (map entry_in tracks)
outputs_for-none kind targets tracks k t below is found =
    outputs_for-next kind targets (map entry_in tracks) k t below is
    ∙ ap (λ (entry : Option Node). outputs_for kind (take k targets) (map entry_in tracks) ++ output_for kind t entry) (entry-at tracks t.id ∙ ap (option_map entry_in) found)
    ∙ append-nil (outputs_for kind (take k targets) (map entry_in tracks))

-- The frames of the target's track can be used.
pub usable-at : (targets : List Target) (tracks : List Track) (k : ℕ) (t : Target) (track : Track) → AreUsableOf (map entry_in tracks) targets → k < length targets → t ≡ get_or targets k t → slice_get tracks t.id ≡ Some track → IsUsable track.entry
usable-at targets tracks k t track usable below is found =
    subst (λ (o : Option Node). IfSome o IsUsable) (entry-at tracks t.id ∙ ap (option_map entry_in) found)
    (subst (λ (each : Target). IfSome (slice_get (map entry_in tracks) each.id) IsUsable) (sym is) (usable k t below))

-- ---- targets whose tracks can't be extracted

-- The targets from `k` on remain: no codec without a form was found before, and `bad_config` is the first bad configuration.
pub record AreLeft (kind : Form) (targets : List Target) (entries : List Node) (k : ℕ) (bad_config : Option ℕ) : Type 0 where
  pub codec : first_unfit NoExtractor kind targets entries ≡ first_unfit NoExtractor kind (drop k targets) entries
  pub config : first_unfit BadConfig kind targets entries ≡ option_or bad_config (first_unfit BadConfig kind (drop k targets) entries)

-- The outputs `list` are the ones of the first `k` targets, and the targets from `k` on remain to be checked.
pub record AreMade (kind : Form) (targets : List Target) (entries : List Node) (k : ℕ) (list : List TrackOutput) (bad_config : Option ℕ) : Type 0 where
  pub outputs : list ≡ outputs_for kind (take k targets) entries
  pub left : AreLeft kind targets entries k bad_config

-- A target is asked: the first one of the rest that can't be written is it, or one behind it.
unfit-next : (why : UnsupportedTrack) (kind : Form) (targets : List Target) (entries : List Node) (k : ℕ) (t : Target) (unfit : Bool) → k < length targets → t ≡ get_or targets k t → names_unfit why kind entries t ≡ unfit → first_unfit why kind (drop k targets) entries ≡ (if unfit then Some t.id else first_unfit why kind (drop (k + 1) targets) entries)
unfit-next why kind targets entries k t unfit below is same =
    ap (λ (ts : List Target). first_unfit why kind ts entries) (drop-cons targets k t below ∙ ap (λ (each : Target). each ∷ drop (suc k) targets) (sym is))
    ∙ ap (λ (n : ℕ). first_unfit why kind (t ∷ drop n targets) entries) (one_more k)
    ∙ split (names_unfit why kind entries t) same
  where
    one_more : (n : ℕ) → suc n ≡ n + 1
    one_more n = omega arith

    split : (b : Bool) → b ≡ unfit → option_map (λ (each : Target). each.id) (if b then Some t else find (names_unfit why kind entries) (drop (k + 1) targets)) ≡ (if unfit then Some t.id else first_unfit why kind (drop (k + 1) targets) entries)
    split true same = ap (λ (u : Bool). if u then Some t.id else first_unfit why kind (drop (k + 1) targets) entries) same
    split false same = ap (λ (u : Bool). if u then Some t.id else first_unfit why kind (drop (k + 1) targets) entries) same

-- A target's track decides, if it is there.
unfit-missing : (why : UnsupportedTrack) (kind : Form) (tracks : List Track) (t : Target) → slice_get tracks t.id ≡ None → names_unfit why kind (map entry_in tracks) t ≡ false
unfit-missing why kind tracks t found =
    ap (λ (entry : Option Node). option_map_or (λ (e : Node). is_unfit why (coding_of kind e)) entry false) (entry-at tracks t.id ∙ ap (option_map entry_in) found)

unfit-found : (why : UnsupportedTrack) (kind : Form) (tracks : List Track) (t : Target) (track : Track) (read : Result Coding UnsupportedTrack) → slice_get tracks t.id ≡ Some track → coding_of kind track.entry ≡ read → names_unfit why kind (map entry_in tracks) t ≡ is_unfit why read
unfit-found why kind tracks t track read found is =
    ap (λ (entry : Option Node). option_map_or (λ (e : Node). is_unfit why (coding_of kind e)) entry false) (entry-at tracks t.id ∙ ap (option_map entry_in) found)
    ∙ ap (is_unfit why) is

module _ (tracks : List Track) {kind : Form} {targets : List Target} {k : ℕ} {list : List TrackOutput} {bad_config : Option ℕ} (so : AreMade kind targets (map entry_in tracks) k list bad_config) (t : Target) (below : k < length targets) (is : t ≡ get_or targets k t) where
  -- The file doesn't have the target's track.
  pub made-missing : slice_get tracks t.id ≡ None → AreMade kind targets (map entry_in tracks) (k + 1) list bad_config
  made-missing found = record {
    outputs = so.outputs ∙ sym (outputs_for-none kind targets tracks k t below is found);
    left = record {
      codec = so.left.codec ∙ unfit-next NoExtractor kind targets (map entry_in tracks) k t false below is (unfit-missing NoExtractor kind tracks t found);
      config = so.left.config ∙ ap (option_or bad_config) (unfit-next BadConfig kind targets (map entry_in tracks) k t false below is (unfit-missing BadConfig kind tracks t found));
    };
  }

  module _ (track : Track) (found : slice_get tracks t.id ≡ Some track) where
    -- A further output is made.
    pub made-good : (coding : Coding) → coding_of kind track.entry ≡ Ok coding → AreMade kind targets (map entry_in tracks) (k + 1) (list ++ output_with t.name track.entry coding ∷ []) bad_config
    made-good coding read = record {
      outputs =
          ap (λ (os : List TrackOutput). os ++ output_with t.name track.entry coding ∷ []) so.outputs
          ∙ ap (λ (r : Result Coding UnsupportedTrack). outputs_for kind (take k targets) (map entry_in tracks) ++ track_output t.name track.entry r) (sym read)
          ∙ sym (outputs_for-found kind targets tracks k t track below is found);
      left = record {
        codec = so.left.codec ∙ unfit-next NoExtractor kind targets (map entry_in tracks) k t false below is (unfit-found NoExtractor kind tracks t track (Ok coding) found read);
        config = so.left.config ∙ ap (option_or bad_config) (unfit-next BadConfig kind targets (map entry_in tracks) k t false below is (unfit-found BadConfig kind tracks t track (Ok coding) found read));
      };
    }

    -- The first bad configuration is kept.
    pub made-bad : coding_of kind track.entry ≡ Err BadConfig → AreMade kind targets (map entry_in tracks) (k + 1) list (option_or bad_config (Some t.id))
    made-bad read = record {
      outputs =
          so.outputs
          ∙ sym (outputs_for-found kind targets tracks k t track below is found
          ∙ ap (λ (r : Result Coding UnsupportedTrack). outputs_for kind (take k targets) (map entry_in tracks) ++ track_output t.name track.entry r) read
          ∙ append-nil (outputs_for kind (take k targets) (map entry_in tracks)));
      left = record {
        codec = so.left.codec ∙ unfit-next NoExtractor kind targets (map entry_in tracks) k t false below is (unfit-found NoExtractor kind tracks t track (Err BadConfig) found read);
        config =
            so.left.config ∙ ap (option_or bad_config) (unfit-next BadConfig kind targets (map entry_in tracks) k t true below is (unfit-found BadConfig kind tracks t track (Err BadConfig) found read))
            ∙ kept bad_config (first_unfit BadConfig kind (drop (k + 1) targets) (map entry_in tracks));
      };
    }
      where
        kept : (bad rest : Option ℕ) → option_or bad (Some t.id) ≡ option_or (option_or bad (Some t.id)) rest
        kept (Some b) rest = refl
        kept None rest = refl

    -- The track's codec has no form.
    pub made-refused : coding_of kind track.entry ≡ Err NoExtractor → outputs_or_refusal kind targets (map entry_in tracks) ≡ Err (refusal NoExtractor t.id)
    made-refused read =
        ap (λ (codec : Option ℕ). unless (refusal_of codec (first_unfit BadConfig kind targets (map entry_in tracks))) (outputs_for kind targets (map entry_in tracks)))
        (so.left.codec ∙ unfit-next NoExtractor kind targets (map entry_in tracks) k t true below is (unfit-found NoExtractor kind tracks t track (Err NoExtractor) found read))

-- ---- their names

pub outputs_for-others : (kind : Form) (targets : List Target) (entries : List Node) (name : List ℕ) → AreOthers name (names_of targets) → AreOthers name (names_in (outputs_for kind targets entries))
outputs_for-others kind [] entries name others = tt
outputs_for-others kind (t ∷ ts) entries name others = step (slice_get entries t.id) (outputs_for-others kind ts entries name others.1)
  where
    coded : (e : Node) (read : Result Coding UnsupportedTrack) → AreOthers name (names_in (outputs_for kind ts entries)) → AreOthers name (names_in (track_output t.name e read ++ outputs_for kind ts entries))
    coded e (Err why) rest = rest
    coded e (Ok coding) rest = (others.0, rest)

    step : (entry : Option Node) → AreOthers name (names_in (outputs_for kind ts entries)) → AreOthers name (names_in (output_for kind t entry ++ outputs_for kind ts entries))
    step None rest = rest
    step (Some e) rest = coded e (coding_of kind e) rest

-- The names of a job's outputs are among the names of its files.
pub job_outputs-others : (job : Job) (entries : List Node) (name : List ℕ) → AreOthers name (names_for job) → AreOthers name (names_in (job_outputs job entries))
job_outputs-others (jobs.Tracks form list) entries name others = outputs_for-others form list entries name others
job_outputs-others (jobs.Attachments list) entries name others = tt
job_outputs-others (jobs.Cues list) entries name others = tt
job_outputs-others (jobs.Chapters out) entries name others = tt

pub outputs_for-apart : (kind : Form) (targets : List Target) (entries : List Node) → AreApart (names_of targets) → AreApart (names_in (outputs_for kind targets entries))
outputs_for-apart kind [] entries apart = tt
outputs_for-apart kind (t ∷ ts) entries apart = step (slice_get entries t.id) (outputs_for-others kind ts entries t.name apart.0) (outputs_for-apart kind ts entries apart.1)
  where
    coded : (e : Node) (read : Result Coding UnsupportedTrack) → AreOthers t.name (names_in (outputs_for kind ts entries)) → AreApart (names_in (outputs_for kind ts entries)) → AreApart (names_in (track_output t.name e read ++ outputs_for kind ts entries))
    coded e (Err why) others rest = rest
    coded e (Ok coding) others rest = (others, rest)

    step : (entry : Option Node) → AreOthers t.name (names_in (outputs_for kind ts entries)) → AreApart (names_in (outputs_for kind ts entries)) → AreApart (names_in (output_for kind t entry ++ outputs_for kind ts entries))
    step None others rest = rest
    step (Some e) others rest = coded e (coding_of kind e) others rest

-- ---- their steps

-- The entry at an index is a track's.
track-at : (entries : List Node) (k : ℕ) → All IsTrack entries → IfSome (slice_get entries k) IsTrack
track-at [] k each = tt
track-at (e ∷ es) zero each = each 0 e (omega arith)
track-at (e ∷ es) (suc k) each = track-at es k (λ i d below. each (suc i) d (omega arith))

step-small : (duration : Option ℕ) → IfSome duration (λ d. d < too_long) → unwrap_or duration 0 < 2 ^ 48
step-small None short = omega arith
step-small (Some d) short = short

pub outputs_for-steps : (kind : Form) (targets : List Target) (entries : List Node) → All IsTrack entries → All IsReady (outputs_for kind targets entries)
outputs_for-steps kind [] entries each = λ k d below. absurd (omega arith)
outputs_for-steps kind (t ∷ ts) entries each = step (slice_get entries t.id) (track-at entries t.id each) (outputs_for-steps kind ts entries each)
  where
    behind : (o : TrackOutput) (os : List TrackOutput) → IsReady o → All IsReady os → (k : ℕ) (d : TrackOutput) → k < suc (length os) → IsReady (get_or (o ∷ os) k d)
    behind o os small rest zero d below = small
    behind o os small rest (suc k) d below = rest k d (omega arith)

    coded : (e : Node) (read : Result Coding UnsupportedTrack) → IsTrack e → coding_of kind e ≡ read → All IsReady (outputs_for kind ts entries) → All IsReady (track_output t.name e read ++ outputs_for kind ts entries)
    coded e (Err why) track is rest = rest
    coded e (Ok coding) track is rest =
        behind (output_with t.name e coding) (outputs_for kind ts entries)
        (record { step = step-small (default_duration_of e) track.duration; can = coding_of-can kind e coding is }) rest

    step : (entry : Option Node) → IfSome entry IsTrack → All IsReady (outputs_for kind ts entries) → All IsReady (output_for kind t entry ++ outputs_for kind ts entries)
    step None track rest = rest
    step (Some e) track rest = coded e (coding_of kind e) track refl rest

-- The entries of tracks that were read are tracks' entries.
pub each-entry : (tracks : List Track) → AreRead tracks → All IsTrack (map entry_in tracks)
each-entry tracks read = mapped tracks read.each
  where
    mapped : (ts : List Track) → All (λ (t : Track). IsTrack t.entry) ts → All IsTrack (map entry_in ts)
    mapped [] each = λ k d below. absurd (omega arith)
    mapped (t ∷ ts) each = at (mapped ts (λ k d below. each (suc k) d (omega arith)))
      where
        at : All IsTrack (map entry_in ts) → (k : ℕ) (d : Node) → k < suc (length (map entry_in ts)) → IsTrack (get_or (entry_in t ∷ map entry_in ts) k d)
        at rest zero d below = each 0 t (omega arith)
        at rest (suc k) d below = rest k d (omega arith)

-- ---- the outputs of a job

-- The outputs of a job are the outputs of its targets in its form.
pub job_outputs-taken : (job : Job) (kind : Form) (entries : List Node) → form_of job ≡ Some kind → outputs_for kind (targets_of job) entries ≡ job_outputs job entries
job_outputs-taken job kind entries is = sym (ap (λ (form : Option Form). outputs_taken form (targets_of job) entries) is)

-- The outputs that aren't refused can be written.
pub fit-ready : {E : Type 0} (kind : Form) (targets : List Target) (tracks : List Track) → AreRead tracks → (result : Result (Result (List TrackOutput) Refusal) E) → IfOk result (λ made. made ≡ outputs_or_refusal kind targets (map entry_in tracks)) → IfOk result (λ made. IfOk made (All IsReady))
fit-ready kind targets tracks read (Err why) is = tt
fit-ready kind targets tracks read (Ok made) is =
    subst (λ (r : Result (List TrackOutput) Refusal). IfOk r (All IsReady)) (sym is)
    (each (refusal_taken (Some kind) targets (map entry_in tracks)) (outputs_for-steps kind targets (map entry_in tracks) (each-entry tracks read)))
  where
    each : (why : Option Refusal) → All IsReady (outputs_for kind targets (map entry_in tracks)) → IfOk (unless why (outputs_for kind targets (map entry_in tracks))) (All IsReady)
    each None ready = ready
    each (Some why) ready = tt
