use Rattle.std.proofs.Common.{◌≡◌, ◌-◌, ℕ, List, length, take, drop, refl, sym, ap, subst, ◌∙◌, arith}
use Rattle.std.proofs.lemmas.Grind.{common_steps}
use Rattle.std.proofs.lemmas.List.{length-drop, with_items_is}
use Rattle.std.proofs.Math.Seq.{take-length}
use Rattle.cluster_writer.specs.declared.front.TheConstants.{FRONT}
use Rattle.cluster_writer.specs.Gathered.{AreFew, Gathered, cluster_with}
use Rattle.cluster_writer.proofs.BufferLemmas.{small-few}
use Rattle.cluster_writer.proofs.buffer.ClusterBuf.octets.Goals as goal

pub returns : goal.returns
returns c =
    let inside = c.self.inside in
    let now = c.args.self.now in
    let start = c.put_front-start.result in
    let all = c.deref.result.now in
    let lent : List ℕ = take (length all - start) (drop start all) in
    let written = c.put_front-start.new.octets in
    let kept = with_items_is inside.octets written (omega (arith, ap length c.deref_mut.ensures.value)) in
    let rest : lent ≡ drop start all = ap (λ n. take n (drop start all)) (sym (length-drop start all)) ∙ take-length (drop start all) in
    let front = ap (λ (octets : List ℕ). cluster_with inside.timestamp (drop FRONT octets)) c.deref_mut.ensures.value in
    let seen = ap (λ (g : Gathered). cluster_with g.timestamp g.elements) c.self.view_is in
    let exact : lent ≡ cluster_with now.timestamp now.elements =
    rest ∙ ap (drop start) (c.deref.ensures.value ∙ kept) ∙ c.put_front-start.ensures.written ∙ front ∙ seen in
    let P : Gathered → Type 0 = λ g. AreFew g.count (cluster_with g.timestamp g.elements) in
    let Q : List ℕ → Type 0 = λ octets. AreFew now.count octets in
    let few = small-few inside.timestamp (drop FRONT inside.octets.items) inside.count inside.timestamp_len c.self.invariant.timestamp c.self.invariant.small in (
      (refl, (λ _. tt), grind (arith, common_steps)),
      record {
        stays = tt;
        exact = exact;
        cluster = λ held holds. exact ∙ ap (λ (g : Gathered). cluster_with g.timestamp g.elements) holds;
        most = subst Q (sym exact) (subst P c.self.view_is few);
      },
    )
