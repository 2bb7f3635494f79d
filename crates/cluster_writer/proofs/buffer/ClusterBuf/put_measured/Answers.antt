use Rattle.std.proofs.Common.{◌≤◌, ◌^◌, ℕ, length, drop, Some, refl, sym, ap, ◌++◌, ◌∙◌, arith}
use Rattle.std.proofs.lemmas.List.{length-append, length-drop}
use Rattle.output_model.specs.Element.{octets_of}
use Rattle.output_model.specs.Cluster.{timestamp_element}
use Rattle.output_model.specs.Block.{block_element}
use Rattle.cluster_writer.specs.declared.front.TheConstants.{FRONT}
use Rattle.cluster_writer.specs.Gathered.{Gathered, timestamp_for}
use Rattle.cluster_writer.specs.Lent.{block_of}
use Rattle.cluster_writer.specs.Lengths.{octets_taken}
use Rattle.cluster_writer.proofs.LengthLemmas.{length-same}
use Rattle.cluster_writer.proofs.BufferLemmas.{Holds-next, added-drop, added-length, joins-most, joins-small}
use Rattle.cluster_writer.proofs.buffer.ClusterBuf.put_measured.Goals as goal

pub returns-clause-most : goal.returns-clause-most
returns-clause-most c =
    let b = c.args.block.now in
    let inside = c.self.inside in
    let before = drop FRONT inside.octets.items in
    let few : octets_taken (block_of b) ≤ 2 ^ 27 = omega (arith, c.requires.lengths.whole, c.requires.lengths.most) in
    let fits = rw (← c.self.view_is) at c.requires.can.fits in
    let added = added-drop inside.octets.items _ c.unwrap_or-timestamp.result (block_of b) c.self.invariant.front c.add_element.ensures.items in
    let counted = ap length added ∙ length-append before (octets_of (block_element c.unwrap_or-timestamp.result (block_of b))) in
    joins-small inside.limits inside.timestamp before _ inside.count b.tick (octets_taken (block_of b)) c.unwrap_or-timestamp.result c.self.invariant.empty fits few
    (omega (arith, counted, length-same c.unwrap_or-timestamp.result b.tick (block_of b))) c.unwrap_or-timestamp.ensures

pub invariant_of-self : goal.invariant_of-self
invariant_of-self c =
    let b = c.args.block.now in
    let inside = c.self.inside in
    let few : octets_taken (block_of b) ≤ 2 ^ 27 = omega (arith, c.requires.lengths.whole, c.requires.lengths.most) in
    let fits = rw (← c.self.view_is) at c.requires.can.fits in
    let most = joins-most inside.limits inside.timestamp (drop FRONT inside.octets.items) inside.count b.tick (octets_taken (block_of b)) c.self.invariant.empty fits few in
    let added = added-length inside.octets.items _ c.unwrap_or-timestamp.result (block_of b) c.add_element.ensures.items in
    let counted : ℕ → ℕ = λ t. length (octets_of (timestamp_element t)) in
    record {
      front = omega (arith, added, c.self.invariant.front);
      timestamp = (
        c.timestamp_len_at-self-inside.ensures.exact ∙ ap (λ (g : Gathered). counted (timestamp_for g b.tick)) (sym c.self.view_is) ∙ ap counted (sym c.unwrap_or-timestamp.ensures),
        c.timestamp_len_at-self-inside.ensures.most,
      );
      empty = tt;
      small = returns-clause-most c;
      most = omega (arith, added, most, length-drop FRONT inside.octets.items);
    }

pub returns-clause-added : goal.returns-clause-added
returns-clause-added c =
    let b = block_of c.args.block.now in
    let old = c.self.inside.octets.items in
    rw (← c.self.view_is) (record {
      limits = refl;
      timestamp = ap (λ t. Some t) c.unwrap_or-timestamp.ensures;
      count = refl;
      elements =
          added-drop old _ c.unwrap_or-timestamp.result b c.self.invariant.front c.add_element.ensures.items
          ∙ ap (λ t. drop FRONT old ++ octets_of (block_element t b)) c.unwrap_or-timestamp.ensures;
      spare = omega (arith, c.add_element.ensures.len, c.add_element.ensures.capacity, length-same c.unwrap_or-timestamp.result b.tick b);
    })

pub returns-clause-holds : goal.returns-clause-holds
returns-clause-holds c = λ k holds. Holds-next k (block_of c.args.block.now) c.args.self.now _ holds (returns-clause-added c)
