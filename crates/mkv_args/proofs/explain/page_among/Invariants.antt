-- The first topic with the name is among the topics that are left.
use Rattle.std.proofs.Common.{◌≡◌, map, drop}
use Rattle.std.specs.List.{find}
use Rattle.mkv_args.specs.Explain.{Topic, is_same_name, shown}
use Rattle.mkv_args.proofs.explain.page_among.Given as goal

abbrev pub invariant-loop-topic : goal.invariant-loop-topic
invariant-loop-topic l =
    find (λ (t : Topic). is_same_name t.name l.name) (map shown l.topics) ≡ find (λ (t : Topic). is_same_name t.name l.name) (map shown (drop l.topic-index l.topics))
