use Rattle.std.proofs.Common.{sym, ap}
use Rattle.std.proofs.Output.{has_written_of_eq}
use Rattle.mkv_lines.specs.Line.{text_of}
use Rattle.mkv_lines.proofs.line.LineDisplay.fmt.Goals as goal

pub returns-in-NoAttachment-clause-writes : goal.returns-in-NoAttachment-clause-writes
returns-in-NoAttachment-clause-writes g c = λ plain ok.
    has_written_of_eq _ _ _ _ _ (ap text_of (sym c.in-NoAttachment.is)) (c.numbered-in-NoAttachment.ensures plain ok)

pub returns-in-NoExtractor-clause-writes : goal.returns-in-NoExtractor-clause-writes
returns-in-NoExtractor-clause-writes g c = λ plain ok.
    has_written_of_eq _ _ _ _ _ (ap text_of (sym c.in-NoExtractor.is)) (c.numbered-in-NoExtractor.ensures plain ok)

pub returns-in-Missing-clause-writes : goal.returns-in-Missing-clause-writes
returns-in-Missing-clause-writes g c = λ plain ok.
    has_written_of_eq _ _ _ _ _ (ap text_of (sym c.in-Missing.is)) (c.named.ensures plain ok)

pub returns-in-BadText-clause-writes : goal.returns-in-BadText-clause-writes
returns-in-BadText-clause-writes g c = λ plain ok.
    has_written_of_eq _ _ _ _ _ (ap text_of (sym c.in-BadText.is)) (c.numbered-in-BadText.ensures plain ok)

pub returns-in-TextTooLarge-clause-writes : goal.returns-in-TextTooLarge-clause-writes
returns-in-TextTooLarge-clause-writes g c = λ plain ok.
    has_written_of_eq _ _ _ _ _ (ap text_of (sym c.in-TextTooLarge.is)) (c.named-in-TextTooLarge.ensures plain ok)

pub returns-in-FileTooLarge-clause-writes : goal.returns-in-FileTooLarge-clause-writes
returns-in-FileTooLarge-clause-writes g c = λ plain ok.
    has_written_of_eq _ _ _ _ _ (ap text_of (sym c.in-FileTooLarge.is)) (c.named-in-FileTooLarge.ensures plain ok)

pub returns-in-TooLarge-clause-writes : goal.returns-in-TooLarge-clause-writes
returns-in-TooLarge-clause-writes g c = λ plain ok.
    has_written_of_eq _ _ _ _ _ (ap text_of (sym c.in-TooLarge.is)) (c.of_element-in-TooLarge.ensures plain ok)

pub returns-in-BadSidecar-clause-writes : goal.returns-in-BadSidecar-clause-writes
returns-in-BadSidecar-clause-writes g c = λ plain ok.
    has_written_of_eq _ _ _ _ _ (ap text_of (sym c.in-BadSidecar.is)) (c.numbered-in-BadSidecar.ensures plain ok)

pub returns-in-BadConfig-clause-writes : goal.returns-in-BadConfig-clause-writes
returns-in-BadConfig-clause-writes g c = λ plain ok.
    has_written_of_eq _ _ _ _ _ (ap text_of (sym c.in-BadConfig.is)) (c.numbered-in-BadConfig.ensures plain ok)

pub returns-in-MoreDamages-clause-writes : goal.returns-in-MoreDamages-clause-writes
returns-in-MoreDamages-clause-writes g c = λ plain ok.
    has_written_of_eq _ _ _ _ _ (ap text_of (sym c.in-MoreDamages.is)) (c.counted.ensures plain ok)

pub returns-in-MoreBadFrames-clause-writes : goal.returns-in-MoreBadFrames-clause-writes
returns-in-MoreBadFrames-clause-writes g c = λ plain ok.
    has_written_of_eq _ _ _ _ _ (ap text_of (sym c.in-MoreBadFrames.is)) (c.counted-in-MoreBadFrames.ensures plain ok)
