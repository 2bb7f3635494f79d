-- UTF-8 text, as a test and as a predicate.
use Rattle.std.proofs.lemmas.Str.{IsUtf8-from_is_utf8, is_utf8-from_IsUtf8}

pub ruleset texts = (IsUtf8-from_is_utf8, is_utf8-from_IsUtf8)
