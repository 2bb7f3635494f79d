-- Text up to its first zero byte: RFC 8794, sections 7.4 (String Element) and 7.5 (UTF-8 Element).
use Rattle.std.specs.Prelude.{◌≡◌, ℕ, ◌==◌, true, not, List}
use Rattle.std.specs.List.{list_all}

-- None of the bytes `octets` is zero, so that the whole text counts. Titles and texts that are written require it.
abbrev pub HasNoZero : List ℕ → Type 0
HasNoZero octets = list_all (λ octet. not (octet == 0)) octets ≡ true
