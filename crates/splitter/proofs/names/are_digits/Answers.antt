use Rattle.std.proofs.Common.{Bool, ◌&&◌, length, rules, tests, ap, sym, ◌∙◌}
use Rattle.std.specs.List.{list_all}
use Rattle.std.specs.Char.{is_ascii_digit}
use Rattle.std.proofs.lemmas.Bool.{le-leb}
use Rattle.std.proofs.lemmas.Iterator.{YieldsList-from_slice}
use Rattle.std.proofs.lemmas.Iterator.Search.{all_from_yields_List}
use Rattle.splitter.proofs.names.are_digits.Goals as goal

pub returns-then-octets-ge3 : goal.returns-then-octets-ge3
returns-then-octets-ge3 c =
    let here = all_from_yields_List is_ascii_digit _ _ c.all.result c.all.ensures.ran (YieldsList-from_slice c.args.octets.now cc) (λ x b q k. search (rules, tests)) in
    here ∙ sym (ap (λ (long : Bool). long && list_all is_ascii_digit c.args.octets.now) (le-leb 3 (length c.args.octets.now) c.if-octets-ge3.true))
