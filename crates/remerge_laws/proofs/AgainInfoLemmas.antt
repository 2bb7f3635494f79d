-- The Info of an output is written again as it was.
use Rattle.std.proofs.Common.{◌≡◌, ℕ, zero, suc, List, [], ◌∷◌, Option, None, Some, refl, sym, ap, ap₂, ◌∙◌, unwrap_or}
use Rattle.mkv_schema.specs.declared.ids.TheConstants.{TITLE}
use Rattle.mkv_schema.specs.Value.{text_of}
use Rattle.tree_format.specs.Node.{Node, body_of}
use Rattle.tree_format.specs.Standing.{placed}
use Rattle.tree_format.specs.Text.{HasNoZero}
use Rattle.tree_format.specs.Values.{first_child}
use Rattle.tree_format.proofs.ValueLemmas.{text_of-whole}
use Rattle.output_model.specs.Document.{info_told}
use Rattle.output_records.specs.Info.{output_info}
use Rattle.merge_inputs.specs.Title.{title_text, title_of_info}
use Rattle.merge_plan.specs.Records.{title_of, title_or}
use Rattle.remerge_laws.specs.AgainInfo.{InfoIsWrittenAgain}
use Rattle.remerge_laws.specs.Placed.{MayStandAs}
use Rattle.remerge_laws.proofs.PlacedLemmas.{body-placed, first-placed, map_or-is}

-- the title of a written Info, as a reader reads it
abbrev text_there : Node → List ℕ
text_there n = text_of (body_of n)

title-written : (scale : ℕ) (title : List ℕ) → HasNoZero title → title_text (output_info scale title) ≡ title
title-written scale [] whole = refl
title-written scale (octet ∷ octets) whole = text_of-whole (octet ∷ octets) whole

title-placed : (n : Node) (p : ℕ) → title_text (placed p n) ≡ title_text n
title-placed n p =
    map_or-is text_there (first_child TITLE (placed p n)) []
    ∙ ap (λ (o : Option (List ℕ)). unwrap_or o []) (first-placed text_there (λ m q. ap text_of (body-placed m q)) TITLE refl n p)
    ∙ sym (map_or-is text_there (first_child TITLE n) [])

title-told : (scale : ℕ) (title : List ℕ) (lasting : Option ℕ) → title_text (info_told (output_info scale title) lasting) ≡ title_text (output_info scale title)
title-told scale title None = refl
title-told scale [] (Some zero) = refl
title-told scale [] (Some (suc n)) = refl
title-told scale (octet ∷ octets) (Some zero) = refl
title-told scale (octet ∷ octets) (Some (suc n)) = refl

title-read : (scale : ℕ) (title : List ℕ) (lasting : Option ℕ) → HasNoZero title → (o : Option Node) → MayStandAs (Some (info_told (output_info scale title) lasting)) o → title_of_info o ≡ title
title-read scale title lasting whole None stands = absurd stands
title-read scale title lasting whole (Some n) stands =
    ap title_text stands.1 ∙ title-placed (info_told (output_info scale title) lasting) stands.0 ∙ title-told scale title lasting ∙ title-written scale title whole

or-nothing : (title : List ℕ) → title_or title [] ≡ title
or-nothing [] = refl
or-nothing (octet ∷ octets) = refl

pub info-again : InfoIsWrittenAgain
info-again words reads lasting out name info again scale whole stands title =
    ap (λ (t : List ℕ). output_info 1000000 (title_or t [])) (title ∙ title-read words.scale (title_of words reads) lasting whole info stands)
    ∙ ap₂ output_info (sym scale) (or-nothing (title_of words reads))
