-- The names of the reasons to refuse an argument, as messages print them. They are this project's.
use Rattle.std.specs.Prelude.{ℕ, List, codes}
use Rattle.word_values.specs.declared.usage.Why.{Why}
use Rattle.word_values.specs.declared.usage.Why.TheVariants.{NoCommand, UnknownCommand, UnknownOption, MissingValue, BadValue, RepeatedOption, ExtraWord, NoOutput, NoInput, DanglingOption, AppendFirst, RepeatedOutput, TooManyInputs, NeedsUuids, NoSuchFile}

-- the name of the reason why an argument is refused, as a message prints it. The contract of `Why::name` promises it.
unfoldable pub why_name : Why → List ℕ
why_name NoCommand = codes "NoCommand"
why_name UnknownCommand = codes "UnknownCommand"
why_name UnknownOption = codes "UnknownOption"
why_name MissingValue = codes "MissingValue"
why_name BadValue = codes "BadValue"
why_name RepeatedOption = codes "RepeatedOption"
why_name ExtraWord = codes "ExtraWord"
why_name NoOutput = codes "NoOutput"
why_name NoInput = codes "NoInput"
why_name DanglingOption = codes "DanglingOption"
why_name AppendFirst = codes "AppendFirst"
why_name RepeatedOutput = codes "RepeatedOutput"
why_name TooManyInputs = codes "TooManyInputs"
why_name NeedsUuids = codes "NeedsUuids"
why_name NoSuchFile = codes "NoSuchFile"
