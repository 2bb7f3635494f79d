use Rattle.std.specs.Option.{option_to_list}
use Rattle.input_files.specs.TimesFile.{times_named, times_names}
use Rattle.input_files.proofs.LooksLemmas.{LooksOnly-both}
use Rattle.input_files.proofs.text_files.read_text_files.Goals as goal

-- The timestamp files couldn't all be read.
pub returns-in_err-times-clause-looks : goal.returns-in_err-times-clause-looks
returns-in_err-times-clause-looks g c =
    LooksOnly-both g.F.Reads g.F.Files (option_to_list c.args.chapters.now) (times_names (times_named c.args.words.now)) c.args.files.now c.read_chapter_file.new.files c.read_times_files.new.files
    c.read_chapter_file.ensures.looks c.read_times_files.ensures.looks

pub returns-clause-looks : goal.returns-clause-looks
returns-clause-looks g c =
    LooksOnly-both g.F.Reads g.F.Files (option_to_list c.args.chapters.now) (times_names (times_named c.args.words.now)) c.args.files.now c.read_chapter_file.new.files c.read_times_files.new.files
    c.read_chapter_file.ensures.looks c.read_times_files.ensures.looks
