use Rattle.mkv_generate.proofs.generating.tell.Goals as goal

-- All files are complete.
pub returns-in-Made-clause-said : goal.returns-in-Made-clause-said
returns-in-Made-clause-said g c = rw c.in-Made.is c.tell_all.ensures.said
