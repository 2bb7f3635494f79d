-- The merge in a command, and its texts.
pub use Rattle.mkv_args.proofs.SoundLemmas.{asked-merged, asked-texts}
