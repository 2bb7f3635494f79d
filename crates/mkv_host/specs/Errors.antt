-- The meaning of the errors that the system returns for a file. The rules are this project's.
use Rattle.std.specs.Prelude.{◌≡◌, ◌⊎◌}
use Rattle.std.specs.declared.io.ErrorKind.{ErrorKind}
use Rattle.std.specs.declared.io.ErrorKind.TheVariants.{CrossesDevices, InvalidFilename, InvalidInput, NotADirectory, NotFound, PermissionDenied, ReadOnlyFilesystem, ResourceBusy, Unsupported}

-- The error `kind` means that no file has the name: it is free, its path leads through a file, or it can't be a name. Used by the contract of
-- `is_missing`.
abbrev pub IsMissing : ErrorKind → Type 0
IsMissing kind = (kind ≡ NotFound) ⊎ ((kind ≡ NotADirectory) ⊎ (kind ≡ InvalidFilename))

-- The error `kind` means that a file can never be replaced. The folder or the file's owner doesn't permit it, or the folder can't be written. Or the
-- name belongs to another file system, as a mount point does. Used by the contract of `is_irreplaceable`.
abbrev pub IsIrreplaceable : ErrorKind → Type 0
IsIrreplaceable kind = ((kind ≡ PermissionDenied) ⊎ (kind ≡ ReadOnlyFilesystem)) ⊎ ((kind ≡ CrossesDevices) ⊎ (kind ≡ ResourceBusy))

-- The error `kind` means that a file system can't sync a folder. Used by the contract of `is_unsynced`.
abbrev pub IsUnsynced : ErrorKind → Type 0
IsUnsynced kind = (kind ≡ InvalidInput) ⊎ (kind ≡ Unsupported)
