-- The reason why a construct failed, as few questions to the tree tell it.
use Rattle.std.specs.Prelude.{if◌then◌else◌}
use Rattle.fs_semantics.specs.FileTree.{Path, Tree, is_none, is_file, is_empty_dir}
use Rattle.failure_semantics.specs.Failures.{Reason, Exists, NoFolder, NoFile, NothingThere, NotEmpty, TheRoot}

-- of something that couldn't be made
abbrev pub no_place : Tree → Path → Reason
no_place t p = if is_none t p then NoFolder else Exists

-- of something that couldn't be removed
abbrev pub not_gone : Tree → Path → Reason
not_gone t p = if is_none t p then NothingThere else (if is_empty_dir t p then TheRoot else NotEmpty)

-- of a file that couldn't be copied
abbrev pub no_copy : Tree → Path → Path → Reason
no_copy t from p = if is_file t from then no_place t p else NoFile
