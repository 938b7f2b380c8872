-- What the type of footprints stands for, and what it keeps.
use Rattle.std.specs.Prelude.{◌≡◌, ◌||◌}
use Rattle.fs_semantics.specs.FileTree.{Path}
use Rattle.effect_sets.specs.declared.footprints.Footprint.TheInside.{Inside}
use Rattle.effect_sets.specs.Members.{Lists, members, is_parent_of}

-- the sets as lists
abbrev pub lists_in : Inside → Lists
lists_in f = record { reads = f.found.reads.keys; writes = f.found.writes.keys; folders = f.found.folders.keys; children = f.found.children.keys; sure = f.sure.keys }

-- its parents are those of what is written and of the folders
abbrev pub HasParents : Inside → Type 0
HasParents f = (q : Path) → members f.parents q ≡ (is_parent_of q f.found.writes.keys || is_parent_of q f.found.folders.keys)
