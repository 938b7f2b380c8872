-- Programs, one resource after another.
use Rattle.std.proofs.Common.{◌≡◌, List, [], ◌++◌}
use Rattle.std.specs.Prelude.{Result, Ok, Err}
use Rattle.rh_base.specs.declared.fault.Refusal.{Refusal}
use Rattle.fs_semantics.specs.FileTree.{Path}
use Rattle.fs_semantics.specs.Programs.{Program}
use Rattle.catalog_semantics.specs.declared.catalog.Resource.{Resource}
use Rattle.pkg_listing.specs.Packages.{Packages}
use Rattle.model_semantics.specs.Models.{programs_behind, programs}

-- programs behind others
abbrev pub behind : List Program → Result (List Program) Refusal → Result (List Program) Refusal
behind made (Ok es) = Ok (made ++ es)
behind made (Err r) = Err r

-- these programs were made, with these places, and these resources are left of what gives the whole
abbrev pub AreMade : List Path → Packages → List Path → List Program → List Resource → Result (List Program) Refusal → Type 0
AreMade barred listing seen made rest whole = whole ≡ behind made (programs_behind barred seen listing rest)
