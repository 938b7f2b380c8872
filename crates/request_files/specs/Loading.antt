-- Reading files, step by step.
use Rattle.std.specs.Prelude.{◌≡◌, ◌⊎◌, ℕ, ◌<◌, ◌≤◌, ◌^◌, List, [], ◌∷◌, length, Option, Some, None, Result, Ok, Err}
use Rattle.rh_base.specs.declared.fault.Refusal.{Refusal}
use Rattle.rh_base.specs.Refused.{IsRefusal}
use Rattle.rh_base.specs.Shelf.{Held, MayBeThere}
use Rattle.command_line.specs.declared.table.InputKind.{InputKind}
use Rattle.command_line.specs.Table.{role_row, limit_of, ByRole, Each}
use Rattle.request_files.specs.declared.fetching.Load.{Load}
use Rattle.request_files.specs.declared.fetching.Load.TheVariants as load
use Rattle.request_files.specs.declared.fetching.FilesFault.{FilesFault}
use Rattle.request_files.specs.declared.fetching.FilesFault.TheVariants as fault
use Rattle.request_files.specs.Files.{AreBytes, IsLonger}

-- The name isn't missing, and what was fetched is what stands under it, in fewer bytes than a place of four bytes can count.
abbrev pub IsLoad : Held → ℕ → List ℕ → Load → Type 0
IsLoad held limit name load.Longer = IsLonger limit held name
IsLoad held limit name (load.Bytes bytes) = MayBeThere held name × AreBytes held name bytes × (length bytes ≤ limit)
    × (length bytes < 2 ^ 32)

-- what was fetched, or the name of the file that failed
abbrev pub Reads : {A : Type 0} → (A → Type 0) → (List ℕ → Type 0) → ℕ → ℕ → Result A FilesFault → Type 0
Reads Is Failed before now (Ok x) = (now ≡ before) × Is x
Reads Is Failed before now (Err (fault.Long r)) = ⊥
Reads Is Failed before now (Err (fault.Failed name)) = Failed name
Reads Is Failed before now (Err (fault.Memory m)) = now ≡ before

-- what was fetched of each file of these names
abbrev pub AreLoads : Held → InputKind → ByRole (List ℕ) → ByRole Load → Type 0
AreLoads held kind names loads = Each (λ role. IsLoad held (limit_of kind role)) names loads

-- the bytes that were fetched, if there aren't too many
abbrev pub bytes_in : Load → Option (List ℕ)
bytes_in load.Longer = None
bytes_in (load.Bytes bytes) = Some bytes

-- the bytes that were fetched of each file
abbrev pub AreBytesOf : ByRole Load → ByRole (List ℕ) → Type 0
AreBytesOf loads files = Each (λ role l bytes. bytes_in l ≡ Some bytes) loads files

-- the refusal of the first file of which too many bytes were fetched
abbrev pub FirstLong : ByRole Load → Refusal → Type 0
FirstLong [] r = ⊥
FirstLong (f ∷ loads) r =
    ((bytes_in f.1 ≡ None) × IsRefusal 17 0 (role_row f.0).label r) ⊎ (((bytes : List ℕ) × (bytes_in f.1 ≡ Some bytes)) × FirstLong loads r)
