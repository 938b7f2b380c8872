-- What stands under the names of files, as far as the shelf tells what it holds.
use Rattle.std.specs.Prelude.{◌≡◌, ◌⊎◌, ℕ, ◌<◌, ◌≤◌, ◌^◌, List, [], ◌∷◌, length, Some, Result, Ok, Err}
use Rattle.rh_base.specs.declared.fault.Refusal.{Refusal}
use Rattle.rh_base.specs.Refused.{IsRefusal}
use Rattle.rh_base.specs.Causes.{Rose}
use Rattle.rh_base.specs.Shelf.{Held, told_at, IsMissing, MayBeThere}
use Rattle.command_line.specs.declared.table.InputKind.{InputKind}
use Rattle.command_line.specs.Table.{role_row, limit_of, ByRole, Each}
use Rattle.request_files.specs.declared.fetching.FilesFault.{FilesFault}
use Rattle.request_files.specs.declared.fetching.FilesFault.TheVariants as fault

-- these are the bytes
abbrev pub AreBytes : Held → List ℕ → List ℕ → Type 0
AreBytes held name bytes = (told : List ℕ) → told_at held name ≡ Some told → bytes ≡ told

-- the file isn't missing, and has more bytes than these
abbrev pub IsLonger : ℕ → Held → List ℕ → Type 0
IsLonger limit held name = MayBeThere held name × ((told : List ℕ) → told_at held name ≡ Some told → limit < length told)

-- the file isn't missing, and these are its bytes, and not too many
abbrev pub StandAt : Held → ℕ → List ℕ → List ℕ → Type 0
StandAt held limit name bytes = MayBeThere held name × AreBytes held name bytes × (length bytes ≤ limit)

-- these are the bytes of the files of these names, none of them missing or too long
abbrev pub AreRead : Held → InputKind → ByRole (List ℕ) → ByRole (List ℕ) → Type 0
AreRead held kind names files = Each (λ role. StandAt held (limit_of kind role)) names files

-- This is the refusal of the first file that has too many bytes.
abbrev pub FirstTooLong : Held → InputKind → ByRole (List ℕ) → Refusal → Type 0
FirstTooLong held kind [] r = ⊥
FirstTooLong held kind (f ∷ names) r =
    (IsLonger (limit_of kind f.0) held f.1 × IsRefusal 17 0 (role_row f.0).label r)
    ⊎ (((bytes : List ℕ) × StandAt held (limit_of kind f.0) f.1 bytes) × FirstTooLong held kind names r)

-- The file of this name couldn't be read: the shelf's count of faults rose, or it tells what it holds and hasn't the name.
abbrev pub FailsAt : List ℕ → Held → ℕ → ℕ → Type 0
FailsAt name held before now = Rose before now ⊎ IsMissing held name

-- The first of these files that couldn't be read has this name, and none ahead of it is missing.
abbrev pub FirstFailed : Held → ℕ → ℕ → ByRole (List ℕ) → List ℕ → Type 0
FirstFailed held before now [] name = ⊥
FirstFailed held before now (f ∷ names) name =
    ((f.1 ≡ name) × FailsAt name held before now) ⊎ (MayBeThere held f.1 × FirstFailed held before now names name)

-- none of these files is missing
abbrev pub NoneMissing : Held → ByRole (List ℕ) → Type 0
NoneMissing held [] = Unit {0}
NoneMissing held (f ∷ names) = MayBeThere held f.1 × NoneMissing held names

-- one of these files is missing
abbrev pub AnyMissing : Held → ByRole (List ℕ) → Type 0
AnyMissing held [] = ⊥
AnyMissing held (f ∷ names) = IsMissing held f.1 ⊎ AnyMissing held names

-- each file is told
abbrev pub AllTold : Held → ByRole (List ℕ) → Type 0
AllTold held [] = Unit {0}
AllTold held (f ∷ names) = ((bytes : List ℕ) × (told_at held f.1 ≡ Some bytes)) × AllTold held names

-- each file has fewer bytes than a place of four bytes can count
abbrev pub AreShort : ByRole (List ℕ) → Type 0
AreShort [] = Unit {0}
AreShort (f ∷ files) = (length f.1 < 2 ^ 32) × AreShort files

-- What was read, or why nothing was. A file that is missing comes before one that is too long, and only a failed read
-- raises the shelf's count of faults.
abbrev pub AreReadBy : InputKind → ByRole (List ℕ) → Held → ℕ → ℕ → Result (ByRole (List ℕ)) FilesFault → Type 0
AreReadBy kind names held before now (Ok files) = (now ≡ before) × AreRead held kind names files
AreReadBy kind names held before now (Err (fault.Long r)) = (now ≡ before) × NoneMissing held names × FirstTooLong held kind names r
AreReadBy kind names held before now (Err (fault.Failed name)) = FirstFailed held before now names name
AreReadBy kind names held before now (Err (fault.Memory m)) = now ≡ before
