-- The table of programs: what each type does in each state, one line for each row.
use Rattle.std.specs.Prelude.{ℕ, Bool, true, false, List, [], ◌∷◌, ◌++◌, map, codes, Option, Some, None}
use Rattle.std.specs.List.{flat_map}
use Rattle.fs_semantics.specs.FileTree.{Path}
use Rattle.fs_semantics.specs.Programs.{Test, Program, Id, Err, Creat, Link, Rm, Cp, If, Or, IsFile, IsLink, IsNone}
use Rattle.fs_lang.specs.PathText.{path_text}
use Rattle.pkg_listing.specs.declared.listing.Listed.{Listed}
use Rattle.pkg_listing.specs.declared.listing.Package.{Package}
use Rattle.model_semantics.specs.declared.states.Ensure.{Ensure}
use Rattle.model_semantics.specs.declared.states.Ensure.TheVariants as ensure
use Rattle.model_semantics.specs.declared.states.FileState.{FileState}
use Rattle.model_semantics.specs.declared.states.FileState.TheVariants as file
use Rattle.model_semantics.specs.declared.states.States.{States}
use Rattle.model_semantics.specs.declared.states.Units.{Units}
use Rattle.model_semantics.specs.Words.{sequence, ancestors, dir, dirs, sweep, put, drop_file, mark, need, kept, deepest_first}

-- ---- files

-- a file or a link stands there
abbrev pub is_taken : Path → Test
is_taken p = Or (IsFile p) (IsLink p)

-- the program of a file, by its state
abbrev pub file_row : Path → FileState → Program
file_row p file.Unsaid = Id
file_row p file.Present = If (IsNone p) (Creat p []) Id
file_row p file.File = If (IsFile p) Id (Creat p [])
file_row p (file.Content content) = put p content
file_row p (file.Copied from) = If (IsFile p) (sequence (Rm p ∷ Cp from p ∷ [])) (Cp from p)
file_row p (file.Fetched address) = put p (codes "source:" ++ address)
file_row p file.Folder = dir p
file_row p file.Absent = If (is_taken p) (Rm p) Id
file_row p (file.Link target) = If (is_taken p) (sequence (Rm p ∷ Link p target ∷ [])) (Link p target)

-- ---- packages

-- what stands for the content of a package's file: its digest, or else the name and the path
abbrev pub content_of : List ℕ → Path → Option (List ℕ) → List ℕ
content_of name p (Some digest) = codes "digest:" ++ digest
content_of name p None = codes "package:" ++ (name ++ (codes ":" ++ path_text p))

-- puts a file of a package
abbrev pub installed_file : List ℕ → Listed → Program
installed_file name f = put f.path (content_of name f.path f.digest)

-- the folders above the files, the listed folders with those above them, and the folders above the mark
abbrev pub folders_of : Package → Path → List Path
folders_of p m = kept [] (flat_map (λ f. ancestors f.path) p.files ++ (flat_map (λ d. ancestors d ++ d ∷ []) p.folders ++ ancestors m))

-- a package goes: its files, its folders that are empty then, and its mark; or it comes: its folders, its files and its mark
abbrev pub package_row : List ℕ → Package → Path → Ensure → List Program
package_row name p m ensure.Absent =
    If (IsFile m) (sequence (map (λ f. drop_file f.path) p.files ++ (map sweep (deepest_first p.folders) ++ Rm m ∷ []))) Id ∷ []
package_row name p m _ =
    map dir (folders_of p m) ++ If (IsFile m) Id (sequence (map (installed_file name) p.files ++ Creat m [] ∷ [])) ∷ []

-- ---- groups and users

-- the mark of a group goes, or is put
abbrev pub group_row : Path → Ensure → List Program
group_row m ensure.Absent = drop_file m ∷ []
group_row m _ = mark m

-- with the groups that are needed, and the home, if the user manages one
abbrev pub user_row : List Path → Path → Option Path → List Program
user_row groups m None = map need groups ++ mark m
user_row groups m (Some home) =
    map need groups ++ (dirs m ++ If (IsFile m) Id (sequence (dirs home ++ (dir home ∷ Creat m [] ∷ []))) ∷ [])

-- ---- services

-- one of the files of a service is there
abbrev pub is_installed : Units → Test
is_installed u = Or (Or (Or (IsFile u.own) (IsFile u.lib)) (IsFile u.usr)) (IsFile u.init)

-- a service that is installed is marked as running or as enabled
abbrev pub switched : Units → Path → Bool → List Program
switched u m true = If (is_installed u) (sequence (mark m)) Err ∷ []
switched u m false = drop_file m ∷ []

-- what `ensure` asks of a service
abbrev pub run_part : Units → Path → Ensure → List Program
run_part u m ensure.Running = switched u m true
run_part u m ensure.Stopped = switched u m false
run_part u m _ = []

-- what `enable` asks of a service
abbrev pub enable_part : Units → Path → Option Bool → List Program
enable_part u m None = []
enable_part u m (Some b) = switched u m b

-- the steps of a service
abbrev pub service_row : Units → Path → Path → States → List Program
service_row u running enabled s = run_part u running s.ensure ++ enable_part u enabled s.enable

-- ---- cron jobs and keys of ssh

-- nothing is needed for root
abbrev pub user_need : Option Path → Program
user_need None = Id
user_need (Some m) = need m

-- the file of a cron job or of a key goes, or is put where its user is there
abbrev pub entry_row : Option Path → Path → List ℕ → Ensure → List Program
entry_row user q content ensure.Absent = drop_file q ∷ []
entry_row user q content _ = user_need user ∷ (dirs q ++ put q content ∷ [])
