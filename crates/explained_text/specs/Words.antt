-- The words of failures and of what stands at a path.
use Rattle.std.specs.Prelude.{ℕ, zero, suc, not, ◌&&◌, nat_le, nat_lt, Bool, List, [], ◌++◌, length, take, slice_index, Option, Some, None, if◌then◌else◌, codes}
use Rattle.json.specs.Print.{quoted}
use Rattle.fs_semantics.specs.FileTree.{Path, Entry, Folder, File, Link as LinkTo, parent}
use Rattle.fs_semantics.specs.Programs.{Program, Id, Err, Mkdir, Creat, Link, Rm, Cp, Steps, If}
use Rattle.tree_text.specs.ProgramText.{path_shown, test_text}
use Rattle.failure_semantics.specs.Failures.{Reason, Exists, NoFolder, NoFile, NothingThere, NotEmpty, TheRoot, Needs}
use Rattle.explained_text.specs.declared.found.TheConstants.{SHOWN_BYTES}

-- why nothing was made at the path
abbrev pub place_words : Path → Reason → List ℕ
place_words p Exists = codes ": exists"
place_words p NoFolder = codes ": no folder " ++ path_shown (parent p)
place_words p _ = []

-- why nothing was removed
abbrev pub removal_words : Reason → List ℕ
removal_words NothingThere = codes ": nothing there"
removal_words NotEmpty = codes ": not empty"
removal_words TheRoot = codes ": the root"
removal_words _ = []

-- why the file at the first path wasn't copied to the second
abbrev pub copy_words : Path → Path → Reason → List ℕ
copy_words p q NoFile = codes ": no file " ++ path_shown p
copy_words p q Exists = codes ": exists " ++ path_shown q
copy_words p q NoFolder = codes ": no folder " ++ path_shown (parent q)
copy_words p q _ = []

-- what `err` needed; alone where it stands in no choice
abbrev pub need_words : Reason → List ℕ
need_words (Needs a) = codes "needs " ++ test_text a
need_words _ = codes "err"

-- the construct that gave Error, and why
abbrev pub step_words : Program → Reason → List ℕ
step_words Id r = []
step_words Err r = need_words r
step_words (Mkdir p) r = codes "mkdir " ++ (path_shown p ++ place_words p r)
step_words (Creat p content) r = codes "creat " ++ (path_shown p ++ place_words p r)
step_words (Link p target) r = codes "link " ++ (path_shown p ++ place_words p r)
step_words (Rm p) r = codes "rm " ++ (path_shown p ++ removal_words r)
step_words (Cp p q) r = codes "cp " ++ (path_shown p ++ (codes " " ++ (path_shown q ++ copy_words p q r)))
step_words (Steps es) r = []
step_words (If a e f) r = []

-- ---- what stands at a path

-- a byte with which no character of UTF-8 begins
abbrev pub goes_on : ℕ → Bool
goes_on b = not (nat_lt b 128) && nat_lt b 192

-- the last place up to this one at which a character begins
unfoldable pub cut_at : List ℕ → ℕ → ℕ
cut_at text zero = 0
cut_at text (suc n) = if goes_on (slice_index text (suc n)) then cut_at text n else suc n

-- a text as a JSON string; of a long one as many whole characters as fit, with two dots behind
abbrev pub shortened : List ℕ → List ℕ
shortened text = if nat_le (length text) SHOWN_BYTES then quoted text else quoted (take (cut_at text SHOWN_BYTES) text) ++ codes ".."

-- what stands there
abbrev pub found_words : Option Entry → List ℕ
found_words None = codes "nothing"
found_words (Some Folder) = codes "folder"
found_words (Some (File content)) = codes "file " ++ shortened content
found_words (Some (LinkTo target)) = codes "link " ++ shortened target
