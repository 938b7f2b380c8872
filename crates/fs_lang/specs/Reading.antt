-- Paths as texts.
use Rattle.std.specs.Prelude.{◌≡◌, ◌≢◌, ◌<◌, slice_index, ℕ, ◌==◌, ◌&&◌, not, nat_le, Bool, false, List, [], ◌∷◌, ◌++◌, length, Option, Some, None, Result, Ok, Err, if◌then◌else◌, codes}
use Rattle.std.specs.Str.{bytes_eq}
use Rattle.std.specs.List.{list_any}
use Rattle.rh_base.specs.declared.limits.TheConstants.{PATH_BYTES, PATH_SEGMENTS}
use Rattle.fs_semantics.specs.FileTree.{Path}
use Rattle.fs_lang.specs.declared.path.PathFault.{PathFault}
use Rattle.fs_lang.specs.declared.path.PathFault.TheVariants as fault

-- the pieces with one byte more at the front of the first
abbrev pub with_byte : ℕ → List (List ℕ) → List (List ℕ)
with_byte b [] = (b ∷ []) ∷ []
with_byte b (p ∷ ps) = (b ∷ p) ∷ ps

-- the pieces between the slashes
abbrev pub pieces : List ℕ → List (List ℕ)
pieces [] = [] ∷ []
pieces (b ∷ text) = if b == 47 then [] ∷ pieces text else with_byte b (pieces text)

-- not one dot or two, and without a zero
abbrev pub is_good : List ℕ → Bool
is_good p = not (bytes_eq p (codes ".")) && not (bytes_eq p (codes "..")) && not (list_any (λ b. b == 0) p)

-- not empty, without a slash, and good
abbrev pub is_segment : List ℕ → Bool
is_segment p = not (length p == 0) && not (list_any (λ b. b == 47) p) && is_good p

-- what a piece adds: nothing, or itself, if it is a segment
abbrev pub piece_of : List ℕ → Option Path
piece_of p = if length p == 0 then Some [] else (if is_good p then Some (p ∷ []) else None)

-- both, one behind the other, if both are there
abbrev pub joined : Option Path → Option Path → Option Path
joined None q = None
joined (Some p) None = None
joined (Some p) (Some q) = Some (p ++ q)

-- the segments that the pieces add, unless one of them is bad
abbrev pub segments_of : List (List ℕ) → Option Path
segments_of [] = Some []
segments_of (p ∷ ps) = joined (piece_of p) (segments_of ps)

-- the first byte is a slash
abbrev pub begins_with_slash : List ℕ → Bool
begins_with_slash [] = false
begins_with_slash (b ∷ text) = b == 47

-- the path, unless it has too many segments
abbrev pub within : Option Path → Option Path
within None = None
within (Some p) = if nat_le (length p) PATH_SEGMENTS then Some p else None

-- the path of a text
abbrev pub path_in : List ℕ → Option Path
path_in text = if nat_le (length text) PATH_BYTES && begins_with_slash text then within (segments_of (pieces text)) else None

-- What reading a path answers.
abbrev pub PathGives : Result Path PathFault → Option Path → Type 0
PathGives (Ok p) read = read ≡ Some p
PathGives (Err fault.Bad) read = read ≡ None
PathGives (Err (fault.Memory m)) read = Unit {0}

-- the byte isn't in it, by place
abbrev pub HasNo : ℕ → List ℕ → Type 0
HasNo b text = (i : ℕ) → i < length text → slice_index text i ≢ b

-- no slash is in it
abbrev pub HasNoSlash : List ℕ → Type 0
HasNoSlash text = HasNo 47 text

-- What adding a piece answers and leaves.
abbrev pub Adds : Result (Unit {0}) PathFault → Option Path → Path → Path → Type 0
Adds (Ok done) (Some s) old new = new ≡ old ++ s
Adds (Ok done) None old new = ⊥
Adds (Err fault.Bad) piece old new = piece ≡ None
Adds (Err (fault.Memory m)) piece old new = Unit {0}
