-- Folders that surely stand when a program runs, since another one comes before it and leaves them; and what a program looks at
-- besides.
use Rattle.std.specs.Prelude.{ℕ, suc, Bool, false, not, ◌==◌, ◌&&◌, ◌||◌, List, [], ◌∷◌, slice_index_or}
use Rattle.std.specs.List.{list_any}
use Rattle.fs_semantics.specs.Programs.{Program, Id}
use Rattle.effect_sets.specs.Footprints.{Paths, nowhere, sure_after, Footprint, footprint}
use Rattle.sure_folders.specs.Apart.{where_stand}

-- one of the programs may write the path
abbrev pub is_written : List Program → Paths
is_written es q = list_any (λ e. (footprint e).writes q) es

-- another program, which comes before i, leaves a folder at the path; the first of these programs has number n
abbrev pub is_left_before : (ℕ → ℕ → Bool) → ℕ → ℕ → List Program → Paths
is_left_before before i n [] q = false
is_left_before before i n (e ∷ es) q = (not (n == i) && before n i && sure_after e nowhere q) || is_left_before before i (suc n) es q

-- the folder surely stands when program i runs: another one that comes before it leaves it, and none writes there
abbrev pub surely_stands : List Program → (ℕ → ℕ → Bool) → ℕ → Paths
surely_stands es before i q = is_left_before before i 0 es q && not (is_written es q)

-- the footprint of program i where these folders stand
abbrev pub footprint_at : List Program → (ℕ → ℕ → Bool) → ℕ → Footprint
footprint_at es before i = where_stand (surely_stands es before i) (footprint (slice_index_or es i Id))
