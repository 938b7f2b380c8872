-- The text of a repair.
use Rattle.std.specs.Prelude.{ℕ, ◌==◌, ◌||◌, if◌then◌else◌, List, [], ◌∷◌, ◌++◌, length, chars, encode_utf8_all, codes}
use Rattle.std.specs.List.{flat_map}
use Rattle.std.specs.Fmt.{decimal}
use Rattle.pp_value.specs.declared.value.Ref.{Ref}
use Rattle.pp_value.specs.Shown.{shown_ref}
use Rattle.verdict_text.specs.Lines.{name_at}
use Rattle.verdict_report.specs.Lines.{count_lines}

-- ---- references as they are written in Puppet

-- a quote and a backslash stand behind a backslash
abbrev pub escaped_char : ℕ → List ℕ
escaped_char c = if (c == 39) || (c == 92) then 92 ∷ c ∷ [] else c ∷ []

abbrev pub escaped : List ℕ → List ℕ
escaped title = encode_utf8_all (flat_map escaped_char (chars title))

-- a title in single quotes
abbrev pub quoted : List ℕ → List ℕ
quoted title = codes "'" ++ (escaped title ++ codes "'")

-- a reference, as `File['/a']`
abbrev pub quoted_ref : Ref → List ℕ
quoted_ref r = shown_ref (record { kind = r.kind; title = quoted r.title })

-- ---- lines

-- an arrow between two resources, which have these names
abbrev pub arrow_line : List (List ℕ) → ℕ × ℕ → List ℕ
arrow_line names arrow = name_at names arrow.0 ++ (codes " -> " ++ (name_at names arrow.1 ++ codes "\n"))

abbrev pub arrow_lines : List (List ℕ) → List (ℕ × ℕ) → List ℕ
arrow_lines names arrows = flat_map (arrow_line names) arrows

-- n resources, with notes, to which these arrows are added
abbrev pub repaired_text : List (List ℕ) → ℕ → List ℕ → List (ℕ × ℕ) → List ℕ
repaired_text names n notes arrows =
    count_lines n notes ++ (codes "edges " ++ (decimal (length arrows) ++ (codes "\n" ++ (arrow_lines names arrows ++ codes "deterministic\n"))))

-- the conflicts were spent on whether n resources are deterministic
abbrev pub unrepaired_text : ℕ → List ℕ → ℕ → List ℕ
unrepaired_text n notes budget = count_lines n notes ++ (codes "spent deterministic " ++ (decimal budget ++ codes "\n"))
