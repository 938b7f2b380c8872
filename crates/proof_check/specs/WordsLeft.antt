-- The words that are left of a proof text, of which a part was read.
use Rattle.std.specs.Prelude.{◌≡◌, ◌==◌, ◌||◌, not, ℕ, Bool, false, if◌then◌else◌, List, [], ◌∷◌, ◌++◌}
use Rattle.std.specs.List.{flat_map}
use Rattle.cnf.specs.ProofText.{Word}
use Rattle.proof_check.specs.ProofWords.{is_blank, words_behind, counted, lines_behind}

-- the text up to its first line feed
abbrev pub first_line : List ℕ → List ℕ
first_line [] = []
first_line (b ∷ text) = if b == 10 then [] else b ∷ first_line text

-- the lines behind the first line feed
abbrev pub other_lines : List ℕ → List (List ℕ)
other_lines [] = []
other_lines (b ∷ text) = if b == 10 then lines_behind [] text else other_lines text

-- the words of a line that count
abbrev pub line_words : List ℕ → List Word
line_words line = counted (words_behind [] line)

-- the words that are left; a line that was begun counts
abbrev pub words_left : Bool → List ℕ → List Word
words_left fresh text = (if fresh then line_words (first_line text) else words_behind [] (first_line text))
    ++ flat_map line_words (other_lines text)

-- what a word is made of
abbrev pub is_inner : ℕ → Bool
is_inner b = not (is_blank b || b == 10)

-- a word that has begun goes on to the next blank, line feed or end
abbrev pub EndsWord : List ℕ → Type 0
EndsWord [] = Unit {0}
EndsWord (b ∷ text) = is_inner b ≡ false
