-- Laws of the words of a proof text, byte by byte.
use Rattle.std.proofs.Common.{◌≡◌, ◌≢◌, inl, inr, ℕ, ◌<◌, Bool, true, false, true≢false, not, ◌||◌, eqb, List, [], ◌∷◌, ◌++◌, length, refl, sym, ap, ◌∙◌, subst, arith, if◌then◌else◌}
use Rattle.std.specs.List.{flat_map, AllByRecursion}
use Rattle.std.proofs.lemmas.List.{append-nil, append_assoc}
use Rattle.std.proofs.lemmas.Bool.{cases_Bool, ne_eqb, eq-eqb}
use Rattle.cnf.specs.ProofText.{Word}
use Rattle.proof_check.specs.ProofWords.{is_blank, words_behind, counted, lines_behind, words_of}
use Rattle.proof_check.specs.WordsLeft.{first_line, other_lines, line_words, words_left, is_inner, EndsWord}

-- the lines of a text are its first one, with what had begun in front, and the others
pub lines_behind-is : (line text : List ℕ) → lines_behind line text ≡ (line ++ first_line text) ∷ other_lines text
lines_behind-is line [] = ap (λ l. l ∷ []) (sym (append-nil line))
lines_behind-is line (b ∷ text) = elim (cases_Bool (eqb b 10)) [
  | inl e ↦
      ap (λ t. if t then line ∷ lines_behind [] text else lines_behind (line ++ b ∷ []) text) e
      ∙ sym (ap (λ t. (line ++ (if t then [] else b ∷ first_line text)) ∷ (if t then lines_behind [] text else other_lines text)) e ∙ ap (λ l. l ∷ lines_behind [] text) (append-nil line))
  | inr e ↦
      ap (λ t. if t then line ∷ lines_behind [] text else lines_behind (line ++ b ∷ []) text) e
      ∙ lines_behind-is (line ++ b ∷ []) text
      ∙ ap (λ l. l ∷ other_lines text) (append_assoc line (b ∷ []) (first_line text))
      ∙ sym (ap (λ t. (line ++ (if t then [] else b ∷ first_line text)) ∷ (if t then lines_behind [] text else other_lines text)) e)
]

-- all words of a text are left before it is read
pub words_left-all : (text : List ℕ) → words_left true text ≡ words_of text
words_left-all text = sym (ap (flat_map line_words) (lines_behind-is [] text))

-- a line feed begins a new line
pub words_left-feed : (fresh : Bool) (b : ℕ) (text : List ℕ) → eqb b 10 ≡ true → words_left fresh (b ∷ text) ≡ words_left true text
words_left-feed fresh b text e =
    ap (λ t. (if fresh then line_words (if t then [] else b ∷ first_line text) else words_behind [] (if t then [] else b ∷ first_line text)) ++ flat_map line_words (if t then lines_behind [] text else other_lines text)) e
    ∙ ap (λ ws. ws ++ flat_map line_words (lines_behind [] text)) (none fresh)
    ∙ words_of-left text
  where
    none : (f : Bool) → (if f then line_words [] else words_behind [] []) ≡ []
    none true = refl
    none false = refl

    words_of-left : (text : List ℕ) → flat_map line_words (lines_behind [] text) ≡ words_left true text
    words_of-left text = ap (flat_map line_words) (lines_behind-is [] text)

-- a blank is passed
pub words_left-blank : (fresh : Bool) (b : ℕ) (text : List ℕ) → eqb b 10 ≡ false → is_blank b ≡ true → words_left fresh (b ∷ text) ≡ words_left fresh text
words_left-blank fresh b text e k =
    ap (λ t. (if fresh then line_words (if t then [] else b ∷ first_line text) else words_behind [] (if t then [] else b ∷ first_line text)) ++ flat_map line_words (if t then lines_behind [] text else other_lines text)) e
    ∙ ap (λ t. (if fresh then counted (if t then words_behind [] (first_line text) else words_behind (b ∷ []) (first_line text)) else (if t then words_behind [] (first_line text) else words_behind (b ∷ []) (first_line text))) ++ flat_map line_words (other_lines text)) k

-- a byte that is inside a word is neither a blank nor a line feed
inner_parts : (x y : Bool) → not (x || y) ≡ true → (x ≡ false) × (y ≡ false)
inner_parts true y h = absurd (true≢false (sym h))
inner_parts false true h = absurd (true≢false (sym h))
inner_parts false false h = (refl, refl)

-- a word in front is in front of the first line, too
pub first_line-word : (word text : List ℕ) → AllByRecursion (λ b. is_inner b ≡ true) word → first_line (word ++ text) ≡ word ++ first_line text
first_line-word [] text h = refl
first_line-word (b ∷ word) text h =
    ap (λ t. if t then [] else b ∷ first_line (word ++ text)) (inner_parts (is_blank b) (eqb b 10) h.0).1 ∙ ap (λ l. b ∷ l) (first_line-word word text h.1)

-- a word in front doesn't change the other lines
pub other_lines-word : (word text : List ℕ) → AllByRecursion (λ b. is_inner b ≡ true) word → other_lines (word ++ text) ≡ other_lines text
other_lines-word [] text h = refl
other_lines-word (b ∷ word) text h =
    ap (λ t. if t then lines_behind [] (word ++ text) else other_lines (word ++ text)) (inner_parts (is_blank b) (eqb b 10) h.0).1 ∙ other_lines-word word text h.1

-- a line that begins where a word ended begins with a blank
abbrev BeginsBlank : List ℕ → Type 0
BeginsBlank [] = Unit {0}
BeginsBlank (b ∷ line) = is_blank b ≡ true

-- where a word ends, the rest of its line begins with a blank or is empty
begins_blank : (text : List ℕ) → EndsWord text → BeginsBlank (first_line text)
begins_blank [] h = tt
begins_blank (b ∷ text) h = by (eqb b 10) (is_blank b) refl refl h
  where
    by : (t k : Bool) → eqb b 10 ≡ t → is_blank b ≡ k → not (k || t) ≡ false → BeginsBlank (if eqb b 10 then [] else b ∷ first_line text)
    by true k e f h = subst (λ t. BeginsBlank (if t then [] else b ∷ first_line text)) (sym e) tt
    by false true e f h = subst (λ t. BeginsBlank (if t then [] else b ∷ first_line text)) (sym e) f
    by false false e f h = absurd (true≢false h)

-- a word that has begun goes on to the next blank
words_behind-word : (w : ℕ) (acc xs line : List ℕ) → AllByRecursion (λ b. is_inner b ≡ true) xs → BeginsBlank line → words_behind (w ∷ acc) (xs ++ line) ≡ (w ∷ (acc ++ xs)) ∷ words_behind [] line
words_behind-word w acc [] [] h k = ap (λ l. (w ∷ l) ∷ []) (sym (append-nil acc))
words_behind-word w acc [] (b ∷ line) h k =
    ap (λ t. if t then (w ∷ acc) ∷ words_behind [] line else words_behind (w ∷ (acc ++ b ∷ [])) line) k
    ∙ ap (λ l. (w ∷ l) ∷ words_behind [] line) (sym (append-nil acc))
    ∙ ap (λ ws. (w ∷ (acc ++ [])) ∷ ws) (sym (ap (λ t. if t then words_behind [] line else words_behind (b ∷ []) line) k))
words_behind-word w acc (x ∷ xs) line h k =
    ap (λ t. if t then (w ∷ acc) ∷ words_behind [] (xs ++ line) else words_behind (w ∷ (acc ++ x ∷ [])) (xs ++ line)) (inner_parts (is_blank x) (eqb x 10) h.0).0
    ∙ words_behind-word w (acc ++ x ∷ []) xs line h.1 k
    ∙ ap (λ l. (w ∷ l) ∷ words_behind [] line) (append_assoc acc (x ∷ []) xs)

-- the words of a line that begins with a word
pub words_behind-first : (w : ℕ) (xs text : List ℕ) → AllByRecursion (λ b. is_inner b ≡ true) (w ∷ xs) → EndsWord text
    → words_behind [] (first_line ((w ∷ xs) ++ text)) ≡ (w ∷ xs) ∷ words_behind [] (first_line text)
words_behind-first w xs text h k =
    ap (words_behind []) (first_line-word (w ∷ xs) text h)
    ∙ ap (λ t. if t then words_behind [] (xs ++ first_line text) else words_behind (w ∷ []) (xs ++ first_line text)) (inner_parts (is_blank w) (eqb w 10) h.0).0
    ∙ words_behind-word w [] xs (first_line text) h.1 (begins_blank text k)

-- a word that counts is read
pub words_left-word : (fresh : Bool) (w : ℕ) (xs text : List ℕ) → AllByRecursion (λ b. is_inner b ≡ true) (w ∷ xs) → EndsWord text → (fresh ≡ true → (w ∷ xs) ≢ 99 ∷ [])
    → words_left fresh ((w ∷ xs) ++ text) ≡ (w ∷ xs) ∷ words_left false text
words_left-word fresh w xs text h k other =
    ap (λ ls. (if fresh then line_words (first_line ((w ∷ xs) ++ text)) else words_behind [] (first_line ((w ∷ xs) ++ text))) ++ flat_map line_words ls) (other_lines-word (w ∷ xs) text h)
    ∙ ap (λ ws. (if fresh then counted ws else ws) ++ flat_map line_words (other_lines text)) (words_behind-first w xs text h k)
    ∙ ap (λ ws. ws ++ flat_map line_words (other_lines text)) (by fresh other)
  where
    rest : List Word
    rest = words_behind [] (first_line text)

    one : (b : ℕ) → (b ∷ [] ≢ 99 ∷ []) → (if eqb b 99 then [] else (b ∷ []) ∷ rest) ≡ (b ∷ []) ∷ rest
    one b n = ap (λ t. if t then [] else (b ∷ []) ∷ rest) (ne_eqb b 99 (λ e. n (ap (λ x. x ∷ []) e)))

    counts : (xs : List ℕ) → (w ∷ xs ≢ 99 ∷ []) → counted ((w ∷ xs) ∷ rest) ≡ (w ∷ xs) ∷ rest
    counts [] n = one w n
    counts (x ∷ xs) n = refl

    by : (f : Bool) → (f ≡ true → (w ∷ xs) ≢ 99 ∷ []) → (if f then counted ((w ∷ xs) ∷ rest) else (w ∷ xs) ∷ rest) ≡ (w ∷ xs) ∷ rest
    by true n = counts xs (n refl)
    by false n = refl

-- a line whose first word is `c` is passed
pub words_left-comment : (text : List ℕ) → EndsWord text → words_left true (99 ∷ text) ≡ flat_map line_words (other_lines text)
words_left-comment text k =
    ap (λ ws. counted ws ++ flat_map line_words (other_lines text)) (words_behind-first 99 [] text (refl, tt) k)

-- the same, of a text that was taken apart
pub past_feed : (b : ℕ) (tail rest text : List ℕ) → rest ≡ b ∷ tail → b ≡ 10 → other_lines rest ≡ other_lines text → words_left true tail ≡ flat_map line_words (other_lines text)
past_feed b tail rest text e f g =
    words_left-all tail
    ∙ ap (flat_map line_words) (sym (ap (λ t. if t then lines_behind [] tail else other_lines tail) (eq-eqb b 10 f)) ∙ ap other_lines (sym e) ∙ g)

-- behind a line feed the words of the other lines are left
pub left_feed : (fresh : Bool) (b : ℕ) (tail rest : List ℕ) → rest ≡ b ∷ tail → b ≡ 10 → words_left fresh rest ≡ words_left true tail
left_feed fresh b tail rest e f = ap (words_left fresh) e ∙ words_left-feed fresh b tail (eq-eqb b 10 f)

-- a byte that is neither inside a word nor a line feed is a blank
blank_from : (k t : Bool) → not (k || t) ≡ false → t ≡ false → k ≡ true
blank_from true t h g = refl
blank_from false true h g = absurd (true≢false g)
blank_from false false h g = absurd (true≢false h)

-- a blank changes no words that are left
pub left_blank : (fresh : Bool) (b : ℕ) (tail rest : List ℕ) → rest ≡ b ∷ tail → (b ≡ 10 → ⊥) → is_inner b ≡ false → words_left fresh rest ≡ words_left fresh tail
left_blank fresh b tail rest e f g = ap (words_left fresh) e ∙ words_left-blank fresh b tail (ne_eqb b 10 f) (blank_from (is_blank b) (eqb b 10) g (ne_eqb b 10 f))

-- behind the word `c` at the beginning of a line the words of the other lines are left
pub left_comment : (rest word behind : List ℕ) → rest ≡ word ++ behind → word ≡ 99 ∷ [] → EndsWord behind → words_left true rest ≡ flat_map line_words (other_lines behind)
left_comment rest word behind e f k = ap (words_left true) (e ∙ ap (λ w. w ++ behind) f) ∙ words_left-comment behind k

-- the next word is the first of those that are left, but for a `c` at the beginning of a line
pub left_word : (fresh : Bool) (rest word behind : List ℕ) → rest ≡ word ++ behind → 0 < length word → AllByRecursion (λ b. is_inner b ≡ true) word → EndsWord behind → (fresh ≡ true → word ≢ 99 ∷ [])
    → words_left fresh rest ≡ word ∷ words_left false behind
left_word fresh rest [] behind e n h k f = absurd (omega arith)
left_word fresh rest (w ∷ word) behind e n h k f = ap (words_left fresh) e ∙ words_left-word fresh w word behind h k f

-- at the end no word is left
pub left_none : (fresh : Bool) (rest : List ℕ) → rest ≡ [] → words_left fresh rest ≡ []
left_none true rest e = ap (words_left true) e
left_none false rest e = ap (words_left false) e
