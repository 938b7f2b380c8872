-- Laws of lines and columns.
use Rattle.std.proofs.Common.{◌≡◌, ◌≢◌, ◌⊎◌, inl, inr, ℕ, zero, suc, ◌+◌, ◌<◌, ◌≤◌, ◌==◌, true, false, cond, List, [], ◌∷◌, ◌++◌, length, take, get_or, refl, sym, ap, subst, ◌∙◌, arith, eqb-true}
use Rattle.std.specs.List.{AllByRecursion}
use Rattle.text_places.specs.Places.{line_feeds, AreLines, IsPlace}
use Rattle.std.proofs.lemmas.List.{append-nil}

-- what was read ahead: whole lines, and what was begun of the next
pub record IsRead (text : List ℕ) (line column : ℕ) : Type 0 where
  pub lines : List ℕ
  pub begun : List ℕ
  pub ahead : text ≡ lines ++ begun
  pub whole : AreLines lines
  pub within : AllByRecursion (λ b. b ≢ 10) begun
  pub line_is : line ≡ 1 + line_feeds text
  pub column_is : column ≡ 1 + length begun

-- two texts joined have the line feeds of both
feeds_append : (a b : List ℕ) → line_feeds (a ++ b) ≡ line_feeds a + line_feeds b
feeds_append [] b = omega arith
feeds_append (x ∷ a) b = let rest = feeds_append a b in omega (arith, rest)

-- three texts may be joined from either end
append_assoc : (a b d : List ℕ) → (a ++ b) ++ d ≡ a ++ (b ++ d)
append_assoc [] b d = refl
append_assoc (x ∷ a) b d = ap (λ o. x ∷ o) (append_assoc a b d)

-- two texts joined are as long as both together
length_append : (a b : List ℕ) → length (a ++ b) ≡ length a + length b
length_append [] b = omega arith
length_append (x ∷ a) b = let rest = length_append a b in omega (arith, rest)

-- a text without a line feed has none with another byte behind it
all_append : (a : List ℕ) (x : ℕ) → AllByRecursion (λ b. b ≢ 10) a → x ≢ 10 → AllByRecursion (λ b. b ≢ 10) (a ++ x ∷ [])
all_append [] x h k = (k, tt)
all_append (b ∷ a) x h k = (h.0, all_append a x h.1 k)

-- a line feed is one
one_feed : (b : ℕ) → b ≡ 10 → line_feeds (b ∷ []) ≡ 1
one_feed b e = ap (λ x. line_feeds (x ∷ [])) e

-- and another byte is none
no_feed : (b : ℕ) → b ≢ 10 → line_feeds (b ∷ []) ≡ 0
no_feed b h = elim (b == 10) as (λ c. (b == 10) ≡ c → cond c 1 0 + 0 ≡ 0) [
  | true ↦ λ e. absurd (h (eqb-true b 10 e))
  | false ↦ λ e. refl
] refl

-- a line feed more
pub feed_read : (text : List ℕ) (b line column : ℕ) → b ≡ 10 → IsRead text line column → IsRead (text ++ b ∷ []) (line + 1) 1
feed_read text b line column e r =
    let more = feeds_append text (b ∷ []) in
    let one = one_feed b e in
    let was = r.line_is in
    record {
      lines = text ++ b ∷ [];
      begun = [];
      ahead = sym (append-nil (text ++ b ∷ []));
      whole = inr (text, ap (λ x. text ++ x ∷ []) e);
      within = tt;
      line_is = omega (arith, more, one, was);
      column_is = refl;
    }

-- another byte more
pub byte_read : (text : List ℕ) (b line column : ℕ) → b ≢ 10 → IsRead text line column → IsRead (text ++ b ∷ []) line (column + 1)
byte_read text b line column h r =
    let more = feeds_append text (b ∷ []) in
    let no = no_feed b h in
    let was = r.line_is in
    let col = r.column_is in
    let long = length_append r.begun (b ∷ []) in
    record {
      lines = r.lines;
      begun = r.begun ++ b ∷ [];
      ahead = ap (λ o. o ++ b ∷ []) r.ahead ∙ append_assoc r.lines r.begun (b ∷ []);
      whole = r.whole;
      within = all_append r.begun b r.within h;
      line_is = omega (arith, more, no, was);
      column_is = omega (arith, col, long);
    }

-- the front with the next byte is one longer
pub next_taken : (text : List ℕ) (i : ℕ) → i < length text → take (i + 1) text ≡ take i text ++ get_or text i 0 ∷ []
next_taken [] i h = absurd (omega (arith, h))
next_taken (b ∷ text) zero h = let one : 0 + 1 ≡ suc 0 = omega arith in ap (λ n. take n (b ∷ text)) one
next_taken (b ∷ text) (suc i) h =
    let one : suc i + 1 ≡ suc (i + 1) = omega arith in
    ap (λ n. take n (b ∷ text)) one ∙ ap (λ o. b ∷ o) (next_taken text i (omega (arith, h)))

-- ---- one place

-- whole lines with something behind them aren't a text without a line feed
ends_feed : (more begun other : List ℕ) → more ++ 10 ∷ begun ≡ other → AllByRecursion (λ b. b ≢ 10) other → ⊥
ends_feed [] begun other e h = let k = subst (AllByRecursion (λ b. b ≢ 10)) (sym e) h in k.0 refl
ends_feed (x ∷ more) begun other e h = let k = subst (AllByRecursion (λ b. b ≢ 10)) (sym e) h in ends_feed more begun (more ++ 10 ∷ begun) refl k.1

-- what was begun is as long, however the bytes are cut
begun_alike : (lines begun other begun_other : List ℕ) → lines ++ begun ≡ other ++ begun_other → AreLines lines → AreLines other
    → AllByRecursion (λ b. b ≢ 10) begun → AllByRecursion (λ b. b ≢ 10) begun_other → length begun ≡ length begun_other
begun_alike [] begun [] begun_other e w v h k = ap length e
begun_alike [] begun (y ∷ other) begun_other e w v h k = elim v [
  | inl none ↦ cc
  | inr m ↦ absurd (ends_feed m.0 begun_other begun (sym (append_assoc m.0 (10 ∷ []) begun_other) ∙ ap (λ o. o ++ begun_other) (sym m.1) ∙ sym e) h)
]
begun_alike (x ∷ lines) begun [] begun_other e w v h k = elim w [
  | inl none ↦ cc
  | inr m ↦ absurd (ends_feed m.0 begun begun_other (sym (append_assoc m.0 (10 ∷ []) begun) ∙ ap (λ o. o ++ begun) (sym m.1) ∙ e) k)
]
begun_alike (x ∷ lines) begun (y ∷ other) begun_other e w v h k =
    let tail : lines ++ begun ≡ other ++ begun_other = cc in
    begun_alike lines begun other begun_other tail (behind x lines w) (behind y other v) h k
  where
    behind : (x : ℕ) (lines : List ℕ) → AreLines (x ∷ lines) → AreLines lines
    behind x lines w = elim w [
      | inl none ↦ cc
      | inr m ↦ cut m.0 m.1
    ]
      where
        cut : (more : List ℕ) → x ∷ lines ≡ more ++ 10 ∷ [] → AreLines lines
        cut [] e = inl cc
        cut (y ∷ more) e = inr (more, cc)

-- a byte stands in one line and column
pub one_place : (text : List ℕ) (at line column other more : ℕ) → IsPlace text at line column → IsPlace text at other more → (line ≡ other) × (column ≡ more)
one_place text at line column other more p q =
    let long = begun_alike p.lines p.begun q.lines q.begun (sym p.ahead ∙ q.ahead) p.whole q.whole p.within q.within in
    (p.line_is ∙ sym q.line_is, p.column_is ∙ ap (λ n. 1 + n) long ∙ sym q.column_is)

-- ---- places apart

-- a front is as long as it is counted
length_take : (text : List ℕ) (a : ℕ) → a ≤ length text → length (take a text) ≡ a
length_take text zero h = refl
length_take [] (suc a) h = absurd (omega (arith, h))
length_take (b ∷ text) (suc a) h = let rest = length_take text a (omega (arith, h)) in omega (arith, rest)

-- a longer front begins with the shorter
longer_front : (text : List ℕ) (a b : ℕ) → a ≤ b → b ≤ length text → (rest : List ℕ) × (take b text ≡ take a text ++ rest) × (a + length rest ≡ b)
longer_front text zero b h k = (take b text, refl, (let long = length_take text b k in omega (arith, long)))
longer_front [] (suc a) b h k = absurd (omega (arith, h, k))
longer_front (x ∷ text) (suc a) zero h k = absurd (omega (arith, h))
longer_front (x ∷ text) (suc a) (suc b) h k =
    let r = longer_front text a b (omega (arith, h)) (omega (arith, k)) in
    (r.0, ap (λ o. x ∷ o) r.1, (let e = r.2 in omega (arith, e)))

-- bytes without a line feed
no_feeds : (rest : List ℕ) → line_feeds rest ≡ 0 → AllByRecursion (λ b. b ≢ 10) rest
no_feeds [] h = tt
no_feeds (b ∷ rest) h = (
  (λ e. let one = one_feed b e in absurd (omega (arith, h, one))),
  no_feeds rest (omega (arith, h)),
)

-- two texts without a line feed have none together
all_joined : (a b : List ℕ) → AllByRecursion (λ x. x ≢ 10) a → AllByRecursion (λ x. x ≢ 10) b → AllByRecursion (λ x. x ≢ 10) (a ++ b)
all_joined [] b h k = k
all_joined (x ∷ a) b h k = (h.0, all_joined a b h.1 k)

-- a byte further behind doesn't stand in the same line and column
not_later : (text : List ℕ) (a b line column : ℕ) → a ≤ b → b ≤ length text → IsPlace text a line column → IsPlace text b line column → a ≡ b
not_later text a b line column h k p q =
    let r = longer_front text a b h k in
    let sum = feeds_append (take a text) r.0 in
    let longer = ap line_feeds r.1 in
    let one = p.line_is in
    let two = q.line_is in
    let none : line_feeds r.0 ≡ 0 = omega (arith, sum, longer, one, two) in
    let long = begun_alike p.lines (p.begun ++ r.0) q.lines q.begun (sym (append_assoc p.lines p.begun r.0) ∙ ap (λ o. o ++ r.0) (sym p.ahead) ∙ sym r.1 ∙ q.ahead) p.whole q.whole (all_joined p.begun r.0 p.within (no_feeds r.0 none)) q.within in
    let more = length_append p.begun r.0 in
    let left = p.column_is in
    let right = q.column_is in
    let e = r.2 in
    omega (arith, long, more, left, right, e)

-- bytes in the same line and column are one
pub apart : (text : List ℕ) (a b line column : ℕ) → a ≤ length text → b ≤ length text → IsPlace text a line column → IsPlace text b line column → a ≡ b
apart text a b line column h k p q = elim (either a b) [
  | inl l ↦ not_later text a b line column l k p q
  | inr l ↦ sym (not_later text b a line column l h q p)
]
  where
    either : (x y : ℕ) → (x ≤ y) ⊎ (y ≤ x)
    either zero y = inl (omega arith)
    either (suc x) zero = inr (omega arith)
    either (suc x) (suc y) = elim (either x y) [ inl l ↦ inl (omega (arith, l)) | inr l ↦ inr (omega (arith, l)) ]

-- ---- the loop

-- with a line feed read, the next line is begun
pub feed_step : (text : List ℕ) (i line column next now : ℕ) → i < length text → IsRead (take i text) line column → get_or text i 0 ≡ 10 → next ≡ line + 1 → now ≡ 1 → IsRead (take (i + 1) text) next now
feed_step text i line column next now h r e a b =
    subst (λ n. IsRead (take (i + 1) text) n now) (sym a)
    (subst (λ m. IsRead (take (i + 1) text) (line + 1) m) (sym b)
    (subst (λ xs. IsRead xs (line + 1) 1) (sym (next_taken text i h)) (feed_read (take i text) (get_or text i 0) line column e r)))

-- and with another byte, the column is one more
pub byte_step : (text : List ℕ) (i line column next now : ℕ) → i < length text → IsRead (take i text) line column → get_or text i 0 ≢ 10 → next ≡ line → now ≡ column + 1 → IsRead (take (i + 1) text) next now
byte_step text i line column next now h r e a b =
    subst (λ n. IsRead (take (i + 1) text) n now) (sym a)
    (subst (λ m. IsRead (take (i + 1) text) line m) (sym b)
    (subst (λ xs. IsRead xs line (column + 1)) (sym (next_taken text i h)) (byte_read (take i text) (get_or text i 0) line column e r)))
