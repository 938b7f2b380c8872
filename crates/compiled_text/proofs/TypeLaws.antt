-- What is read as a type is one, both ways.
use Rattle.std.proofs.Common.{◌≡◌, ◌≢◌, ℕ, ◌==◌, Bool, true, false, true≢false, cond, List, [], ◌∷◌, ◌++◌, Option, Some, None, refl, sym, ap, ◌∙◌, eqb-true}
use Rattle.std.specs.Prelude.{IsTrue}
use Rattle.std.specs.Char.{is_ascii_alphabetic}
use Rattle.std.specs.List.{AllByRecursion}
use Rattle.compiled_text.specs.declared.names.Spot.{Spot}
use Rattle.compiled_text.specs.declared.names.Spot.TheVariants.{Beginning, Within, BetweenColons}
use Rattle.compiled_text.specs.Names.{is_word_byte, IsTypeSegment, behind_colons, IsType}
use Rattle.compiled_text.specs.Reading.{spot_behind, at_spot, goes_on, is_type}

-- ---- what goes on is the rest of a type

-- each byte may stand in a segment
abbrev AreWordBytes : List ℕ → Type 0
AreWordBytes text = AllByRecursion (λ d. IsTrue (is_word_byte d)) text

-- the rest of a segment, and then other segments
record IsRest (text : List ℕ) : Type 0 where
  front : List ℕ
  others : List (List ℕ)
  words : AreWordBytes front
  are_segments : AllByRecursion IsTypeSegment others
  joined : text ≡ front ++ behind_colons others

-- what stands behind the first of two colons
abbrev BehindColon : List ℕ → Type 0
BehindColon text = (rest : List ℕ) × (text ≡ 58 ∷ rest) × IsType rest

-- what stands at each spot
abbrev StandsAt : Spot → List ℕ → Type 0
StandsAt Beginning text = IsType text
StandsAt Within text = IsRest text
StandsAt BetweenColons text = BehindColon text

-- what goes on from each spot to the end of a type stands there
abbrev Follows : List ℕ → Type 0
Follows text = (s : Spot) → goes_on text s ≡ true → StandsAt s text

-- one more byte of a segment
one_word : (c : ℕ) (text : List ℕ) → is_word_byte c ≡ true → IsRest text → IsRest (c ∷ text)
one_word c text h r = record { front = c ∷ r.front; others = r.others; words = (h, r.words); are_segments = r.are_segments; joined = ap (λ l. c ∷ l) r.joined }

-- a letter and the rest of a segment begin a type
one_letter : (c : ℕ) (text : List ℕ) → is_ascii_alphabetic c ≡ true → IsRest text → IsType (c ∷ text)
one_letter c text h r = record { first = c ∷ r.front; others = r.others; are_segments = ((h, r.words), r.are_segments); joined = ap (λ l. c ∷ l) r.joined }

-- a colon and what stands behind the first of two are the rest of a segment
one_colon : (c : ℕ) (text : List ℕ) → c ≡ 58 → BehindColon text → IsRest (c ∷ text)
one_colon c text e b =
    let t = b.2 in record {
      front = [];
      others = t.first ∷ t.others;
      words = tt;
      are_segments = t.are_segments;
      joined = ap (λ d. d ∷ text) e ∙ ap (λ l. 58 ∷ l) (b.1 ∙ ap (λ l. 58 ∷ l) t.joined);
    }

-- at the beginning stands a type
from_beginning : (c : ℕ) (text : List ℕ) (t : Bool) → is_ascii_alphabetic c ≡ t → Follows text → at_spot (goes_on text) (cond t (Some Within) None) ≡ true → IsType (c ∷ text)
from_beginning c text true e later h = one_letter c text e (later Within h)
from_beginning c text false e later h = absurd (true≢false (sym h))

-- a colon goes on to another segment
from_colon : (c : ℕ) (text : List ℕ) (t : Bool) → (c == 58) ≡ t → Follows text → at_spot (goes_on text) (cond t (Some BetweenColons) None) ≡ true → IsRest (c ∷ text)
from_colon c text true e later h = one_colon c text (eqb-true c 58 e) (later BetweenColons h)
from_colon c text false e later h = absurd (true≢false (sym h))

-- within a segment stands its rest
from_within : (c : ℕ) (text : List ℕ) (t : Bool) → is_word_byte c ≡ t → Follows text
    → at_spot (goes_on text) (cond t (Some Within) (cond (c == 58) (Some BetweenColons) None)) ≡ true → IsRest (c ∷ text)
from_within c text true e later h = one_word c text e (later Within h)
from_within c text false e later h = from_colon c text (c == 58) refl later h

-- between two colons stands the second, and a type
from_between : (c : ℕ) (text : List ℕ) (t : Bool) → (c == 58) ≡ t → Follows text → at_spot (goes_on text) (cond t (Some Beginning) None) ≡ true → BehindColon (c ∷ text)
from_between c text true e later h = (text, ap (λ d. d ∷ text) (eqb-true c 58 e), later Beginning h)
from_between c text false e later h = absurd (true≢false (sym h))

-- so it is at each spot, where it is with one byte less
next_byte : (c : ℕ) (text : List ℕ) (s : Spot) → Follows text → goes_on (c ∷ text) s ≡ true → StandsAt s (c ∷ text)
next_byte c text Beginning later h = from_beginning c text (is_ascii_alphabetic c) refl later h
next_byte c text Within later h = from_within c text (is_word_byte c) refl later h
next_byte c text BetweenColons later h = from_between c text (c == 58) refl later h

-- so it is of each text
stands_at : (text : List ℕ) (s : Spot) → goes_on text s ≡ true → StandsAt s text
stands_at [] Beginning h = absurd (true≢false (sym h))
stands_at [] Within h = record { front = []; others = []; words = tt; are_segments = tt; joined = refl }
stands_at [] BetweenColons h = absurd (true≢false (sym h))
stands_at (c ∷ text) s h = next_byte c text s (stands_at text) h

-- ---- a type goes on

-- bytes of a segment go on to what goes on behind them
words_go_on : (front rest : List ℕ) → AreWordBytes front → goes_on rest Within ≡ true → goes_on (front ++ rest) Within ≡ true
words_go_on [] rest h k = k
words_go_on (c ∷ front) rest h k =
    ap (λ t. at_spot (goes_on (front ++ rest)) (cond t (Some Within) (cond (c == 58) (Some BetweenColons) None))) h.0 ∙ words_go_on front rest h.1 k

-- so does a segment
segment_goes_on : (s rest : List ℕ) → IsTypeSegment s → goes_on rest Within ≡ true → goes_on (s ++ rest) Beginning ≡ true
segment_goes_on [] rest h k = absurd h
segment_goes_on (c ∷ s) rest h k =
    ap (λ t. at_spot (goes_on (s ++ rest)) (cond t (Some Within) None)) h.0 ∙ words_go_on s rest h.1 k

-- segments behind `::` go on to the end of a type
segments_go_on : (segments : List (List ℕ)) → AllByRecursion IsTypeSegment segments → goes_on (behind_colons segments) Within ≡ true
segments_go_on [] h = refl
segments_go_on (s ∷ segments) h = segment_goes_on s (behind_colons segments) h.0 (segments_go_on segments h.1)

-- a text is told to be a type exactly where it is
pub type_where : (text : List ℕ) → (is_type text ≡ true → IsType text) × (IsType text → is_type text ≡ true)
type_where text = (
  stands_at text Beginning,
  (λ t. ap is_type t.joined ∙ segment_goes_on t.first (behind_colons t.others) t.are_segments.0 (segments_go_on t.others t.are_segments.1)),
)

-- ---- no bracket stands in a type

-- what goes on to the end of a type has no `[`
no_bracket_behind : (text : List ℕ) (s : Spot) → goes_on text s ≡ true → AllByRecursion (λ c. c ≢ 91) text
no_bracket_behind [] s h = tt
no_bracket_behind (c ∷ text) s h = (
  (λ e. true≢false (sym (ap (λ d. at_spot (goes_on text) (spot_behind s d)) (sym e) ∙ h) ∙ at_bracket s)),
  rest (spot_behind s c) (no_bracket_behind text) h,
)
  where
    at_bracket : (s : Spot) → at_spot (goes_on text) (spot_behind s 91) ≡ false
    at_bracket Beginning = refl
    at_bracket Within = refl
    at_bracket BetweenColons = refl

    rest : (o : Option Spot) → ((s : Spot) → goes_on text s ≡ true → AllByRecursion (λ c. c ≢ 91) text) → at_spot (goes_on text) o ≡ true → AllByRecursion (λ c. c ≢ 91) text
    rest None later k = absurd (true≢false (sym k))
    rest (Some t) later k = later t k

-- a type has no `[`
pub no_bracket : (text : List ℕ) → is_type text ≡ true → AllByRecursion (λ c. c ≢ 91) text
no_bracket text h = no_bracket_behind text Beginning h
