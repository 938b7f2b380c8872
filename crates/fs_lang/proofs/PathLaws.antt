-- The text of a path, and its reading.
use Rattle.std.proofs.Common.{◌≡◌, ◌≢◌, ℕ, Bool, true, false, cond, not, ◌&&◌, ◌||◌, ◌==◌, nat_le, List, [], ◌∷◌, ◌++◌, length, Option, Some, None, refl, sym, ap, subst, ◌∙◌, eqb-true, eq-eqb}
use Rattle.std.proofs.lemmas.Bool.{eqb-false, ne_eqb, le-leb, and_parts}
use Rattle.std.proofs.Math.Dec.{eqb-suc-zero}
use Rattle.std.proofs.lemmas.Slice.Eq.{bytes_eq-Decides}
use Rattle.std.specs.Prelude.{codes, ◌↔◌, IsTrue}
use Rattle.std.specs.List.{AllByRecursion, list_any}
use Rattle.std.specs.Str.{bytes_eq}
use Rattle.fs_semantics.specs.FileTree.{Path, IsBytes, IsSegment}
use Rattle.std.proofs.Common.{inl, inr, ◌⊎◌, zero, suc, ◌≤◌, ◌<◌, arith, leb-true}
use Rattle.std.proofs.lemmas.List.{append-nil}
use Rattle.rh_base.specs.declared.limits.TheConstants.{PATH_BYTES, PATH_SEGMENTS}
use Rattle.fs_lang.specs.PathText.{AreSlashes, Segments, IsPathText}
use Rattle.fs_lang.proofs.Pieces.{pieces_last, pieces_first}
use Rattle.fs_lang.specs.Reading.{HasNoSlash, with_byte, pieces, is_good, is_segment, piece_of, joined, segments_of, begins_with_slash, within, path_in}
use Rattle.fs_semantics.proofs.ConstructLaws.{not_false}

-- the byte isn't in the text
abbrev HasNone : ℕ → List ℕ → Type 0
HasNone c p = AllByRecursion (λ b. b ≢ c) p

-- pieces without a slash stay so when a byte other than a slash comes to the first
with_byte_clean : (b : ℕ) (ps : List (List ℕ)) → b ≢ 47 → AllByRecursion (HasNone 47) ps → AllByRecursion (HasNone 47) (with_byte b ps)
with_byte_clean b [] n all = ((n, tt), tt)
with_byte_clean b (p ∷ ps) n all = ((n, all.0), all.1)

-- no piece has a slash
pieces_clean : (text : List ℕ) → AllByRecursion (HasNone 47) (pieces text)
pieces_clean [] = (tt, tt)
pieces_clean (b ∷ text) = elim (b == 47) as (λ v. (b == 47) ≡ v → AllByRecursion (HasNone 47) (cond v ([] ∷ pieces text) (with_byte b (pieces text)))) [
  | true ↦ λ e. (tt, pieces_clean text)
  | false ↦ λ e. with_byte_clean b (pieces text) (eqb-false b 47 e) (pieces_clean text)
] refl

-- pieces of bytes stay so when a byte comes to the first
with_byte_bytes : (b : ℕ) (ps : List (List ℕ)) → b < 256 → AllByRecursion IsBytes ps → AllByRecursion IsBytes (with_byte b ps)
with_byte_bytes b [] n all = ((n, tt), tt)
with_byte_bytes b (p ∷ ps) n all = ((n, all.0), all.1)

-- the pieces of a text of bytes are of bytes
pieces_bytes : (text : List ℕ) → IsBytes text → AllByRecursion IsBytes (pieces text)
pieces_bytes [] h = (tt, tt)
pieces_bytes (b ∷ text) h = elim (b == 47) as (λ v. AllByRecursion IsBytes (cond v ([] ∷ pieces text) (with_byte b (pieces text)))) [
  | true ↦ (tt, pieces_bytes text h.1)
  | false ↦ with_byte_bytes b (pieces text) h.0 (pieces_bytes text h.1)
]

-- where a disjunction is false both sides are
neither : (a b : Bool) → not (a || b) ≡ true → (a ≡ true → ⊥) × (not b ≡ true)
neither true b h = cc
neither false b h = ((λ k. cc), h)

-- a text that is told to have no zero has none
pub no_zero : (p : List ℕ) → not (list_any (λ b. b == 0) p) ≡ true → HasNone 0 p
no_zero [] h = tt
no_zero (b ∷ p) h = let two = neither (b == 0) (list_any (λ b. b == 0) p) h in ((λ e. two.0 (eq-eqb b 0 e)), no_zero p two.1)

-- a good piece of bytes without a slash is a segment
good_segment : (b : ℕ) (p : List ℕ) → IsBytes (b ∷ p) → HasNone 47 (b ∷ p) → is_good (b ∷ p) ≡ true → IsSegment (b ∷ p)
good_segment b p bytes clean h =
    let rest = and_parts (not (bytes_eq (b ∷ p) (codes ".")) && not (bytes_eq (b ∷ p) (codes ".."))) (not (list_any (λ b. b == 0) (b ∷ p))) h in
    let dots = and_parts (not (bytes_eq (b ∷ p) (codes "."))) (not (bytes_eq (b ∷ p) (codes ".."))) rest.0 in
    record {
      bytes = bytes;
      nonempty = λ e. cc;
      no_slash = clean;
      no_zero = no_zero (b ∷ p) rest.1;
      not_dot = λ e. not_false _ dots.0 ((bytes_eq-Decides (b ∷ p) (codes ".")).1 e);
      not_dots = λ e. not_false _ dots.1 ((bytes_eq-Decides (b ∷ p) (codes "..")).1 e);
    }

-- a piece that isn't empty adds itself exactly where it is good
piece_is : (b : ℕ) (p : List ℕ) → piece_of (b ∷ p) ≡ cond (is_good (b ∷ p)) (Some ((b ∷ p) ∷ [])) None
piece_is b p = ap (λ v. cond v (Some []) (cond (is_good (b ∷ p)) (Some ((b ∷ p) ∷ [])) None)) (eqb-suc-zero (length p))

-- what a piece adds is made of segments
piece_segments : (p : List ℕ) (k : Path) → IsBytes p → HasNone 47 p → piece_of p ≡ Some k → AllByRecursion IsSegment k
piece_segments [] k bytes clean h = let same : ◌≡◌ {A = Path} [] k = cc in subst (λ q. AllByRecursion IsSegment q) same tt
piece_segments (b ∷ p) k bytes clean h = elim (is_good (b ∷ p)) as (λ v. is_good (b ∷ p) ≡ v → cond v (Some ((b ∷ p) ∷ [])) None ≡ Some k → AllByRecursion IsSegment k) [
  | true ↦ λ e m. let same : ◌≡◌ {A = Path} ((b ∷ p) ∷ []) k = cc in subst (λ q. AllByRecursion IsSegment q) same (good_segment b p bytes clean e, tt)
  | false ↦ λ e m. cc
] refl (sym (piece_is b p) ∙ h)

-- what holds of all segments of two paths holds of all of both joined
all_append : (P : List ℕ → Type 0) (p q : Path) → AllByRecursion P p → AllByRecursion P q → AllByRecursion P (p ++ q)
all_append P [] q a b = b
all_append P (s ∷ p) q a b = (a.0, all_append P p q a.1 b)

-- what is joined is one path behind the other
pub joined_some : (a b : Option Path) (p : Path) → joined a b ≡ Some p → (q : Path) × (r : Path) × (a ≡ Some q) × (b ≡ Some r) × (q ++ r ≡ p)
joined_some None b p h = cc
joined_some (Some q) None p h = cc
joined_some (Some q) (Some r) p h = (q, r, refl, refl, cc)

-- what pieces add is made of segments
segments_proper : (ps : List (List ℕ)) (p : Path) → AllByRecursion IsBytes ps → AllByRecursion (HasNone 47) ps → segments_of ps ≡ Some p → AllByRecursion IsSegment p
segments_proper [] p bytes clean h = let same : ◌≡◌ {A = Path} [] p = cc in subst (λ q. AllByRecursion IsSegment q) same tt
segments_proper (q ∷ ps) p bytes clean h =
    let two = joined_some (piece_of q) (segments_of ps) p h in
    subst (λ r. AllByRecursion IsSegment r) two.4 (all_append IsSegment two.0 two.1 (piece_segments q two.0 bytes.0 clean.0 two.2) (segments_proper ps two.1 bytes.1 clean.1 two.3))

-- what is there under a condition is there
guarded : {X : Type 0} (b : Bool) (x : Option X) (y : X) → cond b x None ≡ Some y → x ≡ Some y
guarded true x y h = h
guarded false x y h = cc

-- a path within the limit of segments is the one that was read
pub within_some : (r : Option Path) (p : Path) → within r ≡ Some p → r ≡ Some p
within_some None p h = cc
within_some (Some q) p h = guarded _ (Some q) p h

-- the segments of a path that is read
pub path_in_proper : (text : List ℕ) (p : Path) → IsBytes text → path_in text ≡ Some p → AllByRecursion IsSegment p
path_in_proper text p bytes h = segments_proper (pieces text) p (pieces_bytes text bytes) (pieces_clean text) (within_some _ p (guarded _ (within (segments_of (pieces text))) p h))

-- ---- the text that the pieces make

-- pieces with slashes between them
unsplit : List (List ℕ) → List ℕ
unsplit [] = []
unsplit (p ∷ []) = p
unsplit (p ∷ q ∷ ps) = p ++ 47 ∷ unsplit (q ∷ ps)

-- a byte at the front of the first piece is one at the front of the text
unsplit-with_byte : (b : ℕ) (ps : List (List ℕ)) → unsplit (with_byte b ps) ≡ b ∷ unsplit ps
unfolding unsplit
unsplit-with_byte b [] = refl
unsplit-with_byte b (p ∷ []) = refl
unsplit-with_byte b (p ∷ q ∷ ps) = refl

-- there is always a piece
pieces_some : (text : List ℕ) → (p : List ℕ) × (ps : List (List ℕ)) × (pieces text ≡ p ∷ ps)
pieces_some [] = ([], [], refl)
pieces_some (b ∷ text) = elim (b == 47) as (λ v. (p : List ℕ) × (ps : List (List ℕ)) × (cond v ([] ∷ pieces text) (with_byte b (pieces text)) ≡ p ∷ ps)) [
  | true ↦ ([], pieces text, refl)
  | false ↦ let some = pieces_some text in (b ∷ some.0, some.1, ap (with_byte b) some.2)
]

-- the pieces of a text, with slashes between them, are the text
unsplit-pieces : (text : List ℕ) → unsplit (pieces text) ≡ text
unfolding unsplit
unsplit-pieces [] = refl
unsplit-pieces (b ∷ text) = elim (b == 47) as (λ v. (b == 47) ≡ v → unsplit (cond v ([] ∷ pieces text) (with_byte b (pieces text))) ≡ b ∷ text) [
  | true ↦ λ e.
      let some = pieces_some text in
      let slash : b ≡ 47 = eqb-true b 47 e in
      ap (λ ps. unsplit ([] ∷ ps)) some.2 ∙ ap (λ t. 47 ∷ t) (ap unsplit (sym some.2) ∙ unsplit-pieces text) ∙ ap (λ c. c ∷ text) (sym slash)
  | false ↦ λ e. unsplit-with_byte b (pieces text) ∙ ap (λ t. b ∷ t) (unsplit-pieces text)
] refl

-- ---- what is found is spelled so

-- one more slash in front
more_slashes : (p : Path) (text : List ℕ) → Segments p text → Segments p (47 ∷ text)
more_slashes [] text h = (refl, h)
more_slashes (s ∷ p) text h = (47 ∷ h.0, h.1, (λ e. cc), (refl, h.3), h.4, ap (λ t. 47 ∷ t) h.5)

-- a piece, and what comes after a slash
one_piece : (q : List ℕ) (k p : Path) (rest : List ℕ) → piece_of q ≡ Some k → Segments p rest → Segments (k ++ p) (47 ∷ (q ++ rest))
one_piece [] k p rest h spelled = let same : ◌≡◌ {A = Path} [] k = cc in subst (λ r. Segments (r ++ p) (47 ∷ rest)) same (more_slashes p rest spelled)
one_piece (b ∷ q) k p rest h spelled = elim (is_good (b ∷ q)) as (λ v. cond v (Some ((b ∷ q) ∷ [])) None ≡ Some k → Segments (k ++ p) (47 ∷ ((b ∷ q) ++ rest))) [
  | true ↦ λ m.
      let same : ◌≡◌ {A = Path} ((b ∷ q) ∷ []) k = cc in
      subst (λ r. Segments (r ++ p) (47 ∷ ((b ∷ q) ++ rest))) same (47 ∷ [], rest, (λ e. cc), (refl, tt), spelled, refl)
  | false ↦ λ m. cc
] (sym (piece_is b q) ∙ h)

-- the path that pieces add is spelled by these pieces, each behind a slash
pieces_spelled : (q : List ℕ) (ps : List (List ℕ)) (p : Path) → segments_of (q ∷ ps) ≡ Some p → Segments p (47 ∷ unsplit (q ∷ ps))
unfolding unsplit
pieces_spelled q [] p h =
    let two = joined_some (piece_of q) (Some []) p h in
    let none : ◌≡◌ {A = Path} [] two.1 = cc in
    let whole : two.0 ++ [] ≡ p = ap (λ r. two.0 ++ r) none ∙ two.4 in
    subst (λ r. Segments r (47 ∷ q)) whole (subst (λ t. Segments (two.0 ++ []) (47 ∷ t)) (append-nil q) (one_piece q two.0 [] [] two.2 tt))
pieces_spelled q (r ∷ ps) p h =
    let two = joined_some (piece_of q) (segments_of (r ∷ ps)) p h in
    subst (λ s. Segments s (47 ∷ (q ++ 47 ∷ unsplit (r ∷ ps)))) two.4 (one_piece q two.0 two.1 (47 ∷ unsplit (r ∷ ps)) two.2 (pieces_spelled r ps two.1 two.3))

-- the path that is read from a text is spelled by a slash and the text
text_spelled : (text : List ℕ) (p : Path) → segments_of (pieces text) ≡ Some p → Segments p (47 ∷ text)
text_spelled text p h =
    let some = pieces_some text in
    subst (λ t. Segments p (47 ∷ t)) (ap unsplit (sym some.2) ∙ unsplit-pieces text) (pieces_spelled some.0 some.1 p (ap segments_of (sym some.2) ∙ h))

-- an empty piece adds nothing to what comes behind it
after_slash : (p : Option Path) → joined (Some []) p ≡ p
after_slash None = refl
after_slash (Some p) = refl

-- a text that is told to begin with a slash does so
with_slash : (text : List ℕ) → begins_with_slash text ≡ true → (rest : List ℕ) × (text ≡ 47 ∷ rest)
with_slash [] h = cc
with_slash (b ∷ rest) h = (rest, ap (λ c. c ∷ rest) (eqb-true b 47 h))

-- a path that is found
record Found (text : List ℕ) (p : Path) : Type 0 where
  short : nat_le (length text) PATH_BYTES ≡ true
  slash : begins_with_slash text ≡ true
  read : segments_of (pieces text) ≡ Some p
  shallow : nat_le (length p) PATH_SEGMENTS ≡ true

-- what is there under a condition is there because the condition holds
guard_true : {X : Type 0} (b : Bool) (x : Option X) (y : X) → cond b x None ≡ Some y → b ≡ true
guard_true true x y h = refl
guard_true false x y h = cc

-- a path within the limit has at most so many segments
within_shallow : (r : Option Path) (p : Path) → within r ≡ Some p → nat_le (length p) PATH_SEGMENTS ≡ true
within_shallow None p h = cc
within_shallow (Some q) p h =
    let ok = guard_true (nat_le (length q) PATH_SEGMENTS) (Some q) p h in
    let same : q ≡ p = let e = guarded (nat_le (length q) PATH_SEGMENTS) (Some q) p h in cc in
    subst (λ r. nat_le (length r) PATH_SEGMENTS ≡ true) same ok

-- a path that is found passes each test of the reading
found_is : (text : List ℕ) (p : Path) → path_in text ≡ Some p → Found text p
found_is text p h =
    let ok = and_parts _ _ (guard_true (nat_le (length text) PATH_BYTES && begins_with_slash text) (within (segments_of (pieces text))) p h) in
    let rest = guarded (nat_le (length text) PATH_BYTES && begins_with_slash text) (within (segments_of (pieces text))) p h in
    record { short = ok.0; slash = ok.1; read = within_some (segments_of (pieces text)) p rest; shallow = within_shallow (segments_of (pieces text)) p rest }

-- each path that is read from a text has that text
pub path_found : (text : List ℕ) (p : Path) → IsBytes text → path_in text ≡ Some p → IsPathText text p
path_found text p bytes h =
    let f = found_is text p h in
    let w = with_slash text f.slash in
    let read : segments_of (pieces w.0) ≡ Some p = sym (after_slash (segments_of (pieces w.0))) ∙ ap (λ t. segments_of (pieces t)) (sym w.1) ∙ f.read in
    record {
      not_empty = λ e. let no : 47 ∷ w.0 ≡ [] = sym w.1 ∙ e in cc;
      spelled = subst (Segments p) (sym w.1) (text_spelled w.0 p read);
      segments = path_in_proper text p bytes h;
      bytes = leb-true (length text) PATH_BYTES f.short;
      depth = leb-true (length p) PATH_SEGMENTS f.shallow;
    }

-- ---- what is spelled so is found

-- slashes in front of a text add nothing
slashes_away : (slashes text : List ℕ) → AreSlashes slashes → segments_of (pieces (slashes ++ text)) ≡ segments_of (pieces text)
slashes_away [] text h = refl
slashes_away (b ∷ slashes) text h =
    ap (λ c. segments_of (pieces (c ∷ (slashes ++ text)))) h.0
    ∙ after_slash (segments_of (pieces (slashes ++ text))) ∙ slashes_away slashes text h.1

-- a text without a slash has none at any place
by_place : (s : List ℕ) → HasNone 47 s → HasNoSlash s
by_place [] h i l = absurd (omega arith)
by_place (b ∷ s) h zero l = h.0
by_place (b ∷ s) h (suc i) l = by_place s h.1 i (omega arith)

-- a test that can't hold is false
not_test : (b : Bool) → (b ≡ true → ⊥) → not b ≡ true
not_test true h = absurd (h refl)
not_test false h = refl

-- a byte that isn't in a text isn't told to be
pub no_byte : (c : ℕ) (s : List ℕ) → HasNone c s → list_any (λ b. b == c) s ≡ true → ⊥
no_byte c [] h k = cc
no_byte c (b ∷ s) h k = elim (b == c) as (λ v. (b == c) ≡ v → (v || list_any (λ x. x == c) s) ≡ true → ⊥) [
  | true ↦ λ e m. h.0 (eqb-true b c e)
  | false ↦ λ e m. no_byte c s h.1 m
] refl k

-- a segment is told to be good
good_again : (s : List ℕ) → IsSegment s → is_good s ≡ true
good_again s h =
    both_true (not (bytes_eq s (codes ".")) && not (bytes_eq s (codes ".."))) _
    (both_true _ _ (not_test _ (λ e. h.not_dot ((bytes_eq-Decides s (codes ".")).0 e))) (not_test _ (λ e. h.not_dots ((bytes_eq-Decides s (codes "..")).0 e))))
    (not_test _ (no_byte 0 s h.no_zero))
  where
    both_true : (a b : Bool) → a ≡ true → b ≡ true → (a && b) ≡ true
    both_true true b e k = k
    both_true false b e k = cc

-- a segment adds itself
segment_piece : (s : List ℕ) → IsSegment s → piece_of s ≡ Some (s ∷ [])
segment_piece [] h = absurd (h.nonempty refl)
segment_piece (b ∷ s) h = piece_is b s ∙ ap (λ v. cond v (Some ((b ∷ s) ∷ [])) None) (good_again (b ∷ s) h)

-- a text that is spelled so is empty or begins with a slash
begins_so : (p : Path) (text : List ℕ) → Segments p text → (text ≡ []) ⊎ ((rest : List ℕ) × (text ≡ 47 ∷ rest))
begins_so [] [] h = inl refl
begins_so [] (b ∷ text) h = inr (text, ap (λ c. c ∷ text) h.0)
begins_so (s ∷ p) text h = first h.0 h.2 h.3 h.5
  where
    first : (slashes : List ℕ) → slashes ≢ [] → AreSlashes slashes → text ≡ slashes ++ (s ++ h.1) → (text ≡ []) ⊎ ((rest : List ℕ) × (text ≡ 47 ∷ rest))
    first [] n all e = absurd (n refl)
    first (b ∷ more) n all e = inr (more ++ (s ++ h.1), e ∙ ap (λ c. c ∷ (more ++ (s ++ h.1))) all.0)

-- nothing behind a path leaves the path
joined_nil : (p : Option Path) → joined p (Some []) ≡ p
joined_nil None = refl
joined_nil (Some p) = ap (λ s. Some s) (append-nil p)

-- a segment ahead of a text that is empty or begins with a slash comes first of its segments
segment_first : (s : List ℕ) (p : Path) (rest : List ℕ) → IsSegment s → (rest ≡ []) ⊎ ((more : List ℕ) × (rest ≡ 47 ∷ more))
    → segments_of (pieces rest) ≡ Some p → segments_of (pieces (s ++ rest)) ≡ Some (s ∷ p)
segment_first s p rest proper (inl e) h =
    let empty : ◌≡◌ {A = Path} [] p = let same : ◌≡◌ {A = Option Path} (Some []) (Some p) = ap (λ t. segments_of (pieces t)) (sym e) ∙ h in cc in
    ap (λ t. segments_of (pieces t)) (ap (λ r. s ++ r) e ∙ append-nil s)
    ∙ ap segments_of (pieces_last s (by_place s proper.no_slash)) ∙ joined_nil (piece_of s) ∙ segment_piece s proper ∙ ap (λ q. Some (s ∷ q)) empty
segment_first s p rest proper (inr (more, e)) h =
    ap (λ t. segments_of (pieces (s ++ t))) e ∙ ap segments_of (pieces_first s more (by_place s proper.no_slash))
    ∙ ap (λ r. joined r (segments_of (pieces more))) (segment_piece s proper)
    ∙ ap (joined (Some (s ∷ []))) (sym (after_slash (segments_of (pieces more))) ∙ ap (λ t. segments_of (pieces t)) (sym e) ∙ h)

-- a path that is spelled by a text is read from it
pub segments_again : (p : Path) (text : List ℕ) → Segments p text → AllByRecursion IsSegment p → segments_of (pieces text) ≡ Some p
segments_again [] text h proper = ap (λ t. segments_of (pieces t)) (sym (append-nil text)) ∙ slashes_away text [] h
segments_again (s ∷ p) text h proper =
    ap (λ t. segments_of (pieces t)) h.5 ∙ slashes_away h.0 (s ++ h.1) h.3
    ∙ segment_first s p h.1 proper.0 (begins_so p h.1 h.4) (segments_again p h.1 h.4 proper.1)

-- a path that has a text is the one that is read
pub path_again : (text : List ℕ) (p : Path) → IsPathText text p → path_in text ≡ Some p
path_again text p h =
    ap (λ b. cond b (within (segments_of (pieces text))) None) (tests (begins_so p text h.spelled))
    ∙ ap within (segments_again p text h.spelled h.segments)
    ∙ ap (λ b. cond b (Some p) None) (le-leb (length p) PATH_SEGMENTS h.depth)
  where
    tests : (text ≡ []) ⊎ ((rest : List ℕ) × (text ≡ 47 ∷ rest)) → (nat_le (length text) PATH_BYTES && begins_with_slash text) ≡ true
    tests (inl e) = absurd (h.not_empty e)
    tests (inr (rest, e)) = ap (λ b. b && begins_with_slash text) (le-leb (length text) PATH_BYTES h.bytes) ∙ ap begins_with_slash e

-- what reading tests, one after the other
pub path_read : (text : List ℕ) (p : Path) → IsBytes text → length text ≤ PATH_BYTES → begins_with_slash text ≡ true → segments_of (pieces text) ≡ Some p → length p ≤ PATH_SEGMENTS → IsPathText text p
path_read text p bytes short slash read shallow =
    path_found text p bytes
    (ap (λ b. cond b (within (segments_of (pieces text))) None) (ap (λ b. b && begins_with_slash text) (le-leb (length text) PATH_BYTES short) ∙ slash)
    ∙ ap within read ∙ ap (λ b. cond b (Some p) None) (le-leb (length p) PATH_SEGMENTS shallow))

-- ---- one segment

-- a text that is told to have no slash has none
no_slash_in : (p : List ℕ) → not (list_any (λ b. b == 47) p) ≡ true → HasNone 47 p
no_slash_in [] h = tt
no_slash_in (b ∷ p) h = let two = neither (b == 47) (list_any (λ b. b == 47) p) h in ((λ e. two.0 (eq-eqb b 47 e)), no_slash_in p two.1)

-- a text without a slash is told to have none
slash_nowhere : (p : List ℕ) → HasNone 47 p → list_any (λ b. b == 47) p ≡ false
slash_nowhere [] h = refl
slash_nowhere (b ∷ p) h = ap (λ v. v || list_any (λ b. b == 47) p) (ne_eqb b 47 h.0) ∙ slash_nowhere p h.1

-- a text with a first byte isn't empty
there : (b : ℕ) (p : List ℕ) → not (length (b ∷ p) == 0) ≡ true
there b p = ap not (eqb-suc-zero (length p))

-- a text of bytes is told to be a segment exactly where it is one
pub segment_exactly : (text : List ℕ) → IsBytes text → IsTrue (is_segment text) ↔ IsSegment text
segment_exactly [] bytes = ((λ e. cc), (λ s. absurd (s.nonempty refl)))
segment_exactly (b ∷ p) bytes = (
  (λ e. let two = and_parts (not (length (b ∷ p) == 0) && not (list_any (λ c. c == 47) (b ∷ p))) (is_good (b ∷ p)) e in
      good_segment b p bytes (no_slash_in (b ∷ p) (and_parts (not (length (b ∷ p) == 0)) (not (list_any (λ c. c == 47) (b ∷ p))) two.0).1) two.1),
  (λ s. (λ i. there b p i && not (slash_nowhere (b ∷ p) s.no_slash i) && good_again (b ∷ p) s i)),
)
