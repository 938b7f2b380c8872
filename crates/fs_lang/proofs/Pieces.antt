-- The pieces of a path's text.
use Rattle.std.proofs.Common.{◌≡◌, ℕ, suc, cond, List, [], ◌∷◌, ◌++◌, Option, Some, None, Bor, refl, sym, ap, ◌∙◌, arith, append_assoc}
use Rattle.std.proofs.lemmas.List.{append-nil}
use Rattle.std.proofs.lemmas.Bool.{ne_eqb}
use Rattle.std.specs.Option.{MatchOption}
use Rattle.std.proofs.lemmas.Str.Pattern.{split_parts, IsSplitOnceResult}
use Rattle.fs_semantics.specs.FileTree.{Path}
use Rattle.fs_lang.specs.Reading.{with_byte, pieces, piece_of, joined, segments_of, HasNoSlash}

-- a text without a slash is one piece
pub pieces_last : (text : List ℕ) → HasNoSlash text → pieces text ≡ text ∷ []
pieces_last [] none = refl
pieces_last (b ∷ text) none =
    ap (λ v. cond v ([] ∷ pieces text) (with_byte b (pieces text))) (ne_eqb b 47 (none 0 (omega arith)))
    ∙ ap (with_byte b) (pieces_last text (λ i h. none (suc i) (omega arith)))

-- what stands ahead of the first slash is the first piece
pub pieces_first : (text rest : List ℕ) → HasNoSlash text → pieces (text ++ 47 ∷ rest) ≡ text ∷ pieces rest
pieces_first [] rest none = refl
pieces_first (b ∷ text) rest none =
    ap (λ v. cond v ([] ∷ pieces (text ++ 47 ∷ rest)) (with_byte b (pieces (text ++ 47 ∷ rest)))) (ne_eqb b 47 (none 0 (omega arith)))
    ∙ ap (with_byte b) (pieces_first text rest (λ i h. none (suc i) (omega arith)))

-- paths may be joined from either end
pub joined_assoc : (p q r : Option Path) → joined (joined p q) r ≡ joined p (joined q r)
joined_assoc None q r = refl
joined_assoc (Some p) None r = refl
joined_assoc (Some p) (Some q) None = refl
joined_assoc (Some p) (Some q) (Some r) = ap (λ s. Some s) (append_assoc p q r)

-- the segments so far, and a piece, and what is behind it
pub next_piece : (front new k : Path) (t piece rest : List ℕ) → t ≡ piece ++ 47 ∷ rest → HasNoSlash piece → piece_of piece ≡ Some k → new ≡ front ++ k
    → joined (Some new) (segments_of (pieces rest)) ≡ joined (Some front) (segments_of (pieces t))
next_piece front new k t piece rest is none some more =
    ap (λ p. joined (Some p) (segments_of (pieces rest))) more
    ∙ joined_assoc (Some front) (Some k) (segments_of (pieces rest))
    ∙ ap (λ r. joined (Some front) (joined r (segments_of (pieces rest)))) (sym some)
    ∙ ap (λ ps. joined (Some front) (segments_of ps)) (sym (ap pieces is ∙ pieces_first piece rest none))

-- a bad piece ahead of a slash makes the whole bad
pub bad_piece : (front : Path) (t piece rest : List ℕ) → t ≡ piece ++ 47 ∷ rest → HasNoSlash piece → piece_of piece ≡ None → joined (Some front) (segments_of (pieces t)) ≡ None
bad_piece front t piece rest is none bad =
    ap (λ ps. joined (Some front) (segments_of ps)) (ap pieces is ∙ pieces_first piece rest none)
    ∙ ap (λ r. joined (Some front) (joined r (segments_of (pieces rest)))) bad

-- nothing behind a path leaves the path
joined_nil : (p : Option Path) → joined p (Some []) ≡ p
joined_nil None = refl
joined_nil (Some p) = ap (λ s. Some s) (append-nil p)

-- the segments so far with those of the last piece are the whole
pub last_piece : (front new k : Path) (t : List ℕ) → HasNoSlash t → piece_of t ≡ Some k → new ≡ front ++ k → joined (Some front) (segments_of (pieces t)) ≡ Some new
last_piece front new k t none some more =
    ap (λ ps. joined (Some front) (segments_of ps)) (pieces_last t none)
    ∙ ap (joined (Some front)) (joined_nil (piece_of t) ∙ some) ∙ ap (λ s. Some s) (sym more)

-- a bad last piece makes the whole bad
pub bad_last : (front : Path) (t : List ℕ) → HasNoSlash t → piece_of t ≡ None → joined (Some front) (segments_of (pieces t)) ≡ None
bad_last front t none bad =
    ap (λ ps. joined (Some front) (segments_of ps)) (pieces_last t none) ∙ ap (joined (Some front)) (joined_nil (piece_of t) ∙ bad)

-- what `split_once` says at a slash
pub cut_at_slash : (bs : List ℕ) (r : Option (Bor (List ℕ) × Bor (List ℕ))) → IsSplitOnceResult 47 bs r → MatchOption r (HasNoSlash bs) (λ x. (bs ≡ x.0.now ++ 47 ∷ x.1.now) × HasNoSlash x.0.now)
cut_at_slash bs None h = split_parts 47 bs None h (omega arith)
cut_at_slash bs (Some x) h = split_parts 47 bs (Some x) h (omega arith)
