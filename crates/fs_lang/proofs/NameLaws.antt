-- Names as segments.
use Rattle.std.proofs.Common.{◌≡◌, ◌≢◌, ◌⊎◌, inl, inr, ℕ, suc, ◌<◌, Bool, true, false, cond, ◌||◌, ◌==◌, List, [], ◌∷◌, ◌++◌, length, Option, Some, None, Bor, refl, sym, ap, subst, ◌∙◌, arith, append_assoc, eq-eqb}
use Rattle.std.proofs.lemmas.Bool.{ne_eqb}
use Rattle.std.proofs.lemmas.Slice.Eq.{bytes_eq-Decides}
use Rattle.std.proofs.lemmas.Str.Pattern.{split_parts, IsSplitOnceResult}
use Rattle.std.specs.Prelude.{codes}
use Rattle.std.specs.Option.{MatchOption}
use Rattle.std.specs.Str.{bytes_eq}
use Rattle.std.specs.List.{AllByRecursion}
use Rattle.fs_semantics.specs.FileTree.{IsBytes, IsSegment}
use Rattle.fs_lang.specs.Reading.{HasNo}
use Rattle.fs_lang.specs.Names.{IsName, replaced, segment_of}
use Rattle.fs_semantics.proofs.Counts.{all_append}

-- where a text was split at an ASCII byte, the front has none of it; where it wasn't, the whole text has none
pub cut_at : (c : ℕ) (bs : List ℕ) (r : Option (Bor (List ℕ) × Bor (List ℕ))) → c < 128 → IsSplitOnceResult c bs r → MatchOption r (HasNo c bs) (λ x. (bs ≡ x.0.now ++ c ∷ x.1.now) × HasNo c x.0.now)
cut_at c bs None l h = split_parts c bs None h (omega (arith, l))
cut_at c bs (Some x) l h = split_parts c bs (Some x) h (omega (arith, l))

-- ---- replacing

-- where the byte isn't in a text, nothing is replaced
replaced_none : (c : ℕ) (other text : List ℕ) → HasNo c text → replaced c other text ≡ text
replaced_none c other [] none = refl
replaced_none c other (b ∷ text) none =
    ap (λ v. cond v (other ++ replaced c other text) (b ∷ replaced c other text)) (ne_eqb b c (none 0 (omega arith)))
    ∙ ap (λ t. b ∷ t) (replaced_none c other text (λ i h. none (suc i) (omega arith)))

-- a first byte that is replaced gives way to the other text
replaced_here : (c : ℕ) (other text : List ℕ) → replaced c other (c ∷ text) ≡ other ++ replaced c other text
replaced_here c other text = ap (λ v. cond v (other ++ replaced c other text) (c ∷ replaced c other text)) (eq-eqb c c refl)

-- and so does one behind a front that has none of them
replaced_front : (c : ℕ) (other front tail : List ℕ) → HasNo c front → replaced c other (front ++ c ∷ tail) ≡ front ++ (other ++ replaced c other tail)
replaced_front c other [] tail none = replaced_here c other tail
replaced_front c other (b ∷ front) tail none =
    ap (λ v. cond v (other ++ replaced c other (front ++ c ∷ tail)) (b ∷ replaced c other (front ++ c ∷ tail))) (ne_eqb b c (none 0 (omega arith)))
    ∙ ap (λ t. b ∷ t) (replaced_front c other front tail (λ i h. none (suc i) (omega arith)))

-- with one more replaced, what was made so far and what is left to replace are the same whole
pub next_replaced : (c : ℕ) (other made new text front tail : List ℕ) → text ≡ front ++ c ∷ tail → HasNo c front → new ≡ (made ++ front) ++ other → new ++ replaced c other tail ≡ made ++ replaced c other text
next_replaced c other made new text front tail is none e =
    ap (λ l. l ++ replaced c other tail) e ∙ append_assoc (made ++ front) other (replaced c other tail) ∙ append_assoc made front (other ++ replaced c other tail)
    ∙ ap (λ l. made ++ l) (sym (ap (replaced c other) is ∙ replaced_front c other front tail none))

-- where none is left to replace, what was made so far and the rest are the whole
pub last_replaced : (c : ℕ) (other made new text : List ℕ) → HasNo c text → new ≡ made ++ text → made ++ replaced c other text ≡ new
last_replaced c other made new text none e = ap (λ l. made ++ l) (replaced_none c other text none) ∙ sym e

-- ---- what is replaced is a segment

-- what holds of the other text and of all bytes that stay holds of the whole that is made
all_replaced : (P : ℕ → Type 0) (c : ℕ) (other text : List ℕ) → AllByRecursion P other → AllByRecursion (λ b. b ≢ c → P b) text → AllByRecursion P (replaced c other text)
all_replaced P c other [] h k = tt
all_replaced P c other (b ∷ text) h k = at (b == c) refl (all_replaced P c other text h k.1)
  where
    at : (v : Bool) → (b == c) ≡ v → AllByRecursion P (replaced c other text) → AllByRecursion P (cond v (other ++ replaced c other text) (b ∷ replaced c other text))
    at true e more = all_append P other (replaced c other text) h more
    at false e more = (k.0 (λ s. let clash : true ≡ false = sym (eq-eqb b c s) ∙ e in cc), more)

-- what holds of all implies what each of them implies
pub all_weaker : (P Q : ℕ → Type 0) (text : List ℕ) → ((b : ℕ) → P b → Q b) → AllByRecursion P text → AllByRecursion Q text
all_weaker P Q [] f h = tt
all_weaker P Q (b ∷ text) f h = (f b h.0, all_weaker P Q text f h.1)

-- a text that is shorter than what replaces its bytes has none of them
pub short_kept : (c x y z : ℕ) (text w : List ℕ) → length w < 3 → replaced c (x ∷ y ∷ z ∷ []) text ≡ w → text ≡ w
short_kept c x y z [] w l h = h
short_kept c x y z (b ∷ text) w l h = at (b == c) w l h (short_kept c x y z text)
  where
    at : (v : Bool) (w : List ℕ) → length w < 3 → cond v (x ∷ y ∷ z ∷ replaced c (x ∷ y ∷ z ∷ []) text) (b ∷ replaced c (x ∷ y ∷ z ∷ []) text) ≡ w
        → ((u : List ℕ) → length u < 3 → replaced c (x ∷ y ∷ z ∷ []) text ≡ u → text ≡ u) → b ∷ text ≡ w
    at true w l h more = let long : length (x ∷ y ∷ z ∷ replaced c (x ∷ y ∷ z ∷ []) text) ≡ length w = ap length h in absurd (omega arith)
    at false [] l h more = cc
    at false (d ∷ w) l h more =
        let head : b ≡ d = cc in
        let tail : replaced c (x ∷ y ∷ z ∷ []) text ≡ w = cc in
        let rest = more w (omega arith) tail in
        ap (λ k. k ∷ text) head ∙ ap (λ t. d ∷ t) rest

-- a name that becomes a text of fewer than three bytes was that text
escaped_short : (name w : List ℕ) → length w < 3 → replaced 47 (codes "%2F") (replaced 37 (codes "%25") name) ≡ w → name ≡ w
escaped_short name w l h = short_kept 37 37 50 53 name w l (short_kept 47 37 50 70 (replaced 37 (codes "%25") name) w l h)

-- what holds of each number holds of all in a list
every : (P : ℕ → Type 0) (text : List ℕ) → ((b : ℕ) → P b) → AllByRecursion P text
every P [] f = tt
every P (b ∷ text) f = (f b, every P text f)

-- a name that isn't one dot or two becomes a segment
escaped_segment : (name : List ℕ) → IsName name → IsBytes name → name ≢ codes "." → name ≢ codes ".." → IsSegment (replaced 47 (codes "%2F") (replaced 37 (codes "%25") name))
escaped_segment name is bytes dot dots = record {
  bytes = all_replaced (λ b. b < 256) 47 (codes "%2F") (replaced 37 (codes "%25") name) (omega arith, (omega arith, (omega arith, tt)))
      (all_weaker (λ b. b < 256) (λ b. b ≢ 47 → b < 256) (replaced 37 (codes "%25") name) (λ b h _. h)
      (all_replaced (λ b. b < 256) 37 (codes "%25") name (omega arith, (omega arith, (omega arith, tt))) (all_weaker (λ b. b < 256) (λ b. b ≢ 37 → b < 256) name (λ b h _. h) bytes)));
  nonempty = λ e. is.nonempty (escaped_short name [] (omega arith) e);
  no_slash = all_replaced (λ b. b ≢ 47) 47 (codes "%2F") (replaced 37 (codes "%25") name) (omega arith, (omega arith, (omega arith, tt))) (every (λ b. b ≢ 47 → b ≢ 47) (replaced 37 (codes "%25") name) (λ b h. h));
  no_zero = all_replaced (λ b. b ≢ 0) 47 (codes "%2F") (replaced 37 (codes "%25") name) (omega arith, (omega arith, (omega arith, tt)))
      (all_weaker (λ b. b ≢ 0) (λ b. b ≢ 47 → b ≢ 0) (replaced 37 (codes "%25") name) (λ b h _. h)
      (all_replaced (λ b. b ≢ 0) 37 (codes "%25") name (omega arith, (omega arith, (omega arith, tt))) (all_weaker (λ b. b ≢ 0) (λ b. b ≢ 37 → b ≢ 0) name (λ b h _. h) is.no_zero)));
  not_dot = λ e. dot (escaped_short name (codes ".") (omega arith) e);
  not_dots = λ e. dots (escaped_short name (codes "..") (omega arith) e);
}

-- texts of different lengths differ
other_length : (xs ys : List ℕ) → length xs ≢ length ys → xs ≢ ys
other_length xs ys n e = n (ap length e)

-- what becomes of one dot, and of two
dots_segment : (s : List ℕ) → (s ≡ codes "%2E") ⊎ (s ≡ codes "%2E%2E") → IsSegment s
dots_segment s (inl e) = subst IsSegment (sym e) (record {
  bytes = (omega arith, (omega arith, (omega arith, tt)));
  nonempty = λ h. cc;
  no_slash = (omega arith, (omega arith, (omega arith, tt)));
  no_zero = (omega arith, (omega arith, (omega arith, tt)));
  not_dot = λ h. other_length _ _ (omega arith) h;
  not_dots = λ h. other_length _ _ (omega arith) h;
})
dots_segment s (inr e) = subst IsSegment (sym e) (record {
  bytes = (omega arith, (omega arith, (omega arith, (omega arith, (omega arith, (omega arith, tt))))));
  nonempty = λ h. cc;
  no_slash = (omega arith, (omega arith, (omega arith, (omega arith, (omega arith, (omega arith, tt))))));
  no_zero = (omega arith, (omega arith, (omega arith, (omega arith, (omega arith, (omega arith, tt))))));
  not_dot = λ h. other_length _ _ (omega arith) h;
  not_dots = λ h. other_length _ _ (omega arith) h;
})

-- each name of bytes becomes a segment
pub segment_proper : (name : List ℕ) → IsName name → IsBytes name → IsSegment (segment_of name)
segment_proper name is bytes = at (bytes_eq name (codes ".")) (bytes_eq name (codes "..")) refl refl
  where
    at : (a b : Bool) → bytes_eq name (codes ".") ≡ a → bytes_eq name (codes "..") ≡ b → IsSegment (cond (a || b) (replaced 46 (codes "%2E") name) (replaced 47 (codes "%2F") (replaced 37 (codes "%25") name)))
    at true b e f = dots_segment (replaced 46 (codes "%2E") name) (inl (ap (replaced 46 (codes "%2E")) ((bytes_eq-Decides name (codes ".")).0 e)))
    at false true e f = dots_segment (replaced 46 (codes "%2E") name) (inr (ap (replaced 46 (codes "%2E")) ((bytes_eq-Decides name (codes "..")).0 f)))
    at false false e f = escaped_segment name is bytes
        (λ h. let clash : true ≡ false = sym ((bytes_eq-Decides name (codes ".")).1 h) ∙ e in cc)
        (λ h. let clash : true ≡ false = sym ((bytes_eq-Decides name (codes "..")).1 h) ∙ f in cc)
