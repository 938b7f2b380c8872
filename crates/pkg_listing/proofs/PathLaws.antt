-- Paths that may be listed.
use Rattle.std.proofs.Common.{◌≡◌, ◌≢◌, ℕ, ◌+◌, ◌<◌, ◌≤◌, ◌==◌, Bool, true, false, true≢false, cond, not, ◌&&◌, List, [], ◌∷◌, ◌++◌, length, nat_le, Option, Some, None, bytes_eq, codes, IsUtf8, refl, sym, ap, subst, ◌∙◌, arith, eqb-true}
use Rattle.std.specs.Prelude.{◌↔◌}
use Rattle.std.specs.List.{AllByRecursion}
use Rattle.std.proofs.Math.Dec.{eqb-suc-zero}
use Rattle.std.proofs.lemmas.Slice.Eq.{bytes_eq-Decides}
use Rattle.std.proofs.lemmas.List.{length-append}
use Rattle.rh_base.specs.declared.limits.TheConstants.{PATH_BYTES}
use Rattle.rh_base.specs.Reading.{◌>>=◌}
use Rattle.fs_semantics.specs.FileTree.{Path, IsBytes, IsSegment}
use Rattle.fs_lang.specs.PathText.{Segments, IsPathText, spelled, path_text}
use Rattle.fs_lang.specs.Reading.{with_byte, pieces, is_good, piece_of, segments_of, begins_with_slash, within, path_in}
use Rattle.fs_lang.specs.Managed.{MayBeManaged}
use Rattle.fs_lang.proofs.Bytes.{utf8_bytes}
use Rattle.fs_lang.proofs.PathLaws.{path_found, path_again, joined_some, within_some}
use Rattle.pkg_listing.specs.Reading.{is_managed, if_managed, managed_path}
use Rattle.rh_base.proofs.Options.{if_some}
use Rattle.std.proofs.lemmas.Bool.{not-true}

-- ---- the bytes of a text whose path is made of segments

-- where pieces with a byte more are of bytes, the byte is one and the pieces are of bytes
with_byte_bytes : (b : ℕ) (ps : List (List ℕ)) → AllByRecursion IsBytes (with_byte b ps) → (b < 256) × AllByRecursion IsBytes ps
with_byte_bytes b [] h = (h.0.0, tt)
with_byte_bytes b (p ∷ ps) h = (h.0.0, (h.0.1, h.1))

-- a text whose pieces are of bytes is of bytes
text_bytes : (text : List ℕ) → AllByRecursion IsBytes (pieces text) → IsBytes text
text_bytes [] h = tt
text_bytes (b ∷ text) h = at (text_bytes text) (b == 47) refl h
  where
    at : (AllByRecursion IsBytes (pieces text) → IsBytes text) → (t : Bool) → (b == 47) ≡ t → AllByRecursion IsBytes (cond t ([] ∷ pieces text) (with_byte b (pieces text))) → IsBytes (b ∷ text)
    at later true e h = let is : b ≡ 47 = eqb-true b 47 e in (subst (λ c. c < 256) (sym is) (omega arith), later h.1)
    at later false e h = let two = with_byte_bytes b (pieces text) h in (two.0, later two.1)

-- what a piece adds is the piece
piece_bytes : (q : List ℕ) (k : Path) → piece_of q ≡ Some k → AllByRecursion IsSegment k → IsBytes q
piece_bytes [] k h s = tt
piece_bytes (b ∷ q) k h s = at (is_good (b ∷ q)) (ap (λ v. cond v (Some []) (cond (is_good (b ∷ q)) (Some ((b ∷ q) ∷ [])) None)) (sym (eqb-suc-zero (length q))) ∙ h)
  where
    at : (t : Bool) → cond t (Some ((b ∷ q) ∷ [])) None ≡ Some k → IsBytes (b ∷ q)
    at true e = let same : ◌≡◌ {A = Path} ((b ∷ q) ∷ []) k = cc in (subst (AllByRecursion IsSegment) (sym same) s).0.bytes
    at false e = cc

-- the parts of a path of segments are of segments
all_parts : (k r : Path) → AllByRecursion IsSegment (k ++ r) → AllByRecursion IsSegment k × AllByRecursion IsSegment r
all_parts [] r h = (tt, h)
all_parts (s ∷ k) r h = let two = all_parts k r h.1 in ((h.0, two.0), two.1)

-- pieces that add a path of segments are of bytes
pieces_bytes : (ps : List (List ℕ)) (p : Path) → segments_of ps ≡ Some p → AllByRecursion IsSegment p → AllByRecursion IsBytes ps
pieces_bytes [] p h s = tt
pieces_bytes (q ∷ qs) p h s =
    let parts = joined_some (piece_of q) (segments_of qs) p h in
    let two = all_parts parts.0 parts.1 (subst (AllByRecursion IsSegment) (sym parts.4) s) in
    (piece_bytes q parts.0 parts.2 two.0, pieces_bytes qs parts.1 parts.3 two.1)

-- a path of segments that a text gives is spelled by it
pub path_spelled : (text : List ℕ) (p : Path) → AllByRecursion IsSegment p → path_in text ≡ Some p → IsPathText text p
path_spelled text p s h =
    let read = within_some (segments_of (pieces text)) p (if_some (nat_le (length text) PATH_BYTES && begins_with_slash text) (within (segments_of (pieces text))) p h).1 in
    path_found text p (text_bytes text (pieces_bytes (pieces text) p read s)) h

-- ---- what is written of a path is no longer than a text of it

-- slashes that aren't none are one at least
some_slash : (slashes : List ℕ) → slashes ≢ [] → 1 ≤ length slashes
some_slash [] n = absurd (n refl)
some_slash (b ∷ slashes) n = omega arith

-- what is written of a path's segments is no longer than a text that spells them
spelled_short : (p : Path) (text : List ℕ) → Segments p text → length (spelled p) ≤ length text
spelled_short [] text h = omega arith
spelled_short (s ∷ p) text h =
    let rest = spelled_short p h.1 h.4 in
    let some = some_slash h.0 h.2 in
    let whole : length text ≡ length h.0 + (length s + length h.1) = ap length h.5 ∙ length-append h.0 (s ++ h.1) ∙ ap (λ n. length h.0 + n) (length-append s h.1) in
    let mine = length-append s (spelled p) in
    omega arith

-- what is written of a path is short enough where a text of it is
pub text_short : (p : Path) (text : List ℕ) → p ≢ [] → IsPathText text p → length (path_text p) ≤ PATH_BYTES
text_short [] text n h = absurd (n refl)
text_short (s ∷ p) text n h = let short = spelled_short (s ∷ p) text h.spelled in let bytes = h.bytes in omega arith

-- ---- paths that may be managed

-- texts that differ are told to
differ : (s t : List ℕ) → (s ≡ t → ⊥) → bytes_eq s t ≡ false
differ s t n = at (bytes_eq s t) refl
  where
    at : (b : Bool) → bytes_eq s t ≡ b → b ≡ false
    at true e = absurd (n ((bytes_eq-Decides s t).0 e))
    at false e = refl

-- a path is told to be one that may be managed exactly where it is
pub managed_where : (p : Path) → (is_managed p ≡ true) ↔ MayBeManaged p
managed_where [] = ((λ h. cc), (λ m. absurd (m.0 refl)))
managed_where (s ∷ p) = (
  (λ h. ((λ e. cc), (λ r. let no = not-true (bytes_eq s (codes ".rehearsal")) h in true≢false (sym ((bytes_eq-Decides s (codes ".rehearsal")).1 r) ∙ no)))),
  (λ m. ap not (differ s (codes ".rehearsal") m.1)),
)

-- a path that may be managed passes
pub managed_so : (p : Path) → MayBeManaged p → if_managed p ≡ Some p
managed_so p m = ap (λ t. cond t (Some p) None) ((managed_where p).1 m)

-- and one that may not doesn't
pub unmanaged_so : (p : Path) → (MayBeManaged p → ⊥) → if_managed p ≡ None
unmanaged_so p n = at (is_managed p) refl
  where
    at : (t : Bool) → is_managed p ≡ t → cond t (Some p) None ≡ None
    at true e = absurd (n ((managed_where p).0 e))
    at false e = refl

-- ---- a path that is read, and none

-- a text of a path that may be managed gives the path
pub read_path : (text : List ℕ) (p : Path) → IsPathText text p → MayBeManaged p → managed_path text ≡ Some p
read_path text p h m = ap (λ o. o >>= if_managed) (path_again text p h) ∙ managed_so p m

-- a text that is none of a path is read as none
none_in : (text : List ℕ) → IsBytes text → ((p : Path) → IsPathText text p → ⊥) → path_in text ≡ None
none_in text bytes n = at (path_in text) refl
  where
    at : (o : Option Path) → path_in text ≡ o → o ≡ None
    at None e = refl
    at (Some p) e = absurd (n p (path_found text p bytes e))

-- and gives none that may be managed
pub no_path : (text : List ℕ) → IsUtf8 text → ((p : Path) → IsPathText text p → ⊥) → managed_path text ≡ None
no_path text utf n = ap (λ o. o >>= if_managed) (none_in text (utf8_bytes text utf) n)

-- a text of a path that may not be managed gives none
pub unmanaged_path : (text : List ℕ) (p : Path) → IsPathText text p → (b : Bool) → (MayBeManaged p → b ≡ true) → b ≡ false → managed_path text ≡ None
unmanaged_path text p h b back e =
    ap (λ o. o >>= if_managed) (path_again text p h) ∙ unmanaged_so p (λ m. true≢false (sym (back m) ∙ e))
