-- Lists of bits that are made place by place.
use Rattle.std.proofs.Common.{◌≡◌, ◌⊎◌, inl, inr, ℕ, zero, suc, ◌+◌, ◌<◌, ◌≤◌, Bool, true, false, cond, List, [], ◌∷◌, ◌++◌, length, Option, Some, None, slice_get, refl, sym, ap, subst, ◌∙◌, arith, nat_lt, ltb-true}
use Rattle.std.proofs.lemmas.Bool.{ltb-false}
use Rattle.std.proofs.lemmas.Option.{slice_get_past}
use Rattle.std.proofs.lemmas.List.{length_push}
use Rattle.std.specs.Prelude.{slice_index_or}
use Rattle.fs_interpreter.specs.Meanings.{Valuation, Meanings, Grows}
use Rattle.fs_interpreter.specs.States.{State, state_of, truth, number}
use Rattle.fs_interpreter.specs.declared.cells.Cells.{Cells}
use Rattle.sym_run.specs.Bitwise.{AreOwnBits, AreOwnCodes, AreBits, AreCodes, BitsSoFar, CodesSoFar, bit_at, code_at}
use Rattle.rh_base.proofs.Lists.{get_last}
use Rattle.fs_replay.proofs.StandLaws.{get_before, same_or_below}

-- what holds of all of a list and of one more holds of all with that one at the end
all_pushed : {X : Type 0} (P : X → Type 0) (xs : List X) (x : X) → P x → ((i : ℕ) (y : X) → slice_get xs i ≡ Some y → P y) → (i : ℕ) (y : X) → slice_get (xs ++ x ∷ []) i ≡ Some y → P y
all_pushed P [] x p all zero y e = let same : x ≡ y = cc in subst P same p
all_pushed P [] x p all (suc i) y e = cc
all_pushed P (z ∷ xs) x p all zero y e = all zero y e
all_pushed P (z ∷ xs) x p all (suc i) y e = all_pushed P xs x p (λ j w. all (suc j) w) i y e

-- bits that are one's own mean the same at each place as bits grow
pub bit_stays : {Bit Code : Type 0} (m n : Meanings Bit Code) (bs : List Bit) → Grows m n → AreOwnBits m bs → (v : Valuation) (i : ℕ) → bit_at n v bs i ≡ bit_at m v bs i
bit_stays {Bit} m n bs g own v i = by_get (slice_get bs i) refl
  where
    by_get : (o : Option Bit) → slice_get bs i ≡ o → truth (n.bit v) o ≡ truth (m.bit v) o
    by_get None e = refl
    by_get (Some b) e = g.bit b (own i b e) v

-- and so do codes
pub code_stays : {Bit Code : Type 0} (m n : Meanings Bit Code) (cs : List Code) → Grows m n → AreOwnCodes m cs → (v : Valuation) (i : ℕ) → code_at n v cs i ≡ code_at m v cs i
code_stays {Bit} {Code} m n cs g own v i = by_get (slice_get cs i) refl
  where
    by_get : (o : Option Code) → slice_get cs i ≡ o → number (n.code v) o ≡ number (m.code v) o
    by_get None e = refl
    by_get (Some c) e = g.code c (own i c e) v

-- bits that are one's own are so as bits grow
pub own_later : {Bit Code : Type 0} (m n : Meanings Bit Code) (bs : List Bit) → Grows m n → AreOwnBits m bs → AreOwnBits n bs
own_later m n bs g own i b e = g.owns b (own i b e)

-- and so are codes
pub own_codes_later : {Bit Code : Type 0} (m n : Meanings Bit Code) (cs : List Code) → Grows m n → AreOwnCodes m cs → AreOwnCodes n cs
own_codes_later m n cs g own i c e = g.owns_code c (own i c e)

-- one more bit that means what is wanted there makes the bits so far one more
pub bits_more : {Bit Code : Type 0} (m n : Meanings Bit Code) (meaning : Valuation → ℕ → Bool) (k : ℕ) (bs : List Bit) (b : Bit) → Grows m n → BitsSoFar m meaning k bs → n.owns b → ((v : Valuation) → n.bit v b ≡ meaning v k)
    → BitsSoFar n meaning (k + 1) (bs ++ b ∷ [])
bits_more m n meaning k bs b g so_far own means = record {
  long = length_push bs b ∙ ap (λ j. j + 1) so_far.long;
  owned = all_pushed n.owns bs b own (own_later m n bs g so_far.owned);
  mean = λ v i h. elim (same_or_below i k h) [
    | inl below ↦ ap (truth (n.bit v)) (get_before bs (b ∷ []) i (subst (λ j. i < j) (sym so_far.long) below)) ∙ bit_stays m n bs g so_far.owned v i ∙ so_far.mean v i below
    | inr here ↦ ap (truth (n.bit v)) (ap (slice_get (bs ++ b ∷ [])) (here ∙ sym so_far.long) ∙ get_last bs b) ∙ means v ∙ ap (meaning v) (sym here)
  ];
}

-- and so does one more code
pub codes_more : {Bit Code : Type 0} (m n : Meanings Bit Code) (meaning : Valuation → ℕ → ℕ) (k : ℕ) (cs : List Code) (x : Code) → Grows m n → CodesSoFar m meaning k cs → n.owns_code x → ((v : Valuation) → n.code v x ≡ meaning v k)
    → CodesSoFar n meaning (k + 1) (cs ++ x ∷ [])
codes_more m n meaning k cs x g so_far own means = record {
  long = length_push cs x ∙ ap (λ j. j + 1) so_far.long;
  owned = all_pushed n.owns_code cs x own (own_codes_later m n cs g so_far.owned);
  mean = λ v i h. elim (same_or_below i k h) [
    | inl below ↦ ap (number (n.code v)) (get_before cs (x ∷ []) i (subst (λ j. i < j) (sym so_far.long) below)) ∙ code_stays m n cs g so_far.owned v i ∙ so_far.mean v i below
    | inr here ↦ ap (number (n.code v)) (ap (slice_get (cs ++ x ∷ [])) (here ∙ sym so_far.long) ∙ get_last cs x) ∙ means v ∙ ap (meaning v) (sym here)
  ];
}

-- past the end nothing is meant
both_past : (c : Bool) {Bit : Type 0} (f g : Bit → Bool) (ls bs : List Bit) (i : ℕ) → length ls ≤ i → length bs ≤ i → cond c (truth f (slice_get ls i)) (truth g (slice_get bs i)) ≡ false
both_past true f g ls bs i h k = ap (truth f) (slice_get_past ls i h)
both_past false f g ls bs i h k = ap (truth g) (slice_get_past bs i k)

-- the same of codes, whose meaning there is 0
both_codes_past : (c : Bool) {Code : Type 0} (f g : Code → ℕ) (ls bs : List Code) (i : ℕ) → length ls ≤ i → length bs ≤ i → cond c (number f (slice_get ls i)) (number g (slice_get bs i)) ≡ 0
both_codes_past true f g ls bs i h k = ap (number f) (slice_get_past ls i h)
both_codes_past false f g ls bs i h k = ap (number g) (slice_get_past bs i k)

-- bits chosen at all places mean what was chosen at every place
pub bits_done : {Bit Code : Type 0} (m l : Meanings Bit Code) (c : Valuation → Bool) (ls bs xs : List Bit) (k : ℕ) → BitsSoFar m (λ v i. cond (c v) (bit_at l v ls i) (bit_at l v bs i)) k xs → length ls ≤ k → length bs ≤ k
    → AreBits m (λ v i. cond (c v) (bit_at l v ls i) (bit_at l v bs i)) xs
bits_done m l c ls bs xs k so_far h j = record {
  owned = so_far.owned;
  mean = λ v i. elim (nat_lt i k) as (λ b. nat_lt i k ≡ b → bit_at m v xs i ≡ cond (c v) (bit_at l v ls i) (bit_at l v bs i)) [
    | true ↦ λ e. so_far.mean v i (ltb-true i k e)
    | false ↦ λ e. let past = ltb-false i k e in
        ap (truth (m.bit v)) (slice_get_past xs i (subst (λ n. n ≤ i) (sym so_far.long) past)) ∙ sym (both_past (c v) (l.bit v) (l.bit v) ls bs i (omega (arith, h, past)) (omega (arith, j, past)))
  ] refl;
}

-- and so do codes
pub codes_done : {Bit Code : Type 0} (m l : Meanings Bit Code) (c : Valuation → Bool) (ls bs xs : List Code) (k : ℕ) → CodesSoFar m (λ v i. cond (c v) (code_at l v ls i) (code_at l v bs i)) k xs → length ls ≤ k → length bs ≤ k
    → AreCodes m (λ v i. cond (c v) (code_at l v ls i) (code_at l v bs i)) xs
codes_done m l c ls bs xs k so_far h j = record {
  owned = so_far.owned;
  mean = λ v i. elim (nat_lt i k) as (λ b. nat_lt i k ≡ b → code_at m v xs i ≡ cond (c v) (code_at l v ls i) (code_at l v bs i)) [
    | true ↦ λ e. so_far.mean v i (ltb-true i k e)
    | false ↦ λ e. let past = ltb-false i k e in
        ap (number (m.code v)) (slice_get_past xs i (subst (λ n. n ≤ i) (sym so_far.long) past)) ∙ sym (both_codes_past (c v) (l.code v) (l.code v) ls bs i (omega (arith, h, past)) (omega (arith, j, past)))
  ] refl;
}

-- ---- the choice between cells

-- bits mean the same as bits grow, however it is told
pub bits_later : {Bit Code : Type 0} (m n : Meanings Bit Code) (f g : Valuation → ℕ → Bool) (bs : List Bit) → Grows m n → AreBits m f bs → ((v : Valuation) (i : ℕ) → f v i ≡ g v i) → AreBits n g bs
bits_later m n f g bs grows h e = record { owned = own_later m n bs grows h.owned; mean = λ v i. bit_stays m n bs grows h.owned v i ∙ h.mean v i ∙ e v i }

-- and so do codes
pub codes_later : {Bit Code : Type 0} (m n : Meanings Bit Code) (f g : Valuation → ℕ → ℕ) (cs : List Code) → Grows m n → AreCodes m f cs → ((v : Valuation) (i : ℕ) → f v i ≡ g v i) → AreCodes n g cs
codes_later m n f g cs grows h e = record { owned = own_codes_later m n cs grows h.owned; mean = λ v i. code_stays m n cs grows h.owned v i ∙ h.mean v i ∙ e v i }

-- what was chosen of bits that stayed
pub chosen_later : {Bit Code : Type 0} (l m : Meanings Bit Code) (w : Bit) (ls bs : List Bit) → Grows l m → l.owns w → AreOwnBits l ls → AreOwnBits l bs
    → (v : Valuation) (i : ℕ) → cond (m.bit v w) (bit_at m v ls i) (bit_at m v bs i) ≡ cond (l.bit v w) (bit_at l v ls i) (bit_at l v bs i)
chosen_later l m w ls bs g own a b v i = λ t. cond (g.bit w own v t) (bit_stays l m ls g a v i t) (bit_stays l m bs g b v i t)

-- and what was chosen of codes that stayed
pub chosen_codes_later : {Bit Code : Type 0} (l m : Meanings Bit Code) (w : Bit) (ls bs : List Code) → Grows l m → l.owns w → AreOwnCodes l ls → AreOwnCodes l bs
    → (v : Valuation) (i : ℕ) → cond (m.bit v w) (code_at m v ls i) (code_at m v bs i) ≡ cond (l.bit v w) (code_at l v ls i) (code_at l v bs i)
chosen_codes_later l m w ls bs g own a b v i = λ t. cond (g.bit w own v t) (code_stays l m ls g a v i t) (code_stays l m bs g b v i t)

-- a state that is chosen part by part is the one or the other
one_or_other : (c : Bool) (s t : State) → record { cell = λ i. record { present = cond c (s.cell i).present (t.cell i).present; folder = cond c (s.cell i).folder (t.cell i).folder; link = cond c (s.cell i).link (t.cell i).link; content = cond c (s.cell i).content (t.cell i).content }; error = cond c s.error t.error } ≡ cond c s t
one_or_other true s t = refl
one_or_other false s t = refl

-- cells whose bits and codes are chosen tell the one state or the other
pub chosen_state : {B Bit Code : Type 0} (l n : Meanings Bit Code) (w : Bit) (a b cells : Cells B Bit Code)
    → AreBits n (λ v i. cond (l.bit v w) (bit_at l v a.present i) (bit_at l v b.present i)) cells.present
    → AreBits n (λ v i. cond (l.bit v w) (bit_at l v a.folder i) (bit_at l v b.folder i)) cells.folder
    → AreBits n (λ v i. cond (l.bit v w) (bit_at l v a.link i) (bit_at l v b.link i)) cells.link
    → AreCodes n (λ v i. cond (l.bit v w) (code_at l v a.content i) (code_at l v b.content i)) cells.content
    → ((v : Valuation) → n.bit v cells.error ≡ cond (l.bit v w) (l.bit v a.error) (l.bit v b.error))
    → (v : Valuation) → state_of n v cells ≡ cond (l.bit v w) (state_of l v a) (state_of l v b)
chosen_state l n w a b cells p f k x e v =
    (λ t. record { cell = λ i. record { present = p.mean v i t; folder = f.mean v i t; link = k.mean v i t; content = x.mean v i t }; error = e v t })
    ∙ one_or_other (l.bit v w) (state_of l v a) (state_of l v b)

-- one place, seen from an earlier moment
pub chosen_at : {Bit Code : Type 0} (l m : Meanings Bit Code) (w : Bit) (ls bs : List Bit) (i : ℕ) (x y : Bit) → Grows l m → l.owns w → AreOwnBits l ls → AreOwnBits l bs → slice_get ls i ≡ Some x → slice_get bs i ≡ Some y
    → (v : Valuation) → cond (m.bit v w) (m.bit v x) (m.bit v y) ≡ cond (l.bit v w) (bit_at l v ls i) (bit_at l v bs i)
chosen_at l m w ls bs i x y g own a b at_a at_b v =
    (λ t. cond (g.bit w own v t) (g.bit x (a i x at_a) v t) (g.bit y (b i y at_b) v t)) ∙ sym (λ t. cond (l.bit v w) (truth (l.bit v) (at_a t)) (truth (l.bit v) (at_b t)))

-- and the same of codes
pub chosen_code_at : {Bit Code : Type 0} (l m : Meanings Bit Code) (w : Bit) (ls bs : List Code) (i : ℕ) (x y : Code) → Grows l m → l.owns w → AreOwnCodes l ls → AreOwnCodes l bs → slice_get ls i ≡ Some x → slice_get bs i ≡ Some y
    → (v : Valuation) → cond (m.bit v w) (m.code v x) (m.code v y) ≡ cond (l.bit v w) (code_at l v ls i) (code_at l v bs i)
chosen_code_at l m w ls bs i x y g own a b at_a at_b v =
    (λ t. cond (g.bit w own v t) (g.code x (a i x at_a) v t) (g.code y (b i y at_b) v t)) ∙ sym (λ t. cond (l.bit v w) (number (l.code v) (at_a t)) (number (l.code v) (at_b t)))

-- what stands at a place is what is read there
pub item_is : {X : Type 0} (xs : List X) (i : ℕ) (x d : X) → slice_get xs i ≡ Some x → slice_index_or xs i d ≡ x
item_is [] i x d h = cc
item_is (y ∷ xs) zero x d h = cc
item_is (y ∷ xs) (suc i) x d h = item_is xs i x d h
