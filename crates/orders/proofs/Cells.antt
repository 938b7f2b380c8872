-- Bits in rows of words.
use Rattle.std.proofs.Common.{◌≡◌, ◌≢◌, ℕ, Bool, true, false, ◌==◌, ◌+◌, ◌*◌, ◌/◌, ◌%◌, ◌^◌, ◌<◌, ◌⊎◌, inl, inr, ⊎_elim, List, length, set, refl, sym, ap, ◌∙◌, subst, arith, eq-eqb, ne_eqb, eqb-true, mul_comm}
use Rattle.std.specs.Prelude.{◌&&◌, ◌||◌, nat_eq, nat_lt, max, bit_or, slice_index}
use Rattle.std.specs.Int.{bit_at, w64}
use Rattle.std.proofs.lemmas.Bool.{cases_lt, cases_eq, lt-ltb, le-ltb}
use Rattle.std.proofs.lemmas.Nat.{same_from_place, mul-add-lt}
use Rattle.std.proofs.lemmas.Nat.Bits.{bit_at_or, bit_at-lt, bit_at_set_same, bit_at_set_other}
use Rattle.std.proofs.lemmas.List.{get_or-set_same, get_or-set_other}
use Rattle.orders.specs.Relation.{old_number}
use Rattle.orders.specs.Table.{width_of, cell}

-- a column stands in one of the row's words
pub column_within : (n b : ℕ) → b < n → b / 64 < width_of n
column_within n b h = omega arith

-- the word of a bit is one of the table
pub place_within : (n a b : ℕ) → a < n → b < n → a * width_of n + b / 64 < n * width_of n
place_within n a b h i = omega (arith, mul-add-lt a (width_of n) (b / 64) n h (column_within n b i), mul_comm (width_of n) n)

-- two bits in one word of the table stand in one row, and in one word of it
same_word : (n a b x y : ℕ) → b < n → y < n → x * width_of n + y / 64 ≡ a * width_of n + b / 64 → (x ≡ a) × (y / 64 ≡ b / 64)
same_word n a b x y h i e = same_from_place x (y / 64) a (b / 64) (width_of n) (column_within n y i) (column_within n b h) e

-- two equations between numbers are told as true
both : (x a y b : ℕ) → x ≡ a → y ≡ b → ((x == a) && (y == b)) ≡ true
both x a y b e f = rw (eq-eqb x a e) (eq-eqb y b f)

-- and as false where one of them fails
not_both : (x a y b : ℕ) → ((x ≡ a) × (y ≡ b) → ⊥) → ((x == a) && (y == b)) ≡ false
not_both x a y b h = elim (x == a) as (λ t. (x == a) ≡ t → (t && (y == b)) ≡ false) [
  | true ↦ λ e. ne_eqb y b (λ f. h (eqb-true x a e, f))
  | false ↦ λ e. refl
] refl

-- a bit is set
module _ (n : ℕ) (words : List ℕ) (a b x y : ℕ) (size : length words ≡ n * width_of n) (ha : a < n) (hb : b < n) (hy : y < n) where
  -- the word of the bit that is set
  abbrev at : ℕ
  at = a * width_of n + b / 64

  -- that word with the bit
  abbrev put : ℕ
  put = bit_or (slice_index words at) (1 * 2 ^ (b % 64) % 2 ^ 64)

  -- a bit of the table is set afterwards where it is the one that is set now, or was set before
  abbrev Goal : Type 0
  Goal = cell (width_of n) (set words at put) x y ≡ (((x == a) && (y == b)) || cell (width_of n) words x y)

  -- at other words nothing changes
  elsewhere : (x * width_of n + y / 64 ≢ at) → Goal
  elsewhere ne =
      ap (λ v. nat_eq (bit_at v (y % 64)) 1) (get_or-set_other words at (x * width_of n + y / 64) put 0 ne)
      ∙ ap (λ t. t || cell (width_of n) words x y) (sym (not_both x a y b (λ h. ne (ap (λ v. v * width_of n + y / 64) h.0 ∙ ap (λ v. a * width_of n + v / 64) h.1))))

  -- the word is what was put there
  word_is : x * width_of n + y / 64 ≡ at → slice_index (set words at put) (x * width_of n + y / 64) ≡ put
  word_is e = ap (slice_index (set words at put)) e ∙ get_or-set_same words at put 0 (rw size (place_within n a b ha hb))

  -- at the bit itself it is set
  same_bit : x * width_of n + y / 64 ≡ at → y % 64 ≡ b % 64 → Goal
  same_bit e f =
      let s = same_word n a b x y hb hy e in
      let h : y ≡ b = omega (arith, s.1) in
      ap (λ v. nat_eq (bit_at v (y % 64)) 1) (word_is e)
      ∙ ap (λ v. nat_eq v 1) (ap (bit_at put) f ∙ bit_at_set_same w64 (slice_index words at) (b % 64) (omega arith))
      ∙ ap (λ t. t || cell (width_of n) words x y) (sym (both x a y b s.0 h))

  -- at other bits of the word nothing changes
  other_bit : x * width_of n + y / 64 ≡ at → (y % 64 ≢ b % 64) → Goal
  other_bit e ne =
      ap (λ v. nat_eq (bit_at v (y % 64)) 1) (word_is e)
      ∙ ap (λ v. nat_eq v 1) (bit_at_set_other w64 (slice_index words at) (b % 64) (omega arith) (y % 64) ne)
      ∙ ap (λ j. nat_eq (bit_at (slice_index words j) (y % 64)) 1) (sym e)
      ∙ ap (λ t. t || cell (width_of n) words x y) (sym (not_both x a y b (λ h. ne (ap (λ v. v % 64) h.1))))

  -- to set a bit of the table sets just that one
  pub cell_set : Goal
  cell_set = ⊎_elim (λ e. ⊎_elim (same_bit e) (other_bit e) (cases_eq (y % 64) (b % 64))) elsewhere (cases_eq (x * width_of n + y / 64) at)

-- the first k words of the row at `from` have been added to those of the row at `to`
pub record IsRowAdded (to from k : ℕ) (old new : List ℕ) : Type 0 where
  pub added : (i : ℕ) → i < k → slice_index new (to + i) ≡ bit_or (slice_index old (to + i)) (slice_index old (from + i))
  pub others : (j : ℕ) → ((i : ℕ) → i < k → j ≢ to + i) → slice_index new j ≡ slice_index old j

-- one word more
module _ (w t f k : ℕ) (old words : List ℕ) (within : k < w) (size : t * w + k < length words) (h : IsRowAdded (t * w) (f * w) k old words) where
  -- the two words of the rows, bit by bit
  abbrev sum : ℕ
  sum = bit_or (slice_index words (t * w + k)) (slice_index words (f * w + k))

  -- it is what is to be added
  sum_is : sum ≡ bit_or (slice_index old (t * w + k)) (slice_index old (f * w + k))
  sum_is =
      ap (λ v. bit_or v (slice_index words (f * w + k))) (h.others (t * w + k) (λ i l e. omega arith))
      ∙ ap (bit_or (slice_index old (t * w + k))) (h.others (f * w + k) (λ i l e. let s = same_from_place f k t i w within (omega arith) e in omega (arith, s.1)))

  -- the earlier words have been added
  earlier : (i : ℕ) → i < k → slice_index (set words (t * w + k) sum) (t * w + i) ≡ bit_or (slice_index old (t * w + i)) (slice_index old (f * w + i))
  earlier i l = get_or-set_other words (t * w + k) (t * w + i) sum 0 (λ e. omega arith) ∙ h.added i l

  -- and this one
  latest : (i : ℕ) → i ≡ k → slice_index (set words (t * w + k) sum) (t * w + i) ≡ bit_or (slice_index old (t * w + i)) (slice_index old (f * w + i))
  latest i e =
      let P : ℕ → Type 0 = λ j. slice_index (set words (t * w + k) sum) (t * w + j) ≡ bit_or (slice_index old (t * w + j)) (slice_index old (f * w + j)) in
      subst P (sym e) (get_or-set_same words (t * w + k) sum 0 size ∙ sum_is)

  -- one word more of the row is added
  pub row_more : IsRowAdded (t * w) (f * w) (k + 1) old (set words (t * w + k) sum)
  row_more = record {
    added = λ i l. ⊎_elim (earlier i) (λ m. latest i (omega arith)) (cases_lt i k);
    others = λ j ne. get_or-set_other words (t * w + k) j sum 0 (ne k (omega arith)) ∙ h.others j (λ i l. ne i (omega arith));
  }

-- a bit is 0 or 1
bit_cases : (p : ℕ) → p < 2 → (p ≡ 0) ⊎ (p ≡ 1)
bit_cases p h = ⊎_elim (λ l. inl (omega arith)) (λ l. inr (omega arith)) (cases_lt p 1)

-- the greater of two bits is set exactly where one is
or_test : (p q : ℕ) → p < 2 → q < 2 → nat_eq (max p q) 1 ≡ (nat_eq q 1 || nat_eq p 1)
or_test p q hp hq =
    let P : ℕ → ℕ → Type 0 = λ v w. nat_eq (max v w) 1 ≡ (nat_eq w 1 || nat_eq v 1) in
    ⊎_elim
    (λ e. ⊎_elim (λ f. subst (λ (v : ℕ). P v q) (sym e) (subst (λ (w : ℕ). P 0 w) (sym f) refl)) (λ f. subst (λ (v : ℕ). P v q) (sym e) (subst (λ (w : ℕ). P 0 w) (sym f) refl)) (bit_cases q hq))
    (λ e. ⊎_elim (λ f. subst (λ (v : ℕ). P v q) (sym e) (subst (λ (w : ℕ). P 1 w) (sym f) refl)) (λ f. subst (λ (v : ℕ). P v q) (sym e) (subst (λ (w : ℕ). P 1 w) (sym f) refl)) (bit_cases q hq)) (bit_cases p hp)

-- all words of the row are added, where as many as its width are
pub row_end : (n t f w k : ℕ) (old words : List ℕ) → w ≡ width_of n → k ≡ w → IsRowAdded (t * w) (f * w) k old words → IsRowAdded (t * width_of n) (f * width_of n) (width_of n) old words
row_end n t f w k old words e d h =
    let P : ℕ → Type 0 = λ v. IsRowAdded (t * v) (f * v) v old words in
    let Q : ℕ → Type 0 = λ v. IsRowAdded (t * w) (f * w) v old words in
    subst P e (subst Q d h)

-- a word of a row is one of the table
pub row_within : (n t w k len : ℕ) → w ≡ width_of n → len ≡ n * width_of n → t < n → k < w → t * w + k < len
row_within n t w k len e size ht hk = omega (arith, mul-add-lt t w k n ht hk, mul_comm w n, ap (λ v. n * v) e)

-- the whole row
pub row_all : (n t f : ℕ) (old words : List ℕ) → IsRowAdded (t * width_of n) (f * width_of n) (width_of n) old words → (x y : ℕ) → x < n → y < n
    → cell (width_of n) words x y ≡ (((x == t) && cell (width_of n) old f y) || cell (width_of n) old x y)
row_all n t f old words h x y hx hy = ⊎_elim here there (cases_eq x t)
  where
    here : x ≡ t → cell (width_of n) words x y ≡ (((x == t) && cell (width_of n) old f y) || cell (width_of n) old x y)
    here e =
        let P : ℕ → Type 0 = λ v. cell (width_of n) words v y ≡ (((v == t) && cell (width_of n) old f y) || cell (width_of n) old v y) in
        subst P (sym e)
        (ap (λ v. nat_eq (bit_at v (y % 64)) 1) (h.added (y / 64) (column_within n y hy))
        ∙ ap (λ v. nat_eq v 1) (bit_at_or (slice_index old (t * width_of n + y / 64)) (slice_index old (f * width_of n + y / 64)) (y % 64))
        ∙ or_test (bit_at (slice_index old (t * width_of n + y / 64)) (y % 64)) (bit_at (slice_index old (f * width_of n + y / 64)) (y % 64)) (bit_at-lt _ _) (bit_at-lt _ _)
        ∙ ap (λ b. (b && cell (width_of n) old f y) || cell (width_of n) old t y) (sym (eq-eqb t t refl)))

    there : (x ≢ t) → cell (width_of n) words x y ≡ (((x == t) && cell (width_of n) old f y) || cell (width_of n) old x y)
    there ne =
        ap (λ v. nat_eq (bit_at v (y % 64)) 1) (h.others (x * width_of n + y / 64) (λ i l e. ne (same_from_place x (y / 64) t i (width_of n) (column_within n y hy) l e).0))
        ∙ ap (λ b. (b && cell (width_of n) old f y) || cell (width_of n) old x y) (sym (ne_eqb x t ne))

-- the first b bits of row a have been copied, node r left out
abbrev pub IsRowCopied : ℕ → ℕ → ℕ → ℕ → List ℕ → List ℕ → List ℕ → Type 0
IsRowCopied n r a b from old new = (x y : ℕ) → x < n → y < n
    → cell (width_of n) new x y ≡ (((x == a) && (nat_lt y b && cell (width_of (n + 1)) from (old_number r a) (old_number r y))) || cell (width_of n) old x y)

-- the truth values at the bit that is copied now
cases_here : (p e l m s o : Bool) → e ≡ true → l ≡ false → m ≡ true → s ≡ true → ((p && e) || ((p && (l && s)) || o)) ≡ ((p && (m && s)) || o)
cases_here true true l true true o he hl hm hs = refl
cases_here false e l m s o he hl hm hs = refl
cases_here true true l true false o he hl hm hs = cc
cases_here true true l false s o he hl hm hs = cc
cases_here true false l m s o he hl hm hs = cc

-- the truth values at other bits of the row
cases_there : (p e l m s o : Bool) → e ≡ false → m ≡ l → ((p && e) || ((p && (l && s)) || o)) ≡ ((p && (m && s)) || o)
cases_there false e l m s o he hm = refl
cases_there true false l m s o he hm = ap (λ v. (v && s) || o) (sym hm)
cases_there true true l m s o he hm = cc

-- the truth values where the bit isn't set
cases_skip : (p l m s o : Bool) → s ≡ false → ((p && (l && s)) || o) ≡ ((p && (m && s)) || o)
cases_skip false l m s o hs = refl
cases_skip true true true s o hs = refl
cases_skip true false false s o hs = refl
cases_skip true true false s o hs = ap (λ v. v || o) hs
cases_skip true false true s o hs = ap (λ v. v || o) (sym hs)

-- of other numbers the same are below the next one
next_lt : (y b : ℕ) → (y ≢ b) → nat_lt y (b + 1) ≡ nat_lt y b
next_lt y b ne = ⊎_elim (λ l. lt-ltb y (b + 1) (omega arith) ∙ sym (lt-ltb y b l)) (λ l. le-ltb y (b + 1) (omega arith) ∙ sym (le-ltb y b l)) (cases_lt y b)

module _ (n r a b : ℕ) (from old into new : List ℕ) (so_far : IsRowCopied n r a b from old into) where
  -- the bit of the table with one node more, from which is copied
  abbrev told : ℕ → Bool
  told y = cell (width_of (n + 1)) from (old_number r a) (old_number r y)

  -- a bit that is set there has been set here
  pub copied_set : told b ≡ true → ((x y : ℕ) → x < n → y < n → cell (width_of n) new x y ≡ (((x == a) && (y == b)) || cell (width_of n) into x y)) → IsRowCopied n r a (b + 1) from old new
  copied_set t put x y hx hy =
      put x y hx hy ∙ ap (λ v. ((x == a) && (y == b)) || v) (so_far x y hx hy)
      ∙ ⊎_elim
      (λ e. cases_here (x == a) (y == b) (nat_lt y b) (nat_lt y (b + 1)) (told y) (cell (width_of n) old x y) (eq-eqb y b e) (le-ltb y b (omega arith)) (lt-ltb y (b + 1) (omega arith)) (ap told e ∙ t))
      (λ ne. cases_there (x == a) (y == b) (nat_lt y b) (nat_lt y (b + 1)) (told y) (cell (width_of n) old x y) (ne_eqb y b ne) (next_lt y b ne)) (cases_eq y b)

  -- a bit that isn't set there has been left
  pub copied_skip : told b ≡ false → ((x y : ℕ) → x < n → y < n → cell (width_of n) new x y ≡ cell (width_of n) into x y) → IsRowCopied n r a (b + 1) from old new
  copied_skip t kept x y hx hy =
      kept x y hx hy ∙ so_far x y hx hy
      ∙ ⊎_elim
      (λ e. cases_skip (x == a) (nat_lt y b) (nat_lt y (b + 1)) (told y) (cell (width_of n) old x y) (ap told e ∙ t))
      (λ ne. ap (λ v. ((x == a) && (v && told y)) || cell (width_of n) old x y) (sym (next_lt y b ne))) (cases_eq y b)
