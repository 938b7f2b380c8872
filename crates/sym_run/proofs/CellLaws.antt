-- Cells of inputs tell whatever is wanted.
use Rattle.std.proofs.Common.{◌≡◌, ◌⊎◌, inl, inr, ℕ, zero, suc, ◌+◌, ◌-◌, ◌*◌, ◌/◌, ◌%◌, ◌<◌, ◌≤◌, Bool, true, false, cond, List, [], ◌∷◌, length, Some, slice_get, refl, sym, ap, subst, ◌∙◌, arith, nat_lt}
use Rattle.std.proofs.lemmas.Bool.{lt-ltb, le-ltb}
use Rattle.std.proofs.lemmas.Nat.{div-mul-add}
use Rattle.std.proofs.Math.Nat.{mod-add-div'}
use Rattle.std.proofs.lemmas.Option.{slice_get-get_or, slice_get_within}
use Rattle.std.specs.List.{AllByRecursion}
use Rattle.std.specs.Prelude.{get_or}
use Rattle.bool_circuit.specs.declared.gate.Wire.{Wire}
use Rattle.bool_circuit.specs.declared.gate.Gate.{Gate}
use Rattle.bool_circuit.specs.Gates.{wire_value}
use Rattle.fs_interpreter.specs.Meanings.{Valuation}
use Rattle.fs_interpreter.specs.States.{Cell, AreCells, cell_at, truth, number as number_at}
use Rattle.fs_interpreter.specs.declared.cells.Cells.{Cells}
use Rattle.sym_run.specs.Wires.{number, circuit_meanings, AreWires}
use Rattle.sym_run.specs.Numbers.{twice, digit}
use Rattle.sym_run.specs.Inputs.{AreInputs, AreInputRows, AreInputCells, AgreeOutside}
use Rattle.sym_run.proofs.InputLaws.{input_at, row_at, inputs_are_wires, digits_are, number_same}

-- ---- valuations with other values at n inputs from k on

-- the valuation with these values at the n inputs from k on, and elsewhere as before
abbrev pub with_range : ℕ → ℕ → (ℕ → Bool) → Valuation → Valuation
with_range k n f u j = cond (nat_lt j k) (u j) (cond (nat_lt j (k + n)) (f (j - k)) (u j))

-- at these inputs it has these values
pub in_range : (k n : ℕ) (f : ℕ → Bool) (u : Valuation) (i : ℕ) → i < n → with_range k n f u (k + i) ≡ f i
in_range k n f u i h =
    ap (λ b. cond b (u (k + i)) (cond (nat_lt (k + i) (k + n)) (f (k + i - k)) (u (k + i)))) (le-ltb (k + i) k (omega arith))
    ∙ ap (λ b. cond b (f (k + i - k)) (u (k + i))) (lt-ltb (k + i) (k + n) (omega (arith, h)))
    ∙ ap f (omega arith)

-- and elsewhere it is as before
pub out_of_range : (k n : ℕ) (f : ℕ → Bool) (u : Valuation) (j : ℕ) → (j < k) ⊎ (k + n ≤ j) → with_range k n f u j ≡ u j
out_of_range k n f u j (inl h) = ap (λ b. cond b (u j) (cond (nat_lt j (k + n)) (f (j - k)) (u j))) (lt-ltb j k h)
out_of_range k n f u j (inr h) = ap (λ b. cond (nat_lt j k) (u j) (cond b (f (j - k)) (u j))) (le-ltb j (k + n) h) ∙ flat (nat_lt j k)
  where
    flat : (b : Bool) → cond b (u j) (u j) ≡ u j
    flat true = refl
    flat false = refl

-- the digits of many numbers, one after the other
abbrev row_digits : ℕ → (ℕ → ℕ) → ℕ → Bool
row_digits width f x = digit width (f (x / width)) (x % width)

-- within a row of digits stand those of its number
row_digit : (width : ℕ) (f : ℕ → ℕ) (i j : ℕ) → j < width → row_digits width f (i * width + j) ≡ digit width (f i) j
row_digit width f i j h =
    let whole = div-mul-add i width j h in
    let rest : (i * width + j) % width ≡ j = let both = mod-add-div' (i * width + j) width in let same = ap (λ q. q * width) whole in omega (arith, both, same) in
    (λ t. digit width (f (whole t)) (rest t))

-- such values for all cells: the codes', and further ahead those of the bits
abbrev digits_in : ℕ → ℕ → ℕ → (ℕ → Cell) → Valuation → Valuation
digits_in k n width want u = with_range (k + n + n + n) (n * width) (row_digits width (λ i. (want i).content)) u

-- the same with the bits that tell links
abbrev links_in : ℕ → ℕ → ℕ → (ℕ → Cell) → Valuation → Valuation
links_in k n width want u = with_range (k + n + n) n (λ i. (want i).link) (digits_in k n width want u)

-- and with those that tell folders
abbrev folders_in : ℕ → ℕ → ℕ → (ℕ → Cell) → Valuation → Valuation
folders_in k n width want u = with_range (k + n) n (λ i. (want i).folder) (links_in k n width want u)

-- and with those that tell presence: all cells tell what is wanted
abbrev wanted : ℕ → ℕ → ℕ → (ℕ → Cell) → Valuation → Valuation
wanted k n width want u = with_range k n (λ i. (want i).present) (folders_in k n width want u)

-- outside the bits of presence it has the values without them
behind_present : (k n width : ℕ) (want : ℕ → Cell) (u : Valuation) (j : ℕ) → (j < k) ⊎ (k + n ≤ j) → wanted k n width want u j ≡ folders_in k n width want u j
behind_present k n width want u j h = out_of_range k n (λ i. (want i).present) (folders_in k n width want u) j h

-- outside the bits of folders it has the values without them
behind_folder : (k n width : ℕ) (want : ℕ → Cell) (u : Valuation) (j : ℕ) → (j < k + n) ⊎ (k + n + n ≤ j) → folders_in k n width want u j ≡ links_in k n width want u j
behind_folder k n width want u j h = out_of_range (k + n) n (λ i. (want i).folder) (links_in k n width want u) j h

-- outside the bits of links it has the values without them
behind_link : (k n width : ℕ) (want : ℕ → Cell) (u : Valuation) (j : ℕ) → (j < k + n + n) ⊎ (k + n + n + n ≤ j) → links_in k n width want u j ≡ digits_in k n width want u j
behind_link k n width want u j h = out_of_range (k + n + n) n (λ i. (want i).link) (digits_in k n width want u) j h

-- outside the digits it is as before
behind_digits : (k n width : ℕ) (want : ℕ → Cell) (u : Valuation) (j : ℕ) → (j < k + n + n + n) ⊎ (k + n + n + n + n * width ≤ j) → digits_in k n width want u j ≡ u j
behind_digits k n width want u j h = out_of_range (k + n + n + n) (n * width) (row_digits width (λ i. (want i).content)) u j h

-- the valuation differs at most at the inputs of the cells
wanted_elsewhere : (k n width : ℕ) (want : ℕ → Cell) (u : Valuation) → AgreeOutside k (k + n + n + n + n * width) u (wanted k n width want u)
wanted_elsewhere k n width want u j h =
    behind_present k n width want u j (apart k (k + n) (omega arith) (omega arith) h)
    ∙ behind_folder k n width want u j (apart (k + n) (k + n + n) (omega arith) (omega arith) h)
    ∙ behind_link k n width want u j (apart (k + n + n) (k + n + n + n) (omega arith) (omega arith) h)
    ∙ behind_digits k n width want u j (apart (k + n + n + n) (k + n + n + n + n * width) (omega arith) (omega arith) h)
  where
    apart : (l m : ℕ) → k ≤ l → m ≤ k + n + n + n + n * width → (j < k) ⊎ (k + n + n + n + n * width ≤ j) → (j < l) ⊎ (m ≤ j)
    apart l m low high (inl below) = inl (omega (arith, low, below))
    apart l m low high (inr above) = inr (omega (arith, high, above))

-- the input for presence at a place has the value that is wanted
wanted_present : (k n width : ℕ) (want : ℕ → Cell) (u : Valuation) (i : ℕ) → i < n → wanted k n width want u (k + i) ≡ (want i).present
wanted_present k n width want u i h = in_range k n (λ m. (want m).present) (folders_in k n width want u) i h

-- and so has the one for a folder
wanted_folder : (k n width : ℕ) (want : ℕ → Cell) (u : Valuation) (i : ℕ) → i < n → wanted k n width want u (k + n + i) ≡ (want i).folder
wanted_folder k n width want u i h = behind_present k n width want u (k + n + i) (inr (omega arith)) ∙ in_range (k + n) n (λ m. (want m).folder) (links_in k n width want u) i h

-- and the one for a link
wanted_link : (k n width : ℕ) (want : ℕ → Cell) (u : Valuation) (i : ℕ) → i < n → wanted k n width want u (k + n + n + i) ≡ (want i).link
wanted_link k n width want u i h = behind_present k n width want u (k + n + n + i) (inr (omega arith)) ∙ behind_folder k n width want u (k + n + n + i) (inr (omega arith))
    ∙ in_range (k + n + n) n (λ m. (want m).link) (digits_in k n width want u) i h

-- a digit of one of n rows is one of all their digits
row_inside : (i n width j : ℕ) → i < n → j < width → i * width + j < n * width
row_inside i zero width j h l = absurd (omega (arith, h))
row_inside zero (suc n) width j h l = omega (arith, l)
row_inside (suc i) (suc n) width j h l = let below = row_inside i n width j (omega (arith, h)) l in omega (arith, below)

-- the inputs of a code are the digits of the number that is wanted
wanted_digit : (k n width : ℕ) (want : ℕ → Cell) (u : Valuation) (i j : ℕ) → i < n → j < width → wanted k n width want u (k + n + n + n + i * width + j) ≡ digit width (want i).content j
wanted_digit k n width want u i j h l =
    let x = k + n + n + n + i * width + j in
    let same : k + n + n + n + i * width + j ≡ k + n + n + n + (i * width + j) = omega arith in
    behind_present k n width want u x (inr (omega arith)) ∙ behind_folder k n width want u x (inr (omega arith)) ∙ behind_link k n width want u x (inr (omega arith))
    ∙ ap (digits_in k n width want u) same
    ∙ in_range (k + n + n + n) (n * width) (row_digits width (λ m. (want m).content)) u (i * width + j) (row_inside i n width j h l)
    ∙ row_digit width (λ m. (want m).content) i j l

-- ---- the cells

-- cells of inputs are cells of the circuit
pub input_cells_own : {B : Type 0} (gates : List Gate) (k n width : ℕ) (cells : Cells B Wire (List Wire)) → AreInputCells gates k n width cells → AreCells (circuit_meanings gates) cells
input_cells_own gates k n width cells is = record {
  folders = is.folders ∙ sym is.presents;
  links = is.links ∙ sym is.presents;
  contents = is.contents ∙ sym is.presents;
  present = λ i w h. (input_at gates k cells.present i w is.present h).0;
  folder = λ i w h. (input_at gates (k + n) cells.folder i w is.folder h).0;
  link = λ i w h. (input_at gates (k + n + n) cells.link i w is.link h).0;
  content = λ i ws h. let row = row_at gates width (k + n + n + n) cells.content i ws is.content h in inputs_are_wires gates _ ws row.1;
  error = is.error;
}

-- a bit among inputs has the value of its input
bit_told : (gates : List Gate) (k : ℕ) (ws : List Wire) (i : ℕ) (v : Valuation) → AreInputs gates k ws → i < length ws → truth (λ (w : Wire). wire_value gates v w.0) (slice_get ws i) ≡ v (k + i)
bit_told gates k ws i v is h =
    let w = get_or ws i record { 0 = 0 } in
    let at = slice_get-get_or ws i record { 0 = 0 } h in
    ap (truth (λ (x : Wire). wire_value gates v x.0)) at ∙ (input_at gates k ws i w is at).1 v

-- a row whose inputs are the digits of a number tells it
code_told : (gates : List Gate) (width k : ℕ) (rows : List (List Wire)) (i m : ℕ) (v : Valuation) → AreInputRows gates width k rows → i < length rows → m < twice width
    → ((j : ℕ) → j < width → v (k + i * width + j) ≡ digit width m j) → number_at (λ ws. number (wire_value gates v) ws) (slice_get rows i) ≡ m
code_told gates width k rows i m v is h small digits =
    let ws = get_or rows i [] in
    let at = slice_get-get_or rows i [] h in
    let row = row_at gates width k rows i ws is at in
    ap (number_at (λ xs. number (wire_value gates v) xs)) at ∙ digits_are gates (k + i * width) width ws m v row.1 row.0 small digits

-- some valuation makes them tell what is wanted, whatever the other inputs are
pub cells_as_wanted : {B : Type 0} (gates : List Gate) (k n width : ℕ) (cells : Cells B Wire (List Wire)) (want : ℕ → Cell) (u : Valuation) → AreInputCells gates k n width cells → ((i : ℕ) → i < n → (want i).content < twice width)
    → (v : Valuation) × AgreeOutside k (k + n + n + n + n * width) u v × ((i : ℕ) → i < n → cell_at (circuit_meanings gates) v cells i ≡ want i)
cells_as_wanted gates k n width cells want u is small = let v = wanted k n width want u in (
  v,
  wanted_elsewhere k n width want u,
  λ i h t. record {
    present = (bit_told gates k cells.present i v is.present (subst (λ m. i < m) (sym is.presents) h) ∙ wanted_present k n width want u i h) t;
    folder = (bit_told gates (k + n) cells.folder i v is.folder (subst (λ m. i < m) (sym is.folders) h) ∙ wanted_folder k n width want u i h) t;
    link = (bit_told gates (k + n + n) cells.link i v is.link (subst (λ m. i < m) (sym is.links) h) ∙ wanted_link k n width want u i h) t;
    content = code_told gates width (k + n + n + n) cells.content i (want i).content v is.content (subst (λ m. i < m) (sym is.contents) h) (small i h) (λ j l. wanted_digit k n width want u i j h l) t;
  },
)

-- ---- codes

-- a code of inputs tells each number that it has room for, whatever the other inputs are
pub code_every : (gates : List Gate) (k m width : ℕ) (ws : List Wire) → AreInputs gates k ws → length ws ≡ width → m ≡ k + width → (u : Valuation) (x : ℕ) → x < twice width
    → (v : Valuation) × AgreeOutside k m u v × (number (wire_value gates v) ws ≡ x)
code_every gates k m width ws is long end u x small = let v = with_range k width (digit width x) u in (
  v,
  (λ j h. out_of_range k width (digit width x) u j (subst (λ e. (j < k) ⊎ (e ≤ j)) end h)),
  digits_are gates k width ws x v is long small (λ j l. in_range k width (digit width x) u j l),
)

-- and so do many codes, each its own number
pub rows_every : (gates : List Gate) (k m n width : ℕ) (rows : List (List Wire)) → AreInputRows gates width k rows → length rows ≡ n → m ≡ k + n * width → (u : Valuation) (want : ℕ → ℕ) → ((i : ℕ) → i < n → want i < twice width)
    → (v : Valuation) × AgreeOutside k m u v × ((i : ℕ) (ws : List Wire) → slice_get rows i ≡ Some ws → number (wire_value gates v) ws ≡ want i)
rows_every gates k m n width rows is long end u want small = let v = with_range k (n * width) (row_digits width want) u in (
  v,
  (λ j h. out_of_range k (n * width) (row_digits width want) u j (subst (λ e. (j < k) ⊎ (e ≤ j)) end h)),
  (λ i ws at.
      let row = row_at gates width k rows i ws is at in
      let within = slice_get_within rows i ws at in
      let below : i < n = subst (λ e. i < e) long within in
      digits_are gates (k + i * width) width ws (want i) v row.1 row.0 (small i below) (λ j l.
      ap v (shift i j) ∙ in_range k (n * width) (row_digits width want) u (i * width + j) (row_inside i n width j below l) ∙ row_digit width want i j l)),
)
  where
    shift : (i j : ℕ) → k + i * width + j ≡ k + (i * width + j)
    shift i j = omega arith

-- a code of inputs tells the same where those inputs are the same
pub code_same : (gates : List Gate) (k m width : ℕ) (ws : List Wire) → AreInputs gates k ws → length ws ≡ width → m ≡ k + width → (u v : Valuation) → ((i : ℕ) → k ≤ i → i < m → u i ≡ v i)
    → number (wire_value gates u) ws ≡ number (wire_value gates v) ws
code_same gates k m width ws is long end u v same = number_same gates k ws u v is (λ j l. same (k + j) (omega arith) (omega (arith, l, long, end)))

-- and so do many codes
pub rows_same : (gates : List Gate) (k m n width : ℕ) (rows : List (List Wire)) → AreInputRows gates width k rows → length rows ≡ n → m ≡ k + n * width → (u v : Valuation) → ((i : ℕ) → k ≤ i → i < m → u i ≡ v i)
    → (i : ℕ) (ws : List Wire) → slice_get rows i ≡ Some ws → number (wire_value gates u) ws ≡ number (wire_value gates v) ws
rows_same gates k m n width rows is long end u v same i ws at =
    let row = row_at gates width k rows i ws is at in
    let within = slice_get_within rows i ws at in
    let below : i < n = subst (λ e. i < e) long within in
    number_same gates (k + i * width) ws u v row.1 (λ j l.
    let inside = row_inside i n width j below (subst (λ e. j < e) row.0 l) in
    same (k + i * width + j) (omega arith) (omega (arith, inside, end)))

-- the rows of inputs are wires of the circuit
pub rows_are_wires : (gates : List Gate) (width k : ℕ) (rows : List (List Wire)) → AreInputRows gates width k rows → AllByRecursion (AreWires gates) rows
rows_are_wires gates width k [] h = tt
rows_are_wires gates width k (ws ∷ rows) h = (inputs_are_wires gates k ws h.1, rows_are_wires gates width (k + width) rows h.2)
