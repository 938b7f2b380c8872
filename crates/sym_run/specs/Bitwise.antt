-- Lists of bits and codes, place by place.
use Rattle.std.specs.Prelude.{◌≡◌, ℕ, ◌<◌, Bool, List, Some, slice_get, length}
use Rattle.fs_interpreter.specs.Meanings.{Valuation, Meanings}
use Rattle.fs_interpreter.specs.States.{truth, number}

-- all of them are one's own
abbrev pub AreOwnBits : {Bit Code : Type 0} → Meanings Bit Code → List Bit → Type 0
AreOwnBits {Bit} m bs = (i : ℕ) (b : Bit) → slice_get bs i ≡ Some b → m.owns b

abbrev pub AreOwnCodes : {Bit Code : Type 0} → Meanings Bit Code → List Code → Type 0
AreOwnCodes {Bit} {Code} m cs = (i : ℕ) (c : Code) → slice_get cs i ≡ Some c → m.owns_code c

-- what the bit at a place means, and the code
abbrev pub bit_at : {Bit Code : Type 0} → Meanings Bit Code → Valuation → List Bit → ℕ → Bool
bit_at m v bs i = truth (m.bit v) (slice_get bs i)

abbrev pub code_at : {Bit Code : Type 0} → Meanings Bit Code → Valuation → List Code → ℕ → ℕ
code_at m v cs i = number (m.code v) (slice_get cs i)

-- the bits are one's own, and each means this
pub record AreBits {Bit Code : Type 0} (m : Meanings Bit Code) (meaning : Valuation → ℕ → Bool) (bs : List Bit) : Type 0 where
  pub owned : AreOwnBits m bs
  pub mean : (v : Valuation) (i : ℕ) → bit_at m v bs i ≡ meaning v i

-- the same of codes
pub record AreCodes {Bit Code : Type 0} (m : Meanings Bit Code) (meaning : Valuation → ℕ → ℕ) (cs : List Code) : Type 0 where
  pub owned : AreOwnCodes m cs
  pub mean : (v : Valuation) (i : ℕ) → code_at m v cs i ≡ meaning v i

-- the bits at the first k places are one's own, and mean this
pub record BitsSoFar {Bit Code : Type 0} (m : Meanings Bit Code) (meaning : Valuation → ℕ → Bool) (k : ℕ) (bs : List Bit) : Type 0 where
  pub long : length bs ≡ k
  pub owned : AreOwnBits m bs
  pub mean : (v : Valuation) (i : ℕ) → i < k → bit_at m v bs i ≡ meaning v i

-- the same of codes
pub record CodesSoFar {Bit Code : Type 0} (m : Meanings Bit Code) (meaning : Valuation → ℕ → ℕ) (k : ℕ) (cs : List Code) : Type 0 where
  pub long : length cs ≡ k
  pub owned : AreOwnCodes m cs
  pub mean : (v : Valuation) (i : ℕ) → i < k → code_at m v cs i ≡ meaning v i
