-- A run of the program: what it was given, and what it left on its sinks.
use Rattle.std.specs.Prelude.{◌≡◌, ℕ, List, take, Option, Some, String}
use Rattle.std.specs.declared.alloc.Global.{Global}
use Rattle.rh_base.specs.Causes.{Rose}
use Rattle.rh_base.specs.Shelf.{Held}
use Rattle.rh_base.specs.Sink.{appended}

-- ---- what is put on a sink

-- a sink's bytes, where it tells them, and its count of faults, before and now
pub record Put : Type 0 where
  pub before : Option (List ℕ)
  pub now : Option (List ℕ)
  pub faults_before : ℕ
  pub faults_now : ℕ

-- what a sink tells, before and now
abbrev pub put_of : {S : Type 0} → (S → Option (List ℕ)) → (S → ℕ) → S → S → Put
put_of written faults old new = record { before = written old; now = written new; faults_before = faults old; faults_now = faults new }

-- just this was appended
abbrev pub Appends : List ℕ → Put → Type 0
Appends text sink = sink.now ≡ appended text sink.before

-- a front of the text was appended, perhaps none or all of it
abbrev pub AppendsFront : List ℕ → Put → Type 0
AppendsFront text sink = (n : ℕ) × Appends (take n text) sink

-- nothing was appended
abbrev pub IsLeft : Put → Type 0
IsLeft sink = sink.now ≡ sink.before

-- no put failed
abbrev pub IsSound : Put → Type 0
IsSound sink = sink.faults_now ≡ sink.faults_before

-- the count of faults rose
abbrev pub HasFailed : Put → Type 0
HasFailed sink = Rose sink.faults_before sink.faults_now

-- ---- a run of the program

-- the words, what the shelf tells and its count of faults before and now, and the two sinks
pub record Run : Type 0 where
  pub words : List (String Global)
  pub held : Held
  pub shelf_before : ℕ
  pub shelf_now : ℕ
  pub out : Put
  pub err : Put

-- the run of a shelf that tells so, with its count of faults, before and now
abbrev pub run_of : {S : Type 0} → List (String Global) → (S → Held) → (S → ℕ) → S → S → Put → Put → Run
run_of words holds faults old new out err = record { words = words; held = holds old; shelf_before = faults old; shelf_now = faults new; out = out; err = err }

-- what stands on a sink that never fails, before and now
abbrev pub sure_put : List ℕ → List ℕ → Put
sure_put before now = record { before = Some before; now = Some now; faults_before = 0; faults_now = 0 }

-- the run of a shelf that tells so and never fails
abbrev pub sure_run : List (String Global) → Held → Put → Put → Run
sure_run words held out err = record { words = words; held = held; shelf_before = 0; shelf_now = 0; out = out; err = err }
