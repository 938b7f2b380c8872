-- Reading as a function that gives a value or none, and what code answers for it.
use Rattle.std.specs.Prelude.{◌≡◌, List, ◌∷◌, ◌++◌, Option, Some, None, Result, Ok, Err}
use Rattle.rh_base.specs.declared.misread.Misread.{Misread}
use Rattle.rh_base.specs.declared.misread.Misread.TheVariants as misread

-- one reading after another: none, where either gives none
infixl 10 ◌>>=◌
abbrev pub ◌>>=◌ : {A B : Type 0} → Option A → (A → Option B) → Option B
(Some x) >>= f = f x
None >>= f = None

-- a list that is read with what is left, with one more in front
abbrev pub with_first : {X R : Type 0} → X → Option (List X × R) → Option (List X × R)
with_first x None = None
with_first x (Some r) = Some (x ∷ r.0, r.1)

-- what is read, behind what was read before
abbrev pub with_front : {X R : Type 0} → List X → Option (List X × R) → Option (List X × R)
with_front front None = None
with_front front (Some r) = Some (front ++ r.0, r.1)

-- an answer that isn't Ok: Form exactly where nothing is read; want of memory is free
abbrev pub Fails : {Y : Type 0} → Misread → Option Y → Type 0
Fails misread.Form read = read ≡ None
Fails (misread.Memory m) read = Unit {0}

-- what code answers, seen by view, is what is read
abbrev pub Gives : {X Y : Type 0} → (X → Y) → Result X Misread → Option Y → Type 0
Gives view (Ok x) read = read ≡ Some (view x)
Gives view (Err e) read = Fails e read
