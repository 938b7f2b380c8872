-- Two programs between the same others, run in either order.
use Rattle.std.proofs.Common.{◌≡◌, ℕ, Bool, true, false, inl, inr, List, [], ◌∷◌, ◌++◌, map, Some, None, Result, Ok, Err, IfOk, get_or, refl, sym, ap, subst, ◌∙◌}
use Rattle.std.specs.Prelude.{◌↔◌, IsTrue}
use Rattle.std.specs.List.{AllByRecursion}
use Rattle.fs_semantics.specs.FileTree.{Tree, IsTree}
use Rattle.fs_semantics.specs.Programs.{Outcome, Program, Id, and_then, run}
use Rattle.fs_semantics.specs.Orders.{outcome}
use Rattle.fs_lang.specs.Meaning.{program_of}
use Rattle.fs_interpreter.specs.Meanings.{plain_meanings}
use Rattle.fs_interpreter.specs.Places.{Listed}
use Rattle.fs_interpreter.specs.States.{State, state_of}
use Rattle.fs_interpreter.specs.Standing.{StandsFor}
use Rattle.fs_interpreter.specs.declared.cells.Cells.{Cells}
use Rattle.fs_interpreter.specs.declared.plain.Plain.{Plain}
use Rattle.fs_replay.specs.Told.{plain_state}
use Rattle.fs_replay.specs.declared.exchange.Exchange.{Exchange}
use Rattle.fs_replay.specs.declared.ground.Ground.{Ground}
use Rattle.fs_replay.specs.Exchanged.{IsGround, StandOn, HoldTheSame, AreAlike}
use Rattle.fs_semantics.proofs.ConstructLaws.{parents_of}

-- what holds of all of two lists holds of all of the first, and of all of the second
pub all_ahead : {X : Type 0} (P : X → Type 0) (xs ys : List X) → AllByRecursion P (xs ++ ys) → AllByRecursion P xs
all_ahead P [] ys h = tt
all_ahead P (x ∷ xs) ys h = (h.0, all_ahead P xs ys h.1)

-- what holds of all items of a list holds of all in its back
pub all_behind : {X : Type 0} (P : X → Type 0) (xs ys : List X) → AllByRecursion P (xs ++ ys) → AllByRecursion P ys
all_behind P [] ys h = h
all_behind P (x ∷ xs) ys h = all_behind P xs ys h.1

-- one order after another ends as both in one
then_append : (es : List Program) (xs ys : List ℕ) (o : Outcome) → and_then o (outcome es (xs ++ ys)) ≡ and_then (and_then o (outcome es xs)) (outcome es ys)
then_append es xs ys None = refl
then_append es [] ys (Some t) = refl
then_append es (i ∷ xs) ys (Some t) = then_append es xs ys (run (get_or es i Id) t)

-- the front, then the two, and then the back, end as the whole order does
pub whole_is : (es : List Program) (front back : List ℕ) (a b : ℕ) (t : Tree)
    → and_then (and_then (outcome es front t) (outcome es (a ∷ b ∷ []))) (outcome es back) ≡ outcome es (front ++ a ∷ b ∷ back) t
whole_is es front back a b t = sym (then_append es front (a ∷ b ∷ back) (Some t) ∙ then_append es (a ∷ b ∷ []) back (outcome es front t))

-- where the two leave the same behind, the whole orders end alike
pub ends_alike : (es : List Program) (front back : List ℕ) (a b : ℕ) (t : Tree)
    → and_then (outcome es front t) (outcome es (a ∷ b ∷ [])) ≡ and_then (outcome es front t) (outcome es (b ∷ a ∷ []))
    → outcome es (front ++ a ∷ b ∷ back) t ≡ outcome es (front ++ b ∷ a ∷ back) t
ends_alike es front back a b t same = sym (whole_is es front back a b t) ∙ ap (λ o. and_then o (outcome es back)) same ∙ whole_is es front back b a t

-- cells made of a tree stand for it
pub stand_first : (g : Ground) → IsGround g → IsTree g.tree.now → StandOn g (Some g.tree.now) g.cells
stand_first g is tree = record { cells = is.cells; places = is.places; stands = is.stands; parents = parents_of g.tree.now tree }

-- the front leaves what the cells stand for that were copied and run on
pub stand_ahead : (g : Ground) (x : Exchange) → IsGround g → IsTree g.tree.now → (front : List ℕ) (old new : Cells Plain Bool ℕ) → old ≡ g.cells → front ≡ x.front
    → ((o : Outcome) → StandOn g o old → StandOn g (and_then o (outcome (map program_of g.programs.now) front)) new)
    → StandOn g (outcome (map program_of g.programs.now) x.front g.tree.now) new
stand_ahead g x is tree front old new same ahead runs =
    subst (λ f. StandOn g (outcome (map program_of g.programs.now) f g.tree.now) new) ahead
    (runs (Some g.tree.now) (subst (StandOn g (Some g.tree.now)) (sym same) (stand_first g is tree)))

-- outcomes that are read off cells are what these stand for, so a comparison of them is one of those
pub both_told : {B : Type 0} → ((table : Listed) (s : State) (o u : Outcome) → StandsFor table s o → StandsFor table s u → o ≡ u)
    → (g : Ground) (left right : Cells B Bool ℕ) (o u one other : Outcome) (r : Bool) → StandsFor g.table (plain_state left) one → StandsFor g.table (plain_state right) other
    → StandOn g o left → StandOn g u right → IsTrue r ↔ (one ≡ other) → IsTrue r ↔ (o ≡ u)
both_told same g left right o u one other r told other_told is other_is h =
    let a = same g.table (plain_state left) o one is.stands told in
    let b = same g.table (plain_state right) u other other_is.stands other_told in
    (λ e. a ∙ h.0 e ∙ sym b, λ e. h.1 (sym a ∙ e ∙ b))

-- to compare what is left once the back has run, too, is to compare the whole orders
pub both_wholes : (es : List Program) (front back last : List ℕ) (a b : ℕ) (t : Tree) (r : Bool) → last ≡ back
    → IsTrue r ↔ (and_then (and_then (outcome es front t) (outcome es (a ∷ b ∷ []))) (outcome es last) ≡ and_then (and_then (outcome es front t) (outcome es (b ∷ a ∷ []))) (outcome es last))
    → IsTrue r ↔ (outcome es (front ++ a ∷ b ∷ back) t ≡ outcome es (front ++ b ∷ a ∷ back) t)
both_wholes es front back last a b t r is h =
    let one = whole_is es front last a b t ∙ ap (λ l. outcome es (front ++ a ∷ b ∷ l) t) is in
    let other = whole_is es front last b a t ∙ ap (λ l. outcome es (front ++ b ∷ a ∷ l) t) is in
    (λ e. sym one ∙ h.0 e ∙ other, λ e. h.1 (one ∙ e ∙ sym other))

-- what follows for each value holds of a result that has one
pub if_ok : {X E : Type 0} (r : Result X E) {P Q : X → Type 0} → ((x : X) → P x → Q x) → IfOk r P → IfOk r Q
if_ok (Ok x) f p = f x p
if_ok (Err e) f p = tt

-- Error is all that cells with the error bit stand for
none_is : (table : Listed) (s : State) (o : Outcome) → s.error ≡ true → StandsFor table s o → o ≡ None
none_is table s None e h = refl
none_is table s (Some t) e h = let clash : ◌≡◌ {A = Bool} true false = sym e ∙ h.no_error in cc

-- cells that hold the same tell the same
same_state : {B : Type 0} (a b : Cells B Bool ℕ) → HoldTheSame a b → plain_state a ≡ plain_state b
same_state {B = B} a b same = λ i. plain_state {B = B} (record { present = same.present i; folder = same.folder i; link = same.link i; content = same.content i; error = same.error i })

-- cells that are alike stand for one outcome
pub alike_ends : {B : Type 0} → ((table : Listed) (s : State) (o u : Outcome) → StandsFor table s o → StandsFor table s u → o ≡ u)
    → (table : Listed) (a b : Cells B Bool ℕ) (o u : Outcome) → AreAlike a b → StandsFor table (plain_state a) o → StandsFor table (plain_state b) u → o ≡ u
alike_ends one table a b o u (inl both) h k = none_is table (plain_state a) o both.0 h ∙ sym (none_is table (plain_state b) u both.1 k)
alike_ends one table a b o u (inr same) h k = one table (plain_state b) o u (subst (λ s. StandsFor table s o) (same_state a b same) h) k
