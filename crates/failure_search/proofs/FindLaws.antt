-- What was found, construct by construct.
use Rattle.std.proofs.Common.{◌≡◌, inl, inr, ℕ, Bool, true, false, cond, List, Some, None, Result, Ok, Err, IfOk, refl, sym, ap, subst, ◌∙◌}
use Rattle.std.specs.FinMap as map
use Rattle.fs_semantics.specs.FileTree.{Path, Entry, Folder, File, Link as LinkTo, Tree}
use Rattle.fs_semantics.specs.Programs as language
use Rattle.fs_semantics.specs.Programs.{Test, Not, Program, Mkdir, Creat, Link, Rm, Cp, If, holds, made, removed, copied, run}
use Rattle.fs_lang.specs.declared.program.Program.TheVariants as program
use Rattle.fs_lang.specs.Meaning.{program_of}
use Rattle.failure_semantics.specs.Failures as model
use Rattle.failure_semantics.specs.Failures.{refusal, Explains, FailsHere, HasNoPlace, StaysThere, HasNoCopy}
use Rattle.failure_semantics.specs.Told.{no_place, not_gone, no_copy}
use Rattle.failure_search.specs.declared.failure.Failure.{Failure}
use Rattle.failure_search.specs.Found.{reason_of, Tells, Finds}

-- a construct that failed by itself, for this reason
pub here : (e : Program) (t : Tree) (r : Failure) (why : model.Reason) → run e t ≡ None → program_of r.construct.now ≡ e → reason_of r.reason ≡ why → Explains e why t
    → (f : model.Failure) × FailsHere e t f × Tells r f
here e t r why fails construct reason explains = (
  record { construct = e; reason = why; tree = t },
  record { construct = refl; tree = refl; fails = fails; reason = explains },
  record { construct = construct; reason = reason },
)

-- an `err` with the reason that it has in a choice is told
pub refused : (t : Tree) (r : Failure) (why : model.Reason) → program_of r.construct.now ≡ language.Err → reason_of r.reason ≡ why → Finds why language.Err t r
refused t r why construct reason c same = (refusal c t, refl, record { construct = construct; reason = reason ∙ same })

-- what was found in the first branch, where the test holds, was found in the choice
pub in_first : (a : Test) (e f : Program) (t : Tree) (r : Failure) → holds a t ≡ true → Finds (model.Needs (Not a)) e t r → (why : model.Reason) → Finds why (If a e f) t r
in_first a e f t r h inner why c same = let k = inner (Some (Not a, t)) refl in (k.0, inl (h, k.1), k.2)

-- and what was found in the second, where it doesn't
pub in_second : (a : Test) (e f : Program) (t : Tree) (r : Failure) → holds a t ≡ false → Finds (model.Needs a) f t r → (why : model.Reason) → Finds why (If a e f) t r
in_second a e f t r h inner why c same = let k = inner (Some (a, t)) refl in (k.0, inr ((λ on. let clash : ◌≡◌ {A = Bool} true false = sym on ∙ h in cc), k.1), k.2)

-- where the test holds, a choice that ends in Error does so in its first branch
pub branch_first : (a : Test) (e f : Program) (t : Tree) → holds a t ≡ true → run (If a e f) t ≡ None → run e t ≡ None
branch_first a e f t h k = ap (λ b. cond b (run e t) (run f t)) (sym h) ∙ k

-- and where it doesn't, in its second
pub branch_second : (a : Test) (e f : Program) (t : Tree) → holds a t ≡ false → run (If a e f) t ≡ None → run f t ≡ None
branch_second a e f t h k = ap (λ b. cond b (run e t) (run f t)) (sym h) ∙ k

-- ---- of the constructs of the code

-- what follows from a property of an Ok result holds of it
pub ok_map : {X E : Type 0} {P Q : X → Type 0} (r : Result X E) → ((x : X) → P x → Q x) → IfOk r P → IfOk r Q
ok_map (Ok x) f h = f x h
ok_map (Err e) f h = tt

-- an `err` with this reason is told
pub found_err : (t : Tree) (r : Failure) (why : model.Reason) → r.construct.now ≡ program.Err → reason_of r.reason ≡ why → Finds why (program_of r.construct.now) t r
found_err t r why is reason = let same = ap program_of is in subst (λ e. Finds why e t r) (sym same) (refused t r why same reason)

-- a folder that couldn't be made is told, with the reason
pub found_mkdir : (t : Tree) (r : Failure) (why : model.Reason) (p : Path) → r.construct.now ≡ program.Mkdir p → run (program_of r.construct.now) t ≡ None → reason_of r.reason ≡ no_place t p
    → (made p Folder t ≡ None → HasNoPlace p (no_place t p) t) → Finds why (program_of r.construct.now) t r
found_mkdir t r why p is none reason law =
    let same = ap program_of is in
    let fails = ap (λ e. run e t) (sym same) ∙ none in
    subst (λ e. Finds why e t r) (sym same) (λ c w. here (Mkdir p) t r (no_place t p) fails same reason (law fails))

-- and so is a file
pub found_creat : (t : Tree) (r : Failure) (why : model.Reason) (p : Path) (content : List ℕ) → r.construct.now ≡ program.Creat p content → run (program_of r.construct.now) t ≡ None → reason_of r.reason ≡ no_place t p
    → ((x : Entry) → made p x t ≡ None → HasNoPlace p (no_place t p) t) → Finds why (program_of r.construct.now) t r
found_creat t r why p content is none reason law =
    let same = ap program_of is in
    let fails = ap (λ e. run e t) (sym same) ∙ none in
    subst (λ e. Finds why e t r) (sym same) (λ c w. here (Creat p content) t r (no_place t p) fails same reason (law (File content) fails))

-- and a link
pub found_link : (t : Tree) (r : Failure) (why : model.Reason) (p : Path) (target : List ℕ) → r.construct.now ≡ program.Link p target → run (program_of r.construct.now) t ≡ None → reason_of r.reason ≡ no_place t p
    → ((x : Entry) → made p x t ≡ None → HasNoPlace p (no_place t p) t) → Finds why (program_of r.construct.now) t r
found_link t r why p target is none reason law =
    let same = ap program_of is in
    let fails = ap (λ e. run e t) (sym same) ∙ none in
    subst (λ e. Finds why e t r) (sym same) (λ c w. here (Link p target) t r (no_place t p) fails same reason (law (LinkTo target) fails))

-- a removal that failed is told, with the reason
pub found_rm : (t : Tree) (r : Failure) (why : model.Reason) (p : Path) → r.construct.now ≡ program.Rm p → run (program_of r.construct.now) t ≡ None → reason_of r.reason ≡ not_gone t p
    → (removed p t ≡ None → StaysThere p (not_gone t p) t) → Finds why (program_of r.construct.now) t r
found_rm t r why p is none reason law =
    let same = ap program_of is in
    let fails = ap (λ e. run e t) (sym same) ∙ none in
    subst (λ e. Finds why e t r) (sym same) (λ c w. here (Rm p) t r (not_gone t p) fails same reason (law fails))

-- and so is a copy
pub found_cp : (t : Tree) (r : Failure) (why : model.Reason) (p q : Path) → r.construct.now ≡ program.Cp p q → run (program_of r.construct.now) t ≡ None → reason_of r.reason ≡ no_copy t p q
    → (copied (map.get t p) q t ≡ None → HasNoCopy p q (no_copy t p q) t) → Finds why (program_of r.construct.now) t r
found_cp t r why p q is none reason law =
    let same = ap program_of is in
    let fails = ap (λ e. run e t) (sym same) ∙ none in
    subst (λ e. Finds why e t r) (sym same) (λ c w. here (Cp p q) t r (no_copy t p q) fails same reason (law fails))
