-- Words make one request.
use Rattle.std.proofs.Common.{◌≡◌, ℕ, Bool, true, false, List, Option, Some, None, refl, sym, ap, subst, ◌∙◌}
use Rattle.clap.specs.Walk.{Text}
use Rattle.clap.specs.Simple.{matches_of}
use Rattle.clap.specs.Walk.{first_of}
use Rattle.std.specs.Prelude.{codes}
use Rattle.fs_lang.specs.PathText.{IsPathText}
use Rattle.wanted_entry.specs.declared.wanted.Wanted.{Wanted}
use Rattle.command_line.specs.declared.table.Ask.{Ask}
use Rattle.command_line.specs.declared.table.Task.TheVariants as task
use Rattle.command_line.specs.declared.request.Request.{Request}
use Rattle.command_line.specs.Table.{has, ask_row}
use Rattle.command_line.specs.Words.{synopsis, IsEntryAt, IsWanted, Makes}

-- a text spells one path
abbrev pub OnePath : Type 0
OnePath = (text : List ℕ) (p q : List (List ℕ)) → IsPathText text p → IsPathText text q → p ≡ q

-- a path and a content tell one entry
one_entry : OnePath → (text : Text) (content : Option Text) (a b : Wanted) → IsEntryAt text content a → IsEntryAt text content b → a ≡ b
one_entry one text content a b is was =
    let path = one text a.path b.path is.names was.names in
    let held = is.holds ∙ sym was.holds in
    λ t. record { path = path t; content = held t }

-- and so it is where they may be given or not
one_wanted : OnePath → (may : Bool) (path content : Option Text) (a b : Option Wanted) → IsWanted may path content a → IsWanted may path content b → a ≡ b
one_wanted one true (Some text) content (Some a) (Some b) is was = ap Some (one_entry one text content a b is was)
one_wanted one true (Some text) content (Some a) None is was = absurd was
one_wanted one true (Some text) content None b is was = absurd is
one_wanted one true None content a b is was = absurd is
one_wanted one false path content None None is was = refl
one_wanted one false path content None (Some b) is was = absurd was
one_wanted one false path content (Some a) b is was = absurd is

-- an entry that is wanted aside
same_plain : (words : List Text) (r s : Request) → Makes words r → Makes words s → ◌≡◌ {A = Request} (record r { wanted = None }) (record s { wanted = None })
same_plain words r s is was =
    let both : ◌≡◌ {A = Option Request} (Some (record r { wanted = None })) (Some (record s { wanted = None })) = sym is.given.plain ∙ was.given.plain in cc

-- words make one request only
pub same_request : OnePath → (words : List Text) (r s : Request) → Makes words r → Makes words s → r ≡ s
same_request one words r s is was =
    let same = same_plain words r s is was in
    let rows = matches_of synopsis words in
    let asked : r.ask ≡ s.ask = ap (λ (q : Request). q.ask) same in
    let wanted = one_wanted one (has task.Want (ask_row s.ask).tasks) (first_of (codes "path") rows) (first_of (codes "content") rows) r.wanted s.wanted
    (subst (λ (a : Ask). IsWanted (has task.Want (ask_row a).tasks) (first_of (codes "path") rows) (first_of (codes "content") rows) r.wanted) asked is.given.wanted)
    was.given.wanted in
    λ t. record (same t) { wanted = wanted t }
