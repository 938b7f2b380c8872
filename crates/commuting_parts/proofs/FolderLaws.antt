-- Lists of steps that begin with folders that they make sure of.
use Rattle.std.proofs.Common.{◌≡◌, ◌⊎◌, inl, inr, List, sym, ap, subst₂, ◌∙◌}
use Rattle.std.specs.Prelude.{IsTrue}
use Rattle.std.specs.BTreeSet.{BTreeSet}
use Rattle.fs_semantics.specs.FileTree.{Path, is_among}
use Rattle.fs_semantics.specs.Programs as model
use Rattle.fs_semantics.specs.Programs.{run}
use Rattle.fs_semantics.specs.Changes.{IsProper}
use Rattle.fs_lang.specs.declared.program.Program.{Program}
use Rattle.fs_lang.specs.Meaning.{program_of}
use Rattle.effect_sets.specs.Footprints.{Footprint, nowhere, footprint, sure_after}
use Rattle.effect_sets.specs.Members.{Lists, members, sets_of}
use Rattle.sure_folders.specs.Folders.{In}
use Rattle.commuting_parts.specs.declared.gathering.Divided.{Divided}
use Rattle.commuting_parts.specs.Runs.{SwapFrom, LeadsTo}
use Rattle.commuting_parts.specs.Prints.{TreeWith, CommuteWith, IsClearIn, AreApartIn, IsPrintOf}
use Rattle.commuting_parts.specs.Parts.{runs, IsDivided}
use Rattle.commuting_parts.proofs.CommuteLaws.{behind_first}

-- a folder of the one set, or one that the program makes sure of
made_sure : (folders sure more : BTreeSet Path) (e : model.Program) (x : Lists) → IsPrintOf e x → sure.keys ≡ x.sure
    → ((p : Path) → IsTrue (members more p) → IsTrue (members folders p) ⊎ IsTrue (members sure p))
    → (p : Path) → In (members more) p → In (members folders) p ⊎ In (sure_after e nowhere) p
made_sure folders sure more e x is keys all p h = elim (all p h) [
  | inl stood ↦ inl stood
  | inr made ↦ inr (ap (λ f. f p) (sym is.sure) ∙ ap (is_among p) (sym keys) ∙ made)
]

-- where the footprints that were found of two programs are apart, those of the programs are
apart_of : (folders : BTreeSet Path) (e f : model.Program) (x y : Lists) → IsPrintOf e x → IsPrintOf f y → AreApartIn (members folders) (sets_of x) (sets_of y)
    → AreApartIn (members folders) (footprint e) (footprint f)
apart_of folders e f x y is is_too a = subst₂ (AreApartIn (members folders)) is.sets is_too.sets a

module _ (commute : (folders : BTreeSet Path) (e f : model.Program) → IsProper e → IsProper f → AreApartIn (members folders) (footprint e) (footprint f) → CommuteWith folders e f)
    (makes : (folders more : BTreeSet Path) (e : model.Program) (g : Footprint) → IsProper e → IsClearIn (members folders) (footprint e) g
    → ((p : Path) → In (members more) p → In (members folders) p ⊎ In (sure_after e nowhere) p) → LeadsTo (TreeWith folders) (TreeWith more) (run e))
    (folders left right behind : BTreeSet Path) (es fs : List Program) (l r : Divided) (divided : IsDivided es l) (divided_too : IsDivided fs r) where
  -- lists commute where the folders they first make sure of are apart, each from the other's rest too, and the rests commute
  pub folders_swap : AreApartIn (members folders) (sets_of l.made_print) (sets_of r.made_print)
      → AreApartIn (members left) (sets_of l.rest_print) (sets_of r.made_print) → AreApartIn (members right) (sets_of r.rest_print) (sets_of l.made_print)
      → (first second third : BTreeSet Path) → first.keys ≡ l.made_print.sure → second.keys ≡ r.made_print.sure → third.keys ≡ r.made_print.sure
      → ((p : Path) → IsTrue (members left p) → IsTrue (members folders p) ⊎ IsTrue (members first p))
      → ((p : Path) → IsTrue (members right p) → IsTrue (members folders p) ⊎ IsTrue (members second p))
      → ((p : Path) → IsTrue (members behind p) → IsTrue (members left p) ⊎ IsTrue (members third p))
      → CommuteWith behind (program_of l.rest) (program_of r.rest) → SwapFrom (TreeWith folders) (runs es) (runs fs)
  folders_swap firsts lefts rights first second third keys keys_too keys_again in_left in_right in_behind rests =
      let d = program_of l.made in
      let m = program_of l.rest in
      let e = program_of r.made in
      let n = program_of r.rest in
      let a = apart_of folders d e l.made_print r.made_print divided.made divided_too.made firsts in
      let b = apart_of left m e l.rest_print r.made_print divided.rest divided_too.made lefts in
      let c = apart_of right n d r.rest_print l.made_print divided_too.rest divided.made rights in
      subst₂ (SwapFrom (TreeWith folders)) (λ i t. sym (divided.whole t) i) (λ i t. sym (divided_too.whole t) i)
      (behind_first (TreeWith folders) (TreeWith left) (TreeWith right) (TreeWith behind) (run d) (run m) (run e) (run n)
      (makes folders left d (footprint e) divided.made.proper a.left (made_sure folders first left d l.made_print divided.made keys in_left))
      (makes folders right e (footprint d) divided_too.made.proper a.right (made_sure folders second right e r.made_print divided_too.made keys_too in_right))
      (makes left behind e (footprint m) divided_too.made.proper b.right (made_sure left third behind e r.made_print divided_too.made keys_again in_behind))
      (commute folders d e divided.made.proper divided_too.made.proper a)
      (commute left m e divided.rest.proper divided_too.made.proper b)
      (commute right n d divided_too.rest.proper divided.made.proper c)
      rests)
