-- From what was fetched of files to what is read of them.
use Rattle.std.proofs.Common.{◌≡◌, inl, inr, ℕ, ◌<◌, ◌^◌, List, [], ◌∷◌, ◌++◌, length, Option, Some, None, Err, refl, sym, ap, subst, subst₂, ◌∙◌}
use Rattle.std.proofs.lemmas.List.{append_assoc}
use Rattle.rh_base.specs.declared.fault.Refusal.{Refusal}
use Rattle.rh_base.specs.declared.fault.Fault.{Fault}
use Rattle.rh_base.specs.declared.fault.Fault.TheVariants.{Refused, Memory}
use Rattle.rh_base.specs.Refused.{IfRefused, IsRefusal}
use Rattle.rh_base.specs.Shelf.{Held, MayBeThere}
use Rattle.command_line.specs.declared.table.InputKind.{InputKind}
use Rattle.command_line.specs.declared.table.Role.{Role}
use Rattle.command_line.specs.Table.{role_row, limit_of, ByRole, Each}
use Rattle.request_files.specs.declared.fetching.Load.{Load}
use Rattle.request_files.specs.declared.fetching.Load.TheVariants as load
use Rattle.request_files.specs.declared.fetching.FilesFault.{FilesFault}
use Rattle.request_files.specs.declared.fetching.FilesFault.TheVariants as fault
use Rattle.request_files.specs.Files.{FailsAt, StandAt, AreRead, FirstTooLong, FirstFailed, NoneMissing, AreShort, IsLonger}
use Rattle.request_files.specs.Loading.{IsLoad, Reads, AreLoads, bytes_in, AreBytesOf, FirstLong}

-- ---- one file after another

-- one file more, behind those so far
one_more : {A B : Type 0} (R : Role → A → B → Type 0) (files : ByRole A) (others : ByRole B) (r : Role) (x : A) (y : B) → Each R files others → R r x y
    → Each R (files ++ (r, x) ∷ []) (others ++ (r, y) ∷ [])
one_more R [] [] r x y is h = (refl, h, tt)
one_more R [] (g ∷ others) r x y is h = absurd is
one_more R (f ∷ files) [] r x y is h = absurd is
one_more R (f ∷ files) (g ∷ others) r x y is h = (is.0, is.1, one_more R files others r x y is.2 h)

-- what was fetched of one file more comes behind what was fetched of the others
pub one_load : (held : Held) (kind : InputKind) (names : ByRole (List ℕ)) (loads : ByRole Load) (r : Role) (name : List ℕ) (l : Load) → AreLoads held kind names loads
    → IsLoad held (limit_of kind r) name l → AreLoads held kind (names ++ (r, name) ∷ []) (loads ++ (r, l) ∷ [])
one_load held kind names loads r name l are is = one_more (λ role. IsLoad held (limit_of kind role)) names loads r name l are is

-- and so do its bytes
pub one_file : (loads : ByRole Load) (files : ByRole (List ℕ)) (r : Role) (l : Load) (bytes : List ℕ) → AreBytesOf loads files → bytes_in l ≡ Some bytes
    → AreBytesOf (loads ++ (r, l) ∷ []) (files ++ (r, bytes) ∷ [])
one_file loads files r l bytes are is = one_more (λ role load b. bytes_in load ≡ Some b) loads files r l bytes are is

-- one file more of all
pub moved : {A : Type 0} (files front rest back : List A) (f : A) → files ≡ front ++ rest → rest ≡ f ∷ back → files ≡ (front ++ f ∷ []) ++ back
moved files front rest back f whole next = whole ∙ ap (λ fs. front ++ fs) next ∙ sym (append_assoc front (f ∷ []) back)

-- what was fetched isn't missing
there : (held : Held) (limit : ℕ) (name : List ℕ) (l : Load) → IsLoad held limit name l → MayBeThere held name
there held limit name load.Longer is = is.0
there held limit name (load.Bytes bytes) is = is.0

-- none of the files of which something was fetched is missing
pub none_missing : (held : Held) (kind : InputKind) (names : ByRole (List ℕ)) (loads : ByRole Load) → AreLoads held kind names loads → NoneMissing held names
none_missing held kind [] loads are = tt
none_missing held kind (f ∷ names) [] are = absurd are
none_missing held kind (f ∷ names) (l ∷ loads) are = (there held (limit_of kind f.0) f.1 l.1 are.1, none_missing held kind names loads are.2)

-- a file that couldn't be read, behind others that aren't missing, is the first that failed
failed_here : (held : Held) (before now : ℕ) (front back : ByRole (List ℕ)) (r : Role) (name n : List ℕ) → NoneMissing held front → n ≡ name
    → FailsAt n held before now → FirstFailed held before now (front ++ (r, name) ∷ back) n
failed_here held before now [] back r name n none same fails = inl (sym same, fails)
failed_here held before now (f ∷ front) back r name n none same fails = inr (none.0, failed_here held before now front back r name n none.1 same fails)

-- a file of which too many bytes were fetched, behind others that are short enough, is the first that is refused
long_here : (front back : ByRole Load) (files : ByRole (List ℕ)) (r : Role) (l : Load) (refusal : Refusal) → AreBytesOf front files → bytes_in l ≡ None
    → IsRefusal 17 0 (role_row r).label refusal → FirstLong (front ++ (r, l) ∷ back) refusal
long_here [] back files r l refusal are none is = inl (none, is)
long_here (f ∷ front) back [] r l refusal are none is = absurd are
long_here (f ∷ front) back (g ∷ files) r l refusal are none is = inr ((g.1, are.1), long_here front back files r l refusal are.2 none is)

-- a file that couldn't be fetched, behind those that were, is the first that failed
pub failed : (kind : InputKind) (limit : ℕ) (names front rest back : ByRole (List ℕ)) (loads : ByRole Load) (r : Role) (name : List ℕ) (held held_then : Held)
    (before then now : ℕ) (e : FilesFault) → names ≡ front ++ rest → rest ≡ (r, name) ∷ back → AreLoads held kind front loads → held_then ≡ held → then ≡ before
    → Reads (IsLoad held_then limit name) (λ n. (n ≡ name) × FailsAt n held_then then now) then now (Err e)
    → Reads (AreLoads held kind names) (FirstFailed held before now names) before now (Err e)
failed kind limit names front rest back loads r name held held_then before then now (fault.Long refusal) whole next are same none h = h
failed kind limit names front rest back loads r name held held_then before then now (fault.Failed n) whole next are same none h =
    subst (λ ns. FirstFailed held before now ns n) (sym (whole ∙ ap (λ ns. front ++ ns) next))
    (failed_here held before now front back r name n (none_missing held kind front loads are) h.0 (subst₂ (λ hs b. FailsAt n hs b now) same none h.1))
failed kind limit names front rest back loads r name held held_then before then now (fault.Memory m) whole next are same none h = h ∙ none

-- the first of which too many bytes were fetched is refused
pub refused : (loads front rest back : ByRole Load) (files : ByRole (List ℕ)) (r : Role) (l : Load) (e : Fault) → loads ≡ front ++ rest → rest ≡ (r, l) ∷ back
    → AreBytesOf front files → IfRefused e (λ x. (bytes_in l ≡ None) × IsRefusal 17 0 (role_row r).label x) → IfRefused e (FirstLong loads)
refused loads front rest back files r l (Refused x) whole next are h =
    subst (λ ls. FirstLong ls x) (sym (whole ∙ ap (λ ls. front ++ ls) next)) (long_here front back files r l x are h.0 h.1)
refused loads front rest back files r l (Memory m) whole next are h = tt

-- ---- all of them

-- the bytes of what was fetched are those that stand there
stand : (held : Held) (limit : ℕ) (name : List ℕ) (l : Load) (bytes : List ℕ) → IsLoad held limit name l → bytes_in l ≡ Some bytes → StandAt held limit name bytes
stand held limit name load.Longer bytes is e = cc
stand held limit name (load.Bytes b) bytes is e = let same : b ≡ bytes = cc in subst (λ x. StandAt held limit name x) same (is.0, is.1, is.2)

-- the bytes of all that was fetched are those of the files
pub are_read : (held : Held) (kind : InputKind) (names : ByRole (List ℕ)) (loads : ByRole Load) (files : ByRole (List ℕ)) → AreLoads held kind names loads
    → AreBytesOf loads files → AreRead held kind names files
are_read held kind [] [] [] is are = tt
are_read held kind [] [] (g ∷ files) is are = absurd are
are_read held kind [] (l ∷ loads) files is are = absurd is
are_read held kind (f ∷ names) [] files is are = absurd is
are_read held kind (f ∷ names) (l ∷ loads) [] is are = absurd are
are_read held kind (f ∷ names) (l ∷ loads) (g ∷ files) is are =
    (are.0 ∙ is.0, stand held (limit_of kind f.0) f.1 l.1 g.1 is.1 are.1, are_read held kind names loads files is.2 are.2)

-- the bytes of a file that was fetched are fewer than a place of four bytes can count
short : (held : Held) (limit : ℕ) (name : List ℕ) (l : Load) (bytes : List ℕ) → IsLoad held limit name l → bytes_in l ≡ Some bytes → length bytes < 2 ^ 32
short held limit name load.Longer bytes is e = cc
short held limit name (load.Bytes b) bytes is e = let same : b ≡ bytes = cc in subst (λ x. length x < 2 ^ 32) same is.3

-- and so are those of all
pub are_short : (held : Held) (kind : InputKind) (names : ByRole (List ℕ)) (loads : ByRole Load) (files : ByRole (List ℕ)) → AreLoads held kind names loads
    → AreBytesOf loads files → AreShort files
are_short held kind [] [] [] is are = tt
are_short held kind [] [] (g ∷ files) is are = absurd are
are_short held kind [] (l ∷ loads) files is are = absurd is
are_short held kind (f ∷ names) [] files is are = absurd is
are_short held kind (f ∷ names) (l ∷ loads) [] is are = absurd are
are_short held kind (f ∷ names) (l ∷ loads) (g ∷ files) is are = (short held (limit_of kind f.0) f.1 l.1 g.1 is.1 are.1, are_short held kind names loads files is.2 are.2)

-- a file of which too many bytes were fetched is too long
longer : (held : Held) (limit : ℕ) (name : List ℕ) (l : Load) → IsLoad held limit name l → bytes_in l ≡ None → IsLonger limit held name
longer held limit name load.Longer is none = is
longer held limit name (load.Bytes bytes) is none = cc

-- and the first that is refused is the first that is too long
pub too_long : (held : Held) (kind : InputKind) (names : ByRole (List ℕ)) (loads : ByRole Load) (refusal : Refusal) → AreLoads held kind names loads
    → FirstLong loads refusal → FirstTooLong held kind names refusal
too_long held kind [] [] refusal is first = first
too_long held kind [] (l ∷ loads) refusal is first = absurd is
too_long held kind (f ∷ names) [] refusal is first = absurd is
too_long held kind (f ∷ names) (l ∷ loads) refusal is (inl h) =
    inl (longer held (limit_of kind f.0) f.1 l.1 is.1 h.0, subst (λ r. IsRefusal 17 0 (role_row r).label refusal) is.0 h.1)
too_long held kind (f ∷ names) (l ∷ loads) refusal is (inr h) =
    inr ((h.0.0, stand held (limit_of kind f.0) f.1 l.1 h.0.0 is.1 h.0.1), too_long held kind names loads refusal is.2 h.1)
