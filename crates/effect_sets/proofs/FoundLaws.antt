-- What a step adds to what was found.
use Rattle.std.proofs.Common.{◌≡◌, Bool, true, false, not, ◌&&◌, ◌||◌, Result, Ok, Err, OnOk, refl, sym, ap, ◌∙◌}
use Rattle.fs_semantics.specs.FileTree.{Path, path_eq, is_root}
use Rattle.fs_semantics.proofs.Trees.{path_eq_same}
use Rattle.effect_sets.specs.Footprints.{Paths, nowhere, Footprint, no_footprint, joined, see}
use Rattle.effect_sets.specs.Members.{with_one}
use Rattle.std.proofs.Math.Bool.{or-false}

-- how disjunctions are nested doesn't matter
or_assoc : (a b c : Bool) → ((a || b) || c) ≡ (a || (b || c))
or_assoc true b c = refl
or_assoc false b c = refl

-- the sides of a disjunction may be exchanged
or_flip : (a b : Bool) → (a || b) ≡ (b || a)
or_flip true true = refl
or_flip true false = refl
or_flip false b = sym (or-false b)

-- no path more changes no set
pub nothing_more : (f : Paths) → (λ q. f q || nowhere q) ≡ f
nothing_more f = λ i q. or-false (f q) i

-- a footprint of nothing changes none
pub joined_none : (f : Footprint) → joined f no_footprint ≡ f
joined_none f = λ i. record { reads = nothing_more f.reads i; writes = nothing_more f.writes i; folders = nothing_more f.folders i; children = nothing_more f.children i }

-- the paths of both sets
abbrev both : Paths → Paths → Paths
both f g q = f q || g q

-- how three sets are put together doesn't matter
all_assoc : (f g h : Paths) → both (both f g) h ≡ both f (both g h)
all_assoc f g h = λ i q. or_assoc (f q) (g q) (h q) i

-- nor how three footprints are
pub joined_assoc : (f g h : Footprint) → joined (joined f g) h ≡ joined f (joined g h)
joined_assoc f g h = λ i. record {
  reads = all_assoc f.reads g.reads h.reads i;
  writes = all_assoc f.writes g.writes h.writes i;
  folders = all_assoc f.folders g.folders h.folders i;
  children = all_assoc f.children g.children h.children i;
}

-- one path more, put in front or behind
pub one_behind : (f : Paths) (p : Path) → with_one p f ≡ (λ q. f q || path_eq q p)
one_behind f p = λ i q. or_flip (path_eq q p) (f q) i

-- a path that isn't the root and isn't sure to be a folder is read
pub seen : (f sure : Paths) (p : Path) → (is_root p || sure p) ≡ false → with_one p f ≡ (λ q. f q || see p sure q)
seen f sure p h = λ i q. (or_flip (path_eq q p) (f q) ∙ ap (λ b. f q || b) (by (path_eq q p) (is_root q || sure q) (λ e. ap (λ r. is_root r || sure r) (path_eq_same q p e) ∙ h))) i
  where
    by : (b x : Bool) → (b ≡ true → x ≡ false) → b ≡ (b && not x)
    by true x k = sym (ap not (k refl))
    by false x k = refl

-- the root, and a path that is sure to be a folder, aren't read
pub unseen : (f sure : Paths) (p : Path) → (is_root p || sure p) ≡ true → f ≡ (λ q. f q || see p sure q)
unseen f sure p h = λ i q. (sym (or-false (f q)) ∙ ap (λ b. f q || b) (by (path_eq q p) (is_root q || sure q) (λ e. ap (λ r. is_root r || sure r) (path_eq_same q p e) ∙ h))) i
  where
    by : (b x : Bool) → (b ≡ true → x ≡ true) → false ≡ (b && not x)
    by true x k = sym (ap not (k refl))
    by false x k = refl

-- what follows from a fact follows where a result is Ok
pub on_ok : {A E P Q : Type 0} (r : Result A E) → (P → Q) → OnOk r P → OnOk r Q
on_ok (Ok x) f h = f h
on_ok (Err e) f h = tt

-- ---- what was found, with another of its four sets

module _ (f : Footprint) where
  -- paths read besides are a footprint more that reads them
  pub with_reads : (r more : Paths) → r ≡ both f.reads more → (record f { reads = r }) ≡ joined f (record no_footprint { reads = more })
  with_reads r more h = λ i. record { reads = h i; writes = sym (nothing_more f.writes) i; folders = sym (nothing_more f.folders) i; children = sym (nothing_more f.children) i }

  -- the same where a path's children matter, too
  pub with_reads_children : (r more c : Paths) (p : Path) → r ≡ both f.reads more → c ≡ with_one p f.children
      → (record f { reads = r; children = c }) ≡ joined f (record no_footprint { reads = more; children = λ q. path_eq q p })
  with_reads_children r more c p h k = λ i. record { reads = h i; writes = sym (nothing_more f.writes) i; folders = sym (nothing_more f.folders) i; children = (k ∙ one_behind f.children p) i }

  -- the same where a path is written, too
  pub with_reads_writes : (r more w : Paths) (p : Path) → r ≡ both f.reads more → w ≡ with_one p f.writes
      → (record f { reads = r; writes = w }) ≡ joined f (record no_footprint { reads = more; writes = λ q. path_eq q p })
  with_reads_writes r more w p h k = λ i. record { reads = h i; writes = (k ∙ one_behind f.writes p) i; folders = sym (nothing_more f.folders) i; children = sym (nothing_more f.children) i }

  -- the same where a path is made sure of, too
  pub with_reads_folders : (r more d : Paths) (p : Path) → r ≡ both f.reads more → d ≡ with_one p f.folders
      → (record f { reads = r; folders = d }) ≡ joined f (record no_footprint { reads = more; folders = λ q. path_eq q p })
  with_reads_folders r more d p h k = λ i. record { reads = h i; writes = sym (nothing_more f.writes) i; folders = (k ∙ one_behind f.folders p) i; children = sym (nothing_more f.children) i }

  -- the same where a path is written and its children matter
  pub with_removed : (r more w c : Paths) (p : Path) → r ≡ both f.reads more → w ≡ with_one p f.writes → c ≡ with_one p f.children
      → (record f { reads = r; writes = w; children = c }) ≡ joined f (record no_footprint { reads = more; writes = λ q. path_eq q p; children = λ q. path_eq q p })
  with_removed r more w c p h k l = λ i. record { reads = h i; writes = (k ∙ one_behind f.writes p) i; folders = sym (nothing_more f.folders) i; children = (l ∙ one_behind f.children p) i }

-- two paths that are looked at, one after the other
pub seen_both : (f g h sure : Paths) (p r : Path) → g ≡ both f (see p sure) → h ≡ both g (see r sure) → h ≡ both f (both (see p sure) (see r sure))
seen_both f g h sure p r a b = b ∙ ap (λ x. both x (see r sure)) a ∙ all_assoc f (see p sure) (see r sure)
