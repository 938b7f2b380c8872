use Rattle.std.proofs.Common.{◌≡◌, ◌||◌, ℕ, List, subst}
use Rattle.std.specs.BTreeMap.{BTreeMap}
use Rattle.fs_semantics.specs.FileTree.{Path, is_among}
use Rattle.effect_sets.specs.Footprints.{Paths}
use Rattle.effect_sets.specs.Members.{is_parent_of}
use Rattle.commute_prune.specs.Numbers.{Extends, AreNumbers}
use Rattle.commute_prune.proofs.NumberLaws.{still_numbers, extends_same}
use Rattle.commute_prune.proofs.numbered.number_sets.Goals as goal

-- the numbers of a set that was lent, later on
later : (m more : BTreeMap Path ℕ) (keys ps : List Path) (ns : List ℕ) → Extends m more → keys ≡ ps → AreNumbers m (λ q. is_among q keys) ns → AreNumbers more (λ q. is_among q ps) ns
later m more keys ps ns x is a = still_numbers m more (λ q. is_among q ps) ns x (subst (λ ks. AreNumbers m (λ q. is_among q ks) ns) is a)

pub returns-clause-sets : goal.returns-clause-sets
returns-clause-sets c =
    let last = c.number_all-6.new.numbers in
    let five : Extends c.number_all-5.new.numbers last = c.in_ok-sure.ensures.extends in
    let four : Extends c.number_all-4.new.numbers last = λ p n h. five p n (c.in_ok-parents.ensures.extends p n h) in
    let three : Extends c.number_all-3.new.numbers last = λ p n h. four p n (c.in_ok-children.ensures.extends p n h) in
    let two : Extends c.number_all-2.new.numbers last = λ p n h. three p n (c.in_ok-folders.ensures.extends p n h) in
    let one : Extends c.number_all.new.numbers last = λ p n h. two p n (c.in_ok-writes.ensures.extends p n h) in
    record {
      reads = later c.number_all.new.numbers last c.reads.result.now.keys c.args.f.now.reads c.in_ok-reads.reads.items one c.reads.ensures c.in_ok-reads.ensures.numbers;
      writes = later c.number_all-2.new.numbers last c.writes.result.now.keys c.args.f.now.writes c.in_ok-writes.writes.items two c.writes.ensures c.in_ok-writes.ensures.numbers;
      folders = later c.number_all-3.new.numbers last c.folders.result.now.keys c.args.f.now.folders c.in_ok-folders.folders.items three c.folders.ensures c.in_ok-folders.ensures.numbers;
      children = later c.number_all-4.new.numbers last c.children.result.now.keys c.args.f.now.children c.in_ok-children.children.items four c.children.ensures c.in_ok-children.ensures.numbers;
      parents = still_numbers c.number_all-5.new.numbers last (λ q. is_parent_of q c.args.f.now.writes || is_parent_of q c.args.f.now.folders) c.in_ok-parents.parents.items five
          (subst (λ (g : Paths). AreNumbers c.number_all-5.new.numbers g c.in_ok-parents.parents.items) (λ i q. c.parents.ensures q i) c.in_ok-parents.ensures.numbers);
      sure = later last last c.sure.result.now.keys c.args.f.now.sure c.in_ok-sure.sure.items (extends_same last) c.sure.ensures c.in_ok-sure.ensures.numbers;
    }
