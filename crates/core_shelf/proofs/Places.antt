-- What a change of one place of a shelf in memory makes of what is seen of the shelf.
use Rattle.std.proofs.Common.{◌≡◌, ℕ, Bool, true, false, List, [], ◌∷◌, Vec, Option, None, Some, Result, Ok, Err, OnOk, OnErr, is_some, refl, sym, ◌∙◌, ap, subst}
use Rattle.std.specs.declared.alloc.Global.{Global}
use Rattle.std.specs.List.{list_any}
use Rattle.std.specs.Ordering.{is_eq, nat_cmp}
use Rattle.std.specs.Cmp.Lexicographic.{slice_cmp}
use Rattle.std.specs.BTreeMap as tree
use Rattle.std.specs.BTreeMap.{BTreeMap}
use Rattle.std.specs.BTreeSet as set
use Rattle.std.specs.BTreeSet.{BTreeSet}
use Rattle.std.specs.Str.{bytes_eq}
use Rattle.std.proofs.lemmas.Map.Text.{is_eq-slice_cmp}
use Rattle.disk_trait.specs.declared.memory.Room.{Room}
use Rattle.disk_trait.specs.Disk.{DiskView}
use Rattle.disk_trait.specs.History.{MemDiskView, fresh, disk_view_of}
use Rattle.core_shelf.specs.declared.memory.Place.{Place}
use Rattle.core_shelf.specs.declared.memory.Place.TheVariants.{Here, Out}
use Rattle.core_state.specs.Handing.{SameDisk}
use Rattle.core_shelf.specs.Shelf.{SamePlace, Others, is_among, AreInOrder, Lists, Takes, Marks}
use Rattle.core_shelf.specs.Memory.{disk_at, mem_disk_at, is_out, faults_at, made, place_of, Puts, shelf_of}

-- each disk is as it is
pub same_disk : (disk : DiskView) → SameDisk disk disk
same_disk disk = record { honest = refl; reads = λ area. refl; images = λ t area c. (λ h. h, λ h. h); moment = refl; faults = refl; calls = refl }

-- what a map says of an update is what is said of places
pub puts_one : (id : List ℕ) (place : Option Place) (old new : BTreeMap (List ℕ) Place) → tree.Updates (slice_cmp nat_cmp) old new id place → Puts id place old new
puts_one id place old new update = record {
  here = update.1;
  others = λ other apart. update.2 other (is_eq-slice_cmp id other ∙ apart);
}

-- where none was made, one is made
pub made_none : (room : Room) (place : Option Place) (disk : MemDiskView) → is_some place ≡ false → disk ≡ fresh room → Some (Here disk) ≡ made room place
made_none room None disk none e = ap (λ d. Some (Here d)) e
made_none room (Some place) disk none e = cc

-- a disk that is out has a place, so that putting it back takes no memory
pub puts_back : {T E : Type 0} (r : Result T E) (id : List ℕ) (place : Option Place) (old new : BTreeMap (List ℕ) Place)
    → OnOk r (tree.Updates (slice_cmp nat_cmp) old new id place) → OnErr r (place_of old id ≡ None) → is_out (place_of old id) ≡ true → Puts id place old new
puts_back (Ok x) id place old new ok err out = puts_one id place old new ok
puts_back (Err e) id place old new ok err out =
    let none : is_out (place_of old id) ≡ false = ap (λ p. is_out p) err in
    cc

-- the count of the disk that is here
pub faults_here : (count : ℕ) (place : Option Place) (disk : MemDiskView) → count ≡ faults_at place → place ≡ Some (Here disk) → count ≡ disk.faults
faults_here count place disk e here = e ∙ ap (λ p. faults_at p) here

-- a disk that is made now is the one that is told before
pub same_made : (room : Room) (place : Option Place) → SameDisk (disk_at room place) (disk_at room (made room place))
same_made room None = same_disk _
same_made room (Some place) = same_disk _

-- the disk that was made, where there was none, is the one that was told
pub told_made : (room : Room) (place : Option Place) (disk : MemDiskView) → made room place ≡ Some (Here disk) → mem_disk_at room place ≡ Some disk
told_made room place disk e = told place ∙ ap (λ p. mem_disk_at room p) e
  where
    told : (p : Option Place) → mem_disk_at room p ≡ mem_disk_at room (made room p)
    told None = refl
    told (Some p) = refl

-- what two changes of one place make of the others
pub others_twice : (room : Room) (id : List ℕ) (one two : Option Place) (old mid new : BTreeMap (List ℕ) Place) → Puts id one old mid → Puts id two mid new
    → Others id (λ other. mem_disk_at room (place_of new other) ≡ mem_disk_at room (place_of old other))
others_twice room id one two old mid new first second other apart = ap (λ p. mem_disk_at room p) (second.others other apart ∙ first.others other apart)

module _ (marked : BTreeSet (List ℕ)) (room : Room) (n n' : ℕ) (id : List ℕ) where
  -- a place that is as it was
  same_place : (old new : BTreeMap (List ℕ) Place) (other : List ℕ) → place_of new other ≡ place_of old other → SamePlace (shelf_of marked old room n) (shelf_of marked new room n') other
  same_place old new other e = record {
    disk = subst (λ (p : Option Place). SameDisk (disk_at room (place_of old other)) (disk_at room p)) (sym e) (same_disk _);
    out = ap (λ p. is_out p) e;
  }

  -- the disk that was made, where there was none, is taken out
  pub takes : (old mid new : BTreeMap (List ℕ) Place) (store : MemDiskView) → Puts id (made room (place_of old id)) old mid → place_of mid id ≡ Some (Here store)
      → Puts id (Some (Out store.faults)) mid new → Takes disk_view_of id (shelf_of marked old room n) (shelf_of marked new room n') (Ok store)
  takes old mid new store first here second = record {
    list = λ other. refl;
    others = λ other apart. same_place old new other (second.others other apart ∙ first.others other apart);
    ok = subst (λ (p : Option Place). SameDisk (disk_at room (place_of old id)) (disk_at room p)) (sym first.here ∙ here) (same_made room (place_of old id));
    out = ap (λ p. is_out p) second.here;
    err = tt;
  }

-- two tests that agree find the same
any_same : (f g : List ℕ → Bool) (ids : List (List ℕ)) → ((id : List ℕ) → f id ≡ g id) → list_any f ids ≡ list_any g ids
any_same f g [] same = refl
any_same f g (id ∷ ids) same = rw (same id, any_same f g ids same) refl

-- the ids of the set are those on the list
pub lists : (places : BTreeMap (List ℕ) Place) (room : Room) (n n' : ℕ) (marked : BTreeSet (List ℕ)) (ids : Vec (List ℕ) Global) → ids.items ≡ marked.keys → AreInOrder marked.keys
    → Lists (shelf_of marked places room n) (shelf_of marked places room n') (Ok ids)
lists places room n n' marked ids same ordered = record {
  list = λ other. refl;
  disks = λ other. record { disk = same_disk _; out = refl };
  ordered = subst (λ (xs : List (List ℕ)). AreInOrder xs) (sym same) ordered;
  exact = λ id. ap (λ xs. is_among xs id) same ∙ any_same (bytes_eq id) (λ other. is_eq (slice_cmp nat_cmp id other)) marked.keys (λ other. sym (is_eq-slice_cmp id other));
}

-- an id that the set took in is on the list
pub marks : {T : Type 0} (x : T) (places : BTreeMap (List ℕ) Place) (room : Room) (n n' : ℕ) (id : List ℕ) (old new : BTreeSet (List ℕ)) → set.Updates (slice_cmp nat_cmp) old new id true
    → Marks id (shelf_of old places room n) (shelf_of new places room n') (Ok x)
marks x places room n n' id old new update = record {
  disks = λ other. record { disk = same_disk _; out = refl };
  others = λ other apart. update.2 other (is_eq-slice_cmp id other ∙ apart);
  ok = update.1;
  kept = λ before. update.1;
}
